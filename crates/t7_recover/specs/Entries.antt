-- The responses that a session's list has, each under its number.
use Rattle.std.specs.Prelude.{◌≡◌, ℕ, ◌+◌, List, [], ◌∷◌, Some, slice_get}
use Rattle.t7_eti.specs.declared.response.Kept.{Kept}
use Rattle.t7_eti.specs.declared.response.Response.{Response}
use Rattle.t7_eti.specs.declared.response.Response.TheVariants as response

-- a recoverable response stands in the list under its number, where the first has number 1; other responses say nothing of it
abbrev pub IsEntry : List Kept → Response → Type 0
IsEntry list (response.Kept number what) = (n : ℕ) × (number ≡ n + 1) × (slice_get list n ≡ Some what)
IsEntry list other = Unit {0}

-- each of the recoverable ones among them does
abbrev pub AreEntries : List Kept → List Response → Type 0
AreEntries list [] = Unit {0}
AreEntries list (said ∷ more) = IsEntry list said × AreEntries list more
