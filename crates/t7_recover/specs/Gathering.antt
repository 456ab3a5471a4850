-- What becomes of a list of responses, of which the first has number 1, when one is offered to it under its number.
use Rattle.std.specs.Prelude.{ℕ, ◌+◌, ◌==◌, if◌then◌else◌, nat_le, List, [], ◌∷◌, ◌++◌, length}
use Rattle.t7_eti.specs.declared.response.Kept.{Kept}
use Rattle.t7_recover.specs.declared.gathered.Offered.{Offered}
use Rattle.t7_recover.specs.declared.gathered.Offered.TheVariants.{Ahead, Next, Old}

-- one of a number that the list has is old, the one behind the last is the next, and any other is ahead of that
abbrev pub offered_as : List Kept → ℕ → Offered
offered_as list number = if nat_le number (length list) then Old else if number == length list + 1 then Next else Ahead

-- the next is appended, and any other changes nothing
abbrev pub gathered_with : List Kept → ℕ → Kept → List Kept
gathered_with list number what = if number == length list + 1 then list ++ what ∷ [] else list
