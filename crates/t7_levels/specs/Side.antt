-- The orders from the first of a side on, and orders of different names.
use Rattle.std.specs.Prelude.{◌≢◌, Bool, if◌then◌else◌, List, [], ◌∷◌}
use Rattle.t7_levels.specs.Chain.{Each}

-- the list from the first that passes the test on
abbrev pub from_first : {X : Type 0} → (X → Bool) → List X → List X
from_first p [] = []
from_first p (x ∷ xs) = if p x then x ∷ xs else from_first p xs

-- no two orders have one name
abbrev pub Once : {K T : Type 0} → (T → K) → List T → Type 0
Once name [] = Unit {0}
Once name (x ∷ xs) = Each (λ y. name y ≢ name x) xs × Once name xs
