-- Tests of a message, one after another, each with the reason of the Reject where it is the first that fails.
use Rattle.std.specs.Prelude.{◌≡◌, Bool, true, false, List, [], ◌∷◌, ◌++◌}
use Rattle.t7_eti.specs.declared.reason.Reason.{Reason}

-- a test: whether a message fails it, and the reason of its Reject where it is the first that fails
abbrev pub Test : Type 0
Test = Bool × Reason

-- each of these tests passes
abbrev pub AllPass : List Test → Type 0
AllPass [] = Unit {0}
AllPass (t ∷ ts) = (t.0 ≡ false) × AllPass ts

-- one of these tests fails, each before it passes, and this is its reason
pub record IsFirstFailing (ts : List Test) (why : Reason) : Type 0 where
  pub before : List Test
  pub after : List Test
  pub split : ts ≡ before ++ (true, why) ∷ after
  pub passed : AllPass before
