-- Lines that are printed in three doings.
use Rattle.std.proofs.Common.{◌≡◌, ℕ, List, ◌++◌, Option, Result, Ok, Err, sym, subst}
use Rattle.t7_base.specs.Outside.{Grew}
use Rattle.t7_base.proofs.Grown.{grew_as}
use Rattle.t7_outcome.specs.declared.ending.Stop.{Stop}
use Rattle.t7_outcome.specs.declared.ending.Stop.TheVariants.{WriteFault}
use Rattle.t7_outcome.specs.Steps.{Prints}
use Rattle.t7_outcome.proofs.Printing.{printed_both, printed_first}

-- two doings that were whole are one
pub printed_as : {T U : Type 0} (p q : Option (List ℕ)) (lines : List (List ℕ)) (first : Result T Stop) (x : T) (second : Result U Stop) (y : U) → first ≡ Ok x → second ≡ Ok y
    → Grew p q (Prints lines first) → Grew p q (Prints lines second)
printed_as {T} {U} p q lines first x second y is same front =
    grew_as p q (Prints lines first) (Prints lines second) front
    (λ w one. subst (λ (r : Result U Stop). Prints lines r w) (sym same) (subst (λ (r : Result T Stop). Prints lines r w) is one))

pub cut_as : {T U : Type 0} (p q : Option (List ℕ)) (lines : List (List ℕ)) (first : Result T Stop) (second : Result U Stop) → first ≡ Err WriteFault → second ≡ Err WriteFault
    → Grew p q (Prints lines first) → Grew p q (Prints lines second)
cut_as {T} {U} p q lines first second is same front =
    grew_as p q (Prints lines first) (Prints lines second) front
    (λ w one. subst (λ (r : Result U Stop). Prints lines r w) (sym same) (subst (λ (r : Result T Stop). Prints lines r w) is one))

-- the second of three was cut off
pub printed_second : {T U V : Type 0} (p q o : Option (List ℕ)) (one two three : List (List ℕ)) (first : Result T Stop) (x : T) (second : Result U Stop) (end : Result V Stop)
    → first ≡ Ok x → second ≡ Err WriteFault → end ≡ Err WriteFault → Grew p q (Prints one first) → Grew q o (Prints two second)
    → Grew p o (Prints (one ++ (two ++ three)) end)
printed_second p q o one two three first x second end is cut ended front back =
    printed_both p q o one (two ++ three) first x end is front (printed_first q o two three second WriteFault end cut ended back)

-- the first two of three were whole
pub printed_third : {T U V : Type 0} (p q o s : Option (List ℕ)) (one two three : List (List ℕ)) (first : Result T Stop) (x : T) (second : Result U Stop) (y : U) (end : Result V Stop)
    → first ≡ Ok x → second ≡ Ok y → Grew p q (Prints one first) → Grew q o (Prints two second) → Grew o s (Prints three end)
    → Grew p s (Prints (one ++ (two ++ three)) end)
printed_third p q o s one two three first x second y end is then front middle back =
    printed_both p q s one (two ++ three) first x end is front (printed_both q o s two three second y end then middle back)
