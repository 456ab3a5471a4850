-- The cells of a record, as csv looks them up.
use Rattle.std.proofs.Common.{◌≡◌, ◌<◌, ℕ, zero, suc, List, [], ◌∷◌, Some, None, length, map, refl, ap, arith, get_or}
use Rattle.csv.specs.Records.{field_at}
use Rattle.t7_records.specs.Records.{Record, cell, record_at}

pub cell_found : (row : Record) (at : ℕ) (found : List ℕ) → Some found ≡ field_at row at → found ≡ cell row at
unfolding field_at
cell_found [] at found e = cc e
cell_found (f ∷ fs) zero found e = cc e
cell_found (f ∷ fs) (suc at) found e = cell_found fs at found e

pub cell_missing : (row : Record) (at : ℕ) → None ≡ field_at row at → [] ≡ cell row at
unfolding field_at
cell_missing [] at e = refl
cell_missing (f ∷ fs) zero e = cc e
cell_missing (f ∷ fs) (suc at) e = cell_missing fs at e

-- the record at a place, of values that are seen as records
pub record_of : {X : Type 0} (view : X → Record) (xs : List X) (at : ℕ) (x : X) → at < length xs → x ≡ get_or xs at x → view x ≡ record_at (map view xs) at
record_of view [] at x h e = absurd (omega arith)
record_of view (y ∷ ys) zero x h e = ap view e
record_of view (y ∷ ys) (suc at) x h e = record_of view ys at x (omega arith) e
