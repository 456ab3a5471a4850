-- The lines in memory: what they hold, have taken and have noted.
use Rattle.std.specs.Prelude.{◌≡◌, ℕ, min, List, [], ◌∷◌, length, take, Option, None, Some}
use Rattle.t7_memory.specs.Rooms.{RoomState}
use Rattle.t7_net.specs.Lines.{Bind, Casting}
use Rattle.t7_net.specs.declared.line.LineItem.{LineItem}
use Rattle.t7_net.specs.declared.line.LineItem.TheVariants as line
use Rattle.t7_net.specs.declared.line.Received.{Received}
use Rattle.t7_net.specs.declared.line.Received.TheVariants as received

-- the lines in memory: the binds, the receipts taken, what was cast, the receipts that are left, and the room
pub record LinesState : Type 0 where
  pub asked : Option (List Bind)
  pub taken : List LineItem
  pub cast : Option (List Casting)
  pub left : List LineItem
  pub room : RoomState

-- What a call of `receive` that didn't fail found, where this is the first of the receipts that were left: the datagram, or the first of its bytes that fit; where
-- none was left it is Quiet.
abbrev pub Receives : Option LineItem → Received → List ℕ → Type 0
Receives None found into = found ≡ received.Quiet
Receives (Some line.Quiet) found into = found ≡ received.Quiet
Receives (Some (line.Datagram feed bytes)) found into =
    let count = min (length bytes) (length into) in
    (found ≡ received.Datagram feed count) × (take count into ≡ take count bytes)

-- what stands as taken for a receipt of which so many bytes fitted; where there is none it is Quiet
abbrev pub cut_receipt : Option LineItem → ℕ → LineItem
cut_receipt None count = line.Quiet
cut_receipt (Some line.Quiet) count = line.Quiet
cut_receipt (Some (line.Datagram feed bytes)) count = line.Datagram feed (take count bytes)

-- what was taken of the receipts, of which so many bytes fitted each
abbrev pub receipts_of : List LineItem → List ℕ → List LineItem
receipts_of items [] = []
receipts_of [] (count ∷ counts) = line.Quiet ∷ receipts_of [] counts
receipts_of (first ∷ items) (count ∷ counts) = cut_receipt (Some first) count ∷ receipts_of items counts
