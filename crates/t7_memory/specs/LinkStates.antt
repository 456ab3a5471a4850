-- A link in memory: what it holds, has taken and has noted.
use Rattle.std.specs.Prelude.{◌≡◌, ℕ, ◌<◌, ◌≤◌, min, List, [], ◌∷◌, length, take, drop, slice_get, Option, None, Some}
use Rattle.t7_memory.specs.declared.cut.Cut.{Cut}
use Rattle.t7_memory.specs.Rooms.{RoomState}
use Rattle.t7_net.specs.Links.{LinkAsk, LinkSent}
use Rattle.t7_net.specs.declared.link.LinkEvent.{LinkEvent}
use Rattle.t7_net.specs.declared.link.LinkEvent.TheVariants as event
use Rattle.t7_net.specs.declared.link.LinkItem.{LinkItem}
use Rattle.t7_net.specs.declared.link.LinkItem.TheVariants as item

-- a link in memory: the listens and dials, the events taken, what was sent, the events that are left, the dials that succeeded, and the room
pub record LinkState : Type 0 where
  pub asked : Option (List LinkAsk)
  pub events : List LinkItem
  pub sent : Option (List LinkSent)
  pub left : List LinkItem
  pub dials : ℕ
  pub room : RoomState

-- the events without the empty pieces of bytes at their front
abbrev pub trimmed : List LinkItem → List LinkItem
trimmed [] = []
trimmed (item.Bytes conn [] ∷ items) = trimmed items
trimmed (first ∷ items) = first ∷ items

-- What a call of `next` that didn't fail found, and the events that are left then: the first of those that were left, or of its bytes as many as fit; where none
-- was left it is Quiet.
abbrev pub Takes : List LinkItem → LinkEvent → List ℕ → List LinkItem → Type 0
Takes [] found into left = (found ≡ event.Quiet) × (left ≡ [])
Takes (item.Opened conn ∷ items) found into left = (found ≡ event.Opened conn) × (left ≡ trimmed items)
Takes (item.Closed conn ∷ items) found into left = (found ≡ event.Closed conn) × (left ≡ trimmed items)
Takes (item.Quiet ∷ items) found into left = (found ≡ event.Quiet) × (left ≡ trimmed items)
Takes (item.Bytes conn bytes ∷ items) found into left =
    let count = min (length bytes) (length into) in
    (found ≡ event.Bytes conn count) × (take count into ≡ take count bytes) × (left ≡ trimmed (item.Bytes conn (drop count bytes) ∷ items))

-- the event that was cut out of an item: the whole of it or a piece of its bytes; where there is no item it is Quiet
abbrev pub piece_of : Option LinkItem → ℕ → ℕ → LinkItem
piece_of None start count = item.Quiet
piece_of (Some (item.Bytes conn bytes)) start count = item.Bytes conn (take count (drop start bytes))
piece_of (Some other) start count = other

-- the event that was cut out of the items at a place
abbrev pub cut_of : List LinkItem → Cut → LinkItem
cut_of items cut = piece_of (slice_get items cut.at) cut.start cut.count

-- the items behind so many bytes of the first
abbrev pub behind : ℕ → List LinkItem → List LinkItem
behind start (item.Bytes conn bytes ∷ items) = item.Bytes conn (drop start bytes) ∷ items
behind start items = items

-- anything is left of an item of which so many bytes were taken
abbrev pub IsLeft : LinkItem → ℕ → Type 0
IsLeft (item.Bytes conn bytes) start = start < length bytes
IsLeft other start = Unit {0}

-- the bytes that an event gives
abbrev pub given_by : LinkEvent → ℕ
given_by (event.Bytes conn count) = count
given_by other = 0

-- what is found in an item of which so many bytes were taken
abbrev pub FoundIn : LinkItem → ℕ → LinkEvent → List ℕ → Type 0
FoundIn (item.Opened conn) start found into = found ≡ event.Opened conn
FoundIn (item.Closed conn) start found into = found ≡ event.Closed conn
FoundIn item.Quiet start found into = found ≡ event.Quiet
FoundIn (item.Bytes conn bytes) start found into =
    let count = min (length (drop start bytes)) (length into) in
    (found ≡ event.Bytes conn count) × (take count into ≡ take count (drop start bytes)) × (1 ≤ count)
