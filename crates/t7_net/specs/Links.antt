-- What a link was asked, took and sent.
use Rattle.std.specs.Prelude.{◌≡◌, ℕ, ◌+◌, ◌≤◌, List, [], ◌∷◌, Bool, Option, take}
use Rattle.t7_net.specs.declared.link.LinkEvent.{LinkEvent}
use Rattle.t7_net.specs.declared.link.LinkEvent.TheVariants as event
use Rattle.t7_net.specs.declared.link.LinkItem.{LinkItem}
use Rattle.t7_net.specs.declared.link.LinkItem.TheVariants as item

-- a listen with its address and whether it succeeded, or a dial with its address and the number of its connection, where it succeeded
pub data LinkAsk : Type 0 where
  Listened : (address : List ℕ) (made : Bool) → LinkAsk
  Dialed : (address : List ℕ) (conn : Option ℕ) → LinkAsk

-- bytes that were sent on a connection, or its close
pub data LinkSent : Type 0 where
  Gave : (conn : ℕ) (bytes : List ℕ) → LinkSent
  Shut : (conn : ℕ) → LinkSent

-- what a call that answered so took: a piece of bytes stands at the front of what it was lent
abbrev pub link_taken : LinkEvent → List ℕ → List LinkItem
link_taken (event.Opened conn) into = item.Opened conn ∷ []
link_taken (event.Bytes conn count) into = item.Bytes conn (take count into) ∷ []
link_taken (event.Closed conn) into = item.Closed conn ∷ []
link_taken event.Quiet into = item.Quiet ∷ []
link_taken event.Failed into = []

-- a piece of bytes isn't empty, and fits
abbrev pub IsPiece : LinkEvent → ℕ → Type 0
IsPiece (event.Bytes conn count) room = (1 ≤ count) × (count ≤ room)
IsPiece _ room = Unit {0}

-- a connection that was opened got the number after the last one, and no other event gives a number
abbrev pub Numbers : LinkEvent → ℕ → ℕ → Type 0
Numbers (event.Opened conn) old new = (conn ≡ old + 1) × (new ≡ conn)
Numbers _ old new = new ≡ old
