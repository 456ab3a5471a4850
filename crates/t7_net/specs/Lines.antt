-- What the lines were asked, took and sent.
use Rattle.std.specs.Prelude.{ℕ, ◌≤◌, List, [], ◌∷◌, Bool, take}
use Rattle.t7_base.specs.declared.ids.Feed.{Feed}
use Rattle.t7_net.specs.declared.line.Received.{Received}
use Rattle.t7_net.specs.declared.line.Received.TheVariants as received
use Rattle.t7_net.specs.declared.line.LineItem.{LineItem}
use Rattle.t7_net.specs.declared.line.LineItem.TheVariants as item

-- a bind: its feed, its address, and whether it is for listening
pub record Bind : Type 0 where
  pub feed : Feed
  pub address : List ℕ
  pub listen : Bool

-- a datagram that was sent on a feed
pub record Casting : Type 0 where
  pub feed : Feed
  pub bytes : List ℕ

-- what a call that answered so took: a datagram, or the front of it that fitted, stands at the front of what it was lent
abbrev pub line_taken : Received → List ℕ → List LineItem
line_taken (received.Datagram feed count) into = item.Datagram feed (take count into) ∷ []
line_taken received.Quiet into = item.Quiet ∷ []
line_taken received.Failed into = []

-- a datagram, or the front of it, fits
abbrev pub Fits : Received → ℕ → Type 0
Fits (received.Datagram feed count) room = count ≤ room
Fits _ room = Unit {0}
