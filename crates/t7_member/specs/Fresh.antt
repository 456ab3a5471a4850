-- What is new among what comes, in the words of all that came.
use Rattle.std.specs.Prelude.{◌≡◌, ℕ, ◌+◌, ◌⊎◌, List, [], ◌∷◌, Option, Some, None}
use Rattle.t7_base.specs.Listing.{Listing}
use Rattle.t7_base.specs.declared.ids.Channel.{Channel}
use Rattle.t7_base.specs.declared.ids.Channel.TheVariants as channel
use Rattle.t7_base.specs.declared.public.Public.{Public}
use Rattle.t7_eobi.specs.declared.walks.Live.{Live}
use Rattle.t7_eobi.specs.declared.walks.Live.TheVariants.{Beat, Message}
use Rattle.t7_eobi.specs.Datagrams.{lives_of, packet_number}
use Rattle.t7_feed.specs.Arrivals.{Arrival, PacketWindow, Terms, Told, Window, first}
use Rattle.t7_feed.specs.Reached.{Reaches}
use Rattle.t7_feed.specs.Whole.{Buffered, IsBelow}

-- Live message k is new: nothing is reached or it is above what is, it isn't held, and it is in its window or the next after what is reached.
pub record IsNewMessage (listing : Listing) (came : List Arrival) (k : ℕ) (said : Public) : Type 0 where
  pub reached : Option ℕ
  pub is : Reaches listing came reached
  pub above : IsBelow reached k
  pub unheld : Buffered listing came k → ⊥
  pub near : Window listing (Told (Message k said) ∷ came) k ⊎ ((n : ℕ) × (reached ≡ Some n) × (k ≡ n + 1))

-- an item of a live datagram is new: a Heartbeat never is
abbrev pub IsNewItem : Listing → List Arrival → Live → Type 0
IsNewItem listing came (Message k said) = IsNewMessage listing came k said
IsNewItem listing came (Beat last) = ⊥

-- one of the items is new when it comes, the items coming one by one
abbrev pub GivesNew : Listing → List Live → List Arrival → Type 0
GivesNew listing [] came = ⊥
GivesNew listing (live ∷ lives) came = IsNewItem listing came live ⊎ GivesNew listing lives (Told live ∷ came)

-- a datagram counts as fresh: an item of it is new, or it is the first snapshot datagram of its number and in its window
abbrev pub CountsFresh : Terms → Channel → List ℕ → List Arrival → Type 0
CountsFresh terms channel.Live bytes came = GivesNew terms.listing (lives_of terms.layouts bytes) came
CountsFresh terms channel.Snap bytes came = PacketWindow terms.listing came (packet_number terms.layouts bytes) × (first came (packet_number terms.layouts bytes) ≡ None)
