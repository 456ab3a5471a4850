-- What a member owes: the report of its state and its list of orders.
use Rattle.std.specs.Prelude.{◌≡◌, ℕ, ◌+◌, ◌<◌, ◌≤◌, List, [], Option, Some, None}
use Rattle.t7_base.specs.Listing.{Listing}
use Rattle.t7_base.specs.declared.public.Resting.{Resting}
use Rattle.t7_feed.specs.declared.State.{State}
use Rattle.t7_feed.specs.declared.State.TheVariants.{Wait, Sync, Miss, Refused}
use Rattle.t7_book.specs.Acts.{Act, commands_of}
use Rattle.t7_feed.specs.Arrivals.{Arrival, Delivery, Terms, arrivals, EachPrefix, Came, known, Window, PacketWindow}
use Rattle.t7_feed.specs.Cycles.{Section}
use Rattle.t7_feed.specs.Whole.{Whole, Supported}
use Rattle.t7_feed.specs.Reached.{Reaches}
use Rattle.t7_feed.specs.Sending.{book_at}

-- the state shows this number, or none
abbrev pub Shows : State → Option ℕ → Type 0
Shows Wait number = number ≡ None
Shows (Sync n) number = number ≡ Some n
Shows (Miss k) number = (n : ℕ) × (k ≡ n + 1) × (number ≡ Some n)
Shows (Refused q why) number = ⊥

-- a number of at least m is shown
abbrev pub IsFrom : ℕ → Option ℕ → Type 0
IsFrom m None = ⊥
IsFrom m (Some n) = m ≤ n

-- the number is supported, and the list is the book beside it; with no number the list is empty
abbrev pub IsSupportedBook : Terms → List Act → List Arrival → Option ℕ → List Resting → Type 0
IsSupportedBook terms acts came None list = list ≡ []
IsSupportedBook terms acts came (Some n) list = Supported terms.listing came n × (list ≡ book_at terms.listing (commands_of acts) n)

-- a number is shown in sync exactly where it is the greatest that is known; a message that is shown as missing didn't come or isn't in its window
abbrev pub IsInSync : Listing → List Arrival → State → Type 0
IsInSync listing came Wait = Unit {0}
IsInSync listing came (Sync n) = n ≡ known came
IsInSync listing came (Miss k) = (k ≡ known came + 1 → ⊥) × (Came came k → Window listing came k → ⊥)
IsInSync listing came (Refused q why) = ⊥

-- no whole cycle whose first number is in the packet window is at a number above what is shown
abbrev pub CoversAll : Listing → Option ℕ → List Arrival → Type 0
CoversAll listing number came = (m p q : ℕ) (parts : List Section) → Whole listing came m p q parts → PacketWindow listing came p → IsFrom m number

-- what is reached is at most what is shown
abbrev pub ReachesAtMost : Listing → Option ℕ → List Arrival → Type 0
ReachesAtMost listing number came = (r : ℕ) → Reaches listing came (Some r) → IsFrom r number

-- What is shown is never below what is received: where a whole cycle at m with its first number in the packet window came, and each message above m up to j, the first of
-- them in its window, then at least j is shown.
abbrev pub IsNeverBelow : Listing → Option ℕ → List Arrival → Type 0
IsNeverBelow listing number came =
    (m p q j : ℕ) (parts : List Section) → Whole listing came m p q parts → PacketWindow listing came p → m ≤ j →
    ((k : ℕ) → m < k → k ≤ j → Came came k) → (m < j → Window listing came (m + 1)) → IsFrom j number

-- The state and the list after these deliveries of what acts sent: the number that is shown, if there is one, is supported, and the list is the exchange's book
-- beside it; at each prefix of the deliveries neither what was reached nor what a cycle and its messages gave is above it; and it is what is reached now.
pub record Report (terms : Terms) (acts : List Act) (dl : List Delivery) (state : State) (list : List Resting) : Type 0 where
  pub number : Option ℕ
  pub shows : Shows state number
  pub book : IsSupportedBook terms acts (arrivals terms dl) number list
  pub reached : EachPrefix terms (ReachesAtMost terms.listing number) dl
  pub never_below : EachPrefix terms (IsNeverBelow terms.listing number) dl
  pub cycles : EachPrefix terms (CoversAll terms.listing number) dl
  pub sync : IsInSync terms.listing (arrivals terms dl) state
  pub now : Reaches terms.listing (arrivals terms dl) number

-- after some deliveries of what some acts sent, one state and one list are a report
abbrev pub ReportsAreOne : Type 0
ReportsAreOne = (terms : Terms) (acts : List Act) (dl : List Delivery) (state other : State) (list orders : List Resting) →
    Report terms acts dl state list → Report terms acts dl other orders → (state ≡ other) × (list ≡ orders)
