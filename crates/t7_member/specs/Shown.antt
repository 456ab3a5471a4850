-- What the status of a member says of what came, whatever it was.
use Rattle.std.specs.Prelude.{◌≡◌, ◌≢◌, ℕ, ◌+◌, ◌≤◌, List}
use Rattle.t7_base.specs.Listing.{Listing}
use Rattle.t7_feed.specs.declared.State.{State}
use Rattle.t7_feed.specs.declared.State.TheVariants.{Wait, Sync, Miss, Refused}
use Rattle.t7_feed.specs.Arrivals.{Arrival, Came, EachMoment, known, PacketWindow, Window}
use Rattle.t7_feed.specs.Cycles.{Section}
use Rattle.t7_feed.specs.Whole.{Supported, Whole}
use Rattle.t7_member.specs.Keeping.{Fits}

-- each whole cycle at q or above whose first number was in its packet window has orders that misfit
abbrev pub HasMisfits : Listing → ℕ → List Arrival → Type 0
HasMisfits listing q came = (m p last : ℕ) (parts : List Section) → q ≤ m → Whole listing came m p last parts → PacketWindow listing came p → Fits listing.securities parts → ⊥

-- What a state says of what came: in sync, its number is supported and is the greatest known; missing k, the number before it is supported and isn't the greatest
-- known, and k didn't come or isn't in its window; waiting, no whole cycle whose orders fit came in its packet window; refused at q, none at q or above did.
abbrev pub IsShownOf : Listing → List Arrival → State → Type 0
IsShownOf listing came Wait = EachMoment (HasMisfits listing 0) came
IsShownOf listing came (Sync n) = Supported listing came n × (n ≡ known came)
IsShownOf listing came (Miss k) = (n : ℕ) × (k ≡ n + 1) × Supported listing came n × (n ≢ known came) × (Came came k → Window listing came k → ⊥)
IsShownOf listing came (Refused q why) = EachMoment (HasMisfits listing q) came
