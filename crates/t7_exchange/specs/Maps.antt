-- Open connections by their numbers, as what each session holds; and its two parts, as order entry sees them.
use Rattle.std.specs.Prelude.{◌≡◌, ℕ, Contains, List, Option, Some, None, if◌then◌else◌, map, ◌++◌, take, max}
use Rattle.t7_session.specs.Held.{Held}
use Rattle.t7_session.specs.Heartbeats.{is_empty}
use Rattle.t7_entry.specs.ByNumber.{ByNumber, get, insert}
use Rattle.std.specs.List.{find}
use Rattle.std.specs.Option.{option_map}
use Rattle.t7_entry.specs.State.{Input, Line}
use Rattle.t7_entry.specs.Treatment.{holds}

-- a value changed by a function, where it is there
abbrev pub changed_at : {X : Type 0} → ByNumber X → ℕ → (X → X) → Option X → ByNumber X
changed_at m k f (Some x) = insert m k (f x)
changed_at m k f None = m

-- the value at a number changed by a function, where there is one
abbrev pub changed : {X : Type 0} → ByNumber X → ℕ → (X → X) → ByNumber X
changed m k f = changed_at m k f (get m k)

-- a part of each value
abbrev pub parts : {X Y : Type 0} → (X → Y) → ByNumber X → ByNumber Y
parts {X} {Y} f m = map {B = ℕ × Y} (λ (e : ℕ × X). (e.0, f e.1)) m

-- what a session holds of its line
abbrev pub line_part : Held → Line
line_part h = record { session = h.session; next = h.next; heart = h.heart; sent = h.sent }

-- what a session holds of what has come
abbrev pub input_part : Held → Input
input_part h = record { untreated = h.untreated; received = h.received }

-- the sessions of the open connections
abbrev pub lines_of : ByNumber Held → ByNumber Line
lines_of m = parts line_part m

-- what has come on the open connections
abbrev pub inputs_of : ByNumber Held → ByNumber Input
inputs_of m = parts input_part m

-- what a session holds after it took these first bytes of a piece
abbrev pub fed : List ℕ → ℕ → ℕ → Held → Held
fed piece count now held = record held { untreated = held.untreated ++ take count piece; received = if is_empty piece then held.received else max held.received now }

-- the first connection that holds a session
abbrev pub holder_in : ℕ → ByNumber Held → Option ℕ
holder_in session m = option_map (λ (e : ℕ × Held). e.0) (find (λ (e : ℕ × Held). holds session e.1.session) m)

-- a session, if there is one, is one of these
abbrev pub IsOneOf : List ℕ → Option ℕ → Type 0
IsOneOf sessions None = Unit {0}
IsOneOf sessions (Some session) = Contains sessions session

-- so is that of a connection, if it is open
abbrev pub HoldsOneOf : List ℕ → Option Held → Type 0
HoldsOneOf sessions None = Unit {0}
HoldsOneOf sessions (Some h) = IsOneOf sessions h.session

-- so is that of each open connection
pub record HoldOnly (sessions : List ℕ) (m : ByNumber Held) : Type 0 where
  pub each : (conn : ℕ) → HoldsOneOf sessions (get m conn)

-- what has come on a connection that is still open is what had come
abbrev pub IsStill : Option Held → Option Held → Type 0
IsStill was None = Unit {0}
IsStill was (Some h) = option_map input_part was ≡ Some (input_part h)

-- so it is on each that is still open, and no other was opened
pub record Stays (old new : ByNumber Held) : Type 0 where
  pub each : (conn : ℕ) → IsStill (get old conn) (get new conn)
