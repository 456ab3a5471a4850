-- The heartbeat rule of a session.
use Rattle.std.specs.Prelude.{ℕ, ◌-◌, ◌*◌, if◌then◌else◌, nat_le, not, is_some, min, max, Bool, true, false, Option, List, [], ◌∷◌}
use Rattle.t7_session.specs.declared.session.Beat.{Beat}
use Rattle.t7_session.specs.declared.session.Beat.TheVariants.{Nothing, Send, Close}
use Rattle.t7_session.specs.Held.{Held}

-- the interval that a HeartBtInt asks for, in milliseconds: at least 100, at most 60,000
abbrev pub interval_of : ℕ → ℕ
interval_of heart = max 100 (min heart 60_000)

-- the same in nanoseconds
abbrev pub nanoseconds : ℕ → ℕ
nanoseconds milliseconds = 1_000_000 * milliseconds

-- what a session with this interval, whose last receipt and last sending were at these moments, has to do at a moment: it is closed
-- two intervals after the last receipt, else it sends one after the last sending; with no session there is nothing to do
abbrev pub beat_by : Option ℕ → ℕ → ℕ → ℕ → ℕ → Beat
beat_by session heart received sent moment =
    if not (is_some session) then Nothing else
    if nat_le (2 * nanoseconds heart) (moment - received) then Close else
    if nat_le (nanoseconds heart) (moment - sent) then Send else Nothing

-- what a connection has to do at a moment
abbrev pub beat_of : Held → ℕ → Beat
beat_of held moment = beat_by held.session held.heart held.received held.sent moment

-- no bytes
abbrev pub is_empty : List ℕ → Bool
is_empty [] = true
is_empty (x ∷ xs) = false
