-- The two parts of what order entry keeps of a connection.
use Rattle.std.specs.Prelude.{◌≡◌, ℕ, None}
use Rattle.t7_entry.specs.ByNumber.{get}
use Rattle.t7_entry.specs.State.{State, line_of}

-- a connection on which nothing may come has no line
abbrev pub ArePaired : State → Type 0
ArePaired state = (conn : ℕ) → get state.inputs conn ≡ None → line_of state.core conn ≡ None
