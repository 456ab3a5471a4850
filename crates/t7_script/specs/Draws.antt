-- The generator of the drill.
use Rattle.std.specs.Prelude.{ℕ, ◌+◌, ◌*◌, ◌/◌, ◌%◌, ◌^◌}

-- the state after a draw
unfoldable pub next_state : ℕ → ℕ
next_state x = (x * 6_364_136_223_846_793_005 + 1_442_695_040_888_963_407) % 2 ^ 64

-- what a draw from k numbers gives in a state
abbrev pub drawn : ℕ → ℕ → ℕ
drawn k x = (next_state x / 2 ^ 33) % k
