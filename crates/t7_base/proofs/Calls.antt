-- The calls of the objects in memory, one by one.
use Rattle.std.proofs.Common.{◌≡◌, ℕ, ◌-◌, List, None, true, false, refl, arith, length}
use Rattle.std.proofs.lemmas.Bool.Decides.{nat_tests}
use Rattle.t7_base.specs.Memory.{SinkState, PassesRoom, after_put, is_next_failing, more, passes_room, up}

-- The test of the room says what it means.
pub passes : (calls bytes count : ℕ) → PassesRoom calls bytes count → passes_room calls bytes count ≡ true
passes calls bytes count h = grind (arith, nat_tests)

pub has_room : (calls bytes count : ℕ) → (PassesRoom calls bytes count → ⊥) → passes_room calls bytes count ≡ false
has_room calls bytes count h = grind (arith, nat_tests)

-- a put without room
pub put_past : (sink : SinkState) (piece : List ℕ) → passes_room sink.calls sink.bytes (length piece) ≡ true
    → after_put sink piece ≡ record sink { written = None; made = up sink.made; faults = up sink.faults }
unfolding after_put
put_past sink piece h = rw h refl

-- a put that is one of those that fail
pub put_failed : (sink : SinkState) (piece : List ℕ) → passes_room sink.calls sink.bytes (length piece) ≡ false → is_next_failing sink.made sink.failing ≡ true
    → after_put sink piece ≡ record sink { calls = sink.calls - 1; made = up sink.made; faults = up sink.faults }
unfolding after_put
put_failed sink piece h f = rw (h, f) refl

-- a put that writes
pub put_done : (sink : SinkState) (piece : List ℕ) → passes_room sink.calls sink.bytes (length piece) ≡ false → is_next_failing sink.made sink.failing ≡ false
    → after_put sink piece ≡ record sink { written = more sink.written piece; calls = sink.calls - 1; bytes = sink.bytes - length piece; made = up sink.made }
unfolding after_put
put_done sink piece h f = rw (h, f) refl
