use Rattle.std.proofs.Common.{◌≡◌, ℕ, ◌+◌, ◌-◌, ◌≤◌, List, length, take}
use Rattle.t7_book.specs.declared.command.Command.{Command}
use Rattle.t7_entry.specs.Treatment.{send_again}
use Rattle.t7_exchange.specs.Maps.{HoldOnly, inputs_of}
use Rattle.t7_exchange.specs.Wires.{Acts}
use Rattle.t7_exchange.proofs.wires.Wires.send_again.Given as goal

abbrev pub invariant-loop-i : goal.invariant-loop-i
invariant-loop-i l = record {
  acts : (accepted : List Command) → Acts accepted l.fn.self l.self (send_again l.moment l.conn (l.after + 1) (take l.i l.range));
  inputs : inputs_of l.self.held ≡ inputs_of l.fn.self.held;
  only : (sessions : List ℕ) → HoldOnly sessions l.fn.self.held → HoldOnly sessions l.self.held;
  room : length l.range - l.i ≤ l.self.spare;
}
