use Rattle.std.proofs.Common.{◌≡◌, ℕ, ◌-◌, ◌≤◌, List, length, take}
use Rattle.t7_book.specs.declared.command.Command.{Command}
use Rattle.t7_entry.specs.Treatment.{deliver}
use Rattle.t7_exchange.specs.Maps.{HoldOnly, inputs_of}
use Rattle.t7_exchange.specs.Wires.{Acts}
use Rattle.t7_exchange.proofs.wires.Wires.deliver.Given as goal

abbrev pub invariant-loop-one : goal.invariant-loop-one
invariant-loop-one l = record {
  acts : (accepted : List Command) → Acts accepted l.fn.self l.self (deliver l.moment (take l.one-index l.stored));
  inputs : inputs_of l.self.held ≡ inputs_of l.fn.self.held;
  only : (sessions : List ℕ) → HoldOnly sessions l.fn.self.held → HoldOnly sessions l.self.held;
  room : length l.stored - l.one-index ≤ l.self.spare;
}
