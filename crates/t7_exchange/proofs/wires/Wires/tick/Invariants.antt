use Rattle.std.proofs.Common.{ℕ, ◌-◌, ◌≤◌, List, length, take}
use Rattle.t7_book.specs.declared.command.Command.{Command}
use Rattle.t7_entry.specs.ByNumber.{Rises}
use Rattle.t7_entry.specs.Events.{tick_each}
use Rattle.t7_exchange.specs.Maps.{HoldOnly, Stays, inputs_of}
use Rattle.t7_exchange.specs.Wires.{Acts}
use Rattle.t7_exchange.proofs.wires.Wires.tick.Given as goal

abbrev pub invariant-loop-conn : goal.invariant-loop-conn
invariant-loop-conn l = record {
  acts : (accepted : List Command) → Acts accepted l.fn.self l.self (tick_each l.moment (inputs_of l.fn.self.held) (take l.conn-index l.conn-items));
  stays : Stays l.fn.self.held l.self.held;
  rises : Rises l.self.held;
  only : (sessions : List ℕ) → HoldOnly sessions l.fn.self.held → HoldOnly sessions l.self.held;
  room : length l.conn-items - l.conn-index ≤ l.self.spare;
}
