use Rattle.std.proofs.Common.{◌+◌, ◌-◌}
use Rattle.t7_snapshot.specs.Store.{seen}
use Rattle.t7_snapshot.specs.Reading.{fresh, Reads}
use Rattle.t7_snapshot.proofs.assembler.Assembler.read_on.Given as goal

abbrev pub invariant-loop-after : goal.invariant-loop-after
invariant-loop-after l = Reads (seen l.self) (fresh l.self.terms.listing.securities) l.first l.next l.awaited

abbrev pub decreases-loop-after : goal.decreases-loop-after
decreases-loop-after l = l.self.highest + 1 - l.next
