use Rattle.std.proofs.Common.{ap, ◌∙◌}
use Rattle.t7_entry.specs.ByNumber.{remove}
use Rattle.t7_serve.proofs.Counted.{rises_from, was_taken}
use Rattle.t7_serve.proofs.counts.Counts.remove.Goals as goal

pub returns : goal.returns
returns c = was_taken c.self.inside.counts.entries c.remove.new.self.entries c.args.conn c.self.invariant c.remove.ensures.ordered c.remove.ensures.updates.0
    ∙ ap (λ m. remove m c.args.conn) c.self.view_is

pub invariant_of-self : goal.invariant_of-self
invariant_of-self c = rises_from c.remove.new.self.entries c.remove.ensures.ordered
