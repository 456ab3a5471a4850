use Rattle.std.proofs.Common.{ap, ◌∙◌}
use Rattle.t7_entry.specs.ByNumber.{insert}
use Rattle.t7_serve.proofs.Counted.{rises_from, was_put}
use Rattle.t7_serve.proofs.counts.Counts.set.Goals as goal

pub returns : goal.returns
returns c =
    was_put c.self.inside.counts.entries c.insert.new.self.entries c.args.conn c.args.count c.self.invariant c.insert.ensures.ordered
    c.in_ok-insert.ensures.updates.0
    ∙ ap (λ m. insert m c.args.conn c.args.count) c.self.view_is

pub invariant_of-self-2 : goal.invariant_of-self-2
invariant_of-self-2 c = rises_from c.insert.new.self.entries c.insert.ensures.ordered
