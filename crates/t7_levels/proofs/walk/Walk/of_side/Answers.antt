use Rattle.std.specs.Prelude.{◌==◌}
use Rattle.t7_levels.proofs.SidedLemmas.{sided_at}
use Rattle.t7_levels.proofs.walk.Walk.of_side.Goals as goal

pub invariant_of-result : goal.invariant_of-result
invariant_of-result g c = (sided_at (λ v. g.T.Ranked.number_of v == c.args.side) c.args.levels.now.items c.first_of.result c.first_of.ensures c.apart.ensures).0

pub returns : goal.returns
returns g c = (sided_at (λ v. g.T.Ranked.number_of v == c.args.side) c.args.levels.now.items c.first_of.result c.first_of.ensures c.apart.ensures).1
