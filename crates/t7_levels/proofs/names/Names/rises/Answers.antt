use Rattle.std.proofs.Common.{subst}
use Rattle.t7_levels.specs.Named.{Rises}
use Rattle.t7_levels.proofs.HoleLemmas.{standing_rises}
use Rattle.t7_levels.proofs.names.Names.rises.Goals as goal

pub returns : goal.returns
returns g c = subst (Rises g.K.Ord.cmp) c.self.view_is (standing_rises g.K.Ord.cmp c.self.inside.entries.items c.self.invariant.rises)
