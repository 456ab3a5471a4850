use Rattle.std.proofs.Common.{subst}
use Rattle.t7_levels.specs.Index.{Orders}
use Rattle.t7_levels.specs.Side.{Once}
use Rattle.t7_levels.proofs.SidedLemmas.{names_once}
use Rattle.t7_levels.proofs.shelves.Shelves.once.Goals as goal

pub returns : goal.returns
returns g c =
    subst (λ (s : Orders g.row.T.Denot). Once g.T.Called.name_of s.list) c.self.view_is
    (names_once g.T.Called.name_of g.K.Ord.cmp g.met.K.Ord.total c.self.inside.levels.items c.self.inside.names c.rises.ensures c.self.invariant)
