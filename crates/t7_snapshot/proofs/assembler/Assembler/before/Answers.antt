use Rattle.std.proofs.Common.{inl, inr, subst, sym, false}
use Rattle.t7_snapshot.specs.Reading.{Kept}
use Rattle.t7_snapshot.specs.Store.{seen}
use Rattle.t7_snapshot.proofs.Search.{le_cases, row_bounds}
use Rattle.t7_snapshot.proofs.assembler.Assembler.before.Goals as goal

pub returns-clause-between : goal.returns-clause-between
returns-clause-between c =
    let row = (c.progress.ensures c.requires.kept.0 c.requires.kept.1).row in
    λ k over upto. elim (le_cases k c.args.n upto) [
      | inl less ↦ (let b = row_bounds _ _ _ c.args.n k _ _ _ c.saturating_sub-lowest.ensures c.max.ensures c.min.ensures over less in row k b.0 less (rw (← c.self.view_is) (rw c.packets.ensures.value at b.1)))
      | inr same ↦ subst (λ x. Kept (seen c.args.self.now) x false) (sym same) c.requires.kept
    ]
