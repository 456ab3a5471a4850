use Rattle.std.proofs.Common.{◌-◌, inl, inr, subst, sym, false, arith}
use Rattle.t7_snapshot.specs.Reading.{Kept}
use Rattle.t7_snapshot.specs.Store.{seen}
use Rattle.t7_snapshot.proofs.Search.{le_cases}
use Rattle.t7_snapshot.proofs.assembler.Assembler.back_of.Goals as goal

pub returns-in-Some-false : goal.returns-in-Some-false
returns-in-Some-false c =
    let kept = subst (λ b. Kept (seen c.args.self.now) (c.args.number - 1) b) c.in-Some-false.field-0-test c.in-Some-false.ensures.kept in
    let row = (c.progress.ensures kept.0 kept.1).row in
    λ k over under near. elim (le_cases k (c.args.number - 1) (omega arith)) [
      | inl less ↦ row k over less near
      | inr same ↦ subst (λ x. Kept (seen c.args.self.now) x false) (sym same) kept
    ]
