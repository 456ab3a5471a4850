use Rattle.std.proofs.Common.{subst}
use Rattle.t7_snapshot.specs.Reading.{Kept}
use Rattle.t7_snapshot.specs.Store.{seen}
use Rattle.t7_snapshot.proofs.Onward.{read_nearest}
use Rattle.t7_snapshot.proofs.assembler.Assembler.was_read.Goals as goal

pub returns-then-first-n-clause-nearest : goal.returns-then-first-n-clause-nearest
returns-then-first-n-clause-nearest c =
    let kept = subst (λ b. Kept (seen c.args.self.now) c.args.first b) c.in-Some-true.field-0-test c.in-Some-true.ensures.kept in
    read_nearest kept (c.progress.ensures kept.0 kept.1).reads c.if-first-n.true
