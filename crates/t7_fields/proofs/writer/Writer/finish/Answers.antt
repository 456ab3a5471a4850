use Rattle.t7_fields.proofs.PutFacts.{finished}
use Rattle.t7_fields.proofs.writer.Writer.finish.Goals as goal

pub returns-clause-spelled : goal.returns-clause-spelled
returns-clause-spelled c ps before e may =
    let done = finished c.args.self.template.now ps before c.args.self.out.now c.len.ensures.layout may e in
    (done.spells, done.tail)
