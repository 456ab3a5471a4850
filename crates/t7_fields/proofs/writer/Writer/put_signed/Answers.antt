use Rattle.std.proofs.Common.{◌∙◌, Some, w64}
use Rattle.std.proofs.lemmas.Int.{to_z-of_z}
use Rattle.t7_fields.specs.Spelling.{Number}
use Rattle.t7_fields.specs.Puts.{value_bytes}
use Rattle.t7_fields.proofs.PutFacts.{written_put}
use Rattle.t7_fields.proofs.writer.Writer.put_signed.Goals as goal

pub returns-clause-put : goal.returns-clause-put
unfolding value_bytes
returns-clause-put c ps before e =
    let bytes = rw (c.offset.ensures.value, c.width.ensures.value, to_z-of_z w64 c.args.n c.ranges.n) at c.write_signed.ensures in
    bytes ∙ written_put c.args.self.now.template.now ps (record { place = c.args.f; value = Number (Some c.args.n) }) before c.args.self.now.out.now e
