use Rattle.std.proofs.Common.{◌∙◌}
use Rattle.t7_fields.specs.Spelling.{Bytes}
use Rattle.t7_fields.specs.Puts.{value_bytes}
use Rattle.t7_fields.proofs.PutFacts.{written_put}
use Rattle.t7_fields.proofs.writer.Writer.put_raw.Goals as goal

pub returns-clause-put : goal.returns-clause-put
unfolding value_bytes
returns-clause-put c ps before e =
    let bytes = rw (c.offset.ensures.value) at c.write_bytes.ensures.bytes in
    bytes ∙ written_put c.args.self.now.template.now ps (record { place = c.args.f; value = Bytes c.args.bytes.now }) before c.args.self.now.out.now e
