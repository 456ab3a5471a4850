use Rattle.std.proofs.Common.{◌∙◌, Some}
use Rattle.std.specs.Prelude.{pos}
use Rattle.t7_fields.specs.Spelling.{Number}
use Rattle.t7_fields.specs.Puts.{value_bytes}
use Rattle.t7_fields.proofs.PutFacts.{written_put}
use Rattle.t7_fields.proofs.writer.Writer.put_unsigned.Goals as goal

pub returns-clause-put : goal.returns-clause-put
unfolding value_bytes
returns-clause-put c ps before e =
    let bytes = rw (c.offset.ensures.value, c.width.ensures.value) at c.write_unsigned.ensures in
    bytes ∙ written_put c.args.self.now.template.now ps (record { place = c.args.f; value = Number (Some (pos c.args.n)) }) before c.args.self.now.out.now e
