use Rattle.std.proofs.Common.{◌∙◌, ap, w64}
use Rattle.std.proofs.lemmas.Int.{to_z-of_z}
use Rattle.t7_fields.specs.Puts.{patch}
use Rattle.t7_layout.proofs.BytesFacts.{low_written}
use Rattle.t7_fields.proofs.bytes.write_signed.Goals as goal

pub returns : goal.returns
returns c =
    let low = rw (to_z-of_z w64 c.args.n c.ranges.n) at c.write_low.ensures in
    low ∙ ap (λ piece. patch c.args.at piece c.args.out.now) (low_written c.args.width c.args.n c.requires.low c.requires.high c.requires.held)
