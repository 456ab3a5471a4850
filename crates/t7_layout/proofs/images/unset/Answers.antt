use Rattle.std.proofs.Common.{rules, ◌∙◌, sym}
use Rattle.t7_layout.specs.Images.{unset_bytes}
use Rattle.t7_layout.proofs.ImageFacts.{unset_more}
use Rattle.t7_layout.proofs.images.unset.Goals as goal

pub loop-field-init : goal.loop-field-init
unfolding unset_bytes
loop-field-init c = c.new-bytes.ensures.items

pub loop-field-preserved : goal.loop-field-preserved
loop-field-preserved c =
    let more = unset_more c.args.fields.now c.loop-field.field-index c.field-item.result c.loop-field-test.true c.field-item.is in
    let before = c.loop-field.invariant in
    search (rules, more, before)
