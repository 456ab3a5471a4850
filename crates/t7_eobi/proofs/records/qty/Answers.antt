use Rattle.std.proofs.Common.{rules}
use Rattle.t7_base.specs.Ranges.{IsQuantity}
use Rattle.t7_eobi.specs.declared.ranges.Range.TheVariants as range
use Rattle.t7_eobi.proofs.RangeFacts.{counts, is_quantity, sound_range}
use Rattle.t7_eobi.proofs.records.qty.Goals as goal

pub known-requires : goal.known-requires
known-requires c =
    let e = sound_range c.args.m.now c.args.name range.Quantity c.requires.sound (counts c.args.m.now.role c.args.name c.requires.there) c.requires.range in
    let p : IsQuantity c.number.result = rw c.number.ensures (is_quantity _ e) in
    search (rules, p)
