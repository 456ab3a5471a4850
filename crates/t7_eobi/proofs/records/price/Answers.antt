use Rattle.std.proofs.Common.{rules}
use Rattle.t7_base.specs.Ranges.{IsPrice}
use Rattle.t7_eobi.specs.declared.ranges.Range.TheVariants as range
use Rattle.t7_eobi.proofs.RangeFacts.{counts, is_price, sound_range}
use Rattle.t7_eobi.proofs.records.price.Goals as goal

pub known-requires : goal.known-requires
known-requires c =
    let e = sound_range c.args.m.now c.args.name range.Price c.requires.sound (counts c.args.m.now.role c.args.name c.requires.there) c.requires.range in
    let p : IsPrice c.number.result = rw c.number.ensures (is_price _ e) in
    search (rules, p)
