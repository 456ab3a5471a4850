use Rattle.t7_eobi.specs.declared.ranges.Range.TheVariants as range
use Rattle.t7_eobi.proofs.RangeFacts.{counts, is_stamp, sound_range}
use Rattle.t7_eobi.proofs.records.stamp.Goals as goal

pub known-requires : goal.known-requires
known-requires c =
    let e = sound_range c.args.m.now c.args.name range.Stamp c.requires.sound (counts c.args.m.now.role c.args.name c.requires.there) c.requires.range in
    is_stamp _ (rw c.natural.ensures.value e)
