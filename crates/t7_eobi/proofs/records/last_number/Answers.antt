use Rattle.std.proofs.Common.{◌<◌, ◌^◌, arith}
use Rattle.t7_eobi.specs.declared.ranges.Range.TheVariants as range
use Rattle.t7_eobi.proofs.RangeFacts.{counts, is_last, sound_range}
use Rattle.t7_eobi.proofs.records.last_number.Goals as goal

pub overflow_cast-result : goal.overflow_cast-result
overflow_cast-result c =
    let e = sound_range c.args.m.now c.args.name range.Processed c.requires.sound (counts c.args.m.now.role c.args.name c.requires.there) c.requires.range in
    let b : c.natural.result < 2 ^ 32 = is_last c.natural.result (rw c.natural.ensures.value e) in
    omega arith
