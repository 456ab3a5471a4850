use Rattle.std.proofs.Common.{◌<◌, ◌^◌, arith, pos}
use Rattle.t7_eobi.specs.Bytes.{IsSequence}
use Rattle.t7_eobi.specs.declared.ranges.Range.TheVariants as range
use Rattle.t7_eobi.proofs.RangeFacts.{counts, is_sequence, seq_abs, sound_range}
use Rattle.t7_eobi.proofs.records.sequence_number.Goals as goal

pub overflow_cast-result : goal.overflow_cast-result
overflow_cast-result c =
    let e = sound_range c.args.m.now c.args.name range.Sequence c.requires.sound (counts c.args.m.now.role c.args.name c.requires.there) c.requires.range in
    let b : c.natural.result < 2 ^ 32 = is_sequence c.natural.result (rw c.natural.ensures.value e) in
    omega arith

pub returns-clause-in_range : goal.returns-clause-in_range
returns-clause-in_range c =
    let e = sound_range c.args.m.now c.args.name range.Sequence c.requires.sound (counts c.args.m.now.role c.args.name c.requires.there) c.requires.range in
    let b : IsSequence c.natural.result = seq_abs (pos c.natural.result) (rw c.natural.ensures.value e) in
    b
