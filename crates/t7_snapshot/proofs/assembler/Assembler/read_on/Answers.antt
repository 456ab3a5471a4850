use Rattle.std.proofs.Common.{refl}
use Rattle.t7_snapshot.specs.Reading.{reads_on}
use Rattle.t7_snapshot.proofs.assembler.Assembler.read_on.Goals as goal

pub loop-after-preserved : goal.loop-after-preserved
loop-after-preserved c = (let r = c.in-Some.ensures.read in reads_on c.loop-after.next c.loop-after.awaited r.0 c.loop-after.invariant r.1 r.2 r.3 refl)
