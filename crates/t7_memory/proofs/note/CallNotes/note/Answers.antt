use Rattle.std.proofs.Common.{arith}
use Rattle.t7_memory.proofs.Noting.{told_more}
use Rattle.t7_memory.proofs.note.CallNotes.note.Goals as goal

pub returns : goal.returns
returns g c = grind (arith, told_more)
