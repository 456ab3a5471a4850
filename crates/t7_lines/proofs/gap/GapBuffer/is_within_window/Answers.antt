use Rattle.std.proofs.Common.{arith}
use Rattle.t7_lines.proofs.Rings.{few_entries}
use Rattle.t7_lines.proofs.gap.GapBuffer.is_within_window.Goals as goal

pub returns : goal.returns
returns c = rw (← c.self.view_is) (let h = few_entries c.self.inside.window c.self.inside.highest c.self.inside.ring.items in let f = c.self.invariant.full in omega arith)
