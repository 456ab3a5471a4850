use Rattle.std.proofs.Common.{rules}
use Rattle.t7_base.specs.Memory.{after_put}
use Rattle.t7_base.proofs.Calls.{put_past, put_failed, put_done}
use Rattle.t7_base.proofs.memory.MemorySinkSink.put.Goals as goal

pub returns-then-self-eq0-clause-state : goal.returns-then-self-eq0-clause-state
unfolding after_put
returns-then-self-eq0-clause-state c = search (rules, put_past, put_failed, put_done)

pub returns-then-contains-clause-state : goal.returns-then-contains-clause-state
unfolding after_put
returns-then-contains-clause-state c = search (rules, put_past, put_failed, put_done)

pub returns-clause-state : goal.returns-clause-state
unfolding after_put
returns-clause-state c = search (rules, put_past, put_failed, put_done)
