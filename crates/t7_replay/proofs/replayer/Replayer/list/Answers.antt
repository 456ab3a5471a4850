use Rattle.std.proofs.Common.{rules}
use Rattle.t7_replay.proofs.Dialing.{list_done}
use Rattle.t7_replay.proofs.replayer.Replayer.list.Goals as goal

pub returns-clause-done : goal.returns-clause-done
returns-clause-done c = list_done c.args.self.now c.in-Some.caller c.put_list.new.text.items (search rules) (search rules)
