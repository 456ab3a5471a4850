use Rattle.t7_feed.proofs.OneCycle.{one_cycle}
use Rattle.t7_feed.proofs.laws.cycles_are_one.Goals as goal

pub returns : goal.returns
returns c = λ securities at i m p q n r s parts others a b from upto from_b upto_b. one_cycle at i a b from upto from_b upto_b
