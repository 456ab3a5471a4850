use Rattle.std.proofs.Common.{rules}
use Rattle.t7_eti.specs.Saying.{side_number}
use Rattle.t7_client.proofs.sending.side_number.Goals as goal

pub returns-in-Buy : goal.returns-in-Buy
unfolding side_number
returns-in-Buy c = search rules

pub returns-in-Sell : goal.returns-in-Sell
unfolding side_number
returns-in-Sell c = search rules
