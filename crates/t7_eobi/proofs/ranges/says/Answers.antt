use Rattle.std.proofs.Common.{rules}
use Rattle.t7_eobi.specs.Ranges.{fits}
use Rattle.t7_eobi.proofs.RangeFacts.{raw_any}
use Rattle.t7_eobi.proofs.ranges.says.Goals as goal

pub returns-in-Some : goal.returns-in-Some
unfolding fits
returns-in-Some c = search (rules, raw_any)

pub returns-in-Some-signed : goal.returns-in-Some-signed
unfolding fits
returns-in-Some-signed c = search (rules, raw_any)

pub returns-in-Raw : goal.returns-in-Raw
unfolding fits
returns-in-Raw c = search (rules, raw_any)
