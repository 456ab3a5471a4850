use Rattle.std.proofs.Common.{rules}
use Rattle.t7_eobi.specs.Datagrams.{other_of}
use Rattle.t7_eobi.proofs.walks.other_of.Goals as goal

pub returns-then-number-le4294967294 : goal.returns-then-number-le4294967294
unfolding other_of
returns-then-number-le4294967294 c = search rules

pub returns-else-number-ge1 : goal.returns-else-number-ge1
unfolding other_of
returns-else-number-ge1 c = search rules
