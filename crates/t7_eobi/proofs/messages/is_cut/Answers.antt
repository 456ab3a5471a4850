use Rattle.std.proofs.Common.{rules}
use Rattle.t7_eobi.specs.Datagrams.{body_of, is_cut}
use Rattle.t7_eobi.proofs.messages.is_cut.Goals as goal

pub returns-then-rest-lt8 : goal.returns-then-rest-lt8
unfolding is_cut body_of
returns-then-rest-lt8 c = search rules

pub returns-then-body-lt8 : goal.returns-then-body-lt8
unfolding is_cut body_of
returns-then-body-lt8 c = search rules

pub returns-else-body-lt8 : goal.returns-else-body-lt8
unfolding is_cut body_of
returns-else-body-lt8 c = search rules
