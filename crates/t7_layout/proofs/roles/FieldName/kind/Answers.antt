use Rattle.std.proofs.Common.{rules}
use Rattle.t7_layout.specs.Roles.{kind_of}
use Rattle.t7_layout.proofs.roles.FieldName.kind.Goals as goal

pub returns-in-SecurityID : goal.returns-in-SecurityID
unfolding kind_of
returns-in-SecurityID c = search rules

pub returns-in-ApplBegMsgID : goal.returns-in-ApplBegMsgID
unfolding kind_of
returns-in-ApplBegMsgID c = search rules

pub returns-in_default : goal.returns-in_default
unfolding kind_of
returns-in_default c = search rules
