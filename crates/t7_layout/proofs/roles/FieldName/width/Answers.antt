use Rattle.std.proofs.Common.{rules}
use Rattle.t7_layout.specs.Roles.{width_in}
use Rattle.t7_layout.proofs.roles.FieldName.width.Goals as goal

pub returns-in-BodyLen-Eti : goal.returns-in-BodyLen-Eti
unfolding width_in
returns-in-BodyLen-Eti c = search rules

pub returns-in-BodyLen-Eobi : goal.returns-in-BodyLen-Eobi
unfolding width_in
returns-in-BodyLen-Eobi c = search rules

pub returns-in-Side-default : goal.returns-in-Side-default
unfolding width_in
returns-in-Side-default c = search rules

pub returns-in-TemplateID-default : goal.returns-in-TemplateID-default
unfolding width_in
returns-in-TemplateID-default c = search rules

pub returns-in-MsgSeqNum-default : goal.returns-in-MsgSeqNum-default
unfolding width_in
returns-in-MsgSeqNum-default c = search rules

pub returns-in-SecurityID-default : goal.returns-in-SecurityID-default
unfolding width_in
returns-in-SecurityID-default c = search rules

pub returns-in-ApplBegMsgID-default : goal.returns-in-ApplBegMsgID-default
unfolding width_in
returns-in-ApplBegMsgID-default c = search rules
