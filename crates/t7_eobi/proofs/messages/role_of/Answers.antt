use Rattle.std.proofs.Common.{rules}
use Rattle.t7_eobi.specs.Datagrams.{role_of}
use Rattle.t7_fields.specs.Spelling.{template_id, length_width}
use Rattle.t7_eobi.proofs.MessageFacts.{role_family}
use Rattle.t7_eobi.proofs.messages.role_of.Goals as goal

pub returns-in-Some-clause-value : goal.returns-in-Some-clause-value
unfolding role_of template_id length_width
returns-in-Some-clause-value c = search (rules, role_family)

pub returns-in-Some-clause-family : goal.returns-in-Some-clause-family
unfolding role_of template_id length_width
returns-in-Some-clause-family c = search (rules, role_family)

pub returns-in-None-clause-value : goal.returns-in-None-clause-value
unfolding role_of template_id length_width
returns-in-None-clause-value c = search (rules, role_family)
