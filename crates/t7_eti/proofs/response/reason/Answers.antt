use Rattle.std.proofs.Common.{◌∙◌, sym}
use Rattle.t7_eti.proofs.RangeFacts.{never_no_reason}
use Rattle.std.proofs.Common.{rules}
use Rattle.t7_layout.specs.Roles.{kind_of}
use Rattle.t7_eti.proofs.response.reason.Goals as goal

pub unreachable-requires : goal.unreachable-requires
unreachable-requires c = never_no_reason c.args.m.now c.unsigned.result c.unsigned.ensures.value c.requires.sound c.requires.there (sym c.reason_of.ensures ∙ c.in-None.is)

pub unsigned-requires-clause-kind : goal.unsigned-requires-clause-kind
unfolding kind_of
unsigned-requires-clause-kind c = search rules
