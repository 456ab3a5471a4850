use Rattle.t7_layout.specs.declared.roles.FieldName.TheVariants as name
use Rattle.t7_eti.proofs.RangeFacts.{is_stamp, value_in_range}
use Rattle.std.proofs.Common.{rules}
use Rattle.t7_layout.specs.Roles.{kind_of}
use Rattle.t7_eti.proofs.response.stamp.Goals as goal

pub unreachable-requires : goal.unreachable-requires
unreachable-requires c =
    let e = value_in_range c.args.m.now name.TrdRegTSTimePriority c.requires.sound c.requires.there in
    c.in-None.ensures (is_stamp _ (rw c.unsigned.ensures.value e))

pub unsigned-requires-clause-kind : goal.unsigned-requires-clause-kind
unfolding kind_of
unsigned-requires-clause-kind c = search rules
