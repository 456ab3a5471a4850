use Rattle.std.proofs.Common.{rules}
use Rattle.t7_base.specs.Ranges.{IsPrice}
use Rattle.t7_layout.specs.declared.roles.FieldName.TheVariants as name
use Rattle.t7_eti.proofs.RangeFacts.{is_price, value_in_range}
use Rattle.t7_layout.specs.Roles.{kind_of}
use Rattle.t7_eti.proofs.response.last_price.Goals as goal

pub unreachable-requires : goal.unreachable-requires
unreachable-requires c =
    let e = value_in_range c.args.m.now name.FillPx c.requires.sound c.requires.there in
    let p : IsPrice c.signed.result = rw c.signed.ensures (is_price _ e) in
    search (rules, p)

pub signed-requires-clause-kind : goal.signed-requires-clause-kind
unfolding kind_of
signed-requires-clause-kind c = search rules
