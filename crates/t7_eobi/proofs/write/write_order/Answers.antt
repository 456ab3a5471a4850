use Rattle.std.proofs.Common.{refl, rules}
use Rattle.t7_eobi.specs.Bytes.{IsResting, order_fields}
use Rattle.t7_fields.proofs.WriteFacts.{alone_at}
use Rattle.t7_eobi.proofs.write.write_order.Goals as goal

pub say-requires-clause-said : goal.say-requires-clause-said
say-requires-clause-said c =
    let ranged : IsResting c.args.order = search rules in
    let one = alone_at c.args.table.now c.args.role (order_fields c.args.number c.args.order) 0 _ (c.requires.said ranged) refl in
    search (rules, one)

pub say-requires-2-clause-said : goal.say-requires-2-clause-said
say-requires-2-clause-said c =
    let ranged : IsResting c.args.order = search rules in
    let one = alone_at c.args.table.now c.args.role (order_fields c.args.number c.args.order) 1 _ (c.requires.said ranged) refl in
    search (rules, one)

pub say-requires-3-clause-said : goal.say-requires-3-clause-said
say-requires-3-clause-said c =
    let ranged : IsResting c.args.order = search rules in
    let one = alone_at c.args.table.now c.args.role (order_fields c.args.number c.args.order) 2 _ (c.requires.said ranged) refl in
    search (rules, one)

pub say-requires-4-clause-said : goal.say-requires-4-clause-said
say-requires-4-clause-said c =
    let ranged : IsResting c.args.order = search rules in
    let one = alone_at c.args.table.now c.args.role (order_fields c.args.number c.args.order) 3 _ (c.requires.said ranged) refl in
    search (rules, one)

pub say-requires-5-clause-said : goal.say-requires-5-clause-said
say-requires-5-clause-said c =
    let ranged : IsResting c.args.order = search rules in
    let one = alone_at c.args.table.now c.args.role (order_fields c.args.number c.args.order) 4 _ (c.requires.said ranged) refl in
    search (rules, one)

pub say-requires-6-clause-said : goal.say-requires-6-clause-said
say-requires-6-clause-said c =
    let ranged : IsResting c.args.order = search rules in
    let one = alone_at c.args.table.now c.args.role (order_fields c.args.number c.args.order) 5 _ (c.requires.said ranged) refl in
    search (rules, one)

pub returns-clause-said : goal.returns-clause-said
returns-clause-said c =
    let all = c.say-6.ensures.said _ _ (c.say-5.ensures.said _ _ (c.say-4.ensures.said _ _ (c.say-3.ensures.said _ _ (c.say-2.ensures.said _ _ (c.say.ensures.said _ _ c.begin-size.ensures.said))))) in
    search (rules, all)
