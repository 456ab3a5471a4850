use Rattle.std.proofs.Common.{refl, rules}
use Rattle.t7_base.specs.declared.public.Public.TheVariants as public
use Rattle.t7_eobi.specs.Bytes.{IsPublic, public_fields}
use Rattle.t7_fields.proofs.WriteFacts.{alone_at}
use Rattle.t7_eobi.proofs.write.write_same_priority.Goals as goal

pub say-requires-clause-said : goal.say-requires-clause-said
unfolding public_fields
say-requires-clause-said c =
    let ranged : IsPublic (public.SamePriority c.args.security c.args.side c.args.stamp c.args.price c.args.prev_qty c.args.qty) = search rules in
    let one = alone_at c.args.table.now c.args.role (public_fields c.args.number (public.SamePriority c.args.security c.args.side c.args.stamp c.args.price c.args.prev_qty c.args.qty)) 0 _ (c.requires.said ranged) refl in
    search (rules, one)

pub say-requires-2-clause-said : goal.say-requires-2-clause-said
unfolding public_fields
say-requires-2-clause-said c =
    let ranged : IsPublic (public.SamePriority c.args.security c.args.side c.args.stamp c.args.price c.args.prev_qty c.args.qty) = search rules in
    let one = alone_at c.args.table.now c.args.role (public_fields c.args.number (public.SamePriority c.args.security c.args.side c.args.stamp c.args.price c.args.prev_qty c.args.qty)) 1 _ (c.requires.said ranged) refl in
    search (rules, one)

pub say-requires-3-clause-said : goal.say-requires-3-clause-said
unfolding public_fields
say-requires-3-clause-said c =
    let ranged : IsPublic (public.SamePriority c.args.security c.args.side c.args.stamp c.args.price c.args.prev_qty c.args.qty) = search rules in
    let one = alone_at c.args.table.now c.args.role (public_fields c.args.number (public.SamePriority c.args.security c.args.side c.args.stamp c.args.price c.args.prev_qty c.args.qty)) 2 _ (c.requires.said ranged) refl in
    search (rules, one)

pub say-requires-4-clause-said : goal.say-requires-4-clause-said
unfolding public_fields
say-requires-4-clause-said c =
    let ranged : IsPublic (public.SamePriority c.args.security c.args.side c.args.stamp c.args.price c.args.prev_qty c.args.qty) = search rules in
    let one = alone_at c.args.table.now c.args.role (public_fields c.args.number (public.SamePriority c.args.security c.args.side c.args.stamp c.args.price c.args.prev_qty c.args.qty)) 3 _ (c.requires.said ranged) refl in
    search (rules, one)

pub say-requires-5-clause-said : goal.say-requires-5-clause-said
unfolding public_fields
say-requires-5-clause-said c =
    let ranged : IsPublic (public.SamePriority c.args.security c.args.side c.args.stamp c.args.price c.args.prev_qty c.args.qty) = search rules in
    let one = alone_at c.args.table.now c.args.role (public_fields c.args.number (public.SamePriority c.args.security c.args.side c.args.stamp c.args.price c.args.prev_qty c.args.qty)) 4 _ (c.requires.said ranged) refl in
    search (rules, one)

pub say-requires-6-clause-said : goal.say-requires-6-clause-said
unfolding public_fields
say-requires-6-clause-said c =
    let ranged : IsPublic (public.SamePriority c.args.security c.args.side c.args.stamp c.args.price c.args.prev_qty c.args.qty) = search rules in
    let one = alone_at c.args.table.now c.args.role (public_fields c.args.number (public.SamePriority c.args.security c.args.side c.args.stamp c.args.price c.args.prev_qty c.args.qty)) 5 _ (c.requires.said ranged) refl in
    search (rules, one)

pub say-requires-7-clause-said : goal.say-requires-7-clause-said
unfolding public_fields
say-requires-7-clause-said c =
    let ranged : IsPublic (public.SamePriority c.args.security c.args.side c.args.stamp c.args.price c.args.prev_qty c.args.qty) = search rules in
    let one = alone_at c.args.table.now c.args.role (public_fields c.args.number (public.SamePriority c.args.security c.args.side c.args.stamp c.args.price c.args.prev_qty c.args.qty)) 6 _ (c.requires.said ranged) refl in
    search (rules, one)

pub returns-clause-said : goal.returns-clause-said
unfolding public_fields
returns-clause-said c =
    let all = c.say-7.ensures.said _ _ (c.say-6.ensures.said _ _ (c.say-5.ensures.said _ _ (c.say-4.ensures.said _ _ (c.say-3.ensures.said _ _ (c.say-2.ensures.said _ _ (c.say.ensures.said _ _ c.begin-size.ensures.said)))))) in
    search (rules, all)
