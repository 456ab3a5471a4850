use Rattle.std.proofs.Common.{◌≡◌, of_z, pos, refl, rules, to_z, w64}
use Rattle.t7_base.specs.declared.public.Public.TheVariants as public
use Rattle.t7_eobi.specs.Bytes.{IsPublic, public_fields, side_number}
use Rattle.t7_fields.proofs.WriteFacts.{alone_at}
use Rattle.t7_eobi.proofs.write.write_modify.Goals as goal

pub say-requires-clause-said : goal.say-requires-clause-said
unfolding public_fields
say-requires-clause-said c =
    let ranged : IsPublic (public.Modify c.args.security c.args.side c.args.prev_stamp c.args.prev_price c.args.prev_qty c.args.stamp c.args.price c.args.qty) = search rules in
    let one = alone_at c.args.table.now c.args.role (public_fields c.args.number (public.Modify c.args.security c.args.side c.args.prev_stamp c.args.prev_price c.args.prev_qty c.args.stamp c.args.price c.args.qty)) 0 _ (c.requires.said ranged) refl in
    search (rules, one)

pub say-requires-2-clause-said : goal.say-requires-2-clause-said
unfolding public_fields
say-requires-2-clause-said c =
    let ranged : IsPublic (public.Modify c.args.security c.args.side c.args.prev_stamp c.args.prev_price c.args.prev_qty c.args.stamp c.args.price c.args.qty) = search rules in
    let one = alone_at c.args.table.now c.args.role (public_fields c.args.number (public.Modify c.args.security c.args.side c.args.prev_stamp c.args.prev_price c.args.prev_qty c.args.stamp c.args.price c.args.qty)) 1 _ (c.requires.said ranged) refl in
    search (rules, one)

pub say-requires-3-clause-said : goal.say-requires-3-clause-said
unfolding public_fields
say-requires-3-clause-said c =
    let ranged : IsPublic (public.Modify c.args.security c.args.side c.args.prev_stamp c.args.prev_price c.args.prev_qty c.args.stamp c.args.price c.args.qty) = search rules in
    let one = alone_at c.args.table.now c.args.role (public_fields c.args.number (public.Modify c.args.security c.args.side c.args.prev_stamp c.args.prev_price c.args.prev_qty c.args.stamp c.args.price c.args.qty)) 2 _ (c.requires.said ranged) refl in
    search (rules, one)

pub say-requires-4-clause-said : goal.say-requires-4-clause-said
unfolding public_fields
say-requires-4-clause-said c =
    let ranged : IsPublic (public.Modify c.args.security c.args.side c.args.prev_stamp c.args.prev_price c.args.prev_qty c.args.stamp c.args.price c.args.qty) = search rules in
    let one = alone_at c.args.table.now c.args.role (public_fields c.args.number (public.Modify c.args.security c.args.side c.args.prev_stamp c.args.prev_price c.args.prev_qty c.args.stamp c.args.price c.args.qty)) 3 _ (c.requires.said ranged) refl in
    search (rules, one)

pub say-requires-5-clause-said : goal.say-requires-5-clause-said
unfolding public_fields
say-requires-5-clause-said c =
    let ranged : IsPublic (public.Modify c.args.security c.args.side c.args.prev_stamp c.args.prev_price c.args.prev_qty c.args.stamp c.args.price c.args.qty) = search rules in
    let one = alone_at c.args.table.now c.args.role (public_fields c.args.number (public.Modify c.args.security c.args.side c.args.prev_stamp c.args.prev_price c.args.prev_qty c.args.stamp c.args.price c.args.qty)) 4 _ (c.requires.said ranged) refl in
    search (rules, one)

pub say-requires-6-clause-said : goal.say-requires-6-clause-said
unfolding public_fields
say-requires-6-clause-said c =
    let ranged : IsPublic (public.Modify c.args.security c.args.side c.args.prev_stamp c.args.prev_price c.args.prev_qty c.args.stamp c.args.price c.args.qty) = search rules in
    let one = alone_at c.args.table.now c.args.role (public_fields c.args.number (public.Modify c.args.security c.args.side c.args.prev_stamp c.args.prev_price c.args.prev_qty c.args.stamp c.args.price c.args.qty)) 5 _ (c.requires.said ranged) refl in
    search (rules, one)

pub say-requires-7-clause-said : goal.say-requires-7-clause-said
unfolding public_fields
say-requires-7-clause-said c =
    let ranged : IsPublic (public.Modify c.args.security c.args.side c.args.prev_stamp c.args.prev_price c.args.prev_qty c.args.stamp c.args.price c.args.qty) = search rules in
    let one = alone_at c.args.table.now c.args.role (public_fields c.args.number (public.Modify c.args.security c.args.side c.args.prev_stamp c.args.prev_price c.args.prev_qty c.args.stamp c.args.price c.args.qty)) 6 _ (c.requires.said ranged) refl in
    search (rules, one)

pub say-requires-8-clause-said : goal.say-requires-8-clause-said
unfolding public_fields
say-requires-8-clause-said c =
    let ranged : IsPublic (public.Modify c.args.security c.args.side c.args.prev_stamp c.args.prev_price c.args.prev_qty c.args.stamp c.args.price c.args.qty) = search rules in
    let one = alone_at c.args.table.now c.args.role (public_fields c.args.number (public.Modify c.args.security c.args.side c.args.prev_stamp c.args.prev_price c.args.prev_qty c.args.stamp c.args.price c.args.qty)) 7 _ (c.requires.said ranged) refl in
    search (rules, one)

pub say-requires-9-clause-said : goal.say-requires-9-clause-said
unfolding public_fields
say-requires-9-clause-said c =
    let ranged : IsPublic (public.Modify c.args.security c.args.side c.args.prev_stamp c.args.prev_price c.args.prev_qty c.args.stamp c.args.price c.args.qty) = search rules in
    let one = alone_at c.args.table.now c.args.role (public_fields c.args.number (public.Modify c.args.security c.args.side c.args.prev_stamp c.args.prev_price c.args.prev_qty c.args.stamp c.args.price c.args.qty)) 8 _ (c.requires.said ranged) refl in
    search (rules, one)

pub returns-clause-said : goal.returns-clause-said
unfolding public_fields
returns-clause-said c =
    let all = c.say-9.ensures.said _ _ (c.say-8.ensures.said _ _ (c.say-7.ensures.said _ _ (c.say-6.ensures.said _ _ (c.say-5.ensures.said _ _ (c.say-4.ensures.said _ _ (c.say-3.ensures.said _ _ (c.say-2.ensures.said _ _ (c.say.ensures.said _ _ c.begin-size.ensures.said)))))))) in
    let security : to_z w64 (of_z w64 c.security.inside.0) ≡ c.args.security = search rules in
    let side : c.side_number.result ≡ side_number c.args.side = search rules in
    let prev_price : to_z w64 (of_z w64 c.get-old_price.result) ≡ c.args.prev_price = search rules in
    let prev_qty : to_z w64 (of_z w64 c.get-old_qty.result) ≡ pos c.args.prev_qty = search rules in
    let price : to_z w64 (of_z w64 c.get-new_price.result) ≡ c.args.price = search rules in
    let qty : to_z w64 (of_z w64 c.get-new_qty.result) ≡ pos c.args.qty = search rules in
    rw (security, side, prev_price, prev_qty, price, qty, c.get-old_stamp.ensures.value, c.get-new_stamp.ensures.value) at all
