use Rattle.std.proofs.Common.{refl, rules}
use Rattle.t7_eobi.specs.declared.walks.Snap.TheVariants as snaps
use Rattle.t7_eobi.specs.Bytes.{IsSnap, snap_fields}
use Rattle.t7_fields.proofs.WriteFacts.{alone_at}
use Rattle.t7_eobi.proofs.write.write_snap_order.Goals as goal

pub say-requires-clause-said : goal.say-requires-clause-said
unfolding snap_fields
say-requires-clause-said c =
    let ranged : IsSnap (snaps.Order c.args.side c.args.price c.args.stamp c.args.qty) = search rules in
    let one = alone_at c.args.table.now c.args.role (snap_fields (snaps.Order c.args.side c.args.price c.args.stamp c.args.qty)) 0 _ (c.requires.said ranged) refl in
    search (rules, one)

pub say-requires-2-clause-said : goal.say-requires-2-clause-said
unfolding snap_fields
say-requires-2-clause-said c =
    let ranged : IsSnap (snaps.Order c.args.side c.args.price c.args.stamp c.args.qty) = search rules in
    let one = alone_at c.args.table.now c.args.role (snap_fields (snaps.Order c.args.side c.args.price c.args.stamp c.args.qty)) 1 _ (c.requires.said ranged) refl in
    search (rules, one)

pub say-requires-3-clause-said : goal.say-requires-3-clause-said
unfolding snap_fields
say-requires-3-clause-said c =
    let ranged : IsSnap (snaps.Order c.args.side c.args.price c.args.stamp c.args.qty) = search rules in
    let one = alone_at c.args.table.now c.args.role (snap_fields (snaps.Order c.args.side c.args.price c.args.stamp c.args.qty)) 2 _ (c.requires.said ranged) refl in
    search (rules, one)

pub say-requires-4-clause-said : goal.say-requires-4-clause-said
unfolding snap_fields
say-requires-4-clause-said c =
    let ranged : IsSnap (snaps.Order c.args.side c.args.price c.args.stamp c.args.qty) = search rules in
    let one = alone_at c.args.table.now c.args.role (snap_fields (snaps.Order c.args.side c.args.price c.args.stamp c.args.qty)) 3 _ (c.requires.said ranged) refl in
    search (rules, one)

pub returns-clause-said : goal.returns-clause-said
unfolding snap_fields
returns-clause-said c =
    let all = c.say-4.ensures.said _ _ (c.say-3.ensures.said _ _ (c.say-2.ensures.said _ _ (c.say.ensures.said _ _ c.begin-size.ensures.said))) in
    search (rules, all)
