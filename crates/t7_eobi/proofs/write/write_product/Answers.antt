use Rattle.std.proofs.Common.{refl, rules}
use Rattle.t7_eobi.specs.declared.walks.Snap.TheVariants as snaps
use Rattle.t7_eobi.specs.Bytes.{IsSnap, snap_fields}
use Rattle.t7_fields.proofs.WriteFacts.{alone_at}
use Rattle.t7_eobi.proofs.write.write_product.Goals as goal

pub say-requires-clause-said : goal.say-requires-clause-said
unfolding snap_fields
say-requires-clause-said c =
    let ranged : IsSnap (snaps.Product c.args.last) = search rules in
    let one = alone_at c.args.table.now c.args.role (snap_fields (snaps.Product c.args.last)) 0 _ (c.requires.said ranged) refl in
    search (rules, one)

pub returns-clause-said : goal.returns-clause-said
unfolding snap_fields
returns-clause-said c =
    let all = c.say.ensures.said _ _ c.begin-size.ensures.said in
    search (rules, all)
