use Rattle.std.proofs.Common.{rules}
use Rattle.t7_eobi.specs.declared.walks.Snap.TheVariants as snaps
use Rattle.t7_eobi.specs.Bytes.{snap_fields, snap_role}
use Rattle.t7_eobi.proofs.SayingFacts.{snap_said}
use Rattle.t7_eobi.proofs.write.put_snap.Goals as goal

pub write_product-requires-clause-room : goal.write_product-requires-clause-room
unfolding snap_role
write_product-requires-clause-room c = search rules

pub write_product-requires-clause-said : goal.write_product-requires-clause-said
unfolding snap_role snap_fields
write_product-requires-clause-said c ranged =
    snap_said c.args.table.now (snaps.Product c.in-Product.last) c.requires.table ranged

pub write_instrument-requires-clause-room : goal.write_instrument-requires-clause-room
unfolding snap_role
write_instrument-requires-clause-room c = search rules

pub write_instrument-requires-clause-said : goal.write_instrument-requires-clause-said
unfolding snap_role snap_fields
write_instrument-requires-clause-said c ranged =
    snap_said c.args.table.now (snaps.Instrument c.in-Instrument.security c.in-Instrument.count) c.requires.table ranged

pub write_snap_order-requires-clause-room : goal.write_snap_order-requires-clause-room
unfolding snap_role
write_snap_order-requires-clause-room c = search rules

pub write_snap_order-requires-clause-said : goal.write_snap_order-requires-clause-said
unfolding snap_role snap_fields
write_snap_order-requires-clause-said c ranged =
    snap_said c.args.table.now (snaps.Order c.in-Order.side c.in-Order.price c.in-Order.stamp c.in-Order.qty) c.requires.table ranged

pub returns-in-Product-clause-size : goal.returns-in-Product-clause-size
unfolding snap_role snap_fields
returns-in-Product-clause-size c = search rules

pub returns-in-Product-clause-said : goal.returns-in-Product-clause-said
unfolding snap_role snap_fields
returns-in-Product-clause-said c = search rules

pub returns-in-Instrument-clause-size : goal.returns-in-Instrument-clause-size
unfolding snap_role snap_fields
returns-in-Instrument-clause-size c = search rules

pub returns-in-Instrument-clause-said : goal.returns-in-Instrument-clause-said
unfolding snap_role snap_fields
returns-in-Instrument-clause-said c = search rules

pub returns-in-Order-clause-size : goal.returns-in-Order-clause-size
unfolding snap_role snap_fields
returns-in-Order-clause-size c = search rules

pub returns-in-Order-clause-said : goal.returns-in-Order-clause-said
unfolding snap_role snap_fields
returns-in-Order-clause-said c = search rules
