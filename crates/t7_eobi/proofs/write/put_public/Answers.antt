use Rattle.std.proofs.Common.{rules}
use Rattle.t7_base.specs.declared.public.Public.TheVariants as public
use Rattle.t7_eobi.specs.Bytes.{public_fields, role_for}
use Rattle.t7_eobi.proofs.SayingFacts.{public_said}
use Rattle.t7_eobi.proofs.write.put_public.Goals as goal

pub write_order-requires-clause-room : goal.write_order-requires-clause-room
unfolding role_for
write_order-requires-clause-room c = search rules

pub write_order-requires-clause-said : goal.write_order-requires-clause-said
unfolding role_for public_fields
write_order-requires-clause-said c ranged =
    public_said c.args.table.now c.args.number (public.Add c.in-Add.order) c.requires.table c.requires.number ranged

pub write_order-requires-in-Delete-clause-room : goal.write_order-requires-in-Delete-clause-room
unfolding role_for
write_order-requires-in-Delete-clause-room c = search rules

pub write_order-requires-in-Delete-clause-said : goal.write_order-requires-in-Delete-clause-said
unfolding role_for public_fields
write_order-requires-in-Delete-clause-said c ranged =
    public_said c.args.table.now c.args.number (public.Delete c.in-Delete.order) c.requires.table c.requires.number ranged

pub write_modify-requires-clause-room : goal.write_modify-requires-clause-room
unfolding role_for
write_modify-requires-clause-room c = search rules

pub write_modify-requires-clause-said : goal.write_modify-requires-clause-said
unfolding role_for public_fields
write_modify-requires-clause-said c ranged =
    public_said c.args.table.now c.args.number (public.Modify c.in-Modify.security c.in-Modify.side c.in-Modify.prev_stamp c.in-Modify.prev_price c.in-Modify.prev_qty c.in-Modify.stamp c.in-Modify.price c.in-Modify.qty) c.requires.table c.requires.number ranged

pub write_same_priority-requires-clause-room : goal.write_same_priority-requires-clause-room
unfolding role_for
write_same_priority-requires-clause-room c = search rules

pub write_same_priority-requires-clause-said : goal.write_same_priority-requires-clause-said
unfolding role_for public_fields
write_same_priority-requires-clause-said c ranged =
    public_said c.args.table.now c.args.number (public.SamePriority c.in-SamePriority.security c.in-SamePriority.side c.in-SamePriority.stamp c.in-SamePriority.price c.in-SamePriority.prev_qty c.in-SamePriority.qty) c.requires.table c.requires.number ranged

pub write_mass_delete-requires-clause-room : goal.write_mass_delete-requires-clause-room
unfolding role_for
write_mass_delete-requires-clause-room c = search rules

pub write_mass_delete-requires-clause-said : goal.write_mass_delete-requires-clause-said
unfolding role_for public_fields
write_mass_delete-requires-clause-said c ranged =
    public_said c.args.table.now c.args.number (public.MassDelete c.in-MassDelete.security) c.requires.table c.requires.number ranged

pub write_execution-requires-clause-room : goal.write_execution-requires-clause-room
unfolding role_for
write_execution-requires-clause-room c = search rules

pub write_execution-requires-clause-said : goal.write_execution-requires-clause-said
unfolding role_for public_fields
write_execution-requires-clause-said c ranged =
    public_said c.args.table.now c.args.number (public.Partial c.in-Partial.security c.in-Partial.side c.in-Partial.stamp c.in-Partial.price c.in-Partial.last_qty c.in-Partial.last_price) c.requires.table c.requires.number ranged

pub write_execution-requires-in-Full-clause-room : goal.write_execution-requires-in-Full-clause-room
unfolding role_for
write_execution-requires-in-Full-clause-room c = search rules

pub write_execution-requires-in-Full-clause-said : goal.write_execution-requires-in-Full-clause-said
unfolding role_for public_fields
write_execution-requires-in-Full-clause-said c ranged =
    public_said c.args.table.now c.args.number (public.Full c.in-Full.security c.in-Full.side c.in-Full.stamp c.in-Full.price c.in-Full.last_qty c.in-Full.last_price) c.requires.table c.requires.number ranged

pub write_summary-requires-clause-room : goal.write_summary-requires-clause-room
unfolding role_for
write_summary-requires-clause-room c = search rules

pub write_summary-requires-clause-said : goal.write_summary-requires-clause-said
unfolding role_for public_fields
write_summary-requires-clause-said c ranged =
    public_said c.args.table.now c.args.number (public.Summary c.in-Summary.security c.in-Summary.side c.in-Summary.stamp c.in-Summary.last_qty c.in-Summary.last_price) c.requires.table c.requires.number ranged

pub returns-in-Add-clause-size : goal.returns-in-Add-clause-size
unfolding role_for public_fields
returns-in-Add-clause-size c = search rules

pub returns-in-Add-clause-said : goal.returns-in-Add-clause-said
unfolding role_for public_fields
returns-in-Add-clause-said c = search rules

pub returns-in-Delete-clause-size : goal.returns-in-Delete-clause-size
unfolding role_for public_fields
returns-in-Delete-clause-size c = search rules

pub returns-in-Delete-clause-said : goal.returns-in-Delete-clause-said
unfolding role_for public_fields
returns-in-Delete-clause-said c = search rules

pub returns-in-Modify-clause-size : goal.returns-in-Modify-clause-size
unfolding role_for public_fields
returns-in-Modify-clause-size c = search rules

pub returns-in-Modify-clause-said : goal.returns-in-Modify-clause-said
unfolding role_for public_fields
returns-in-Modify-clause-said c = rw c.in-Modify.is c.write_modify.ensures.said

pub returns-in-SamePriority-clause-size : goal.returns-in-SamePriority-clause-size
unfolding role_for public_fields
returns-in-SamePriority-clause-size c = search rules

pub returns-in-SamePriority-clause-said : goal.returns-in-SamePriority-clause-said
unfolding role_for public_fields
returns-in-SamePriority-clause-said c = search rules

pub returns-in-MassDelete-clause-size : goal.returns-in-MassDelete-clause-size
unfolding role_for public_fields
returns-in-MassDelete-clause-size c = search rules

pub returns-in-MassDelete-clause-said : goal.returns-in-MassDelete-clause-said
unfolding role_for public_fields
returns-in-MassDelete-clause-said c = search rules

pub returns-in-Partial-clause-size : goal.returns-in-Partial-clause-size
unfolding role_for public_fields
returns-in-Partial-clause-size c = search rules

pub returns-in-Partial-clause-said : goal.returns-in-Partial-clause-said
unfolding role_for public_fields
returns-in-Partial-clause-said c = search rules

pub returns-in-Full-clause-size : goal.returns-in-Full-clause-size
unfolding role_for public_fields
returns-in-Full-clause-size c = search rules

pub returns-in-Full-clause-said : goal.returns-in-Full-clause-said
unfolding role_for public_fields
returns-in-Full-clause-said c = search rules

pub returns-in-Summary-clause-size : goal.returns-in-Summary-clause-size
unfolding role_for public_fields
returns-in-Summary-clause-size c = search rules

pub returns-in-Summary-clause-said : goal.returns-in-Summary-clause-said
unfolding role_for public_fields
returns-in-Summary-clause-said c = search rules
