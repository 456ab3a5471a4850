use Rattle.t7_mbook.proofs.Room.{add_has_room, modified_is_there, part_is_greater}
use Rattle.t7_linear.proofs.change.carry_out.Goals as goal

-- an Add that fits has room
pub place-requires : goal.place-requires
place-requires c = add_has_room c.args.securities.now c.args.orders.now c.in-Add.is c.requires

-- a Modify that fits finds the order that it takes out
pub place-requires-in-Modify : goal.place-requires-in-Modify
place-requires-in-Modify c = c.remove.ensures.room (modified_is_there c.args.securities.now c.args.orders.now c.in-Modify.is c.requires)

-- a Partial that fits leaves something
pub lower-requires : goal.lower-requires
lower-requires c = part_is_greater c.args.securities.now c.args.orders.now c.in-Partial.is c.requires
