use Rattle.std.proofs.Common.{◌∙◌, ap, length, rules}
use Rattle.t7_fields.proofs.WriteFacts.{adds, each_sayable, field_room}
use Rattle.std.proofs.Common.{arith, refl}
use Rattle.t7_fields.proofs.saying.say.Goals as goal

pub at-field-requires : goal.at-field-requires
at-field-requires c = (each_sayable c.args.role _ (c.args.name, c.args.number) c.requires.said.fit (0, omega arith, refl)).there

pub write_scalar-requires : goal.write_scalar-requires
write_scalar-requires c = record {
  room = rw c.offset.ensures.value (field_room c.args.table.now c.args.role (c.args.name, c.args.number) c.at-field.result (length c.args.out.now) c.at-field.ensures.table c.requires.said c.at-field.ensures.place c.requires.room);
}

pub returns-clause-said : goal.returns-clause-said
returns-clause-said c =
    adds c.args.table.now c.args.role (c.args.name, c.args.number) c.at-field.result c.args.out.now c.write_scalar.new.out c.at-field.ensures.table c.requires.said c.at-field.ensures.place
    c.write_scalar.ensures.sized (rw c.offset.ensures.value at c.write_scalar.ensures.bytes)
