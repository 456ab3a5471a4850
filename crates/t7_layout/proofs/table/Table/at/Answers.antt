use Rattle.t7_layout.proofs.IndexFacts.{field_inside, field_is, role_field}
use Rattle.t7_layout.proofs.table.Table.at.Goals as goal

pub field_of-requires : goal.field_of-requires
field_of-requires c = rw c.deref.ensures.value (field_inside c.self.inside.templates.items c.self.inside.role_fields.items c.args.role c.args.name c.self.invariant.fields_are)

pub returns-clause-place : goal.returns-clause-place
returns-clause-place c =
    let layouts = c.self.inside.templates.items in
    rw (← c.self.view_is) (field_is layouts c.self.inside.role_fields.items c.args.role c.args.name c.field_of.result c.self.invariant.fields_are (c.self.invariant.table.roles c.args.role) c.requires (rw c.deref.ensures.value at c.field_of.ensures))

pub returns-clause-field : goal.returns-clause-field
returns-clause-field c =
    let layouts = c.self.inside.templates.items in
    let place = field_is layouts c.self.inside.role_fields.items c.args.role c.args.name c.field_of.result c.self.invariant.fields_are (c.self.invariant.table.roles c.args.role) c.requires (rw c.deref.ensures.value at c.field_of.ensures) in
    rw (← c.self.view_is) (role_field layouts c.args.role c.args.name c.field_of.result place).there

pub returns-clause-kind : goal.returns-clause-kind
returns-clause-kind c =
    let layouts = c.self.inside.templates.items in
    let place = field_is layouts c.self.inside.role_fields.items c.args.role c.args.name c.field_of.result c.self.invariant.fields_are (c.self.invariant.table.roles c.args.role) c.requires (rw c.deref.ensures.value at c.field_of.ensures) in
    (role_field layouts c.args.role c.args.name c.field_of.result place).kind

pub returns-clause-width : goal.returns-clause-width
returns-clause-width c =
    let layouts = c.self.inside.templates.items in
    let place = field_is layouts c.self.inside.role_fields.items c.args.role c.args.name c.field_of.result c.self.invariant.fields_are (c.self.invariant.table.roles c.args.role) c.requires (rw c.deref.ensures.value at c.field_of.ensures) in
    (role_field layouts c.args.role c.args.name c.field_of.result place).width

pub returns-clause-null : goal.returns-clause-null
returns-clause-null c =
    let layouts = c.self.inside.templates.items in
    let place = field_is layouts c.self.inside.role_fields.items c.args.role c.args.name c.field_of.result c.self.invariant.fields_are (c.self.invariant.table.roles c.args.role) c.requires (rw c.deref.ensures.value at c.field_of.ensures) in
    c.self.invariant.table.nulls c.args.role c.args.name c.field_of.result c.requires place
