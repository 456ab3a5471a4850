use Rattle.t7_layout.proofs.FoundFacts.{role_family, role_id, role_own, role_whole}
use Rattle.t7_layout.proofs.table.Table.role.Goals as goal

pub returns-clause-layout : goal.returns-clause-layout
returns-clause-layout c = role_whole c.self.inside.templates.items c.args.role c.template_of_role.result.now c.self.invariant.table (rw c.deref.ensures.value at c.template_of_role.ensures)

pub returns-clause-family : goal.returns-clause-family
returns-clause-family c = role_family c.self.inside.templates.items c.args.role c.template_of_role.result.now (rw c.deref.ensures.value at c.template_of_role.ensures)

pub returns-clause-own : goal.returns-clause-own
returns-clause-own c = role_own c.self.inside.templates.items c.args.role c.template_of_role.result.now (rw c.deref.ensures.value at c.template_of_role.ensures)

pub returns-clause-id : goal.returns-clause-id
returns-clause-id c = rw (← c.self.view_is) (role_id c.self.inside.templates.items c.args.role c.template_of_role.result.now c.self.invariant.table (rw c.deref.ensures.value at c.template_of_role.ensures))
