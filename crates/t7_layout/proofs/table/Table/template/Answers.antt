use Rattle.t7_layout.proofs.FoundFacts.{each_found_family, each_found_role, each_found_whole}
use Rattle.t7_layout.proofs.table.Table.template.Goals as goal

pub returns-clause-layout : goal.returns-clause-layout
returns-clause-layout c = each_found_whole c.self.inside.templates.items c.args.family c.args.id c.template_of_id.result c.self.invariant.table (rw c.deref.ensures.value at c.template_of_id.ensures)

pub returns-clause-family : goal.returns-clause-family
returns-clause-family c = each_found_family c.self.inside.templates.items c.args.family c.args.id c.template_of_id.result (rw c.deref.ensures.value at c.template_of_id.ensures)

pub returns-clause-role : goal.returns-clause-role
returns-clause-role c =
    rw (← c.self.view_is) (each_found_role c.self.inside.templates.items c.args.family c.args.id c.template_of_id.result c.self.invariant.table (rw c.deref.ensures.value at c.template_of_id.ensures))
