use Rattle.t7_layout.specs.Roles.{all_names, all_roles}
use Rattle.t7_layout.proofs.IndexFacts.{role_fields_are, role_places}
use Rattle.t7_layout.proofs.table.indexed.Goals as goal

pub invariant_of-result : goal.invariant_of-result
unfolding all_names all_roles
invariant_of-result c = record {
  table = c.requires.table;
  roles_are = rw (c.in_ok-role_places.ensures, c.deref.ensures.value) (role_places c.args.templates.items);
  fields_are = rw (c.in_ok-role_fields.ensures, c.deref-2.ensures.value) (role_fields_are c.args.templates.items);
  eti_are = rw c.deref-3.ensures.value at c.in_ok-eti_places.ensures;
  eobi_are = rw c.deref-4.ensures.value at c.in_ok-eobi_places.ensures;
}
