use Rattle.t7_layout.proofs.FoundFacts.{each_role_is, no_role_is}
use Rattle.t7_layout.proofs.templates.Template.role.Goals as goal

pub returns-clause-some : goal.returns-clause-some
returns-clause-some c = each_role_is c.args.self.now c.self.inside.role (rw (← c.self.view_is) c.self.invariant.role_is)

pub returns-clause-none : goal.returns-clause-none
returns-clause-none c = no_role_is c.args.self.now c.self.inside.role (rw (← c.self.view_is) c.self.invariant.role_is)
