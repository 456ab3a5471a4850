use Rattle.std.proofs.Common.{rules}
use Rattle.t7_eobi.specs.Bytes.{role_for}
use Rattle.t7_layout.specs.Roles.{family_of}
use Rattle.t7_eobi.proofs.roles.role_for.Goals as goal

pub returns-in-Add-clause-role : goal.returns-in-Add-clause-role
unfolding role_for family_of
returns-in-Add-clause-role c = search rules

pub returns-in-Add-clause-family : goal.returns-in-Add-clause-family
unfolding role_for family_of
returns-in-Add-clause-family c = search rules

pub returns-in-Modify-clause-role : goal.returns-in-Modify-clause-role
unfolding role_for family_of
returns-in-Modify-clause-role c = search rules

pub returns-in-Modify-clause-family : goal.returns-in-Modify-clause-family
unfolding role_for family_of
returns-in-Modify-clause-family c = search rules

pub returns-in-SamePriority-clause-role : goal.returns-in-SamePriority-clause-role
unfolding role_for family_of
returns-in-SamePriority-clause-role c = search rules

pub returns-in-SamePriority-clause-family : goal.returns-in-SamePriority-clause-family
unfolding role_for family_of
returns-in-SamePriority-clause-family c = search rules

pub returns-in-Delete-clause-role : goal.returns-in-Delete-clause-role
unfolding role_for family_of
returns-in-Delete-clause-role c = search rules

pub returns-in-Delete-clause-family : goal.returns-in-Delete-clause-family
unfolding role_for family_of
returns-in-Delete-clause-family c = search rules

pub returns-in-MassDelete-clause-role : goal.returns-in-MassDelete-clause-role
unfolding role_for family_of
returns-in-MassDelete-clause-role c = search rules

pub returns-in-MassDelete-clause-family : goal.returns-in-MassDelete-clause-family
unfolding role_for family_of
returns-in-MassDelete-clause-family c = search rules

pub returns-in-Partial-clause-role : goal.returns-in-Partial-clause-role
unfolding role_for family_of
returns-in-Partial-clause-role c = search rules

pub returns-in-Partial-clause-family : goal.returns-in-Partial-clause-family
unfolding role_for family_of
returns-in-Partial-clause-family c = search rules

pub returns-in-Full-clause-role : goal.returns-in-Full-clause-role
unfolding role_for family_of
returns-in-Full-clause-role c = search rules

pub returns-in-Full-clause-family : goal.returns-in-Full-clause-family
unfolding role_for family_of
returns-in-Full-clause-family c = search rules

pub returns-in-Summary-clause-role : goal.returns-in-Summary-clause-role
unfolding role_for family_of
returns-in-Summary-clause-role c = search rules

pub returns-in-Summary-clause-family : goal.returns-in-Summary-clause-family
unfolding role_for family_of
returns-in-Summary-clause-family c = search rules
