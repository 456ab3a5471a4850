use Rattle.std.proofs.Common.{rules}
use Rattle.t7_eobi.specs.Bytes.{snap_role}
use Rattle.t7_layout.specs.Roles.{family_of}
use Rattle.t7_eobi.proofs.roles.snap_role.Goals as goal

pub returns-in-Product-clause-role : goal.returns-in-Product-clause-role
unfolding snap_role family_of
returns-in-Product-clause-role c = search rules

pub returns-in-Product-clause-family : goal.returns-in-Product-clause-family
unfolding snap_role family_of
returns-in-Product-clause-family c = search rules

pub returns-in-Instrument-clause-role : goal.returns-in-Instrument-clause-role
unfolding snap_role family_of
returns-in-Instrument-clause-role c = search rules

pub returns-in-Instrument-clause-family : goal.returns-in-Instrument-clause-family
unfolding snap_role family_of
returns-in-Instrument-clause-family c = search rules

pub returns-in-Order-clause-role : goal.returns-in-Order-clause-role
unfolding snap_role family_of
returns-in-Order-clause-role c = search rules

pub returns-in-Order-clause-family : goal.returns-in-Order-clause-family
unfolding snap_role family_of
returns-in-Order-clause-family c = search rules
