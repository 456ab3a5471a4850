use Rattle.std.proofs.Common.{rules}
use Rattle.t7_layout.specs.Lookups.{place_in}
use Rattle.t7_layout.proofs.index.field_of_role.Goals as goal

pub returns-in-Some : goal.returns-in-Some
unfolding place_in
returns-in-Some c = search rules

pub returns-in-None : goal.returns-in-None
unfolding place_in
returns-in-None c = search rules
