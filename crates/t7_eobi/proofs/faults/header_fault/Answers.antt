use Rattle.std.proofs.Common.{◌∙◌, sym}
use Rattle.t7_eobi.proofs.FaultFacts.{faultless_sound}
use Rattle.std.proofs.Common.{rules}
use Rattle.t7_eobi.specs.Faults.{header_fault}
use Rattle.t7_layout.specs.Roles.{family_of}
use Rattle.t7_eobi.proofs.faults.header_fault.Goals as goal

pub names_product-requires-clause-sound : goal.names_product-requires-clause-sound
names_product-requires-clause-sound c = faultless_sound c.read-m.result (sym c.fields_fault.ensures ∙ c.in_default.is)

pub returns-then-not-is_header : goal.returns-then-not-is_header
unfolding header_fault family_of
returns-then-not-is_header c = search rules

pub returns-then-not-has_room : goal.returns-then-not-has_room
unfolding header_fault family_of
returns-then-not-has_room c = search rules

pub read-m-requires-clause-family : goal.read-m-requires-clause-family
unfolding header_fault family_of
read-m-requires-clause-family c = search rules

pub returns-in-Some : goal.returns-in-Some
unfolding header_fault family_of
returns-in-Some c = search rules

pub returns-then-names_product : goal.returns-then-names_product
unfolding header_fault family_of
returns-then-names_product c = search rules

pub returns-else-names_product : goal.returns-else-names_product
unfolding header_fault family_of
returns-else-names_product c = search rules
