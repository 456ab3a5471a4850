use Rattle.std.proofs.Common.{rules}
use Rattle.t7_eobi.specs.Faults.{names_product}
use Rattle.t7_eobi.specs.Ranges.{counted, is_live}
use Rattle.t7_fields.specs.Messages.{is_among}
use Rattle.t7_layout.specs.Roles.{name_number, required, kind_of}
use Rattle.t7_eobi.proofs.faults.names_product.Goals as goal

pub number-requires-clause-there : goal.number-requires-clause-there
unfolding names_product counted is_among name_number is_live required kind_of
number-requires-clause-there c = search rules

pub number-requires-clause-kind : goal.number-requires-clause-kind
unfolding names_product counted is_among name_number is_live required kind_of
number-requires-clause-kind c = search rules

pub returns : goal.returns
unfolding names_product counted is_among name_number is_live required kind_of
returns c = search rules
