use Rattle.std.proofs.Common.{rules}
use Rattle.t7_fields.specs.Spelling.{body_length, length_width}
use Rattle.t7_fields.proofs.view.body_length.Goals as goal

pub returns-in-Eti : goal.returns-in-Eti
unfolding body_length length_width
returns-in-Eti c = search rules

pub returns-in-Eobi : goal.returns-in-Eobi
unfolding body_length length_width
returns-in-Eobi c = search rules
