use Rattle.std.proofs.Common.{rules}
use Rattle.t7_fields.specs.Spelling.{length_width}
use Rattle.t7_fields.proofs.view.length_width.Goals as goal

pub returns-in-Eti-clause-value : goal.returns-in-Eti-clause-value
unfolding length_width
returns-in-Eti-clause-value c = search rules

pub returns-in-Eobi-clause-value : goal.returns-in-Eobi-clause-value
unfolding length_width
returns-in-Eobi-clause-value c = search rules
