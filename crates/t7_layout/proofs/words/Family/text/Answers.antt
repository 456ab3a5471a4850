use Rattle.std.proofs.Common.{rules}
use Rattle.t7_layout.specs.Rows.{family_text}
use Rattle.t7_layout.proofs.words.Family.text.Goals as goal

pub returns-in-Eti : goal.returns-in-Eti
unfolding family_text
returns-in-Eti c = search rules

pub returns-in-Eobi : goal.returns-in-Eobi
unfolding family_text
returns-in-Eobi c = search rules
