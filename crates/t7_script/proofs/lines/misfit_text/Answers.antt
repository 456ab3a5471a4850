use Rattle.std.proofs.Common.{rules}
use Rattle.t7_script.specs.Lines.{misfit_words}
use Rattle.t7_script.proofs.lines.misfit_text.Goals as goal

pub returns-in-Security-clause-value : goal.returns-in-Security-clause-value
unfolding misfit_words
returns-in-Security-clause-value c = search rules

pub returns-in-Absent-clause-value : goal.returns-in-Absent-clause-value
unfolding misfit_words
returns-in-Absent-clause-value c = search rules

pub returns-in-Price-clause-value : goal.returns-in-Price-clause-value
unfolding misfit_words
returns-in-Price-clause-value c = search rules

pub returns-in-Quantity-clause-value : goal.returns-in-Quantity-clause-value
unfolding misfit_words
returns-in-Quantity-clause-value c = search rules

pub returns-in-Present-clause-value : goal.returns-in-Present-clause-value
unfolding misfit_words
returns-in-Present-clause-value c = search rules

pub returns-in-Full-clause-value : goal.returns-in-Full-clause-value
unfolding misfit_words
returns-in-Full-clause-value c = search rules
