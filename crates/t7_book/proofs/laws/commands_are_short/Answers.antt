use Rattle.t7_book.proofs.Bounds as lemmas
use Rattle.t7_book.proofs.laws.commands_are_short.Goals as goal

pub returns : goal.returns
returns c = lemmas.commands_are_short
