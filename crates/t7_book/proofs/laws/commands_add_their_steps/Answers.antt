use Rattle.t7_book.proofs.Books as lemmas
use Rattle.t7_book.proofs.laws.commands_add_their_steps.Goals as goal

pub returns : goal.returns
returns c = lemmas.commands_add_their_steps
