use Rattle.t7_orders.proofs.TakenFacts as lemmas
use Rattle.t7_orders.proofs.laws.commands_are_taken.Goals as goal

pub returns : goal.returns
returns c = lemmas.commands_are_taken
