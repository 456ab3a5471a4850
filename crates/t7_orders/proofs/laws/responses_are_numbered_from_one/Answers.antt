use Rattle.t7_orders.proofs.GrowFacts as lemmas
use Rattle.t7_orders.proofs.laws.responses_are_numbered_from_one.Goals as goal

pub returns : goal.returns
returns c = lemmas.numbered_from_one
