use Rattle.t7_orders.proofs.GrowFacts as lemmas
use Rattle.t7_orders.proofs.laws.responses_grow.Goals as goal

pub returns : goal.returns
returns c = lemmas.responses_grow
