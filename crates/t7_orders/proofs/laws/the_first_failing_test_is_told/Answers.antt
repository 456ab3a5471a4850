use Rattle.t7_orders.proofs.TableFacts as lemmas
use Rattle.t7_orders.proofs.laws.the_first_failing_test_is_told.Goals as goal

pub returns : goal.returns
returns c = lemmas.first_failing_is_told
