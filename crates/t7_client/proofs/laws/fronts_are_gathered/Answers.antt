use Rattle.t7_client.proofs.FrontFacts.{fronts_are_gathered}
use Rattle.t7_client.proofs.laws.fronts_are_gathered.Goals as goal

pub returns : goal.returns
returns c = fronts_are_gathered
