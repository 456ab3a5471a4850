use Rattle.t7_eobi.proofs.ItemFacts.{lives_ranged, snaps_ranged}
use Rattle.t7_eobi.proofs.laws.items_are_in_their_ranges.Goals as goal

pub returns : goal.returns
returns c = record { live = lives_ranged; snap = snaps_ranged }
