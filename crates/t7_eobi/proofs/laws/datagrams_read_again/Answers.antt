use Rattle.t7_eobi.proofs.GrammarFacts.{reads_live, reads_snap}
use Rattle.t7_eobi.proofs.laws.datagrams_read_again.Goals as goal

pub returns : goal.returns
returns c = record { live = reads_live; snap = reads_snap }
