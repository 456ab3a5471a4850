use Rattle.t7_layout.proofs.PairFacts.{has_pair}
use Rattle.t7_layout.proofs.pairs.has.Goals as goal

pub returns : goal.returns
returns c = has_pair c.args.place c.args.rows.now c.args.at c.args.pairs.now c.pair.result c.contains.result c.pair.ensures.family c.pair.ensures.other c.requires.passed c.contains.ensures
