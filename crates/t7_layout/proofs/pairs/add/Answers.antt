use Rattle.t7_layout.proofs.PairFacts.{one_more}
use Rattle.t7_layout.proofs.pairs.add.Goals as goal

pub returns : goal.returns
returns c =
    one_more c.args.place c.args.rows.now c.args.at c.args.pairs.now c.insert.new.self c.pair.result c.requires.inside c.pair.ensures.family c.pair.ensures.other c.requires.passed
    c.in_ok-insert.ensures.updates
