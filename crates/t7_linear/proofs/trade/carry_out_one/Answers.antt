use Rattle.std.proofs.Common.{rules}
use Rattle.t7_book.proofs.ListLemmas.{length_filter_le}
use Rattle.t7_book.proofs.Lists.{length_renewed}
use Rattle.t7_linear.proofs.trade.carry_out_one.Goals as goal

pub returns-in-None-clause-fewer : goal.returns-in-None-clause-fewer
returns-in-None-clause-fewer c = search (rules, length_filter_le, length_renewed)
