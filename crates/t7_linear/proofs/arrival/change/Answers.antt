use Rattle.std.proofs.Common.{rules}
use Rattle.t7_book.proofs.StepLemmas.{messages_change, list_after_change}
use Rattle.t7_book.proofs.TradeLemmas.{trades_without}
use Rattle.t7_linear.proofs.arrival.change.Goals as goal

pub returns-clause-orders : goal.returns-clause-orders
returns-clause-orders c = search (rules, messages_change, list_after_change, trades_without)

pub returns-clause-out : goal.returns-clause-out
returns-clause-out c = search (rules, messages_change, list_after_change, trades_without)

pub returns-clause-notes : goal.returns-clause-notes
returns-clause-notes c = search (rules, messages_change, list_after_change, trades_without)
