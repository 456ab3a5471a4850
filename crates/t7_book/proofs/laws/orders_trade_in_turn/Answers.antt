use Rattle.t7_book.proofs.FirstTrade as lemmas
use Rattle.t7_book.proofs.laws.orders_trade_in_turn.Goals as goal

pub returns : goal.returns
returns c = lemmas.all_trade_in_turn
