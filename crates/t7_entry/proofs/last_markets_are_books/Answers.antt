use Rattle.t7_entry.proofs.LastBook.{last_market}
use Rattle.t7_entry.proofs.last_markets_are_books.Goals as goal

pub returns : goal.returns
returns c = last_market
