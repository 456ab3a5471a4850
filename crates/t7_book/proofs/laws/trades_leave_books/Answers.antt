use Rattle.t7_book.proofs.Books as lemmas
use Rattle.t7_book.proofs.laws.trades_leave_books.Goals as goal

pub returns : goal.returns
returns c = lemmas.trades_leave_books
