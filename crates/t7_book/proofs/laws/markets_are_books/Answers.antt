use Rattle.t7_book.proofs.Books as lemmas
use Rattle.t7_book.proofs.laws.markets_are_books.Goals as goal

pub returns : goal.returns
returns c = lemmas.markets_are_books
