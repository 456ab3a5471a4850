use Rattle.t7_book.proofs.Lefts.{left_book}
use Rattle.t7_book.proofs.laws.books_left_are_whole.Goals as goal

pub returns : goal.returns
returns c = left_book
