use Rattle.t7_book.proofs.Abouts.{day_about}
use Rattle.t7_book.proofs.laws.messages_are_about_the_product.Goals as goal

pub returns : goal.returns
returns c = day_about
