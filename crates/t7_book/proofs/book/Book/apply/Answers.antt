use Rattle.std.proofs.Common.{sym, subst}
use Rattle.t7_book.specs.Orders.{BookState}
use Rattle.t7_book.specs.Commands.{IsForProduct}
use Rattle.t7_book.proofs.NextBook.{still_running}
use Rattle.t7_book.proofs.book.Book.apply.Goals as goal

pub invariant_of-self : goal.invariant_of-self
invariant_of-self c =
    still_running _ _ c.args.command.now _ _ _ _ _ c.self.invariant (subst (λ (b : BookState). IsForProduct b.roster c.args.command.now) (sym c.self.view_is) c.requires.product) c.apply.ensures
