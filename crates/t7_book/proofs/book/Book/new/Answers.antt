use Rattle.std.proofs.Common.{sym, subst, arith}
use Rattle.t7_book.specs.Sound.{IsRunning}
use Rattle.t7_book.proofs.book.Book.new.Goals as goal

pub invariant_of-result : goal.invariant_of-result
invariant_of-result c = subst IsRunning (sym c.in_ok-new.ensures) (record { list = record { in_order = tt; once = tt; whole = tt; ids = tt; few = omega arith; few_of_each = λ security. omega arith }; earlier = tt })
