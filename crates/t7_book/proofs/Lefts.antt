-- The book that accepted commands leave is a book.
use Rattle.std.proofs.Common.{◌≡◌, ℕ, List, [], ◌∷◌, None, arith}
use Rattle.t7_base.specs.Listing.{Listing}
use Rattle.t7_book.specs.declared.order.Order.{Order}
use Rattle.t7_book.specs.declared.command.Command.{Command}
use Rattle.t7_book.specs.Orders.{BookState, Roster, empty_book, roster_of}
use Rattle.t7_book.specs.Commands.{IsForProduct, refusal}
use Rattle.t7_book.specs.Steps.{Effect, book_after, last_stamp_after, list_after, steps}
use Rattle.t7_book.specs.Trace.{AreAccepted, AreAcceptedFrom, book_left}
use Rattle.t7_book.specs.About.{IsLeft}
use Rattle.t7_book.specs.Laws.{IsWhole}
use Rattle.t7_book.proofs.Fit.{IsFit, Known}
use Rattle.t7_book.proofs.Lists.{each_weaker}
use Rattle.t7_book.proofs.Running.{Run}
use Rattle.t7_book.proofs.RunningDay.{Any, BookFits, any_links, run_steps}

fit_after : (roster : Roster) (last : ℕ) (orders : List Order) (ss : List Effect) → Run roster Any last orders ss → IsFit roster last (list_after ss orders)
fit_after roster last orders [] run = run
fit_after roster last orders (s ∷ ss) run = fit_after roster last s.1 ss run.2

-- the book that a command leaves
pub fit_next : (book : BookState) (c : Command) → BookFits book → IsForProduct book.roster c → refusal book c ≡ None → BookFits (book_after book c)
fit_next book c fit product allowed = fit_after book.roster (last_stamp_after book c) book.orders (steps book c) (run_steps Any book (any_links book.roster) c fit product allowed)

fit_left : (book : BookState) (cs : List Command) → BookFits book → AreAcceptedFrom book cs → BookFits (book_left book cs)
fit_left book [] fit accepted = fit
fit_left book (c ∷ cs) fit accepted =
    fit_left (book_after book c) cs (fit_next book c fit accepted.0 accepted.1) accepted.2

pub left_book : (listing : Listing) (cs : List Command) → AreAccepted listing cs → IsLeft (book_left (empty_book (roster_of listing)) cs)
left_book listing cs accepted =
    let roster = roster_of listing in
    let left = book_left (empty_book roster) cs in
    let fit = fit_left (empty_book roster) cs (record { distinct = tt; in_order = tt; known = tt; few = omega arith }) accepted.each in
    record {
      whole = each_weaker (Known left.roster left.last_stamp) IsWhole (λ y known. known.whole) left.orders fit.known;
      few = fit.few;
    }
