-- The book behind the last message.
use Rattle.std.proofs.Common.{◌≡◌, List, [], ◌∷◌, ◌++◌, length, refl, ◌∙◌}
use Rattle.t7_base.specs.Listing.{Listing}
use Rattle.t7_book.specs.declared.order.Order.{Order}
use Rattle.t7_book.specs.declared.command.Command.{Command}
use Rattle.t7_book.specs.Orders.{BookState, empty_book, roster_of}
use Rattle.t7_book.specs.Steps.{Effect, book_after, list_after, steps}
use Rattle.t7_book.specs.Trace.{book_left, list_at, market, trace, trace_from}

list_at_last : (orders : List Order) (ss : List Effect) → list_at orders ss (length ss) ≡ list_after ss orders
list_at_last orders [] = refl
list_at_last orders (s ∷ ss) = list_at_last s.1 ss

list_after-append : (ss ts : List Effect) (orders : List Order) → list_after (ss ++ ts) orders ≡ list_after ts (list_after ss orders)
list_after-append [] ts orders = refl
list_after-append (s ∷ ss) ts orders = list_after-append ss ts s.1

list_left : (book : BookState) (cs : List Command) → list_after (trace_from book cs) book.orders ≡ (book_left book cs).orders
list_left book [] = refl
list_left book (c ∷ cs) = list_after-append (steps book c) (trace_from (book_after book c) cs) book.orders ∙ list_left (book_after book c) cs

pub last_market : (listing : Listing) (cs : List Command) → market listing cs (length (trace listing cs)) ≡ (book_left (empty_book (roster_of listing)) cs).orders
last_market listing cs = list_at_last [] (trace listing cs) ∙ list_left (empty_book (roster_of listing)) cs
