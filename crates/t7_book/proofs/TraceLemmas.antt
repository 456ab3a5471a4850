-- Lemmas on traces.
use Rattle.std.proofs.Common.{◌≡◌, ℕ, ◌≤◌, zero, suc, List, [], ◌∷◌, ◌++◌, length, refl, ap, sym, ◌∙◌, append_assoc, arith}
use Rattle.t7_book.specs.declared.order.Order.{Order}
use Rattle.t7_book.specs.declared.command.Command.{Command}
use Rattle.t7_book.specs.Orders.{BookState, empty_book, roster_of}
use Rattle.t7_book.specs.Steps.{Effect, steps, book_after}
use Rattle.t7_book.specs.Trace.{trace, trace_from, book_left, list_at}
use Rattle.t7_book.specs.Laws.{TracesGrow}

-- the trace of two lists of commands
pub trace_from-append : (book : BookState) (cs more : List Command) → trace_from book (cs ++ more) ≡ trace_from book cs ++ trace_from (book_left book cs) more
trace_from-append book [] more = refl
trace_from-append book (c ∷ cs) more =
    ap (λ (t : List Effect). steps book c ++ t) (trace_from-append (book_after book c) cs more)
    ∙ sym (append_assoc (steps book c) (trace_from (book_after book c) cs) (trace_from (book_left (book_after book c) cs) more))

-- pairs that follow don't change the list at a place before them
pub list_at-append : (ss ts : List Effect) (orders : List Order) (n : ℕ) → n ≤ length ss → list_at orders (ss ++ ts) n ≡ list_at orders ss n
list_at-append ss ts orders zero le = refl
list_at-append [] ts orders (suc n) le = absurd (omega arith)
list_at-append (s ∷ ss) ts orders (suc n) le = list_at-append ss ts s.1 n (omega arith)

pub traces_grow : TracesGrow
traces_grow listing cs more =
    let split = trace_from-append (empty_book (roster_of listing)) cs more in
    record {
      messages = (trace_from (book_left (empty_book (roster_of listing)) cs) more, split);
      books = λ n le. ap (λ (t : List Effect). list_at [] t n) split ∙ list_at-append (trace listing cs) _ [] n le;
    }
