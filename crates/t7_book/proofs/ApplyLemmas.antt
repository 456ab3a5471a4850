-- What each command does, from what its parts do.
use Rattle.std.proofs.Common.{◌≡◌, ℕ, ◌+◌, ℤ, pos, false, List, [], ◌++◌, refl, Ok, length, sym, ap, ◌∙◌, append-nil}
use Rattle.t7_base.specs.declared.ids.Side.{Side}
use Rattle.t7_base.specs.declared.public.Public.{Public}
use Rattle.t7_book.specs.declared.order.Order.{Order}
use Rattle.t7_book.specs.declared.command.Command.TheVariants as command
use Rattle.t7_book.specs.declared.command.Note.{Note}
use Rattle.t7_book.specs.Orders.{BookState}
use Rattle.t7_book.specs.Trades.{trades, fills}
use Rattle.t7_book.specs.Orders.{is_of}
use Rattle.t7_book.specs.Commands.{new_stamp, is_full}
use Rattle.t7_book.specs.Steps.{Effect, messages, list_after, arrival, deletions, Applies}
use Rattle.std.specs.List.{filter}
use Rattle.t7_book.proofs.StepLemmas.{messages_deletions}

module _ (book : BookState) (moment session : ℕ) (security : ℤ) (side : Side) (price : ℤ) (qty client : ℕ) where
  -- the order with this stamp, and the pairs that it gives
  abbrev pub entering : ℕ → Order
  entering stamp = record {
    rest = record { security = security; side = side; price = price; stamp = stamp; qty = qty };
    total = qty;
    executed = pos 0;
    owner = session;
    id = book.last_id + 1;
  }

  abbrev pub entry : ℕ → List Effect
  entry stamp = arrival book.roster.securities (entering stamp) (trades (entering stamp).rest book.orders) book.orders

  -- a New that is not refused
  pub entered : (stamp last_stamp : ℕ) (orders : List Order) (out new_out : List Public) (told new_told : List Note)
      → stamp ≡ new_stamp book moment → last_stamp ≡ stamp → is_full book.orders security ≡ false
      → orders ≡ list_after (entry stamp) book.orders → new_out ≡ out ++ messages (entry stamp) → new_told ≡ told ++ fills (trades (entering stamp).rest book.orders) qty qty
      → Applies book (record { roster = book.roster; orders = orders; last_id = book.last_id + 1; last_stamp = last_stamp; applied = book.applied + 1 })
      (command.New moment session security side price qty client) out new_out told new_told (Ok (record { order = book.last_id + 1; stamp = stamp; count = 0 }))
  entered stamp last_stamp orders out new_out told new_told fresh last room orders_are out_is told_is = record {
    answer = rw fresh refl;
    book_left = rw (orders_are, last, fresh) refl;
    appended = rw (out_is, fresh) refl;
    told = told_is;
    cause = rw room tt;
    same_book = tt;
    same_out = tt;
    same_notes = tt;
  }

-- a DeleteAll
pub withdrew : (book : BookState) (moment session : ℕ) (security : ℤ) (gone orders : List Order) (out new_out : List Public) (told : List Note) (stamp count : ℕ)
    → gone ≡ filter (is_of session security) book.orders → orders ≡ list_after (deletions gone book.orders) book.orders → new_out ≡ out ++ messages (deletions gone [])
    → stamp ≡ 1 → count ≡ length gone
    → Applies book (record book { orders = orders; applied = book.applied + 1 }) (command.DeleteAll moment session security) out new_out told told (Ok (record { order = 0; stamp = stamp; count = count }))
withdrew book moment session security gone orders out new_out told stamp count gone_is orders_are out_is first counted = record {
  answer = rw (first, counted, gone_is) refl;
  book_left = rw (orders_are, gone_is) refl;
  appended = out_is ∙ ap (λ (m : List Public). out ++ m) (messages_deletions gone [] book.orders) ∙ ap (λ (ys : List Order). out ++ messages (deletions ys book.orders)) gone_is;
  told = sym (append-nil told);
  cause = tt;
  same_book = tt;
  same_out = tt;
  same_notes = tt;
}
