-- What a command gives: its messages, each beside the book after it, its notes and its answer; and the book that it leaves.
use Rattle.std.specs.Prelude.{ℕ, ◌+◌, ◌-◌, not, ◌==◌, if◌then◌else◌, ℤ, List, [], ◌∷◌, ◌++◌, length, map, Option, Some, None, zero, suc, ◌≡◌, Result, Err, IfOk, OnOk, IfErr, OnErr, MatchOption}
use Rattle.std.specs.List.{filter}
use Rattle.t7_base.specs.declared.public.Public.{Public}
use Rattle.t7_base.specs.declared.public.Public.TheVariants.{Add, Modify, SamePriority, Delete, MassDelete, Summary}
use Rattle.t7_book.specs.declared.order.Order.{Order}
use Rattle.t7_book.specs.declared.trade.Trade.{Trade}
use Rattle.t7_book.specs.declared.command.Command.{Command}
use Rattle.t7_book.specs.declared.command.Command.TheVariants as command
use Rattle.t7_book.specs.declared.command.Note.{Note}
use Rattle.t7_book.specs.declared.command.Note.TheVariants.{Cleared}
use Rattle.t7_book.specs.declared.command.Done.{Done}
use Rattle.t7_book.specs.declared.command.BookRefusal.{BookRefusal}
use Rattle.t7_book.specs.declared.command.BookRefusal.TheVariants.{Memory}
use Rattle.t7_book.specs.Orders.{BookState, with_order, without, renewed, with_left, order_of, is_in, is_of}
use Rattle.t7_book.specs.Trades.{trades, traded, last_price, after_trade, after_trades, execution, fills}
use Rattle.t7_book.specs.Commands.{new_stamp, new_order, with_total, changed_order, keeps_priority, refusal}

-- a message, and the book after it
abbrev pub Effect : Type 0
Effect = Public × List Order

-- the trades, each beside the book after it
abbrev pub executions : List Trade → List Order → List Effect
executions [] orders = []
executions (t ∷ ts) orders = (execution t, after_trade t orders) ∷ executions ts (after_trade t orders)

-- what is left of an incoming order comes to rest
abbrev pub remainder : List ℤ → Order → ℕ → List Order → List Effect
remainder securities x zero orders = []
remainder securities x (suc n) orders = (Add (with_left x (suc n)).rest, with_order securities (with_left x (suc n)) orders) ∷ []

-- the summary of an incoming order with these trades: their sum, and the price of the last one
abbrev pub summary : Order → List Trade → Public
summary x ts = Summary x.rest.security x.rest.side x.rest.stamp (traded ts) (last_price x.rest.price ts)

-- an incoming order with these trades: a summary beside the unchanged book, the trades, and what is left
abbrev pub crossing : List ℤ → Order → List Trade → List Order → List Effect
crossing securities x ts orders =
    (summary x ts, orders)
    ∷ executions ts orders ++ remainder securities x (x.rest.qty - traded ts) (after_trades ts orders)

-- a new order: it comes to rest where it has no trades
abbrev pub arrival : List ℤ → Order → List Trade → List Order → List Effect
arrival securities x [] orders = (Add x.rest, with_order securities x orders) ∷ []
arrival securities x (t ∷ ts) orders = crossing securities x (t ∷ ts) orders

-- the order y becomes x with a new stamp; the list is the book without y
abbrev pub change : List ℤ → Order → Order → List Trade → List Order → List Effect
change securities y x [] orders = (Modify x.rest.security x.rest.side y.rest.stamp y.rest.price y.rest.qty x.rest.stamp x.rest.price x.rest.qty, with_order securities x orders) ∷ []
change securities y x (t ∷ ts) orders = (Delete y.rest, orders) ∷ crossing securities x (t ∷ ts) orders

-- the orders go, one after another
abbrev pub deletions : List Order → List Order → List Effect
deletions [] orders = []
deletions (y ∷ ys) orders = (Delete y.rest, without y.rest orders) ∷ deletions ys (without y.rest orders)

-- a modification of the order that was found: it keeps its stamp, or it takes a new one and may trade
abbrev pub modification : BookState → Option Order → ℕ → ℤ → ℕ → List Effect
modification book None moment price qty = []
modification book (Some y) moment price qty =
    let x = changed_order y price qty (new_stamp book moment) in
    let others = without y.rest book.orders in
    if keeps_priority y price qty
    then (SamePriority y.rest.security y.rest.side y.rest.stamp y.rest.price y.rest.qty (with_total y qty).rest.qty, renewed (with_total y qty) book.orders) ∷ []
    else change book.roster.securities y x (trades x.rest others) others

-- a deletion of the order that was found
abbrev pub cancellation : Option Order → List Order → List Effect
cancellation None orders = []
cancellation (Some y) orders = (Delete y.rest, without y.rest orders) ∷ []

-- the messages of a command, each beside the book after it
abbrev pub steps : BookState → Command → List Effect
steps book (command.New moment session security side price qty client) =
    let x = new_order book moment session security side price qty in
    arrival book.roster.securities x (trades x.rest book.orders) book.orders
steps book (command.Modify moment session order price qty client) =
    modification book (order_of book.orders session order) moment price qty
steps book (command.Delete moment session order client) =
    cancellation (order_of book.orders session order) book.orders
steps book (command.DeleteAll moment session security) = deletions (filter (is_of session security) book.orders) book.orders
steps book (command.Clear moment security) = (MassDelete security, filter (λ y. not (is_in security y)) book.orders) ∷ []

-- the messages alone
abbrev pub messages : List Effect → List Public
messages ss = map (λ s. s.0) ss

-- the list beside the last message, or the list before where there is none
abbrev pub list_after : List Effect → List Order → List Order
list_after [] orders = orders
list_after (s ∷ ss) orders = list_after ss s.1

-- a New takes a new id
abbrev pub last_id_after : BookState → Command → ℕ
last_id_after book (command.New moment session security side price qty client) = book.last_id + 1
last_id_after book (command.Modify moment session order price qty client) = book.last_id
last_id_after book (command.Delete moment session order client) = book.last_id
last_id_after book (command.DeleteAll moment session security) = book.last_id
last_id_after book (command.Clear moment security) = book.last_id

-- a modification of the order that was found takes a new stamp where it doesn't keep the priority
abbrev pub stamp_after_change : BookState → Option Order → ℕ → ℤ → ℕ → ℕ
stamp_after_change book None moment price qty = book.last_stamp
stamp_after_change book (Some y) moment price qty = if keeps_priority y price qty then book.last_stamp else new_stamp book moment

-- a New takes a new stamp, and a Modify that doesn't keep the priority
abbrev pub last_stamp_after : BookState → Command → ℕ
last_stamp_after book (command.New moment session security side price qty client) = new_stamp book moment
last_stamp_after book (command.Modify moment session order price qty client) = stamp_after_change book (order_of book.orders session order) moment price qty
last_stamp_after book (command.Delete moment session order client) = book.last_stamp
last_stamp_after book (command.DeleteAll moment session security) = book.last_stamp
last_stamp_after book (command.Clear moment security) = book.last_stamp

-- the book that a command leaves
abbrev pub book_after : BookState → Command → BookState
book_after book c = record {
  roster = book.roster;
  orders = list_after (steps book c) book.orders;
  last_id = last_id_after book c;
  last_stamp = last_stamp_after book c;
  applied = book.applied + 1;
}

-- how many orders each session has in the security, for those that have some
abbrev pub cleared : List ℕ → ℤ → List Order → List Note
cleared [] security orders = []
cleared (session ∷ sessions) security orders =
    let count = length (filter (is_of session security) orders) in
    if count == 0 then cleared sessions security orders else Cleared session count ∷ cleared sessions security orders

-- the notes of a modification of the order that was found: those of its trades
abbrev pub change_notes : BookState → Option Order → ℕ → ℤ → ℕ → List Note
change_notes book None moment price qty = []
change_notes book (Some y) moment price qty =
    let x = changed_order y price qty (new_stamp book moment) in
    if keeps_priority y price qty then [] else fills (trades x.rest (without y.rest book.orders)) qty x.rest.qty

-- the notes of a command
abbrev pub notes_of : BookState → Command → List Note
notes_of book (command.New moment session security side price qty client) =
    fills (trades (new_order book moment session security side price qty).rest book.orders) qty qty
notes_of book (command.Modify moment session order price qty client) = change_notes book (order_of book.orders session order) moment price qty
notes_of book (command.Delete moment session order client) = []
notes_of book (command.DeleteAll moment session security) = []
notes_of book (command.Clear moment security) = cleared book.roster.sessions security book.orders

-- the stamp of the order that was found, after its modification
abbrev pub changed_stamp : BookState → Option Order → ℕ → ℤ → ℕ → ℕ
changed_stamp book None moment price qty = 1
changed_stamp book (Some y) moment price qty = if keeps_priority y price qty then y.rest.stamp else new_stamp book moment

-- the stamp of the order that was found
abbrev pub stamp_of : Option Order → ℕ
stamp_of None = 1
stamp_of (Some y) = y.rest.stamp

-- the answer to a command: the order and its stamp, or how many orders it removed
abbrev pub done_of : BookState → Command → Done
done_of book (command.New moment session security side price qty client) = record { order = book.last_id + 1; stamp = new_stamp book moment; count = 0 }
done_of book (command.Modify moment session order price qty client) = record { order = order; stamp = changed_stamp book (order_of book.orders session order) moment price qty; count = 0 }
done_of book (command.Delete moment session order client) = record { order = order; stamp = stamp_of (order_of book.orders session order); count = 0 }
done_of book (command.DeleteAll moment session security) = record { order = 0; stamp = 1; count = length (filter (is_of session security) book.orders) }
done_of book (command.Clear moment security) = record { order = 0; stamp = 1; count = length (filter (is_in security) book.orders) }

-- a command is carried out: it answers, or it is refused and leaves everything as before
pub record Applies (old new : BookState) (c : Command) (old_out new_out : List Public) (old_notes new_notes : List Note) (result : Result Done BookRefusal) : Type 0 where
  pub answer : IfOk result (λ d. d ≡ done_of old c)
  pub book_left : OnOk result (new ≡ book_after old c)
  pub appended : OnOk result (new_out ≡ old_out ++ messages (steps old c))
  pub told : OnOk result (new_notes ≡ old_notes ++ notes_of old c)
  pub cause : MatchOption (refusal old c) (IfErr result (λ why. why ≡ Memory)) (λ why. result ≡ Err why)
  pub same_book : OnErr result (new ≡ old)
  pub same_out : OnErr result (new_out ≡ old_out)
  pub same_notes : OnErr result (new_notes ≡ old_notes)
