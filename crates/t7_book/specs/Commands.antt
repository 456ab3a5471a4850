-- What a command means for a book: its stamp, its order, and whether it is refused.
use Rattle.std.specs.Prelude.{ℕ, ◌+◌, ◌-◌, max, Bool, ◌||◌, ◌&&◌, nat_le, if◌then◌else◌, ℤ, pos, List, length, Option, Some, None}
use Rattle.std.specs.List.{filter, Contains}
use Rattle.std.specs.Ordering.{int_eq}
use Rattle.t7_book.specs.Orders.{Roster}
use Rattle.t7_base.specs.declared.ids.Side.{Side}
use Rattle.t7_book.specs.declared.order.Order.{Order}
use Rattle.t7_book.specs.declared.command.Command.{Command}
use Rattle.t7_book.specs.declared.command.Command.TheVariants as command
use Rattle.t7_book.specs.declared.command.BookRefusal.{BookRefusal}
use Rattle.t7_book.specs.declared.command.BookRefusal.TheVariants.{UnknownOrder, BelowExecuted, BookFull}
use Rattle.t7_book.specs.Orders.{BookState, order_of, is_in}

-- the security and the session of a command, where it has them, are the product's
abbrev pub IsForProduct : Roster → Command → Type 0
IsForProduct roster (command.New moment session security side price qty client) = Contains roster.sessions session × Contains roster.securities security
IsForProduct roster (command.Modify moment session order price qty client) = Contains roster.sessions session
IsForProduct roster (command.Delete moment session order client) = Contains roster.sessions session
IsForProduct roster (command.DeleteAll moment session security) = Contains roster.sessions session × Contains roster.securities security
IsForProduct roster (command.Clear moment security) = Contains roster.securities security

-- the new stamp of a command: its moment, or the last stamp plus one where that is greater
abbrev pub new_stamp : BookState → ℕ → ℕ
new_stamp book moment = max moment (book.last_stamp + 1)

-- the order that a New brings: nothing of it is executed, and it takes the next id and a new stamp
abbrev pub new_order : BookState → ℕ → ℕ → ℤ → Side → ℤ → ℕ → Order
new_order book moment session security side price qty = record {
  rest = record { security = security; side = side; price = price; stamp = new_stamp book moment; qty = qty };
  total = qty;
  executed = pos 0;
  owner = session;
  id = book.last_id + 1;
}

-- a modification keeps the priority: the price stays, and the total isn't higher
abbrev pub keeps_priority : Order → ℤ → ℕ → Bool
keeps_priority y price qty = int_eq y.rest.price price && nat_le qty y.total

-- what was executed of an order
abbrev pub executed_of : Order → ℕ
executed_of y = y.total - y.rest.qty

-- the order y with a new total; what was executed stays executed
abbrev pub with_total : Order → ℕ → Order
with_total y qty = record y { rest = record y.rest { qty = qty - executed_of y }; total = qty }

-- the order y with a new price, a new total and a new stamp; its id, its owner and what was executed stay
abbrev pub changed_order : Order → ℤ → ℕ → ℕ → Order
changed_order y price qty stamp = record y { rest = record y.rest { price = price; stamp = stamp; qty = qty - executed_of y }; total = qty }

-- the book holds 20,000 orders, or 10,000 of the security
abbrev pub is_full : List Order → ℤ → Bool
is_full orders security = nat_le 20_000 (length orders) || nat_le 10_000 (length (filter (is_in security) orders))

-- a modification of the order that was found: there is none, or the new total isn't above what was executed
abbrev pub change_refusal : Option Order → ℕ → Option BookRefusal
change_refusal None qty = Some UnknownOrder
change_refusal (Some y) qty = if nat_le qty (executed_of y) then Some BelowExecuted else None

-- a deletion of the order that was found: there is none
abbrev pub delete_refusal : Option Order → Option BookRefusal
delete_refusal None = Some UnknownOrder
delete_refusal (Some y) = None

-- the first test of a command that fails, if one does
abbrev pub refusal : BookState → Command → Option BookRefusal
refusal book (command.New moment session security side price qty client) = if is_full book.orders security then Some BookFull else None
refusal book (command.Modify moment session order price qty client) = change_refusal (order_of book.orders session order) qty
refusal book (command.Delete moment session order client) = delete_refusal (order_of book.orders session order)
refusal book (command.DeleteAll moment session security) = None
refusal book (command.Clear moment security) = None
