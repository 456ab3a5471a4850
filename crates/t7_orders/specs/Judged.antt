-- What an order request is against the product and the book: a command, or the reason of the first test that it fails. The table
-- of the tests is `tests`, below; above it stands each of them by its name.
use Rattle.std.specs.Prelude.{ℕ, ◌%◌, ◌==◌, ◌&&◌, ◌||◌, not, is_none, nat_le, if◌then◌else◌, Bool, false, ℤ, pos, neg_ℤ, nat_abs, int_le, List, [], ◌∷◌, Option, None, Result, Ok, Err, slice_index_or}
use Rattle.std.specs.List.{list_any, position}
use Rattle.std.specs.Option.{option_map_or}
use Rattle.std.specs.Ordering.{int_eq}
use Rattle.t7_base.specs.Listing.{Listing}
use Rattle.t7_base.specs.declared.ids.Side.{Side}
use Rattle.t7_base.specs.declared.ids.Side.TheVariants.{Buy, Sell}
use Rattle.t7_eti.specs.declared.reason.Reason.{Reason}
use Rattle.t7_eti.specs.declared.reason.Reason.TheVariants as reason
use Rattle.t7_eti.specs.declared.request.Request.{Request}
use Rattle.t7_eti.specs.declared.request.Request.TheVariants as request
use Rattle.t7_eti.specs.Tests.{Test}
use Rattle.t7_book.specs.declared.order.Order.{Order}
use Rattle.t7_book.specs.declared.command.Command.{Command}
use Rattle.t7_book.specs.declared.command.Command.TheVariants as command
use Rattle.t7_book.specs.Orders.{BookState, order_of}
use Rattle.t7_book.specs.Commands.{executed_of, is_full}

-- the security is the product's
abbrev pub is_listed : Listing → ℤ → Bool
is_listed listing security = list_any (λ s. int_eq s security) listing.securities

-- the step that prices of a security are multiples of, which stands where the security stands; 1 for one that isn't the product's
abbrev pub step_of : Listing → ℤ → ℤ
step_of listing security = option_map_or (λ i. slice_index_or listing.ticks i (pos 0)) (position (λ s. int_eq s security) listing.securities) (pos 1)

-- a number from a least to a greatest
abbrev pub is_between : ℤ → ℤ → ℤ → Bool
is_between low high z = int_le low z && int_le z high

-- a price from -10^17 to 10^17, and a multiple of the security's step
abbrev pub is_price : Listing → ℤ → ℤ → Bool
is_price listing security price =
    is_between (neg_ℤ (pos 100_000_000_000_000_000)) (pos 100_000_000_000_000_000) price
    && (nat_abs price % nat_abs (step_of listing security) == 0)

-- a quantity from 1 to 10^15
abbrev pub is_quantity : ℤ → Bool
is_quantity qty = is_between (pos 1) (pos 1_000_000_000_000_000) qty

-- 1 is buy and 2 is sell
abbrev pub is_side : ℕ → Bool
is_side side = (side == 1) || (side == 2)

-- the side of 1 and of 2
abbrev pub side_of : ℕ → Side
side_of side = if side == 1 then Buy else Sell

-- 200,000 commands were accepted, or more
abbrev pub is_day_full : ℕ → Bool
is_day_full accepted = nat_le 200_000 accepted

-- the order that a Modify or a Delete is about: the resting order with its id, of the session that asks
abbrev pub named_order : BookState → ℕ → Request → Option Order
named_order book session (request.Modify seq order client price qty) = order_of book.orders session order
named_order book session (request.Delete seq order client) = order_of book.orders session order
named_order book session other = None

-- New, DeleteAll: the security isn't the product's
abbrev pub fails_security : Listing → Request → Bool
fails_security listing (request.New seq security side price qty client) = not (is_listed listing security)
fails_security listing (request.DeleteAll seq security) = not (is_listed listing security)
fails_security listing other = false

-- New: the side is neither 1 nor 2
abbrev pub fails_side : Request → Bool
fails_side (request.New seq security side price qty client) = not (is_side side)
fails_side other = false

-- Modify, Delete: there is no such order
abbrev pub fails_order : Option Order → Request → Bool
fails_order named (request.Modify seq order client price qty) = is_none named
fails_order named (request.Delete seq order client) = is_none named
fails_order named other = false

-- New, Modify: the price is out of its range, or no multiple of the security's step
abbrev pub fails_price : Listing → Option Order → Request → Bool
fails_price listing named (request.New seq security side price qty client) = not (is_price listing security price)
fails_price listing named (request.Modify seq order client price qty) = option_map_or (λ y. not (is_price listing y.rest.security price)) named false
fails_price listing named other = false

-- New, Modify: the quantity is out of its range
abbrev pub fails_quantity : Request → Bool
fails_quantity (request.New seq security side price qty client) = not (is_quantity qty)
fails_quantity (request.Modify seq order client price qty) = not (is_quantity qty)
fails_quantity other = false

-- Modify: the total isn't above what was executed
abbrev pub fails_executed : Option Order → Request → Bool
fails_executed named (request.Modify seq order client price qty) = option_map_or (λ y. int_le qty (pos (executed_of y))) named false
fails_executed named other = false

-- New, Modify, Delete, DeleteAll: the day takes no further command
abbrev pub fails_day : ℕ → Request → Bool
fails_day accepted asked = is_day_full accepted

-- New: the book holds 20,000 orders, or 10,000 of the security
abbrev pub fails_room : BookState → Request → Bool
fails_room book (request.New seq security side price qty client) = is_full book.orders security
fails_room book other = false

-- the tests of an order request, in their order
abbrev pub tests : Listing → BookState → ℕ → ℕ → Request → List Test
tests listing book session accepted asked =
    let named = named_order book session asked in
    (fails_security listing asked, reason.UnknownSecurity)
    ∷ (fails_side asked, reason.BadSide)
    ∷ (fails_order named asked, reason.UnknownOrder)
    ∷ (fails_price listing named asked, reason.BadPrice)
    ∷ (fails_quantity asked, reason.BadQty)
    ∷ (fails_executed named asked, reason.BelowExecuted)
    ∷ (fails_day accepted asked, reason.DayFull)
    ∷ (fails_room book asked, reason.BookFull)
    ∷ []

-- the reason of the first test that fails; where none does, the answer that is given then
abbrev pub unless_failing : List Test → Result Command Reason → Result Command Reason
unless_failing [] answer = answer
unless_failing (test ∷ more) answer = if test.0 then Err test.1 else unless_failing more answer

-- the command that an order request is; any other request is none, and has no place here
abbrev pub as_command : ℕ → ℕ → Request → Result Command Reason
as_command session moment (request.New seq security side price qty client) = Ok (command.New moment session security (side_of side) price (nat_abs qty) client)
as_command session moment (request.Modify seq order client price qty) = Ok (command.Modify moment session order price (nat_abs qty) client)
as_command session moment (request.Delete seq order client) = Ok (command.Delete moment session order client)
as_command session moment (request.DeleteAll seq security) = Ok (command.DeleteAll moment session security)
as_command session moment other = Err reason.UnknownTemplate

-- An order request of a session at a moment, when so many commands were accepted: the reason of the first test that it fails, or
-- its command.
abbrev pub judged : Listing → BookState → ℕ → ℕ → ℕ → Request → Result Command Reason
judged listing book session accepted moment asked = unless_failing (tests listing book session accepted asked) (as_command session moment asked)

-- the request is one of these four
abbrev pub IsOrder : Request → Type 0
IsOrder (request.New seq security side price qty client) = Unit {0}
IsOrder (request.Modify seq order client price qty) = Unit {0}
IsOrder (request.Delete seq order client) = Unit {0}
IsOrder (request.DeleteAll seq security) = Unit {0}
IsOrder other = ⊥
