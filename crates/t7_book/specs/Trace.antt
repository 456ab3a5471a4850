-- The messages of a list of commands, and the book after each message.
use Rattle.std.specs.Prelude.{◌≡◌, ℕ, ◌≤◌, List, [], ◌∷◌, ◌++◌, length, None, zero, suc}
use Rattle.t7_base.specs.Listing.{Listing}
use Rattle.t7_book.specs.declared.order.Order.{Order}
use Rattle.t7_book.specs.declared.command.Command.{Command}
use Rattle.t7_book.specs.Orders.{BookState, empty_book, roster_of}
use Rattle.t7_book.specs.Commands.{IsForProduct, refusal}
use Rattle.t7_book.specs.Steps.{Effect, steps, book_after}

-- the steps of the commands, each from the book that the commands before it leave
abbrev pub trace_from : BookState → List Command → List Effect
trace_from book [] = []
trace_from book (c ∷ cs) = steps book c ++ trace_from (book_after book c) cs

-- the steps of a day's commands
abbrev pub trace : Listing → List Command → List Effect
trace listing cs = trace_from (empty_book (roster_of listing)) cs

-- the book that commands leave
abbrev pub book_left : BookState → List Command → BookState
book_left book [] = book
book_left book (c ∷ cs) = book_left (book_after book c) cs

-- the list beside the n-th message, or the list before the first
abbrev pub list_at : List Order → List Effect → ℕ → List Order
list_at orders ss zero = orders
list_at orders [] (suc n) = orders
list_at orders (s ∷ ss) (suc n) = list_at s.1 ss n

-- the book after the n-th message of a day
abbrev pub market : Listing → List Command → ℕ → List Order
market listing cs n = list_at [] (trace listing cs) n

-- each command is for the product, and is not refused by the book that those before it leave
abbrev pub AreAcceptedFrom : BookState → List Command → Type 0
AreAcceptedFrom book [] = Unit {0}
AreAcceptedFrom book (c ∷ cs) = IsForProduct book.roster c × (refusal book c ≡ None) × AreAcceptedFrom (book_after book c) cs

-- a day's accepted commands: at most 200,000, and none is refused
pub record AreAccepted (listing : Listing) (cs : List Command) : Type 0 where
  pub few : length cs ≤ 200_000
  pub each : AreAcceptedFrom (empty_book (roster_of listing)) cs
