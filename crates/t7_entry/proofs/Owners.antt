-- Each order of a day's books is of a session of the product.
use Rattle.std.proofs.Common.{ℕ, ℤ, List, [], ◌∷◌}
use Rattle.std.specs.Prelude.{Contains}
use Rattle.t7_base.specs.Listing.{Listing}
use Rattle.t7_book.specs.declared.order.Order.{Order}
use Rattle.t7_book.specs.declared.trade.Trade.{Trade}
use Rattle.t7_book.specs.declared.command.Command.{Command}
use Rattle.t7_book.specs.declared.command.Command.TheVariants as command
use Rattle.t7_book.specs.Orders.{BookState, empty_book, roster_of, without}
use Rattle.t7_book.specs.Commands.{IsForProduct}
use Rattle.t7_book.specs.Trades.{trades}
use Rattle.t7_book.specs.Steps.{book_after}
use Rattle.t7_book.specs.Trace.{AreAccepted, AreAcceptedFrom, book_left}
use Rattle.t7_book.specs.Laws.{Each}
use Rattle.t7_entry.proofs.Marks.{Brings, marked_next}
use Rattle.t7_entry.proofs.Marks as marks

module _ (sessions : List ℕ) where
  -- an owner is one of the sessions
  abbrev pub IsOwner : ℕ → ℕ → ℤ → ℕ → Type 0
  IsOwner owner id price stamp = Contains sessions owner

  -- an order is of one of the sessions
  abbrev pub Owned : Order → Type 0
  Owned y = Contains sessions y.owner

  -- the makers of trades are of the sessions
  abbrev pub Makers : List Trade → Type 0
  Makers ts = marks.Makers IsOwner ts

  pub makers_of : (x : Order) (orders : List Order) → Each Owned orders → Makers (trades x.rest orders)
  makers_of x orders owned = marks.makers_of IsOwner x orders owned

  pub owned_without : (y : Order) (orders : List Order) → Each Owned orders → Each Owned (without y.rest orders)
  owned_without y orders owned = marks.marked_without IsOwner y orders owned

owners_brought : (book : BookState) (c : Command) → IsForProduct book.roster c → Brings (IsOwner book.roster.sessions) book c
owners_brought book (command.New moment session security side price qty client) product = product.0
owners_brought book (command.Modify moment session order price qty client) product = λ owner id old was p. p
owners_brought book (command.Delete moment session order client) product = tt
owners_brought book (command.DeleteAll moment session security) product = tt
owners_brought book (command.Clear moment security) product = tt

pub owned_left : (book : BookState) (cs : List Command) → AreAcceptedFrom book cs → Each (Owned book.roster.sessions) book.orders → Each (Owned book.roster.sessions) (book_left book cs).orders
owned_left book [] accepted owned = owned
owned_left book (c ∷ cs) accepted owned =
    owned_left (book_after book c) cs accepted.2 (marked_next (IsOwner book.roster.sessions) book c (owners_brought book c accepted.0) owned)

pub owners : (listing : Listing) (cs : List Command) → AreAccepted listing cs → Each (λ y. Contains listing.sessions y.owner) (book_left (empty_book (roster_of listing)) cs).orders
owners listing cs accepted = owned_left (empty_book (roster_of listing)) cs accepted.each tt
