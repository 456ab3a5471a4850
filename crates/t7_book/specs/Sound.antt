-- What the numbers of a book keep, and what its orders keep.
use Rattle.std.specs.Prelude.{◌+◌, ◌^◌, ◌<◌, ◌≤◌, Contains}
use Rattle.t7_book.specs.declared.order.Order.{Order}
use Rattle.t7_book.specs.Laws.{Each, IsBook}
use Rattle.t7_book.specs.Orders.{BookState}

-- numbers that leave room for the next ones
pub record IsSound (book : BookState) : Type 0 where
  pub few_commands : book.applied ≤ 1_000_000
  pub ids : book.last_id ≤ book.applied
  pub stamps : book.last_stamp < 2 ^ 62 + book.applied

-- the stamp and the id of an order are at most the last ones, and its security is the product's
pub record IsEarlier (book : BookState) (y : Order) : Type 0 where
  pub stamp : y.rest.stamp ≤ book.last_stamp
  pub id : y.id ≤ book.last_id
  pub listed : Contains book.roster.securities y.rest.security

-- the book as commands leave it
pub record IsRunning (book : BookState) : Type 0 where
  pub list : IsBook book.roster.securities book.orders
  pub earlier : Each (IsEarlier book) book.orders
