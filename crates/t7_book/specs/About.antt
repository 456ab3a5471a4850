-- What the messages of accepted commands are about, and what the book that they leave keeps.
use Rattle.std.specs.Prelude.{◌≤◌, ℤ, List, Contains, length}
use Rattle.t7_base.specs.declared.public.Public.{Public}
use Rattle.t7_base.specs.declared.public.Public.TheVariants as public
use Rattle.t7_book.specs.Orders.{BookState}
use Rattle.t7_book.specs.Laws.{Each, IsWhole}

-- a message is one that a book gives, about one of these securities
abbrev pub IsAbout : List ℤ → Public → Type 0
IsAbout securities (public.Add order) = Contains securities order.security
IsAbout securities (public.Modify security side prev_stamp prev_price prev_qty stamp price qty) = Contains securities security
IsAbout securities (public.SamePriority security side stamp price prev_qty qty) = Contains securities security
IsAbout securities (public.Delete order) = Contains securities order.security
IsAbout securities (public.MassDelete security) = Contains securities security
IsAbout securities (public.Partial security side stamp price last_qty last_price) = Contains securities security
IsAbout securities (public.Full security side stamp price last_qty last_price) = Contains securities security
IsAbout securities (public.Summary security side stamp last_qty last_price) = Contains securities security
IsAbout securities public.Other = ⊥

-- what is left of each order is its total less what was executed, and there are at most 20,000
pub record IsLeft (book : BookState) : Type 0 where
  pub whole : Each IsWhole book.orders
  pub few : length book.orders ≤ 20_000
