-- Each message of a day is about a security of the product.
use Rattle.std.proofs.Common.{ℕ, List, [], ◌∷◌}
use Rattle.std.specs.Prelude.{Contains}
use Rattle.std.specs.List.{All}
use Rattle.std.proofs.lemmas.List.Elements.{All-cons, All-nil}
use Rattle.t7_base.specs.Listing.{Listing}
use Rattle.t7_base.specs.declared.public.Public.{Public}
use Rattle.t7_book.specs.declared.order.Order.{Order}
use Rattle.t7_book.specs.declared.command.Command.{Command}
use Rattle.t7_book.specs.About.{IsAbout}
use Rattle.t7_book.specs.Orders.{Roster, roster_of}
use Rattle.t7_book.specs.Steps.{Effect, messages}
use Rattle.t7_book.specs.Trace.{AreAccepted, trace}
use Rattle.t7_book.proofs.Fit.{IsFit, Known}
use Rattle.t7_book.proofs.Lists.{IsIn, each_at}
use Rattle.t7_book.proofs.Running.{Links, Run}
use Rattle.t7_book.proofs.RunningDay.{run_day}

module _ (roster : Roster) where
  abbrev Says : List Order → Public → List Order → Type 0
  Says before m next = IsAbout roster.securities m

  -- the security of an order of a list is the product's
  listed : (last : ℕ) (orders : List Order) → IsFit roster last orders → (y : Order) → IsIn y orders → Contains roster.securities y.rest.security
  listed last orders fit y at = (each_at (Known roster last) y orders fit.known at).listed

  abouts : Links roster Says
  abouts = record {
    add = λ last orders fit x above listed room. listed;
    summary = λ last orders fit security side stamp qty price listed. listed;
    mass = λ last orders fit security listed. listed;
    delete = λ last orders fit y at. listed last orders fit y at;
    full = λ last orders fit y at qty all. listed last orders fit y at;
    part = λ last orders fit y at qty less. listed last orders fit y at;
    same = λ last orders fit y at qty. listed last orders fit y at;
    modify = λ last orders fit y at price total stamp above. listed last orders fit y at;
  }

  run_about : (last : ℕ) (orders : List Order) (ss : List Effect) → Run roster Says last orders ss → All (IsAbout roster.securities) (messages ss)
  run_about last orders [] run = All-nil (IsAbout roster.securities)
  run_about last orders (s ∷ ss) run = All-cons (IsAbout roster.securities) s.0 (messages ss) run.1 (run_about last s.1 ss run.2)

pub day_about : (listing : Listing) (cs : List Command) → AreAccepted listing cs → All (IsAbout listing.securities) (messages (trace listing cs))
day_about listing cs accepted =
    run_about (roster_of listing) _ [] (trace listing cs) (run_day (Says (roster_of listing)) listing (abouts (roster_of listing)) cs accepted)
