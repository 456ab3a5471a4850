-- What an exchange's parts have in common.
use Rattle.std.specs.Prelude.{◌≡◌}
use Rattle.std.specs.List.{All}
use Rattle.t7_base.specs.Listing.{IsListing}
use Rattle.t7_layout.specs.Lookups.{IsTable}
use Rattle.t7_book.specs.Orders.{roster_of}
use Rattle.t7_book.specs.Trace.{AreAccepted}
use Rattle.t7_entry.specs.Days.{Day}
use Rattle.t7_entry.specs.Tellable.{IsTellable}
use Rattle.t7_feed.specs.Sending.{AreRanged}
use Rattle.t7_exchange.specs.declared.exchange.Exchange.TheInside.{Inside}
use Rattle.t7_exchange.specs.Maps.{HoldOnly}
use Rattle.t7_exchange.specs.Serving.{HasTold}
use Rattle.t7_exchange.specs.Views.{day_of}

-- its day
abbrev pub day_in : Inside → Day
day_in e = day_of (record { layouts = e.table.now; listing = e.product.now }) e.desk.accepted e.wires e.outbox

-- the desk is of the product, the fields of its commands are in their ranges and each of their responses may be written, sessions that are logged on are the product's, and the
-- outbox is of the table and the product and has told the messages of the accepted commands
pub record IsExchange (e : Inside) : Type 0 where
  pub table : IsTable e.table.now
  pub listing : IsListing e.product.now
  pub roster : e.desk.roster ≡ roster_of e.product.now
  pub accepted : AreAccepted e.product.now e.desk.accepted
  pub tellable : All IsTellable e.desk.accepted
  pub ranged : AreRanged e.desk.accepted
  pub sessions : HoldOnly e.product.now.sessions e.wires.held
  pub terms : e.outbox.cycle.terms ≡ record { layouts = e.table.now; listing = e.product.now }
  pub told : HasTold e.product.now e.desk.accepted e.outbox
