-- What a drill writes.
use Rattle.std.specs.Prelude.{◌≡◌, ◌≤◌, ◌*◌, ℕ, List, [], length, Result, Ok, Err}
use Rattle.t7_base.specs.Outside.{Begins}
use Rattle.t7_book.specs.Acts.{commands_of}
use Rattle.t7_book.specs.Orders.{shown}
use Rattle.t7_entry.specs.Days.{last_of}
use Rattle.t7_entry.specs.State.{Setting, book_of}
use Rattle.t7_eobi.specs.declared.walks.Snap.{Snap}
use Rattle.t7_exchange.specs.Sending.{terms_of}
use Rattle.t7_feed.specs.declared.State.TheVariants.{Sync}
use Rattle.t7_feed.specs.Report.{Report}
use Rattle.t7_eobi.specs.Sizes.{snap_size}
use Rattle.t7_feed.specs.Sending.{AreActs, Genuine, cycle_now}
use Rattle.t7_outcome.specs.declared.ending.Finish.{Finish}
use Rattle.t7_outcome.specs.declared.ending.Finish.TheVariants.{End}
use Rattle.t7_outcome.specs.declared.ending.Stop.{Stop}
use Rattle.t7_outcome.specs.declared.ending.Stop.TheVariants.{Memory, WriteFault}
use Rattle.t7_outcome.specs.Outcome.{text_of}
use Rattle.t7_packets.specs.Packing.{room_in}
use Rattle.t7_drill.specs.Entering.{accepted_in}
use Rattle.t7_drill.specs.Feeding.{Tallied}
use Rattle.t7_drill.specs.Telling.{Told, lines_of}
use Rattle.t7_drill.specs.Worlds.{World}

-- A datagram takes at least 20 items of a snapshot, the packet window has at least 1,024 numbers, and there are at most 400 securities.
pub record IsRoomy (setting : Setting) : Type 0 where
  pub items : (item : Snap) → 20 * snap_size setting.layouts item ≤ room_in setting.layouts setting.listing.datagram
  pub packets : 1_024 ≤ setting.listing.packets
  pub securities : length setting.listing.securities ≤ 400

-- the cycle of the exchange's orders at the end has no more datagrams than the packet window
abbrev pub FitsCycle : World → Type 0
FitsCycle world = length (cycle_now (terms_of world.day) (accepted_in world.day)) ≤ world.day.setting.listing.packets

-- the member shows that it has the last message, and its orders are the exchange's
pub record IsSynced (told : Told) : Type 0 where
  pub state : told.state ≡ Sync told.messages
  pub orders : told.member ≡ told.book

-- What is told at the end of a drill: how many commands were accepted and how many requests rejected, the number of the last message and the exchange's
-- orders, as the generated day has them. What the exchange did are acts of an exchange, and all that was delivered was sent by them. The member's tallies
-- are those of the deliveries, its state and its orders are a report of them, and where the last cycle fits the packet window it has the exchange's last
-- message and its orders. The cycle fits where datagrams and the packet window are roomy.
pub record IsTold (world : World) (told : Told) : Type 0 where
  pub commands : told.commands ≡ length (accepted_in world.day)
  pub rejects : told.rejects ≡ world.rejects
  pub messages : told.messages ≡ last_of world.day
  pub book : told.book ≡ shown (book_of world.day.setting (accepted_in world.day)).orders
  pub acts : AreActs world.day.setting.listing world.acts
  pub accepted : commands_of world.acts ≡ accepted_in world.day
  pub genuine : Genuine (terms_of world.day) world.acts world.came
  pub tallies : Tallied (terms_of world.day) world.came told.tallies
  pub report : Report (terms_of world.day) world.acts world.came told.state told.member
  pub synced : FitsCycle world → IsSynced told
  pub fits : IsRoomy world.day.setting → FitsCycle world

-- What a drill wrote, by how it ended: its lines; at a fault of the sink the front of them; else nothing.
abbrev pub WroteDrill : World → Result Finish Stop → List ℕ → Type 0
WroteDrill world (Ok finish) written = (told : Told) × IsTold world told × (written ≡ text_of (lines_of told)) × (finish ≡ End told.messages)
WroteDrill world (Err WriteFault) written = (told : Told) × IsTold world told × Begins written (text_of (lines_of told))
WroteDrill world (Err stop) written = written ≡ []

-- the stops of a drill over a table and a product
abbrev pub OfDrill : Stop → Type 0
OfDrill WriteFault = Unit {0}
OfDrill Memory = Unit {0}
OfDrill _ = ⊥
