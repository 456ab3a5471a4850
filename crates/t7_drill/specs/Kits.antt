-- What contracts see of the program of the drill, and what it has to do with the definitions.
use Rattle.std.specs.Prelude.{◌≡◌, ℕ, ◌+◌, ◌≤◌, List, [], length}
use Rattle.t7_book.specs.Acts.{Act}
use Rattle.t7_book.specs.Orders.{shown}
use Rattle.t7_entry.specs.Days.{Day, last_of}
use Rattle.t7_entry.specs.State.{book_of}
use Rattle.t7_exchange.specs.Sending.{terms_of}
use Rattle.t7_feed.specs.Arrivals.{Delivery}
use Rattle.t7_layout.specs.Layouts.{Layout}
use Rattle.t7_member.specs.Keeping.{Image}
use Rattle.t7_member.specs.Status.{shown_of, status_of}
use Rattle.t7_drill.specs.Entering.{accepted_in}
use Rattle.t7_drill.specs.Feeding.{Heard}
use Rattle.t7_drill.specs.Telling.{Told}
use Rattle.t7_drill.specs.Worlds.{World}

-- what contracts see of the program: the table, the generator, the exchange, the next numbers, the counts, the copies, and the member
pub record Kit : Type 0 where
  pub layouts : List Layout
  pub draw : ℕ
  pub day : Day
  pub first : ℕ
  pub second : ℕ
  pub rejects : ℕ
  pub copies : List (List ℕ)
  pub image : Image

-- the drill that a program has, where these were the acts and the deliveries
abbrev pub world_of : Kit → List Act → List Delivery → World
world_of kit acts came = record {
  draw = kit.draw;
  day = kit.day;
  first = kit.first;
  second = kit.second;
  rejects = kit.rejects;
  copies = kit.copies;
  acts = acts;
  came = came;
}

-- The program stands where the drill is: it has the generator, the exchange, the numbers, the count and the copies, and the member was given what was
-- delivered.
pub record Stands (world : World) (kit : Kit) : Type 0 where
  pub is : world ≡ world_of kit world.acts world.came
  pub heard : Heard (terms_of kit.day) kit.image world.came

-- The program after so many requests: its table is that of the exchange, nothing of which waits; the cycle under way is no longer than a book may be; its
-- numbers and counts are no higher, and no heartbeat was sent.
pub record Within (n : ℕ) (kit : Kit) : Type 0 where
  pub table : kit.layouts ≡ kit.day.setting.layouts
  pub told : kit.day.untold ≡ []
  pub handed : kit.day.waiting ≡ []
  pub left : length kit.day.left ≤ 21_001
  pub first : kit.first ≤ n + 1
  pub second : kit.second ≤ n + 1
  pub rejects : kit.rejects ≤ n
  pub snaps : kit.day.snaps ≤ n
  pub beats : kit.day.beats ≡ 0

-- no more heartbeats and snapshot datagrams were sent than a day may have
pub record IsFew (day : Day) : Type 0 where
  pub beats : day.beats ≤ 2_000_000_000
  pub snaps : day.snaps ≤ 4_000_000_000

-- what the program tells: the counts of the exchange and its book, and the tallies, the book and the state of the member
abbrev pub told_by : Kit → Told
told_by kit = record {
  commands = length (accepted_in kit.day);
  rejects = kit.rejects;
  messages = last_of kit.day;
  tallies = kit.image.tallies;
  book = shown (book_of kit.day.setting (accepted_in kit.day)).orders;
  member = shown_of kit.image.base kit.image.list;
  state = status_of kit.image.base kit.image.refused kit.image.known;
}
