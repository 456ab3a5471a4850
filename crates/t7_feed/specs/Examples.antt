-- Short deliveries, and what is reached by them. The window is of four live messages, and the packet window of eight snapshot datagrams.
use Rattle.std.specs.Prelude.{◌≡◌, ℕ, ◌*◌, pos, List, [], ◌∷◌, map, Some}
use Rattle.t7_base.specs.Listing.{Listing}
use Rattle.t7_base.specs.declared.ids.Side.TheVariants.{Buy}
use Rattle.t7_base.specs.declared.public.Public.{Public}
use Rattle.t7_base.specs.declared.public.Public.TheVariants.{Add}
use Rattle.t7_eobi.specs.declared.walks.Live.TheVariants.{Message, Beat}
use Rattle.t7_feed.specs.Arrivals.{Arrival, Packet, Told, known}
use Rattle.t7_feed.specs.Cycles.{Entry, Section, cycle_of}
use Rattle.t7_feed.specs.Reached.{Reaches}

-- a product with the securities 1001 and 1002
abbrev pub product : Listing
product = record {
  segment = 7;
  window = 4;
  packets = 8;
  datagram = 1472;
  securities = pos 1001 ∷ pos 1002 ∷ [];
  ticks = pos 1 ∷ pos 1 ∷ [];
  sessions = 21 ∷ 22 ∷ [];
}

-- message k: order k, which buys 10k of security 1001 at 100
abbrev pub order : ℕ → Public
order k = Add (record { security = pos 1001; side = Buy; price = pos 100; stamp = k; qty = 10 * k })

-- message k comes
abbrev pub message : ℕ → Arrival
message k = Told (Message k (order k))

-- a Heartbeat comes, which names a message as the last
abbrev pub heartbeat : ℕ → Arrival
heartbeat last = Told (Beat last)

-- order k, as a snapshot has it
abbrev pub entry : ℕ → Entry
entry k = record { side = Buy; price = pos 100; stamp = k; qty = 10 * k }

-- the sections of a snapshot with these orders of security 1001 and none of security 1002
abbrev pub sections : List ℕ → List Section
sections orders = record { security = pos 1001; orders = map entry orders } ∷ record { security = pos 1002; orders = [] } ∷ []

-- snapshot datagram 1 comes, a whole cycle at m with these orders
abbrev pub snapshot : ℕ → List ℕ → Arrival
snapshot m orders = Packet 1 (cycle_of m (sections orders))

-- what has come once these have come too, in this order
abbrev pub came : List Arrival → List Arrival → List Arrival
came [] before = before
came (arrival ∷ later) before = came later (arrival ∷ before)

-- what has come once these have come, in this order, and nothing before
abbrev pub in_order : List Arrival → List Arrival
in_order arrivals = came arrivals []

-- after these arrivals the book stands at n, and this is the greatest number that is known: a member shows n in sync where they are one, and else n + 1 as missing
pub record StandsAt (arrivals : List Arrival) (n greatest : ℕ) : Type 0 where
  pub reached : Reaches product (in_order arrivals) (Some n)
  pub known : known (in_order arrivals) ≡ greatest

-- A lost message on one line: the whole snapshot at 0, then messages 1 and 3. Message 2 is missing, and the book stands at 1.
abbrev pub lost_on_one_line : List Arrival
lost_on_one_line = snapshot 0 [] ∷ message 1 ∷ message 3 ∷ []

-- The same, and message 2 comes on the other line: 3 was held, so the book stands at 3.
abbrev pub found_on_the_other : List Arrival
found_on_the_other = snapshot 0 [] ∷ message 1 ∷ message 3 ∷ message 2 ∷ []

-- A snapshot at 2 with the orders 1 and 2, and message 6, of which 3, 4 and 5 are missing: the book stands at 2.
abbrev pub ahead_of_the_book : List Arrival
ahead_of_the_book = snapshot 2 (1 ∷ 2 ∷ []) ∷ message 6 ∷ []

-- The same, and the missing ones come, in the window below 6: the book stands at 6.
abbrev pub filled_in_the_window : List Arrival
filled_in_the_window = snapshot 2 (1 ∷ 2 ∷ []) ∷ message 6 ∷ message 3 ∷ message 4 ∷ message 5 ∷ []

-- Message 3 comes after message 7, outside the window. Behind the snapshot it is the next, so it counts, and 4 to 6 after it: the book stands at 7.
abbrev pub next_outside_the_window : List Arrival
next_outside_the_window = snapshot 2 (1 ∷ 2 ∷ []) ∷ message 7 ∷ message 3 ∷ message 4 ∷ message 5 ∷ message 6 ∷ []

-- Before the snapshot it isn't the next, so it doesn't count: the book stands at 2, though 3 to 7 came.
abbrev pub outside_before_the_snapshot : List Arrival
outside_before_the_snapshot = message 7 ∷ message 3 ∷ message 4 ∷ message 5 ∷ message 6 ∷ snapshot 2 (1 ∷ 2 ∷ []) ∷ []

-- It comes again, as the next: the book stands at 7.
abbrev pub again_as_the_next : List Arrival
again_as_the_next = message 7 ∷ message 3 ∷ message 4 ∷ message 5 ∷ message 6 ∷ snapshot 2 (1 ∷ 2 ∷ []) ∷ message 3 ∷ []

-- A snapshot at 0 and messages 1 to 4: the book stands at 4.
abbrev pub nothing_missing : List Arrival
nothing_missing = snapshot 0 [] ∷ message 1 ∷ message 2 ∷ message 3 ∷ message 4 ∷ []

-- A Heartbeat then names message 5: the book stands at 4, and 5 is known and missing.
abbrev pub missing_by_a_heartbeat : List Arrival
missing_by_a_heartbeat = snapshot 0 [] ∷ message 1 ∷ message 2 ∷ message 3 ∷ message 4 ∷ heartbeat 5 ∷ []
