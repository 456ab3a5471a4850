-- The generated day of the drill.
use Rattle.std.specs.Prelude.{ℕ, zero, suc, ◌+◌, ◌%◌, ◌==◌, if◌then◌else◌, List, [], ◌∷◌, ◌++◌, length, drop}
use Rattle.t7_base.specs.declared.ids.Feed.{Feed}
use Rattle.t7_base.specs.declared.ids.Feed.TheVariants.{LiveA, LiveB, SnapA, SnapB}
use Rattle.t7_book.specs.Acts.{Act, Beats, Snaps}
use Rattle.t7_eobi.specs.declared.walks.Snap.{Snap}
use Rattle.t7_eti.specs.declared.request.Request.{Request}
use Rattle.t7_entry.specs.Days.{Day, day_after, last_of, new_day}
use Rattle.t7_entry.specs.Events.{Opened}
use Rattle.t7_entry.specs.State.{Setting, book_of}
use Rattle.t7_feed.specs.Arrivals.{Delivery}
use Rattle.t7_feed.specs.Sending.{cycle_now, snap_datagram_bytes, under_way}
use Rattle.t7_packets.specs.Packing.{datagram_bytes, of_beat}
use Rattle.t7_script.specs.Draws.{drawn, next_state}
use Rattle.t7_drill.specs.Entering.{accepted_in, day_asked, due_bytes, handed, newly, rejects_in}
use Rattle.t7_exchange.specs.Sending.{terms_of}
use Rattle.t7_drill.specs.Asking.{Asked, logon, opening, request_at}
use Rattle.t7_drill.specs.Feeding.{all_delivered, cast_all, delivered}

-- The drill between two requests.
pub record World : Type 0 where
  -- the generator
  pub draw : ℕ
  -- the exchange, of which nothing waits
  pub day : Day
  -- the numbers of the next requests of the first session and of the second
  pub first : ℕ
  pub second : ℕ
  -- how many requests were rejected
  pub rejects : ℕ
  -- the B copies of the last request's datagrams that are kept
  pub copies : List (List ℕ)
  -- what the exchange did, and what was delivered to the member, the newest first
  pub acts : List Act
  pub came : List Delivery

-- A request goes through the exchange. The B copies that were kept from the request before are delivered, and then its own datagrams go out.
abbrev pub requested : ℕ → Request → World → World
requested conn request w =
    let day = day_asked conn request w.day in
    let f = cast_all (due_bytes day) (record { draw = w.draw; copies = []; came = all_delivered LiveB w.copies w.came }) in
    record w { draw = f.draw; day = handed day; copies = f.copies; acts = w.acts ++ newly w.day day; came = f.came }

-- a request goes through the exchange, and is counted where it is rejected
abbrev pub entered : ℕ → Request → World → World
entered conn request w = record (requested conn request w) { rejects = w.rejects + rejects_in (day_asked conn request w.day).waiting }

-- the number of a session's next request, which stands on connection 1 or 2
abbrev pub number_on : ℕ → World → ℕ
number_on conn w = if conn == 1 then w.first else w.second

-- that number is used
abbrev pub counted : ℕ → World → World
counted conn w = if conn == 1 then record w { first = w.first + 1 } else record w { second = w.second + 1 }

-- the items of the next snapshot datagram
abbrev pub first_in : List (List Snap) → List Snap
first_in [] = []
first_in (items ∷ left) = items

-- what is left of the cycle under way, or a new cycle where nothing is
abbrev pub to_send : Day → List (List Snap)
to_send day = under_way day.left (cycle_now (terms_of day) (accepted_in day))

-- the bytes of the next snapshot datagram
abbrev pub snap_bytes : Day → List ℕ
snap_bytes day = snap_datagram_bytes (terms_of day) (day.snaps + 1) (first_in (to_send day))

-- a snapshot datagram is sent
abbrev pub snapped : Day → Day
snapped day = record day { left = drop 1 (to_send day); snaps = day.snaps + 1 }

-- a snapshot datagram is sent, and delivered on a feed
abbrev pub snap_on : Feed → World → World
snap_on feed w = record w { day = snapped w.day; acts = w.acts ++ Snaps ∷ []; came = delivered feed (snap_bytes w.day) w.came }

-- a snapshot datagram is sent, and delivered on line A unless the draw of eight is 0
abbrev pub rotated : World → World
rotated w = record w {
  draw = next_state w.draw;
  day = snapped w.day;
  acts = w.acts ++ Snaps ∷ [];
  came = if drawn 8 w.draw == 0 then w.came else delivered SnapA (snap_bytes w.day) w.came;
}

-- after each fourth request of a phase a snapshot datagram is sent
abbrev pub after : ℕ → World → World
after i w = if i % 4 == 0 then rotated w else w

-- request i of the first phase
abbrev pub opened : ℕ → World → World
opened i w = after i (counted 1 (entered 1 (opening w.first i) w))

-- so many requests of the first phase
unfoldable pub first_phase : ℕ → World → World
first_phase zero w = w
first_phase (suc n) w = opened (suc n) (first_phase n w)

-- the last OrderID, 0 where no order was accepted
abbrev pub last_order : Day → ℕ
last_order day = (book_of day.setting (accepted_in day)).last_id

-- the connection of the next step, whose kind is drawn first of ten and whose session then of two
abbrev pub step_conn : World → ℕ
step_conn w = 1 + drawn 2 (next_state w.draw)

-- what the next step asks for
abbrev pub step_asked : World → Asked
step_asked w = request_at (drawn 10 w.draw) (number_on (step_conn w) w) (last_order w.day) (next_state (next_state w.draw))

-- a step of the second phase
abbrev pub stepped : World → World
stepped w = counted (step_conn w) (entered (step_conn w) (step_asked w).request (record w { draw = (step_asked w).draw }))

-- step i of the second phase
abbrev pub step : ℕ → World → World
step i w = after i (stepped w)

-- so many steps of the second phase
unfoldable pub second_phase : ℕ → World → World
second_phase zero w = w
second_phase (suc n) w = step (suc n) (second_phase n w)

-- so many snapshot datagrams are sent, and delivered on line B
unfoldable pub sent_off : ℕ → World → World
sent_off zero w = w
sent_off (suc n) w = sent_off n (snap_on SnapB w)

-- the B copies that are kept are delivered
abbrev pub caught_up : World → World
caught_up w = record w { copies = []; came = all_delivered LiveB w.copies w.came }

-- the cycle under way is sent to its end
abbrev pub cycle_ended : World → World
cycle_ended w = sent_off (length w.day.left) w

-- one whole cycle is begun and sent
abbrev pub cycled : World → World
cycled w = sent_off (length (cycle_now (terms_of w.day) (accepted_in w.day))) w

-- the bytes of a Heartbeat that names the last message
abbrev pub beat_bytes : Day → List ℕ
beat_bytes day = datagram_bytes day.setting.layouts day.setting.listing.segment (of_beat (day.live + 1) (last_of day))

-- a Heartbeat is sent, and delivered on line A
abbrev pub beaten : World → World
beaten w = record w {
  day = record w.day { live = w.day.live + 1; beats = w.day.beats + 1 };
  acts = w.acts ++ Beats ∷ [];
  came = delivered LiveA (beat_bytes w.day) w.came;
}

-- the end of the day
abbrev pub closed : World → World
closed w = beaten (cycled (cycle_ended (caught_up w)))

-- the day before its first request: both connections are open
abbrev pub opened_day : Setting → Day
opened_day setting = day_after (day_after (new_day setting) (Opened 1)) (Opened 2)

-- the drill before its first request
abbrev pub new_world : Setting → ℕ → World
new_world setting seed =
    record { draw = seed; day = opened_day setting; first = 1; second = 1; rejects = 0; copies = []; acts = []; came = [] }

-- both sessions are logged on, the first on connection 1 and the second on connection 2
abbrev pub logged_on : World → World
logged_on w = counted 2 (entered 2 (logon 22) (counted 1 (entered 1 (logon 21) w)))

-- the whole day: so many orders of the first phase, and so many steps of the second
abbrev pub day_of : ℕ → ℕ → World → World
day_of orders steps w = closed (second_phase steps (first_phase orders (logged_on w)))

-- the whole drill, whose second phase has 20,000 steps
abbrev pub drilled : Setting → ℕ → ℕ → World
drilled setting seed orders = day_of orders 20_000 (new_world setting seed)
