-- What is known of genuine deliveries is at most the last message, and where a whole cycle at the last message came, a report is in sync.
use Rattle.std.proofs.Common.{◌≡◌, ℕ, zero, suc, ◌+◌, ◌-◌, ◌<◌, ◌≤◌, max, inl, inr, Bool, true, false, if◌then◌else◌, eqb, List, [], ◌∷◌, ◌++◌, length}
use Rattle.std.proofs.Common.{Option, Some, None, refl, sym, ap, subst, ◌∙◌, arith, append_assoc, length-append}
use Rattle.std.specs.Prelude.{Contains, slice_get, slice_index_or}
use Rattle.std.specs.List.{All}
use Rattle.std.proofs.lemmas.List.{length-map}
use Rattle.std.proofs.lemmas.List.Elements.{All-append, All-cons, All-contains, All-map, All-nil}
use Rattle.t7_base.specs.Listing.{Listing}
use Rattle.t7_base.specs.declared.ids.Feed.{Feed}
use Rattle.t7_base.specs.declared.ids.Feed.TheVariants.{LiveA, LiveB, SnapA, SnapB}
use Rattle.t7_base.specs.declared.ids.Channel.TheVariants as channel
use Rattle.t7_base.specs.declared.public.Public.{Public}
use Rattle.t7_base.specs.declared.public.Resting.{Resting}
use Rattle.t7_layout.specs.Layouts.{Layout}
use Rattle.t7_book.specs.Acts.{Accepts, Act, Beats, Snaps, commands_of}
use Rattle.t7_book.specs.declared.command.Command.{Command}
use Rattle.t7_book.specs.Orders.{BookState, empty_book, roster_of}
use Rattle.t7_book.specs.Steps.{Effect, book_after, messages, steps}
use Rattle.t7_book.specs.Trace.{trace, trace_from}
use Rattle.t7_book.proofs.TraceLemmas.{traces_grow}
use Rattle.t7_eobi.specs.declared.faults.PacketFault.{PacketFault}
use Rattle.t7_eobi.specs.declared.walks.Live.{Live}
use Rattle.t7_eobi.specs.declared.walks.Live.TheVariants.{Beat, Message}
use Rattle.t7_eobi.specs.declared.walks.Snap.{Snap}
use Rattle.t7_eobi.specs.declared.walks.Snap.TheVariants as snap
use Rattle.t7_eobi.specs.Faults.{fault_of}
use Rattle.t7_eobi.specs.Said.{ReadsLive}
use Rattle.t7_greedy.specs.Cuts.{cut_from, joined}
use Rattle.t7_greedy.proofs.CutFacts.{at_most, cut_whole}
use Rattle.t7_packets.specs.Datagrams.{live_datagrams, live_from, shipped}
use Rattle.t7_eobi.specs.Sizes.{message_size, snap_size}
use Rattle.t7_packets.specs.Packing.{Datagram, datagram_bytes, numbered, room_in}
use Rattle.t7_feed.specs.declared.State.{State}
use Rattle.t7_feed.specs.declared.State.TheVariants.{Miss, Refused, Sync, Wait}
use Rattle.t7_feed.specs.Arrivals.{Arrival, Came, Delivery, EachPrefix, Packet, PacketWindow, Terms, Told, arrivals, channel_of, first, greatest_named, heard}
use Rattle.t7_feed.specs.Arrivals.{highest_packet, known, or_else, reading_of, taken_where, told}
use Rattle.t7_feed.specs.Cycles.{Section, Stand, body_of}
use Rattle.t7_feed.specs.Report.{CoversAll, IsFrom, IsInSync, IsSupportedBook, Report, Shows}
use Rattle.t7_feed.specs.Sending.{AreSayable, AreSent, Genuine, at_number, book_at, cycle_at, cycle_now, first_and, last_of, packet_sent, parts_of, sent_on}
use Rattle.t7_feed.specs.Sending.{snap_datagrams, snaps_from, under_way}
use Rattle.t7_feed.specs.Whole.{Supported, Whole}
use Rattle.t7_feed.proofs.Genuine.{genuine_sent}
use Rattle.t7_feed.proofs.Growth.{compare}
use Rattle.t7_feed.proofs.OneCycle.{IsPlain, opened, plain_body}

-- what stands at a place is within the list
place_within : {A : Type 0} (xs : List A) (n : ℕ) (x : A) → slice_get xs n ≡ Some x → n < length xs
place_within [] n x is = absurd (let gone : None ≡ Some x = is in cc gone)
place_within (y ∷ xs) zero x is = omega arith
place_within (y ∷ xs) (suc n) x is = (let rest = place_within xs n x is in omega arith)

number_within : {A : Type 0} (xs : List A) (k : ℕ) (x : A) → at_number xs k ≡ Some x → k ≤ length xs
number_within xs zero x is = absurd (let gone : None ≡ Some x = is in cc gone)
number_within xs (suc n) x is = (let below = place_within xs n x is in omega arith)

-- the numbers of live items are at most another
abbrev LivesMost : ℕ → List Live → Type 0
LivesMost most [] = Unit {0}
LivesMost most (Message number message ∷ items) = (number ≤ most) × LivesMost most items
LivesMost most (Beat last ∷ items) = (last ≤ most) × LivesMost most items

numbered_most : (most first : ℕ) (xs : List Public) → first + length xs ≤ most + 1 → LivesMost most (numbered first xs)
numbered_most most first [] le = tt
numbered_most most first (x ∷ xs) le = (omega arith, numbered_most most (first + 1) xs (omega arith))

-- all of the datagrams have such items
abbrev EachMost : ℕ → List Datagram → Type 0
EachMost most ds = All (λ (d : Datagram). LivesMost most d.items) ds

shipped_most : (most number first : ℕ) (runs : List (List Public)) → first + length (joined runs) ≤ most + 1 → EachMost most (shipped number first runs)
shipped_most most number first [] le = All-nil (λ (d : Datagram). LivesMost most d.items)
shipped_most most number first (run ∷ runs) le =
    let both = length-append run (joined runs) in
    All-cons (λ (d : Datagram). LivesMost most d.items) _ (shipped (number + 1) (first + length run) runs)
    (numbered_most most first run (omega arith))
    (shipped_most most (number + 1) (first + length run) runs (omega arith))

module _ (layouts : List Layout) (limit most : ℕ) where
  live_most : (book : BookState) (number first : ℕ) (acts : List Act) → first + length (trace_from book (commands_of acts)) ≤ most + 1
      → EachMost most (live_from layouts limit book number first acts)
  live_most book number first [] le = All-nil (λ (d : Datagram). LivesMost most d.items)
  live_most book number first (Accepts command ∷ acts) le =
      let said = messages (steps book command) in
      let runs = cut_whole (message_size layouts) (room_in layouts limit) said in
      let all = length-append (steps book command) (trace_from (book_after book command) (commands_of acts)) in
      let count = length-map (steps book command) (λ (s : Effect). s.0) in
      let whole = ap (λ (l : List Public). length l) runs in
      All-append (λ (d : Datagram). LivesMost most d.items) (shipped number first _) _
      (shipped_most most number first _ (omega arith))
      (live_most (book_after book command) _ (first + length said) acts (omega arith))
  live_most book number first (Beats ∷ acts) le =
      All-cons (λ (d : Datagram). LivesMost most d.items) _ (live_from layouts limit book (number + 1) first acts) (omega arith, tt)
      (live_most book (number + 1) first acts le)
  live_most book number first (Snaps ∷ acts) le = live_most book number first acts le

known_told : (most : ℕ) (items : List Live) (before : List Arrival) → LivesMost most items → known before ≤ most → known (told items before) ≤ most
known_told most [] before items le = le
known_told most (Message number said ∷ items) before all le =
    (let now = all.0 in known_told most items (Told (Message number said) ∷ before) all.1 (omega arith))
known_told most (Beat last ∷ items) before all le = (let now = all.0 in known_told most items (Told (Beat last) ∷ before) all.1 (omega arith))

-- what items name is what their front and their back name
named_append : (most : ℕ) (xs ys : List Snap) → greatest_named xs ≤ most → greatest_named ys ≤ most → greatest_named (xs ++ ys) ≤ most
named_append most [] ys a b = b
named_append most (snap.Product m ∷ xs) ys a b = (let rest = named_append most xs ys (omega arith) b in omega arith)
named_append most (snap.Instrument security count ∷ xs) ys a b = named_append most xs ys a b
named_append most (snap.Order side price stamp qty ∷ xs) ys a b = named_append most xs ys a b

named_split : (most : ℕ) (x : Snap) (xs : List Snap) → greatest_named (x ∷ xs) ≤ most → (greatest_named (x ∷ []) ≤ most) × (greatest_named xs ≤ most)
named_split most (snap.Product m) xs le = (omega arith, omega arith)
named_split most (snap.Instrument security count) xs le = (omega arith, le)
named_split most (snap.Order side price stamp qty) xs le = (omega arith, le)

plain_names : (xs : List Snap) → IsPlain xs → greatest_named xs ≡ 0
plain_names [] plain = refl
plain_names (snap.Product m ∷ xs) plain = absurd plain
plain_names (snap.Instrument security count ∷ xs) plain = plain_names xs plain
plain_names (snap.Order side price stamp qty ∷ xs) plain = plain_names xs plain

-- no datagram names more
abbrev NamesMost : ℕ → List (List Snap) → Type 0
NamesMost most [] = Unit {0}
NamesMost most (run ∷ runs) = (greatest_named run ≤ most) × NamesMost most runs

names_weaker : (less most : ℕ) (runs : List (List Snap)) → less ≤ most → NamesMost less runs → NamesMost most runs
names_weaker less most [] le all = tt
names_weaker less most (run ∷ runs) le all = (let now = all.0 in (omega arith, names_weaker less most runs le all.1))

cut_names : (size : Snap → ℕ) (room most : ℕ) (begun : List Snap) (left : ℕ) (xs : List Snap) → greatest_named begun ≤ most → greatest_named xs ≤ most
    → NamesMost most (cut_from size room begun left xs)
cut_names size room most begun left [] a b = (a, tt)
cut_names size room most begun left (x ∷ xs) a b =
    let split = named_split most x xs b in
    elim (at_most (size x) left) [
      | inl e ↦ rw e.0 (cut_names size room most (begun ++ x ∷ []) (left - size x) xs (named_append most begun (x ∷ []) a split.0) split.1)
      | inr o ↦ rw o.0 ((a, cut_names size room most (x ∷ []) (room - size x) xs split.0 split.1))
    ]

cycle_names : (terms : Terms) (m : ℕ) (orders : List Resting) → NamesMost m (cycle_at terms m orders)
cycle_names terms m orders =
    let size = snap_size terms.layouts in
    let room = room_in terms.layouts terms.listing.datagram in
    let parts = parts_of terms.listing.securities orders in
    let one : Snap = snap.Product m in
    let none = plain_names (body_of parts) (plain_body parts) in
    cut_names size room m (one ∷ []) (room - size one) (body_of parts) (omega arith) (omega arith)

way_names : (most : ℕ) (left new : List (List Snap)) → NamesMost most left → NamesMost most new → NamesMost most (under_way left new)
way_names most [] new a b = b
way_names most (x ∷ left) new a b = a

first_names : (most : ℕ) (xs : List (List Snap)) (f : List (List Snap) → List (List Snap)) → NamesMost most xs
    → ((rest : List (List Snap)) → NamesMost most rest → NamesMost most (f rest)) → NamesMost most (first_and xs f)
first_names most [] f all next = tt
first_names most (x ∷ xs) f all next = (all.0, next xs all.1)

last_grows : (listing : Listing) (cs more : List Command) → last_of listing cs ≤ last_of listing (cs ++ more)
last_grows listing cs more =
    let split = (traces_grow listing cs more).messages in
    let long = ap (λ (l : List Effect). length l) split.1 in
    let both = length-append (trace listing cs) split.0 in
    omega (arith, long, both)

snaps_names : (terms : Terms) (most : ℕ) (cs : List Command) (left : List (List Snap)) (acts : List Act) → NamesMost most left
    → last_of terms.listing (cs ++ commands_of acts) ≤ most → NamesMost most (snaps_from terms cs left acts)
snaps_names terms most cs left [] all le = tt
snaps_names terms most cs left (Accepts command ∷ acts) all le =
    snaps_names terms most (cs ++ command ∷ []) left acts all
    (subst (λ (l : List Command). last_of terms.listing l ≤ most) (sym (append_assoc cs (command ∷ []) (commands_of acts))) le)
snaps_names terms most cs left (Beats ∷ acts) all le = snaps_names terms most cs left acts all le
snaps_names terms most cs left (Snaps ∷ acts) all le =
    let grown = last_grows terms.listing cs (commands_of acts) in
    let new = names_weaker (last_of terms.listing cs) most (cycle_now terms cs) (omega arith) (cycle_names terms _ _) in
    first_names most (under_way left (cycle_now terms cs)) (λ rest. snaps_from terms cs rest acts) (way_names most left (cycle_now terms cs) all new)
    (λ rest named. snaps_names terms most cs rest acts named le)

named_at : (most : ℕ) (runs : List (List Snap)) (n : ℕ) (snaps : List Snap) → NamesMost most runs → slice_get runs n ≡ Some snaps → greatest_named snaps ≤ most
named_at most [] n snaps all is = absurd (let gone : None ≡ Some snaps = is in cc gone)
named_at most (run ∷ runs) zero snaps all is = (let same : run ≡ snaps = cc is in subst (λ (l : List Snap). greatest_named l ≤ most) same all.0)
named_at most (run ∷ runs) (suc n) snaps all is = named_at most runs n snaps all.1 is

module _ (terms : Terms) (acts : List Act) where
  -- the number of the last message
  abbrev pub last_sent : ℕ
  last_sent = last_of terms.listing (commands_of acts)

  packet_names : (i : ℕ) (snaps : List Snap) → packet_sent terms acts i ≡ Some snaps → greatest_named snaps ≤ last_sent
  packet_names zero snaps is = absurd (let gone : None ≡ Some snaps = is in cc gone)
  packet_names (suc n) snaps is = named_at last_sent (snap_datagrams terms acts) n snaps (snaps_names terms last_sent [] [] acts tt (omega arith)) is

  live_reads : AreSayable terms acts → (bytes : List ℕ) → Contains (sent_on terms acts channel.Live) bytes
      → (d : Datagram) × ReadsLive terms.layouts terms.listing.segment d.number d.items bytes × LivesMost last_sent d.items
  live_reads sayable bytes among =
      let ds = live_datagrams terms.layouts terms.listing acts in
      let most : EachMost last_sent ds = live_most terms.layouts terms.listing.datagram last_sent (empty_book (roster_of terms.listing)) 1 1 acts
      (omega arith) in
      let P : List ℕ → Type 0 = λ b. (d : Datagram) × ReadsLive terms.layouts terms.listing.segment d.number d.items b × LivesMost last_sent d.items in
      All-contains P (sent_on terms acts channel.Live) bytes
      (All-map P (datagram_bytes terms.layouts terms.listing.segment) ds (λ k d below. (slice_index_or ds k d, sayable.live k d below, most k d below))) among

  live_known : AreSayable terms acts → (bytes : List ℕ) (before : List Arrival) → Contains (sent_on terms acts channel.Live) bytes → known before ≤ last_sent
      → known (taken_where (fault_of (reading_of terms LiveA) bytes) terms.layouts channel.Live bytes before) ≤ last_sent
  live_known sayable bytes before among le =
      let from = live_reads sayable bytes among in
      let there : known (told from.0.items before) ≤ last_sent = known_told last_sent from.0.items before from.2 le in
      subst (λ (f : Option PacketFault). known (taken_where f terms.layouts channel.Live bytes before) ≤ last_sent) (sym from.1.faultless)
      (subst (λ (l : List Live). known (told l before) ≤ last_sent) (sym from.1.says) there)

  snap_known : (f : Option PacketFault) (bytes : List ℕ) (before : List Arrival) → AreSent terms acts (taken_where f terms.layouts channel.Snap bytes before)
      → known before ≤ last_sent
      → known (taken_where f terms.layouts channel.Snap bytes before) ≤ last_sent
  snap_known (Some fault) bytes before sent le = le
  snap_known None bytes before sent le = (let named = packet_names _ _ sent.0 in omega arith)

  feed_known : AreSayable terms acts → (feed : Feed) (bytes : List ℕ) (before : List Arrival) → Contains (sent_on terms acts (channel_of feed)) bytes
      → AreSent terms acts (heard terms (record { feed = feed; bytes = bytes }) before) → known before ≤ last_sent
      → known (heard terms (record { feed = feed; bytes = bytes }) before) ≤ last_sent
  feed_known sayable LiveA bytes before among sent le = live_known sayable bytes before among le
  feed_known sayable LiveB bytes before among sent le = live_known sayable bytes before among le
  feed_known sayable SnapA bytes before among sent le = snap_known _ bytes before sent le
  feed_known sayable SnapB bytes before among sent le = snap_known _ bytes before sent le

  -- what is known is at most the last message
  pub known_most : AreSayable terms acts → (dl : List Delivery) → Genuine terms acts dl → known (arrivals terms dl) ≤ last_sent
  known_most sayable [] g = omega arith
  known_most sayable (d ∷ dl) g =
      feed_known sayable d.feed d.bytes (arrivals terms dl) g.0 (genuine_sent terms acts sayable (d ∷ dl) g) (known_most sayable dl g.1)

  -- no snapshot datagram has a greater number than were sent
  pub packets_most : (came : List Arrival) → AreSent terms acts came → highest_packet came ≤ length (snap_datagrams terms acts)
  packets_most [] sent = omega arith
  packets_most (Told (Message k said) ∷ before) sent = packets_most before sent.1
  packets_most (Told (Beat last) ∷ before) sent = packets_most before sent
  packets_most (Packet number snaps ∷ before) sent =
      (let now = number_within (snap_datagrams terms acts) number snaps sent.0 in let le = packets_most before sent.1 in omega arith)

came_known : (came : List Arrival) (k : ℕ) → Came came k → k ≤ known came
came_known [] k h = absurd h
came_known (Told (Message number said) ∷ before) k (inl now) = omega arith
came_known (Told (Message number said) ∷ before) k (inr old) = (let le = came_known before k old in omega arith)
came_known (Told (Beat last) ∷ before) k h = (let le = came_known before k h in omega arith)
came_known (Packet number snaps ∷ before) k h = (let le = came_known before k h in omega arith)

first_by : (most number : ℕ) (t : Bool) (others snaps : List Snap) (before : Option (List Snap)) → greatest_named others ≤ most
    → ((is : List Snap) → before ≡ Some is → greatest_named is ≤ most) → or_else before (if t then Some others else None) ≡ Some snaps
    → greatest_named snaps ≤ most
first_by most number t others snaps (Some is) now old at = (let same : is ≡ snaps = cc at in
    subst (λ (l : List Snap). greatest_named l ≤ most) same (old is refl))
first_by most number true others snaps None now old at = (let same : others ≡ snaps = cc at in subst (λ (l : List Snap). greatest_named l ≤ most) same now)
first_by most number false others snaps None now old at = absurd (let gone : None ≡ Some snaps = at in cc gone)

first_known : (came : List Arrival) (i : ℕ) (snaps : List Snap) → first came i ≡ Some snaps → greatest_named snaps ≤ known came
first_known [] i snaps at = absurd (let gone : None ≡ Some snaps = at in cc gone)
first_known (Told (Message number said) ∷ before) i snaps at = (let le = first_known before i snaps at in omega arith)
first_known (Told (Beat last) ∷ before) i snaps at = (let le = first_known before i snaps at in omega arith)
first_known (Packet number others ∷ before) i snaps at =
    first_by (max (greatest_named others) (known before)) number (eqb number i) others snaps (first before i) (omega arith)
    (λ is old. let le = first_known before i is old in omega arith) at

-- a whole cycle's number is known
whole_known : (listing : Listing) (came : List Arrival) (m p q : ℕ) (parts : List Section) → Whole listing came m p q parts → m ≤ known came
whole_known listing came m p q parts w =
    let o = opened (first came) m p parts w.run.datagrams w.run.spells in
    let stand = subst (λ (l : List (List Snap)). Stand (first came) p l) o.split w.run.stand in
    let le = first_known came p (snap.Product m ∷ o.more) stand.0 in omega arith

-- what is supported is known
supported_known : (listing : Listing) (came : List Arrival) (n : ℕ) → Supported listing came n → n ≤ known came
supported_known listing came n s =
    let from = s.from in
    elim (compare s.m n) [
      | inl below ↦ came_known came n (s.each n below (omega arith))
      | inr (inl above) ↦ absurd (omega arith)
      | inr (inr same) ↦ (let le = whole_known listing came s.m s.p s.q s.parts s.whole in omega arith)
    ]

prefix_now : (terms : Terms) (P : List Arrival → Type 0) (dl : List Delivery) → EachPrefix terms P dl → P (arrivals terms dl)
prefix_now terms P [] h = h
prefix_now terms P (d ∷ dl) h = h.0

-- the state is in sync with the last message, and the list is the book beside it
pub record InSync (terms : Terms) (acts : List Act) (state : State) (list : List Resting) : Type 0 where
  pub shown : state ≡ Sync (last_sent terms acts)
  pub orders : list ≡ book_at terms.listing (commands_of acts) (last_sent terms acts)

in_sync : (terms : Terms) (acts : List Act) (came : List Arrival) (state : State) (list : List Resting) (number : Option ℕ) → known came ≡ last_sent terms acts
    → Shows state number → IsFrom (last_sent terms acts) number → IsSupportedBook terms acts came number list → IsInSync terms.listing came state
    → InSync terms acts state list
in_sync terms acts came state list None all shows from book sync = absurd from
in_sync terms acts came Wait list (Some n) all shows from book sync = absurd (cc shows)
in_sync terms acts came (Sync m) list (Some n) all shows from book sync =
    let same : n ≡ m = cc shows in
    let is : m ≡ last_sent terms acts = sync ∙ all in
    record { shown = ap (λ k. Sync k) is; orders = book.1 ∙ ap (λ k. book_at terms.listing (commands_of acts) k) (same ∙ is) }
in_sync terms acts came (Miss k) list (Some n) all shows from book sync =
    let same : n ≡ shows.0 = cc shows.2 in
    let next = shows.1 in
    let le = supported_known terms.listing came n book.0 in
    absurd (sync.0 (omega arith))
in_sync terms acts came (Refused q why) list (Some n) all shows from book sync = absurd shows

-- A report of genuine deliveries is in sync where a whole cycle at the last message came, with its first number in the packet window.
pub report_in_sync : (terms : Terms) (acts : List Act) (dl : List Delivery) (state : State) (list : List Resting) (p q : ℕ) (parts : List Section)
    → AreSayable terms acts
    → Genuine terms acts dl → Report terms acts dl state list → Whole terms.listing (arrivals terms dl) (last_sent terms acts) p q parts
    → PacketWindow terms.listing (arrivals terms dl) p → InSync terms acts state list
report_in_sync terms acts dl state list p q parts sayable genuine report whole near =
    let came = arrivals terms dl in
    let most = known_most terms acts sayable dl genuine in
    let least = whole_known terms.listing came (last_sent terms acts) p q parts whole in
    let covers = prefix_now terms (CoversAll terms.listing report.number) dl report.cycles in
    in_sync terms acts came state list report.number (omega arith) report.shows (covers (last_sent terms acts) p q parts whole near) report.book report.sync
