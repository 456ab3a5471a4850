-- The last cycle reaches the member whole.
use Rattle.std.proofs.Common.{◌≡◌, ℕ, zero, suc, ◌+◌, ◌≤◌, inl, inr, Bool, eqb, List, [], ◌∷◌, ◌++◌, length, drop, Option, Some, None, refl, sym, ap, subst}
use Rattle.std.proofs.Common.{◌∙◌, arith, add-one}
use Rattle.std.specs.Prelude.{slice_get}
use Rattle.std.proofs.lemmas.Bool.Decides.{eqb_tells}
use Rattle.t7_base.specs.declared.ids.Feed.TheVariants.{SnapB}
use Rattle.t7_base.specs.declared.ids.Channel.TheVariants as channel
use Rattle.t7_book.specs.Acts.{Act, Beats, Snaps, commands_of}
use Rattle.t7_book.specs.declared.command.Command.{Command}
use Rattle.t7_eobi.specs.declared.faults.PacketFault.{PacketFault}
use Rattle.t7_eobi.specs.declared.walks.Snap.{Snap}
use Rattle.t7_eobi.specs.Datagrams.{packet_number, snaps_of}
use Rattle.t7_entry.specs.State.{Setting, State}
use Rattle.t7_exchange.specs.Sending.{terms_of}
use Rattle.t7_feed.specs.Arrivals.{Arrival, Delivery, Packet, PacketWindow, Terms, arrivals, first, or_else, taken_where}
use Rattle.t7_feed.specs.Cycles.{Section, Stand}
use Rattle.t7_feed.specs.Sending.{AreSayable, AreSent, Genuine, at_number, book_at, cycle_now, packet_sent, parts_of, snap_datagram_bytes, snap_datagrams}
use Rattle.t7_feed.specs.Sending.{under_way}
use Rattle.t7_feed.specs.Whole.{Whole}
use Rattle.t7_feed.specs.Words.{SomeOf}
use Rattle.t7_feed.proofs.Genuine.{genuine_sent}
use Rattle.t7_feed.proofs.Grown.{grows_heard}
use Rattle.t7_feed.proofs.Sends.{cycle_spells}
use Rattle.t7_feed.proofs.Sent.{first_sent}
use Rattle.t7_acts.proofs.Cycling as cycling
use Rattle.t7_drill.specs.Drilled.{FitsCycle}
use Rattle.t7_drill.specs.Entering.{accepted_in}
use Rattle.t7_drill.specs.Worlds.{World, beaten, cycled, first_in, sent_off, snap_bytes, snap_on, to_send}
use Rattle.t7_drill.proofs.Following.{Follows, StayInStep, beaten_follows, follows_terms, sent_off_follows, snap_on_follows, snaps_next}
use Rattle.t7_drill.proofs.Knowing.{last_sent, packets_most}

-- what stands in a list stands there with more behind it
slice_more : (xs ys : List (List Snap)) (n : ℕ) (x : List Snap) → slice_get xs n ≡ Some x → slice_get (xs ++ ys) n ≡ Some x
slice_more [] ys n x is = absurd (let gone : None ≡ Some x = is in cc gone)
slice_more (y ∷ xs) ys zero x is = is
slice_more (y ∷ xs) ys (suc n) x is = slice_more xs ys n x is

slice_last : (xs : List (List Snap)) (x : List Snap) → slice_get (xs ++ x ∷ []) (length xs) ≡ Some x
slice_last [] x = refl
slice_last (y ∷ xs) x = slice_last xs x

same_some : {A : Type 0} (x y : A) → Some x ≡ Some y → x ≡ y
same_some x y e = cc e

module _ (terms : Terms) where
  packet_more : (acts more : List Act) (i : ℕ) (x : List Snap) → packet_sent terms acts i ≡ Some x → packet_sent terms (acts ++ more) i ≡ Some x
  packet_more acts more zero x is = absurd (let gone : None ≡ Some x = is in cc gone)
  packet_more acts more (suc n) x is =
      ap (λ (l : List (List Snap)). slice_get l n) (cycling.snaps_both terms [] [] acts more) ∙ slice_more (snap_datagrams terms acts) _ n x is

  -- the datagram of these items with this number, as it is delivered on line B
  abbrev on_line_b : ℕ → List Snap → Delivery
  on_line_b i items = record { feed = SnapB; bytes = snap_datagram_bytes terms i items }

  -- these datagrams were sent with the numbers from i on, and each was delivered on line B
  abbrev AreThere : List Act → List Delivery → ℕ → List (List Snap) → Type 0
  AreThere acts came i [] = Unit {0}
  AreThere acts came i (x ∷ xs) = (packet_sent terms acts i ≡ Some x) × SomeOf (λ d. d ≡ on_line_b i x) came × AreThere acts came (i + 1) xs

  there_more : (acts more : List Act) (came : List Delivery) (d : Delivery) (i : ℕ) (xs : List (List Snap)) → AreThere acts came i xs
      → AreThere (acts ++ more) (d ∷ came) i xs
  there_more acts more came d i [] h = tt
  there_more acts more came d i (x ∷ xs) h = (packet_more acts more i x h.0, inr h.1, there_more acts more came d (i + 1) xs h.2)

  sent_later : (n : ℕ) (w : World) (i : ℕ) (x : List Snap) → packet_sent terms w.acts i ≡ Some x → packet_sent terms (sent_off n w).acts i ≡ Some x
  unfolding sent_off
  sent_later zero w i x is = is
  sent_later (suc n) w i x is = sent_later n (snap_on SnapB w) i x (packet_more w.acts (Snaps ∷ []) i x is)

  came_later : (n : ℕ) (w : World) (d : Delivery) → SomeOf (λ e. e ≡ d) w.came → SomeOf (λ e. e ≡ d) (sent_off n w).came
  unfolding sent_off
  came_later zero w d h = h
  came_later (suc n) w d h = came_later n (snap_on SnapB w) d (inr h)

  -- these are sent next
  abbrev AreNext : List (List Snap) → World → Type 0
  AreNext [] w = Unit {0}
  AreNext (x ∷ xs) w = to_send w.day ≡ x ∷ xs

  next_by : (xs : List (List Snap)) (w : World) → to_send w.day ≡ xs → AreNext xs w
  next_by [] w is = tt
  next_by (x ∷ xs) w is = is

  next_later : (x : List Snap) (xs : List (List Snap)) (w : World) → to_send w.day ≡ x ∷ xs → AreNext xs (snap_on SnapB w)
  next_later x [] w is = tt
  next_later x (y ∷ ys) w is = ap (λ (l : List (List Snap)). under_way (drop 1 l) (cycle_now (terms_of w.day) (accepted_in w.day))) is

  packet_now : (w : World) → Follows terms w → packet_sent terms (w.acts ++ Snaps ∷ []) (w.day.snaps + 1) ≡ Some (first_in (to_send w.day))
  packet_now w f =
      let before = snap_datagrams terms w.acts in
      let items = first_in (to_send w.day) in
      ap (λ (l : List (List Snap)). at_number l (w.day.snaps + 1)) (snaps_next terms w f)
      ∙ ap (λ n. at_number (before ++ items ∷ []) (n + 1)) f.snaps
      ∙ rw add-one (slice_last before items)

  bytes_now : (w : World) (x : List Snap) (xs : List (List Snap)) → Follows terms w → to_send w.day ≡ x ∷ xs
      → snap_bytes w.day ≡ snap_datagram_bytes terms (w.day.snaps + 1) x
  bytes_now w x xs f is =
      ap (λ (t : Terms). snap_datagram_bytes t (w.day.snaps + 1) (first_in (to_send w.day))) (follows_terms terms w f)
      ∙ ap (λ (l : List (List Snap)). snap_datagram_bytes terms (w.day.snaps + 1) (first_in l)) is

  -- what is sent off is there
  sent_there : StayInStep → (xs : List (List Snap)) (w : World) → Follows terms w → AreNext xs w
      → AreThere (sent_off (length xs) w).acts (sent_off (length xs) w).came (w.day.snaps + 1) xs
  unfolding sent_off
  sent_there laws [] w f is = tt
  sent_there laws (x ∷ xs) w f is =
      let next = snap_on SnapB w in (
        sent_later (length xs) next (w.day.snaps + 1) x (packet_now w f ∙ ap (λ (l : List (List Snap)). Some (first_in l)) is),
        came_later (length xs) next _ (inl (ap (λ (b : List ℕ). let d : Delivery = record { feed = SnapB; bytes = b } in d) (bytes_now w x xs f is))),
        sent_there laws xs next (snap_on_follows terms laws w f) (next_later x xs w is),
      )

  module _ (acts : List Act) (sayable : AreSayable terms acts) where
    first_now : (before : List Arrival) (i : ℕ) (x : List Snap) (t : Bool) (o : Option (List Snap)) → first before i ≡ o → AreSent terms acts before
        → packet_sent terms acts i ≡ Some x
        → or_else o (Some x) ≡ Some x
    first_now before i x t None is sent packet = refl
    first_now before i x t (Some y) is sent packet = (sym (first_sent terms acts before i y sent is) ∙ packet)

    packet_first : (i : ℕ) (x : List Snap) (before : List Arrival) → AreSent terms acts before → packet_sent terms acts i ≡ Some x
        → first (Packet i x ∷ before) i ≡ Some x
    packet_first i x before sent packet =
        elim (eqb_tells i i) [
          | inl same ↦ rw same.0 (first_now before i x (eqb i i) (first before i) refl sent packet)
          | inr other ↦ absurd (other.1 refl)
        ]

    -- a delivery of the datagram of a number is the first with it, or another one was
    first_there : (dl : List Delivery) (i : ℕ) (x : List Snap) → Genuine terms acts dl → packet_sent terms acts i ≡ Some x → SomeOf (λ d. d ≡ on_line_b i x) dl
        → first (arrivals terms dl) i ≡ Some x
    first_there [] i x g packet h = absurd h
    first_there (d ∷ dl) i x g packet (inr later) = (grows_heard terms d dl).first i x (first_there dl i x g.1 packet later)
    first_there (d ∷ dl) i x g packet (inl now) =
        let before = arrivals terms dl in
        let sent = genuine_sent terms acts sayable dl g.1 in
        let bytes = snap_datagram_bytes terms i x in
        let reads = sayable.snaps i x packet in
        let there : first (Packet (packet_number terms.layouts bytes) (snaps_of terms.layouts bytes) ∷ before) i ≡ Some x =
        ap (λ n. first (Packet n (snaps_of terms.layouts bytes) ∷ before) i) reads.numbered
        ∙ ap (λ (l : List Snap). first (Packet i l ∷ before) i) reads.says
        ∙ packet_first i x before sent packet in
        subst (λ (e : Delivery). first (arrivals terms (e ∷ dl)) i ≡ Some x) (sym now)
        (subst (λ (f : Option PacketFault). first (taken_where f terms.layouts channel.Snap bytes before) i ≡ Some x) (sym reads.faultless) there)

    stand_there : (dl : List Delivery) (i : ℕ) (xs : List (List Snap)) → Genuine terms acts dl → AreThere acts dl i xs → Stand (first (arrivals terms dl)) i xs
    stand_there dl i [] g there = tt
    stand_there dl i (x ∷ xs) g there = (first_there dl i x g there.0 there.1, stand_there dl (i + 1) xs g there.2)

-- what is sent off changes neither the setting nor the state
off_setting : (n : ℕ) (w : World) → (sent_off n w).day.setting ≡ w.day.setting
unfolding sent_off
off_setting zero w = refl
off_setting (suc n) w = off_setting n (snap_on SnapB w)

off_state : (n : ℕ) (w : World) → (sent_off n w).day.state ≡ w.day.state
unfolding sent_off
off_state zero w = refl
off_state (suc n) w = off_state n (snap_on SnapB w)

off_snaps : (n : ℕ) (w : World) → (sent_off n w).day.snaps ≡ w.day.snaps + n
unfolding sent_off
off_snaps zero w = omega arith
off_snaps (suc n) w = (let rest = off_snaps n (snap_on SnapB w) in omega arith)

-- a whole cycle at the last message came, with its first number in the packet window
pub record IsWhole (terms : Terms) (w : World) : Type 0 where
  pub p : ℕ
  pub q : ℕ
  pub parts : List Section
  pub whole : Whole terms.listing (arrivals terms w.came) (last_sent terms w.acts) p q parts
  pub near : PacketWindow terms.listing (arrivals terms w.came) p

pub last_cycle_whole : StayInStep → (terms : Terms) (v : World) → Follows terms v → v.day.left ≡ [] → AreSayable terms (beaten (cycled v)).acts
    → FitsCycle (beaten (cycled v))
    → IsWhole terms (beaten (cycled v))
last_cycle_whole laws terms v f none sayable fits =
    let new = cycle_now (terms_of v.day) (accepted_in v.day) in
    let off = sent_off (length new) v in
    let e = beaten off in
    let off_f = sent_off_follows terms laws (length new) v f in
    let g = beaten_follows terms laws off off_f in
    let cs = commands_of e.acts in
    let m = last_sent terms e.acts in
    let orders = book_at terms.listing cs m in
    let state = off_state (length new) v in
    let setting = off_setting (length new) v in
    let here : new ≡ cycle_now (terms_of e.day) (accepted_in e.day) =
    sym (ap (λ (s : Setting). cycle_now (record { layouts = s.layouts; listing = s.listing }) (accepted_in e.day)) setting
    ∙ ap (λ (s : State). cycle_now (terms_of v.day) s.core.accepted) state) in
    let same : new ≡ cycle_now terms cs =
    here
    ∙ ap (λ (t : Terms). cycle_now t (accepted_in e.day)) (follows_terms terms e g)
    ∙ ap (λ (l : List Command). cycle_now terms l) g.step.accepted in
    let next : to_send v.day ≡ new = ap (λ (l : List (List Snap)). under_way l new) none in
    let there = sent_there terms laws new v f (next_by terms new v next) in
    let later = there_more terms off.acts (Beats ∷ []) off.came _ (v.day.snaps + 1) new there in
    let stand = stand_there terms e.acts sayable e.came (v.day.snaps + 1) new g.genuine later in
    let long : length new ≡ length (cycle_now terms cs) = ap (λ (l : List (List Snap)). length l) same in
    let count = off_snaps (length new) v in
    let most = packets_most terms e.acts (arrivals terms e.came) (genuine_sent terms e.acts sayable e.came g.genuine) in
    let all = g.snaps in
    let window : length new ≤ terms.listing.packets =
    subst (λ (t : Terms). length new ≤ t.listing.packets) (follows_terms terms e g)
    (subst (λ (l : List (List Snap)). length l ≤ e.day.setting.listing.packets) (sym here) fits) in
    record {
      p = v.day.snaps + 1;
      q = v.day.snaps + length new;
      parts = parts_of terms.listing.securities orders;
      whole = record {
        run = record {
          datagrams = cycle_now terms cs;
          stand = subst (λ (l : List (List Snap)). Stand (first (arrivals terms e.came)) (v.day.snaps + 1) l) same stand;
          last = omega arith;
          spells = cycle_spells terms m orders;
        };
      };
      near = omega arith;
    }
