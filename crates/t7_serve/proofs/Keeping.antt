-- What an exchange on the network casts, in step with its acts.
use Rattle.std.proofs.Common.{◌≡◌, ℕ, ◌+◌, true, false, List, [], ◌∷◌, ◌++◌, length, length-append}
use Rattle.std.proofs.Common.{map, arith, refl, sym, ◌∙◌, ap, subst, append_assoc, if◌then◌else◌, Bool, nat_le}
use Rattle.std.proofs.lemmas.List.{append-nil, length-map}
use Rattle.t7_base.specs.declared.ids.Channel.TheVariants.{Live, Snap}
use Rattle.t7_base.specs.declared.ids.Feed.{Feed}
use Rattle.t7_base.specs.declared.ids.Feed.TheVariants.{LiveA, LiveB, SnapA, SnapB}
use Rattle.t7_book.specs.declared.command.Command.{Command}
use Rattle.t7_book.specs.Acts.{Accepts, Act, Beats, Snaps, commands_of}
use Rattle.t7_eobi.specs.declared.walks.Snap.{Snap as Item}
use Rattle.t7_entry.specs.ByNumber.{insert, len, remove}
use Rattle.t7_entry.specs.Days.{Day, day_after, due, last_of, new_day}
use Rattle.t7_entry.specs.Events.{Event}
use Rattle.t7_entry.specs.Events as entry
use Rattle.t7_entry.specs.State.{Setting}
use Rattle.t7_acts.specs.Added.{added_by}
use Rattle.t7_acts.specs.InStep.{IsInStep, setting_of}
use Rattle.t7_acts.specs.Left.{left_of, next_snaps as next_of}
use Rattle.t7_acts.specs.Next.{live_bytes}
use Rattle.t7_feed.specs.Arrivals.{Terms, channel_of}
use Rattle.t7_feed.specs.Sending.{beats_in, cycle_now, sent_on, snap_datagram_bytes, snaps_in, under_way}
use Rattle.t7_net.specs.declared.link.LinkItem.{LinkItem}
use Rattle.t7_net.specs.declared.link.LinkItem.TheVariants.{Bytes, Closed, Opened, Quiet}
use Rattle.t7_net.specs.Lines.{Casting}
use Rattle.t7_net.specs.Links.{Shut}
use Rattle.t7_packets.specs.Packing.{datagram_bytes, of_beat}
use Rattle.t7_serve.specs.Casts.{cast_on, same_feed}
use Rattle.t7_serve.specs.Served.{Taking, done_by}
use Rattle.t7_serve.specs.Turns.{beats, beat_bytes, came_on, does, due_bytes, enters, follows, hands_out, hears, is_due}
use Rattle.t7_serve.specs.Turns.{is_open, is_too_long, next_snaps, on_both, opens, snaps, snaps_first, takes, ticks}
use Rattle.t7_serve.specs.Venues.{Turn, Venue, and_then, new_venue, rests}

-- how what is sent grows as an exchange acts
pub record Grows : Type 0 where
  pub begin : (terms : Terms) → IsInStep terms [] (new_day (setting_of terms)) []
  pub event : (terms : Terms) (acts : List Act) (day : Day) (put : List (List ℕ)) (event : Event) → IsInStep terms acts day put
      → IsInStep terms (acts ++ map Accepts (added_by day.setting day.state event)) (day_after day event) put
  pub beat : (terms : Terms) (acts : List Act) (day : Day) (put : List (List ℕ)) → IsInStep terms acts day put → day.untold ≡ []
      → IsInStep terms (acts ++ Beats ∷ []) (record day { live = day.live + 1; beats = day.beats + 1 })
      (put ++ datagram_bytes terms.layouts terms.listing.segment (of_beat (day.live + 1) (last_of day)) ∷ [])
  pub snap : (terms : Terms) (acts : List Act) (day : Day) (put : List (List ℕ)) → IsInStep terms acts day put → IsInStep terms (acts ++ Snaps ∷ []) day put
  pub all : (terms : Terms) (acts : List Act) (day : Day) (put : List (List ℕ)) → IsInStep terms acts day put → day.untold ≡ [] → put ≡ sent_on terms acts Live
  pub none_left : (terms : Terms) → left_of terms [] ≡ []
  pub none_sent : (terms : Terms) → sent_on terms [] Snap ≡ []
  pub accept_snap : (terms : Terms) (acts : List Act) (cs : List Command) → sent_on terms (acts ++ map Accepts cs) Snap ≡ sent_on terms acts Snap
  pub accept_left : (terms : Terms) (acts : List Act) (cs : List Command) → left_of terms (acts ++ map Accepts cs) ≡ left_of terms acts
  pub accept_beats : (acts : List Act) (cs : List Command) → beats_in (acts ++ map Accepts cs) ≡ beats_in acts
  pub accept_snaps : (acts : List Act) (cs : List Command) → snaps_in (acts ++ map Accepts cs) ≡ snaps_in acts
  pub beat_snap : (terms : Terms) (acts : List Act) → sent_on terms (acts ++ Beats ∷ []) Snap ≡ sent_on terms acts Snap
  pub beat_left : (terms : Terms) (acts : List Act) → left_of terms (acts ++ Beats ∷ []) ≡ left_of terms acts
  pub beat_beats : (acts : List Act) → beats_in (acts ++ Beats ∷ []) ≡ beats_in acts + 1
  pub beat_snaps : (acts : List Act) → snaps_in (acts ++ Beats ∷ []) ≡ snaps_in acts
  pub snap_snap : (terms : Terms) (acts : List Act) (items : List Item) (rest : List (List Item)) → next_of terms acts ≡ items ∷ rest
      → sent_on terms (acts ++ Snaps ∷ []) Snap ≡ sent_on terms acts Snap ++ snap_datagram_bytes terms (length (sent_on terms acts Snap) + 1) items ∷ []
  pub snap_left : (terms : Terms) (acts : List Act) (items : List Item) (rest : List (List Item)) → next_of terms acts ≡ items ∷ rest
      → left_of terms (acts ++ Snaps ∷ []) ≡ rest
  pub snap_beats : (acts : List Act) → beats_in (acts ++ Snaps ∷ []) ≡ beats_in acts
  pub snap_snaps : (acts : List Act) → snaps_in (acts ++ Snaps ∷ []) ≡ snaps_in acts + 1
  pub some : (terms : Terms) (acts : List Act) → (items : List Item) × (rest : List (List Item)) × (next_of terms acts ≡ items ∷ rest)

-- what was cast is in step with the acts that were done, and with the exchange
pub record Keeps (terms : Terms) (acts : List Act) (venue : Venue) (cast : List Casting) : Type 0 where
  pub live : IsInStep terms acts venue.day (cast_on LiveA cast)
  pub live_b : cast_on LiveB cast ≡ cast_on LiveA cast
  pub snap : cast_on SnapA cast ≡ sent_on terms acts Snap
  pub snap_b : cast_on SnapB cast ≡ cast_on SnapA cast
  pub left : venue.day.left ≡ left_of terms acts
  pub sent : venue.day.snaps ≡ length (sent_on terms acts Snap)
  pub beats : venue.day.beats ≡ beats_in acts
  pub snaps : venue.day.snaps ≡ snaps_in acts

-- what is cast behind something
cast_one : (same : Bool) (bytes : List ℕ) (both front back : List (List ℕ)) → both ≡ front ++ back
    → (if same then bytes ∷ both else both) ≡ (if same then bytes ∷ front else front) ++ back
cast_one true bytes both front back is = ap (λ (l : List (List ℕ)). bytes ∷ l) is
cast_one false bytes both front back is = is

pub cast_on-append : (feed : Feed) (a b : List Casting) → cast_on feed (a ++ b) ≡ cast_on feed a ++ cast_on feed b
cast_on-append feed [] b = refl
cast_on-append feed (one ∷ a) b = cast_one (same_feed feed one.feed) one.bytes (cast_on feed (a ++ b)) (cast_on feed a) (cast_on feed b)
    (cast_on-append feed a b)

lives_on_a : (ds : List (List ℕ)) → cast_on LiveA (on_both LiveA LiveB ds) ≡ ds
lives_on_a [] = refl
lives_on_a (d ∷ ds) = ap (λ (l : List (List ℕ)). d ∷ l) (lives_on_a ds)

lives_on_b : (ds : List (List ℕ)) → cast_on LiveB (on_both LiveA LiveB ds) ≡ ds
lives_on_b [] = refl
lives_on_b (d ∷ ds) = ap (λ (l : List (List ℕ)). d ∷ l) (lives_on_b ds)

lives_on_snap_a : (ds : List (List ℕ)) → cast_on SnapA (on_both LiveA LiveB ds) ≡ []
lives_on_snap_a [] = refl
lives_on_snap_a (d ∷ ds) = lives_on_snap_a ds

lives_on_snap_b : (ds : List (List ℕ)) → cast_on SnapB (on_both LiveA LiveB ds) ≡ []
lives_on_snap_b [] = refl
lives_on_snap_b (d ∷ ds) = lives_on_snap_b ds

-- datagrams are cast on both live lines
module _ (cast : List Casting) (ds : List (List ℕ)) where
  live_a_on : cast_on LiveA (cast ++ on_both LiveA LiveB ds) ≡ cast_on LiveA cast ++ ds
  live_a_on = cast_on-append LiveA cast (on_both LiveA LiveB ds) ∙ ap (λ (l : List (List ℕ)). cast_on LiveA cast ++ l) (lives_on_a ds)

  live_b_on : cast_on LiveB cast ≡ cast_on LiveA cast → cast_on LiveB (cast ++ on_both LiveA LiveB ds) ≡ cast_on LiveA (cast ++ on_both LiveA LiveB ds)
  live_b_on same =
      cast_on-append LiveB cast (on_both LiveA LiveB ds) ∙ ap (λ (l : List (List ℕ)). cast_on LiveB cast ++ l) (lives_on_b ds)
      ∙ ap (λ (l : List (List ℕ)). l ++ ds) same ∙ sym live_a_on

  snap_a_on : cast_on SnapA (cast ++ on_both LiveA LiveB ds) ≡ cast_on SnapA cast
  snap_a_on =
      cast_on-append SnapA cast (on_both LiveA LiveB ds) ∙ ap (λ (l : List (List ℕ)). cast_on SnapA cast ++ l) (lives_on_snap_a ds)
      ∙ append-nil (cast_on SnapA cast)

  snap_b_on : cast_on SnapB (cast ++ on_both LiveA LiveB ds) ≡ cast_on SnapB cast
  snap_b_on =
      cast_on-append SnapB cast (on_both LiveA LiveB ds) ∙ ap (λ (l : List (List ℕ)). cast_on SnapB cast ++ l) (lives_on_snap_b ds)
      ∙ append-nil (cast_on SnapB cast)

-- nothing is due between two events
snaps_told : (venue : Venue) (next : List (List Item)) → venue.day.untold ≡ [] → (snaps_first next venue).venue.day.untold ≡ []
snaps_told venue [] told = told
snaps_told venue (items ∷ left) told = told

follows_told : (item : LinkItem) (moment : ℕ) (venue : Venue) → venue.day.untold ≡ [] → (follows item moment venue).venue.day.untold ≡ []
follows_told item moment venue told = by_test (is_due item venue.events)
  where
    by_test : (due_now : Bool) → (if due_now then ticks moment venue else rests venue).venue.day.untold ≡ []
    by_test true = let beaten = (beats (hands_out (enters (entry.Tick moment) venue).venue).venue).venue in snaps_told beaten (next_snaps beaten.day) refl
    by_test false = told

pub does_told : (item : LinkItem) (moment : ℕ) (venue : Venue) → (does item moment venue).venue.day.untold ≡ []
does_told item moment venue =
    let out = (hands_out (takes item moment (record venue { events = venue.events + 1 })).venue).venue in follows_told item moment out refl

pub all_told : (terms : Terms) (takings : List Taking) → (done_by terms takings).venue.day.untold ≡ []
all_told terms [] = refl
all_told terms (taking ∷ before) = by_test (is_too_long taking.item (done_by terms before).venue) (all_told terms before)
  where
    by_test : (long : Bool) → (done_by terms before).venue.day.untold ≡ []
        → (if long then done_by terms before else and_then (done_by terms before) (does taking.item taking.moment)).venue.day.untold ≡ []
    by_test true told = told
    by_test false told = does_told taking.item taking.moment (done_by terms before).venue

-- a turn keeps the exchange in step
abbrev pub Leads : Terms → Venue → Turn → Type 0
Leads terms venue turn = (acts : List Act) (cast : List Casting) → Keeps terms acts venue cast → Keeps terms (acts ++ turn.acts) turn.venue (cast ++ turn.cast)

module _ (terms : Terms) where
  leads_rest : (venue : Venue) → Leads terms venue (rests venue)
  leads_rest venue acts cast keeps =
      subst (λ (l : List Act). Keeps terms l venue (cast ++ [])) (sym (append-nil acts))
      (subst (λ (l : List Casting). Keeps terms acts venue l) (sym (append-nil cast)) keeps)

  leads_then : (venue : Venue) (first : Turn) (next : Venue → Turn) → Leads terms venue first → Leads terms first.venue (next first.venue)
      → Leads terms venue (and_then first next)
  leads_then venue first next one two acts cast keeps =
      let rest = next first.venue in
      subst (λ (l : List Act). Keeps terms l rest.venue (cast ++ (first.cast ++ rest.cast))) (append_assoc acts first.acts rest.acts)
      (subst (λ (l : List Casting). Keeps terms ((acts ++ first.acts) ++ rest.acts) rest.venue l) (append_assoc cast first.cast rest.cast)
      (two (acts ++ first.acts) (cast ++ first.cast) (one acts cast keeps)))

  -- the counts of bytes and of events are no matter of the acts
  of_day : (acts : List Act) (one other : Venue) (cast : List Casting) → one.day ≡ other.day → Keeps terms acts one cast → Keeps terms acts other cast
  of_day acts one other cast same keeps = record {
    live = subst (λ (d : Day). IsInStep terms acts d (cast_on LiveA cast)) same keeps.live;
    live_b = keeps.live_b;
    snap = keeps.snap;
    snap_b = keeps.snap_b;
    left = sym (ap (λ (d : Day). d.left) same) ∙ keeps.left;
    sent = sym (ap (λ (d : Day). d.snaps) same) ∙ keeps.sent;
    beats = sym (ap (λ (d : Day). d.beats) same) ∙ keeps.beats;
    snaps = sym (ap (λ (d : Day). d.snaps) same) ∙ keeps.snaps;
  }

  leads_same : (venue now : Venue) (turn : Turn) → now.day ≡ venue.day → Leads terms now turn → Leads terms venue turn
  leads_same venue now turn same leads acts cast keeps = leads acts cast (of_day acts venue now cast (sym same) keeps)

  -- the acts so far are not looked at
  keeps_acts : (acts more : List Act) (venue : Venue) (cast : List Casting) → acts ≡ more → Keeps terms acts venue cast → Keeps terms more venue cast
  keeps_acts acts more venue cast same keeps = subst (λ (l : List Act). Keeps terms l venue cast) same keeps

  module _ (laws : Grows) where
    leads_enter : (event : Event) (venue : Venue) → Leads terms venue (enters event venue)
    leads_enter event venue acts cast keeps =
        let cs = added_by venue.day.setting venue.day.state event in
        subst (λ (l : List Casting). Keeps terms (acts ++ map Accepts cs) (enters event venue).venue l) (sym (append-nil cast)) (record {
          live = laws.event terms acts venue.day (cast_on LiveA cast) event keeps.live;
          live_b = keeps.live_b;
          snap = keeps.snap ∙ sym (laws.accept_snap terms acts cs);
          snap_b = keeps.snap_b;
          left = keeps.left ∙ sym (laws.accept_left terms acts cs);
          sent = keeps.sent ∙ sym (ap length (laws.accept_snap terms acts cs));
          beats = keeps.beats ∙ sym (laws.accept_beats acts cs);
          snaps = keeps.snaps ∙ sym (laws.accept_snaps acts cs);
        })

    -- all that is due goes out
    due_are : (acts : List Act) (venue : Venue) (put : List (List ℕ)) → IsInStep terms acts venue.day put
        → live_bytes terms (due venue.day) ≡ due_bytes venue.day
    due_are acts venue put step =
        ap (λ (s : Setting). map (datagram_bytes s.layouts s.listing.segment) (due venue.day)) (sym step.setting)

    all_out : (acts : List Act) (venue : Venue) (put : List (List ℕ)) → IsInStep terms acts venue.day put
        → IsInStep terms acts (hands_out venue).venue.day (put ++ due_bytes venue.day)
    all_out acts venue put step = record {
      setting = step.setting;
      accepted = step.accepted;
      live = omega (
        arith,
        step.live,
        length-append put (due_bytes venue.day),
        length-map (due venue.day)
            (datagram_bytes venue.day.setting.layouts venue.day.setting.listing.segment),
      );
      few = omega arith;
      whole = append-nil (put ++ due_bytes venue.day) ∙ ap (λ (l : List (List ℕ)). put ++ l) (sym (due_are acts venue put step)) ∙ step.whole;
    }

    leads_out : (venue : Venue) → Leads terms venue (hands_out venue)
    leads_out venue acts cast keeps =
        let ds = due_bytes venue.day in
        keeps_acts acts (acts ++ []) (hands_out venue).venue (cast ++ (hands_out venue).cast) (sym (append-nil acts)) (record {
          live = subst (λ (l : List (List ℕ)). IsInStep terms acts (hands_out venue).venue.day l) (sym (live_a_on cast ds))
              (all_out acts venue (cast_on LiveA cast) keeps.live);
          live_b = live_b_on cast ds keeps.live_b;
          snap = snap_a_on cast ds ∙ keeps.snap;
          snap_b = snap_b_on cast ds ∙ keeps.snap_b ∙ sym (snap_a_on cast ds);
          left = keeps.left;
          sent = keeps.sent;
          beats = keeps.beats;
          snaps = keeps.snaps;
        })

    leads_beat : (venue : Venue) → venue.day.untold ≡ [] → Leads terms venue (beats venue)
    leads_beat venue told acts cast keeps =
        let ds = beat_bytes venue.day ∷ [] in
        let bytes = ap (λ (s : Setting). datagram_bytes s.layouts s.listing.segment (of_beat (venue.day.live + 1) (last_of venue.day))) keeps.live.setting in
        record {
          live = subst (λ (l : List (List ℕ)). IsInStep terms (acts ++ Beats ∷ []) (beats venue).venue.day l)
              (sym (live_a_on cast ds ∙ ap (λ (b : List ℕ). cast_on LiveA cast ++ b ∷ []) bytes))
              (laws.beat terms acts venue.day (cast_on LiveA cast) keeps.live told);
          live_b = live_b_on cast ds keeps.live_b;
          snap = snap_a_on cast ds ∙ keeps.snap ∙ sym (laws.beat_snap terms acts);
          snap_b = snap_b_on cast ds ∙ keeps.snap_b ∙ sym (snap_a_on cast ds);
          left = keeps.left ∙ sym (laws.beat_left terms acts);
          sent = keeps.sent ∙ sym (ap length (laws.beat_snap terms acts));
          beats = ap (λ (n : ℕ). n + 1) keeps.beats ∙ sym (laws.beat_beats acts);
          snaps = keeps.snaps ∙ sym (laws.beat_snaps acts);
        }

    -- the next snapshot datagrams are those of the acts
    next_are : (acts : List Act) (venue : Venue) (cast : List Casting) → Keeps terms acts venue cast → next_snaps venue.day ≡ next_of terms acts
    next_are acts venue cast keeps =
        let mine : (let t : Terms = record { layouts = venue.day.setting.layouts; listing = venue.day.setting.listing } in t) ≡ terms =
        ap (λ (s : Setting). let t : Terms = record { layouts = s.layouts; listing = s.listing } in t) keeps.live.setting in
        ap (λ (t : Terms). under_way venue.day.left (cycle_now t venue.day.state.core.accepted)) mine
        ∙ ap (λ (cs : List Command). under_way venue.day.left (cycle_now terms cs)) keeps.live.accepted
        ∙ ap (λ (l : List (List Item)). under_way l (cycle_now terms (commands_of acts))) keeps.left

    leads_snap : (venue : Venue) → Leads terms venue (snaps venue)
    leads_snap venue acts cast keeps =
        let next = laws.some terms acts in
        let is : next_snaps venue.day ≡ next.0 ∷ next.1 = next_are acts venue cast keeps ∙ next.2 in
        let mine = snap_datagram_bytes (let t : Terms = record { layouts = venue.day.setting.layouts; listing = venue.day.setting.listing } in t)
        (venue.day.snaps + 1) next.0 in
        let bytes : mine ≡ snap_datagram_bytes terms (length (sent_on terms acts Snap) + 1) next.0 =
        ap (λ (s : Setting). snap_datagram_bytes (let t : Terms = record { layouts = s.layouts; listing = s.listing } in t) (venue.day.snaps + 1) next.0)
        keeps.live.setting
        ∙ ap (λ (n : ℕ). snap_datagram_bytes terms (n + 1) next.0) keeps.sent in
        subst (λ (l : List (List Item)). Keeps terms (acts ++ (snaps_first l venue).acts) (snaps_first l venue).venue (cast ++ (snaps_first l venue).cast))
        (sym is) (record {
          live = subst (λ (l : List (List ℕ)). IsInStep terms (acts ++ Snaps ∷ []) (snaps_first (next.0 ∷ next.1) venue).venue.day l) (sym (on_live_a mine))
              (again acts venue cast keeps next.1);
          live_b = on_live_b mine ∙ keeps.live_b ∙ sym (on_live_a mine);
          snap = on_snap_a mine ∙ ap (λ (b : List ℕ). cast_on SnapA cast ++ b ∷ []) bytes
              ∙ ap (λ (l : List (List ℕ)). l ++ snap_datagram_bytes terms (length (sent_on terms acts Snap) + 1) next.0 ∷ []) keeps.snap
              ∙ sym (laws.snap_snap terms acts next.0 next.1 next.2);
          snap_b = on_snap_b mine ∙ ap (λ (l : List (List ℕ)). l ++ mine ∷ []) keeps.snap_b ∙ sym (on_snap_a mine);
          left = sym (laws.snap_left terms acts next.0 next.1 next.2);
          sent = ap (λ (n : ℕ). n + 1) keeps.sent
              ∙ sym (ap length (laws.snap_snap terms acts next.0 next.1 next.2)
              ∙ length-append (sent_on terms acts Snap) (snap_datagram_bytes terms (length (sent_on terms acts Snap) + 1) next.0 ∷ []));
          beats = keeps.beats ∙ sym (laws.snap_beats acts);
          snaps = ap (λ (n : ℕ). n + 1) keeps.snaps ∙ sym (laws.snap_snaps acts);
        })
      where
        on_live_a : (b : List ℕ) → cast_on LiveA (cast ++ on_both SnapA SnapB (b ∷ [])) ≡ cast_on LiveA cast
        on_live_a b = cast_on-append LiveA cast (on_both SnapA SnapB (b ∷ [])) ∙ append-nil (cast_on LiveA cast)

        on_live_b : (b : List ℕ) → cast_on LiveB (cast ++ on_both SnapA SnapB (b ∷ [])) ≡ cast_on LiveB cast
        on_live_b b = cast_on-append LiveB cast (on_both SnapA SnapB (b ∷ [])) ∙ append-nil (cast_on LiveB cast)

        on_snap_a : (b : List ℕ) → cast_on SnapA (cast ++ on_both SnapA SnapB (b ∷ [])) ≡ cast_on SnapA cast ++ b ∷ []
        on_snap_a b = cast_on-append SnapA cast (on_both SnapA SnapB (b ∷ []))

        on_snap_b : (b : List ℕ) → cast_on SnapB (cast ++ on_both SnapA SnapB (b ∷ [])) ≡ cast_on SnapB cast ++ b ∷ []
        on_snap_b b = cast_on-append SnapB cast (on_both SnapA SnapB (b ∷ []))

        again : (acts : List Act) (venue : Venue) (cast : List Casting) → Keeps terms acts venue cast → (rest : List (List Item))
            → IsInStep terms (acts ++ Snaps ∷ []) (record venue.day { left = rest; snaps = venue.day.snaps + 1 }) (cast_on LiveA cast)
        again acts venue cast keeps rest =
            let step = laws.snap terms acts venue.day (cast_on LiveA cast) keeps.live in
            record { setting = step.setting; accepted = step.accepted; live = step.live; few = step.few; whole = step.whole }

    leads_open : (conn : ℕ) (venue : Venue) → Leads terms venue (opens conn venue)
    leads_open conn venue = by_test (is_open venue conn) (nat_le 1024 (len venue.day.state.inputs))
      where
        by_test : (there full : Bool) → Leads terms venue (if there then rests venue else
            if full then record { venue = venue; acts = []; sent = Shut conn ∷ []; cast = [] } else
            enters (entry.Opened conn) (record venue { came = insert venue.came conn 0 }))
        by_test true full = leads_rest venue
        by_test false true = leads_rest venue
        by_test false false =
            let opened : Venue = record venue { came = insert venue.came conn 0 } in
            leads_same venue opened (enters (entry.Opened conn) opened) refl (leads_enter (entry.Opened conn) opened)

    leads_hear : (conn : ℕ) (piece : List ℕ) (moment : ℕ) (venue : Venue) → Leads terms venue (hears conn piece moment venue)
    leads_hear conn piece moment venue = by_test (is_open venue conn)
      where
        by_test : (there : Bool) → Leads terms venue (if there then
            enters (entry.Bytes conn piece moment) (record venue { came = insert venue.came conn (came_on venue conn + length piece) }) else rests venue)
        by_test true =
            let heard : Venue = record venue { came = insert venue.came conn (came_on venue conn + length piece) } in
            leads_same venue heard (enters (entry.Bytes conn piece moment) heard) refl (leads_enter (entry.Bytes conn piece moment) heard)
        by_test false = leads_rest venue

    leads_take : (item : LinkItem) (moment : ℕ) (venue : Venue) → Leads terms venue (takes item moment venue)
    leads_take (Opened conn) moment venue = leads_open conn venue
    leads_take (Bytes conn piece) moment venue = leads_hear conn piece moment venue
    leads_take (Closed conn) moment venue =
        let lost : Venue = record venue { came = remove venue.came conn } in
        leads_same venue lost (enters (entry.Closed conn) lost) refl (leads_enter (entry.Closed conn) lost)
    leads_take Quiet moment venue = leads_rest venue

    leads_tick : (moment : ℕ) (venue : Venue) → Leads terms venue (ticks moment venue)
    leads_tick moment venue =
        let ticked = (enters (entry.Tick moment) venue).venue in
        let told = (hands_out ticked).venue in
        leads_then venue (enters (entry.Tick moment) venue) (λ now. and_then (hands_out now) (λ out. and_then (beats out) snaps))
        (leads_enter (entry.Tick moment) venue)
        (leads_then ticked (hands_out ticked) (λ out. and_then (beats out) snaps) (leads_out ticked)
        (leads_then told (beats told) snaps (leads_beat told refl) (leads_snap (beats told).venue)))

    leads_follow : (item : LinkItem) (moment : ℕ) (venue : Venue) → Leads terms venue (follows item moment venue)
    leads_follow item moment venue = by_test (is_due item venue.events)
      where
        by_test : (due_now : Bool) → Leads terms venue (if due_now then ticks moment venue else rests venue)
        by_test true = leads_tick moment venue
        by_test false = leads_rest venue

    leads_step : (item : LinkItem) (moment : ℕ) (venue : Venue) → Leads terms venue (does item moment venue)
    leads_step item moment venue =
        let counted : Venue = record venue { events = venue.events + 1 } in
        let taken = (takes item moment counted).venue in
        leads_same venue counted (does item moment venue) refl
        (leads_then counted (takes item moment counted) (λ now. and_then (hands_out now) (follows item moment)) (leads_take item moment counted)
        (leads_then taken (hands_out taken) (follows item moment) (leads_out taken) (leads_follow item moment (hands_out taken).venue)))

    -- before the first event
    keeps_new : Keeps terms [] (new_venue terms) []
    keeps_new = record {
      live = laws.begin terms;
      live_b = refl;
      snap = sym (laws.none_sent terms);
      snap_b = refl;
      left = sym (laws.none_left terms);
      sent = sym (ap length (laws.none_sent terms));
      beats = refl;
      snaps = refl;
    }

    pub keeps_all : (takings : List Taking) → Keeps terms (done_by terms takings).acts (done_by terms takings).venue (done_by terms takings).cast
    keeps_all [] = keeps_new
    keeps_all (taking ∷ before) = by_test (is_too_long taking.item (done_by terms before).venue) (keeps_all before)
      where
        by_test : (long : Bool) → Keeps terms (done_by terms before).acts (done_by terms before).venue (done_by terms before).cast
            → (let now : Turn = if long then done_by terms before else and_then (done_by terms before) (does taking.item taking.moment) in
            Keeps terms now.acts now.venue now.cast)
        by_test true keeps = keeps
        by_test false keeps = leads_step taking.item taking.moment (done_by terms before).venue (done_by terms before).acts (done_by terms before).cast keeps

    -- what was cast on each feed is what the acts send there
    pub casts_all : (takings : List Taking) (feed : Feed)
        → cast_on feed (done_by terms takings).cast ≡ sent_on terms (done_by terms takings).acts (channel_of feed)
    casts_all takings LiveA = let keeps = keeps_all takings in laws.all terms _ (done_by terms takings).venue.day _ keeps.live (all_told terms takings)
    casts_all takings LiveB = let keeps = keeps_all takings in keeps.live_b
        ∙ laws.all terms _ (done_by terms takings).venue.day _ keeps.live (all_told terms takings)
    casts_all takings SnapA = (keeps_all takings).snap
    casts_all takings SnapB = let keeps = keeps_all takings in keeps.snap_b ∙ keeps.snap
