-- What the exchange of the drill did, in step with its day; and what was delivered, which it sent.
use Rattle.std.proofs.Common.{◌≡◌, ℕ, zero, suc, ◌+◌, ◌%◌, ◌==◌, Bool, true, false, if◌then◌else◌, List, [], ◌∷◌, ◌++◌, length, map, drop, refl, sym, ap}
use Rattle.std.proofs.Common.{subst, ◌∙◌, arith, append_assoc, length-append}
use Rattle.std.specs.Prelude.{Contains}
use Rattle.std.proofs.lemmas.List.{append-nil, length-map}
use Rattle.std.proofs.lemmas.List.Elements.{Contains-append_left, Contains-append_right, Contains-push}
use Rattle.t7_base.specs.declared.ids.Feed.TheVariants.{LiveA, LiveB, SnapA, SnapB}
use Rattle.t7_base.specs.declared.ids.Channel.TheVariants.{Live, Snap}
use Rattle.t7_book.specs.Acts.{Accepts, Act, Beats, Snaps, commands_of}
use Rattle.t7_book.specs.declared.command.Command.{Command}
use Rattle.t7_eobi.specs.declared.walks.Snap.{Snap as Item}
use Rattle.t7_eti.specs.declared.request.Request.{Request}
use Rattle.t7_eti.specs.Saying.{request_bytes}
use Rattle.t7_entry.specs.Days.{Day, day_after, due, last_of, new_day}
use Rattle.t7_entry.specs.Events.{Bytes, Event, Opened}
use Rattle.t7_entry.specs.State.{Setting}
use Rattle.t7_exchange.specs.Sending.{terms_of}
use Rattle.t7_packets.specs.Packing.{datagram_bytes, of_beat}
use Rattle.t7_feed.specs.Arrivals.{Delivery, Terms}
use Rattle.t7_feed.specs.Sending.{Genuine, beats_in, cycle_now, first_and, numbered_bytes, sent_on, snap_datagram_bytes, snap_datagrams, snaps_in, under_way}
use Rattle.t7_acts.specs.Added.{added_by}
use Rattle.t7_acts.specs.InStep.{IsInStep, setting_of}
use Rattle.t7_acts.specs.Left.{left_of, next_snaps}
use Rattle.t7_acts.specs.Next.{live_bytes}
use Rattle.t7_acts.proofs.Cycling as cycling
use Rattle.t7_acts.proofs.Lists.{beats_both, no_beats, no_snaps, snaps_both}
use Rattle.t7_acts.proofs.Sends.{genuine_kept, sent_kept}
use Rattle.t7_acts.proofs.Stepping.{all_put}
use Rattle.t7_drill.specs.Entering.{accepted_in, day_asked, due_bytes, handed}
use Rattle.t7_drill.specs.Feeding.{Feeding, all_delivered, cast, cast_all, delivered}
use Rattle.t7_drill.specs.Worlds.{World, beat_bytes, beaten, caught_up, counted, entered, first_in, first_phase, logged_on, new_world, opened}
use Rattle.t7_drill.specs.Worlds.{requested, rotated}
use Rattle.t7_drill.specs.Worlds.{second_phase, sent_off, snap_bytes, snap_on, snapped, step, to_send}
use Rattle.t7_script.specs.Draws.{drawn}

-- how a day and acts stay in step
pub record StayInStep : Type 0 where
  pub begin : (terms : Terms) → IsInStep terms [] (new_day (setting_of terms)) []
  pub event : (terms : Terms) (acts : List Act) (day : Day) (put : List (List ℕ)) (event : Event) → IsInStep terms acts day put
      → IsInStep terms (acts ++ map Accepts (added_by day.setting day.state event)) (day_after day event) put
  pub beat : (terms : Terms) (acts : List Act) (day : Day) (put : List (List ℕ)) → IsInStep terms acts day put → day.untold ≡ []
      → IsInStep terms (acts ++ Beats ∷ []) (record day { live = day.live + 1; beats = day.beats + 1 })
      (put ++ datagram_bytes terms.layouts terms.listing.segment (of_beat (day.live + 1) (last_of day)) ∷ [])
  pub snap : (terms : Terms) (acts : List Act) (day : Day) (put : List (List ℕ)) → IsInStep terms acts day put → IsInStep terms (acts ++ Snaps ∷ []) day put

-- each of some datagrams is among those that were sent
abbrev pub AreAmong : List (List ℕ) → List (List ℕ) → Type 0
AreAmong sent [] = Unit {0}
AreAmong sent (bytes ∷ more) = Contains sent bytes × AreAmong sent more

among_more : (sent rest xs : List (List ℕ)) → AreAmong sent xs → AreAmong (sent ++ rest) xs
among_more sent rest [] h = tt
among_more sent rest (x ∷ xs) h = (Contains-append_left sent rest x h.0, among_more sent rest xs h.1)

among_push : (sent xs : List (List ℕ)) (x : List ℕ) → AreAmong sent xs → Contains sent x → AreAmong sent (xs ++ x ∷ [])
among_push sent [] x h one = (one, tt)
among_push sent (y ∷ xs) x h one = (h.0, among_push sent xs x h.1 one)

-- those behind others are among both
among_back : (before xs : List (List ℕ)) → AreAmong (before ++ xs) xs
among_back before [] = tt
among_back before (x ∷ xs) = (
  Contains-append_right before (x ∷ xs) x (0, omega arith, refl),
  subst (λ (l : List (List ℕ)). AreAmong l xs) (append_assoc before (x ∷ []) xs) (among_back (before ++ x ∷ []) xs),
)

-- The day is in step with the acts, nothing of it is due, the snapshot datagrams are those of the acts, the copies are live datagrams that the acts sent,
-- and the deliveries are genuine.
pub record Follows (terms : Terms) (w : World) : Type 0 where
  pub step : IsInStep terms w.acts w.day (sent_on terms w.acts Live)
  pub told : w.day.untold ≡ []
  pub left : w.day.left ≡ left_of terms w.acts
  pub snaps : w.day.snaps ≡ length (snap_datagrams terms w.acts)
  pub beats : w.day.beats ≡ beats_in w.acts
  pub sent : w.day.snaps ≡ snaps_in w.acts
  pub copies : AreAmong (sent_on terms w.acts Live) w.copies
  pub genuine : Genuine terms w.acts w.came

module _ (terms : Terms) where
  -- the generator, the next numbers and the count of rejects are another matter
  aside : (w : World) (draw first second rejects : ℕ) → Follows terms w
      → Follows terms (record w { draw = draw; first = first; second = second; rejects = rejects })
  aside w draw first second rejects f = record {
    step = f.step;
    told = f.told;
    left = f.left;
    snaps = f.snaps;
    beats = f.beats;
    sent = f.sent;
    copies = f.copies;
    genuine = f.genuine;
  }

  pub follows_terms : (w : World) → Follows terms w → terms_of w.day ≡ terms
  follows_terms w f = ap (λ (s : Setting). let t : Terms = record { layouts = s.layouts; listing = s.listing } in t) f.step.setting

  all_genuine : (acts : List Act) (copies : List (List ℕ)) (came : List Delivery) → AreAmong (sent_on terms acts Live) copies → Genuine terms acts came
      → Genuine terms acts (all_delivered LiveB copies came)
  unfolding all_delivered
  all_genuine acts [] came among g = g
  all_genuine acts (bytes ∷ more) came among g = all_genuine acts more (delivered LiveB bytes came) among.1 (among.0, g)

  came_genuine : (acts : List Act) (bytes : List ℕ) (t : Bool) (came : List Delivery) → Contains (sent_on terms acts Live) bytes → Genuine terms acts came
      → Genuine terms acts (if t then came else delivered LiveA bytes came)
  came_genuine acts bytes true came one g = g
  came_genuine acts bytes false came one g = (one, g)

  kept_among : (acts : List Act) (bytes : List ℕ) (t : Bool) (copies : List (List ℕ)) → Contains (sent_on terms acts Live) bytes
      → AreAmong (sent_on terms acts Live) copies → AreAmong (sent_on terms acts Live) (if t then copies else copies ++ bytes ∷ [])
  kept_among acts bytes true copies one among = among
  kept_among acts bytes false copies one among = among_push (sent_on terms acts Live) copies bytes among one

  cast_genuine : (acts : List Act) (datagrams : List (List ℕ)) (f : Feeding) → AreAmong (sent_on terms acts Live) datagrams
      → AreAmong (sent_on terms acts Live) f.copies → Genuine terms acts f.came
      → AreAmong (sent_on terms acts Live) (cast_all datagrams f).copies × Genuine terms acts (cast_all datagrams f).came
  unfolding cast_all
  cast_genuine acts [] f among copies g = (copies, g)
  cast_genuine acts (bytes ∷ more) f among copies g =
      cast_genuine acts more (cast bytes f) among.1
      (kept_among acts bytes _ f.copies among.0 copies)
      (came_genuine acts bytes _ f.came among.0 g)

  -- once all that was due was handed out, all that the acts send was put
  handed_steps : (acts : List Act) (day : Day) (put : List (List ℕ)) → IsInStep terms acts day put → IsInStep terms acts (handed day) (sent_on terms acts Live)
  handed_steps acts day put is = record {
    setting = is.setting;
    accepted = is.accepted;
    live = (let was = is.live in
        let more = length-map (due day) (datagram_bytes terms.layouts terms.listing.segment) in
        let both = length-append put (live_bytes terms (due day)) in
        let whole = ap (λ (l : List (List ℕ)). length l) is.whole in
        omega (arith, was, more, both, whole));
    few = omega arith;
    whole = append-nil (sent_on terms acts Live);
  }

  -- what was due is among what the acts send
  due_among : (acts : List Act) (day : Day) (put : List (List ℕ)) → IsInStep terms acts day put → AreAmong (sent_on terms acts Live) (due_bytes day)
  due_among acts day put is =
      subst (λ (l : List (List ℕ)). AreAmong (sent_on terms acts Live) l)
      (sym (ap (λ (s : Setting). map (datagram_bytes s.layouts s.listing.segment) (due day)) is.setting))
      (subst (λ (l : List (List ℕ)). AreAmong l (live_bytes terms (due day))) is.whole (among_back put (live_bytes terms (due day))))

  pub asked_follows : StayInStep → (conn : ℕ) (request : Request) (w : World) → Follows terms w → Follows terms (requested conn request w)
  asked_follows laws conn request w f =
      let event = Bytes conn (request_bytes w.day.setting.layouts request) 0 in
      let day = day_asked conn request w.day in
      let cs = added_by w.day.setting w.day.state event in
      let more = map Accepts cs in
      let acts = w.acts ++ more in
      let is : IsInStep terms acts day (sent_on terms w.acts Live) = laws.event terms w.acts w.day (sent_on terms w.acts Live) event f.step in
      let kept = sent_kept terms w.acts more Live in
      let copies : AreAmong (sent_on terms acts Live) w.copies =
      subst (λ (l : List (List ℕ)). AreAmong l w.copies) (sym kept.1) (among_more (sent_on terms w.acts Live) kept.0 w.copies f.copies) in
      let came = all_genuine acts w.copies w.came copies (genuine_kept terms w.acts more w.came f.genuine) in
      let feeding : Feeding = record { draw = w.draw; copies = []; came = all_delivered LiveB w.copies w.came } in
      let fed = cast_genuine acts (due_bytes day) feeding (due_among acts day (sent_on terms w.acts Live) is) tt came in
      let none = cycling.commands_snap_none terms (commands_of w.acts) (left_of terms w.acts) cs in
      let same : snap_datagrams terms acts ≡ snap_datagrams terms w.acts =
      cycling.snaps_both terms [] [] w.acts more ∙ ap (λ (l : List (List Item)). snap_datagrams terms w.acts ++ l) none
      ∙ append-nil (snap_datagrams terms w.acts) in
      record {
        step = handed_steps acts day (sent_on terms w.acts Live) is;
        told = refl;
        left = f.left ∙ sym (cycling.left_both terms [] [] w.acts more ∙ cycling.commands_leave terms (commands_of w.acts) (left_of terms w.acts) cs);
        snaps = f.snaps ∙ sym (ap (λ (l : List (List Item)). length l) same);
        beats = (let was = f.beats in let both = beats_both w.acts more in let zero_in = no_beats cs in omega (arith, was, both, zero_in));
        sent = (let was = f.sent in let both = snaps_both w.acts more in let zero_in = no_snaps cs in omega (arith, was, both, zero_in));
        copies = fed.0;
        genuine = fed.1;
      }

  -- what is sent next of a cycle, in the words of the acts
  to_send_is : (w : World) → Follows terms w → to_send w.day ≡ next_snaps terms w.acts
  to_send_is w f =
      ap (λ (l : List (List Item)). under_way l (cycle_now (terms_of w.day) (accepted_in w.day))) f.left
      ∙ ap (λ (t : Terms). under_way (left_of terms w.acts) (cycle_now t (accepted_in w.day))) (follows_terms w f)
      ∙ ap (λ (l : List Command). under_way (left_of terms w.acts) (cycle_now terms l)) f.step.accepted

  -- the snapshot datagrams with the next one
  pub snaps_next : (w : World) → Follows terms w → snap_datagrams terms (w.acts ++ Snaps ∷ []) ≡ snap_datagrams terms w.acts ++ first_in (to_send w.day) ∷ []
  snaps_next w f =
      let o = cycling.next_opened terms (left_of terms w.acts) (commands_of w.acts) in
      let is : to_send w.day ≡ o.first ∷ o.rest = to_send_is w f ∙ o.are in
      cycling.snaps_both terms [] [] w.acts (Snaps ∷ [])
      ∙ ap (λ (l : List (List Item)). snap_datagrams terms w.acts ++ first_and l (λ rest. [])) o.are
      ∙ sym (ap (λ (l : List (List Item)). snap_datagrams terms w.acts ++ first_in l ∷ []) is)

  snap_sent : (w : World) → Follows terms w → Contains (sent_on terms (w.acts ++ Snaps ∷ []) Snap) (snap_bytes w.day)
  snap_sent w f =
      let before = snap_datagrams terms w.acts in
      let items = first_in (to_send w.day) in
      let number : 1 + length before ≡ w.day.snaps + 1 = (let was = f.snaps in omega (arith, was)) in
      let all : sent_on terms (w.acts ++ Snaps ∷ []) Snap ≡ numbered_bytes terms 1 before ++ snap_bytes w.day ∷ [] =
      ap (numbered_bytes terms 1) (snaps_next w f)
      ∙ cycling.numbered_append terms 1 before (items ∷ [])
      ∙ ap (λ n. numbered_bytes terms 1 before ++ snap_datagram_bytes terms n items ∷ []) number
      ∙ ap (λ (t : Terms). numbered_bytes terms 1 before ++ snap_datagram_bytes t (w.day.snaps + 1) items ∷ []) (sym (follows_terms w f)) in
      subst (λ (l : List (List ℕ)). Contains l (snap_bytes w.day)) (sym all) (Contains-push (numbered_bytes terms 1 before) (snap_bytes w.day))

  -- a snapshot datagram is sent
  snap_follows : StayInStep → (w : World) (draw : ℕ) (came : List Delivery) → Follows terms w → Genuine terms (w.acts ++ Snaps ∷ []) came
      → Follows terms (record w { draw = draw; day = snapped w.day; acts = w.acts ++ Snaps ∷ []; came = came })
  snap_follows laws w draw came f genuine =
      let acts = w.acts ++ Snaps ∷ [] in
      let kept = sent_kept terms w.acts (Snaps ∷ []) Live in
      let copies : AreAmong (sent_on terms acts Live) w.copies =
      subst (λ (l : List (List ℕ)). AreAmong l w.copies) (sym kept.1) (among_more (sent_on terms w.acts Live) kept.0 w.copies f.copies) in
      let is = laws.snap terms w.acts w.day (sent_on terms w.acts Live) f.step in
      let put : sent_on terms w.acts Live ≡ sent_on terms acts Live = all_put terms acts w.day (sent_on terms w.acts Live) is f.told in
      let there : IsInStep terms acts w.day (sent_on terms acts Live) = subst (λ (l : List (List ℕ)). IsInStep terms acts w.day l) put is in
      record {
        step = record { setting = there.setting; accepted = there.accepted; live = there.live; few = there.few; whole = there.whole };
        told = f.told;
        left = ap (λ (l : List (List Item)). drop 1 l) (to_send_is w f) ∙ sym (cycling.left_both terms [] [] w.acts (Snaps ∷ []));
        snaps = (let was = f.snaps in let next = ap (λ (l : List (List Item)). length l) (snaps_next w f) in
            let both = length-append (snap_datagrams terms w.acts) (first_in (to_send w.day) ∷ []) in omega (arith, was, next, both));
        beats = (let was = f.beats in let both = beats_both w.acts (Snaps ∷ []) in omega (arith, was, both));
        sent = (let was = f.sent in let both = snaps_both w.acts (Snaps ∷ []) in omega (arith, was, both));
        copies = copies;
        genuine = genuine;
      }

  rotated_genuine : (w : World) (t : Bool) → Follows terms w → Genuine terms (w.acts ++ Snaps ∷ [])
      (if t then w.came else delivered SnapA (snap_bytes w.day) w.came)
  rotated_genuine w true f = genuine_kept terms w.acts (Snaps ∷ []) w.came f.genuine
  rotated_genuine w false f = (snap_sent w f, genuine_kept terms w.acts (Snaps ∷ []) w.came f.genuine)

  rotated_follows : StayInStep → (w : World) → Follows terms w → Follows terms (rotated w)
  rotated_follows laws w f = snap_follows laws w _ _ f (rotated_genuine w (drawn 8 w.draw == 0) f)

  pub snap_on_follows : StayInStep → (w : World) → Follows terms w → Follows terms (snap_on SnapB w)
  snap_on_follows laws w f = snap_follows laws w w.draw _ f (snap_sent w f, genuine_kept terms w.acts (Snaps ∷ []) w.came f.genuine)

  pub sent_off_follows : StayInStep → (n : ℕ) (w : World) → Follows terms w → Follows terms (sent_off n w)
  unfolding sent_off
  sent_off_follows laws zero w f = f
  sent_off_follows laws (suc n) w f = sent_off_follows laws n (snap_on SnapB w) (snap_on_follows laws w f)

  pub caught_up_follows : (w : World) → Follows terms w → Follows terms (caught_up w)
  caught_up_follows w f = record {
    step = f.step;
    told = f.told;
    left = f.left;
    snaps = f.snaps;
    beats = f.beats;
    sent = f.sent;
    copies = tt;
    genuine = all_genuine w.acts w.copies w.came f.copies f.genuine;
  }

  -- a Heartbeat is sent
  pub beaten_follows : StayInStep → (w : World) → Follows terms w → Follows terms (beaten w)
  beaten_follows laws w f =
      let acts = w.acts ++ Beats ∷ [] in
      let day = record w.day { live = w.day.live + 1; beats = w.day.beats + 1 } in
      let bytes = datagram_bytes terms.layouts terms.listing.segment (of_beat (w.day.live + 1) (last_of w.day)) in
      let put = sent_on terms w.acts Live ++ bytes ∷ [] in
      let is : IsInStep terms acts day put = laws.beat terms w.acts w.day (sent_on terms w.acts Live) f.step f.told in
      let whole : put ≡ sent_on terms acts Live = all_put terms acts day put is f.told in
      let same : bytes ≡ beat_bytes w.day =
      sym (ap (λ (s : Setting). datagram_bytes s.layouts s.listing.segment (of_beat (w.day.live + 1) (last_of w.day))) f.step.setting) in
      let one : Contains (sent_on terms acts Live) bytes = subst (λ (l : List (List ℕ)). Contains l bytes) whole
      (Contains-push (sent_on terms w.acts Live) bytes) in
      let kept = sent_kept terms w.acts (Beats ∷ []) Live in
      record {
        step = subst (λ (l : List (List ℕ)). IsInStep terms acts day l) whole is;
        told = f.told;
        left = f.left ∙ sym (cycling.left_both terms [] [] w.acts (Beats ∷ []));
        snaps = f.snaps ∙ sym (ap (λ (l : List (List Item)). length l)
            (cycling.snaps_both terms [] [] w.acts (Beats ∷ []) ∙ append-nil (snap_datagrams terms w.acts)));
        beats = (let was = f.beats in let both = beats_both w.acts (Beats ∷ []) in omega (arith, was, both));
        sent = (let was = f.sent in let both = snaps_both w.acts (Beats ∷ []) in omega (arith, was, both));
        copies = subst (λ (l : List (List ℕ)). AreAmong l w.copies) (sym kept.1) (among_more (sent_on terms w.acts Live) kept.0 w.copies f.copies);
        genuine = (subst (λ (b : List ℕ). Contains (sent_on terms acts Live) b) same one, genuine_kept terms w.acts (Beats ∷ []) w.came f.genuine);
      }

  after_by : StayInStep → (t : Bool) (w : World) → Follows terms w → Follows terms (if t then rotated w else w)
  after_by laws true w f = rotated_follows laws w f
  after_by laws false w f = f

  counted_by : (t : Bool) (w : World) → Follows terms w → Follows terms (if t then record w { first = w.first + 1 } else record w { second = w.second + 1 })
  counted_by true w f = aside w w.draw (w.first + 1) w.second w.rejects f
  counted_by false w f = aside w w.draw w.first (w.second + 1) w.rejects f

  entered_follows : StayInStep → (conn : ℕ) (request : Request) (w : World) → Follows terms w → Follows terms (counted conn (entered conn request w))
  entered_follows laws conn request w f =
      let there = asked_follows laws conn request w f in
      let a = requested conn request w in
      counted_by (conn == 1) (entered conn request w) (aside a a.draw a.first a.second _ there)

  opened_follows : StayInStep → (i : ℕ) (w : World) → Follows terms w → Follows terms (opened i w)
  opened_follows laws i w f = after_by laws (i % 4 == 0) _ (entered_follows laws 1 _ w f)

  first_follows : StayInStep → (n : ℕ) (w : World) → Follows terms w → Follows terms (first_phase n w)
  unfolding first_phase
  first_follows laws zero w f = f
  first_follows laws (suc n) w f = opened_follows laws (suc n) (first_phase n w) (first_follows laws n w f)

  step_follows : StayInStep → (i : ℕ) (w : World) → Follows terms w → Follows terms (step i w)
  step_follows laws i w f = after_by laws (i % 4 == 0) _ (entered_follows laws _ _ _ (aside w _ w.first w.second w.rejects f))

  second_follows : StayInStep → (n : ℕ) (w : World) → Follows terms w → Follows terms (second_phase n w)
  unfolding second_phase
  second_follows laws zero w f = f
  second_follows laws (suc n) w f = step_follows laws (suc n) (second_phase n w) (second_follows laws n w f)

  logged_on_follows : StayInStep → (w : World) → Follows terms w → Follows terms (logged_on w)
  logged_on_follows laws w f = entered_follows laws 2 _ _ (entered_follows laws 1 _ w f)

  -- the phases
  pub phases_follow : StayInStep → (orders steps : ℕ) (w : World) → Follows terms w → Follows terms (second_phase steps (first_phase orders (logged_on w)))
  phases_follow laws orders steps w f = second_follows laws steps _ (first_follows laws orders _ (logged_on_follows laws w f))

-- the table and the product of a setting
abbrev pub terms_by : Setting → Terms
terms_by setting = record { layouts = setting.layouts; listing = setting.listing }

pub new_follows : StayInStep → (setting : Setting) (seed : ℕ) → Follows (terms_by setting) (new_world setting seed)
new_follows laws setting seed =
    let terms = terms_by setting in
    let none = laws.begin terms in
    let one = laws.event terms [] (new_day setting) [] (Opened 1) none in
    let two = laws.event terms [] (day_after (new_day setting) (Opened 1)) [] (Opened 2) one in
    record { step = two; told = refl; left = refl; snaps = refl; beats = refl; sent = refl; copies = tt; genuine = tt }
