-- What the program tells is what the drill tells.
use Rattle.std.proofs.Common.{◌≡◌, ℕ, zero, suc, List, [], ◌∷◌, length, Option, Ok, Err, refl, sym, ap, subst, ◌∙◌, arith}
use Rattle.std.proofs.lemmas.List.{length-map}
use Rattle.t7_base.specs.Listing.{Listing}
use Rattle.t7_base.specs.Outside.{Begins, Grew}
use Rattle.t7_base.proofs.Grown.{grew_as}
use Rattle.t7_base.specs.declared.ids.Feed.TheVariants.{SnapB}
use Rattle.t7_base.specs.declared.public.Resting.{Resting}
use Rattle.t7_book.specs.Acts.{Act}
use Rattle.t7_book.specs.declared.command.Command.{Command}
use Rattle.t7_book.specs.declared.order.Order.{Order}
use Rattle.t7_book.specs.Orders.{empty_book, roster_of, shown}
use Rattle.t7_book.specs.Laws.{MarketsAreBooks}
use Rattle.t7_book.specs.Trace.{AreAccepted, book_left, market, trace}
use Rattle.t7_entry.specs.Days.{Day, last_of}
use Rattle.t7_entry.specs.State.{Setting}
use Rattle.t7_eobi.specs.declared.walks.Snap.{Snap}
use Rattle.t7_exchange.specs.Sending.{terms_of}
use Rattle.t7_feed.specs.declared.State.{State}
use Rattle.t7_feed.specs.declared.State.TheVariants.{Sync}
use Rattle.t7_feed.specs.Arrivals.{AreTerms, Delivery, Terms, arrivals}
use Rattle.t7_feed.specs.Report.{Report}
use Rattle.t7_feed.specs.Sending.{AreActs, AreRanged, AreSayable, Genuine, book_at, cycle_now}
use Rattle.t7_member.specs.Keeping.{Image, Keeps}
use Rattle.t7_member.specs.Status.{shown_of, status_of}
use Rattle.t7_outcome.specs.declared.ending.Finish.TheVariants.{End}
use Rattle.t7_outcome.specs.declared.ending.Stop.TheVariants.{WriteFault}
use Rattle.t7_outcome.specs.Outcome.{text_of}
use Rattle.t7_drill.specs.Drilled.{FitsCycle, IsRoomy, IsTold, WroteDrill}
use Rattle.t7_drill.specs.Entering.{accepted_in}
use Rattle.t7_drill.specs.Feeding.{Heard}
use Rattle.t7_drill.specs.Kits.{IsFew, Kit, Stands, told_by}
use Rattle.t7_drill.specs.Telling.{lines_of}
use Rattle.t7_drill.specs.Worlds.{World, beaten, caught_up, cycle_ended, cycled, drilled, first_phase, logged_on, new_world, second_phase, sent_off, snap_on}
use Rattle.t7_drill.proofs.Fitting.{cycle_fits}
use Rattle.t7_drill.proofs.Following.{Follows, StayInStep, beaten_follows, caught_up_follows, follows_terms, new_follows, phases_follow, sent_off_follows}
use Rattle.t7_drill.proofs.Following.{terms_by}
use Rattle.t7_drill.proofs.Knowing.{last_sent, report_in_sync}
use Rattle.t7_drill.proofs.LastCycle.{IsWhole, last_cycle_whole}
use Rattle.t7_drill.proofs.Standing.{left_falls}

-- what a member that keeps what came reports
abbrev pub KeptIsReported : Type 0
KeptIsReported = (terms : Terms) (acts : List Act) (member : Image) (dl : List Delivery) → AreTerms terms → AreActs terms.listing acts
    → Keeps terms acts member (arrivals terms dl) → Genuine terms acts dl
    → Report terms acts dl (status_of member.base member.refused member.known) (shown_of member.base member.list)

-- the laws that are used
pub record Laws : Type 0 where
  pub steps : StayInStep
  pub reported : KeptIsReported
  pub said : (terms : Terms) (acts : List Act) → AreTerms terms → AreActs terms.listing acts → AreSayable terms acts
  pub last : (listing : Listing) (cs : List Command) → market listing cs (length (trace listing cs)) ≡ (book_left (empty_book (roster_of listing)) cs).orders
  pub books : MarketsAreBooks

-- what always holds of the exchange, and that it sent few datagrams
pub record IsSound (day : Day) : Type 0 where
  pub terms : AreTerms (terms_of day)
  pub accepted : AreAccepted day.setting.listing (accepted_in day)
  pub ranged : AreRanged (accepted_in day)
  pub few : IsFew day

are_acts : (w : World) → Follows (terms_of w.day) w → IsSound w.day → AreActs w.day.setting.listing w.acts
are_acts w f sound = record {
  accepted = subst (AreAccepted w.day.setting.listing) f.step.accepted sound.accepted;
  ranged = subst AreRanged f.step.accepted sound.ranged;
  beats = (let same = f.beats in let few = sound.few.beats in omega (arith, same, few));
  snaps = (let same = f.sent in let few = sound.few.snaps in omega (arith, same, few));
}

-- the member has the last message and the orders of the exchange
synced : Laws → (w : World) (state : State) (list : List Resting) → Follows (terms_of w.day) w → AreSayable (terms_of w.day) w.acts
    → Report (terms_of w.day) w.acts w.came state list → IsWhole (terms_of w.day) w
    → (state ≡ Sync (last_of w.day)) × (list ≡ shown (book_left (empty_book (roster_of w.day.setting.listing)) (accepted_in w.day)).orders)
synced laws w state list f sayable report whole =
    let listing = w.day.setting.listing in
    let last : last_sent (terms_of w.day) w.acts ≡ last_of w.day = ap (λ (l : List Command). length (trace listing l)) (sym f.step.accepted) in
    let is = report_in_sync (terms_of w.day) w.acts w.came state list whole.p whole.q whole.parts sayable f.genuine report whole.whole whole.near in (
      is.shown ∙ ap (λ n. Sync n) last,
      is.orders
          ∙ ap (λ (l : List Command). book_at listing l (length (trace listing l))) (sym f.step.accepted)
          ∙ ap (λ (l : List Order). shown l) (laws.last listing (accepted_in w.day)),
    )

-- the last cycle fits the packet window
last_fits : Laws → (w : World) → IsSound w.day → IsRoomy w.day.setting → FitsCycle w
last_fits laws w sound roomy =
    let listing = w.day.setting.listing in
    let last = length (trace listing (accepted_in w.day)) in
    let few = (laws.books listing (accepted_in w.day) sound.accepted last).few in
    let same = length-map (market listing (accepted_in w.day) last) (λ (order : Order). order.rest) in
    cycle_fits w.day.setting last (book_at listing (accepted_in w.day) last) roomy sound.terms.product (omega arith)

-- what the program tells of a day that was followed to its end
told : Laws → (w : World) (kit : Kit) → Follows (terms_of w.day) w → (AreSayable (terms_of w.day) w.acts → FitsCycle w → IsWhole (terms_of w.day) w)
    → IsSound w.day → Stands w kit
    → IsTold w (told_by kit)
told laws w kit f whole sound stands =
    let day : w.day ≡ kit.day = ap (λ (x : World). x.day) stands.is in
    let acts = are_acts w f sound in
    let sayable = laws.said (terms_of w.day) w.acts sound.terms acts in
    let heard = subst (λ (d : Day). Heard (terms_of d) kit.image w.came) (sym day) stands.heard in
    let report = laws.reported (terms_of w.day) w.acts kit.image w.came sound.terms acts (heard.keeps w.acts acts) f.genuine in
    record {
      commands = ap (λ (d : Day). length (accepted_in d)) (sym day);
      rejects = sym (ap (λ (x : World). x.rejects) stands.is);
      messages = ap last_of (sym day);
      book = ap (λ (d : Day). shown (book_left (empty_book (roster_of d.setting.listing)) (accepted_in d)).orders) (sym day);
      acts = acts;
      accepted = sym f.step.accepted;
      genuine = f.genuine;
      tallies = heard.tallies w.acts acts f.genuine;
      report = report;
      synced = λ fits.
          let both = synced laws w _ _ f sayable report (whole sayable fits) in
          record {
            state = both.0 ∙ ap (λ (d : Day). Sync (last_of d)) day;
            orders = both.1 ∙ ap (λ (d : Day). shown (book_left (empty_book (roster_of d.setting.listing)) (accepted_in d)).orders) day;
          };
      fits = λ roomy. last_fits laws w sound roomy;
    }

-- the cycle under way was sent to its end
ended : (n : ℕ) (w : World) → length w.day.left ≡ n → (sent_off n w).day.left ≡ []
unfolding sent_off
ended zero w is = none_left w.day.left is
  where
    none_left : (left : List (List Snap)) → length left ≡ 0 → left ≡ []
    none_left [] e = refl
    none_left (x ∷ left) e = absurd (omega arith)
ended (suc n) w is =
    (let fewer = left_falls w.day.left (cycle_now (terms_of w.day) (accepted_in w.day))
    (λ none. let e = ap (λ (l : List (List Snap)). length l) none in omega arith) in
    ended n (snap_on SnapB w) (omega arith))

-- the end of a day that was followed so far
told_closed : Laws → (terms : Terms) (w : World) (kit : Kit) → Follows terms w
    → (let e = beaten (cycled (cycle_ended (caught_up w))) in IsSound e.day → Stands e kit → IsTold e (told_by kit))
told_closed laws terms w kit f sound stands =
    let c = caught_up w in
    let v = cycle_ended c in
    let e = beaten (cycled v) in
    let steps = laws.steps in
    let at_v = sent_off_follows terms steps (length c.day.left) c (caught_up_follows terms w f) in
    let at_e = beaten_follows terms steps (cycled v) (sent_off_follows terms steps _ v at_v) in
    let same = follows_terms terms e at_e in
    told laws e kit (subst (λ (t : Terms). Follows t e) (sym same) at_e)
    (λ sayable fits. subst (λ (t : Terms). IsWhole t e) (sym same)
    (last_cycle_whole steps terms v at_v (ended (length c.day.left) c refl) (subst (λ (t : Terms). AreSayable t e.acts) same sayable) fits))
    sound stands

-- the day of a drill
pub is_told : Laws → (setting : Setting) (seed orders : ℕ) (kit : Kit) → IsSound kit.day → Stands (drilled setting seed orders) kit
    → IsTold (drilled setting seed orders) (told_by kit)
is_told laws setting seed orders kit sound stands =
    let begun = new_world setting seed in
    let played = second_phase 20_000 (first_phase orders (logged_on begun)) in
    told_closed laws (terms_by setting) played kit (phases_follow (terms_by setting) laws.steps orders 20_000 begun (new_follows laws.steps setting seed))
    (subst IsSound (sym (ap (λ (x : World). x.day) stands.is)) sound) stands

-- its lines were written
pub wrote_all : (a b : Option (List ℕ)) (w : World) (kit : Kit) (piece : List ℕ) (n : ℕ) → IsTold w (told_by kit) → piece ≡ text_of (lines_of (told_by kit))
    → n ≡ last_of kit.day → Grew a b (λ added. added ≡ piece) → Grew a b (WroteDrill w (Ok (End n)))
wrote_all a b w kit piece n told said last grew =
    grew_as a b (λ added. added ≡ piece) (WroteDrill w (Ok (End n))) grew (λ added is. (told_by kit, told, is ∙ said, ap (λ m. End m) last))

-- the front of its lines was written
pub wrote_front : (a b : Option (List ℕ)) (w : World) (kit : Kit) (piece : List ℕ) → IsTold w (told_by kit) → piece ≡ text_of (lines_of (told_by kit))
    → Grew a b (λ added. Begins added piece) → Grew a b (WroteDrill w (Err WriteFault))
wrote_front a b w kit piece told said grew =
    grew_as a b (λ added. Begins added piece) (WroteDrill w (Err WriteFault)) grew
    (λ added front. (told_by kit, told, subst (λ (text : List ℕ). Begins added text) said front))
