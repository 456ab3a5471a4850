-- The program goes on where the drill goes on.
use Rattle.std.proofs.Common.{◌≡◌, ℕ, ◌+◌, ◌≤◌, ◌==◌, List, [], ◌∷◌, length, drop, refl, sym, ap, subst, ◌∙◌, arith, add-one, Bool, true, false, if◌then◌else◌}
use Rattle.t7_base.specs.declared.ids.Feed.TheVariants.{LiveB, SnapA, SnapB}
use Rattle.t7_book.specs.Acts.{Act}
use Rattle.t7_entry.specs.Days.{Day, due}
use Rattle.t7_entry.specs.State.{Setting}
use Rattle.t7_eobi.specs.declared.walks.Snap.{Snap}
use Rattle.t7_lines.specs.Gap.{no_tallies}
use Rattle.t7_eti.specs.declared.request.Request.{Request}
use Rattle.t7_exchange.specs.Sending.{terms_of}
use Rattle.t7_feed.specs.Arrivals.{AreTerms, Delivery, Terms}
use Rattle.t7_member.specs.Keeping.{Keeps}
use Rattle.t7_feed.specs.Sending.{cycle_now, under_way}
use Rattle.t7_drill.specs.Entering.{accepted_in, day_asked, due_bytes, handed, rejects_in, some_reject}
use Rattle.t7_drill.specs.Feeding.{Fed, Feeding, Heard, all_delivered, cast_all, delivered}
use Rattle.t7_drill.specs.Kits.{Kit, Stands, Within, world_of}
use Rattle.t7_drill.specs.Worlds.{World, requested, cycle_ended, cycled, entered, first_phase, new_world, opened, opened_day, rotated, second_phase, sent_off}
use Rattle.t7_drill.specs.Worlds.{snap_bytes, snap_on, snapped, step, to_send}
use Rattle.t7_script.specs.Draws.{drawn, next_state}

-- a drill whose parts are those of the program
pub stands_by : (w : World) (kit : Kit) → w.draw ≡ kit.draw → w.day ≡ kit.day → w.first ≡ kit.first → w.second ≡ kit.second → w.rejects ≡ kit.rejects
    → w.copies ≡ kit.copies → Heard (terms_of kit.day) kit.image w.came → Stands w kit
stands_by w kit draws days firsts seconds rejects copies heard = record {
  is = ap (λ x. record w { draw = x }) draws
      ∙ ap (λ (x : Day). record w { draw = kit.draw; day = x }) days
      ∙ ap (λ x. record w { draw = kit.draw; day = kit.day; first = x }) firsts
      ∙ ap (λ x. record w { draw = kit.draw; day = kit.day; first = kit.first; second = x }) seconds
      ∙ ap (λ x. record w { draw = kit.draw; day = kit.day; first = kit.first; second = kit.second; rejects = x }) rejects
      ∙ ap (λ (x : List (List ℕ)). record w {
        draw = kit.draw;
        day = kit.day;
        first = kit.first;
        second = kit.second;
        rejects = kit.rejects;
        copies = x;
      }) copies;
  heard = heard;
}

-- what is shown of the drill that the program has is so of the drill
pub along : (F : World → World) (w : World) (old new : Kit) → Stands w old
    → ((acts : List Act) (came : List Delivery) → Heard (terms_of old.day) old.image came → Stands (F (world_of old acts came)) new) → Stands (F w) new
along F w old new stands h = subst (λ (x : World). Stands (F x) new) (sym stands.is) (h w.acts w.came stands.heard)

-- a request went through the exchange, and what was due reached the member
pub asked_on : (conn : ℕ) (request : Request) (old new : Kit) (entered : Day) (acts : List Act) (came : List Delivery) → AreTerms (terms_of old.day)
    → entered ≡ record (day_asked conn request old.day) { waiting = [] }
    → new.day ≡ record entered { untold = []; live = entered.live + length (due entered) }
    → ((terms : Terms) (dl : List Delivery) → AreTerms terms → Heard terms old.image dl
    → Fed terms (cast_all (due_bytes entered) (record { draw = old.draw; copies = []; came = all_delivered LiveB old.copies dl }))
    new.draw new.copies new.image)
    → new.first ≡ old.first → new.second ≡ old.second → new.rejects ≡ old.rejects
    → Heard (terms_of old.day) old.image came → Stands (requested conn request (world_of old acts came)) new
asked_on conn request old new entered acts came sound enters days feeds firsts seconds rejects heard =
    let f : Feeding = record { draw = old.draw; copies = []; came = all_delivered LiveB old.copies came } in
    let day : new.day ≡ handed (day_asked conn request old.day) = days ∙ ap (λ (x : Day). record x { untold = []; live = x.live + length (due x) }) enters in
    let fed = subst (λ (x : Day). Fed (terms_of old.day) (cast_all (due_bytes x) f) new.draw new.copies new.image) enters
    (feeds (terms_of old.day) came sound heard) in
    stands_by (requested conn request (world_of old acts came)) new (sym fed.draw_is) (sym day) (sym firsts) (sym seconds) (sym rejects) (sym fed.copies_are)
    (subst (λ (x : Day). Heard (terms_of x) new.image (cast_all (due_bytes (day_asked conn request old.day)) f).came) (sym day) fed.heard)

-- a snapshot datagram was sent
pub rotated_on : (old new : Kit) (acts : List Act) (came : List Delivery) → AreTerms (terms_of old.day)
    → new.day ≡ snapped old.day
    → new.draw ≡ next_state old.draw
    → ((terms : Terms) (dl : List Delivery) → AreTerms terms → Heard terms old.image dl
    → Heard terms new.image (if drawn 8 old.draw == 0 then dl else delivered SnapA (snap_bytes old.day) dl))
    → new.first ≡ old.first → new.second ≡ old.second → new.rejects ≡ old.rejects → new.copies ≡ old.copies
    → Heard (terms_of old.day) old.image came → Stands (rotated (world_of old acts came)) new
rotated_on old new acts came sound days draws hears firsts seconds rejects copies heard =
    stands_by (rotated (world_of old acts came)) new (sym draws) (sym days) (sym firsts) (sym seconds) (sym rejects) (sym copies)
    (subst (λ (x : Day). Heard (terms_of x) new.image (rotated (world_of old acts came)).came) (sym days) (hears (terms_of old.day) came sound heard))

-- the drill that the program has, with another generator
pub drawn_on : (w : World) (old new : Kit) (draw : ℕ) → Stands w old → new ≡ record old { draw = draw } → Stands (record w { draw = draw }) new
drawn_on w old new draw stands is = stands_by (record w { draw = draw }) new
    (sym (ap (λ (k : Kit). k.draw) is))
    (ap (λ (x : World). x.day) stands.is ∙ sym (ap (λ (k : Kit). k.day) is))
    (ap (λ (x : World). x.first) stands.is ∙ sym (ap (λ (k : Kit). k.first) is))
    (ap (λ (x : World). x.second) stands.is ∙ sym (ap (λ (k : Kit). k.second) is))
    (ap (λ (x : World). x.rejects) stands.is ∙ sym (ap (λ (k : Kit). k.rejects) is))
    (ap (λ (x : World). x.copies) stands.is ∙ sym (ap (λ (k : Kit). k.copies) is))
    (subst (λ (k : Kit). Heard (terms_of k.day) k.image w.came) (sym is) stands.heard)

-- a request was counted where it was rejected
pub entered_on : (conn : ℕ) (request : Request) (w : World) (old mid new : Kit) (r : Bool) → Stands w old → Stands (requested conn request w) mid
    → r ≡ some_reject (day_asked conn request old.day).waiting → new ≡ record mid { rejects = mid.rejects + (if r then 1 else 0) }
    → Stands (entered conn request w) new
entered_on conn request w old mid new r stands after said is =
    let day : w.day ≡ old.day = ap (λ (x : World). x.day) stands.is in
    let one : rejects_in (day_asked conn request w.day).waiting ≡ (if r then 1 else 0) =
    ap (λ (d : Day). rejects_in (day_asked conn request d).waiting) day ∙ ap (λ (b : Bool). if b then 1 else 0) (sym said) in
    let many : w.rejects ≡ mid.rejects = ap (λ (x : World). x.rejects) after.is in
    stands_by (entered conn request w) new
    (ap (λ (x : World). x.draw) after.is ∙ sym (ap (λ (k : Kit). k.draw) is))
    (ap (λ (x : World). x.day) after.is ∙ sym (ap (λ (k : Kit). k.day) is))
    (ap (λ (x : World). x.first) after.is ∙ sym (ap (λ (k : Kit). k.first) is))
    (ap (λ (x : World). x.second) after.is ∙ sym (ap (λ (k : Kit). k.second) is))
    (ap (λ n. n + rejects_in (day_asked conn request w.day).waiting) many ∙ ap (λ n. mid.rejects + n) one ∙ sym (ap (λ (k : Kit). k.rejects) is))
    (ap (λ (x : World). x.copies) after.is ∙ sym (ap (λ (k : Kit). k.copies) is))
    (subst (λ (k : Kit). Heard (terms_of k.day) k.image (requested conn request w).came) (sym is) after.heard)

one_at_most : (b : Bool) → (if b then 1 else 0) ≤ 1
one_at_most true = omega arith
one_at_most false = omega arith

-- its numbers and counts are no higher than one request more
pub within_entered : (n : ℕ) (mid noted new : Kit) (r : Bool) → Within n mid → noted ≡ record mid { rejects = mid.rejects + (if r then 1 else 0) }
    → new.day ≡ noted.day → new.layouts ≡ noted.layouts → new.rejects ≡ noted.rejects → new.first ≤ noted.first + 1 → new.second ≤ noted.second + 1
    → Within (n + 1) new
within_entered n mid noted new r within is day table rejects first second =
    let same : new.day ≡ mid.day = day ∙ ap (λ (k : Kit). k.day) is in
    let tables : new.layouts ≡ mid.layouts = table ∙ ap (λ (k : Kit). k.layouts) is in
    let firsts : noted.first ≡ mid.first = ap (λ (k : Kit). k.first) is in
    let seconds : noted.second ≡ mid.second = ap (λ (k : Kit). k.second) is in
    let counts : noted.rejects ≡ mid.rejects + (if r then 1 else 0) = ap (λ (k : Kit). k.rejects) is in
    let most = one_at_most r in
    let low = within.first in let low2 = within.second in let low3 = within.rejects in
    record {
      table = tables ∙ within.table ∙ sym (ap (λ (d : Day). d.setting.layouts) same);
      told = ap (λ (d : Day). d.untold) same ∙ within.told;
      handed = ap (λ (d : Day). d.waiting) same ∙ within.handed;
      left = subst (λ (d : Day). length d.left ≤ 21_001) (sym same) within.left;
      first = omega arith;
      second = omega arith;
      rejects = omega arith;
      snaps = (let s = subst (λ (d : Day). d.snaps ≤ n) (sym same) within.snaps in omega arith);
      beats = ap (λ (d : Day). d.beats) same ∙ within.beats;
    }

-- one order or step more of a phase
pub first_more : (n : ℕ) (w : World) → first_phase (n + 1) w ≡ opened (n + 1) (first_phase n w)
unfolding first_phase
first_more n w = rw add-one refl

pub second_more : (n : ℕ) (w : World) → second_phase (n + 1) w ≡ step (n + 1) (second_phase n w)
unfolding second_phase
second_more n w = rw add-one refl

-- the drill begins
pub begins : (setting : Setting) (seed : ℕ) (kit : Kit) → kit.draw ≡ seed → kit.day ≡ opened_day setting → kit.first ≡ 1 → kit.second ≡ 1 → kit.rejects ≡ 0
    → kit.copies ≡ [] → kit.image.terms ≡ record { layouts = setting.layouts; listing = setting.listing } → kit.image.tallies ≡ no_tallies
    → ((acts : List Act) → Keeps kit.image.terms acts kit.image []) → Stands (new_world setting seed) kit
begins setting seed kit draw day first second rejects copies terms tallies keeps =
    let heard : Heard (record { layouts = setting.layouts; listing = setting.listing }) kit.image [] = record {
      keeps = λ acts are. subst (λ (t : Terms). Keeps t acts kit.image []) terms (keeps acts);
      tallies = λ acts are genuine. tallies;
    } in
    stands_by (new_world setting seed) kit (sym draw) (sym day) (sym first) (sym second) (sym rejects) (sym copies)
    (subst (λ (d : Day). Heard (terms_of d) kit.image []) (sym day) heard)

-- one snapshot datagram more is sent of a cycle
pub sent_one : (n : ℕ) (w : World) → sent_off (n + 1) w ≡ sent_off n (snap_on SnapB w)
unfolding sent_off
sent_one n w = rw add-one refl

-- none is left to send
pub sent_none : (w : World) → w.day.left ≡ [] → cycle_ended w ≡ w
unfolding sent_off
sent_none w none = ap (λ (left : List (List Snap)). sent_off (length left) w) none

-- a datagram of a cycle was sent
sent_left : (w : World) (left new : List (List Snap)) → (left ≡ [] → ⊥)
    → sent_off (length (drop 1 (under_way left new))) (snap_on SnapB w) ≡ sent_off (length left) w
unfolding sent_off
sent_left w [] new some = absurd (some refl)
sent_left w (items ∷ left) new some = refl

-- what is left of the cycle under way is sent after it
pub ended_after : (w : World) → (w.day.left ≡ [] → ⊥) → cycle_ended (snap_on SnapB w) ≡ cycle_ended w
ended_after w some = sent_left w w.day.left (cycle_now (terms_of w.day) (accepted_in w.day)) some

-- the first datagram of a new cycle was sent
sent_first : (w : World) (new : List (List Snap)) (n : ℕ) → length new ≡ n + 1 → sent_off (length (drop 1 new)) (snap_on SnapB w) ≡ sent_off (length new) w
unfolding sent_off
sent_first w [] n some = absurd (omega arith)
sent_first w (items ∷ left) n some = refl

pub cycled_after : (w : World) (n : ℕ) → w.day.left ≡ [] → length (to_send w.day) ≡ n + 1 → cycle_ended (snap_on SnapB w) ≡ cycled w
cycled_after w n none some =
    let new = cycle_now (terms_of w.day) (accepted_in w.day) in
    let count : length new ≡ n + 1 = sym (ap (λ (left : List (List Snap)). length (under_way left new)) none) ∙ some in
    ap (λ (left : List (List Snap)). sent_off (length (drop 1 (under_way left new))) (snap_on SnapB w)) none ∙ sent_first w new n count

-- no numbers and counts are higher than more
pub within_more : (m n : ℕ) (kit : Kit) → Within m kit → m ≤ n → Within n kit
within_more m n kit within le =
    let a = within.first in let b = within.second in let d = within.rejects in let e = within.snaps in
    record {
      table = within.table;
      told = within.told;
      handed = within.handed;
      left = within.left;
      first = omega arith;
      second = omega arith;
      rejects = omega arith;
      snaps = omega arith;
      beats = within.beats;
    }

-- a draw changes no number and no count
pub within_drawn : (n : ℕ) (old new : Kit) (draw : ℕ) → Within n old → new ≡ record old { draw = draw } → Within n new
within_drawn n old new draw within is =
    let there : Within n (record old { draw = draw }) = record {
      table = within.table;
      told = within.told;
      handed = within.handed;
      left = within.left;
      first = within.first;
      second = within.second;
      rejects = within.rejects;
      snaps = within.snaps;
      beats = within.beats;
    } in
    subst (λ (k : Kit). Within n k) (sym is) there

-- a list that isn't filled is empty
pub nil_unless : {A : Type 0} (xs : List A) → ((xs ≡ [] → ⊥) → ⊥) → xs ≡ []
nil_unless [] h = refl
nil_unless (x ∷ xs) h = absurd (h (λ e. cc e))

-- one datagram fewer is left
pub left_falls : (left new : List (List Snap)) → (left ≡ [] → ⊥) → length (drop 1 (under_way left new)) + 1 ≡ length left
left_falls [] new some = absurd (some refl)
left_falls (items ∷ left) new some = omega arith
