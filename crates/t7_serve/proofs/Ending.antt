-- How a run of events ended.
use Rattle.std.proofs.Common.{◌≡◌, ℕ, ◌≤◌, ◌==◌, Bool, true, false, List, [], Option}
use Rattle.std.proofs.Common.{Some, None, Result, Ok, Err, IfOk, if◌then◌else◌, length, arith, refl, sym, ◌∙◌, ap, subst}
use Rattle.std.proofs.lemmas.Bool.Decides.{nat_tests}
use Rattle.t7_base.specs.Outside.{Grew}
use Rattle.t7_base.proofs.Grown.{grew_as, grew_nothing}
use Rattle.t7_base.specs.Listing.{Listing}
use Rattle.t7_book.specs.declared.command.Command.{Command}
use Rattle.t7_book.specs.Acts.{commands_of}
use Rattle.t7_book.specs.Trace.{AreAccepted}
use Rattle.t7_entry.specs.Days.{last_of}
use Rattle.t7_entry.specs.State.{Setting}
use Rattle.t7_acts.specs.InStep.{setting_of}
use Rattle.t7_feed.specs.Sending.{AreActs, AreRanged, beats_in, snaps_in}
use Rattle.t7_feed.specs.Arrivals.{Terms}
use Rattle.t7_net.specs.declared.link.LinkItem.{LinkItem}
use Rattle.t7_net.specs.Lines.{Casting}
use Rattle.t7_net.specs.Links.{LinkSent}
use Rattle.t7_outcome.specs.declared.ending.Finish.TheVariants.{End}
use Rattle.t7_outcome.specs.declared.ending.Stop.{Stop}
use Rattle.t7_outcome.specs.declared.ending.Stop.TheVariants.{Memory, NetFault, TooLong}
use Rattle.t7_outcome.specs.Ending.{Ended}
use Rattle.t7_outcome.specs.Outcome.{Ends}
use Rattle.t7_serve.specs.Clauses.{CastAt, OfTakings, SentAt, TakesUpTo}
use Rattle.t7_serve.specs.Served.{Taking, done_by, end_of, ends_too_long, served, takings}
use Rattle.t7_serve.specs.Servers.{Came, IsReady, Serves}
use Rattle.t7_serve.specs.Venues.{Venue}
use Rattle.t7_serve.proofs.Sent.{begins_all, front_all}

-- the same events, of which something else holds
pub of_takings_as : (e e1 : Option (List LinkItem)) (g g1 : Option (List ℕ)) (P Q : List Taking → Type 0) → OfTakings e e1 g g1 P
    → ((ts : List Taking) → P ts → Q ts)
    → OfTakings e e1 g g1 Q
of_takings_as e e1 g g1 P Q all to =
    grew_as e e1 (λ (items : List LinkItem). Grew g g1 (λ (moments : List ℕ). (length moments ≡ length items) × P (takings items moments)))
    (λ (items : List LinkItem). Grew g g1 (λ (moments : List ℕ). (length moments ≡ length items) × Q (takings items moments))) all
    (λ items at.
    grew_as g g1 (λ (moments : List ℕ). (length moments ≡ length items) × P (takings items moments))
    (λ (moments : List ℕ). (length moments ≡ length items) × Q (takings items moments)) at
    (λ moments both. (both.0, to (takings items moments) both.1)))

pub of_takings_moments : (e e1 : Option (List LinkItem)) (g g1 : Option (List ℕ)) (P : List Taking → Type 0) → OfTakings e e1 g g1 P
    → Grew e e1 (λ items. Grew g g1 (λ moments. length moments ≡ length items))
of_takings_moments e e1 g g1 P all =
    grew_as e e1 (λ (items : List LinkItem). Grew g g1 (λ (moments : List ℕ). (length moments ≡ length items) × P (takings items moments)))
    (λ (items : List LinkItem). Grew g g1 (λ (moments : List ℕ). length moments ≡ length items)) all
    (λ items at.
    grew_as g g1 (λ (moments : List ℕ). (length moments ≡ length items) × P (takings items moments)) (λ (moments : List ℕ). length moments ≡ length items) at
    (λ moments both. both.0))

-- what holds of an end that is none of a stop
pub if_ok_as : {T : Type 0} (P Q : T → Type 0) (r : Result T Stop) → IfOk r P → ((x : T) → P x → Q x) → IfOk r Q
if_ok_as P Q (Ok done) all to = to done all
if_ok_as P Q (Err stop) all to = tt

-- no event was taken
pub of_takings_none : (e e1 : Option (List LinkItem)) (g : Option (List ℕ)) (P : List Taking → Type 0) → e1 ≡ e → P [] → OfTakings e e1 g g P
of_takings_none e e1 g P same none =
    subst (λ (o : Option (List LinkItem)). OfTakings e o g g P) (sym same)
    (grew_nothing e (λ (items : List LinkItem). Grew g g (λ (moments : List ℕ). (length moments ≡ length items) × P (takings items moments)))
    (grew_nothing g (λ (moments : List ℕ). (length moments ≡ 0) × P (takings [] moments)) (refl, none)))

sent_nothing : (end : Ended) → SentAt [] end []
sent_nothing (Ok finish) = refl
sent_nothing (Err NetFault) = front_all [] [] refl
sent_nothing (Err Memory) = front_all [] [] refl
sent_nothing (Err stop) = refl

cast_nothing : (end : Ended) → CastAt [] end []
cast_nothing (Ok finish) = refl
cast_nothing (Err NetFault) = begins_all [] [] refl
cast_nothing (Err Memory) = begins_all [] [] refl
cast_nothing (Err stop) = refl

pub sent_none : (terms : Terms) (e e1 : Option (List LinkItem)) (g : Option (List ℕ)) (s s1 : Option (List LinkSent)) (end : Ended) → e1 ≡ e → s1 ≡ s
    → OfTakings e e1 g g (λ ts. Grew s s1 (SentAt (done_by terms ts).sent end))
sent_none terms e e1 g s s1 end same also =
    of_takings_none e e1 g (λ (ts : List Taking). Grew s s1 (SentAt (done_by terms ts).sent end)) same
    (subst (λ (o : Option (List LinkSent)). Grew s o (SentAt [] end)) (sym also) (grew_nothing s (SentAt [] end) (sent_nothing end)))

pub cast_none : (terms : Terms) (e e1 : Option (List LinkItem)) (g : Option (List ℕ)) (c c1 : Option (List Casting)) (end : Ended) → e1 ≡ e → c1 ≡ c
    → OfTakings e e1 g g (λ ts. Grew c c1 (CastAt (done_by terms ts).cast end))
cast_none terms e e1 g c c1 end same also =
    of_takings_none e e1 g (λ (ts : List Taking). Grew c c1 (CastAt (done_by terms ts).cast end)) same
    (subst (λ (o : Option (List Casting)). Grew c o (CastAt [] end)) (sym also) (grew_nothing c (CastAt [] end) (cast_nothing end)))

-- memory was wanting before the first event
pub came_none : (terms : Terms) (count : ℕ) (e : Option (List LinkItem)) (g : Option (List ℕ)) (s : Option (List LinkSent)) (c : Option (List Casting))
    → OfTakings e e g g (Came terms count (Err Memory) s s c c)
came_none terms count e g s c =
    of_takings_none e e g (Came terms count (Err Memory) s s c c) refl (record {
      ends = tt;
      sent = grew_nothing s (SentAt [] (let bad : Ended = Err Memory in bad)) (sent_nothing (Err Memory));
      cast = grew_nothing c (CastAt [] (let bad : Ended = Err Memory in bad)) (cast_nothing (Err Memory));
    })

module _ (terms : Terms) (count : ℕ) (now : Venue) (s s1 : Option (List LinkSent)) (c c1 : Option (List Casting)) (ts : List Taking) where
  long_end : ends_too_long terms ts ≡ true → end_of terms count ts ≡ Some (Err TooLong)
  long_end long =
      ap (λ (b : Bool). if b then (let e : Ended = Err TooLong in Some e) else
      if length ts == count then (let e : Ended = Ok (End (last_of (done_by terms ts).venue.day)) in Some e) else None) long

  whole_end : ends_too_long terms ts ≡ false → length ts ≡ count → end_of terms count ts ≡ Some (Ok (End (last_of (done_by terms ts).venue.day)))
  whole_end short all =
      let same : (length ts == count) ≡ true = grind (arith, nat_tests) in
      ap (λ (b : Bool). if b then (let e : Ended = Err TooLong in Some e) else
      if length ts == count then (let e : Ended = Ok (End (last_of (done_by terms ts).venue.day)) in Some e) else None) short
      ∙ ap (λ (b : Bool). if b then (let e : Ended = Ok (End (last_of (done_by terms ts).venue.day)) in Some e) else None) same

  stopped_at : (T : Type 0) (stop : Stop) → Serves terms count now s s1 c c1 (let bad : Result T Stop = Err stop in bad) ts
      → Came terms count (Err stop) s s1 c c1 ts
  stopped_at T NetFault serves = record { ends = tt; sent = serves.1.sent; cast = serves.1.cast }
  stopped_at T Memory serves = record { ends = tt; sent = serves.1.sent; cast = serves.1.cast }
  stopped_at T TooLong serves = record { ends = long_end serves.1; sent = serves.2.sent; cast = serves.2.cast }
  stopped_at T stop serves = absurd serves

  pub came_stopped : {T : Type 0} (r : Result T Stop) (end : Ended) (stop : Stop) → r ≡ Err stop → end ≡ Err stop → Serves terms count now s s1 c c1 r ts
      → Came terms count end s s1 c c1 ts
  came_stopped {T} r end stop is ended serves =
      subst (λ (a : Ended). Came terms count a s s1 c c1 ts) (sym ended)
      (stopped_at T stop (subst (λ (a : Result T Stop). Serves terms count now s s1 c c1 a ts) is serves))

  pub came_done : {T : Type 0} (r : Result T Stop) (x : T) (n : ℕ) → r ≡ Ok x → n ≡ last_of now.day → Serves terms count now s s1 c c1 r ts
      → Came terms count (Ok (End n)) s s1 c c1 ts
  came_done {T} r x n is last serves =
      let done = subst (λ (a : Result T Stop). Serves terms count now s s1 c c1 a ts) is serves in
      let number : last_of (done_by terms ts).venue.day ≡ n = ap (λ (v : Venue). last_of v.day) (sym done.2.venue) ∙ sym last in record {
        ends = whole_end done.1 done.0 ∙ ap (λ (m : ℕ). let e : Ended = Ok (End m) in Some e) number;
        sent = done.2.sent;
        cast = done.2.cast;
      }

-- what the acts of a run of events are, where the exchange stands behind it
pub record OfRun (terms : Terms) (ts : List Taking) : Type 0 where
  pub commands : commands_of (done_by terms ts).acts ≡ (done_by terms ts).venue.day.state.core.accepted
  pub beats : beats_in (done_by terms ts).acts ≡ (done_by terms ts).venue.day.beats
  pub snaps : snaps_in (done_by terms ts).acts ≡ (done_by terms ts).venue.day.snaps
  pub setting : (done_by terms ts).venue.day.setting ≡ setting_of terms

pub acts_done : {T : Type 0} (terms : Terms) (count : ℕ) (now : Venue) (s s1 : Option (List LinkSent)) (c c1 : Option (List Casting)) (r : Result T Stop)
    (x : T) (ts : List Taking)
    → r ≡ Ok x → OfRun terms ts → Serves terms count now s s1 c c1 r ts → IsReady now → now.events ≤ 1_000_000_000
    → AreAccepted now.day.setting.listing now.day.state.core.accepted → AreRanged now.day.state.core.accepted → AreActs terms.listing (done_by terms ts).acts
acts_done {T} terms count now s s1 c c1 r x ts is of serves ready few accepted ranged =
    let done = subst (λ (a : Result T Stop). Serves terms count now s s1 c c1 a ts) is serves in
    let here : now ≡ (done_by terms ts).venue = done.2.venue in
    let listing : now.day.setting.listing ≡ terms.listing = ap (λ (v : Venue). v.day.setting.listing) here ∙ ap (λ (t : Setting). t.listing) of.setting in
    let commands : now.day.state.core.accepted ≡ commands_of (done_by terms ts).acts = ap (λ (v : Venue). v.day.state.core.accepted) here ∙ sym of.commands in
    let beats : now.day.beats ≡ beats_in (done_by terms ts).acts = ap (λ (v : Venue). v.day.beats) here ∙ sym of.beats in
    let snaps : now.day.snaps ≡ snaps_in (done_by terms ts).acts = ap (λ (v : Venue). v.day.snaps) here ∙ sym of.snaps in record {
      accepted = subst (λ (l : Listing). AreAccepted l (commands_of (done_by terms ts).acts)) listing
          (subst (λ (cs : List Command). AreAccepted now.day.setting.listing cs) commands accepted);
      ranged = subst AreRanged commands ranged;
      beats = omega (arith, ready.beats);
      snaps = omega (arith, ready.snaps);
    }

-- the same of all that the link and the clock tell
module _ (terms : Terms) (count : ℕ) (now : Venue) (e e1 : Option (List LinkItem)) (g g1 : Option (List ℕ)) (s s1 : Option (List LinkSent))
    (c c1 : Option (List Casting)) where
  pub told_stopped : {T : Type 0} (r : Result T Stop) (end : Ended) (stop : Stop) → r ≡ Err stop → end ≡ Err stop
      → OfTakings e e1 g g1 (Serves terms count now s s1 c c1 r)
      → OfTakings e e1 g g1 (Came terms count end s s1 c c1)
  told_stopped r end stop is ended all =
      of_takings_as e e1 g g1 (Serves terms count now s s1 c c1 r) (Came terms count end s s1 c c1) all
      (λ ts serves. came_stopped terms count now s s1 c c1 ts r end stop is ended serves)

  pub told_done : {T : Type 0} (r : Result T Stop) (x : T) (n : ℕ) → r ≡ Ok x → n ≡ last_of now.day → OfTakings e e1 g g1 (Serves terms count now s s1 c c1 r)
      → OfTakings e e1 g g1 (Came terms count (Ok (End n)) s s1 c c1)
  told_done r x n is last all =
      of_takings_as e e1 g g1 (Serves terms count now s s1 c c1 r) (Came terms count (Ok (End n)) s s1 c c1) all
      (λ ts serves. came_done terms count now s s1 c c1 ts r x n is last serves)

pub told_acts : {T : Type 0} (terms : Terms) (count : ℕ) (now : Venue) (e e1 : Option (List LinkItem)) (g g1 : Option (List ℕ))
    (s s1 : Option (List LinkSent)) (c c1 : Option (List Casting))
    (r : Result T Stop) (x : T) → r ≡ Ok x → ((ts : List Taking) → OfRun terms ts) → IsReady now → now.events ≤ 1_000_000_000
    → AreAccepted now.day.setting.listing now.day.state.core.accepted → AreRanged now.day.state.core.accepted
    → OfTakings e e1 g g1 (Serves terms count now s s1 c c1 r)
    → OfTakings e e1 g g1 (λ ts. AreActs terms.listing (done_by terms ts).acts)
told_acts terms count now e e1 g g1 s s1 c c1 r x is of ready few accepted ranged all =
    of_takings_as e e1 g g1 (Serves terms count now s s1 c c1 r) (λ (ts : List Taking). AreActs terms.listing (done_by terms ts).acts) all
    (λ ts serves. acts_done terms count now s s1 c c1 r x ts is (of ts) serves ready few accepted ranged)

-- the same behind calls that took no event, and neither sent nor cast anything
module _ (e0 e e1 : Option (List LinkItem)) (events : e ≡ e0) where
  pub events_from : (g g1 : Option (List ℕ)) (P : List Taking → Type 0) → OfTakings e e1 g g1 P → OfTakings e0 e1 g g1 P
  events_from g g1 P all = subst (λ (o : Option (List LinkItem)). OfTakings o e1 g g1 P) events all

  pub came_from : (terms : Terms) (count : ℕ) (g g1 : Option (List ℕ)) (s0 s s1 : Option (List LinkSent)) (c0 c c1 : Option (List Casting)) (end : Ended)
      → s ≡ s0 → c ≡ c0 → OfTakings e e1 g g1 (Came terms count end s s1 c c1) → OfTakings e0 e1 g g1 (Came terms count end s0 s1 c0 c1)
  came_from terms count g g1 s0 s s1 c0 c c1 end sent cast all =
      events_from g g1 (Came terms count end s0 s1 c0 c1)
      (subst (λ (o : Option (List LinkSent)). OfTakings e e1 g g1 (Came terms count end o s1 c0 c1)) sent
      (subst (λ (o : Option (List Casting)). OfTakings e e1 g g1 (Came terms count end s s1 o c1)) cast all))

  pub upto_from : {U : Type 0} (count : ℕ) (end : Result U Stop) → Grew e e1 (TakesUpTo count end) → Grew e0 e1 (TakesUpTo count end)
  upto_from count end some = subst (λ (o : Option (List LinkItem)). Grew o e1 (TakesUpTo count end)) events some

-- the parts of it
module _ (terms : Terms) (count : ℕ) (end : Ended) (e e1 : Option (List LinkItem)) (g g1 : Option (List ℕ)) (s s1 : Option (List LinkSent))
    (c c1 : Option (List Casting))
    (all : OfTakings e e1 g g1 (Came terms count end s s1 c c1)) where
  pub came_end : OfTakings e e1 g g1 (λ ts. Ends (served {Moment = Unit {0}} terms count ts) end)
  came_end = of_takings_as e e1 g g1 (Came terms count end s s1 c c1) (λ (ts : List Taking). Ends (served {Moment = Unit {0}} terms count ts) end) all
      (λ ts came. came.ends)

  pub came_sent : OfTakings e e1 g g1 (λ ts. Grew s s1 (SentAt (done_by terms ts).sent end))
  came_sent = of_takings_as e e1 g g1 (Came terms count end s s1 c c1) (λ (ts : List Taking). Grew s s1 (SentAt (done_by terms ts).sent end)) all
      (λ ts came. came.sent)

  pub came_cast : OfTakings e e1 g g1 (λ ts. Grew c c1 (CastAt (done_by terms ts).cast end))
  came_cast = of_takings_as e e1 g g1 (Came terms count end s s1 c c1) (λ (ts : List Taking). Grew c c1 (CastAt (done_by terms ts).cast end)) all
      (λ ts came. came.cast)

  pub came_moments : Grew e e1 (λ items. Grew g g1 (λ moments. length moments ≡ length items))
  came_moments = of_takings_moments e e1 g g1 (Came terms count end s s1 c c1) all

-- how many events were taken by a run of events that was stopped
upto_as : (T U : Type 0) (count : ℕ) (stop : Stop) (items : List LinkItem) → TakesUpTo count (let bad : Result T Stop = Err stop in bad) items
    → TakesUpTo count (let bad : Result U Stop = Err stop in bad) items
upto_as T U count stop items few = few

pub upto_stopped : {T U : Type 0} (e e1 : Option (List LinkItem)) (count : ℕ) (r : Result T Stop) (end : Result U Stop) (stop : Stop)
    → r ≡ Err stop → end ≡ Err stop → Grew e e1 (TakesUpTo count r) → Grew e e1 (TakesUpTo count end)
upto_stopped {T} {U} e e1 count r end stop is ended some =
    grew_as e e1 (TakesUpTo count r) (TakesUpTo count end) some
    (λ items few. subst (λ (a : Result U Stop). TakesUpTo count a items) (sym ended)
    (upto_as T U count stop items (subst (λ (a : Result T Stop). TakesUpTo count a items) is few)))

pub upto_done : {T U : Type 0} (e e1 : Option (List LinkItem)) (count : ℕ) (r : Result T Stop) (x : T) (y : U) → r ≡ Ok x
    → Grew e e1 (TakesUpTo count r) → Grew e e1 (TakesUpTo count (let done : Result U Stop = Ok y in done))
upto_done {T} {U} e e1 count r x y is some =
    grew_as e e1 (TakesUpTo count r) (λ (items : List LinkItem). length items ≡ count) some
    (λ items all. subst (λ (a : Result T Stop). TakesUpTo count a items) is all)
