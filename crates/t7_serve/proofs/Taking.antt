-- Events that are taken one after another.
use Rattle.std.proofs.Common.{◌≡◌, inl, inr, ℕ, ◌+◌, ◌<◌, ◌≤◌, true, false, List, [], ◌∷◌, ◌++◌}
use Rattle.std.proofs.Common.{Option, Result, Ok, Err, length, length-append, arith, refl, sym, ◌∙◌, ap, subst, if◌then◌else◌}
use Rattle.std.proofs.lemmas.List.{append-nil}
use Rattle.t7_base.specs.Outside.{Grew}
use Rattle.t7_base.proofs.Grown.{grew_as, grew_nothing, grew_then}
use Rattle.t7_feed.specs.Arrivals.{Terms}
use Rattle.t7_net.specs.declared.link.LinkItem.{LinkItem}
use Rattle.t7_net.specs.Lines.{Casting}
use Rattle.t7_net.specs.Links.{LinkSent}
use Rattle.t7_outcome.specs.declared.ending.Stop.{Stop}
use Rattle.t7_outcome.specs.declared.ending.Stop.TheVariants.{Memory, NetFault, TooLong}
use Rattle.t7_serve.specs.Clauses.{OfTakings, TakesUpTo}
use Rattle.t7_serve.specs.Served.{Taking, behind, done_by, ends_too_long, takings}
use Rattle.t7_serve.specs.Servers.{Broke, BrokeOff, Done, Serves, Stepped, WasDone, WasNone, WasTooLong}
use Rattle.t7_serve.specs.Turns.{does, is_too_long}
use Rattle.t7_serve.specs.Venues.{Turn, Venue, and_then, new_venue}
use Rattle.t7_serve.proofs.Turning.{broke_then, done_is_front, done_then, rests_done}

-- one more event at one more moment
behind_one : (before : List Taking) (items : List LinkItem) (moments : List ℕ) (item : LinkItem) (moment : ℕ) → length moments ≡ length items
    → behind before (items ++ item ∷ []) (moments ++ moment ∷ []) ≡ record { item = item; moment = moment } ∷ behind before items moments
behind_one before [] [] item moment same = refl
behind_one before [] (m ∷ ms) item moment same = absurd (omega arith)
behind_one before (i ∷ is) [] item moment same = absurd (omega arith)
behind_one before (i ∷ is) (m ∷ ms) item moment same = behind_one (record { item = i; moment = m } ∷ before) is ms item moment (omega arith)

-- how many they are
behind_length : (before : List Taking) (items : List LinkItem) (moments : List ℕ) → length moments ≡ length items
    → length (behind before items moments) ≡ length before + length items
behind_length before [] [] same = omega arith
behind_length before [] (m ∷ ms) same = absurd (omega arith)
behind_length before (i ∷ is) [] same = absurd (omega arith)
behind_length before (i ∷ is) (m ∷ ms) same = omega (arith, behind_length (record { item = i; moment = m } ∷ before) is ms (omega arith))

pub takings_length : (items : List LinkItem) (moments : List ℕ) → length moments ≡ length items → length (takings items moments) ≡ length items
takings_length items moments same = omega (arith, behind_length [] items moments same)

-- So many events were taken, none of them too long, and what they do was done.
pub record Goes (terms : Terms) (count : ℕ) (now : Venue) (s s1 : Option (List LinkSent)) (c c1 : Option (List Casting)) (takings : List Taking) : Type 0 where
  pub length : length takings ≡ count
  pub short : ends_too_long terms takings ≡ false
  pub done : Done (done_by terms takings) now s s1 c c1

-- before the first
pub goes_first : (terms : Terms) (e : Option (List LinkItem)) (g : Option (List ℕ)) (s : Option (List LinkSent)) (c : Option (List Casting)) (now : Venue)
    → now ≡ new_venue terms
    → OfTakings e e g g (Goes terms 0 now s s c c)
goes_first terms e g s c now is =
    grew_nothing e (λ (items : List LinkItem). Grew g g
    (λ (moments : List ℕ). (length moments ≡ length items) × Goes terms 0 now s s c c (takings items moments)))
    (grew_nothing g (λ (moments : List ℕ). (length moments ≡ 0) × Goes terms 0 now s s c c (takings [] moments)) (
      refl,
      record {
        length = refl;
        short = refl;
        done = subst (λ (v : Venue). Done (done_by terms []) v s s c c) (sym is)
            (rests_done (new_venue terms) s s c c refl refl);
      },
    ))

-- one event after others
module _ (terms : Terms) (before : List Taking) (item : LinkItem) (moment : ℕ) where
  abbrev one : Taking
  one = record { item = item; moment = moment }

  pub done_by_one : is_too_long item (done_by terms before).venue ≡ false → done_by terms (one ∷ before) ≡ and_then (done_by terms before) (does item moment)
  done_by_one short = ap (λ b. if b then done_by terms before else and_then (done_by terms before) (does item moment)) short

  pub done_by_long : is_too_long item (done_by terms before).venue ≡ true → done_by terms (one ∷ before) ≡ done_by terms before
  done_by_long long = ap (λ b. if b then done_by terms before else and_then (done_by terms before) (does item moment)) long

module _ (terms : Terms) (count : ℕ) (old : Venue) (s s1 s2 : Option (List LinkSent)) (c c1 c2 : Option (List Casting)) (before : List Taking)
    (goes : Goes terms count old s s1 c c1 before) where
  pub next_done : (new : Venue) (items : List LinkItem) (moments : List ℕ) (step : WasDone old new s1 s2 c1 c2 items moments)
      → Goes terms (count + 1) new s s2 c c2 (record { item = step.item; moment = step.moment } ∷ before)
  next_done new items moments step =
      let short : is_too_long step.item (done_by terms before).venue ≡ false =
      subst (λ (v : Venue). is_too_long step.item v ≡ false) goes.done.venue step.short in record {
        length = more before (record { item = step.item; moment = step.moment }) goes.length;
        short = short;
        done = subst (λ (t : Turn). Done t new s s2 c c2) (sym (done_by_one terms before step.item step.moment short))
            (done_then (done_by terms before) (does step.item step.moment) old s s1 c c1 new s2 c2 goes.done step.done);
      }
    where
      more : (before : List Taking) (one : Taking) → length before ≡ count → length (one ∷ before) ≡ count + 1
      more before one is = omega arith

  pub next_broke : (items : List LinkItem) (moments : List ℕ) (step : BrokeOff old s1 s2 c1 c2 items moments)
      → Broke (done_by terms (record { item = step.item; moment = step.moment } ∷ before)) s s2 c c2
  next_broke items moments step =
      let short : is_too_long step.item (done_by terms before).venue ≡ false =
      subst (λ (v : Venue). is_too_long step.item v ≡ false) goes.done.venue step.short in
      subst (λ (t : Turn). Broke t s s2 c c2) (sym (done_by_one terms before step.item step.moment short))
      (broke_then (done_by terms before) (does step.item step.moment) old s s1 c c1 s2 c2 goes.done step.broke)

  pub next_long : (items : List LinkItem) (moments : List ℕ) (step : WasTooLong old s1 s2 c1 c2 items moments)
      → (let after : List Taking = record { item = step.item; moment = step.moment } ∷ before in
      (ends_too_long terms after ≡ true) × Done (done_by terms after) (done_by terms after).venue s s2 c c2)
  next_long items moments step =
      let long : is_too_long step.item (done_by terms before).venue ≡ true =
      subst (λ (v : Venue). is_too_long step.item v ≡ true) goes.done.venue step.long in (
        long,
        subst (λ (t : Turn). Done t t.venue s s2 c c2) (sym (done_by_long terms before step.item step.moment long))
            (record {
              venue = refl;
              sent = subst (λ (o : Option (List LinkSent)). Grew s o (λ added. added ≡ (done_by terms before).sent)) (sym step.sent) goes.done.sent;
              cast = subst (λ (o : Option (List Casting)). Grew c o (λ added. added ≡ (done_by terms before).cast)) (sym step.cast) goes.done.cast;
            }),
      )

-- the events with one more behind them, or none more
added_one : (items more : List LinkItem) (moments later : List ℕ) (item : LinkItem) (moment : ℕ) → length moments ≡ length items → more ≡ item ∷ []
    → later ≡ moment ∷ []
    → takings (items ++ more) (moments ++ later) ≡ record { item = item; moment = moment } ∷ takings items moments
added_one items more moments later item moment same is also =
    ap (λ (l : List LinkItem). takings (items ++ l) (moments ++ later)) is ∙ ap (λ (l : List ℕ). takings (items ++ item ∷ []) (moments ++ l)) also
    ∙ behind_one [] items moments item moment same

added_none : (items more : List LinkItem) (moments later : List ℕ) → more ≡ [] → later ≡ [] → takings (items ++ more) (moments ++ later) ≡ takings items moments
added_none items more moments later is also =
    ap (λ (l : List LinkItem). takings (items ++ l) (moments ++ later)) is ∙ ap (λ (l : List ℕ). takings (items ++ []) (moments ++ l)) also
    ∙ ap (λ (l : List LinkItem). takings l (moments ++ [])) (append-nil items) ∙ ap (λ (l : List ℕ). takings items l) (append-nil moments)

same_lengths : (items more : List LinkItem) (moments later : List ℕ) → length moments ≡ length items → length later ≡ length more
    → length (moments ++ later) ≡ length (items ++ more)
same_lengths items more moments later same also = omega (arith, length-append moments later, length-append items more)

-- what came of events, and of one more step
module _ (e e1 e2 : Option (List LinkItem)) (g g1 g2 : Option (List ℕ)) (P R : List Taking → Type 0) (Q : List LinkItem → List ℕ → Type 0) where
  pub takings_then : OfTakings e e1 g g1 P → Grew e1 e2 (λ items. Grew g1 g2 (Q items))
      → ((items more : List LinkItem) (moments later : List ℕ) → length moments ≡ length items → P (takings items moments) → Q more later
      → (length (moments ++ later) ≡ length (items ++ more)) × R (takings (items ++ more) (moments ++ later))) → OfTakings e e2 g g2 R
  takings_then first second to =
      grew_then e e1 e2 (λ (items : List LinkItem). Grew g g1 (λ (moments : List ℕ). (length moments ≡ length items) × P (takings items moments)))
      (λ (items : List LinkItem). Grew g1 g2 (Q items))
      (λ (items : List LinkItem). Grew g g2 (λ (moments : List ℕ). (length moments ≡ length items) × R (takings items moments))) first second
      (λ items more one two.
      grew_then g g1 g2 (λ (moments : List ℕ). (length moments ≡ length items) × P (takings items moments)) (Q more)
      (λ (moments : List ℕ). (length moments ≡ length (items ++ more)) × R (takings (items ++ more) moments)) one two
      (λ moments later p q. to items more moments later p.0 p.1 q))

pub goes_next : {T : Type 0} (terms : Terms) (count : ℕ) (old new : Venue) (s s1 s2 : Option (List LinkSent)) (c c1 c2 : Option (List Casting))
    (e e1 e2 : Option (List LinkItem)) (g g1 g2 : Option (List ℕ)) (r : Result T Stop) (x : T) → r ≡ Ok x
    → OfTakings e e1 g g1 (Goes terms count old s s1 c c1) → Grew e1 e2 (λ items. Grew g1 g2 (Stepped old new s1 s2 c1 c2 r items))
    → OfTakings e e2 g g2 (Goes terms (count + 1) new s s2 c c2)
goes_next {T} terms count old new s s1 s2 c c1 c2 e e1 e2 g g1 g2 r x is goes step =
    takings_then e e1 e2 g g1 g2 (Goes terms count old s s1 c c1) (Goes terms (count + 1) new s s2 c c2) (Stepped old new s1 s2 c1 c2 r) goes step
    (λ items more moments later same went stepped.
    let done = subst (λ (a : Result T Stop). Stepped old new s1 s2 c1 c2 a more later) is stepped in (
      same_lengths items more moments later same (ap length done.given ∙ sym (ap length done.taken)),
      subst (Goes terms (count + 1) new s s2 c c2) (sym (added_one items more moments later done.item done.moment same done.taken done.given))
          (next_done terms count old s s1 s2 c c1 c2 (takings items moments) went new more later done),
    ))

-- one that was stopped
module _ (T U : Type 0) (terms : Terms) (count most : ℕ) (old new after : Venue) (s s1 s2 : Option (List LinkSent)) (c c1 c2 : Option (List Casting))
    (below : count < most)
    (items more : List LinkItem) (moments later : List ℕ) (same : length moments ≡ length items)
    (goes : Goes terms count old s s1 c c1 (takings items moments)) where
  few : (before : List Taking) (one : Taking) → length before ≡ count → length (one ∷ before) ≤ most
  few before one is = omega arith

  broke_off : (step : BrokeOff old s1 s2 c1 c2 more later)
      → (length (moments ++ later) ≡ length (items ++ more)) × (length (takings (items ++ more) (moments ++ later)) ≤ most)
      × Broke (done_by terms (takings (items ++ more) (moments ++ later))) s s2 c c2
  broke_off step =
      let is = added_one items more moments later step.item step.moment same step.taken step.given in (
        same_lengths items more moments later same (ap length step.given ∙ sym (ap length step.taken)),
        subst (λ (l : List Taking). length l ≤ most) (sym is) (few (takings items moments) (record { item = step.item; moment = step.moment }) goes.length),
        subst (λ (l : List Taking). Broke (done_by terms l) s s2 c c2) (sym is)
            (next_broke terms count old s s1 s2 c c1 c2 (takings items moments) goes more later step),
      )

  not_taken : (step : WasNone s1 s2 c1 c2 more later)
      → (length (moments ++ later) ≡ length (items ++ more)) × (length (takings (items ++ more) (moments ++ later)) ≤ most)
      × Broke (done_by terms (takings (items ++ more) (moments ++ later))) s s2 c c2
  not_taken step =
      let is = added_none items more moments later step.taken step.given in (
        same_lengths items more moments later same (ap length step.given ∙ sym (ap length step.taken)),
        subst (λ (l : List Taking). length l ≤ most) (sym is) (less (takings items moments) goes.length),
        subst (λ (l : List Taking). Broke (done_by terms l) s s2 c c2) (sym is)
            (subst (λ (o : Option (List LinkSent)). Broke (done_by terms (takings items moments)) s o c c2) (sym step.sent)
            (subst (λ (o : Option (List Casting)). Broke (done_by terms (takings items moments)) s s1 c o) (sym step.cast)
            (done_is_front (done_by terms (takings items moments)) old s s1 c c1 goes.done))),
      )
    where
      less : (before : List Taking) → length before ≡ count → length before ≤ most
      less before is = omega arith

  stopped_at : (stop : Stop) → Stepped old new s1 s2 c1 c2 (let bad : Result T Stop = Err stop in bad) more later
      → (length (moments ++ later) ≡ length (items ++ more))
      × Serves terms most after s s2 c c2 (let bad : Result U Stop = Err stop in bad) (takings (items ++ more) (moments ++ later))
  stopped_at NetFault (inl none) = let all = not_taken none in (all.0, (all.1, all.2))
  stopped_at NetFault (inr broke) = let all = broke_off broke in (all.0, (all.1, all.2))
  stopped_at Memory broke = let all = broke_off broke in (all.0, (all.1, all.2))
  stopped_at TooLong step =
      let is = added_one items more moments later step.item step.moment same step.taken step.given in
      let long = next_long terms count old s s1 s2 c c1 c2 (takings items moments) goes more later step in (
        same_lengths items more moments later same (ap length step.given ∙ sym (ap length step.taken)),
        subst (λ (l : List Taking). (length l ≤ most) × (ends_too_long terms l ≡ true) × Done (done_by terms l) (done_by terms l).venue s s2 c c2) (sym is)
            (few (takings items moments) (record { item = step.item; moment = step.moment }) goes.length, long.0, long.1),
      )
  stopped_at stop step = absurd step

pub goes_stopped : {T U : Type 0} (terms : Terms) (count most : ℕ) (old new after : Venue) (s s1 s2 : Option (List LinkSent)) (c c1 c2 : Option (List Casting))
    (e e1 e2 : Option (List LinkItem)) (g g1 g2 : Option (List ℕ)) (r : Result T Stop) (end : Result U Stop) (stop : Stop) → count < most → r ≡ Err stop
    → end ≡ Err stop
    → OfTakings e e1 g g1 (Goes terms count old s s1 c c1) → Grew e1 e2 (λ items. Grew g1 g2 (Stepped old new s1 s2 c1 c2 r items))
    → OfTakings e e2 g g2 (Serves terms most after s s2 c c2 end)
goes_stopped {T} {U} terms count most old new after s s1 s2 c c1 c2 e e1 e2 g g1 g2 r end stop below is ended goes step =
    takings_then e e1 e2 g g1 g2 (Goes terms count old s s1 c c1) (Serves terms most after s s2 c c2 end) (Stepped old new s1 s2 c1 c2 r) goes step
    (λ items more moments later same went stepped.
    subst (λ (a : Result U Stop). (length (moments ++ later) ≡ length (items ++ more))
    × Serves terms most after s s2 c c2 a (takings (items ++ more) (moments ++ later))) (sym ended)
    (stopped_at T U terms count most old new after s s1 s2 c c1 c2 below items more moments later same went stop
    (subst (λ (a : Result T Stop). Stepped old new s1 s2 c1 c2 a more later) is stepped)))

-- all were taken
pub goes_done : {T : Type 0} (terms : Terms) (count most : ℕ) (now : Venue) (s s1 : Option (List LinkSent)) (c c1 : Option (List Casting))
    (e e1 : Option (List LinkItem)) (g g1 : Option (List ℕ)) (r : Result T Stop) (x : T) → count ≡ most → r ≡ Ok x
    → OfTakings e e1 g g1 (Goes terms count now s s1 c c1) → OfTakings e e1 g g1 (Serves terms most now s s1 c c1 r)
goes_done {T} terms count most now s s1 c c1 e e1 g g1 r x all is goes =
    grew_as e e1 (λ (items : List LinkItem). Grew g g1
    (λ (moments : List ℕ). (length moments ≡ length items) × Goes terms count now s s1 c c1 (takings items moments)))
    (λ (items : List LinkItem). Grew g g1 (λ (moments : List ℕ). (length moments ≡ length items) × Serves terms most now s s1 c c1 r (takings items moments)))
    goes
    (λ items at.
    grew_as g g1 (λ (moments : List ℕ). (length moments ≡ length items) × Goes terms count now s s1 c c1 (takings items moments))
    (λ (moments : List ℕ). (length moments ≡ length items) × Serves terms most now s s1 c c1 r (takings items moments)) at
    (λ moments both. (
      both.0,
      subst (λ (a : Result T Stop). Serves terms most now s s1 c c1 a (takings items moments)) (sym is) (both.1.length ∙ all, both.1.short, both.1.done),
    )))

-- how many events were taken
pub counted_next : {T : Type 0} (e e1 e2 : Option (List LinkItem)) (n : ℕ) (r : Result T Stop) (x : T) → r ≡ Ok x → Grew e e1 (λ items. length items ≡ n)
    → Grew e1 e2 (TakesUpTo 1 r)
    → Grew e e2 (λ items. length items ≡ n + 1)
counted_next {T} e e1 e2 n r x is before step =
    grew_then e e1 e2 (λ (items : List LinkItem). length items ≡ n) (TakesUpTo 1 r) (λ (items : List LinkItem). length items ≡ n + 1) before step
    (λ xs ys some one. more xs ys some (subst (λ (a : Result T Stop). TakesUpTo 1 a ys) is one))
  where
    more : (xs ys : List LinkItem) → length xs ≡ n → length ys ≡ 1 → length (xs ++ ys) ≡ n + 1
    more xs ys a b = omega (arith, length-append xs ys)

pub counted_stopped : {T U : Type 0} (e e1 e2 : Option (List LinkItem)) (n most : ℕ) (r : Result T Stop) (end : Result U Stop) (stop : Stop) → n < most
    → r ≡ Err stop → end ≡ Err stop
    → Grew e e1 (λ items. length items ≡ n) → Grew e1 e2 (TakesUpTo 1 r) → Grew e e2 (TakesUpTo most end)
counted_stopped {T} {U} e e1 e2 n most r end stop below is ended before step =
    grew_then e e1 e2 (λ (items : List LinkItem). length items ≡ n) (TakesUpTo 1 r) (TakesUpTo most end) before step
    (λ xs ys some one. subst (λ (a : Result U Stop). TakesUpTo most a (xs ++ ys)) (sym ended)
    (more xs ys some (subst (λ (a : Result T Stop). TakesUpTo 1 a ys) is one)))
  where
    more : (xs ys : List LinkItem) → length xs ≡ n → length ys ≤ 1 → length (xs ++ ys) ≤ most
    more xs ys a b = omega (arith, length-append xs ys)

pub counted_all : (e e1 : Option (List LinkItem)) (n most : ℕ) → n ≡ most → Grew e e1 (λ items. length items ≡ n) → Grew e e1 (λ items. length items ≡ most)
counted_all e e1 n most is before = subst (λ (m : ℕ). Grew e e1 (λ items. length items ≡ m)) is before
