-- Receipts that are taken one after another.
use Rattle.std.proofs.Common.{◌≡◌, ℕ, ◌+◌, ◌<◌, ◌≤◌, List, [], ◌∷◌, ◌++◌, Option, Result, Ok, Err, length, reverse, arith, refl, sym, ◌∙◌, ap, subst}
use Rattle.std.proofs.lemmas.List.{append-nil, reverse-append}
use Rattle.t7_base.specs.Outside.{Begins, Grew}
use Rattle.t7_base.proofs.Grown.{grew_nothing, grew_then}
use Rattle.t7_feed.specs.Arrivals.{Terms}
use Rattle.t7_net.specs.declared.line.LineItem.{LineItem}
use Rattle.t7_outcome.specs.declared.ending.Stop.{Stop}
use Rattle.t7_outcome.specs.declared.ending.Stop.TheVariants.{NetFault, WriteFault}
use Rattle.t7_outcome.specs.Outcome.{Part, Shows, text_of}
use Rattle.t7_outcome.proofs.Lines.{begins_after, spelled_append, text_of-append}
use Rattle.t7_follow.specs.Clauses.{WroteAll}
use Rattle.t7_follow.specs.Followers.{Following, Stands, Stepped, Watches, WroteCut}
use Rattle.t7_follow.specs.Following.{watching}
use Rattle.t7_follow.specs.Reports.{IsReported, Watched}

-- lines of parts, and those of others behind them
pub wrote_both : {Moment : Type 0} (Shown : Moment → List (List ℕ) → Type 0) (p q o : Option (List ℕ)) (parts more : List (Part Moment)) → Grew p q (WroteAll Shown parts)
    → Grew q o (WroteAll Shown more) → Grew p o (WroteAll Shown (parts ++ more))
wrote_both Shown p q o parts more front back =
    grew_then p q o (WroteAll Shown parts) (WroteAll Shown more) (WroteAll Shown (parts ++ more)) front back
    (λ a b one two. (
      one.0 ++ two.0,
      spelled_append Shown parts more one.0 two.0 one.1 two.1,
      ap (λ (l : List ℕ). l ++ b) one.2 ∙ ap (λ (l : List ℕ). text_of one.0 ++ l) two.2 ∙ sym (text_of-append one.0 two.0),
    ))

pub wrote_cut : {Moment : Type 0} (Shown : Moment → List (List ℕ) → Type 0) (p q o : Option (List ℕ)) (parts more : List (Part Moment)) → Grew p q (WroteAll Shown parts)
    → Grew q o (WroteCut Shown more) → Grew p o (WroteCut Shown (parts ++ more))
wrote_cut Shown p q o parts more front back =
    grew_then p q o (WroteAll Shown parts) (WroteCut Shown more) (WroteCut Shown (parts ++ more)) front back
    (λ a b one two. (
      one.0 ++ two.0,
      spelled_append Shown parts more one.0 two.0 one.1 two.1,
      subst (λ (l : List ℕ). Begins (a ++ b) l) (ap (λ (l : List ℕ). l ++ text_of two.0) one.2 ∙ sym (text_of-append one.0 two.0)) (begins_after a b (text_of two.0) two.2),
    ))

-- So many receipts were taken, which brought the follower here, and all their lines were written.
pub record Goes (terms : Terms) (count : ℕ) (now : Following) (old new : Option (List ℕ)) (receipts : List LineItem) : Type 0 where
  pub length : length receipts ≡ count
  pub stands : Stands terms receipts now
  pub written : Grew old new (WroteAll IsReported (watching terms receipts))

-- before the first
pub goes_first : (terms : Terms) (now : Following) (t : Option (List LineItem)) (p : Option (List ℕ)) → Stands terms [] now
    → Grew t t (λ taken. Goes terms 0 now p p (reverse taken))
goes_first terms now t p stands =
    grew_nothing t (λ taken. Goes terms 0 now p p (reverse taken))
    (record { length = refl; stands = stands; written = grew_nothing p (WroteAll IsReported (watching terms [])) ([], refl, refl) })

-- the newest stands first
newest : (xs ys : List LineItem) (i : LineItem) → ys ≡ i ∷ [] → i ∷ reverse xs ≡ reverse (xs ++ ys)
newest xs ys i is = sym (reverse-append xs (i ∷ [])) ∙ ap (λ (l : List LineItem). reverse (xs ++ l)) (sym is)

-- one more
pub goes_next : {T : Type 0} (terms : Terms) (count : ℕ) (xs ys : List LineItem) (old new : Following) (p q o : Option (List ℕ)) (r : Result T Stop) (x : T) → r ≡ Ok x
    → Goes terms count old p q (reverse xs) → Stepped terms (reverse xs) new q o r ys → Goes terms (count + 1) new p o (reverse (xs ++ ys))
goes_next {T} terms count xs ys old new p q o r x is goes step =
    let done = subst (λ (e : Result T Stop). Stepped terms (reverse xs) new q o e ys) is step in
    subst (λ (l : List LineItem). Goes terms (count + 1) new p o l) (newest xs ys done.0 done.1) (record {
      length = more (reverse xs) done.0 goes.length;
      stands = done.2;
      written = wrote_both IsReported p q o (watching terms (reverse xs)) (Shows (Watched terms (done.0 ∷ reverse xs)) ∷ []) goes.written done.3;
    })
  where
    more : (receipts : List LineItem) (i : LineItem) → length receipts ≡ count → length (i ∷ receipts) ≡ count + 1
    more receipts i is = omega arith

-- one that was stopped
stopped_by : (T U : Type 0) (terms : Terms) (count most : ℕ) (xs ys : List LineItem) (old new after : Following) (p q o : Option (List ℕ)) (stop : Stop) → count < most
    → Goes terms count old p q (reverse xs) → Stepped terms (reverse xs) new q o (let bad : Result T Stop = Err stop in bad) ys
    → Watches terms most after p o (let bad : Result U Stop = Err stop in bad) (reverse (xs ++ ys))
stopped_by T U terms count most xs ys old new after p q o NetFault below goes step =
    let same : reverse xs ≡ reverse (xs ++ ys) = ap reverse (sym (append-nil xs) ∙ ap (λ (l : List LineItem). xs ++ l) (sym step.0)) in
    subst (λ (l : List LineItem). Watches terms most after p o (let bad : Result U Stop = Err NetFault in bad) l) same
    (omega (arith, goes.length), subst (λ (s : Option (List ℕ)). Grew p s (WroteAll IsReported (watching terms (reverse xs)))) (sym step.1) goes.written)
stopped_by T U terms count most xs ys old new after p q o WriteFault below goes step =
    subst (λ (l : List LineItem). Watches terms most after p o (let bad : Result U Stop = Err WriteFault in bad) l) (newest xs ys step.0 step.1)
    (upto (reverse xs) step.0 goes.length, wrote_cut IsReported p q o (watching terms (reverse xs)) (Shows (Watched terms (step.0 ∷ reverse xs)) ∷ []) goes.written step.2)
  where
    upto : (receipts : List LineItem) (i : LineItem) → length receipts ≡ count → length (i ∷ receipts) ≤ most
    upto receipts i is = omega arith
stopped_by T U terms count most xs ys old new after p q o stop below goes step = absurd step

pub goes_stopped : {T U : Type 0} (terms : Terms) (count most : ℕ) (xs ys : List LineItem) (old new after : Following) (p q o : Option (List ℕ)) (r : Result T Stop) (end : Result U Stop) (stop : Stop)
    → count < most → r ≡ Err stop → end ≡ Err stop → Goes terms count old p q (reverse xs) → Stepped terms (reverse xs) new q o r ys
    → Watches terms most after p o end (reverse (xs ++ ys))
goes_stopped {T} {U} terms count most xs ys old new after p q o r end stop below is ended goes step =
    subst (λ (e : Result U Stop). Watches terms most after p o e (reverse (xs ++ ys))) (sym ended)
    (stopped_by T U terms count most xs ys old new after p q o stop below goes (subst (λ (e : Result T Stop). Stepped terms (reverse xs) new q o e ys) is step))

-- all were taken
pub goes_done : {T : Type 0} (terms : Terms) (count most : ℕ) (receipts : List LineItem) (now : Following) (p q : Option (List ℕ)) (r : Result T Stop) (x : T) → count ≡ most → r ≡ Ok x
    → Goes terms count now p q receipts → Watches terms most now p q r receipts
goes_done {T} terms count most receipts now p q r x all is goes =
    subst (λ (e : Result T Stop). Watches terms most now p q e receipts) (sym is) (goes.length ∙ all, goes.stands, goes.written)
