-- What the command comes to at each of its ends.
use Rattle.std.proofs.Common.{◌≡◌, ℕ, ◌≤◌, List, [], ◌∷◌, ◌++◌, Bool, true, false, ◌==◌, ◌⊎◌, inl, inr, Option, Some, None, Result, Ok, Err, IfOk, IfErr, if◌then◌else◌, length, reverse, arith, refl, sym, ◌∙◌, ap, subst}
use Rattle.std.proofs.lemmas.List.{append-nil, length-reverse}
use Rattle.std.proofs.lemmas.Bool.Decides.{nat_tests}
use Rattle.t7_base.specs.Outside.{Grew}
use Rattle.t7_base.proofs.Grown.{grew_as, grew_nothing}
use Rattle.t7_feed.specs.Arrivals.{AreTerms, Delivery, Terms}
use Rattle.t7_net.specs.declared.line.LineItem.{LineItem}
use Rattle.t7_outcome.specs.declared.ending.Finish.{Finish}
use Rattle.t7_outcome.specs.declared.ending.Finish.TheVariants.{End}
use Rattle.t7_outcome.specs.declared.ending.Stop.{Stop}
use Rattle.t7_outcome.specs.declared.ending.Stop.TheVariants.{Memory, NetFault, WriteFault}
use Rattle.t7_outcome.specs.Ending.{Ended}
use Rattle.t7_outcome.specs.Outcome.{Ends, Fronts, Outcome, Part, Shows, Spelled, Wrote}
use Rattle.t7_outcome.specs.Steps.{Prints}
use Rattle.t7_outcome.proofs.Lines.{fronts_all, fronts_none, spelled_shown}
use Rattle.t7_follow.specs.Clauses.{TakesUpTo, WroteAll}
use Rattle.t7_follow.specs.Followers.{Followed, Following, KeepsAll, Stands, Watches, WroteCut, final_lines}
use Rattle.t7_follow.specs.Following.{finished, followed, watching}
use Rattle.t7_follow.specs.Members.{IsShown, Made}
use Rattle.t7_follow.specs.Reports.{Final, IsReported, Moment, delivered}
use Rattle.t7_follow.proofs.Watching.{wrote_both, wrote_cut}

-- it was stopped before the first receipt
none_at_net : (terms : Terms) (count : ℕ) (p : Option (List ℕ)) → Followed terms count (Err NetFault) p p []
none_at_net terms count p = record {
  end = tt;
  written = grew_nothing p (Wrote IsReported (followed terms count []) (Err NetFault)) ([], [], fronts_none IsReported (followed terms count []).parts, ([], refl), refl);
  due = λ same. grew_nothing p (WroteAll IsReported (watching terms [])) ([], refl, refl);
  taken = omega arith;
}

none_at_memory : (terms : Terms) (count : ℕ) (p : Option (List ℕ)) → Followed terms count (Err Memory) p p []
none_at_memory terms count p = record {
  end = tt;
  written = grew_nothing p (Wrote IsReported (followed terms count []) (Err Memory)) ([], [], fronts_none IsReported (followed terms count []).parts, ([], refl), refl);
  due = λ same. grew_nothing p (WroteAll IsReported (watching terms [])) ([], refl, refl);
  taken = omega arith;
}

pub followed_none : (terms : Terms) (count : ℕ) (ended : Ended) (p : Option (List ℕ)) → (ended ≡ Err NetFault) ⊎ (ended ≡ Err Memory) → Followed terms count ended p p []
followed_none terms count ended p (inl net) = subst (λ (e : Ended). Followed terms count e p p []) (sym net) (none_at_net terms count p)
followed_none terms count ended p (inr memory) = subst (λ (e : Ended). Followed terms count e p p []) (sym memory) (none_at_memory terms count p)

-- the status lines stand at the front
watched_front : (terms : Terms) (count : ℕ) (receipts : List LineItem) (lines : List (List ℕ)) → Spelled IsReported (watching terms receipts) lines
    → Fronts IsReported (followed terms count receipts).parts lines
watched_front terms count receipts lines spelled = by_test (length receipts == count)
  where
    by_test : (b : Bool) → Fronts IsReported (if b then finished terms receipts else record { names = []; parts = watching terms receipts; end = None }).parts lines
    by_test true = record { done = watching terms receipts; first = (Shows (Final terms receipts) ∷ [], refl); spelled = spelled }
    by_test false = record { done = watching terms receipts; first = ([], append-nil (watching terms receipts)); spelled = spelled }

few : (count : ℕ) (xs : List LineItem) → length (reverse xs) ≤ count → length xs ≤ count
few count xs below = omega (arith, length-reverse xs)

-- it was stopped while receipts were taken
stopped_there : (T : Type 0) (terms : Terms) (count : ℕ) (now : Following) (stop : Stop) (p q : Option (List ℕ)) (xs : List LineItem)
    → Watches terms count now p q (let bad : Result T Stop = Err stop in bad) (reverse xs) → Followed terms count (Err stop) p q xs
stopped_there T terms count now NetFault p q xs watches = record {
  end = tt;
  written = grew_as p q (WroteAll IsReported (watching terms (reverse xs))) (Wrote IsReported (followed terms count (reverse xs)) (Err NetFault)) watches.1
      (λ w all. (all.0, all.0, watched_front terms count (reverse xs) all.0 all.1, ([], append-nil all.0), all.2));
  due = λ same. watches.1;
  taken = few count xs watches.0;
}
stopped_there T terms count now WriteFault p q xs watches = record {
  end = tt;
  written = grew_as p q (WroteCut IsReported (watching terms (reverse xs))) (Wrote IsReported (followed terms count (reverse xs)) (Err WriteFault)) watches.1
      (λ w cut. (cut.0, watched_front terms count (reverse xs) cut.0 cut.1, cut.2));
  due = λ same. absurd (other same);
  taken = few count xs watches.0;
}
  where
    other : (let bad : Ended = Err WriteFault in bad) ≡ Err NetFault → ⊥
    other same = cc
stopped_there T terms count now stop p q xs watches = absurd watches

pub followed_stopped : {T : Type 0} (terms : Terms) (count : ℕ) (now : Following) (r : Result T Stop) (ended : Ended) (stop : Stop) (p q : Option (List ℕ)) (xs : List LineItem)
    → r ≡ Err stop → ended ≡ Err stop → Watches terms count now p q r (reverse xs) → Followed terms count ended p q xs
followed_stopped {T} terms count now r ended stop p q xs is same watches =
    subst (λ (e : Ended). Followed terms count e p q xs) (sym same)
    (stopped_there T terms count now stop p q xs (subst (λ (e : Result T Stop). Watches terms count now p q e (reverse xs)) is watches))

-- as many receipts were taken as were asked for
finished_is : (terms : Terms) (count : ℕ) (receipts : List LineItem) → length receipts ≡ count → followed terms count receipts ≡ finished terms receipts
finished_is terms count receipts all =
    let same : (length receipts == count) ≡ true = grind (arith, nat_tests) in
    ap (λ (b : Bool). if b then finished terms receipts else record { names = []; parts = watching terms receipts; end = None }) same

module _ (terms : Terms) (count : ℕ) (now : Following) (p q o : Option (List ℕ)) (xs : List LineItem) (all : length (reverse xs) ≡ count) (stands : Stands terms (reverse xs) now)
    (shown : IsShown terms (delivered (reverse xs)) now.member) (front : Grew p q (WroteAll IsReported (watching terms (reverse xs)))) where
  parts_are : (followed terms count (reverse xs)).parts ≡ watching terms (reverse xs) ++ Shows (Final terms (reverse xs)) ∷ []
  parts_are = ap (λ (o : Outcome Moment). o.parts) (finished_is terms count (reverse xs) all)

  last : Spelled IsReported (Shows (Final terms (reverse xs)) ∷ []) (final_lines now.member)
  last = spelled_shown IsReported (Final terms (reverse xs)) (final_lines now.member) (now.member, shown, refl)

  at_end : (finish : Finish) → finish ≡ End now.datagrams → Grew q o (Prints (final_lines now.member) (let ok : Ended = Ok finish in ok)) → Followed terms count (Ok finish) p o xs
  at_end finish is back = record {
    end = ap (λ (o : Outcome Moment). o.end) (finished_is terms count (reverse xs) all)
        ∙ ap (λ (n : ℕ). let e : Ended = Ok (End n) in Some e) (sym stands.count) ∙ ap (λ (f : Finish). let e : Ended = Ok f in Some e) (sym is);
    written = subst (λ (l : List (Part Moment)). Grew p o (WroteAll IsReported l)) (sym parts_are)
        (wrote_both IsReported p q o (watching terms (reverse xs)) (Shows (Final terms (reverse xs)) ∷ []) front
        (grew_as q o (Prints (final_lines now.member) (let ok : Ended = Ok finish in ok)) (WroteAll IsReported (Shows (Final terms (reverse xs)) ∷ [])) back
        (λ w text. (final_lines now.member, last, text))));
    due = λ same. absurd (other finish same);
    taken = sym (length-reverse xs) ∙ all;
  }
    where
      other : (f : Finish) → (let ok : Ended = Ok f in ok) ≡ Err NetFault → ⊥
      other f same = cc

  at_cut : Grew q o (Prints (final_lines now.member) (let bad : Ended = Err WriteFault in bad)) → Followed terms count (Err WriteFault) p o xs
  at_cut back = record {
    end = tt;
    written = grew_as p o (WroteCut IsReported (followed terms count (reverse xs)).parts) (Wrote IsReported (followed terms count (reverse xs)) (Err WriteFault))
        (subst (λ (l : List (Part Moment)). Grew p o (WroteCut IsReported l)) (sym parts_are)
        (wrote_cut IsReported p q o (watching terms (reverse xs)) (Shows (Final terms (reverse xs)) ∷ []) front
        (grew_as q o (Prints (final_lines now.member) (let bad : Ended = Err WriteFault in bad)) (WroteCut IsReported (Shows (Final terms (reverse xs)) ∷ [])) back
        (λ w cut. (final_lines now.member, last, cut)))))
        (λ w cut. (cut.0, fronts_all IsReported (followed terms count (reverse xs)).parts cut.0 cut.1, cut.2));
    due = λ same. absurd (other same);
    taken = few count xs (omega (arith, all));
  }
    where
      other : (let bad : Ended = Err WriteFault in bad) ≡ Err NetFault → ⊥
      other same = cc

  by_end : (ended : Ended) → IfOk ended (λ finish. finish ≡ End now.datagrams) → IfErr ended (λ stop. stop ≡ WriteFault) → Grew q o (Prints (final_lines now.member) ended)
      → Followed terms count ended p o xs
  by_end (Ok finish) is only back = at_end finish is back
  by_end (Err stop) is only back =
      subst (λ (s : Stop). Followed terms count (Err s) p o xs) (sym only)
      (at_cut (subst (λ (s : Stop). Grew q o (Prints (final_lines now.member) (let bad : Ended = Err s in bad))) only back))

-- all receipts were taken, and the report was printed, or cut off
pub followed_ended : {T : Type 0} (terms : Terms) (count : ℕ) (now : Following) (r : Result T Stop) (x : T) (ended : Ended) (p q o : Option (List ℕ)) (xs : List LineItem)
    → r ≡ Ok x → AreTerms terms
    → ((terms : Terms) (came : List Delivery) → AreTerms terms → Made terms came now.member → KeepsAll terms came now.member → IsShown terms came now.member)
    → Watches terms count now p q r (reverse xs) → IfOk ended (λ finish. finish ≡ End now.datagrams) → IfErr ended (λ stop. stop ≡ WriteFault)
    → Grew q o (Prints (final_lines now.member) ended) → Followed terms count ended p o xs
followed_ended {T} terms count now r x ended p q o xs is are law watches end only back =
    let done = subst (λ (e : Result T Stop). Watches terms count now p q e (reverse xs)) is watches in
    by_end terms count now p q o xs done.0 done.1 (law terms (delivered (reverse xs)) are done.1.made done.1.keeps) done.2 ended end only back

-- The same where it is told what was taken.

module _ (terms : Terms) (count : ℕ) (ended : Ended) (t u : Option (List LineItem)) (p q : Option (List ℕ)) where
  pub told_end : Grew t u (Followed terms count ended p q) → Grew t u (λ xs. Ends (followed terms count (reverse xs)) ended)
  told_end all = grew_as t u (Followed terms count ended p q) (λ xs. Ends (followed terms count (reverse xs)) ended) all (λ xs f. f.end)

  pub told_written : Grew t u (Followed terms count ended p q) → Grew t u (λ xs. Grew p q (Wrote IsReported (followed terms count (reverse xs)) ended))
  told_written all = grew_as t u (Followed terms count ended p q) (λ xs. Grew p q (Wrote IsReported (followed terms count (reverse xs)) ended)) all (λ xs f. f.written)

  pub told_due : Grew t u (Followed terms count ended p q) → ended ≡ Err NetFault → Grew t u (λ xs. Grew p q (WroteAll IsReported (watching terms (reverse xs))))
  told_due all net = grew_as t u (Followed terms count ended p q) (λ xs. Grew p q (WroteAll IsReported (watching terms (reverse xs)))) all (λ xs f. f.due net)

  pub told_taken : Grew t u (Followed terms count ended p q) → Grew t u (TakesUpTo count ended)
  told_taken all = grew_as t u (Followed terms count ended p q) (TakesUpTo count ended) all (λ xs f. f.taken)

pub told_none : (terms : Terms) (count : ℕ) (ended : Ended) (t u : Option (List LineItem)) (p : Option (List ℕ)) → u ≡ t → (ended ≡ Err NetFault) ⊎ (ended ≡ Err Memory)
    → Grew t u (Followed terms count ended p p)
told_none terms count ended t u p same of =
    subst (λ (v : Option (List LineItem)). Grew t v (Followed terms count ended p p)) (sym same)
    (grew_nothing t (Followed terms count ended p p) (followed_none terms count ended p of))

pub told_stopped : {T : Type 0} (terms : Terms) (count : ℕ) (now : Following) (r : Result T Stop) (ended : Ended) (stop : Stop) (t s u : Option (List LineItem)) (p q : Option (List ℕ))
    → s ≡ t → r ≡ Err stop → ended ≡ Err stop → Grew s u (λ xs. Watches terms count now p q r (reverse xs)) → Grew t u (Followed terms count ended p q)
told_stopped terms count now r ended stop t s u p q same is as_well all =
    subst (λ (v : Option (List LineItem)). Grew v u (Followed terms count ended p q)) same
    (grew_as s u (λ xs. Watches terms count now p q r (reverse xs)) (Followed terms count ended p q) all
    (λ xs watches. followed_stopped terms count now r ended stop p q xs is as_well watches))

pub told_ended : {T : Type 0} (terms : Terms) (count : ℕ) (now : Following) (r : Result T Stop) (x : T) (ended : Ended) (t s u : Option (List LineItem)) (p q o : Option (List ℕ))
    → s ≡ t → r ≡ Ok x → AreTerms terms
    → ((terms : Terms) (came : List Delivery) → AreTerms terms → Made terms came now.member → KeepsAll terms came now.member → IsShown terms came now.member)
    → Grew s u (λ xs. Watches terms count now p q r (reverse xs)) → IfOk ended (λ finish. finish ≡ End now.datagrams) → IfErr ended (λ stop. stop ≡ WriteFault)
    → Grew q o (Prints (final_lines now.member) ended) → Grew t u (Followed terms count ended p o)
told_ended terms count now r x ended t s u p q o same is are law all end only back =
    subst (λ (v : Option (List LineItem)). Grew v u (Followed terms count ended p o)) same
    (grew_as s u (λ xs. Watches terms count now p q r (reverse xs)) (Followed terms count ended p o) all
    (λ xs watches. followed_ended terms count now r x ended p q o xs is are law watches end only back))

-- what was taken by a call behind others that took nothing
pub told_from : (terms : Terms) (count : ℕ) (ended : Ended) (t s u : Option (List LineItem)) (p q : Option (List ℕ)) → s ≡ t → Grew s u (Followed terms count ended p q)
    → Grew t u (Followed terms count ended p q)
told_from terms count ended t s u p q same all = subst (λ (v : Option (List LineItem)). Grew v u (Followed terms count ended p q)) same all
