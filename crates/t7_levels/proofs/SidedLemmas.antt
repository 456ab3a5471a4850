-- A walk from the first order of a side, and orders of different names.
use Rattle.std.proofs.Common.{◌≡◌, ◌≢◌, ℕ, Bool, cond, List, [], ◌∷◌, ◌++◌, Some, None, Option, refl, sym, ap, subst, ◌∙◌, inl, inr}
use Rattle.std.specs.List.{filter}
use Rattle.std.specs.declared.cmp.Ordering.{Ordering}
use Rattle.std.specs.declared.cmp.Ordering.TheVariants.{Less, Equal}
use Rattle.std.specs.Cmp.{IsTotalOrder}
use Rattle.std.proofs.lemmas.Cmp.{tied_itself}
use Rattle.std.proofs.lemmas.Bool.{cases_Bool}
use Rattle.std.proofs.lemmas.Bool.Decides.{eqb_tells}
use Rattle.std.proofs.lemmas.List.{map-append}
use Rattle.t7_lists.specs.declared.place.LinkEnd.TheVariants.{Slot}
use Rattle.t7_lists.specs.Paths.{Lacks, Apart}
use Rattle.t7_lists.proofs.PathLemmas.{Lacks-back}
use Rattle.t7_levels.specs.Chain.{Each, slots}
use Rattle.t7_levels.specs.Index.{Reordered, values, names_of}
use Rattle.t7_levels.specs.Ladder.{Among, first_slot}
use Rattle.t7_levels.specs.Named.{Rises}
use Rattle.t7_levels.specs.Side.{from_first, Once}
use Rattle.t7_levels.specs.Walk.{rest_from, Stands}
use Rattle.t7_levels.proofs.EachLemmas.{Each-both, Each-weaker}
use Rattle.t7_levels.proofs.IndexLemmas.{each_listed}
use Rattle.t7_levels.proofs.NamedLemmas.{rises_round, rises_out}
use Rattle.t7_levels.proofs.StepLemmas.{rest_at}

module _ {T : Type 0} where
  -- an order before the slot at which a walk stands is not seen
  skipped : (x : ℕ × T) (xs : List (ℕ × T)) (at : Option ℕ) → Lacks (Slot x.0) (slots xs) → Stands at xs → Stands at (x ∷ xs) × (rest_from at (x ∷ xs) ≡ rest_from at xs)
  skipped x xs None lacks stand = (tt, refl)
  skipped x xs (Some s) lacks stand =
      let there : Among (x ∷ xs) s = record { front = x ∷ stand.front; value = stand.value; back = stand.back; parts = ap (λ (us : List (ℕ × T)). x ∷ us) stand.parts } in
      elim (eqb_tells x.0 s) [
        | inl t ↦
            let all = subst (λ (us : List (ℕ × T)). Lacks (Slot x.0) (slots us)) stand.parts lacks in
            let some = subst (Lacks (Slot x.0)) (map-append (λ (it : ℕ × T). it.0) stand.front ((s, stand.value) ∷ stand.back)) all in
            absurd ((Lacks-back (Slot x.0) (slots stand.front) (s ∷ slots stand.back) some).0 (ap Slot t.1))
        | inr t ↦ (there, ap (λ (b : Bool). cond b (values (x ∷ xs)) (rest_from (Some s) xs)) t.0)
      ]

  module _ (p : T → Bool) where
    abbrev passing : List (ℕ × T) → List (ℕ × T)
    passing items = filter (λ (it : ℕ × T). p it.1) items

    sided : (items : List (ℕ × T)) → Apart (slots items) → Stands (first_slot (passing items)) items × (rest_from (first_slot (passing items)) items ≡ from_first p (values items))
    sided [] apart = (tt, refl)
    sided (x ∷ xs) apart = elim (cases_Bool (p x.1)) [
      | inl passes ↦
          let stand : Among (x ∷ xs) x.0 = record { front = []; value = x.1; back = xs; parts = refl } in
          rw passes (stand, rest_at (x ∷ xs) x.0 apart stand)
      | inr fails ↦
          let later = sided xs apart.1 in
          let skip = skipped x xs (first_slot (passing xs)) apart.0 later.0 in
          rw fails (skip.0, skip.1 ∙ later.1)
    ]

    -- a walk that stands at the first order of a side
    pub sided_at : (items : List (ℕ × T)) (at : Option ℕ) → at ≡ first_slot (passing items) → Apart (slots items) → Stands at items × (rest_from at items ≡ from_first p (values items))
    sided_at items at is apart =
        let done = sided items apart in
        (subst (λ (o : Option ℕ). Stands o items) (sym is) done.0, ap (λ (o : Option ℕ). rest_from o items) is ∙ done.1)

module _ {K T : Type 0} (name : T → K) (cmp : K → K → Ordering) (total : IsTotalOrder cmp) where
  differs : (key : K) (items : List (ℕ × T)) → Each (λ (e : K × ℕ). e.0 ≢ key) (names_of name items) → Each (λ v. name v ≢ key) (values items)
  differs key [] each = tt
  differs key (x ∷ xs) each = (each.0, differs key xs each.1)

  less_differs : (a b : K) → cmp a b ≡ Less → a ≢ b
  less_differs a b less same =
      let tie : cmp a b ≡ Equal = ap (cmp a) (sym same) ∙ tied_itself total a in
      cc (less, tie)

  -- names that rise stand once
  pub names_once : (items : List (ℕ × T)) (names : List (K × ℕ)) → Rises cmp names → Reordered (names_of name items) names → Once name (values items)
  names_once [] names rises mixed = tt
  names_once (x ∷ xs) names rises mixed =
      let key = name x.1 in
      let up = subst (Rises cmp) mixed.2 rises in
      let round = rises_round cmp total mixed.0 mixed.1 (key, x.0) up in
      let others = Each-both (λ (e : K × ℕ). e.0 ≢ key) mixed.0 mixed.1
      (Each-weaker (λ (e : K × ℕ). cmp e.0 key ≡ Less) (λ (e : K × ℕ). e.0 ≢ key) (λ e less. less_differs e.0 key less) mixed.0 round.0)
      (Each-weaker (λ (e : K × ℕ). cmp key e.0 ≡ Less) (λ (e : K × ℕ). e.0 ≢ key) (λ e less same. less_differs key e.0 less (sym same)) mixed.1 round.1) in (
        differs key xs (each_listed (λ (e : K × ℕ). e.0 ≢ key) (names_of name xs) (mixed.0 ++ mixed.1) mixed.3 others),
        names_once xs (mixed.0 ++ mixed.1) (rises_out cmp total mixed.0 mixed.1 (key, x.0) up) mixed.3,
      )
