-- The orders by their names on the feed.
use Rattle.std.proofs.Common.{◌≡◌, ℕ, ℤ, ◌*◌, ◌<◌, Bool, true, false, cond, ◌&&◌, eqb, List, [], ◌∷◌, length, map, Some, None, Option, refl, sym, ap, subst, ◌∙◌, inl, inr, arith}
use Rattle.std.specs.Prelude.{IfSome}
use Rattle.std.specs.List.{find}
use Rattle.std.specs.Ordering.{int_eq}
use Rattle.std.proofs.lemmas.Bool.{cases_Bool, and_parts, eqb-true}
use Rattle.std.proofs.lemmas.Bool.Decides.{Decides-int_eq}
use Rattle.t7_base.specs.declared.ids.Side.{Side}
use Rattle.t7_base.specs.declared.ids.Side.TheVariants.{Buy, Sell}
use Rattle.t7_base.specs.declared.public.Resting.{Resting}
use Rattle.t7_book.specs.Orders.{has_name, is_side, goes_before}
use Rattle.t7_levels.specs.Chain.{Each}
use Rattle.t7_levels.specs.Ladder.{goes}
use Rattle.t7_levels.specs.Index.{is_called, renewed}
use Rattle.t7_mbook.specs.declared.kept.Kept.{Kept}
use Rattle.t7_mbook.specs.declared.kept.OrderName.{OrderName}
use Rattle.t7_mbook.specs.Changes.{named, renewed_resting}
use Rattle.t7_mbook.specs.Misfits.{is_listed}
use Rattle.t7_mbook.specs.Ranks.{rank_of_price}
use Rattle.t7_book.specs.Numbers.{number_of}
use Rattle.t7_mbook.specs.Kept.{IsNumbered, shown_orders, shown_option}
use Rattle.t7_mbook.proofs.SideLemmas.{rank_within}
use Rattle.t7_mbook.proofs.KeptLemmas.{numbered, ranked, stamped, name_of, name_cmp, goes_is, name_test, side_test, elsewhere, Decides-side}

pub Each-map : {X : Type 0} (P Q : X → Type 0) → ((x : X) → P x → Q x) → (xs : List X) → Each P xs → Each Q xs
Each-map P Q f [] each = tt
Each-map P Q f (x ∷ xs) each = (f x each.0, Each-map P Q f xs each.1)

pub number_fits : (securities : List ℤ) (s : ℤ) (side : Side) → is_listed securities s ≡ true → number_of securities s side < 2 * length securities
number_fits securities s Buy listed = let less = rank_within securities s listed in omega arith
number_fits securities s Sell listed = let less = rank_within securities s listed in omega arith

pub shown_none : (o : Option Kept) → shown_option o ≡ None → o ≡ None
shown_none None is = refl
shown_none (Some k) is = absurd (cc)

abbrev pub name_made : ℕ → ℕ → OrderName
name_made s n = record { stamp = s; number = n }

by_test : (b c : Bool) (v k : Kept) → b ≡ c → (cond b v k).order ≡ cond c v.order k.order
by_test b c v k is = ap (λ (d : Bool). (cond d v k).order) is ∙ both c
  where
    both : (c : Bool) → (cond c v k).order ≡ cond c v.order k.order
    both true = refl
    both false = refl

module _ (securities : List ℤ) where
  pub names_alike : (security : ℤ) (side : Side) (stamp number : ℕ) (list : List Kept) → is_listed securities security ≡ true → number ≡ number_of securities security side → Each (IsNumbered securities) list → Each (λ (k : Kept). is_called name_of name_cmp (record { stamp = stamp; number = number }) k ≡ has_name security side stamp k.order) list
  names_alike security side stamp number list listed is each =
      Each-map (IsNumbered securities) (λ (k : Kept). is_called name_of name_cmp (record { stamp = stamp; number = number }) k ≡ has_name security side stamp k.order) (λ k at. name_test securities security side stamp number k listed is at) list each

  pub sides_alike : (security : ℤ) (side : Side) (number : ℕ) (list : List Kept) → is_listed securities security ≡ true → number ≡ number_of securities security side → Each (IsNumbered securities) list → Each (λ (k : Kept). eqb k.number number ≡ (int_eq k.order.security security && is_side k.order.side side)) list
  sides_alike security side number list listed is each =
      Each-map (IsNumbered securities) (λ (k : Kept). eqb k.number number ≡ (int_eq k.order.security security && is_side k.order.side side)) (λ k at. side_test securities security side number k listed is at) list each

  pub none_here : (security : ℤ) (rest : Resting → Bool) (list : List Kept) → is_listed securities security ≡ false → Each (IsNumbered securities) list → Each (λ (k : Kept). (int_eq k.order.security security && rest k.order) ≡ false) list
  none_here security rest list unlisted each =
      Each-map (IsNumbered securities) (λ (k : Kept). (int_eq k.order.security security && rest k.order) ≡ false) (λ k at. elsewhere securities security (rest k.order) k unlisted at) list each

  pub orders_alike : (x : Kept) (list : List Kept) → IsNumbered securities x → Each (IsNumbered securities) list → Each (λ (k : Kept). goes numbered ranked stamped k x ≡ goes_before securities k.order x.order) list
  orders_alike x list at_x each =
      Each-map (IsNumbered securities) (λ (k : Kept). goes numbered ranked stamped k x ≡ goes_before securities k.order x.order) (λ k at. goes_is securities k x at at_x) list each

  -- another quantity for the order of a name
  abbrev Alike : Kept → Kept → Type 0
  Alike v kept = (numbered v ≡ numbered kept) × (ranked v ≡ ranked kept) × (stamped v ≡ stamped kept) × (name_of v ≡ name_of kept)

  same_name_of : (s t m n : ℕ) → s ≡ t → m ≡ n → name_made s m ≡ name_made t n
  same_name_of s t m n first second = ap (λ (i : ℕ). name_made i m) first ∙ ap (λ (j : ℕ). name_made t j) second

  alike : (v k : Kept) → IsNumbered securities v → IsNumbered securities k → has_name v.order.security v.order.side v.order.stamp k.order ≡ true → k.order.price ≡ v.order.price → Alike v k
  alike v k at_v at_k test price =
      let parts = and_parts (int_eq k.order.security v.order.security) (is_side k.order.side v.order.side && (eqb k.order.stamp v.order.stamp)) test in
      let rest = and_parts (is_side k.order.side v.order.side) (eqb k.order.stamp v.order.stamp) parts.1 in
      let security : k.order.security ≡ v.order.security = (Decides-int_eq k.order.security v.order.security).0 parts.0 in
      let side : k.order.side ≡ v.order.side = (Decides-side k.order.side v.order.side).0 rest.0 in
      let stamp : k.order.stamp ≡ v.order.stamp = eqb-true k.order.stamp v.order.stamp rest.1 in
      let number : v.number ≡ k.number = at_v.number ∙ ap (λ (s : ℤ). number_of securities s v.order.side) (sym security) ∙ ap (number_of securities k.order.security) (sym side) ∙ sym at_k.number in
      (number, ap (λ (s : Side). rank_of_price s v.order.price) (sym side) ∙ ap (rank_of_price k.order.side) (sym price), sym stamp, same_name_of v.order.stamp k.order.stamp v.number k.number (sym stamp) number)

  pub renewable : (v : Kept) (list : List Kept) → IsNumbered securities v → Each (IsNumbered securities) list → IfSome (named v.order.security v.order.side v.order.stamp (shown_orders list)) (λ kept. kept.price ≡ v.order.price) → IfSome (find (is_called name_of name_cmp (name_of v)) list) (Alike v)
  renewable v [] at_v each price = price
  renewable v (k ∷ ks) at_v each price =
      let test = name_test securities v.order.security v.order.side v.order.stamp v.number k at_v.listed at_v.number each.0 in
      elim (cases_Bool (has_name v.order.security v.order.side v.order.stamp k.order)) [
        | inl here ↦
            let same : k.order.price ≡ v.order.price = subst (λ (b : Bool). IfSome (cond b (Some k.order) (named v.order.security v.order.side v.order.stamp (shown_orders ks))) (λ kept. kept.price ≡ v.order.price)) here price in
            subst (λ (b : Bool). IfSome (cond b (Some k) (find (is_called name_of name_cmp (name_of v)) ks)) (Alike v)) (sym (test ∙ here)) (alike v k at_v each.0 here same)
        | inr there ↦
            let later = subst (λ (b : Bool). IfSome (cond b (Some k.order) (named v.order.security v.order.side v.order.stamp (shown_orders ks))) (λ kept. kept.price ≡ v.order.price)) there price in
            subst (λ (b : Bool). IfSome (cond b (Some k) (find (is_called name_of name_cmp (name_of v)) ks)) (Alike v)) (sym (test ∙ there)) (renewable v ks at_v each.1 later)
      ]

  pub renewed_shown : (v : Kept) (list : List Kept) → IsNumbered securities v → Each (IsNumbered securities) list → shown_orders (map (renewed name_of name_cmp v) list) ≡ map (renewed_resting v.order) (shown_orders list)
  renewed_shown v [] at_v each = refl
  renewed_shown v (k ∷ ks) at_v each =
      let test = name_test securities v.order.security v.order.side v.order.stamp v.number k at_v.listed at_v.number each.0 in
      let rest = renewed_shown v ks at_v each.1 in
      let head : (cond (is_called name_of name_cmp (name_of v) k) v k).order ≡ cond (has_name v.order.security v.order.side v.order.stamp k.order) v.order k.order = by_test (is_called name_of name_cmp (name_of v) k) (has_name v.order.security v.order.side v.order.stamp k.order) v k test in
      cc (head, rest)

  pub renewed_numbered : (v : Kept) (list : List Kept) → IsNumbered securities v → Each (IsNumbered securities) list → Each (IsNumbered securities) (map (renewed name_of name_cmp v) list)
  renewed_numbered v [] at_v each = tt
  renewed_numbered v (k ∷ ks) at_v each = (elim (is_called name_of name_cmp (name_of v) k) as (λ b. IsNumbered securities (cond b v k)) [ true ↦ at_v | false ↦ each.0 ], renewed_numbered v ks at_v each.1)

  pub none_renewed : (x : Resting) (list : List Kept) → is_listed securities x.security ≡ false → Each (IsNumbered securities) list → shown_orders list ≡ map (renewed_resting x) (shown_orders list)
  none_renewed x [] unlisted each = refl
  none_renewed x (k ∷ ks) unlisted each =
      let other = elsewhere securities x.security (is_side k.order.side x.side && (eqb k.order.stamp x.stamp)) k unlisted each.0 in
      let head : k.order ≡ cond (has_name x.security x.side x.stamp k.order) x k.order = sym (ap (λ (b : Bool). cond b x k.order) other) in
      let rest = none_renewed x ks unlisted each.1 in
      cc (head, rest)
