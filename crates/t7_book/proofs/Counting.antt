-- How many orders of a list are in each security, while the list changes.
use Rattle.std.proofs.Common.{◌≡◌, ◌≢◌, ℕ, ℤ, ◌+◌, ◌-◌, ◌<◌, ◌≤◌, Bool, true, false, not, cond, List, [], ◌∷◌, length, get_or, set, refl, sym, ap, ◌∙◌, inl, inr, arith}
use Rattle.std.specs.Prelude.{if◌then◌else◌, slice_index_or}
use Rattle.std.specs.List.{filter}
use Rattle.std.proofs.lemmas.Bool.{cases_Bool, cases_eq, eq-eqb, ne_eqb, eqb-true}
use Rattle.std.proofs.lemmas.Bool.Decides.{Decides-int_eq}
use Rattle.std.proofs.lemmas.List.{get_or-set_same, get_or-set_other}
use Rattle.t7_book.specs.declared.order.Order.{Order}
use Rattle.t7_book.specs.Orders.{is_in, placed, rank_of, renewed, renewed_order, same_name, without}
use Rattle.t7_book.specs.Laws.{Each, Distinct}
use Rattle.t7_book.specs.Numbers.{is_listed}
use Rattle.t7_book.specs.Kept.{AreCounted, count_at, is_ranked}
use Rattle.t7_book.proofs.ListLemmas.{length_filter_le}
use Rattle.t7_book.proofs.Lists.{IsIn, each_at, other_name}
use Rattle.t7_book.proofs.Numbered.{rank_once}
use Rattle.t7_book.proofs.TradeLemmas.{same_name_refl}

abbrev pub as_one : Bool → ℕ
as_one b = if b then 1 else 0

module _ (p : Order → Bool) where
  pub count_placed : (before : Order → Order → Bool) (x : Order) (ys : List Order) → length (filter p (placed before x ys)) ≡ length (filter p ys) + as_one (p x)
  count_placed before x [] = elim (p x) as (λ b. length (cond b (x ∷ []) []) ≡ 0 + cond b 1 0) [ true ↦ refl | false ↦ refl ]
  count_placed before x (y ∷ ys) =
      let rest = count_placed before x ys in
      elim (before y x) as (λ c. length (filter p (cond c (y ∷ placed before x ys) (x ∷ y ∷ ys))) ≡ length (filter p (y ∷ ys)) + as_one (p x)) [
        | true ↦ elim (p y) as (λ b. length (cond b (y ∷ filter p (placed before x ys)) (filter p (placed before x ys))) ≡ length (cond b (y ∷ filter p ys) (filter p ys)) + as_one (p x)) [ true ↦ omega (arith, rest) | false ↦ rest ]
        | false ↦ elim (p x) as (λ b. length (cond b (x ∷ filter p (y ∷ ys)) (filter p (y ∷ ys))) ≡ length (filter p (y ∷ ys)) + cond b 1 0) [ true ↦ omega arith | false ↦ omega arith ]
      ]

  kept_all : (y : Order) (ys : List Order) → Each (λ z. z.rest.stamp ≢ y.rest.stamp) ys → without y.rest ys ≡ ys
  kept_all y [] differ = refl
  kept_all y (z ∷ zs) differ = rw (other_name y.rest z.rest differ.0) (ap (λ (t : List Order). z ∷ t) (kept_all y zs differ.1))

  pub count_without : (y : Order) (ys : List Order) → Distinct ys → IsIn y ys → length (filter p ys) ≡ length (filter p (without y.rest ys)) + as_one (p y)
  count_without y [] d at = absurd at
  count_without y (z ∷ zs) d (inl same) =
      let named : same_name y.rest z.rest ≡ true = rw same (same_name_refl y.rest) in
      let rest : without y.rest zs ≡ zs = rw (← same) (kept_all z zs d.0) in
      let gone : without y.rest (z ∷ zs) ≡ zs = ap (λ (b : Bool). cond (not b) (z ∷ without y.rest zs) (without y.rest zs)) named ∙ rest in
      let first : length (cond (p y) (y ∷ filter p zs) (filter p zs)) ≡ length (filter p zs) + as_one (p y) =
      elim (p y) as (λ b. length (cond b (y ∷ filter p zs) (filter p zs)) ≡ length (filter p zs) + cond b 1 0) [ true ↦ omega arith | false ↦ omega arith ] in
      ap (λ (w : Order). length (filter p (w ∷ zs))) same ∙ first ∙ sym (ap (λ (us : List Order). length (filter p us) + as_one (p y)) gone)
  count_without y (z ∷ zs) d (inr at) =
      let other : same_name y.rest z.rest ≡ false = other_name y.rest z.rest (λ e. each_at (λ w. w.rest.stamp ≢ z.rest.stamp) y zs d.0 at (sym e)) in
      let gone : without y.rest (z ∷ zs) ≡ z ∷ without y.rest zs = ap (λ (b : Bool). cond (not b) (z ∷ without y.rest zs) (without y.rest zs)) other in
      let rest = count_without y zs d.1 at in
      let here : length (cond (p z) (z ∷ filter p zs) (filter p zs)) ≡ length (cond (p z) (z ∷ filter p (without y.rest zs)) (filter p (without y.rest zs))) + as_one (p y) =
      elim (p z) as (λ b. length (cond b (z ∷ filter p zs) (filter p zs)) ≡ length (cond b (z ∷ filter p (without y.rest zs)) (filter p (without y.rest zs))) + as_one (p y)) [ true ↦ omega (arith, rest) | false ↦ rest ] in
      here ∙ sym (ap (λ (us : List Order). length (filter p us) + as_one (p y)) gone)

  pub count_renewed : (x : Order) (ys : List Order) → Each (λ z. same_name x.rest z.rest ≡ true → p x ≡ p z) ys → length (filter p (renewed x ys)) ≡ length (filter p ys)
  count_renewed x [] each = refl
  count_renewed x (y ∷ ys) each =
      let rest = count_renewed x ys each.1 in
      let r = renewed_order x y in
      let same : p r ≡ p y = elim (cases_Bool (same_name x.rest y.rest)) [ inl named ↦ rw named (each.0 named) | inr other ↦ rw other refl ] in
      ap (λ (b : Bool). length (cond b (r ∷ filter p (renewed x ys)) (filter p (renewed x ys)))) same
      ∙ elim (p y) as (λ b. length (cond b (r ∷ filter p (renewed x ys)) (filter p (renewed x ys))) ≡ length (cond b (y ∷ filter p ys) (filter p ys))) [ true ↦ omega (arith, rest) | false ↦ rest ]

module _ (securities : List ℤ) where
  own_rank : (i : ℕ) (x : Order) → rank_of securities x.rest.security ≡ i → as_one (is_ranked securities i x) ≡ 1
  own_rank i x same = ap as_one (eq-eqb (rank_of securities x.rest.security) i same)

  other_rank : (i : ℕ) (x : Order) → rank_of securities x.rest.security ≢ i → as_one (is_ranked securities i x) ≡ 0
  other_rank i x differ = ap as_one (ne_eqb (rank_of securities x.rest.security) i differ)

  module _ (counts : List ℕ) (ys new : List Order) (x : Order) (rank : ℕ) (counted : AreCounted securities counts ys) (places : length counts ≡ length securities) (is : rank ≡ rank_of securities x.rest.security) where
    -- an order more
    pub counted_up : ((i : ℕ) → count_at securities i new ≡ count_at securities i ys + as_one (is_ranked securities i x)) → AreCounted securities (set counts rank (get_or counts rank 0 + 1)) new
    counted_up more i within = elim (cases_eq i rank) [
      | inl same ↦
          let here = get_or-set_same counts rank (get_or counts rank 0 + 1) 0 (omega (arith, same, within, places)) in
          let was = counted i within in
          let one = own_rank i x (sym is ∙ sym same) in
          let now = more i in
          let moved = ap (λ (j : ℕ). get_or counts j 0) same in
          ap (λ (j : ℕ). get_or (set counts rank (get_or counts rank 0 + 1)) j 0) same ∙ here ∙ omega (arith, was, one, now, moved)
      | inr differ ↦
          let here = get_or-set_other counts rank i (get_or counts rank 0 + 1) 0 differ in
          let was = counted i within in
          let none = other_rank i x (λ e. differ (sym e ∙ sym is)) in
          let now = more i in
          here ∙ omega (arith, was, none, now)
    ]

    -- an order fewer
    pub counted_down : ((i : ℕ) → count_at securities i ys ≡ count_at securities i new + as_one (is_ranked securities i x)) → AreCounted securities (set counts rank (get_or counts rank 0 - 1)) new
    counted_down less i within = elim (cases_eq i rank) [
      | inl same ↦
          let here = get_or-set_same counts rank (get_or counts rank 0 - 1) 0 (omega (arith, same, within, places)) in
          let was = counted i within in
          let one = own_rank i x (sym is ∙ sym same) in
          let now = less i in
          let moved = ap (λ (j : ℕ). get_or counts j 0) same in
          ap (λ (j : ℕ). get_or (set counts rank (get_or counts rank 0 - 1)) j 0) same ∙ here ∙ omega (arith, was, one, now, moved)
      | inr differ ↦
          let here = get_or-set_other counts rank i (get_or counts rank 0 - 1) 0 differ in
          let was = counted i within in
          let none = other_rank i x (λ e. differ (sym e ∙ sym is)) in
          let now = less i in
          here ∙ omega (arith, was, none, now)
    ]

  pub counted_same : (counts : List ℕ) (ys new : List Order) → AreCounted securities counts ys → ((i : ℕ) → count_at securities i new ≡ count_at securities i ys) → AreCounted securities counts new
  counted_same counts ys new counted same i within = counted i within ∙ sym (same i)

  -- the order of that rank that stands in the list counts
  pub some_counted : (counts : List ℕ) (ys : List Order) (y : Order) (rank : ℕ) → AreCounted securities counts ys → Distinct ys → IsIn y ys → rank ≡ rank_of securities y.rest.security → rank < length securities → 1 ≤ get_or counts rank 0
  some_counted counts ys y rank counted distinct at is within =
      let was = counted rank within in
      let one = own_rank rank y (sym is) in
      let others : ℕ = length (filter (is_ranked securities rank) (without y.rest ys)) in
      let gone : count_at securities rank ys ≡ others + as_one (is_ranked securities rank y) = count_without (is_ranked securities rank) y ys distinct at in
      let all : slice_index_or counts rank 0 ≡ others + 1 = was ∙ gone ∙ ap (λ (n : ℕ). others + n) one in
      omega (arith, all)

  -- a count is no more than all
  pub few_counted : (counts : List ℕ) (ys : List Order) (rank : ℕ) → AreCounted securities counts ys → rank < length securities → get_or counts rank 0 ≤ length ys
  few_counted counts ys rank counted within =
      let was = counted rank within in
      let le = length_filter_le (is_ranked securities rank) ys in
      omega (arith, was, le)

  -- the orders of a rank are those of the security
  rank_test : (security : ℤ) (y : Order) → is_listed securities security ≡ true → is_listed securities y.rest.security ≡ true → is_ranked securities (rank_of securities security) y ≡ is_in security y
  rank_test security y listed inside = elim (cases_Bool (is_in security y)) [
    | inl here ↦
        let same : y.rest.security ≡ security = (Decides-int_eq y.rest.security security).0 here in
        eq-eqb (rank_of securities y.rest.security) (rank_of securities security) (ap (rank_of securities) same) ∙ sym here
    | inr there ↦ elim (cases_Bool (is_ranked securities (rank_of securities security) y)) [
      | inl tie ↦
          let same = rank_once securities y.rest.security security inside listed (eqb-true (rank_of securities y.rest.security) (rank_of securities security) tie) in
          absurd (cc ((Decides-int_eq y.rest.security security).1 same, there))
      | inr differ ↦ differ ∙ sym there
    ]
  ]

  pub rank_count : (security : ℤ) (ys : List Order) → is_listed securities security ≡ true → Each (λ y. is_listed securities y.rest.security ≡ true) ys → count_at securities (rank_of securities security) ys ≡ length (filter (is_in security) ys)
  rank_count security [] listed inside = refl
  rank_count security (y ∷ ys) listed inside =
      let rest = rank_count security ys listed inside.1 in
      let r = rank_of securities security in
      ap (λ (b : Bool). length (cond b (y ∷ filter (is_ranked securities r) ys) (filter (is_ranked securities r) ys))) (rank_test security y listed inside.0)
      ∙ elim (is_in security y) as (λ b. length (cond b (y ∷ filter (is_ranked securities r) ys) (filter (is_ranked securities r) ys)) ≡ length (cond b (y ∷ filter (is_in security) ys) (filter (is_in security) ys))) [ true ↦ omega (arith, rest) | false ↦ rest ]

  pub none_count : (security : ℤ) (ys : List Order) → is_listed securities security ≡ false → Each (λ y. is_listed securities y.rest.security ≡ true) ys → length (filter (is_in security) ys) ≡ 0
  none_count security [] unlisted inside = refl
  none_count security (y ∷ ys) unlisted inside = elim (cases_Bool (is_in security y)) [
    | inl here ↦
        let listed : is_listed securities security ≡ true = ap (is_listed securities) (sym ((Decides-int_eq y.rest.security security).0 here)) ∙ inside.0 in
        absurd (cc (listed, unlisted))
    | inr there ↦ ap (λ (b : Bool). length (cond b (y ∷ filter (is_in security) ys) (filter (is_in security) ys))) there ∙ none_count security ys unlisted inside.1
  ]
