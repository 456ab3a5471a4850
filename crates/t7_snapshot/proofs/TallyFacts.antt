-- The orders of each security, counted order by order.
use Rattle.std.proofs.Common.{◌≡◌, ◌≢◌, ℕ, zero, suc, ◌+◌, ◌<◌, ◌≤◌, inl, inr, ℤ, true, List, [], ◌∷◌, ◌++◌, length, map, take, drop, get_or, set, refl, sym, ap, subst, ◌∙◌, arith, length-append, get_or-set_same, get_or-set_other, length-set}
use Rattle.std.specs.List.{All, IsDistinct}
use Rattle.std.specs.Ordering.{int_eq}
use Rattle.std.proofs.lemmas.Bool.{cases_Bool}
use Rattle.std.proofs.lemmas.Bool.Decides.{Decides-int_eq, eqb_tells}
use Rattle.std.proofs.lemmas.List.{append-nil, get_or-map, take-append-drop, take-append-le, take_more}
use Rattle.std.proofs.lemmas.List.Elements.{All-cons, All-head, All-tail, filter-append}
use Rattle.std.proofs.lemmas.Map.Keys.{apart_from_distinct}
use Rattle.std.proofs.Math.Seq.{map-set_same, take-append_seam}
use Rattle.t7_base.specs.declared.public.Resting.{Resting}
use Rattle.t7_snapshot.specs.declared.tally.Tally.{Tally}
use Rattle.t7_snapshot.specs.Tallies.{counted_at, orders_in, IsTallied, securities_of, untold}
use Rattle.t7_snapshot.proofs.Held.{compare, get_or_any, same_or}

one_of : (security : ℤ) (order : Resting) → order.security ≡ security → orders_in security (order ∷ []) ≡ order ∷ []
one_of security order same = (let here : int_eq order.security security ≡ true = (Decides-int_eq order.security security).1 same in rw here refl)

none_of : (security : ℤ) (order : Resting) → order.security ≢ security → orders_in security (order ∷ []) ≡ []
none_of security order other = elim (cases_Bool (int_eq order.security security)) [
  | inl same ↦ absurd (other ((Decides-int_eq order.security security).0 same))
  | inr differs ↦ rw differs refl
]

in_append : (security : ℤ) (xs ys : List Resting) → orders_in security (xs ++ ys) ≡ orders_in security xs ++ orders_in security ys
in_append security xs ys = filter-append (λ o. int_eq o.security security) xs ys

-- an order of another security
tallied_other : (orders : List Resting) (order : Resting) (tally : Tally) → order.security ≢ tally.security → IsTallied orders tally → IsTallied (orders ++ order ∷ []) tally
tallied_other orders order tally other is =
    let many = length-append orders (order ∷ []) in
    let w = is.within in
    record {
      within = omega (arith, many, w);
      first = ap (λ l. orders_in tally.security l) (take-append-le tally.first orders (order ∷ []) w) ∙ is.first;
      count = is.count ∙ ap length (sym (in_append tally.security orders (order ∷ []) ∙ ap (λ l. orders_in tally.security orders ++ l) (none_of tally.security order other) ∙ append-nil (orders_in tally.security orders)));
    }

pub no_elements : {A : Type 0} (xs : List A) → length xs ≡ 0 → xs ≡ []
no_elements [] none = refl
no_elements (x ∷ xs) none = absurd (omega arith)

-- an order of the security
tallied_same : (orders : List Resting) (order : Resting) (tally : Tally) → order.security ≡ tally.security → IsTallied orders tally → IsTallied (orders ++ order ∷ []) (counted_at tally (length orders))
tallied_same orders order tally same is =
    let many = length-append orders (order ∷ []) in
    let w = is.within in
    let more = in_append tally.security orders (order ∷ []) ∙ ap (λ l. orders_in tally.security orders ++ l) (one_of tally.security order same) in
    let longer = length-append (orders_in tally.security orders) (order ∷ []) in
    let count : tally.count + 1 ≡ length (orders_in tally.security (orders ++ order ∷ [])) = (let c = is.count in let m = ap length more in omega (arith, c, m, longer)) in
    elim (eqb_tells tally.count 0) [
      | inl none ↦ rw none.0 (record {
        within = omega (arith, many);
        first = ap (λ l. orders_in tally.security l) (take-append_seam orders (order ∷ [])) ∙ no_elements (orders_in tally.security orders) (sym is.count ∙ none.1);
        count = count;
      })
      | inr some ↦ rw some.0 (record {
        within = omega (arith, many, w);
        first = ap (λ l. orders_in tally.security l) (take-append-le tally.first orders (order ∷ []) w) ∙ is.first;
        count = count;
      })
    ]

-- the orders up to one, and it
front : (orders : List Resting) (place : ℕ) (order : Resting) → place < length orders → order ≡ get_or orders place order → take (place + 1) orders ≡ take place orders ++ order ∷ []
front orders place order below is = take_more orders place order below ∙ ap (λ o. take place orders ++ o ∷ []) (sym is)

-- no tally is of an order's security
pub tallied_none : (orders : List Resting) (place : ℕ) (order : Resting) (tallies : List Tally) → place < length orders → order ≡ get_or orders place order → All (λ (tally : Tally). tally.security ≢ order.security) tallies
    → All (IsTallied (take place orders)) tallies → All (IsTallied (take (place + 1) orders)) tallies
tallied_none orders place order tallies below is none all = λ k d in_range. (
    subst (λ xs. IsTallied xs (get_or tallies k d)) (sym (front orders place order below is))
    (tallied_other (take place orders) order (get_or tallies k d) (λ same. none k d in_range (sym same)) (all k d in_range))
    )

-- the tallies of two places are of two securities
two_securities : (tallies : List Tally) (j k : ℕ) (d : Tally) → IsDistinct int_eq (securities_of tallies) → j < length tallies → k < length tallies → j ≢ k → (get_or tallies j d).security ≢ (get_or tallies k d).security
two_securities tallies j k d distinct j_in k_in other same =
    elim (compare j k) [
      | inl less ↦ two_apart j k less k_in same
      | inr (inl more) ↦ two_apart k j more j_in (sym same)
      | inr (inr e) ↦ other e
    ] where
      lengths : (xs : List Tally) → length (securities_of xs) ≡ length xs
      lengths [] = refl
      lengths (x ∷ xs) = (let l = lengths xs in omega (arith, l))

      two_apart : (a b : ℕ) → a < b → b < length tallies → (get_or tallies a d).security ≡ (get_or tallies b d).security → ⊥
      two_apart a b less b_in e =
          let many = lengths tallies in
          let f = λ (tally : Tally). tally.security in
          let at_a = get_or-map f tallies a d d.security (omega arith) in
          let at_b = get_or-map f tallies b d d.security b_in in
          let differ = apart_from_distinct int_eq (securities_of tallies) a b d.security distinct less (omega (arith, many)) in
          let equal : int_eq (get_or (securities_of tallies) a d.security) (get_or (securities_of tallies) b d.security) ≡ true = (Decides-int_eq _ _).1 (at_a ∙ e ∙ sym at_b) in
          cc (equal, differ)

-- one is
pub tallied_one : (orders : List Resting) (place : ℕ) (order : Resting) (tallies : List Tally) (at : ℕ) (tally : Tally) → place < length orders → order ≡ get_or orders place order
    → IsDistinct int_eq (securities_of tallies) → at < length tallies → tally ≡ get_or tallies at tally → tally.security ≡ order.security
    → All (IsTallied (take place orders)) tallies → All (IsTallied (take (place + 1) orders)) (set tallies at (counted_at tally place))
tallied_one orders place order tallies at tally below is distinct at_in there same all = λ k d in_range.
    subst (λ xs. IsTallied xs (get_or (set tallies at (counted_at tally place)) k d)) (sym (front orders place order below is))
    (
    let k_in : k < length tallies = (let l = length-set tallies at (counted_at tally place) in omega (arith, l, in_range)) in
    elim (same_or k at) [
      | inl e ↦ (
          let here : get_or (set tallies at (counted_at tally place)) k d ≡ counted_at tally place = ap (λ i. get_or (set tallies at (counted_at tally place)) i d) e ∙ get_or-set_same tallies at (counted_at tally place) d at_in in
          let mine : IsTallied (take place orders) tally = subst (λ t. IsTallied (take place orders) t) (sym there) (all at tally at_in) in
          let long : length (take place orders) ≡ place = length_take orders place below in
          subst (λ t. IsTallied (take place orders ++ order ∷ []) t) (sym here)
          (subst (λ n. IsTallied (take place orders ++ order ∷ []) (counted_at tally n)) long (tallied_same (take place orders) order tally (sym same) mine))
          )
      | inr other ↦ (
          let here : get_or (set tallies at (counted_at tally place)) k d ≡ get_or tallies k d = get_or-set_other tallies at k (counted_at tally place) d other in
          let there_d : get_or tallies at d ≡ tally = get_or_any tallies at d tally at_in ∙ sym there in
          subst (λ t. IsTallied (take place orders ++ order ∷ []) t) (sym here)
          (tallied_other (take place orders) order (get_or tallies k d)
          (λ e. two_securities tallies k at d distinct k_in at_in other (sym e ∙ sym same ∙ ap (λ t. t.security) (sym there_d)))
          (all k d k_in))
          )
    ]
    )
  where
    length_take : (xs : List Resting) (n : ℕ) → n < length xs → length (take n xs) ≡ n
    length_take [] n short = absurd (omega arith)
    length_take (x ∷ xs) zero short = refl
    length_take (x ∷ xs) (suc n) short = (let l = length_take xs n (omega arith) in omega (arith, l))

pub securities_set : (tallies : List Tally) (at place : ℕ) (tally : Tally) → at < length tallies → tally ≡ get_or tallies at tally → securities_of (set tallies at (counted_at tally place)) ≡ securities_of tallies
securities_set tallies at place tally at_in there = map-set_same (λ t. t.security) tallies at (counted_at tally place) tally (ap (λ t. t.security) there)

-- before the first order
pub tallied_nothing : (orders : List Resting) (tallies : List Tally) → All (IsTallied []) tallies → All (IsTallied (take 0 orders)) tallies
tallied_nothing [] tallies all = all
tallied_nothing (x ∷ xs) tallies all = all

-- behind the last
pub tallied_whole : (orders : List Resting) (place : ℕ) (tallies : List Tally) → length orders ≤ place → All (IsTallied (take place orders)) tallies → All (IsTallied orders) tallies
tallied_whole orders place tallies past all = subst (λ xs. All (IsTallied xs) tallies) (take_whole orders place past) all where
  take_whole : (xs : List Resting) (n : ℕ) → length xs ≤ n → take n xs ≡ xs
  take_whole [] zero past = refl
  take_whole [] (suc n) past = refl
  take_whole (x ∷ xs) zero past = absurd (omega arith)
  take_whole (x ∷ xs) (suc n) past = ap (λ ys. x ∷ ys) (take_whole xs n (omega arith))

-- tallies as they begin
pub untold_tallied : (securities : List ℤ) → All (IsTallied []) (map untold securities)
untold_tallied [] = λ k d in_range. absurd (omega arith)
untold_tallied (z ∷ zs) = All-cons (IsTallied []) (untold z) (map untold zs) (record { within = omega arith; first = refl; count = refl }) (untold_tallied zs)

pub untold_securities : (securities : List ℤ) → securities_of (map untold securities) ≡ securities
untold_securities [] = refl
untold_securities (z ∷ zs) = ap (λ xs. z ∷ xs) (untold_securities zs)

-- all orders of a security stand behind the place
pub tallied_behind : (orders : List Resting) (tally : Tally) → IsTallied orders tally → orders_in tally.security (drop tally.first orders) ≡ orders_in tally.security orders
tallied_behind orders tally is =
    sym (ap (λ l. l ++ orders_in tally.security (drop tally.first orders)) is.first)
    ∙ sym (in_append tally.security (take tally.first orders) (drop tally.first orders))
    ∙ ap (λ l. orders_in tally.security l) (take-append-drop tally.first orders)

-- what is true of the securities is true of those of the tallies
pub ranged_by : (P : ℤ → Type 0) (tallies : List Tally) → All P (securities_of tallies) → All (λ (tally : Tally). P tally.security) tallies
ranged_by P [] all = λ k d in_range. absurd (omega arith)
ranged_by P (t ∷ ts) all = All-cons (λ (tally : Tally). P tally.security) t ts (All-head P t.security (securities_of ts) all) (ranged_by P ts (All-tail P t.security (securities_of ts) all))

-- no security has more orders than there are
pub tallied_few : (orders : List Resting) (tally : Tally) → IsTallied orders tally → tally.count ≤ length orders
tallied_few orders tally is = (let c = is.count in let l = filter_short orders in omega (arith, c, l)) where
  filter_short : (xs : List Resting) → length (orders_in tally.security xs) ≤ length xs
  filter_short [] = omega arith
  filter_short (x ∷ xs) = (let l = filter_short xs in elim (cases_Bool (int_eq x.security tally.security)) [ inl t ↦ rw t (omega (arith, l)) | inr f ↦ rw f (omega (arith, l)) ])

-- nor more than were counted so far
pub counted_few : (orders : List Resting) (place : ℕ) (tallies : List Tally) (at : ℕ) (tally : Tally) → place < length orders → at < length tallies → tally ≡ get_or tallies at tally
    → All (IsTallied (take place orders)) tallies → tally.count ≤ place
counted_few orders place tallies at tally below at_in there all =
    let mine : IsTallied (take place orders) tally = subst (λ t. IsTallied (take place orders) t) (sym there) (all at tally at_in) in
    let c = tallied_few (take place orders) tally mine in
    let t = short_take orders place in
    omega (arith, c, t)
  where
    short_take : (xs : List Resting) (n : ℕ) → length (take n xs) ≤ n
    short_take [] zero = omega arith
    short_take [] (suc n) = omega arith
    short_take (x ∷ xs) zero = omega arith
    short_take (x ∷ xs) (suc n) = (let l = short_take xs n in omega (arith, l))
