-- A list that stands in the order of the book stays in it.
use Rattle.std.proofs.Common.{◌≡◌, ◌≢◌, ℕ, ℤ, Bool, true, false, cond, List, [], ◌∷◌, refl, ap, ◌∙◌, arith, inl, inr}
use Rattle.std.specs.Prelude.{◌==◌, nat_lt, if◌then◌else◌}
use Rattle.std.specs.List.{filter}
use Rattle.std.specs.Ordering.{int_eq}
use Rattle.std.proofs.lemmas.Bool.{cases_Bool}
use Rattle.std.proofs.lemmas.Int.{ints}
use Rattle.std.proofs.lemmas.Bool.Decides.{nat_tests}
use Rattle.t7_base.specs.declared.ids.Side.{Side}
use Rattle.t7_base.specs.declared.ids.Side.TheVariants.{Buy, Sell}
use Rattle.t7_base.specs.declared.public.Resting.{Resting}
use Rattle.t7_book.specs.declared.order.Order.{Order}
use Rattle.t7_book.specs.Orders.{is_better, by_side, rank_of, goes_before, with_order, same_name, renewed, renewed_order}
use Rattle.t7_book.specs.Laws.{Each, IsInOrder}
use Rattle.t7_book.proofs.Lists.{each_weaker, each_filter, each_placed}

-- the order of the book on what it looks at
abbrev before_key : ℕ → ℕ → Side → Side → ℤ → ℤ → ℕ → ℕ → Bool
before_key i j a b p q s t = if i == j then by_side a b (if int_eq p q then nat_lt s t else is_better a p q) else nat_lt i j

-- of two orders with different stamps one goes before the other
key_total : (i j : ℕ) (a b : Side) (p q : ℤ) (s t : ℕ) → before_key i j a b p q s t ≡ false → s ≢ t → before_key j i b a q p t s ≡ true
key_total i j Buy Buy p q s t h differ = grind (arith, ints, nat_tests)
key_total i j Buy Sell p q s t h differ = grind (arith, ints, nat_tests)
key_total i j Sell Buy p q s t h differ = grind (arith, ints, nat_tests)
key_total i j Sell Sell p q s t h differ = grind (arith, ints, nat_tests)

-- what goes before goes before all that follows
key_trans : (i j k : ℕ) (a b c : Side) (p q r : ℤ) (s t u : ℕ) → before_key i j a b p q s t ≡ true → before_key j k b c q r t u ≡ true → before_key i k a c p r s u ≡ true
key_trans i j k Buy Buy Buy p q r s t u h h' = grind (arith, ints, nat_tests)
key_trans i j k Buy Buy Sell p q r s t u h h' = grind (arith, ints, nat_tests)
key_trans i j k Buy Sell Buy p q r s t u h h' = grind (arith, ints, nat_tests)
key_trans i j k Buy Sell Sell p q r s t u h h' = grind (arith, ints, nat_tests)
key_trans i j k Sell Buy Buy p q r s t u h h' = grind (arith, ints, nat_tests)
key_trans i j k Sell Buy Sell p q r s t u h h' = grind (arith, ints, nat_tests)
key_trans i j k Sell Sell Buy p q r s t u h h' = grind (arith, ints, nat_tests)
key_trans i j k Sell Sell Sell p q r s t u h h' = grind (arith, ints, nat_tests)

module _ (securities : List ℤ) where
  total : (x y : Resting) → goes_before securities y x ≡ false → y.stamp ≢ x.stamp → goes_before securities x y ≡ true
  total x y h differ = key_total (rank_of securities y.security) (rank_of securities x.security) y.side x.side y.price x.price y.stamp x.stamp h differ

  trans : (x y z : Resting) → goes_before securities x y ≡ true → goes_before securities y z ≡ true → goes_before securities x z ≡ true
  trans x y z h h' = key_trans (rank_of securities x.security) (rank_of securities y.security) (rank_of securities z.security) x.side y.side z.side x.price y.price z.price x.stamp y.stamp z.stamp h h'

  -- an order with a new stamp is placed
  pub in_order_placed : (x : Order) (ys : List Order) → Each (λ y. y.rest.stamp ≢ x.rest.stamp) ys → IsInOrder securities ys → IsInOrder securities (with_order securities x ys)
  in_order_placed x [] new h = (tt, tt)
  in_order_placed x (y ∷ ys) new h =
      let before : Order → Order → Bool = λ y z. goes_before securities y.rest z.rest in
      elim (cases_Bool (goes_before securities y.rest x.rest)) [
        | inl first ↦ rw first (each_placed before x (λ z. goes_before securities y.rest z.rest ≡ true) ys first h.0, in_order_placed x ys new.1 h.1)
        | inr behind ↦
            let ahead = total x.rest y.rest behind new.0 in
            rw behind ((ahead, each_weaker (λ z. goes_before securities y.rest z.rest ≡ true) (λ z. goes_before securities x.rest z.rest ≡ true) (λ z later. trans x.rest y.rest z.rest ahead later) ys h.0), h)
      ]

  -- orders are taken out
  pub in_order_filter : (p : Order → Bool) (ys : List Order) → IsInOrder securities ys → IsInOrder securities (filter p ys)
  in_order_filter p [] h = tt
  in_order_filter p (y ∷ ys) h = elim (p y) as (λ b. IsInOrder securities (cond b (y ∷ filter p ys) (filter p ys))) [
    | true ↦ (each_filter p (λ z. goes_before securities y.rest z.rest ≡ true) ys h.0, in_order_filter p ys h.1)
    | false ↦ in_order_filter p ys h.1
  ]

  -- an order gets another quantity
  module _ (x : Order) where
    abbrev pub Requantifies : Order → Type 0
    Requantifies z = same_name x.rest z.rest ≡ true → x.rest ≡ record z.rest { qty = x.rest.qty }

    before_renewed : (z : Order) (w : Resting) → Requantifies z → goes_before securities (renewed_order x z).rest w ≡ goes_before securities z.rest w
    before_renewed z w keeps = elim (cases_Bool (same_name x.rest z.rest)) [
      | inl named ↦ rw named (ap (λ (r : Resting). goes_before securities r w) (keeps named))
      | inr other ↦ rw other refl
    ]

    behind_renewed : (z : Order) (w : Resting) → Requantifies z → goes_before securities w (renewed_order x z).rest ≡ goes_before securities w z.rest
    behind_renewed z w keeps = elim (cases_Bool (same_name x.rest z.rest)) [
      | inl named ↦ rw named (ap (λ (r : Resting). goes_before securities w r) (keeps named))
      | inr other ↦ rw other refl
    ]

    each_behind : (y : Order) (ys : List Order) → Requantifies y → Each Requantifies ys → Each (λ z. goes_before securities y.rest z.rest ≡ true) ys
        → Each (λ z. goes_before securities (renewed_order x y).rest z.rest ≡ true) (renewed x ys)
    each_behind y [] here all h = tt
    each_behind y (z ∷ zs) here all h =
        (before_renewed y (renewed_order x z).rest here ∙ behind_renewed z y.rest all.0 ∙ h.0, each_behind y zs here all.1 h.1)

    pub in_order_renewed : (ys : List Order) → Each Requantifies ys → IsInOrder securities ys → IsInOrder securities (renewed x ys)
    in_order_renewed [] all h = tt
    in_order_renewed (y ∷ ys) all h = (each_behind y ys all.0 all.1 h.0, in_order_renewed ys all.1 h.1)
