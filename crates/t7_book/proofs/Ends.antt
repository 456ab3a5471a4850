-- The orders that an incoming order crosses stand in front of the others of their side.
use Rattle.std.proofs.Common.{◌≡◌, ℕ, ℤ, Bool, true, false, cond, List, [], ◌∷◌, ◌++◌, append-nil, refl, sym, ap, subst, ◌∙◌, inl, inr, arith}
use Rattle.std.specs.Prelude.{◌==◌, nat_lt, if◌then◌else◌}
use Rattle.std.specs.List.{filter}
use Rattle.std.specs.Ordering.{int_eq}
use Rattle.std.proofs.lemmas.Bool.{cases_Bool, and_parts, and_from}
use Rattle.std.proofs.lemmas.Bool.Decides.{Decides-int_eq, nat_tests}
use Rattle.std.proofs.lemmas.Int.{ints}
use Rattle.t7_base.specs.declared.ids.Side.{Side}
use Rattle.t7_base.specs.declared.ids.Side.TheVariants.{Buy, Sell}
use Rattle.t7_base.specs.declared.public.Resting.{Resting}
use Rattle.t7_levels.specs.Side.{from_first}
use Rattle.t7_book.specs.declared.order.Order.{Order}
use Rattle.t7_book.specs.declared.trade.Trade.{Trade}
use Rattle.t7_book.specs.Orders.{is_better, by_side, rank_of, goes_before, is_side}
use Rattle.t7_book.specs.Trades.{crosses, price_crosses, taken, trades}
use Rattle.t7_book.specs.Laws.{Each, IsInOrder}
use Rattle.t7_book.specs.Numbers.{is_listed, opposite}
use Rattle.t7_book.specs.Kept.{EndsAtFirst, is_on}
use Rattle.t7_book.proofs.Lists.{each_weaker}
use Rattle.t7_book.proofs.Numbered.{rank_once, Decides-side}

-- the order of the book on what it looks at
abbrev before_key : ℕ → ℕ → Side → Side → ℤ → ℤ → ℕ → ℕ → Bool
before_key i j a b p q s t = if i == j then by_side a b (if int_eq p q then nat_lt s t else is_better a p q) else nat_lt i j

-- what stands between two orders of a side is of that side
between_rank : (i j : ℕ) (a b : Side) (p q r : ℤ) (s t u : ℕ) → before_key i j a b p q s t ≡ true → before_key j i b a q r t u ≡ true → i ≡ j
between_rank i j Buy Buy p q r s t u h h' = grind (arith, nat_tests)
between_rank i j Buy Sell p q r s t u h h' = grind (arith, nat_tests)
between_rank i j Sell Buy p q r s t u h h' = grind (arith, nat_tests)
between_rank i j Sell Sell p q r s t u h h' = grind (arith, nat_tests)

between_side : (i j : ℕ) (a b : Side) (p q r : ℤ) (s t u : ℕ) → before_key i j a b p q s t ≡ true → before_key j i b a q r t u ≡ true → a ≡ b
between_side i j Buy Buy p q r s t u h h' = refl
between_side i j Buy Sell p q r s t u h h' = grind (arith, nat_tests)
between_side i j Sell Buy p q r s t u h h' = grind (arith, nat_tests)
between_side i j Sell Sell p q r s t u h h' = refl

-- at one side the better price stands in front
price_first : (i j : ℕ) (a b o : Side) (own q r : ℤ) (t u : ℕ) → i ≡ j → a ≡ b → before_key i j a b q r t u ≡ true → price_crosses o b own r ≡ true → price_crosses o a own q ≡ true
price_first i j Buy Buy Buy own q r t u i_j a_b h crossed = cc
price_first i j Buy Buy Sell own q r t u i_j a_b h crossed = grind (arith, ints, nat_tests)
price_first i j Buy Sell o own q r t u i_j a_b h crossed = absurd (cc)
price_first i j Sell Buy o own q r t u i_j a_b h crossed = absurd (cc)
price_first i j Sell Sell Buy own q r t u i_j a_b h crossed = grind (arith, ints, nat_tests)
price_first i j Sell Sell Sell own q r t u i_j a_b h crossed = cc

crossed_side : (o a : Side) (own q : ℤ) → price_crosses o a own q ≡ true → a ≡ opposite o
crossed_side Buy Buy own q crossed = absurd (cc)
crossed_side Buy Sell own q crossed = refl
crossed_side Sell Buy own q crossed = refl
crossed_side Sell Sell own q crossed = absurd (cc)

-- an order that is crossed is on the other side of the security
crossed_on : (x : Resting) (y : Order) → crosses x y.rest ≡ true → (y.rest.security ≡ x.security) × (y.rest.side ≡ opposite x.side)
crossed_on x y crossed =
    let parts = and_parts (int_eq x.security y.rest.security) (price_crosses x.side y.rest.side x.price y.rest.price) crossed in
    (sym ((Decides-int_eq x.security y.rest.security).0 parts.0), crossed_side x.side y.rest.side x.price y.rest.price parts.1)

pub off_side : (x : Resting) (y : Order) → is_on x.security (opposite x.side) y ≡ false → crosses x y.rest ≡ false
off_side x y off = elim (cases_Bool (crosses x y.rest)) [
  | inl crossed ↦
      let at = crossed_on x y crossed in
      let on = and_from (int_eq y.rest.security x.security) (is_side y.rest.side (opposite x.side)) ((Decides-int_eq y.rest.security x.security).1 at.0) ((Decides-side y.rest.side (opposite x.side)).1 at.1) in
      absurd (cc (on, off))
  | inr free ↦ free
]

filter_from : (p on : Order → Bool) → ((y : Order) → on y ≡ false → p y ≡ false) → (ys : List Order) → filter p (from_first on ys) ≡ filter p ys
filter_from p on off [] = refl
filter_from p on off (y ∷ ys) = elim (cases_Bool (on y)) [
  | inl here ↦ rw here refl
  | inr there ↦ rw (there, off y there) (filter_from p on off ys)
]

-- an order trades only with those from the first of the other side on
pub trades_from : (x : Resting) (ys : List Order) → trades x (from_first (is_on x.security (opposite x.side)) ys) ≡ trades x ys
trades_from x ys = ap (λ (us : List Order). taken us x.qty) (filter_from (λ y. crosses x y.rest) (is_on x.security (opposite x.side)) (off_side x) ys)

module _ (securities : List ℤ) (x : Resting) (listed : is_listed securities x.security ≡ true) where
  abbrev Goes : Order → Order → Type 0
  Goes y z = goes_before securities y.rest z.rest ≡ true

  abbrev On : Order → Type 0
  On y = (y.rest.security ≡ x.security) × (y.rest.side ≡ opposite x.side)

  abbrev In : Order → Type 0
  In y = is_listed securities y.rest.security ≡ true

  place_of : Order → ℕ
  place_of y = rank_of securities y.rest.security

  -- an order between two of the other side crosses where the one behind crosses
  crosses_too : (f z w : Order) → On f → In z → Goes f z → Goes z w → crosses x w.rest ≡ true → crosses x z.rest ≡ true
  crosses_too f z w on inside first second crossed =
      let at = crossed_on x w crossed in
      let i = rank_of securities x.security in
      let j = rank_of securities z.rest.security in
      let o = opposite x.side in
      let one : before_key i j o z.rest.side f.rest.price z.rest.price f.rest.stamp z.rest.stamp ≡ true =
      sym (ap (λ (s : ℤ). before_key (rank_of securities s) j f.rest.side z.rest.side f.rest.price z.rest.price f.rest.stamp z.rest.stamp) on.0
      ∙ ap (λ (s : Side). before_key i j s z.rest.side f.rest.price z.rest.price f.rest.stamp z.rest.stamp) on.1) ∙ first in
      let two : before_key j i z.rest.side o z.rest.price w.rest.price z.rest.stamp w.rest.stamp ≡ true =
      sym (ap (λ (s : ℤ). before_key j (rank_of securities s) z.rest.side w.rest.side z.rest.price w.rest.price z.rest.stamp w.rest.stamp) at.0
      ∙ ap (λ (s : Side). before_key j i z.rest.side s z.rest.price w.rest.price z.rest.stamp w.rest.stamp) at.1) ∙ second in
      let rank = between_rank i j o z.rest.side f.rest.price z.rest.price w.rest.price f.rest.stamp z.rest.stamp w.rest.stamp one two in
      let side = between_side i j o z.rest.side f.rest.price z.rest.price w.rest.price f.rest.stamp z.rest.stamp w.rest.stamp one two in
      let security = rank_once securities x.security z.rest.security listed inside rank in
      let parts = and_parts (int_eq x.security w.rest.security) (price_crosses x.side w.rest.side x.price w.rest.price) crossed in
      let price : price_crosses x.side o x.price w.rest.price ≡ true = sym (ap (λ (s : Side). price_crosses x.side s x.price w.rest.price) at.1) ∙ parts.1 in
      and_from (int_eq x.security z.rest.security) (price_crosses x.side z.rest.side x.price z.rest.price)
      ((Decides-int_eq x.security z.rest.security).1 security)
      (price_first j i z.rest.side o x.side x.price z.rest.price w.rest.price z.rest.stamp w.rest.stamp (sym rank) (sym side) two price)

  -- the first of the other side crosses where one behind crosses
  first_crosses : (f w : Order) → On f → Goes f w → crosses x w.rest ≡ true → crosses x f.rest ≡ true
  first_crosses f w on goes crossed =
      let at = crossed_on x w crossed in
      let i = rank_of securities x.security in
      let o = opposite x.side in
      let one : before_key i i o o f.rest.price w.rest.price f.rest.stamp w.rest.stamp ≡ true =
      sym (ap (λ (s : ℤ). before_key (rank_of securities s) (rank_of securities w.rest.security) f.rest.side w.rest.side f.rest.price w.rest.price f.rest.stamp w.rest.stamp) on.0
      ∙ ap (λ (s : Side). before_key i (rank_of securities w.rest.security) s w.rest.side f.rest.price w.rest.price f.rest.stamp w.rest.stamp) on.1
      ∙ ap (λ (s : ℤ). before_key i (rank_of securities s) o w.rest.side f.rest.price w.rest.price f.rest.stamp w.rest.stamp) at.0
      ∙ ap (λ (s : Side). before_key i i o s f.rest.price w.rest.price f.rest.stamp w.rest.stamp) at.1) ∙ goes in
      let parts = and_parts (int_eq x.security w.rest.security) (price_crosses x.side w.rest.side x.price w.rest.price) crossed in
      let price : price_crosses x.side o x.price w.rest.price ≡ true = sym (ap (λ (s : Side). price_crosses x.side s x.price w.rest.price) at.1) ∙ parts.1 in
      let own : price_crosses x.side o x.price f.rest.price ≡ true = price_first i i o o x.side x.price f.rest.price w.rest.price f.rest.stamp w.rest.stamp refl refl one price in
      and_from (int_eq x.security f.rest.security) (price_crosses x.side f.rest.side x.price f.rest.price)
      ((Decides-int_eq x.security f.rest.security).1 (sym on.0))
      (ap (λ (s : Side). price_crosses x.side s x.price f.rest.price) on.1 ∙ own)

  refuse : (a b : Bool) → (b ≡ true → a ≡ true) → a ≡ false → b ≡ false
  refuse a true too fails = absurd (cc (too refl, fails))
  refuse a false too fails = refl

  both : (P Q R : Order → Type 0) → ((z : Order) → P z → Q z → R z) → (ys : List Order) → Each P ys → Each Q ys → Each R ys
  both P Q R f [] first second = tt
  both P Q R f (z ∷ zs) first second = (f z first.0 second.0, both P Q R f zs first.1 second.1)

  behind : (f : Order) → On f → (zs : List Order) → Each (Goes f) zs → IsInOrder securities zs → Each In zs → EndsAtFirst (λ y. crosses x y.rest) zs
  behind f on [] goes order inside = tt
  behind f on (z ∷ zs) goes order inside = (
    λ fails. each_weaker (Goes z) (λ w. crosses x w.rest ≡ false) (λ w next. refuse (crosses x z.rest) (crosses x w.rest) (crosses_too f z w on inside.0 goes.0 next) fails) zs order.0,
    behind f on zs goes.1 order.1 inside.1,
  )

  pub ends : (ys : List Order) → IsInOrder securities ys → Each In ys → EndsAtFirst (λ y. crosses x y.rest) (from_first (is_on x.security (opposite x.side)) ys)
  ends [] order inside = tt
  ends (y ∷ ys) order inside = elim (cases_Bool (is_on x.security (opposite x.side) y)) [
    | inl here ↦
        let parts = and_parts (int_eq y.rest.security x.security) (is_side y.rest.side (opposite x.side)) here in
        let on : On y = ((Decides-int_eq y.rest.security x.security).0 parts.0, (Decides-side y.rest.side (opposite x.side)).0 parts.1) in
        rw here (
          λ fails. each_weaker (Goes y) (λ w. crosses x w.rest ≡ false) (λ w next. refuse (crosses x y.rest) (crosses x w.rest) (first_crosses y w on next) fails) ys order.0,
          behind y on ys order.0 order.1 inside.1,
        )
    | inr there ↦ rw there (ends ys order.1 inside.1)
  ]

filter_nothing : (p : Order → Bool) (ys : List Order) → Each (λ z. p z ≡ false) ys → filter p ys ≡ []
filter_nothing p [] each = refl
filter_nothing p (y ∷ ys) each = rw each.0 (filter_nothing p ys each.1)

-- where an order isn't crossed, the trades so far are all
pub ended : (p : Order → Bool) (found total : List Trade) (ys : List Order) (y : Order) (rest : List Order) (n : ℕ) → found ++ taken (filter p ys) n ≡ total → ys ≡ y ∷ rest → p y ≡ false → EndsAtFirst p ys → found ≡ total
ended p found total ys y rest n all is fails ends_at =
    let here = subst (EndsAtFirst p) is ends_at in
    let nothing : filter p ys ≡ [] = ap (filter p) is ∙ ap (λ (b : Bool). cond b (y ∷ filter p rest) (filter p rest)) fails ∙ filter_nothing p rest (here.0 fails) in
    sym (append-nil found) ∙ ap (λ (zs : List Order). found ++ taken zs n) (sym nothing) ∙ all
