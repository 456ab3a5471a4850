-- Lemmas on trades.
use Rattle.std.proofs.Common.{◌≡◌, ◌≢◌, ◌≤◌, ◌-◌, zero, suc, ℕ, ◌+◌, ℤ, List, [], ◌∷◌, ◌++◌, refl, ap, sym, ◌∙◌, Bool, true, false, not, cond, ◌&&◌, length, Some, inl, inr, arith}
use Rattle.std.specs.Prelude.{◌==◌}
use Rattle.std.specs.Ordering.{int_eq}
use Rattle.std.proofs.lemmas.Bool.{and_parts, and_right, and_from, cases_Bool, eq-eqb}
use Rattle.std.proofs.lemmas.Bool.Decides.{Decides-int_eq}
use Rattle.t7_book.proofs.ListLemmas.{length_filter_le}
use Rattle.t7_base.specs.declared.ids.Side.{Side}
use Rattle.t7_base.specs.declared.ids.Side.TheVariants.{Buy, Sell}
use Rattle.t7_book.specs.declared.order.Order.{Order}
use Rattle.t7_book.specs.declared.trade.Trade.{Trade}
use Rattle.std.specs.List.{filter, find}
use Rattle.t7_base.specs.declared.public.Resting.{Resting}
use Rattle.t7_book.specs.Orders.{same_name, is_side, without}
use Rattle.t7_book.specs.Trades.{taken, traded, trades, crosses, price_crosses, last_price}

-- where nothing is wanted there is no trade
pub taken-zero : (orders : List Order) → taken orders 0 ≡ []
taken-zero [] = refl
taken-zero (y ∷ ys) = refl

-- one more trade
pub traded_push : (ts : List Trade) (t : Trade) → traded (ts ++ t ∷ []) ≡ traded ts + t.qty
traded_push [] t = omega arith
traded_push (s ∷ ts) t = omega (arith, traded_push ts t)

pub last_price_push : (price : ℤ) (ts : List Trade) (t : Trade) → last_price price (ts ++ t ∷ []) ≡ t.maker.rest.price
last_price_push price [] t = refl
last_price_push price (s ∷ ts) t = last_price_push s.maker.rest.price ts t

pub not_empty_push : (ts : List Trade) (t : Trade) → ts ++ t ∷ [] ≢ []
not_empty_push [] t e = cc
not_empty_push (s ∷ ts) t e = cc

-- no more is traded than is wanted
pub traded_taken : (orders : List Order) (wanted : ℕ) → traded (taken orders wanted) ≤ wanted
traded_taken [] wanted = omega arith
traded_taken (y ∷ ys) zero = omega arith
traded_taken (y ∷ ys) (suc n) = omega (arith, traded_taken ys (suc n - y.rest.qty))

-- an order of the same side is no trading partner, so taking it out changes no trade
same_side_true : (a b : Side) → is_side a b ≡ true → a ≡ b
same_side_true Buy Buy same = refl
same_side_true Buy Sell same = cc
same_side_true Sell Buy same = cc
same_side_true Sell Sell same = refl

no_price_crosses : (a b : Side) (p q : ℤ) → a ≡ b → price_crosses a b p q ≡ false
no_price_crosses Buy Buy p q same = refl
no_price_crosses Buy Sell p q same = cc
no_price_crosses Sell Buy p q same = cc
no_price_crosses Sell Sell p q same = refl

not_crossed : (x y z : Resting) → y.side ≡ x.side → same_name y z ≡ true → crosses x z ≡ false
not_crossed x y z side same =
    let parts = and_parts (int_eq z.security y.security) (is_side z.side y.side && (z.stamp == y.stamp)) same in
    let sides = same_side_true z.side y.side (and_parts (is_side z.side y.side) (z.stamp == y.stamp) parts.1).0 in
    and_right (int_eq x.security z.security) (price_crosses x.side z.side x.price z.price) (no_price_crosses x.side z.side x.price z.price (sym (sides ∙ side)))

filter_dropped : (gone : Bool) (p : Order → Bool) (z : Order) (zs : List Order) → (gone ≡ true → p z ≡ false) → filter p (cond (not gone) (z ∷ zs) zs) ≡ filter p (z ∷ zs)
filter_dropped true p z zs fails = rw (fails refl) refl
filter_dropped false p z zs fails = refl

crossed_without : (x y : Resting) (orders : List Order) → y.side ≡ x.side → filter (λ z. crosses x z.rest) (without y orders) ≡ filter (λ z. crosses x z.rest) orders
crossed_without x y [] side = refl
crossed_without x y (z ∷ zs) side =
    filter_dropped (same_name y z.rest) (λ z. crosses x z.rest) z (without y zs) (not_crossed x y z.rest side)
    ∙ ap (λ (ys : List Order). cond (crosses x z.rest) (z ∷ ys) ys) (crossed_without x y zs side)

pub trades_without : (x y : Resting) (orders : List Order) → y.side ≡ x.side → trades x (without y orders) ≡ trades x orders
trades_without x y orders side = ap (λ (ys : List Order). taken ys x.qty) (crossed_without x y orders side)

-- an order that is found has its own name, so without it the list is shorter
same_side_refl : (a : Side) → is_side a a ≡ true
same_side_refl Buy = refl
same_side_refl Sell = refl

pub same_name_refl : (x : Resting) → same_name x x ≡ true
same_name_refl x = and_from _ _ ((Decides-int_eq x.security x.security).1 refl) (and_from _ _ (same_side_refl x.side) (eq-eqb x.stamp x.stamp refl))

cond_le : (b : Bool) (y : Order) (ys : List Order) (n : ℕ) → length ys + 1 ≤ n → length (cond b (y ∷ ys) ys) ≤ n
cond_le true y ys n le = omega arith
cond_le false y ys n le = omega arith

pub length_without : (p : Order → Bool) (y : Order) (orders : List Order) → find p orders ≡ Some y → length (without y.rest orders) + 1 ≤ length orders
length_without p y [] found = cc
length_without p y (z ∷ zs) found = elim (cases_Bool (p z)) [
  | inl passes ↦
      let same : z ≡ y = let e : Some z ≡ Some y = rw passes at found in cc in
      let named : same_name y.rest z.rest ≡ true = rw same (same_name_refl y.rest) in
      let shorter = length_filter_le (λ v. not (same_name y.rest v.rest)) zs in
      rw named (omega (arith, shorter))
  | inr fails ↦
      let rest = length_without p y zs (rw fails at found) in
      let le = cond_le (not (same_name y.rest z.rest)) z (without y.rest zs) (length zs) rest in
      omega (arith, le)
]
