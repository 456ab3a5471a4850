-- Lemmas on the pairs of a command.
use Rattle.std.proofs.Common.{◌≡◌, ℕ, zero, suc, ◌-◌, ℤ, true, false, not, cond, List, [], ◌∷◌, ◌++◌, length, map, refl, ap, sym, ◌∙◌, arith, ◌≤◌, append-nil}
use Rattle.t7_base.specs.declared.public.Public.{Public}
use Rattle.t7_book.specs.declared.order.Order.{Order}
use Rattle.t7_book.specs.declared.trade.Trade.{Trade}
use Rattle.t7_base.specs.declared.public.Public.TheVariants.{Add, Delete}
use Rattle.t7_book.specs.Orders.{with_left, with_order, without, renewed, same_name}
use Rattle.t7_book.proofs.ListLemmas.{length_filter_le}
use Rattle.t7_book.proofs.Lists.{length_renewed}
use Rattle.t7_book.specs.Trades.{traded, is_used_up, after_trade, after_trades, execution}
use Rattle.t7_book.specs.Steps.{Effect, messages, list_after, executions, remainder, crossing, arrival, change, deletions, summary}

pub messages_append : (a b : List Effect) → messages (a ++ b) ≡ messages a ++ messages b
messages_append [] b = refl
messages_append (s ∷ a) b = ap (λ (t : List Public). s.0 ∷ t) (messages_append a b)

pub list_after_append : (a b : List Effect) (orders : List Order) → list_after (a ++ b) orders ≡ list_after b (list_after a orders)
list_after_append [] b orders = refl
list_after_append (s ∷ a) b orders = list_after_append a b s.1

pub messages_executions : (ts : List Trade) (orders : List Order) → messages (executions ts orders) ≡ map execution ts
messages_executions [] orders = refl
messages_executions (t ∷ ts) orders = ap (λ (m : List Public). execution t ∷ m) (messages_executions ts (after_trade t orders))

pub list_after_executions : (ts : List Trade) (orders : List Order) → list_after (executions ts orders) orders ≡ after_trades ts orders
list_after_executions [] orders = refl
list_after_executions (t ∷ ts) orders = list_after_executions ts (after_trade t orders)

-- the messages don't depend on the lists beside them
pub messages_remainder : (securities : List ℤ) (x : Order) (left : ℕ) (orders : List Order) → messages (remainder securities x left orders) ≡ messages (remainder [] x left [])
messages_remainder securities x zero orders = refl
messages_remainder securities x (suc n) orders = refl

pub messages_crossing : (securities : List ℤ) (x : Order) (ts : List Trade) (orders : List Order)
    → messages (crossing securities x ts orders) ≡ summary x ts ∷ (map execution ts ++ messages (remainder [] x (x.rest.qty - traded ts) []))
messages_crossing securities x ts orders =
    let left = x.rest.qty - traded ts in
    ap (λ (m : List Public). summary x ts ∷ m)
    (messages_append (executions ts orders) (remainder securities x left (after_trades ts orders))
    ∙ ap (λ (m : List Public). m ++ messages (remainder securities x left (after_trades ts orders))) (messages_executions ts orders)
    ∙ ap (λ (m : List Public). map execution ts ++ m) (messages_remainder securities x left (after_trades ts orders)))

pub messages_arrival : (securities : List ℤ) (x : Order) (ts : List Trade) (orders : List Order) → messages (arrival securities x ts orders) ≡ messages (arrival [] x ts [])
messages_arrival securities x [] orders = refl
messages_arrival securities x (t ∷ ts) orders = messages_crossing securities x (t ∷ ts) orders ∙ sym (messages_crossing [] x (t ∷ ts) [])

-- the list of the last pair of a crossing order
pub list_after_crossing : (securities : List ℤ) (x : Order) (ts : List Trade) (orders any : List Order)
    → list_after (crossing securities x ts orders) any ≡ list_after (remainder securities x (x.rest.qty - traded ts) (after_trades ts orders)) (after_trades ts orders)
list_after_crossing securities x ts orders any =
    let rest = remainder securities x (x.rest.qty - traded ts) (after_trades ts orders) in
    list_after_append (executions ts orders) rest orders ∙ ap (λ (o : List Order). list_after rest o) (list_after_executions ts orders)

-- the messages of a crossing order, of which this much is left
pub crossing_some : (x : Order) (ts : List Trade) (left : ℕ) → 1 ≤ left → left ≡ x.rest.qty - traded ts
    → messages (crossing [] x ts []) ≡ summary x ts ∷ (map execution ts ++ Add (with_left x left).rest ∷ [])
crossing_some x ts zero positive is = absurd (omega arith)
crossing_some x ts (suc n) positive is =
    messages_crossing [] x ts [] ∙ ap (λ (left : ℕ). summary x ts ∷ (map execution ts ++ messages (remainder [] x left []))) (sym is)

-- and of one that is used up
pub crossing_none : (x : Order) (ts : List Trade) → x.rest.qty ≡ traded ts → messages (crossing [] x ts []) ≡ summary x ts ∷ map execution ts
crossing_none x ts is =
    let none : x.rest.qty - traded ts ≡ 0 = omega arith in
    messages_crossing [] x ts [] ∙ ap (λ (left : ℕ). summary x ts ∷ (map execution ts ++ messages (remainder [] x left []))) none
    ∙ ap (λ (m : List Public). summary x ts ∷ m) (append-nil (map execution ts))

-- the list that a crossing order leaves
pub settled_some : (securities : List ℤ) (x : Order) (ts : List Trade) (orders : List Order) (left : ℕ) → 1 ≤ left → left ≡ x.rest.qty - traded ts
    → list_after (crossing securities x ts orders) orders ≡ with_order securities (with_left x left) (after_trades ts orders)
settled_some securities x ts orders zero positive is = absurd (omega arith)
settled_some securities x ts orders (suc n) positive is =
    list_after_crossing securities x ts orders orders ∙ ap (λ (left : ℕ). list_after (remainder securities x left (after_trades ts orders)) (after_trades ts orders)) (sym is)

pub settled_none : (securities : List ℤ) (x : Order) (ts : List Trade) (orders : List Order) → x.rest.qty ≡ traded ts
    → list_after (crossing securities x ts orders) orders ≡ after_trades ts orders
settled_none securities x ts orders is =
    let none : x.rest.qty - traded ts ≡ 0 = omega arith in
    list_after_crossing securities x ts orders orders ∙ ap (λ (left : ℕ). list_after (remainder securities x left (after_trades ts orders)) (after_trades ts orders)) none

pub messages_deletions : (gone orders others : List Order) → messages (deletions gone orders) ≡ messages (deletions gone others)
messages_deletions [] orders others = refl
messages_deletions (y ∷ ys) orders others = ap (λ (m : List Public). Delete y.rest ∷ m) (messages_deletions ys (without y.rest orders) (without y.rest others))

-- a modification gives its own first messages, and then those of a new order
pub messages_change : (securities : List ℤ) (y x : Order) (ts : List Trade) (orders : List Order) → messages (change securities y x ts orders) ≡ messages (change [] y x ts [])
messages_change securities y x [] orders = refl
messages_change securities y x (t ∷ ts) orders = ap (λ (m : List Public). Delete y.rest ∷ m) (messages_arrival securities x (t ∷ ts) orders)

-- and leaves the list that a new order leaves
pub list_after_change : (securities : List ℤ) (y x : Order) (ts : List Trade) (orders any : List Order) → list_after (change securities y x ts orders) any ≡ list_after (arrival securities x ts orders) orders
list_after_change securities y x [] orders any = refl
list_after_change securities y x (t ∷ ts) orders any = refl

-- trades leave no more orders than there were
pub length_after_trade : (t : Trade) (orders : List Order) → length (after_trade t orders) ≤ length orders
length_after_trade t orders =
    let x = with_left t.maker (t.maker.rest.qty - t.qty) in
    let fewer = length_filter_le (λ (z : Order). not (same_name t.maker.rest z.rest)) orders in
    let same = length_renewed x orders in
    elim (is_used_up t) as (λ b. length (cond b (without t.maker.rest orders) (renewed x orders)) ≤ length orders) [ true ↦ fewer | false ↦ omega (arith, same) ]

pub length_after_trades : (ts : List Trade) (orders : List Order) → length (after_trades ts orders) ≤ length orders
length_after_trades [] orders = omega arith
length_after_trades (t ∷ ts) orders =
    let one = length_after_trade t orders in
    let rest = length_after_trades ts (after_trade t orders) in
    omega arith
