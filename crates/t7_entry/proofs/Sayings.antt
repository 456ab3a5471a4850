-- The responses of commands may be written.
use Rattle.std.proofs.Common.{◌≡◌, ◌≢◌, ℕ, zero, suc, ◌+◌, ◌-◌, ◌<◌, ◌≤◌, ◌==◌, ◌^◌, ℤ, pos, negsuc, Bool, true, false, not, cond, ◌&&◌, inl, inr, List, [], ◌∷◌, length, Option, Some, None, refl, sym, ap, ◌∙◌, subst, arith}
use Rattle.std.specs.Prelude.{Contains, ◌-ℤ◌, ◌≤ℤ◌}
use Rattle.std.specs.List.{All, filter, find}
use Rattle.std.proofs.lemmas.List.Elements.{All-append, All-cons, All-head, All-nil, All-tail}
use Rattle.std.proofs.lemmas.Bool.{and_parts, cases_Bool, eqb-true}
use Rattle.std.proofs.lemmas.Int.{ints}
use Rattle.t7_base.specs.Listing.{IsListing, Listing}
use Rattle.t7_base.specs.Ranges.{IsMoment, IsPrice}
use Rattle.t7_base.specs.declared.ids.Side.{Side}
use Rattle.t7_base.specs.declared.ids.Side.TheVariants.{Buy, Sell}
use Rattle.t7_fields.specs.declared.writer.Scalar.TheVariants as number
use Rattle.t7_fields.specs.Writing.{IsOrdinary}
use Rattle.t7_eti.specs.declared.response.Kept.{Kept}
use Rattle.t7_eti.specs.declared.response.Kept.TheVariants as kept
use Rattle.t7_eti.specs.declared.response.Response.TheVariants as response
use Rattle.t7_eti.specs.Saying.{EachOrdinary, kept_fields, response_fields, side_number}
use Rattle.t7_book.specs.declared.order.Order.{Order}
use Rattle.t7_book.specs.declared.trade.Trade.{Trade}
use Rattle.t7_book.specs.declared.command.Command.{Command}
use Rattle.t7_book.specs.declared.command.Command.TheVariants as command
use Rattle.t7_book.specs.declared.command.BookRefusal.TheVariants.{UnknownOrder}
use Rattle.t7_book.specs.declared.command.Note.TheVariants.{Cleared}
use Rattle.t7_book.specs.Orders.{BookState, empty_book, is_of, is_order, order_of, roster_of, same_name, without}
use Rattle.t7_book.specs.Commands.{IsForProduct, change_refusal, changed_order, delete_refusal, refusal, keeps_priority, new_order, new_stamp}
use Rattle.t7_book.specs.Trades.{crosses, fills, taken, trades}
use Rattle.t7_book.specs.Steps.{book_after, change_notes, changed_stamp, cleared, stamp_after_change}
use Rattle.t7_book.specs.Trace.{AreAccepted, AreAcceptedFrom}
use Rattle.t7_book.specs.Laws.{Each, IsWhole}
use Rattle.t7_book.proofs.Fit.{Known}
use Rattle.t7_book.proofs.Lefts.{fit_next}
use Rattle.t7_book.proofs.RunningDay.{BookFits}
use Rattle.t7_book.proofs.ListLemmas.{length_filter_le}
use Rattle.t7_book.proofs.Lists.{each_at, each_filter, each_weaker, found_in}
use Rattle.t7_orders.specs.Answers.{Stored, answers_of, clearings, executions, opposite, stored, stored_from}
use Rattle.t7_entry.specs.Tellable.{CanBeTold, IsClient, IsTellable}
use Rattle.t7_entry.proofs.Marks.{Brings, Marked, marked_next}

-- what the numbers of an order in a day's book keep
abbrev IsNumbered : ℕ → ℕ → ℤ → ℕ → Type 0
IsNumbered owner id price stamp = (id ≤ 200_000) × IsPrice price × (stamp ≤ 2 ^ 62 + 200_000)

-- the counters of a book, when so many commands come at most
pub record HasRoom (book : BookState) (more : ℕ) : Type 0 where
  pub ids : book.last_id + more ≤ 200_000
  pub stamps : book.last_stamp + more ≤ 2 ^ 62 + 200_000

stamp_kept : (book : BookState) (found : Option Order) (moment : ℕ) (price : ℤ) (qty more : ℕ) → IsMoment moment → book.last_stamp + suc more ≤ 2 ^ 62 + 200_000
    → more ≤ 200_000 → stamp_after_change book found moment price qty + more ≤ 2 ^ 62 + 200_000
stamp_kept book None moment price qty more now room few = omega arith
stamp_kept book (Some y) moment price qty more now room few =
    elim (keeps_priority y price qty) as (λ b. cond b book.last_stamp (new_stamp book moment) + more ≤ 2 ^ 62 + 200_000) [ true ↦ omega arith | false ↦ omega arith ]

room_next : (book : BookState) (c : Command) (more : ℕ) → IsTellable c → HasRoom book (suc more) → HasRoom (book_after book c) more
room_next book (command.New moment session security side price qty client) more tell room =
    let ids = room.ids in let stamps = room.stamps in let now = tell.0 in record { ids = omega arith; stamps = omega arith }
room_next book (command.Modify moment session order price qty client) more tell room =
    let ids = room.ids in let stamps = room.stamps in
    record { ids = omega arith; stamps = stamp_kept book (order_of book.orders session order) moment price qty more tell.0 stamps (omega arith) }
room_next book (command.Delete moment session order client) more tell room = let ids = room.ids in let stamps = room.stamps in record { ids = omega arith; stamps = omega arith }
room_next book (command.DeleteAll moment session security) more tell room = let ids = room.ids in let stamps = room.stamps in record { ids = omega arith; stamps = omega arith }
room_next book (command.Clear moment security) more tell room = let ids = room.ids in let stamps = room.stamps in record { ids = omega arith; stamps = omega arith }

brought : (book : BookState) (c : Command) (more : ℕ) → IsTellable c → HasRoom book (suc more) → Brings IsNumbered book c
brought book (command.New moment session security side price qty client) more tell room =
    let ids = room.ids in let stamps = room.stamps in let now = tell.0 in (omega arith, tell.1, omega arith)
brought book (command.Modify moment session order price qty client) more tell room =
    let stamps = room.stamps in let now = tell.0 in λ owner id old was p. (p.0, tell.1, omega arith)
brought book (command.Delete moment session order client) more tell room = tt
brought book (command.DeleteAll moment session security) more tell room = tt
brought book (command.Clear moment security) more tell room = tt

-- numbers that are ordinary
not_greatest : (n m : ℕ) → n < m → n ≢ m
not_greatest n m less = λ e. omega arith

positive : (z : ℤ) (n : ℕ) → pos 0 ≤ℤ z → z ≢ negsuc n
positive (pos m) n le = λ e. let f : pos m ≡ negsuc n = e in cc
positive (negsuc m) n le = absurd (grind (arith, ints))

price_ordinary : (z : ℤ) → IsPrice z → z ≢ negsuc 9_223_372_036_854_775_807
price_ordinary z range = λ e. let low = subst IsPrice e range in absurd (grind (arith, ints, low))

less_known : (total left : ℕ) → left ≤ total → pos 0 ≤ℤ (pos total -ℤ pos left)
less_known total left le = grind (arith, ints)

abbrev Says : Kept → Type 0
Says what = EachOrdinary (response_fields (response.Kept 0 what))

new_said : (order client stamp : ℕ) → order ≤ 200_000 → IsClient client → stamp ≤ 2 ^ 62 + 200_000 → Says (kept.New order client stamp)
unfolding response_fields kept_fields IsOrdinary
new_said order client stamp few known early =
    (tt, (not_greatest order _ (omega arith), (not_greatest client _ known, (not_greatest stamp _ (omega arith), tt))))

changed_said : (order client stamp : ℕ) → order ≤ 200_000 → IsClient client → stamp ≤ 2 ^ 62 + 200_000 → Says (kept.Changed order client stamp)
unfolding response_fields kept_fields IsOrdinary
changed_said order client stamp few known early =
    (tt, (not_greatest order _ (omega arith), (not_greatest client _ known, (not_greatest stamp _ (omega arith), tt))))

deleted_said : (order client : ℕ) → order ≤ 200_000 → IsClient client → Says (kept.Deleted order client)
unfolding response_fields kept_fields IsOrdinary
deleted_said order client few known = (tt, (not_greatest order _ (omega arith), (not_greatest client _ known, tt)))

all_said : (security : ℤ) (count : ℕ) → pos 1 ≤ℤ security → count ≤ 20_000 → Says (kept.DeletedAll security count)
unfolding response_fields kept_fields IsOrdinary
all_said security count some few = (tt, (positive security _ (grind (arith, ints)), (not_greatest count _ (omega arith), tt)))

cleared_said : (security : ℤ) (count : ℕ) → pos 1 ≤ℤ security → count ≤ 20_000 → Says (kept.Cleared security count)
unfolding response_fields kept_fields IsOrdinary
cleared_said security count some few = (tt, (positive security _ (grind (arith, ints)), (not_greatest count _ (omega arith), tt)))

side_ordinary : (side : Side) → IsOrdinary (number.Byte (side_number side))
unfolding IsOrdinary side_number
side_ordinary Buy = not_greatest 1 _ (omega arith)
side_ordinary Sell = not_greatest 2 _ (omega arith)

exec_said : (order : ℕ) (side : Side) (leaves total qty : ℕ) (price : ℤ) → order ≤ 200_000 → leaves ≤ total → IsPrice price
    → Says (kept.Exec order side (pos leaves) (pos total -ℤ pos leaves) qty price)
unfolding response_fields kept_fields IsOrdinary
exec_said order side leaves total qty price few within range = (
  tt,
  (
    not_greatest order _ (omega arith),
    (
      positive (pos leaves) _ (grind (arith, ints)),
      (
        positive (pos total -ℤ pos leaves) _ (less_known total leaves within),
        (positive (pos qty) _ (grind (arith, ints)), (price_ordinary price range, (side_ordinary side, tt))),
      ),
    ),
  ),
)

-- the makers of trades, as they stood in the book
abbrev AreGood : List Trade → Type 0
AreGood [] = Unit {0}
AreGood (t ∷ ts) = (Marked IsNumbered t.maker × IsWhole t.maker) × AreGood ts

good_taken : (orders : List Order) (wanted : ℕ) → Each (Marked IsNumbered) orders → Each IsWhole orders → AreGood (taken orders wanted)
good_taken [] wanted marked whole = tt
good_taken (y ∷ ys) zero marked whole = tt
good_taken (y ∷ ys) (suc n) marked whole = ((marked.0, whole.0), good_taken ys (suc n - y.rest.qty) marked.1 whole.1)

good_trades : (x : Order) (orders : List Order) → Each (Marked IsNumbered) orders → Each IsWhole orders → AreGood (trades x.rest orders)
good_trades x orders marked whole =
    good_taken (filter (λ y. crosses x.rest y.rest) orders) x.rest.qty (each_filter (λ y. crosses x.rest y.rest) (Marked IsNumbered) orders marked) (each_filter (λ y. crosses x.rest y.rest) IsWhole orders whole)

said_first : (session : ℕ) (what : Kept) (rest : List Stored) → Says what → All CanBeTold rest → All CanBeTold ((session, what) ∷ rest)
said_first session what rest said all = All-cons CanBeTold (session, what) rest said all

fills_said : (session order : ℕ) (ts : List Trade) (total left : ℕ) → order ≤ 200_000 → left ≤ total → AreGood ts → All CanBeTold (executions session order (fills ts total left))
fills_said session order [] total left few le good = All-nil CanBeTold
fills_said session order (t ∷ ts) total left few le good =
    let maker = good.0.0 in
    let within = good.0.1.within in
    let rest = fills_said session order ts total (left - t.qty) few (omega arith) good.1 in
    let last = executions session order (fills ts total (left - t.qty)) in
    let taker : Kept = kept.Exec order (opposite t.maker.rest.side) (pos (left - t.qty)) (pos total -ℤ pos (left - t.qty)) t.qty t.maker.rest.price in
    let made : Kept = kept.Exec t.maker.id t.maker.rest.side (pos (t.maker.rest.qty - t.qty)) (pos t.maker.total -ℤ pos (t.maker.rest.qty - t.qty)) t.qty t.maker.rest.price in
    said_first session taker ((t.maker.owner, made) ∷ last) (exec_said order (opposite t.maker.rest.side) (left - t.qty) total t.qty t.maker.rest.price few (omega arith) maker.1)
    (said_first t.maker.owner made last (exec_said t.maker.id t.maker.rest.side (t.maker.rest.qty - t.qty) t.maker.total t.qty t.maker.rest.price maker.0 (omega arith) maker.1) rest)

clearings_said : (sessions : List ℕ) (security : ℤ) (orders : List Order) → pos 1 ≤ℤ security → length orders ≤ 20_000 → All CanBeTold (clearings security (cleared sessions security orders))
clearings_said [] security orders some few = All-nil CanBeTold
clearings_said (s ∷ sessions) security orders some few =
    let rest = clearings_said sessions security orders some few in
    let count = length (filter (is_of s security) orders) in
    let le = length_filter_le (is_of s security) orders in
    elim (count == 0) as (λ b. All CanBeTold (clearings security (cond b (cleared sessions security orders) (Cleared s count ∷ cleared sessions security orders)))) [
      | true ↦ rest
      | false ↦ said_first s (kept.Cleared security count) (clearings security (cleared sessions security orders)) (cleared_said security count some (omega (arith, le, few))) rest
    ]

and_first : (a b : Bool) → (a && b) ≡ true → a ≡ true
and_first a b is = (and_parts a b is).0

-- what is found passes
found_passes : (p : Order → Bool) (y : Order) (orders : List Order) → find p orders ≡ Some y → p y ≡ true
found_passes p y [] found = absurd (let e : None ≡ Some y = found in cc)
found_passes p y (z ∷ zs) found = elim (cases_Bool (p z)) [
  | inl passes ↦ (let e : Some z ≡ Some y = rw passes at found in let same : z ≡ y = cc in ap p (sym same) ∙ passes)
  | inr fails ↦ found_passes p y zs (rw fails at found)
]

-- what a day's book keeps when so many commands come at most
pub record IsGood (book : BookState) (more : ℕ) : Type 0 where
  pub fits : BookFits book
  pub marked : Each (Marked IsNumbered) book.orders
  pub room : HasRoom book more

whole_orders : (book : BookState) → BookFits book → Each IsWhole book.orders
whole_orders book fits = each_weaker (Known book.roster book.last_stamp) IsWhole (λ y known. known.whole) book.orders fits.known

change_said : (book : BookState) (found : Option Order) (session order moment : ℕ) (price : ℤ) (qty client more : ℕ) → IsGood book (suc more) → order_of book.orders session order ≡ found
    → change_refusal found qty ≡ None → IsMoment moment → IsPrice price → IsClient client
    → All CanBeTold ((session, kept.Changed order client (changed_stamp book found moment price qty)) ∷ executions session order (change_notes book found moment price qty))
change_said book None session order moment price qty client more good found allowed now range known = absurd (let e : Some UnknownOrder ≡ None = allowed in cc)
change_said book (Some y) session order moment price qty client more good found allowed now range known =
    let at = found_in (is_order session order) y book.orders found in
    let mark = each_at (Marked IsNumbered) y book.orders good.marked at in
    let whole = whole_orders book good.fits in
    let id : order ≤ 200_000 = subst (λ n. n ≤ 200_000) (found_id y book.orders found) mark.0 in
    let stamps = good.room.stamps in
    let x = changed_order y price qty (new_stamp book moment) in
    let rest = without y.rest book.orders in
    let others = λ (P : Order → Type 0) (all : Each P book.orders). each_filter (λ z. not (same_name y.rest z.rest)) P book.orders all in
    said_first session (kept.Changed order client (changed_stamp book (Some y) moment price qty)) (executions session order (change_notes book (Some y) moment price qty))
    (changed_said order client (changed_stamp book (Some y) moment price qty) id known
    (elim (keeps_priority y price qty) as (λ b. cond b y.rest.stamp (new_stamp book moment) ≤ 2 ^ 62 + 200_000) [ true ↦ mark.2 | false ↦ omega arith ]))
    (elim (keeps_priority y price qty) as (λ b. All CanBeTold (executions session order (cond b [] (fills (trades x.rest rest) qty x.rest.qty)))) [
      | true ↦ All-nil CanBeTold
      | false ↦ fills_said session order (trades x.rest rest) qty x.rest.qty id (omega arith) (good_trades x rest (others (Marked IsNumbered) good.marked) (others IsWhole whole))
    ])
  where
    found_id : (y : Order) (orders : List Order) → find (is_order session order) orders ≡ Some y → y.id ≡ order
    found_id y orders found = eqb-true y.id order (and_first _ _ (found_passes (is_order session order) y orders found))

step_said : (book : BookState) (c : Command) (more : ℕ) → ((z : ℤ) → Contains book.roster.securities z → pos 1 ≤ℤ z) → IsGood book (suc more) → IsForProduct book.roster c → refusal book c ≡ None → IsTellable c
    → All CanBeTold (answers_of book c)
step_said book (command.New moment session security side price qty client) more some good product allowed tell =
    let x = new_order book moment session security side price qty in
    let ids = good.room.ids in let stamps = good.room.stamps in let now = tell.0 in
    said_first session (kept.New (book.last_id + 1) client (new_stamp book moment)) (executions session (book.last_id + 1) (fills (trades x.rest book.orders) qty qty)) (new_said (book.last_id + 1) client (new_stamp book moment) (omega arith) tell.2 (omega arith))
    (fills_said session (book.last_id + 1) (trades x.rest book.orders) qty qty (omega arith) (omega arith) (good_trades x book.orders good.marked (whole_orders book good.fits)))
step_said book (command.Modify moment session order price qty client) more some good product allowed tell =
    change_said book (order_of book.orders session order) session order moment price qty client more good refl allowed tell.0 tell.1 tell.2
step_said book (command.Delete moment session order client) more some good product allowed tell =
    said_first session (kept.Deleted order client) [] (deleted_said order client (by_found (order_of book.orders session order) refl allowed) tell) (All-nil CanBeTold)
  where
    by_found : (found : Option Order) → order_of book.orders session order ≡ found → delete_refusal found ≡ None → order ≤ 200_000
    by_found None is none = absurd (let e : Some UnknownOrder ≡ None = none in cc)
    by_found (Some y) is none =
        let mark = each_at (Marked IsNumbered) y book.orders good.marked (found_in (is_order session order) y book.orders is) in
        subst (λ n. n ≤ 200_000) (eqb-true y.id order (and_first _ _ (found_passes (is_order session order) y book.orders is))) mark.0
step_said book (command.DeleteAll moment session security) more some good product allowed tell =
    let le = length_filter_le (is_of session security) book.orders in
    let few = good.fits.few in
    said_first session (kept.DeletedAll security (length (filter (is_of session security) book.orders))) [] (all_said security (length (filter (is_of session security) book.orders)) (some security product.1) (omega (arith, le, few))) (All-nil CanBeTold)
step_said book (command.Clear moment security) more some good product allowed tell =
    clearings_said book.roster.sessions security book.orders (some security product) good.fits.few

told_from : (book : BookState) (cs : List Command) (more : ℕ) → ((z : ℤ) → Contains book.roster.securities z → pos 1 ≤ℤ z) → IsGood book (length cs + more) → AreAcceptedFrom book cs → All IsTellable cs
    → All CanBeTold (stored_from book cs)
told_from book [] more some good accepted tell = All-nil CanBeTold
told_from book (c ∷ cs) more some good accepted tell =
    let e : suc (length cs) + more ≡ suc (length cs + more) = omega arith in
    let here : IsGood book (suc (length cs + more)) = subst (IsGood book) e good in
    let first = All-head IsTellable c cs tell in
    let next : IsGood (book_after book c) (length cs + more) = record {
      fits = fit_next book c here.fits accepted.0 accepted.1;
      marked = marked_next IsNumbered book c (brought book c (length cs + more) first here.room) here.marked;
      room = room_next book c (length cs + more) first here.room;
    } in
    All-append CanBeTold (answers_of book c) (stored_from (book_after book c) cs) (step_said book c (length cs + more) some here accepted.0 accepted.1 first)
    (told_from (book_after book c) cs more some next accepted.2 (All-tail IsTellable c cs tell))

pub told_well : (listing : Listing) (cs : List Command) → IsListing listing → AreAccepted listing cs → All IsTellable cs → All CanBeTold (stored listing cs)
told_well listing cs is accepted tell =
    let few = accepted.few in
    told_from (empty_book (roster_of listing)) cs 0 (λ z there. (is.security z there).0)
    (record { fits = record { distinct = tt; in_order = tt; known = tt; few = omega arith }; marked = tt; room = record { ids = omega arith; stamps = omega arith } })
    accepted.each tell
