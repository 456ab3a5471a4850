-- The messages of an accepted command fit what is shown of the book before it, and make what is shown of the book after it.
use Rattle.std.proofs.Common.{◌≡◌, ℕ, zero, suc, ◌+◌, ◌-◌, ◌≤◌, ℤ, true, false, cond, List, [], ◌∷◌, ◌++◌, length, Option, Some, None, refl, sym, ap, subst, ◌∙◌, arith, length-append}
use Rattle.std.specs.Prelude.{not, slice_get}
use Rattle.std.specs.List.{filter}
use Rattle.std.proofs.lemmas.List.{map-append}
use Rattle.t7_base.specs.Listing.{Listing}
use Rattle.t7_base.specs.declared.public.Resting.{Resting}
use Rattle.t7_base.specs.declared.public.Public.{Public}
use Rattle.t7_base.specs.declared.public.Public.TheVariants as public
use Rattle.t7_book.specs.declared.order.Order.{Order}
use Rattle.t7_book.specs.declared.trade.Trade.{Trade}
use Rattle.t7_book.specs.declared.command.Command.{Command}
use Rattle.t7_book.specs.declared.command.Command.TheVariants as command
use Rattle.t7_book.specs.Commands.{changed_order, keeps_priority, new_order, new_stamp, with_total}
use Rattle.t7_book.specs.Laws.{TracesGrow}
use Rattle.t7_book.specs.Orders.{BookState, empty_book, is_of, order_of, renewed, roster_of, same_name, shown, without}
use Rattle.t7_book.specs.Steps.{Effect, arrival, cancellation, change, crossing, deletions, executions, messages, modification, remainder, steps}
use Rattle.t7_book.specs.Trace.{AreAccepted, book_left, market, trace, trace_from}
use Rattle.t7_book.specs.Trades.{after_trade, after_trades, crosses, taken, traded, trades}
use Rattle.t7_book.proofs.ListLemmas.{length_filter_le}
use Rattle.t7_mbook.specs.Law.{Leads, TracesFit}
use Rattle.t7_snapshot.specs.Noting.{FitInTurn, after_all}
use Rattle.t7_exchange.specs.Outbox.{Outbox, told}
use Rattle.t7_exchange.specs.Serving.{HasTold}
use Rattle.t7_exchange.proofs.AcceptFacts.{last_more, trace-more}

-- messages that lead from each list to the next fit in turn
pub record Makes (securities : List ℤ) (list : List Resting) (ms : List Public) (next : List Resting) : Type 0 where
  pub fit : FitInTurn securities list ms
  pub gives : after_all securities list ms ≡ next

leads_on : (securities : List ℤ) (ms : List Public) (f : ℕ → List Resting) (n : ℕ)
    → ((i : ℕ) (m : Public) → slice_get ms i ≡ Some m → Leads securities (f (n + i)) m (f (n + i + 1))) → Makes securities (f n) ms (f (n + length ms))
leads_on securities [] f n leads = record { fit = tt; gives = ap f (omega arith) }
leads_on securities (m ∷ ms) f n leads =
    let here : n + 0 ≡ n = omega arith in
    let next : n + 0 + 1 ≡ n + 1 = omega arith in
    let first = subst (λ k. Leads securities (f (n + 0)) m (f k)) next (leads 0 m refl) in
    let one = subst (λ k. Leads securities (f k) m (f (n + 1))) here first in
    let rest = leads_on securities ms f (n + 1) (λ i x is.
    let from : n + suc i ≡ (n + 1) + i = omega arith in
    let upto : n + suc i + 1 ≡ (n + 1) + i + 1 = omega arith in
    subst (λ k. Leads securities (f k) x (f ((n + 1) + i + 1))) from (subst (λ k. Leads securities (f (n + suc i)) x (f k)) upto (leads (suc i) x is))) in
    let end : (n + 1) + length ms ≡ n + suc (length ms) = omega arith in
    record {
      fit = (one.fits, subst (λ (l : List Resting). FitInTurn securities l ms) (sym one.gives) rest.fit);
      gives = ap (λ (l : List Resting). after_all securities l ms) one.gives ∙ rest.gives ∙ ap f end;
    }

-- a message behind others
behind : (xs ys : List Public) (n i : ℕ) → n ≡ length xs + i → slice_get (xs ++ ys) n ≡ slice_get ys i
behind [] ys n i is = let same : n ≡ i = omega (arith, is) in ap (slice_get ys) same
behind (x ∷ xs) ys zero i is = absurd (omega (arith, is))
behind (x ∷ xs) ys (suc n) i is = behind xs ys n i (omega (arith, is))

messages_append : (xs ys : List Effect) → messages (xs ++ ys) ≡ messages xs ++ messages ys
messages_append xs ys = map-append (λ (s : Effect). s.0) xs ys

count_messages : (ss : List Effect) → length (messages ss) ≡ length ss
count_messages [] = refl
count_messages (s ∷ ss) = let rest = count_messages ss in omega (arith, rest)

-- the book behind the last message of commands is the book that they leave
abbrev pub LastMarkets : Type 0
LastMarkets = (listing : Listing) (cs : List Command) → market listing cs (length (trace listing cs)) ≡ (book_left (empty_book (roster_of listing)) cs).orders

-- the orders that are shown of the book that commands leave
abbrev pub shown_left : Listing → List Command → List Resting
shown_left listing cs = shown (book_left (empty_book (roster_of listing)) cs).orders

-- the messages of a command
abbrev pub messages_at : Listing → List Command → Command → List Public
messages_at listing cs c = messages (steps (book_left (empty_book (roster_of listing)) cs) c)

pub makes_next : (listing : Listing) (cs : List Command) (c : Command) → TracesFit → TracesGrow → LastMarkets → AreAccepted listing (cs ++ c ∷ [])
    → Makes listing.securities (shown_left listing cs) (messages_at listing cs c) (shown_left listing (cs ++ c ∷ []))
makes_next listing cs c fit grow last are =
    let all = cs ++ c ∷ [] in
    let start = empty_book (roster_of listing) in
    let n = length (trace listing cs) in
    let ms = messages_at listing cs c in
    let f : ℕ → List Resting = λ k. shown (market listing all k) in
    let begins : f n ≡ shown_left listing cs = ap shown ((grow listing cs (c ∷ [])).books n (omega arith) ∙ last listing cs) in
    let ends : f (n + length ms) ≡ shown_left listing all = ap f (sym (last_more listing cs c)) ∙ ap shown (last listing all) in
    let whole : messages (trace listing all) ≡ messages (trace listing cs) ++ ms = ap messages (trace-more start cs c) ∙ messages_append (trace_from start cs) (steps (book_left start cs) c) in
    let long = count_messages (trace listing cs) in
    let made = leads_on listing.securities ms f n (λ i m is.
    fit listing all are (n + i) m (ap (λ (l : List Public). slice_get l (n + i)) whole ∙ behind (messages (trace listing cs)) ms (n + i) i (omega (arith, long)) ∙ is)) in
    subst (λ (l : List Resting). Makes listing.securities (shown_left listing cs) ms l) ends (subst (λ (l : List Resting). Makes listing.securities l ms (f (n + length ms))) begins made)

-- so the outbox has told them
pub told_more : (listing : Listing) (cs : List Command) (c : Command) (out : Outbox) (spare room : ℕ) → TracesFit → TracesGrow → LastMarkets → AreAccepted listing (cs ++ c ∷ []) → HasTold listing cs out
    → HasTold listing (cs ++ c ∷ []) (told out (messages_at listing cs c) spare room)
told_more listing cs c out spare room fit grow last are has =
    let ms = messages_at listing cs c in
    let more = last_more listing cs c in
    record {
      last = (λ i. has.last i + length ms) ∙ sym more;
      noted = (λ i. has.noted i + length ms) ∙ sym more;
      securities = has.securities;
      image = (λ i. after_all (has.securities i) (has.image i) ms) ∙ (makes_next listing cs c fit grow last are).gives;
    }

pub fit_more : (listing : Listing) (cs : List Command) (c : Command) (out : Outbox) → TracesFit → TracesGrow → LastMarkets → AreAccepted listing (cs ++ c ∷ []) → HasTold listing cs out
    → FitInTurn out.cycle.terms.listing.securities out.cycle.image (messages_at listing cs c)
fit_more listing cs c out fit grow last are has =
    subst (λ (l : List Resting). FitInTurn out.cycle.terms.listing.securities l (messages_at listing cs c)) (sym has.image)
    (subst (λ (zs : List ℤ). FitInTurn zs (shown_left listing cs) (messages_at listing cs c)) (sym has.securities) (makes_next listing cs c fit grow last are).fit)

-- A command gives at most three messages beside one for each order.
taken_few : (orders : List Order) (wanted : ℕ) → length (taken orders wanted) ≤ length orders
taken_few [] wanted = omega arith
taken_few (y ∷ ys) zero = omega arith
taken_few (y ∷ ys) (suc n) = let rest = taken_few ys (suc n - y.rest.qty) in omega (arith, rest)

executed : (ts : List Trade) (orders : List Order) → length (executions ts orders) ≡ length ts
executed [] orders = refl
executed (t ∷ ts) orders = let rest = executed ts (after_trade t orders) in omega (arith, rest)

deleted : (ys orders : List Order) → length (deletions ys orders) ≡ length ys
deleted [] orders = refl
deleted (y ∷ ys) orders = let rest = deleted ys (without y.rest orders) in omega (arith, rest)

remainder_few : (securities : List ℤ) (x : Order) (left : ℕ) (orders : List Order) → length (remainder securities x left orders) ≤ 1
remainder_few securities x zero orders = omega arith
remainder_few securities x (suc n) orders = omega arith

crossing_few : (securities : List ℤ) (x : Order) (ts : List Trade) (orders : List Order) → length (crossing securities x ts orders) ≤ length ts + 2
crossing_few securities x ts orders =
    let each = executed ts orders in
    let left = remainder_few securities x (x.rest.qty - traded ts) (after_trades ts orders) in
    let all = length-append (executions ts orders) (remainder securities x (x.rest.qty - traded ts) (after_trades ts orders)) in
    omega (arith, each, left, all)

arrival_few : (securities : List ℤ) (x : Order) (ts : List Trade) (orders : List Order) → length (arrival securities x ts orders) ≤ length ts + 2
arrival_few securities x [] orders = omega arith
arrival_few securities x (t ∷ ts) orders = crossing_few securities x (t ∷ ts) orders

change_few : (securities : List ℤ) (y x : Order) (ts : List Trade) (orders : List Order) → length (change securities y x ts orders) ≤ length ts + 3
change_few securities y x [] orders = omega arith
change_few securities y x (t ∷ ts) orders = let more = crossing_few securities x (t ∷ ts) orders in omega (arith, more)

trades_few : (x : Resting) (orders : List Order) → length (trades x orders) ≤ length orders
trades_few x orders =
    let some = taken_few (filter (λ y. crosses x y.rest) orders) x.qty in
    let those = length_filter_le (λ (y : Order). crosses x y.rest) orders in
    omega (arith, some, those)

modification_few : (book : BookState) (found : Option Order) (moment : ℕ) (price : ℤ) (qty : ℕ) → length (modification book found moment price qty) ≤ length book.orders + 3
modification_few book None moment price qty = omega arith
modification_few book (Some y) moment price qty =
    let x = changed_order y price qty (new_stamp book moment) in
    let rest = without y.rest book.orders in
    let some = change_few book.roster.securities y x (trades x.rest rest) rest in
    let those = trades_few x.rest rest in
    let fewer = length_filter_le (λ (v : Order). not (same_name y.rest v.rest)) book.orders in
    elim (keeps_priority y price qty) as (λ b. length (cond b ((public.SamePriority y.rest.security y.rest.side y.rest.stamp y.rest.price y.rest.qty (with_total y qty).rest.qty, renewed (with_total y qty) book.orders) ∷ []) (change book.roster.securities y x (trades x.rest rest) rest)) ≤ length book.orders + 3) [
      | true ↦ omega arith
      | false ↦ omega (arith, some, those, fewer)
    ]

cancellation_few : (found : Option Order) (orders : List Order) → length (cancellation found orders) ≤ 1
cancellation_few None orders = omega arith
cancellation_few (Some y) orders = omega arith

steps_few : (book : BookState) (c : Command) → length (steps book c) ≤ length book.orders + 3
steps_few book (command.New moment session security side price qty client) =
    let x = new_order book moment session security side price qty in
    let some = arrival_few book.roster.securities x (trades x.rest book.orders) book.orders in
    let those = trades_few x.rest book.orders in
    omega (arith, some, those)
steps_few book (command.Modify moment session order price qty client) = modification_few book (order_of book.orders session order) moment price qty
steps_few book (command.Delete moment session order client) = let one = cancellation_few (order_of book.orders session order) book.orders in omega (arith, one)
steps_few book (command.DeleteAll moment session security) =
    let each = deleted (filter (is_of session security) book.orders) book.orders in
    let those = length_filter_le (is_of session security) book.orders in
    omega (arith, each, those)
steps_few book (command.Clear moment security) = omega arith

pub messages_few : (book : BookState) (c : Command) → length (messages (steps book c)) ≤ length book.orders + 3
messages_few book c = let few = steps_few book c in let same = count_messages (steps book c) in omega (arith, few, same)

-- nothing is told, and there may be more room
pub told_kept : (listing : Listing) (cs ds : List Command) (old new : Outbox) → ds ≡ cs → new ≡ record old { spare = new.spare; cycle = record old.cycle { spare = new.cycle.spare } }
    → HasTold listing cs old → HasTold listing ds new
told_kept listing cs ds old new same is has = record {
  last = ap (λ (o : Outbox). o.last) is ∙ has.last ∙ ap (λ (l : List Command). length (trace listing l)) (sym same);
  noted = ap (λ (o : Outbox). o.cycle.noted) is ∙ has.noted ∙ ap (λ (l : List Command). length (trace listing l)) (sym same);
  securities = ap (λ (o : Outbox). o.cycle.terms.listing.securities) is ∙ has.securities;
  image = ap (λ (o : Outbox). o.cycle.image) is ∙ has.image ∙ ap (shown_left listing) (sym same);
}
