-- What is known of a command that an order request comes to.
use Rattle.std.proofs.Common.{◌≡◌, ℕ, zero, suc, get_or, ◌<◌, ◌||◌, not, Bool, true, false, cond, ℤ, pos, neg_ℤ, nat_abs, List, [], ◌∷◌, length, Option, Some, None, Result, Ok, Err, refl, ap, ◌∙◌, subst, arith}
use Rattle.std.specs.Prelude.{Contains, int_le, nat_le, negsuc}
use Rattle.std.specs.List.{list_any}
use Rattle.std.specs.Ordering.{int_eq}
use Rattle.std.proofs.lemmas.Bool.{and_parts, leb-false}
use Rattle.std.proofs.lemmas.Bool.Decides.{Decides-int_eq}
use Rattle.std.proofs.lemmas.Int.{ints}
use Rattle.t7_base.specs.Listing.{Listing}
use Rattle.t7_base.specs.Ranges.{IsMoment, IsPrice, IsQuantity}
use Rattle.t7_eti.specs.declared.reason.Reason.{Reason}
use Rattle.t7_eti.specs.declared.reason.Reason.TheVariants as reason
use Rattle.t7_eti.specs.declared.request.Request.{Request}
use Rattle.t7_eti.specs.declared.request.Request.TheVariants as request
use Rattle.t7_eti.specs.Requests.{IsAskable, request_client}
use Rattle.t7_book.specs.declared.order.Order.{Order}
use Rattle.t7_book.specs.declared.command.Command.{Command}
use Rattle.t7_book.specs.declared.command.Command.TheVariants as command
use Rattle.t7_book.specs.declared.command.BookRefusal.TheVariants.{BelowExecuted, BookFull}
use Rattle.t7_book.specs.Orders.{BookState, order_of, roster_of}
use Rattle.t7_book.specs.Commands.{IsForProduct, change_refusal, delete_refusal, executed_of, is_full, refusal}
use Rattle.t7_orders.specs.Judged.{is_between, is_day_full, is_listed, is_price, is_quantity, is_side, as_command, fails_day, fails_executed, fails_order, fails_price, fails_quantity, fails_room, fails_security, fails_side, judged, side_of, unless_failing}
use Rattle.t7_entry.specs.Tellable.{IsTellable}
use Rattle.t7_feed.specs.Sending.{IsRanged}

abbrev taken : Command → Result Command Reason
taken c = Ok c

abbrev unknown : Result Command Reason
unknown = Err reason.UnknownTemplate

-- what an order request comes to, where this is the order that it is about
abbrev judged_with : Listing → BookState → Option Order → ℕ → ℕ → ℕ → Request → Result Command Reason
judged_with listing book named session accepted moment asked =
    unless_failing
    ((fails_security listing asked, reason.UnknownSecurity)
    ∷ (fails_side asked, reason.BadSide)
    ∷ (fails_order named asked, reason.UnknownOrder)
    ∷ (fails_price listing named asked, reason.BadPrice)
    ∷ (fails_quantity asked, reason.BadQty)
    ∷ (fails_executed named asked, reason.BelowExecuted)
    ∷ (fails_day accepted asked, reason.DayFull)
    ∷ (fails_room book asked, reason.BookFull)
    ∷ [])
    (as_command session moment asked)

-- a total above what was executed, where it is a quantity
not_below : (qty : ℤ) (executed : ℕ) → is_quantity qty ≡ true → int_le qty (pos executed) ≡ false → nat_le (nat_abs qty) executed ≡ false
not_below (pos n) executed is above = above
not_below (negsuc n) executed is above = cc is

-- a test that was passed
past : (b : Bool) (why : Reason) (rest : Result Command Reason) (c : Command) → cond b (Err why) rest ≡ Ok c → (b ≡ false) × (rest ≡ Ok c)
past true why rest c is = absurd (let e : Err why ≡ Ok c = is in cc)
past false why rest c is = (refl, is)

passed_not : (b : Bool) → not b ≡ false → b ≡ true
passed_not true is = refl
passed_not false is = absurd (let e : true ≡ false = is in cc)

-- a security that is found stands among them
pub known_security : (securities : List ℤ) (security : ℤ) → list_any (λ s. int_eq s security) securities ≡ true → Contains securities security
known_security [] security is = absurd (let e : false ≡ true = is in cc)
known_security (s ∷ securities) security is = by_test (int_eq s security) refl is (known_security securities security)
  where
    by_test : (b : Bool) → int_eq s security ≡ b → (b || list_any (λ s. int_eq s security) securities) ≡ true → (list_any (λ s. int_eq s security) securities ≡ true → Contains securities security)
        → Contains (s ∷ securities) security
    by_test true same is more = (0, omega arith, (Decides-int_eq s security).0 same)
    by_test false other is more = let rest = more is in (suc rest.0, (let lt = rest.1 in omega arith), rest.2)

price_range : (listing : Listing) (security price : ℤ) → is_price listing security price ≡ true → IsPrice price
price_range listing security price is =
    let parts = and_parts (is_between (neg_ℤ (pos 100_000_000_000_000_000)) (pos 100_000_000_000_000_000) price) _ is in
    let within = parts.0 in
    (grind (arith, ints, within), grind (arith, ints, within))

quantity_range : (qty : ℤ) → is_quantity qty ≡ true → IsQuantity (pos (nat_abs qty))
quantity_range (pos n) is = (grind (arith, ints, is), grind (arith, ints, is))
quantity_range (negsuc n) is = absurd (cc is)

-- what is known of the command
pub record IsFitting (listing : Listing) (book : BookState) (accepted moment : ℕ) (asked : Request) (c : Command) : Type 0 where
  pub product : IsForProduct (roster_of listing) c
  pub allowed : refusal book c ≡ None
  pub few : accepted < 200_000
  pub tellable : IsMoment moment → IsAskable asked → IsTellable c
  pub ranged : IsMoment moment → IsRanged c

fitting_as : (listing : Listing) (book : BookState) (accepted moment : ℕ) (asked : Request) (d c : Command) → taken d ≡ taken c → IsFitting listing book accepted moment asked d → IsFitting listing book accepted moment asked c
fitting_as listing book accepted moment asked d c is fits = let same : d ≡ c = cc in subst (λ (x : Command). IsFitting listing book accepted moment asked x) same fits

fits_new : (listing : Listing) (book : BookState) (session accepted moment : ℕ) (c : Command) (seq : ℕ) (security : ℤ) (side : ℕ) (price qty : ℤ) (client : ℕ) → Contains listing.sessions session
    → judged_with listing book None session accepted moment (request.New seq security side price qty client) ≡ Ok c → IsFitting listing book accepted moment (request.New seq security side price qty client) c
unfolding request_client
fits_new listing book session accepted moment c seq security side price qty client there is =
    let a = past (not (is_listed listing security)) reason.UnknownSecurity _ c is in
    let b = past (not (is_side side)) reason.BadSide _ c a.1 in
    let d = past (not (is_price listing security price)) reason.BadPrice _ c b.1 in
    let e = past (not (is_quantity qty)) reason.BadQty _ c d.1 in
    let f = past (is_day_full accepted) reason.DayFull _ c e.1 in
    let g = past (is_full book.orders security) reason.BookFull _ c f.1 in
    fitting_as listing book accepted moment (request.New seq security side price qty client) (command.New moment session security (side_of side) price (nat_abs qty) client) c g.1 (record {
      product = (there, known_security listing.securities security (passed_not (is_listed listing security) a.0));
      allowed = ap (λ b. cond b (Some BookFull) None) g.0;
      few = (let less = leb-false 200_000 accepted f.0 in omega arith);
      tellable = λ now askable. (now, price_range listing security price (passed_not (is_price listing security price) d.0), askable.client);
      ranged = λ now. (now, price_range listing security price (passed_not (is_price listing security price) d.0), quantity_range qty (passed_not (is_quantity qty) e.0));
    })

fits_modify : (listing : Listing) (book : BookState) (session accepted moment : ℕ) (c : Command) (seq order client : ℕ) (price qty : ℤ) (found : Option Order) → Contains listing.sessions session
    → order_of book.orders session order ≡ found → judged_with listing book found session accepted moment (request.Modify seq order client price qty) ≡ Ok c → IsFitting listing book accepted moment (request.Modify seq order client price qty) c
unfolding request_client
fits_modify listing book session accepted moment c seq order client price qty None there found is = absurd (let e : Err reason.UnknownOrder ≡ Ok c = is in cc)
fits_modify listing book session accepted moment c seq order client price qty (Some y) there found is =
    let a = past (not (is_price listing y.rest.security price)) reason.BadPrice _ c is in
    let b = past (not (is_quantity qty)) reason.BadQty _ c a.1 in
    let d = past (int_le qty (pos (executed_of y))) reason.BelowExecuted _ c b.1 in
    let below = not_below qty (executed_of y) (passed_not (is_quantity qty) b.0) d.0 in
    let f = past (is_day_full accepted) reason.DayFull _ c d.1 in
    fitting_as listing book accepted moment (request.Modify seq order client price qty) (command.Modify moment session order price (nat_abs qty) client) c f.1 (record {
      product = there;
      allowed = ap (λ o. change_refusal o (nat_abs qty)) found ∙ ap (λ b. cond b (Some BelowExecuted) None) below;
      few = (let less = leb-false 200_000 accepted f.0 in omega arith);
      tellable = λ now askable. (now, price_range listing y.rest.security price (passed_not (is_price listing y.rest.security price) a.0), askable.client);
      ranged = λ now. (now, price_range listing y.rest.security price (passed_not (is_price listing y.rest.security price) a.0), quantity_range qty (passed_not (is_quantity qty) b.0));
    })

fits_delete : (listing : Listing) (book : BookState) (session accepted moment : ℕ) (c : Command) (seq order client : ℕ) (found : Option Order) → Contains listing.sessions session
    → order_of book.orders session order ≡ found → judged_with listing book found session accepted moment (request.Delete seq order client) ≡ Ok c → IsFitting listing book accepted moment (request.Delete seq order client) c
unfolding request_client
fits_delete listing book session accepted moment c seq order client None there found is = absurd (let e : Err reason.UnknownOrder ≡ Ok c = is in cc)
fits_delete listing book session accepted moment c seq order client (Some y) there found is =
    let f = past (is_day_full accepted) reason.DayFull _ c is in
    fitting_as listing book accepted moment (request.Delete seq order client) (command.Delete moment session order client) c f.1 (record {
      product = there;
      allowed = ap delete_refusal found;
      few = (let less = leb-false 200_000 accepted f.0 in omega arith);
      tellable = λ now askable. askable.client;
      ranged = λ now. now;
    })

fits_delete_all : (listing : Listing) (book : BookState) (session accepted moment : ℕ) (c : Command) (seq : ℕ) (security : ℤ) → Contains listing.sessions session
    → judged_with listing book None session accepted moment (request.DeleteAll seq security) ≡ Ok c → IsFitting listing book accepted moment (request.DeleteAll seq security) c
fits_delete_all listing book session accepted moment c seq security there is =
    let a = past (not (is_listed listing security)) reason.UnknownSecurity _ c is in
    let f = past (is_day_full accepted) reason.DayFull _ c a.1 in
    fitting_as listing book accepted moment (request.DeleteAll seq security) (command.DeleteAll moment session security) c f.1 (record {
      product = (there, known_security listing.securities security (passed_not (is_listed listing security) a.0));
      allowed = refl;
      few = (let less = leb-false 200_000 accepted f.0 in omega arith);
      tellable = λ now askable. tt;
      ranged = λ now. now;
    })

no_command : {A : Type 0} (c : Command) → unknown ≡ taken c → A
no_command c is = absurd (let e : unknown ≡ taken c = is in cc)

pub fits : (listing : Listing) (book : BookState) (session accepted moment : ℕ) (asked : Request) (c : Command) → Contains listing.sessions session
    → judged listing book session accepted moment asked ≡ Ok c → IsFitting listing book accepted moment asked c
fits listing book session accepted moment (request.New seq security side price qty client) c there is = fits_new listing book session accepted moment c seq security side price qty client there is
fits listing book session accepted moment (request.Modify seq order client price qty) c there is =
    fits_modify listing book session accepted moment c seq order client price qty (order_of book.orders session order) there refl is
fits listing book session accepted moment (request.Delete seq order client) c there is =
    fits_delete listing book session accepted moment c seq order client (order_of book.orders session order) there refl is
fits listing book session accepted moment (request.DeleteAll seq security) c there is = fits_delete_all listing book session accepted moment c seq security there is
fits listing book session accepted moment (request.Logon seq heart other) c there is = no_command c (past (is_day_full accepted) reason.DayFull _ c is).1
fits listing book session accepted moment (request.Logout seq) c there is = no_command c (past (is_day_full accepted) reason.DayFull _ c is).1
fits listing book session accepted moment request.Heartbeat c there is = no_command c (past (is_day_full accepted) reason.DayFull _ c is).1
fits listing book session accepted moment (request.Resend seq after upto) c there is = no_command c (past (is_day_full accepted) reason.DayFull _ c is).1

-- a security that stands among them is found
pub listed_security : (securities : List ℤ) (security : ℤ) → Contains securities security → list_any (λ s. int_eq s security) securities ≡ true
listed_security securities security there = found securities there.0 there.1 there.2
  where
    or_true : (b : Bool) → (b || true) ≡ true
    or_true true = refl
    or_true false = refl

    found : (xs : List ℤ) (k : ℕ) → k < length xs → get_or xs k security ≡ security → list_any (λ s. int_eq s security) xs ≡ true
    found [] k less is = absurd (omega arith)
    found (x ∷ xs) zero less is = ap (λ b. b || list_any (λ s. int_eq s security) xs) ((Decides-int_eq x security).1 is)
    found (x ∷ xs) (suc k) less is = ap (λ b. int_eq x security || b) (found xs k (omega arith) is) ∙ or_true (int_eq x security)
