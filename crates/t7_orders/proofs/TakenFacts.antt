-- The commands of order requests against the book.
use Rattle.std.proofs.Common.{◌≡◌, ℕ, suc, Bool, true, false, cond, not, nat_le, ℤ, pos, nat_abs, List, [], ◌∷◌, ◌||◌, Option, Some, None, refl, sym, ap, subst, arith}
use Rattle.std.specs.Prelude.{Contains, int_le}
use Rattle.std.specs.List.{list_any}
use Rattle.std.specs.Ordering.{int_eq}
use Rattle.std.proofs.lemmas.Int.{ints}
use Rattle.std.proofs.lemmas.Bool.Decides.{Decides-int_eq}
use Rattle.t7_eti.specs.declared.request.Request.TheVariants as request
use Rattle.t7_book.specs.declared.order.Order.{Order}
use Rattle.t7_book.specs.declared.command.Command.{Command}
use Rattle.t7_book.specs.declared.command.Command.TheVariants as command
use Rattle.t7_book.specs.declared.command.BookRefusal.TheVariants.{BelowExecuted, BookFull}
use Rattle.t7_book.specs.Orders.{BookState, Roster, order_of}
use Rattle.t7_book.specs.Commands.{IsForProduct, change_refusal, delete_refusal, executed_of, refusal}
use Rattle.t7_orders.specs.Judged.{as_command, fails_executed, fails_order, is_listed, is_quantity, side_of, tests}
use Rattle.t7_orders.specs.Laws.{CommandsAreTaken}
use Rattle.t7_orders.proofs.TableFacts.{passed_all}

-- a number that a search finds is in the list
found : (q : ℤ) (xs : List ℤ) → list_any (λ s. int_eq s q) xs ≡ true → Contains xs q
found q [] is = absurd (cc)
found q (x ∷ xs) is = by_test (int_eq x q) refl (found q xs) is
  where
    by_test : (b : Bool) → int_eq x q ≡ b → (list_any (λ s. int_eq s q) xs ≡ true → Contains xs q) → (b || list_any (λ s. int_eq s q) xs) ≡ true → Contains (x ∷ xs) q
    by_test true same rest is = (0, omega arith, (Decides-int_eq x q).0 same)
    by_test false other rest is = let more = rest is in (suc more.0, omega (arith, more.1), more.2)

-- a test that passes
passes : (b : Bool) → not b ≡ false → b ≡ true
passes true is = refl
passes false is = sym is

-- a quantity that isn't at most what was executed
above : (z : ℤ) (e : ℕ) → is_quantity z ≡ true → int_le z (pos e) ≡ false → nat_le (nat_abs z) e ≡ false
above z e inside over = grind (arith, ints, inside, over)

-- an order that is there may be changed to a total above what was executed
changed : (named : Option Order) (seq order client : ℕ) (price qty : ℤ) → is_quantity qty ≡ true → fails_order named (request.Modify seq order client price qty) ≡ false
    → fails_executed named (request.Modify seq order client price qty) ≡ false → change_refusal named (nat_abs qty) ≡ None
changed None seq order client price qty inside there over = absurd (cc)
changed (Some y) seq order client price qty inside there over = ap (λ b. cond b (Some BelowExecuted) None) (above qty (executed_of y) inside over)

deleted : (named : Option Order) (seq order client : ℕ) → fails_order named (request.Delete seq order client) ≡ false → delete_refusal named ≡ None
deleted None seq order client there = absurd (cc)
deleted (Some y) seq order client there = refl

-- the command that is asked for
taken : (book : BookState) (c d : Command) → c ≡ d → IsForProduct book.roster c × (refusal book c ≡ None) → IsForProduct book.roster d × (refusal book d ≡ None)
taken book c d same is = subst (λ (x : Command). IsForProduct book.roster x × (refusal book x ≡ None)) same is

pub commands_are_taken : CommandsAreTaken
commands_are_taken listing book session accepted moment (request.New seq security side price qty client) c same own is =
    let told = passed_all (tests listing book session accepted (request.New seq security side price qty client)) (as_command session moment (request.New seq security side price qty client)) c is in
    let known : Contains listing.securities security = found security listing.securities (passes (is_listed listing security) told.0.0) in
    taken book (command.New moment session security (side_of side) price (nat_abs qty) client) c (cc)
    ((subst (λ (r : Roster). Contains r.sessions session) (sym same) own, subst (λ (r : Roster). Contains r.securities security) (sym same) known), ap (λ b. cond b (Some BookFull) None) told.0.1.1.1.1.1.1.1.0)
commands_are_taken listing book session accepted moment (request.Modify seq order client price qty) c same own is =
    let told = passed_all (tests listing book session accepted (request.Modify seq order client price qty)) (as_command session moment (request.Modify seq order client price qty)) c is in
    taken book (command.Modify moment session order price (nat_abs qty) client) c (cc)
    (subst (λ (r : Roster). Contains r.sessions session) (sym same) own, changed (order_of book.orders session order) seq order client price qty (passes (is_quantity qty) told.0.1.1.1.1.0) told.0.1.1.0 told.0.1.1.1.1.1.0)
commands_are_taken listing book session accepted moment (request.Delete seq order client) c same own is =
    let told = passed_all (tests listing book session accepted (request.Delete seq order client)) (as_command session moment (request.Delete seq order client)) c is in
    taken book (command.Delete moment session order client) c (cc)
    (subst (λ (r : Roster). Contains r.sessions session) (sym same) own, deleted (order_of book.orders session order) seq order client told.0.1.1.0)
commands_are_taken listing book session accepted moment (request.DeleteAll seq security) c same own is =
    let told = passed_all (tests listing book session accepted (request.DeleteAll seq security)) (as_command session moment (request.DeleteAll seq security)) c is in
    let known : Contains listing.securities security = found security listing.securities (passes (is_listed listing security) told.0.0) in
    taken book (command.DeleteAll moment session security) c (cc)
    ((subst (λ (r : Roster). Contains r.sessions session) (sym same) own, subst (λ (r : Roster). Contains r.securities security) (sym same) known), refl)
commands_are_taken listing book session accepted moment (request.Logon seq heart other) c same own is =
    let told = passed_all (tests listing book session accepted (request.Logon seq heart other)) (as_command session moment (request.Logon seq heart other)) c is in absurd (cc)
commands_are_taken listing book session accepted moment (request.Logout seq) c same own is =
    let told = passed_all (tests listing book session accepted (request.Logout seq)) (as_command session moment (request.Logout seq)) c is in absurd (cc)
commands_are_taken listing book session accepted moment request.Heartbeat c same own is =
    let told = passed_all (tests listing book session accepted request.Heartbeat) (as_command session moment request.Heartbeat) c is in absurd (cc)
commands_are_taken listing book session accepted moment (request.Resend seq after upto) c same own is =
    let told = passed_all (tests listing book session accepted (request.Resend seq after upto)) (as_command session moment (request.Resend seq after upto)) c is in absurd (cc)
