-- The book that an accepted command leaves is one as commands leave it.
use Rattle.std.proofs.Common.{◌≡◌, ◌≢◌, ℕ, ◌+◌, ◌≤◌, zero, suc, ℤ, Bool, true, false, ◌||◌, List, [], ◌∷◌, length, Option, Some, None, refl, ap, sym, subst, ◌∙◌, arith, inl, inr}
use Rattle.std.specs.Prelude.{Result, Ok, Err, IfErr, MatchOption, nat_le}
use Rattle.std.specs.List.{Contains}
use Rattle.std.specs.Ordering.{int_eq}
use Rattle.std.proofs.lemmas.Bool.{cases_Bool, leb-false, or_parts}
use Rattle.std.proofs.lemmas.Bool.Decides.{Decides-int_eq}
use Rattle.t7_base.specs.declared.public.Public.{Public}
use Rattle.t7_book.specs.declared.order.Order.{Order}
use Rattle.t7_book.specs.declared.command.Command.{Command}
use Rattle.t7_book.specs.declared.command.Done.{Done}
use Rattle.t7_book.specs.declared.command.Note.{Note}
use Rattle.t7_book.specs.declared.command.BookRefusal.{BookRefusal}
use Rattle.t7_book.specs.declared.command.BookRefusal.TheVariants.{Memory}
use Rattle.t7_book.specs.Orders.{BookState}
use Rattle.t7_book.specs.Commands.{IsForProduct, is_full, new_stamp, refusal}
use Rattle.t7_book.specs.Steps.{Applies, book_after}
use Rattle.t7_book.specs.Laws.{Each, IsWhole}
use Rattle.t7_book.specs.Numbers.{is_listed}
use Rattle.t7_book.specs.Kept.{MayEnter}
use Rattle.t7_book.specs.Sound.{IsEarlier, IsRunning}
use Rattle.t7_book.proofs.Fit.{Known}
use Rattle.t7_book.proofs.Lefts.{fit_next}
use Rattle.t7_book.proofs.Lists.{each_weaker}
use Rattle.t7_book.proofs.NamedDay.{IsUpTo, up_next}
use Rattle.t7_book.proofs.RunningDay.{BookFits}

both : (P Q R : Order → Type 0) → ((z : Order) → P z → Q z → R z) → (ys : List Order) → Each P ys → Each Q ys → Each R ys
both P Q R f [] first second = tt
both P Q R f (z ∷ zs) first second = (f z first.0 second.0, both P Q R f zs first.1 second.1)

pub fits : (book : BookState) → IsRunning book → BookFits book
fits book running = record {
  distinct = running.list.once;
  in_order = running.list.in_order;
  known = both IsWhole (IsEarlier book) (Known book.roster book.last_stamp) (λ y whole earlier. record { stamp = earlier.stamp; listed = earlier.listed; whole = whole }) book.orders running.list.whole running.earlier;
  few = running.list.few;
}

-- no id is above the last, and the ids are distinct
ups : (book : BookState) → IsRunning book → IsUpTo book.last_id book.orders
ups book running = record {
  named = record { ids = running.list.ids; few_of_each = running.list.few_of_each };
  within = each_weaker (IsEarlier book) (λ y. y.id ≤ book.last_id) (λ y earlier. earlier.id) book.orders running.earlier;
}

pub running_next : (book : BookState) (c : Command) → IsRunning book → IsForProduct book.roster c → refusal book c ≡ None → IsRunning (book_after book c)
running_next book c running product allowed =
    let after = book_after book c in
    let fit = fit_next book c (fits book running) product allowed in
    let up = up_next book c running.list.once (ups book running) allowed in
    record {
      list = record {
        in_order = fit.in_order;
        once = fit.distinct;
        ids = up.named.ids;
        whole = each_weaker (Known after.roster after.last_stamp) IsWhole (λ y known. known.whole) after.orders fit.known;
        few = fit.few;
        few_of_each = up.named.few_of_each;
      };
      earlier = both (Known after.roster after.last_stamp) (λ y. y.id ≤ after.last_id) (IsEarlier after) (λ y known id. record { stamp = known.stamp; id = id; listed = known.listed }) after.orders fit.known up.within;
    }

-- a command that is carried out was not refused
allowed_of : (o : Option BookRefusal) (d : Done) → MatchOption o (IfErr (Ok d) (λ why. why ≡ Memory)) (λ why. Ok d ≡ Err why) → o ≡ None
allowed_of None d cause = refl
allowed_of (Some why) d cause = absurd (cc (cause))

pub still_running : (old new : BookState) (c : Command) (out new_out : List Public) (told new_told : List Note) (result : Result Done BookRefusal) → IsRunning old → IsForProduct old.roster c → Applies old new c out new_out told new_told result → IsRunning new
still_running old new c out new_out told new_told (Ok d) running product applies =
    subst IsRunning (sym applies.book_left) (running_next old c running product (allowed_of (refusal old c) d applies.cause))
still_running old new c out new_out told new_told (Err why) running product applies = subst IsRunning (sym applies.same_book) running

-- the securities of a product are listed
pub listed_from : (securities : List ℤ) (s : ℤ) → Contains securities s → is_listed securities s ≡ true
listed_from [] s at = absurd (omega (arith, at.1))
listed_from (t ∷ ts) s (zero, within, is) =
    let same : t ≡ s = is in
    ap (λ (b : Bool). b || is_listed ts s) ((Decides-int_eq t s).1 same)
listed_from (t ∷ ts) s (suc i, within, is) = elim (cases_Bool (int_eq t s)) [
  | inl here ↦ ap (λ (b : Bool). b || is_listed ts s) here
  | inr there ↦ ap (λ (b : Bool). b || is_listed ts s) there ∙ listed_from ts s (i, omega (arith, within), is)
]

-- a new order may enter a book that isn't full
pub enters_new : (book : BookState) (moment : ℕ) (x : Order) → IsRunning book → Contains book.roster.securities x.rest.security → is_full book.orders x.rest.security ≡ false → x.rest.stamp ≡ new_stamp book moment → x.id ≡ book.last_id + 1
    → MayEnter (record { securities = book.roster.securities; list = book.orders }) x
enters_new book moment x running listed room stamp id = record {
  listed = listed_from book.roster.securities x.rest.security listed;
  room = let less = leb-false 20_000 (length book.orders) (or_parts (nat_le 20_000 (length book.orders)) _ room).0 in omega (arith, less);
  new_stamp = each_weaker (IsEarlier book) (λ y. y.rest.stamp ≢ x.rest.stamp) (λ y earlier same. let e = earlier.stamp in omega (arith, e, same, stamp)) book.orders running.earlier;
  new_id = each_weaker (IsEarlier book) (λ y. y.id ≢ x.id) (λ y earlier same. let e = earlier.id in omega (arith, e, same, id)) book.orders running.earlier;
}
