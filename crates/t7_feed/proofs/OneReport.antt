-- A report determines the state and the list.
use Rattle.std.proofs.Common.{◌≡◌, ℕ, List, Option, Some, None, refl, sym, ap, subst, ◌∙◌, arith}
use Rattle.t7_base.specs.Listing.{Listing}
use Rattle.t7_base.specs.declared.public.Resting.{Resting}
use Rattle.t7_book.specs.Acts.{Act}
use Rattle.t7_feed.specs.declared.State.{State}
use Rattle.t7_feed.specs.declared.State.TheVariants.{Miss, Refused, Sync, Wait}
use Rattle.t7_feed.specs.Arrivals.{Arrival, Terms, arrivals}
use Rattle.t7_feed.specs.Report.{IsInSync, IsSupportedBook, ReportsAreOne, Shows}
use Rattle.t7_feed.proofs.Growth.{some_one}
use Rattle.t7_feed.proofs.Reached.{reaches_one}

-- one number is shown as one state
pub state_one : (listing : Listing) (came : List Arrival) (number : Option ℕ) (state other : State) → Shows state number → Shows other number → IsInSync listing came state → IsInSync listing came other → state ≡ other
state_one listing came number Wait Wait h g s t = refl
state_one listing came number Wait (Sync n) h g s t = absurd (cc (h, g))
state_one listing came number Wait (Miss k) h g s t = (let e = g.2 in absurd (cc (h, e)))
state_one listing came number (Sync n) Wait h g s t = absurd (cc (h, g))
state_one listing came number (Sync n) (Sync i) h g s t = ap (λ x. Sync x) (some_one (sym h ∙ g))
state_one listing came number (Sync n) (Miss k) h g s t =
    absurd (let same : n ≡ g.0 = some_one (sym h ∙ g.2) in let e = g.1 in t.0 (omega arith))
state_one listing came number (Miss k) Wait h g s t = (let e = h.2 in absurd (cc (e, g)))
state_one listing came number (Miss k) (Sync n) h g s t =
    absurd (let same : n ≡ h.0 = some_one (sym g ∙ h.2) in let e = h.1 in s.0 (omega arith))
state_one listing came number (Miss k) (Miss i) h g s t =
    ap (λ x. Miss x) (let same : h.0 ≡ g.0 = some_one (sym h.2 ∙ g.2) in let e = h.1 in let f = g.1 in omega arith)
state_one listing came number Wait (Refused q why) h g s t = absurd g
state_one listing came number (Sync n) (Refused q why) h g s t = absurd g
state_one listing came number (Miss k) (Refused q why) h g s t = absurd g
state_one listing came number (Refused q why) other h g s t = absurd h

-- and beside one list
pub book_one : (terms : Terms) (acts : List Act) (came : List Arrival) (number : Option ℕ) (list orders : List Resting) → IsSupportedBook terms acts came number list → IsSupportedBook terms acts came number orders → list ≡ orders
book_one terms acts came None list orders h g = h ∙ sym g
book_one terms acts came (Some n) list orders h g = h.1 ∙ sym g.1

pub reports_one : ReportsAreOne
reports_one terms acts dl state other list orders h g =
    let same : g.number ≡ h.number = reaches_one terms.listing (arrivals terms dl) g.number h.number g.now h.now in
    let shows = subst (λ x. Shows other x) same g.shows in
    let book = subst (λ x. IsSupportedBook terms acts (arrivals terms dl) x orders) same g.book in
    (state_one terms.listing (arrivals terms dl) h.number state other h.shows shows h.sync g.sync, book_one terms acts (arrivals terms dl) h.number list orders h.book book)
