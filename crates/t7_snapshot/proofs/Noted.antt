-- What messages make of a list, one more, and where none waits.
use Rattle.std.proofs.Common.{◌≡◌, ◌≢◌, ℕ, ◌+◌, ◌<◌, ℤ, Bool, true, false, MatchBool, List, [], ◌∷◌, ◌++◌, None, refl, sym, ap, ◌∙◌, arith, length-append}
use Rattle.t7_base.specs.declared.public.Resting.{Resting}
use Rattle.t7_base.specs.declared.public.Public.{Public}
use Rattle.t7_base.specs.Listing.{Listing}
use Rattle.t7_eobi.specs.declared.walks.Snap.{Snap}
use Rattle.t7_feed.specs.Arrivals.{Terms}
use Rattle.t7_mbook.specs.Changes.{after}
use Rattle.t7_mbook.specs.State.{MarketState}
use Rattle.t7_mbook.specs.Misfits.{misfit_of}
use Rattle.t7_snapshot.specs.Noting.{FitInTurn, HasNoted, IsCarried, after_all}
use Rattle.t7_snapshot.specs.Sending.{CycleState}

-- one message more
pub after_push : (securities : List ℤ) (list : List Resting) (messages : List Public) (message : Public)
    → after_all securities list (messages ++ message ∷ []) ≡ after securities (after_all securities list messages) message
after_push securities list [] message = refl
after_push securities list (first ∷ messages) message = after_push securities (after securities list first) messages message

pub fit_push : (securities : List ℤ) (list : List Resting) (messages : List Public) (message : Public) → FitInTurn securities list messages
    → misfit_of securities (after_all securities list messages) message ≡ None → FitInTurn securities list (messages ++ message ∷ [])
fit_push securities list [] message fit fits = (fits, tt)
fit_push securities list (first ∷ messages) message fit fits = (fit.0, fit_push securities (after securities list first) messages message fit.1 fits)

-- what was noted, and one message more
pub noted_push : (old new : CycleState) (messages : List Public) (message : Public) → new.noted ≡ old.noted + 1 → new.terms.listing.securities ≡ old.terms.listing.securities
    → new.image ≡ after old.terms.listing.securities old.image message → HasNoted old messages → HasNoted new (messages ++ message ∷ [])
noted_push old new messages message count same image has = record {
  noted = (let n = has.noted in let l = length-append messages (message ∷ []) in omega (arith, n, l, count));
  image =
      image ∙ ap (λ (l : List Resting). after old.terms.listing.securities l message) has.image
      ∙ sym (after_push old.terms.listing.securities [] messages message)
      ∙ ap (λ (zs : List ℤ). after_all zs [] (messages ++ message ∷ [])) (sym same);
}

-- a sender by its parts
abbrev pub sender : Terms → List (List Snap) → ℕ → List Resting → ℕ → CycleState
sender terms left noted image spare = record { terms = terms; left = left; noted = noted; image = image; spare = spare }

-- where none waits, a message goes into the image
pub carried_now : (securities : List ℤ) (old new : MarketState) (waiting : List Public) (message : Public) → waiting ≡ [] → old.securities ≡ securities
    → new ≡ record old { orders = after old.securities old.orders message }
    → after_all securities new.orders waiting ≡ after securities (after_all securities old.orders waiting) message
carried_now securities old new waiting message none same is =
    ap (λ (w : List Public). after_all securities new.orders w) none
    ∙ ap (λ (n : MarketState). n.orders) is
    ∙ ap (λ (z : List ℤ). after z old.orders message) same
    ∙ ap (λ (w : List Public). after securities (after_all securities old.orders w) message) (sym none)

-- else it waits
pub carried_later : (listing : Listing) (image : MarketState) (waiting : List Public) (message : Public) (script : List Snap) (noted : ℕ) → IsCarried listing image waiting script noted
    → script ≢ [] → noted < 4_000_000_000 → misfit_of listing.securities (after_all listing.securities image.orders waiting) message ≡ None
    → IsCarried listing image (waiting ++ message ∷ []) script (noted + 1)
carried_later listing image waiting message script noted is some few fits = record {
  securities = is.securities;
  fit = fit_push listing.securities image.orders waiting message is.fit fits;
  idle = λ none. absurd (some none);
  few = omega (arith, few);
}

-- it is told whether something is left
pub untold : (b : Bool) (script : List Snap) → MatchBool b (script ≡ []) (script ≢ []) → b ≡ false → script ≢ []
untold true script told off = absurd (cc off)
untold false script told off = told

pub all_told : (b : Bool) (script : List Snap) → MatchBool b (script ≡ []) (script ≢ []) → b ≡ true → script ≡ []
all_told true script told is = told
all_told false script told is = absurd (cc is)

-- the messages that wait go into the image
pub caught_up : (securities : List ℤ) (old new : MarketState) (waiting messages left : List Public) → old.securities ≡ securities → messages ≡ waiting → left ≡ []
    → new ≡ record old { orders = after_all old.securities old.orders messages } → after_all securities new.orders left ≡ after_all securities old.orders waiting
caught_up securities old new waiting messages left same are none is =
    ap (λ (w : List Public). after_all securities new.orders w) none ∙ ap (λ (n : MarketState). n.orders) is ∙ (λ i. after_all (same i) old.orders (are i))
