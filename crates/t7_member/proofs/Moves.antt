-- What each move of the member keeps.
use Rattle.std.proofs.Common.{◌≡◌, ℕ, ◌+◌, ◌<◌, ◌≤◌, ◌⊎◌, ℤ, max, inl, inr, List, ◌∷◌, Option, Some, None, refl, sym, ap, ◌∙◌, arith}
use Rattle.t7_base.specs.declared.public.Public.{Public}
use Rattle.t7_base.specs.declared.public.Resting.{Resting}
use Rattle.t7_eobi.specs.declared.walks.Live.TheVariants.{Beat, Message}
use Rattle.t7_feed.proofs.Growth.{EachMoment-map, EachMoment-now, Supported-grows, Supported-next, Whole-live, Window-shrinks, some_one}
use Rattle.t7_feed.specs.Arrivals.{Arrival, Came, EachMoment, Terms, Told, highest}
use Rattle.t7_feed.specs.Whole.{IsBelow}
use Rattle.t7_mbook.specs.declared.misfit.Misfit.{Misfit}
use Rattle.t7_mbook.specs.Changes.{after}
use Rattle.t7_mbook.specs.Misfits.{misfit_of}
use Rattle.t7_feed.specs.Fitting.{stepped, unless}
use Rattle.t7_lines.specs.Gap.{kept_at}
use Rattle.t7_lines.specs.Puts.{IsPut, KeepsNew, TakesOff}
use Rattle.t7_lines.specs.declared.put.Put.{Put}
use Rattle.t7_lines.specs.declared.put.Put.TheVariants.{New, Old, Outside}
use Rattle.t7_member.specs.Keeping.{Covers, CoversCycles, Holds, Image, floor, floor_of}
use Rattle.t7_member.specs.declared.standing.Refusal.{Refusal}
use Rattle.t7_member.specs.Steps.{Buffers, beaten, dropped, moved, noted}

-- a part of what was kept, with all above k
pub record Leaves (k : ℕ) (old new : List (ℕ × Public)) : Type 0 where
  pub from : (i : ℕ) (is : Public) → kept_at new i ≡ Some is → kept_at old i ≡ Some is
  pub above : (i : ℕ) → k < i → kept_at new i ≡ kept_at old i

pub same_or : (a b : ℕ) → (a ≡ b) ⊎ (a ≡ b → ⊥)
same_or a b = grind arith

pub near_or : (window highest number : ℕ) → (highest < number + window) ⊎ (number + window ≤ highest)
near_or window highest number = grind arith

pub leaves_of : (k : ℕ) (old new : List (ℕ × Public)) → TakesOff k old new → Leaves k old new
leaves_of k old new takes = record {
  from = λ i is at.
      elim (same_or i k) [
        | inl e ↦ (let none : kept_at new i ≡ None = rw e takes.gone in absurd (cc (none, at)))
        | inr other ↦ sym (takes.others i other) ∙ at
      ];
  above = λ i above. takes.others i (λ e. omega arith);
}

-- what is kept after a put is in the window, and was kept before or is the message
module _ (window high : ℕ) (base : Option ℕ) (k : ℕ) (said : Public) (old new : List (ℕ × Public)) (puts : Buffers window high base k said old new) where
  pub buffers_near : (i : ℕ) (is : Public) → kept_at new i ≡ Some is → high < i + window
  buffers_near i is at =
      elim (near_or window high i) [
        | inl near ↦ near
        | inr far ↦ (let none = puts.kept.dropped i far in absurd (cc (none, at)))
      ]

  pub this_from : (put : Put) (is : Public) → KeepsNew put k said old new → kept_at new k ≡ Some is → (kept_at old k ≡ Some is) ⊎ (said ≡ is)
  this_from Old is this at = inl (sym this ∙ at)
  this_from Outside is this at = absurd (cc (this, at))
  this_from New is this at = inr (some_one (sym this ∙ at))

  pub buffers_from : (i : ℕ) (is : Public) → kept_at new i ≡ Some is → (kept_at old i ≡ Some is) ⊎ ((k ≡ i) × (said ≡ is))
  buffers_from i is at =
      elim (same_or i k) [
        | inl e ↦ (let here : kept_at new k ≡ Some is = rw (← e) at in
            elim (this_from puts.put is puts.kept.this here) [ inl was ↦ inl (rw e was) | inr now ↦ inr (sym e, now) ])
        | inr other ↦ inl (sym (puts.kept.others i other (buffers_near i is at)) ∙ at)
      ]

  pub this_stays : (put : Put) (is : Public) → IsPut put window high base k old → KeepsNew put k said old new → kept_at old k ≡ Some is → kept_at new k ≡ Some is
  this_stays Old is answer this at = this ∙ at
  this_stays Outside is answer this at = (let none = answer.1 in absurd (cc (none, at)))
  this_stays New is answer this at = (let none = answer.1 in absurd (cc (none, at)))

  pub buffers_stays : (i : ℕ) (is : Public) → kept_at old i ≡ Some is → high < i + window → kept_at new i ≡ Some is
  buffers_stays i is at near =
      elim (same_or i k) [
        | inl e ↦ (let was : kept_at old k ≡ Some is = rw (← e) at in rw e (this_stays puts.put is puts.answer puts.kept.this was))
        | inr other ↦ puts.kept.others i other near ∙ at
      ]

  pub this_fresh : (put : Put) → IsPut put window high base k old → KeepsNew put k said old new → IsBelow base k → high < k + window → (is : Public) × (kept_at new k ≡ Some is)
  this_fresh Old (inl under) this below near = absurd (under below)
  this_fresh Old (inr found) this below near = (found.0, this ∙ found.1)
  this_fresh Outside answer this below near = (let far = answer.2 in absurd (omega arith))
  this_fresh New answer this below near = (said, this)

  pub buffers_fresh : IsBelow base k → high < k + window → (is : Public) × (kept_at new k ≡ Some is)
  buffers_fresh below near = this_fresh puts.put puts.answer puts.kept.this below near

-- what is covered stays so
abbrev pub CoversMore : Image → Image → Type 0
CoversMore old new = (m : ℕ) → Covers old.base old.refused m → Covers new.base new.refused m

pub cycles_stay : (terms : Terms) (old new : Image) (came : List Arrival) → CoversMore old new → EachMoment (CoversCycles terms.listing old) came → EachMoment (CoversCycles terms.listing new) came
cycles_stay terms old new came more h = EachMoment-map (CoversCycles terms.listing old) (CoversCycles terms.listing new) came (λ some cover m p q parts w near fits. more m (cover m p q parts w near fits)) h

pub covers_move : (member : Image) (n : ℕ) (list : List Resting) (kept : List (ℕ × Public)) → member.base ≡ Some n → CoversMore member (moved member n list kept)
covers_move member n list kept is m h = let g = rw is at h in omega arith

pub floor_base : (member : Image) (n : ℕ) → member.base ≡ Some n → floor member ≡ n
floor_base member n is = rw is

pub moves : {terms : Terms} {member : Image} {came : List Arrival} (n : ℕ) (list : List Resting) (kept : List (ℕ × Public)) →
    member.base ≡ Some n → Came came (n + 1) → Leaves (n + 1) member.kept kept →
    Holds terms member came → Holds terms (moved member n list kept) came
moves {terms} {member} {came} n list kept is here leaves h = record {
  terms_are = h.terms_are;
  highest = h.highest;
  highest_packet = h.highest_packet;
  known = h.known;
  kept = λ k said at. h.kept k said (leaves.from k said at);
  all = λ k above came_k near.
      let f = floor_base member n is in
      let lower : floor member < k = omega arith in
      let found = h.all k lower came_k near in
      (found.0, leaves.above k above ∙ found.1);
  packets = h.packets;
  near = h.near;
  supported = λ j at. let e = some_one at in rw (← e) (Supported-next (h.supported n is) here);
  one = λ j at. h.one n is;
  cycles = cycles_stay terms member (moved member n list kept) came (covers_move member n list kept is) h.cycles;
}

pub covers_drop : (member : Image) (n : ℕ) (why : Misfit) (kept : List (ℕ × Public)) → member.base ≡ Some n → CoversMore member (dropped member n why kept)
covers_drop member n why kept is m h = let g = rw is at h in omega arith

pub drops : {terms : Terms} {member : Image} {came : List Arrival} (n : ℕ) (why : Misfit) (kept : List (ℕ × Public)) →
    member.base ≡ Some n → Leaves (n + 1) member.kept kept →
    Holds terms member came → Holds terms (dropped member n why kept) came
drops {terms} {member} {came} n why kept is leaves h = record {
  terms_are = h.terms_are;
  highest = h.highest;
  highest_packet = h.highest_packet;
  known = h.known;
  kept = λ k said at. h.kept k said (leaves.from k said at);
  all = λ k above came_k near.
      let f = floor_base member n is in
      let lower : floor member < k = omega arith in
      let found = h.all k lower came_k near in
      (found.0, leaves.above k above ∙ found.1);
  packets = h.packets;
  near = h.near;
  supported = λ j at. absurd (cc at);
  one = λ j at. absurd (cc at);
  cycles = cycles_stay terms member (dropped member n why kept) came (covers_drop member n why kept is) h.cycles;
}

pub below_floor : (base : Option ℕ) (refused : Option Refusal) (k : ℕ) → floor_of base refused < k → IsBelow base k
below_floor (Some n) refused k h = h
below_floor None refused k h = tt

pub notes : {terms : Terms} {member : Image} {came : List Arrival} (k : ℕ) (said : Public) (kept : List (ℕ × Public)) →
    Buffers terms.listing.window (max k member.highest) member.base k said member.kept kept →
    Holds terms member came → Holds terms (noted member k kept) (Told (Message k said) ∷ came)
notes {terms} {member} {came} k said kept puts h =
    let top : max k member.highest ≡ max k (highest came) = ap (λ x. max k x) h.highest in
    record {
      terms_are = h.terms_are;
      highest = top;
      highest_packet = h.highest_packet;
      known = ap (λ x. max k x) h.known;
      kept = λ i is at. (
        elim (buffers_from terms.listing.window (max k member.highest) member.base k said member.kept kept puts i is at) [ inl old ↦ inr ((h.kept i is old).0) | inr now ↦ inl now ],
        rw (← top) (buffers_near terms.listing.window (max k member.highest) member.base k said member.kept kept puts i is at),
      );
      all = λ i above came_i near.
          let close : max k member.highest < i + terms.listing.window = omega arith in
          elim came_i [
            | inl e ↦ (let close_k : max k member.highest < k + terms.listing.window = omega arith in
                let above_k : floor member < k = omega arith in
                rw (← e) (buffers_fresh terms.listing.window (max k member.highest) member.base k said member.kept kept puts (below_floor member.base member.refused k above_k) close_k))
            | inr old ↦ (let found = h.all i above old (Window-shrinks terms.listing (Told (Message k said)) came i near) in
                (found.0, buffers_stays terms.listing.window (max k member.highest) member.base k said member.kept kept puts i found.0 found.1 close))
          ];
      packets = h.packets;
      near = h.near;
      supported = λ j at. Supported-grows (Told (Message k said)) (h.supported j at);
      one = h.one;
      cycles = ((λ m p q parts w near fits. EachMoment-now (CoversCycles terms.listing member) came h.cycles m p q parts (Whole-live w) near fits), h.cycles);
    }

pub beats : {terms : Terms} {member : Image} {came : List Arrival} (last : ℕ) → Holds terms member came → Holds terms (beaten member last) (Told (Beat last) ∷ came)
beats {terms} {member} {came} last h = record {
  terms_are = h.terms_are;
  highest = h.highest;
  highest_packet = h.highest_packet;
  known = ap (λ x. max last x) h.known;
  kept = h.kept;
  all = h.all;
  packets = h.packets;
  near = h.near;
  supported = λ j at. Supported-grows (Told (Beat last)) (h.supported j at);
  one = h.one;
  cycles = ((λ m p q parts w near fits. EachMoment-now (CoversCycles terms.listing member) came h.cycles m p q parts (Whole-live w) near fits), h.cycles);
}

-- a message that misfits gives no list, and any other the next
pub misfit_stops : (securities : List ℤ) (list : List Resting) (said : Public) (why : Misfit) → misfit_of securities list said ≡ Some why → stepped securities list said ≡ None
unfolding stepped
misfit_stops securities list said why h = ap (λ o. unless o (after securities list said)) h

pub fit_steps : (securities : List ℤ) (list : List Resting) (said : Public) → misfit_of securities list said ≡ None → stepped securities list said ≡ Some (after securities list said)
unfolding stepped
fit_steps securities list said h = ap (λ o. unless o (after securities list said)) h

-- where there is a list after a message, the message fits
pub stepped_fits : (securities : List ℤ) (list : List Resting) (said : Public) (next : List Resting) → stepped securities list said ≡ Some next → (misfit_of securities list said ≡ None) × (after securities list said ≡ next)
stepped_fits securities list said next h = stepped_by (misfit_of securities list said) refl where
  stepped_by : (o : Option Misfit) → misfit_of securities list said ≡ o → (misfit_of securities list said ≡ None) × (after securities list said ≡ next)
  stepped_by None is = (is, some_one (sym (fit_steps securities list said is) ∙ h))
  stepped_by (Some why) is = absurd (let e = sym (misfit_stops securities list said why is) ∙ h in cc e)
