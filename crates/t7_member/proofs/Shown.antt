-- What the status says of what came, whatever it was.
use Rattle.std.proofs.Common.{◌≡◌, ℕ, inl, inr, List, Option, Some, None, refl, sym, ◌∙◌, arith}
use Rattle.std.proofs.lemmas.Bool.Decides.{eqb_tells}
use Rattle.t7_feed.specs.Arrivals.{Arrival, Terms}
use Rattle.t7_feed.proofs.Growth.{EachMoment-map}
use Rattle.t7_member.specs.declared.standing.Refusal.{Refusal}
use Rattle.t7_member.specs.Keeping.{Covers, CoversCycles, Holds, Image, Rests}
use Rattle.t7_member.specs.Shown.{HasMisfits, IsShownOf}
use Rattle.t7_member.specs.Status.{status_of}
use Rattle.t7_member.proofs.Report.{next_gone}

shown_by : (terms : Terms) (member : Image) (came : List Arrival) → Holds terms member came → Rests member → (base : Option ℕ) (refused : Option Refusal) → member.base ≡ base → member.refused ≡ refused
    → IsShownOf terms.listing came (status_of base refused member.known)
shown_by terms member came h rests (Some n) refused is gone = elim (eqb_tells n member.known) [
  | inl same ↦ rw same.0 ((h.supported n is, same.1 ∙ h.known))
  | inr other ↦ rw other.0 ((n, refl, h.supported n is, λ e. other.1 (e ∙ sym h.known), next_gone h rests n is))
]
shown_by terms member came h rests None (Some q) is gone =
    EachMoment-map (CoversCycles terms.listing member) (HasMisfits terms.listing q.number) came
    (λ some covers m p last parts from w near fits. (let c : Covers None (Some q) m = rw (is, gone) at (covers m p last parts w near fits) in omega arith)) h.cycles
shown_by terms member came h rests None None is gone =
    EachMoment-map (CoversCycles terms.listing member) (HasMisfits terms.listing 0) came
    (λ some covers m p last parts from w near fits. (let c : Covers None None m = rw (is, gone) at (covers m p last parts w near fits) in absurd c)) h.cycles

pub shown : (terms : Terms) (member : Image) (came : List Arrival) → Holds terms member came → Rests member → IsShownOf terms.listing came (status_of member.base member.refused member.known)
shown terms member came h rests = shown_by terms member came h rests member.base member.refused refl refl
