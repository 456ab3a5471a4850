-- The loop that applies the kept messages, over the member's parts.
use Rattle.std.proofs.Common.{◌≡◌, ℕ, ◌+◌, ◌<◌, List, Option, Some, None, refl, subst, arith}
use Rattle.t7_base.specs.declared.public.Public.{Public}
use Rattle.t7_base.specs.declared.public.Resting.{Resting}
use Rattle.t7_mbook.specs.declared.misfit.Misfit.{Misfit}
use Rattle.t7_mbook.specs.Changes.{after}
use Rattle.t7_mbook.specs.Misfits.{misfit_of}
use Rattle.t7_lines.specs.Gap.{kept_at}
use Rattle.t7_lines.specs.Puts.{TakesOff}
use Rattle.t7_feed.specs.Arrivals.{Terms}
use Rattle.t7_feed.specs.Fitting.{stepped}
use Rattle.t7_member.specs.Keeping.{Image}
use Rattle.t7_member.specs.Steps.{Chains, dropped, left_above, moved}
use Rattle.t7_member.proofs.Moves.{fit_steps}
use Rattle.t7_member.proofs.Hear.{chain_turn}

-- a turn, by terms that are the same
pub chain_turn_at : (terms whole : Terms) → terms ≡ whole → (old now new : Image) (n : ℕ) (said : Public) (kept : List (ℕ × Public)) →
    old.base ≡ Some n → kept_at old.kept (n + 1) ≡ Some said → TakesOff (n + 1) old.kept kept →
    ((list : List Resting) → stepped terms.listing.securities old.list said ≡ Some list → now ≡ moved old n list kept) →
    ((why : Misfit) → misfit_of terms.listing.securities old.list said ≡ Some why → now ≡ dropped old n why kept) → Chains whole.listing now new → Chains whole.listing old new
chain_turn_at terms whole same old now new n said kept is at leaves fits misfits =
    subst (λ (t : Terms). Chains t.listing now new → Chains t.listing old new) same (chain_turn terms.listing old now new n said kept is at leaves fits misfits)

-- the numbers that are left are fewer
pub turn_smaller : (terms : Terms) (old now : Image) (n : ℕ) (said : Public) (kept : List (ℕ × Public)) → old.base ≡ Some n → n < 4294967294 →
    ((list : List Resting) → stepped terms.listing.securities old.list said ≡ Some list → now ≡ moved old n list kept) →
    ((why : Misfit) → misfit_of terms.listing.securities old.list said ≡ Some why → now ≡ dropped old n why kept) → left_above now.base < left_above old.base
turn_smaller terms old now n said kept is room fits misfits = by (misfit_of terms.listing.securities old.list said) refl where
  by : (o : Option Misfit) → misfit_of terms.listing.securities old.list said ≡ o → left_above now.base < left_above old.base
  by (Some why) e = (let same = misfits why e in rw (same, is) (omega arith))
  by None e = (let same = fits (after terms.listing.securities old.list said) (fit_steps terms.listing.securities old.list said e) in rw (same, is) (omega arith))
