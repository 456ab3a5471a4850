-- CLEAR of a security.
use Rattle.std.proofs.Common.{◌≡◌, ℕ, ℤ, ◌↔◌, true, false, IsTrue, List, [], ◌∷◌, Result, Ok, Err, IfOk, length, nat_lt, refl, sym, ◌∙◌, ap, subst, arith}
use Rattle.std.proofs.lemmas.Bool.Decides.{nat_tests}
use Rattle.t7_entry.specs.Events as entry
use Rattle.t7_entry.specs.State.{State}
use Rattle.t7_orders.specs.Judged.{is_day_full}
use Rattle.t7_feed.specs.Arrivals.{Terms}
use Rattle.t7_outcome.specs.Outcome.{says, text_of}
use Rattle.t7_outcome.specs.Steps.{Goes}
use Rattle.t7_script.specs.declared.event.Event.TheVariants as kind
use Rattle.t7_replay.specs.Kits.{Does, Kit, Stands}
use Rattle.t7_replay.specs.Lines.{day_full_line}
use Rattle.t7_replay.specs.Steps.{done_by, entered}
use Rattle.t7_replay.specs.World.{World}
use Rattle.t7_replay.proofs.Doing.{does_says}
use Rattle.t7_replay.proofs.Opening.{state_of}

-- the accepted commands are those of the world
count_of : (terms : Terms) (world : World) (kit : Kit) → Stands terms world kit → length kit.day.state.core.accepted ≡ length world.state.core.accepted
count_of terms world kit stands = ap (λ (s : State). length s.core.accepted) (state_of terms world kit stands)

not_full : (n : ℕ) → (IsTrue (is_day_full n) → ⊥) → nat_lt n 200_000 ≡ true
not_full n not = grind (arith, nat_tests)

full : (n : ℕ) → IsTrue (is_day_full n) → nat_lt n 200_000 ≡ false
full n is = grind (arith, nat_tests)

pub clear_as : (kit : Kit) (security : ℤ) → (IsTrue (is_day_full (length kit.day.state.core.accepted)) → ⊥) → (terms : Terms) (world : World) → Stands terms world kit
    → entered terms world (entry.Clear security kit.moment) ≡ done_by terms world (kind.Clear security)
clear_as kit security not terms world stands =
    let test : nat_lt (length world.state.core.accepted) 200_000 ≡ true = sym (ap (λ (n : ℕ). nat_lt n 200_000) (count_of terms world kit stands)) ∙ not_full _ not in
    ap (λ (m : ℕ). entered terms world (entry.Clear security m)) stands.moment ∙ (rw test refl)

pub full_as : (kit : Kit) (security : ℤ) → IsTrue (is_day_full (length kit.day.state.core.accepted)) → (terms : Terms) (world : World) → Stands terms world kit
    → done_by terms world (kind.Clear security) ≡ Goes world (says (day_full_line ∷ []))
full_as kit security is terms world stands =
    let test : nat_lt (length world.state.core.accepted) 200_000 ≡ false = sym (ap (λ (n : ℕ). nat_lt n 200_000) (count_of terms world kit stands)) ∙ full _ is in
    rw test refl

pub day_full_done : {T E : Type 0} (items : T → List ℕ) (kit new : Kit) (security : ℤ) (r : Result T E) → new ≡ kit
    → IsTrue (is_day_full (length kit.day.state.core.accepted)) → IfOk r (λ text. items text ≡ text_of (day_full_line ∷ []))
    → IfOk r (λ text. Does (λ terms world. done_by terms world (kind.Clear security)) kit new (items text))
day_full_done items kit new security (Err e) same is said = tt
day_full_done items kit new security (Ok text) same is said =
    does_says (λ terms world. done_by terms world (kind.Clear security)) (λ terms world. world) (λ terms world. day_full_line ∷ []) kit new (items text)
    (full_as kit security is) (λ terms world stands. subst (λ (k : Kit). Stands terms world k) (sym same) stands) (λ terms world stands. said)

-- it isn't so where the answer is another
pub not_so : {T E P : Type 0} (r : Result T E) (x : T) (e : E) → r ≡ Ok x → ((r ≡ Err e) ↔ P) → P → ⊥
not_so {T} {E} r x e is both p =
    let bad : r ≡ Err e = both.1 p in
    absurd (cc)
