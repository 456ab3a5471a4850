-- Events that are passed over, since nothing is left of them.
use Rattle.std.proofs.Common.{◌≡◌, ℕ, zero, suc, ◌+◌, ◌<◌, List, [], ◌∷◌, length, drop, get_or, slice_get, Some, refl, sym, ◌∙◌, ap, arith, add-one}
use Rattle.std.proofs.lemmas.Option.{slice_get_within, get_or_from_slice_get}
use Rattle.std.proofs.Math.Seq.{drop-cons}
use Rattle.t7_net.specs.declared.link.LinkItem.{LinkItem}
use Rattle.t7_net.specs.declared.link.LinkItem.TheVariants as item
use Rattle.t7_memory.specs.LinkStates.{IsLeft, behind, trimmed}

behind_none : (items : List LinkItem) → behind 0 items ≡ items
behind_none [] = refl
behind_none (item.Bytes conn bytes ∷ items) = refl
behind_none (item.Opened conn ∷ items) = refl
behind_none (item.Closed conn ∷ items) = refl
behind_none (item.Quiet ∷ items) = refl

none_left : (start : ℕ) (bytes : List ℕ) → (start < length bytes → ⊥) → drop start bytes ≡ []
none_left zero [] none = refl
none_left zero (b ∷ bytes) none = absurd (none (omega arith))
none_left (suc start) [] none = refl
none_left (suc start) (b ∷ bytes) none = none_left start bytes (λ below. none (omega arith))

trim_empty : (conn : ℕ) (bytes : List ℕ) (items : List LinkItem) → bytes ≡ [] → trimmed (item.Bytes conn bytes ∷ items) ≡ trimmed items
trim_empty conn bytes items is = ap (λ (b : List ℕ). trimmed (item.Bytes conn b ∷ items)) is

pass_first : (first : LinkItem) (items : List LinkItem) (start : ℕ) → (IsLeft first start → ⊥) → trimmed (behind start (first ∷ items)) ≡ trimmed items
pass_first (item.Bytes conn bytes) items start none = trim_empty conn (drop start bytes) items (none_left start bytes none)
pass_first (item.Opened conn) items start none = absurd (none tt)
pass_first (item.Closed conn) items start none = absurd (none tt)
pass_first item.Quiet items start none = absurd (none tt)

-- an item of which nothing is left is passed
pub pass : (items : List LinkItem) (at start : ℕ) (first : LinkItem) → slice_get items at ≡ Some first → (IsLeft first start → ⊥)
    → trimmed (behind 0 (drop (at + 1) items)) ≡ trimmed (behind start (drop at items))
pass items at start first is none =
    let inside : at < length items = slice_get_within items at first is in
    let next : drop at items ≡ get_or items at first ∷ drop (at + 1) items = rw add-one (drop-cons items at first inside) in
    let split : drop at items ≡ first ∷ drop (at + 1) items = next ∙ ap (λ (f : LinkItem). f ∷ drop (at + 1) items) (get_or_from_slice_get items at first first is) in
    ap trimmed (behind_none (drop (at + 1) items))
    ∙ sym (pass_first first (drop (at + 1) items) start none)
    ∙ ap (λ (l : List LinkItem). trimmed (behind start l)) (sym split)
