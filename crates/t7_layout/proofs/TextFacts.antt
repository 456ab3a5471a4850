-- Bytes that begin with others.
use Rattle.std.proofs.Common.{◌≡◌, ◌∙◌, ℕ, List, [], ◌∷◌, ◌++◌, length, take, refl, ap}
use Rattle.t7_layout.specs.Texts.{BeginsWith}

pub take_front : (old more new : List ℕ) → take (length (old ++ more)) new ≡ old ++ more → take (length old) new ≡ old
take_front [] more new h = refl
take_front (x ∷ xs) more [] h = cc h
take_front (x ∷ xs) more (y ∷ ys) h =
    let first : y ≡ x = cc h in
    let rest : take (length (xs ++ more)) ys ≡ xs ++ more = cc h in
    ap (λ (z : ℕ). z ∷ take (length xs) ys) first ∙ ap (λ (zs : List ℕ). x ∷ zs) (take_front xs more ys rest)

-- what begins with more begins with less
pub begins_through : (old mid more new : List ℕ) → mid ≡ old ++ more → BeginsWith mid new → BeginsWith old new
begins_through old mid more new e b =
    let front : take (length (old ++ more)) new ≡ old ++ more = (let f = b.front in rw e at f) in
    record { front = take_front old more new front }
