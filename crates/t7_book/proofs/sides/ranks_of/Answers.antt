use Rattle.std.proofs.Common.{◌≡◌, ℕ, ℤ, ◌+◌, ◌<◌, ◌++◌, ◌∷◌, List, [], Option, length, take, sym, ap, ◌∙◌, arith}
use Rattle.std.specs.Ordering.{int_eq}
use Rattle.std.proofs.lemmas.List.{take_more, take_all, length-take-le}
use Rattle.t7_book.specs.Numbers.{rank_in, noted}
use Rattle.t7_book.proofs.Noting.{noted_last}
use Rattle.t7_book.proofs.sides.ranks_of.Goals as goal

pub loop-rank-preserved : goal.loop-rank-preserved
loop-rank-preserved c s =
    let xs = c.args.securities.now in
    let i = c.loop-rank.rank in
    let x = c.index-securities-rank.result in
    let inside : i < length xs = omega arith in
    let more : take i xs ++ x ∷ [] ≡ take (i + 1) xs = ap (λ (y : ℤ). take i xs ++ y ∷ []) c.index-securities-rank.is ∙ sym (take_more xs i x inside) in
    let size : length (take i xs) ≡ i = length-take-le i xs (omega (arith, inside)) in
    c.in_ok-note.ensures s
    ∙ ap (λ (o : Option ℕ). noted o (int_eq x s) i) (c.loop-rank.invariant s)
    ∙ ap (λ (n : ℕ). noted (rank_in (take i xs) s) (int_eq x s) n) (sym size)
    ∙ noted_last (take i xs) x s
    ∙ ap (λ (us : List ℤ). rank_in us s) more

pub returns : goal.returns
returns c s = c.loop-rank.invariant s ∙ ap (λ (us : List ℤ). rank_in us s) (take_all c.loop-rank.rank c.args.securities.now (omega arith))
