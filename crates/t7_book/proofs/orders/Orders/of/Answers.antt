use Rattle.std.proofs.Common.{ℕ, List, length, get_or, sym, ap, subst, ◌∙◌, arith}
use Rattle.std.proofs.lemmas.List.{get_or-replicate, length-replicate}
use Rattle.t7_levels.specs.Chain as chain
use Rattle.t7_book.specs.declared.kept.Kept.{Kept}
use Rattle.t7_book.specs.Laws.{Distinct, IsInOrder}
use Rattle.t7_book.specs.Kept.{IsNumbered, count_at, orders_in}
use Rattle.t7_book.proofs.orders.Orders.of.Goals as goal

pub invariant_of-result : goal.invariant_of-result
invariant_of-result c =
    let S = c.args.sides in
    let none = sym c.requires.none in
    record {
      places = ap length c.requires.counts ∙ length-replicate (length S) 0;
      counted = λ i within.
          ap (λ (ns : List ℕ). get_or ns i 0) c.requires.counts
          ∙ get_or-replicate (length S) i 0 0 within
          ∙ ap (λ (ks : List Kept). count_at S i (orders_in ks)) none;
      sides = c.requires.sides;
      numbered = subst (chain.Each (IsNumbered S)) none tt;
      few = let long = ap length c.requires.none in omega (arith, long);
      in_order = subst (λ (ks : List Kept). IsInOrder S (orders_in ks)) none tt;
      distinct = subst (λ (ks : List Kept). Distinct (orders_in ks)) none tt;
    }
