use Rattle.std.proofs.Common.{◌≡◌, ◌≤◌, ◌%◌, get_or, refl, sym, ap, ◌∙◌}
use Rattle.t7_snapshot.specs.Store.{held, free}
use Rattle.t7_snapshot.proofs.Held.{not_held, stands_held, read_at}
use Rattle.t7_snapshot.proofs.assembler.Assembler.at.Goals as goal

read_here : (c : goal.After-bytes) → get_or c.self.inside.ring.items (c.args.n % c.self.inside.product.now.packets) free ≡ c.index-slot.result.now
read_here c = read_at c.self.inside.product.now.packets c.args.n c.self.inside.ring.items c.index-slot.result.now free c.self.invariant.ring.some c.self.invariant.ring.full (rw c.packets.ensures.value at c.index-slot.ensures)

pub returns-then-not-is_near-clause-held : goal.returns-then-not-is_near-clause-held
unfolding held
returns-then-not-is_near-clause-held c = not_held _ _ _ _ (λ snaps s. (let e = c.if-not-is_near.ensures.near.1 (s.some, s.near) in absurd (cc e)))

pub returns-then-number-n-clause-held : goal.returns-then-number-n-clause-held
unfolding held
returns-then-number-n-clause-held c =
    let near = rw (← c.self.view_is) at (c.if-not-is_near.ensures.near.0 refl) in
    rw (← c.self.view_is) (stands_held _ _ _ _ _ (record {
      some = near.0;
      near = near.1;
      number = ap (λ x. x.0) (read_here c) ∙ sym c.number.ensures ∙ c.if-number-n.true;
      is = ap (λ x. x.1) (read_here c) ∙ sym c.bytes.ensures;
    }))

pub returns-then-number-n-clause-bound : goal.returns-then-number-n-clause-bound
returns-then-number-n-clause-bound c =
    let near = c.if-not-is_near.ensures.near.0 refl in
    let below = c.self.invariant.ring.below (c.args.n % c.self.inside.product.now.packets) in
    let number = ap (λ x. x.0) (read_here c) ∙ sym c.number.ensures ∙ c.if-number-n.true in
    (near.0, rw (← c.self.view_is) (let top : c.args.n ≤ c.self.inside.highest = rw number at below in top))

pub returns-else-number-n-clause-held : goal.returns-else-number-n-clause-held
unfolding held
returns-else-number-n-clause-held c =
    let here = read_at c.self.inside.product.now.packets c.args.n c.self.inside.ring.items c.index-slot.result.now free c.self.invariant.ring.some c.self.invariant.ring.full (rw c.packets.ensures.value at c.index-slot.ensures) in
    rw (← c.self.view_is) (not_held _ _ _ _ (λ snaps s. c.if-number-n.false (c.number.ensures ∙ sym (ap (λ x. x.0) here) ∙ s.number)))
