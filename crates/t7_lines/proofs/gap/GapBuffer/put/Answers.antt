use Rattle.std.proofs.Common.{◌≡◌, ◌+◌, ◌<◌, ◌≤◌, max, inr, refl, sym, ◌∙◌, length-set, arith}
use Rattle.t7_lines.specs.Gap.{kept_at}
use Rattle.t7_lines.specs.Ring.{entries}
use Rattle.t7_lines.proofs.Rings.{far_was, is_found, is_missing, now_placed, placed_rises, puts_new, puts_old, puts_outside, was_found}
use Rattle.t7_lines.proofs.gap.GapBuffer.put.Goals as goal

pub invariant_of-self : goal.invariant_of-self
invariant_of-self c = record {
  full = c.self.invariant.full;
  placed = (let m = c.max-self-inside.ensures in placed_rises c.self.inside.window c.self.inside.highest c.max-self-inside.result 0 c.self.inside.ring.items (omega arith) c.self.invariant.placed);
}

pub returns-then-not-is_below-clause-kept : goal.returns-then-not-is_below-clause-kept
returns-then-not-is_below-clause-kept c = rw (← c.self.view_is, c.max-self-inside.ensures)
    (puts_old c.self.inside.window c.self.inside.highest c.args.number c.self.inside.ring.items c.self.invariant.full c.self.invariant.placed c.args.message)

-- the number is outside the window
far : (c : goal.Then-self-number) → c.args.number + c.self.inside.window ≤ max c.args.number c.self.inside.highest
far c = let m = c.max-self-inside.ensures in let t = c.if-self-number.true in omega arith

pub returns-then-self-number-clause-answer : goal.returns-then-self-number-clause-answer
returns-then-self-number-clause-answer c = rw (← c.self.view_is) (
  c.if-not-is_below.ensures.0 refl,
  far_was c.self.inside.window c.self.inside.highest c.args.number c.self.inside.ring.items c.self.invariant.full c.self.invariant.placed (far c),
  far c,
)

pub returns-then-self-number-clause-kept : goal.returns-then-self-number-clause-kept
returns-then-self-number-clause-kept c = rw (← c.self.view_is, c.max-self-inside.ensures)
    (puts_outside c.self.inside.window c.self.inside.highest c.args.number c.self.inside.ring.items c.self.invariant.full c.self.invariant.placed c.args.message (far c))

-- past that test it is in the window, and what is kept under it is what was found
near : (c : goal.After-self-2-1) → max c.args.number c.self.inside.highest < c.args.number + c.self.inside.window
near c = let m = c.max-self-inside.ensures in let t = c.if-self-number.false in omega arith

near_then : (c : goal.Then-is_some) → max c.args.number c.self.inside.highest < c.args.number + c.self.inside.window
near_then c = let m = c.max-self-inside.ensures in let t = c.if-self-number.false in omega arith

was : (c : goal.After-self-2-1) → kept_at (entries c.self.inside.window c.self.inside.highest c.self.inside.ring.items) c.args.number ≡ c.message_at-found.result
was c = was_found c.self.inside.window c.self.inside.highest c.args.number c.self.inside.ring.items c.self.invariant.full c.self.invariant.placed c.index.result.now c.message_at-found.result (near c) c.index.ensures c.message_at-found.ensures

was_then : (c : goal.Then-is_some) → kept_at (entries c.self.inside.window c.self.inside.highest c.self.inside.ring.items) c.args.number ≡ c.message_at-found.result
was_then c = was_found c.self.inside.window c.self.inside.highest c.args.number c.self.inside.ring.items c.self.invariant.full c.self.invariant.placed c.index.result.now c.message_at-found.result (near_then c) c.index.ensures c.message_at-found.ensures

pub invariant_of-self-then-is_some : goal.invariant_of-self-then-is_some
invariant_of-self-then-is_some c = record {
  full = c.self.invariant.full;
  placed = (let m = c.max-self-inside.ensures in placed_rises c.self.inside.window c.self.inside.highest c.max-self-inside.result 0 c.self.inside.ring.items (omega arith) c.self.invariant.placed);
}

pub returns-then-is_some-clause-answer : goal.returns-then-is_some-clause-answer
returns-then-is_some-clause-answer c = rw (← c.self.view_is)
    (let found = is_found c.message_at-found.result (sym c.is_some.ensures ∙ c.if-is_some.true) in inr (found.0, was_then c ∙ found.1))

pub returns-then-is_some-clause-kept : goal.returns-then-is_some-clause-kept
returns-then-is_some-clause-kept c = rw (← c.self.view_is, c.max-self-inside.ensures)
    (puts_old c.self.inside.window c.self.inside.highest c.args.number c.self.inside.ring.items c.self.invariant.full c.self.invariant.placed c.args.message)

pub invariant_of-self-2 : goal.invariant_of-self-2
invariant_of-self-2 c = record {
  full = rw length-set c.self.invariant.full;
  placed = rw c.max-self-inside.ensures (now_placed c.self.inside.window c.self.inside.highest c.args.number c.self.inside.ring.items c.self.invariant.full c.self.invariant.placed c.args.message (near c));
}

pub returns-clause-answer : goal.returns-clause-answer
returns-clause-answer c = rw (← c.self.view_is)
    (c.if-not-is_below.ensures.0 refl, was c ∙ is_missing c.message_at-found.result (sym c.is_some.ensures ∙ c.if-is_some.false), near c)

pub returns-clause-kept : goal.returns-clause-kept
returns-clause-kept c = rw (← c.self.view_is, c.max-self-inside.ensures)
    (puts_new c.self.inside.window c.self.inside.highest c.args.number c.self.inside.ring.items c.self.invariant.full c.self.invariant.placed c.args.message (near c))
