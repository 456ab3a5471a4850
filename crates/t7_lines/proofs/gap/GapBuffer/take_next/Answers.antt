use Rattle.std.proofs.Common.{◌≡◌, ◌+◌, ◌%◌, Some, None, sym, ◌∙◌, get_or, length-set, arith}
use Rattle.t7_lines.specs.Gap.{kept_at}
use Rattle.t7_lines.specs.Ring.{entries, said_at}
use Rattle.t7_lines.proofs.Rings.{freed_placed, not_within, stands_read, takes_none, takes_off, was_read}
use Rattle.t7_lines.proofs.gap.GapBuffer.take_next.Goals as goal

-- outside the window nothing is kept under the number
none_outside : (c : goal.Then-not-is_within) → kept_at (entries c.self.inside.window c.self.inside.highest c.self.inside.ring.items) (c.args.n + 1) ≡ None
none_outside c = not_within c.self.inside.window c.self.inside.highest (c.args.n + 1) c.self.inside.ring.items c.self.invariant.placed
    (λ within. (let e = c.is_within.ensures.1 within in let f = c.if-not-is_within.true in absurd (cc (e, f))))

pub returns-then-not-is_within-clause-answer : goal.returns-then-not-is_within-clause-answer
returns-then-not-is_within-clause-answer c = rw (← c.self.view_is) (sym (none_outside c))

pub returns-then-not-is_within-clause-kept : goal.returns-then-not-is_within-clause-kept
returns-then-not-is_within-clause-kept c = rw (← c.self.view_is) (takes_none (c.args.n + 1) _ (none_outside c))

-- nor where its place has another
none_there : (c : goal.In_default) → kept_at (entries c.self.inside.window c.self.inside.highest c.self.inside.ring.items) (c.args.n + 1) ≡ None
none_there c =
    was_read c.self.inside.window c.self.inside.highest (c.args.n + 1) c.self.inside.ring.items c.self.invariant.full c.self.invariant.placed c.index.result.now (c.is_within.ensures.0 c.if-not-is_within.false) c.index.ensures
    ∙ sym c.message_at.ensures ∙ c.in_default.is

pub returns-in_default-clause-answer : goal.returns-in_default-clause-answer
returns-in_default-clause-answer c = rw (← c.self.view_is) (sym (none_there c))

pub returns-in_default-clause-kept : goal.returns-in_default-clause-kept
returns-in_default-clause-kept c = rw (← c.self.view_is) (takes_none (c.args.n + 1) _ (none_there c))

-- its place has the message
stands : (c : goal.After-self-1) → said_at (get_or c.self.inside.ring.items ((c.args.n + 1) % c.self.inside.window) None) (c.args.n + 1) ≡ Some c.in-Some.message
stands c =
    let within = c.is_within.ensures.0 c.if-not-is_within.false in
    let top = within.0 in let near = within.1 in
    stands_read c.self.inside.window (c.args.n + 1) c.self.inside.ring.items c.self.invariant.full (omega arith) c.index.result.now c.in-Some.message c.index.ensures c.in-Some.ensures

pub invariant_of-self : goal.invariant_of-self
invariant_of-self c =
    let within = c.is_within.ensures.0 c.if-not-is_within.false in
    record {
      full = rw length-set c.self.invariant.full;
      placed = freed_placed c.self.inside.window c.self.inside.highest (c.args.n + 1) c.in-Some.message c.self.inside.ring.items c.self.invariant.full c.self.invariant.placed within.0 within.1 (stands c);
    }

pub returns-clause-answer : goal.returns-clause-answer
returns-clause-answer c = rw (← c.self.view_is)
    (c.in-Some.ensures ∙ sym (was_read c.self.inside.window c.self.inside.highest (c.args.n + 1) c.self.inside.ring.items c.self.invariant.full c.self.invariant.placed c.index.result.now (c.is_within.ensures.0 c.if-not-is_within.false) c.index.ensures))

pub returns-clause-kept : goal.returns-clause-kept
returns-clause-kept c =
    let within = c.is_within.ensures.0 c.if-not-is_within.false in
    rw (← c.self.view_is)
    (takes_off c.self.inside.window c.self.inside.highest (c.args.n + 1) c.in-Some.message c.self.inside.ring.items c.self.invariant.full c.self.invariant.placed within.0 within.1 (stands c))
