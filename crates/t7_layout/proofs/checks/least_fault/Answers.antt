use Rattle.std.proofs.Common.{◌≡◌, ◌-◌, ◌+◌, sym, ◌∙◌, ap, arith, length, ℕ}
use Rattle.t7_layout.specs.Faults.{fault_at, least_fault}
use Rattle.t7_layout.proofs.FaultFacts.{least_found, least_next, least_none}
use Rattle.t7_layout.proofs.checks.least_fault.Goals as goal

pub returns-in-Some : goal.returns-in-Some
returns-in-Some c =
    let rows = c.args.rows.now in
    sym (c.loop-at.invariant.least ∙ least_found (fault_at rows) c.loop-at.at (length rows - c.loop-at.at) c.in-Some.why (omega arith) (sym c.fault_at.ensures ∙ c.in-Some.is))

pub loop-at-preserved : goal.loop-at-preserved
loop-at-preserved c =
    let rows = c.args.rows.now in
    let at = c.loop-at.at in
    let left : length rows - at - 1 ≡ length rows - (at + 1) = omega arith in
    record {
      least = c.loop-at.invariant.least ∙ least_next (fault_at rows) at (length rows - at) (omega arith) (sym c.fault_at.ensures ∙ c.in-None.is)
          ∙ ap (λ (n : ℕ). least_fault (fault_at rows) (at + 1) n) left;
      passed = c.in_ok-pass.ensures;
    }

pub returns : goal.returns
returns c =
    let rows = c.args.rows.now in
    sym (c.loop-at.invariant.least ∙ least_none (fault_at rows) c.loop-at.at (length rows - c.loop-at.at) (omega arith))
