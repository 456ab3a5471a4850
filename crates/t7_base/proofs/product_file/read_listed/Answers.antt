use Rattle.std.proofs.Common.{◌≡◌, ◌∙◌, ◌+◌, ◌-◌, ℕ, sym, ap, subst, arith, length, rules, ◌<◌}
use Rattle.std.proofs.lemmas.Bool.Decides.{nat_tests}
use Rattle.t7_base.specs.ProductFile.{fault_at, least_fault}
use Rattle.t7_base.specs.ProductLists.{ProductRows, lists_before}
use Rattle.t7_base.proofs.ProductFacts.{found, least_next, missing, no_lists, valid, long}
use Rattle.t7_base.proofs.product_file.read_listed.Goals as goal

pub loop-at-init : goal.loop-at-init
loop-at-init c =
    let all : length c.args.rows.now ≡ length c.args.rows.now - 0 = omega arith in
    record {
      lists = c.new-listed.ensures ∙ no_lists c.args.rows.now;
      faults = ap (λ (n : ℕ). least_fault (fault_at c.args.rows.now) 0 n) all;
    }

pub returns-in-Some-clause-fault : goal.returns-in-Some-clause-fault
returns-in-Some-clause-fault c =
    found c.args.rows.now c.loop-at.at c.in-Some.why (omega arith) c.loop-at.invariant.faults (sym c.fault_at.ensures ∙ c.in-Some.is)

pub loop-at-preserved : goal.loop-at-preserved
loop-at-preserved c =
    let rows = c.args.rows.now in
    let at = c.loop-at.at in
    let left : length rows - at - 1 ≡ length rows - (at + 1) = omega arith in
    record {
      lists = search rules;
      faults = c.loop-at.invariant.faults ∙ least_next (fault_at rows) at (length rows - at) (omega arith) (search rules)
          ∙ ap (λ (n : ℕ). least_fault (fault_at rows) (at + 1) n) left;
    }

-- the loop ended at the last record
pub returns-then-is_empty-clause-fault : goal.returns-then-is_empty-clause-fault
returns-then-is_empty-clause-fault c =
    let rows = c.args.rows.now in
    let last : c.loop-at.at ≡ length rows = omega arith in
    let sessions : c.listed-2.inside.sessions.items ≡ c.loop-at.listed.sessions = ap (λ (l : ProductRows). l.sessions) c.listed-2.view_is in
    let empty : length c.loop-at.listed.sessions ≡ 0 = rw (← sessions) (grind (arith, nat_tests)) in
    rw c.len.ensures
    (missing rows c.loop-at.listed (subst (λ (at : ℕ). c.loop-at.listed ≡ lists_before rows at) last c.loop-at.invariant.lists)
    (subst (λ (at : ℕ). least_fault (fault_at rows) 0 (length rows) ≡ least_fault (fault_at rows) at (length rows - at)) last c.loop-at.invariant.faults)
    empty)

pub returns-clause-some : goal.returns-clause-some
returns-clause-some c =
    let sessions : c.listed-2.inside.sessions.items ≡ c.loop-at.listed.sessions = ap (λ (l : ProductRows). l.sessions) c.listed-2.view_is in
    rw (← sessions) (grind (arith, nat_tests))

pub returns-clause-valid : goal.returns-clause-valid
returns-clause-valid c =
    let rows = c.args.rows.now in
    let last : c.loop-at.at ≡ length rows = omega arith in
    let sessions : c.listed-2.inside.sessions.items ≡ c.loop-at.listed.sessions = ap (λ (l : ProductRows). l.sessions) c.listed-2.view_is in
    let some : 0 < length c.loop-at.listed.sessions = rw (← sessions) (grind (arith, nat_tests)) in
    valid rows c.loop-at.listed (subst (λ (at : ℕ). c.loop-at.listed ≡ lists_before rows at) last c.loop-at.invariant.lists)
    (subst (λ (at : ℕ). least_fault (fault_at rows) 0 (length rows) ≡ least_fault (fault_at rows) at (length rows - at)) last c.loop-at.invariant.faults)
    some

pub returns-clause-long : goal.returns-clause-long
returns-clause-long c =
    let rows = c.args.rows.now in
    let last : c.loop-at.at ≡ length rows = omega arith in
    let sessions : c.listed-2.inside.sessions.items ≡ c.loop-at.listed.sessions = ap (λ (l : ProductRows). l.sessions) c.listed-2.view_is in
    let some : 0 < length c.loop-at.listed.sessions = rw (← sessions) (grind (arith, nat_tests)) in
    long rows c.loop-at.listed (subst (λ (at : ℕ). c.loop-at.listed ≡ lists_before rows at) last c.loop-at.invariant.lists) some
