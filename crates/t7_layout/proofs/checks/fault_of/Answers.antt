use Rattle.std.proofs.Common.{sym, arith}
use Rattle.t7_layout.proofs.FaultFacts.{empty_fault}
use Rattle.std.proofs.Common.{rules}
use Rattle.t7_layout.specs.Faults.{fault_of, looked_at}
use Rattle.t7_layout.proofs.checks.fault_of.Goals as goal

pub returns-then-len-eq0 : goal.returns-then-len-eq0
returns-then-len-eq0 c = sym (empty_fault c.args.rows.now (omega arith))

pub returns-in-Some : goal.returns-in-Some
unfolding fault_of looked_at
returns-in-Some c = search rules

pub returns-then-has_roles : goal.returns-then-has_roles
unfolding fault_of looked_at
returns-then-has_roles c = search rules

pub returns : goal.returns
unfolding fault_of looked_at
returns c = search rules
