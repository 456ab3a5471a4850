use Rattle.std.proofs.Common.{arith}
use Rattle.t7_snapshot.proofs.Onward.{nearest_join}
use Rattle.t7_snapshot.proofs.Search.{between_join, nearest_none}
use Rattle.t7_snapshot.proofs.assembler.Assembler.find_begin.Goals as goal

pub returns-then-was_read-clause-nearest : goal.returns-then-was_read-clause-nearest
returns-then-was_read-clause-nearest c =
    let between = between_join _ _ _ _ c.loop-opens.invariant.between c.before-n.ensures.between in
    nearest_join _ c.before-n.result c.args.i _ (let l = c.loop-opens.invariant.low in let b = c.before-n.ensures.less in omega arith) between c.if-was_read.ensures.nearest

pub loop-opens-preserved : goal.loop-opens-preserved
loop-opens-preserved c = record {
  low = (let l = c.loop-opens.invariant.low in let b = c.before-n.ensures.less in omega arith);
  between = between_join _ _ _ _ c.loop-opens.invariant.between c.before-n.ensures.between;
}

pub returns-clause-nearest : goal.returns-clause-nearest
returns-clause-nearest c = λ p near. nearest_none _ c.loop-opens.n c.args.i p c.loop-opens.invariant.low c.loop-opens.invariant.between c.in_default.ensures.kept near
