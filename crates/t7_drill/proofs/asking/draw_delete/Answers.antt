use Rattle.std.proofs.Common.{◌+◌, arith, rules}
use Rattle.t7_drill.proofs.Ordinary.{askable_as, delete_sayable, ordinary_as}
use Rattle.t7_drill.proofs.asking.draw_delete.Goals as goal

pub returns-clause-ordinary : goal.returns-clause-ordinary
returns-clause-ordinary c = ordinary_as _ _ (search rules)
    (delete_sayable c.args.number (1 + c.next-order.result) c.requires.number
    (let below = c.next-order.ensures.below in let last = c.requires.last in omega arith))

pub returns-clause-askable : goal.returns-clause-askable
returns-clause-askable c = askable_as _ _ (search rules)
    (delete_sayable c.args.number (1 + c.next-order.result) c.requires.number
    (let below = c.next-order.ensures.below in let last = c.requires.last in omega arith))
