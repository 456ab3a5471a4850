use Rattle.std.proofs.Common.{rules}
use Rattle.t7_drill.proofs.Ordinary.{askable_as, new_sayable, ordinary_as}
use Rattle.t7_drill.proofs.asking.order.Goals as goal

pub returns-clause-ordinary : goal.returns-clause-ordinary
returns-clause-ordinary c = ordinary_as _ _ (search rules)
    (new_sayable c.args.number c.args.side c.args.security c.args.price c.args.qty
    c.requires.number c.requires.side c.requires.security c.requires.price c.requires.qty)

pub returns-clause-askable : goal.returns-clause-askable
returns-clause-askable c = askable_as _ _ (search rules)
    (new_sayable c.args.number c.args.side c.args.security c.args.price c.args.qty
    c.requires.number c.requires.side c.requires.security c.requires.price c.requires.qty)
