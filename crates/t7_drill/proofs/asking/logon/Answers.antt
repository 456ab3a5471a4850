use Rattle.t7_drill.proofs.Ordinary.{logon_sayable}
use Rattle.t7_drill.proofs.asking.logon.Goals as goal

pub returns-clause-ordinary : goal.returns-clause-ordinary
returns-clause-ordinary c = (logon_sayable c.args.session c.requires).ordinary

pub returns-clause-askable : goal.returns-clause-askable
returns-clause-askable c = (logon_sayable c.args.session c.requires).askable
