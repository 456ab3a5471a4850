use Rattle.t7_levels.proofs.HoleLemmas.{slot_found, hole_found, hole_gap, gap_stands}
use Rattle.t7_levels.proofs.names.slot_at.Goals as goal

pub returns-in-Some-clause-found : goal.returns-in-Some-clause-found
returns-in-Some-clause-found g c = slot_found g.K.Ord.cmp g.met.K.Ord.total c.args.entries.now c.args.name c.in-Ok.at c.in-Some.slot _ c.in-Ok.ensures.found c.in-Some.is

pub returns-in-None-clause-absent : goal.returns-in-None-clause-absent
returns-in-None-clause-absent g c none = hole_gap g.K.Ord.cmp g.met.K.Ord.total c.args.entries.now c.args.name c.requires (hole_found g.K.Ord.cmp g.met.K.Ord.total c.args.entries.now c.args.name c.in-Ok.at _ c.in-Ok.ensures.found c.in-None.is).0

pub returns-in-Err-clause-absent : goal.returns-in-Err-clause-absent
returns-in-Err-clause-absent g c none = gap_stands g.K.Ord.cmp g.met.K.Ord.total c.args.entries.now c.args.name c.in-Err.ensures.absent.gap.0
