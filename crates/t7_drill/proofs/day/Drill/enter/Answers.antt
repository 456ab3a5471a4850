-- The request is entered as in the drill.
use Rattle.std.proofs.Common.{ap, arith}
use Rattle.t7_drill.specs.Kits.{Kit}
use Rattle.t7_drill.specs.Worlds.{entered}
use Rattle.t7_drill.proofs.Standing.{entered_on, within_entered}
use Rattle.t7_drill.proofs.day.Drill.enter.Goals as goal

pub note-requires : goal.note-requires
note-requires c = (let within = (c.in_ok-rejected.ensures.within 100_000 c.requires.within).rejects in omega arith)

pub count-requires-clause-first : goal.count-requires-clause-first
count-requires-clause-first c =
    let within = (c.in_ok-rejected.ensures.within 100_000 c.requires.within).first in
    let same = ap (λ (k : Kit). k.first) c.note.ensures in omega arith

pub count-requires-clause-second : goal.count-requires-clause-second
count-requires-clause-second c =
    let within = (c.in_ok-rejected.ensures.within 100_000 c.requires.within).second in
    let same = ap (λ (k : Kit). k.second) c.note.ensures in omega arith

pub returns-clause-stands : goal.returns-clause-stands
returns-clause-stands c = λ w stands.
    c.count.ensures.stands (entered c.args.conn c.args.request.now w)
    (entered_on c.args.conn c.args.request.now w c.args.self.now c.ask.new.self c.note.new.self c.in_ok-rejected.rejected stands
    (c.in_ok-rejected.ensures.stands w stands) c.in_ok-rejected.ensures.rejected c.note.ensures)

pub returns-clause-within : goal.returns-clause-within
returns-clause-within c = λ n within.
    within_entered n c.ask.new.self c.note.new.self c.count.new.self c.in_ok-rejected.rejected (c.in_ok-rejected.ensures.within n within) c.note.ensures
    c.count.ensures.day c.count.ensures.table c.count.ensures.rejects c.count.ensures.first c.count.ensures.second
