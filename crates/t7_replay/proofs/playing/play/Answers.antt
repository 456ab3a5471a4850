use Rattle.std.proofs.Common.{◌≡◌, subst}
use Rattle.t7_base.specs.Outside.{Grew}
use Rattle.t7_feed.specs.Arrivals.{Terms}
use Rattle.t7_outcome.specs.Outcome.{Ends, Wrote}
use Rattle.t7_replay.specs.Kits.{terms_of}
use Rattle.t7_replay.specs.Reports.{IsReported}
use Rattle.t7_replay.specs.Script.{lines_of}
use Rattle.t7_replay.specs.Steps.{played}
use Rattle.t7_replay.specs.World.{new_world}
use Rattle.t7_replay.proofs.Acting.{nothing_at}
use Rattle.t7_replay.proofs.Beginning.{terms_are}
use Rattle.t7_replay.proofs.playing.play.Goals as goal

-- memory was wanting
pub returns-in_default-clause-written : goal.returns-in_default-clause-written
returns-in_default-clause-written g c =
    nothing_at _ (played (record { layouts = c.args.table.now; listing = c.args.product.now }) new_world (lines_of c.args.script.now))

-- the lines were played

pub returns-clause-end : goal.returns-clause-end
returns-clause-end g c =
    let terms : Terms = record { layouts = c.args.table.now; listing = c.args.product.now } in
    let same : terms_of c.in-Ok.replayer ≡ terms = terms_are terms c.in-Ok.replayer c.in-Ok.ensures in
    subst (λ (t : Terms). Ends (played t new_world (lines_of c.args.script.now)) c.play_lines.result) same c.play_lines.ensures.end

pub returns-clause-written : goal.returns-clause-written
returns-clause-written g c =
    let terms : Terms = record { layouts = c.args.table.now; listing = c.args.product.now } in
    let same : terms_of c.in-Ok.replayer ≡ terms = terms_are terms c.in-Ok.replayer c.in-Ok.ensures in
    subst (λ (t : Terms). Grew (g.S.Sink.written c.args.sink.now) (g.S.Sink.written c.play_lines.new.sink)
    (Wrote IsReported (played t new_world (lines_of c.args.script.now)) c.play_lines.result)) same c.play_lines.ensures.written
