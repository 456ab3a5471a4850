use Rattle.std.proofs.Common.{rules, ◌≡◌, Err, arith}
use Rattle.t7_replay.specs.Kits.{terms_of}
use Rattle.t7_replay.specs.Script.{lines_of}
use Rattle.t7_replay.specs.Steps.{played}
use Rattle.t7_replay.specs.World.{new_world}
use Rattle.t7_replay.proofs.Played.{playing_next, playing_stopped, playing_stopped_end}
use Rattle.t7_replay.proofs.playing.play_lines.Goals as goal

pub returns-in_err-act-clause-end : goal.returns-in_err-act-clause-end
returns-in_err-act-clause-end g c =
    let terms = terms_of c.args.replayer.now in
    let is : c.from_residual.result ≡ Err c.in_err-act.field-0.0 = search rules in
    rw is (playing_stopped_end terms c.loop-rest.replayer (lines_of c.loop-rest.rest.now) c.first_line.result.0.now (lines_of c.first_line.result.1.now)
    (played terms new_world (lines_of c.args.script.now)) _ _ c.in_err-act.field-0.0 c.first_line.ensures.lines c.loop-rest.invariant.playing c.in_err-act.ensures.stopped)

pub returns-in_err-act-clause-written : goal.returns-in_err-act-clause-written
returns-in_err-act-clause-written g c =
    let terms = terms_of c.args.replayer.now in
    let is : c.from_residual.result ≡ Err c.in_err-act.field-0.0 = search rules in
    rw is (playing_stopped terms c.loop-rest.replayer (lines_of c.loop-rest.rest.now) c.first_line.result.0.now (lines_of c.first_line.result.1.now)
    (played terms new_world (lines_of c.args.script.now)) _ _ _ c.in_err-act.field-0.0 c.first_line.ensures.lines c.loop-rest.invariant.playing
    c.in_err-act.ensures.stopped c.in_err-act.ensures.stopped_at)

pub loop-rest-preserved : goal.loop-rest-preserved
loop-rest-preserved g c =
    let terms = terms_of c.args.replayer.now in record {
      playing = playing_next (record { served = c.clients_are_served.ensures; comes = c.what_comes_is_gathered.ensures; asks = c.clients_ask_for_responses.ensures }) terms c.loop-rest.replayer c.act.new.self (lines_of c.loop-rest.rest.now) c.first_line.result.0.now (lines_of c.first_line.result.1.now)
          (played terms new_world (lines_of c.args.script.now)) _ _ _ c.first_line.ensures.lines c.loop-rest.invariant.playing
          c.in_ok-act.ensures.went c.in_ok-act.ensures.wrote;
      count = omega arith;
    }
