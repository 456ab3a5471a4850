use Rattle.std.proofs.Common.{rules, ◌≡◌, Ok}
use Rattle.t7_script.specs.Events.{event_of}
use Rattle.t7_replay.proofs.Forms.{read_form}
use Rattle.t7_replay.proofs.replayer.Replayer.do_line.Goals as goal

pub perform-requires-clause-form : goal.perform-requires-clause-form
perform-requires-clause-form c =
    let is : event_of (record { listing = c.args.self.now.listing; moment = c.args.self.now.moment }) c.args.line.now ≡ Ok c.in-Ok.event = search rules in
    read_form c.a_cleared_security_is_listed.ensures (record { listing = c.args.self.now.listing; moment = c.args.self.now.moment }) c.args.line.now c.in-Ok.event is
