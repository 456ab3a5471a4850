use Rattle.std.proofs.Common.{rules, ◌≡◌, Option, Some, true, false, []}
use Rattle.t7_entry.specs.Days.{day_after}
use Rattle.t7_entry.specs.Events.{Opened}
use Rattle.t7_entry.specs.Stalls.{IsShut}
use Rattle.t7_script.specs.declared.event.Event.TheVariants as kind
use Rattle.t7_replay.specs.Calling.{Calling, any_on_line, client_for, dials, is_for}
use Rattle.t7_replay.specs.Steps.{done_by}
use Rattle.t7_replay.proofs.Dialing.{dial_as, dial_few, dial_same, dial_sound, dialed_in}
use Rattle.t7_replay.proofs.Opening.{after_call}
use Rattle.t7_replay.proofs.replayer.Replayer.dial.Goals as goal

pub returns-clause-done : goal.returns-clause-done
returns-clause-done c =
    let kit = c.args.self.now in
    let conn = c.args.conn in
    let session = c.args.session in
    let own : Option Calling = Some (dials conn (client_for c.args.self.now.layouts session c.args.self.now.caller)) in
    let shut : IsShut c.args.self.now.day c.args.conn = search rules in
    let off : any_on_line c.args.self.now.caller ≡ false = search rules in
    let first : is_for c.args.session c.args.self.now.caller ≡ true = search rules in
    let is : c.open_shut.new.self ≡ record c.args.self.now { caller = own; day = day_after c.args.self.now.day (Opened c.args.conn) } = search rules in
    after_call (λ text. text.items) (λ terms world. done_by terms world (kind.Dial conn session)) kit c.open_shut.new.self c.enter.new.self
    own (λ terms world. dialed_in terms world conn session) (λ world. []) (Opened conn) c.enter.result c.enter.ensures.done is
    (dial_same kit conn session) (dial_few kit conn session) (dial_sound kit conn session c.requires.0 c.requires.1) (λ terms world stands. tt) (dial_as kit conn session shut off first)
