use Rattle.std.proofs.Common.{rules, ◌≡◌}
use Rattle.t7_entry.specs.Days.{day_after}
use Rattle.t7_entry.specs.Events.{Opened}
use Rattle.t7_entry.specs.Stalls.{IsShut}
use Rattle.t7_script.specs.declared.event.Event.TheVariants as kind
use Rattle.t7_replay.specs.Steps.{done_by}
use Rattle.t7_replay.proofs.Opening.{after_event, opens_as}
use Rattle.t7_replay.proofs.replayer.Replayer.open.Goals as goal

pub returns-clause-done : goal.returns-clause-done
returns-clause-done c =
    let kit = c.args.self.now in
    let shut : IsShut c.args.self.now.day c.args.conn = search rules in
    let is : c.open_shut.new.self ≡ record c.args.self.now { day = day_after c.args.self.now.day (Opened c.args.conn) } = search rules in
    after_event (λ text. text.items) (λ terms world. done_by terms world (kind.Opens c.args.conn)) kit c.open_shut.new.self c.enter.new.self (Opened c.args.conn)
    c.enter.result c.enter.ensures.done is (opens_as kit c.args.conn shut)
