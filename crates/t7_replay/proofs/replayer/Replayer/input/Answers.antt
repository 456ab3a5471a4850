use Rattle.std.proofs.Common.{rules, ◌≡◌, subst, true}
use Rattle.t7_entry.specs.Events.{Bytes}
use Rattle.t7_entry.specs.Days.{Day}
use Rattle.t7_entry.specs.Stalls.{IsOpen}
use Rattle.t7_script.specs.declared.event.Event.TheVariants as kind
use Rattle.t7_replay.specs.Steps.{done_by}
use Rattle.t7_replay.proofs.Opening.{after_event, input_as, where_true}
use Rattle.t7_replay.proofs.replayer.Replayer.input.Goals as goal

pub returns-clause-done : goal.returns-clause-done
returns-clause-done c =
    let kit = c.args.self.now in
    let yes : c.is_open.result ≡ true = search rules in
    let day : c.self.inside.exchange ≡ c.args.self.now.day = search rules in
    let is_open : IsOpen c.args.self.now.day c.args.conn = subst (λ (d : Day). IsOpen d c.args.conn) day (where_true c.is_open.result _ _ yes c.is_open.ensures) in
    after_event (λ text. text.items) (λ terms world. done_by terms world (kind.Input c.args.conn c.args.bytes.now)) kit _ c.enter.new.self
    (Bytes c.args.conn c.args.bytes.now kit.moment) c.enter.result c.enter.ensures.done (search rules)
    (input_as kit c.args.conn c.args.bytes.now (search rules) is_open)
