use Rattle.std.proofs.Common.{rules, ◌≡◌, subst, true}
use Rattle.t7_entry.specs.Events.{Closed}
use Rattle.t7_entry.specs.Days.{Day}
use Rattle.t7_entry.specs.Stalls.{IsOpen}
use Rattle.t7_script.specs.declared.event.Event.TheVariants as kind
use Rattle.t7_replay.specs.Calling.{cut_on}
use Rattle.t7_replay.specs.Steps.{done_by}
use Rattle.t7_replay.proofs.Opening.{after_call, cut_as, cut_few, cut_same, cut_sound, said_same, where_true}
use Rattle.t7_replay.proofs.replayer.Replayer.cut.Goals as goal

pub returns-clause-done : goal.returns-clause-done
returns-clause-done c =
    let kit = c.args.self.now in
    let yes : c.is_open.result ≡ true = search rules in
    let day : c.self.inside.exchange ≡ c.args.self.now.day = search rules in
    let is_open : IsOpen c.args.self.now.day c.args.conn =
    subst (λ (d : Day). IsOpen d c.args.conn) day (where_true c.is_open.result _ _ yes c.is_open.ensures) in
    after_call (λ text. text.items) (λ terms world. done_by terms world (kind.Cut c.args.conn)) kit _ c.enter.new.self
    (cut_on kit.caller c.args.conn) (λ terms world. cut_on world.caller c.args.conn) (λ world. world.said)
    (Closed c.args.conn) c.enter.result c.enter.ensures.done (search rules)
    (cut_same kit c.args.conn) (cut_few kit c.args.conn) (cut_sound kit c.args.conn) (said_same kit) (cut_as kit c.args.conn is_open)
