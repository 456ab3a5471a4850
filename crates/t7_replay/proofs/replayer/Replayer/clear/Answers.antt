use Rattle.std.proofs.Common.{rules, ◌≡◌, IsTrue, Ok, length, subst, sym}
use Rattle.t7_entry.specs.Days.{Day}
use Rattle.t7_entry.specs.Events.{Clear}
use Rattle.t7_orders.specs.Judged.{is_day_full}
use Rattle.t7_exchange.specs.declared.sent.ClearRefusal.TheVariants.{DayFull}
use Rattle.t7_script.specs.declared.event.Event.TheVariants as kind
use Rattle.t7_replay.specs.Steps.{done_by}
use Rattle.t7_replay.proofs.Clearing.{clear_as, day_full_done, not_so}
use Rattle.t7_replay.proofs.Opening.{after_event}
use Rattle.t7_replay.proofs.replayer.Replayer.clear.Goals as goal

pub returns-in-Ok-clause-done : goal.returns-in-Ok-clause-done
returns-in-Ok-clause-done c =
    let kit = c.args.self.now in
    let is : c.clear.result ≡ Ok c.in-Ok.field-0 = search rules in
    let day : c.self.inside.exchange ≡ c.args.self.now.day = search rules in
    after_event (λ text. text.items) (λ terms world. done_by terms world (kind.Clear c.args.security)) kit _ c.enter.new.self
    (Clear c.args.security kit.moment) c.enter.result c.enter.ensures.done (search rules)
    (clear_as kit c.args.security (λ full. not_so c.clear.result c.in-Ok.field-0 DayFull is c.clear.ensures.full
    (subst (λ (d : Day). IsTrue (is_day_full (length d.state.core.accepted))) (sym day) full)))

pub returns-in-Err-DayFull-clause-done : goal.returns-in-Err-DayFull-clause-done
returns-in-Err-DayFull-clause-done c =
    let is : IsTrue (is_day_full (length c.args.self.now.day.state.core.accepted)) = search rules in
    day_full_done (λ text. text.items) c.args.self.now _ c.args.security c.day_full.result (search rules) is c.day_full.ensures.text
