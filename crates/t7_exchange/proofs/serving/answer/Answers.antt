use Rattle.std.proofs.Common.{◌≡◌, Some, inl, inr, refl, sym, ap, ◌∙◌, subst}
use Rattle.std.specs.List.{All}
use Rattle.t7_eti.specs.declared.request.Request.{Request}
use Rattle.t7_eti.specs.declared.request.Request.TheVariants as request
use Rattle.t7_eti.specs.Requests.{request_number}
use Rattle.t7_book.specs.Orders.{Roster, empty_book}
use Rattle.t7_orders.specs.Answers.{stored_from}
use Rattle.t7_session.specs.Steps.{done_of}
use Rattle.t7_entry.specs.State.{Setting, pure}
use Rattle.t7_entry.specs.Tellable.{CanBeTold}
use Rattle.t7_exchange.specs.Maps.{HoldOnly, changed, inputs_of}
use Rattle.t7_exchange.specs.Serving.{MayAsk, Serves}
use Rattle.t7_exchange.specs.Wires.{Wires}
use Rattle.t7_exchange.proofs.AcceptFacts.{kept_sayable}
use Rattle.t7_exchange.proofs.FrontFacts.{front_served}
use Rattle.t7_exchange.proofs.HoldFacts.{only_changed}
use Rattle.t7_exchange.proofs.ServeFacts.{done_inputs, on_ok, quiet_acts, serves_open}
use Rattle.t7_exchange.proofs.serving.answer.Goals as goal

pub log_on-requires-clause-number : goal.log_on-requires-clause-number
unfolding request_number
log_on-requires-clause-number c = rw c.in-Logon.is at c.requires.askable.number

pub log_out-requires : goal.log_out-requires
unfolding request_number
log_out-requires c = record { number = rw c.in-Logout.is at c.requires.askable.number }

pub send_range-requires-clause-number : goal.send_range-requires-clause-number
unfolding request_number
send_range-requires-clause-number c = rw c.in-Resend.is at c.requires.askable.number

pub send_range-requires-clause-sayable : goal.send_range-requires-clause-sayable
send_range-requires-clause-sayable c =
    let d = c.args.desk.now in
    let all = c.responses_may_be_written.ensures c.args.product.now d.accepted c.requires.listing c.requires.accepted c.requires.tellable in
    kept_sayable c.unwrap-session.result (stored_from (empty_book d.roster) d.accepted) (subst (λ (r : Roster). All CanBeTold (stored_from (empty_book r) d.accepted)) (sym c.requires.product) all)

pub order-requires-clause-seq : goal.order-requires-clause-seq
unfolding request_number
order-requires-clause-seq c = elim c.in-New.is [
  | inl is ↦ ap request_number is.5
  | inr other ↦ elim other [
    | inl is ↦ ap request_number is.4
    | inr last ↦ elim last [ inl is ↦ ap request_number is.2 | inr is ↦ ap request_number is.1 ]
  ]
]

pub returns-in-Logon-clause-ok : goal.returns-in-Logon-clause-ok
returns-in-Logon-clause-ok c = on_ok c.log_on.result (λ serves layouts.
    let setting : Setting = record { layouts = layouts; listing = c.args.product.now } in
    let old = c.args.wires.now in
    let new = c.log_on.new.wires in
    let accepted = c.args.desk.now.accepted in
    record {
      roster = refl;
      accepted = c.requires.accepted;
      tellable = c.requires.tellable;
      ranged = c.requires.ranged;
      terms = refl;
      told = c.requires.told;
      only = c.log_on.ensures.only;
      treated = λ h there stepped.
          front_served setting accepted c.args.outbox.now c.args.moment c.args.conn old h there new c.args.request.now stepped
          (subst (λ (r : Request). Serves setting accepted c.args.moment c.args.conn h r old new) (sym c.in-Logon.is) (serves setting accepted h refl there));
    }) c.log_on.ensures.serves

pub returns-in-Logout-clause-ok : goal.returns-in-Logout-clause-ok
returns-in-Logout-clause-ok c = on_ok c.log_out.result (λ serves layouts.
    let setting : Setting = record { layouts = layouts; listing = c.args.product.now } in
    let old = c.args.wires.now in
    let new = c.log_out.new.wires in
    let accepted = c.args.desk.now.accepted in
    record {
      roster = refl;
      accepted = c.requires.accepted;
      tellable = c.requires.tellable;
      ranged = c.requires.ranged;
      terms = refl;
      told = c.requires.told;
      only = c.log_out.ensures.only c.args.product.now.sessions;
      treated = λ h there stepped.
          front_served setting accepted c.args.outbox.now c.args.moment c.args.conn old h there new c.args.request.now stepped
          (subst (λ (r : Request). Serves setting accepted c.args.moment c.args.conn h r old new) (sym c.in-Logout.is) (serves setting accepted h there));
    }) c.log_out.ensures.serves

pub returns-in-Resend-clause-ok : goal.returns-in-Resend-clause-ok
returns-in-Resend-clause-ok c = on_ok c.send_range.result (λ serves layouts.
    let setting : Setting = record { layouts = layouts; listing = c.args.product.now } in
    let old = c.args.wires.now in
    let new = c.send_range.new.wires in
    let accepted = c.args.desk.now.accepted in
    record {
      roster = refl;
      accepted = c.requires.accepted;
      tellable = c.requires.tellable;
      ranged = c.requires.ranged;
      terms = refl;
      told = c.requires.told;
      only = c.send_range.ensures.only c.args.product.now.sessions;
      treated = λ h there stepped.
          front_served setting accepted c.args.outbox.now c.args.moment c.args.conn old h there new c.args.request.now stepped
          (subst (λ (r : Request). Serves setting accepted c.args.moment c.args.conn h r old new) (sym c.in-Resend.is) (serves setting h (sym c.requires.product) there));
    }) c.send_range.ensures.serves

pub returns-in-Heartbeat-clause-ok : goal.returns-in-Heartbeat-clause-ok
returns-in-Heartbeat-clause-ok c = λ layouts.
    let setting : Setting = record { layouts = layouts; listing = c.args.product.now } in
    let conn = c.args.conn in
    let old = c.args.wires.now in
    let new = c.done.new.self in
    let accepted = c.args.desk.now.accepted in
    let held : new.held ≡ changed old.held conn done_of = ap (λ (w : Wires). w.held) c.done.ensures in
    record {
      roster = refl;
      accepted = c.requires.accepted;
      tellable = c.requires.tellable;
      ranged = c.requires.ranged;
      terms = refl;
      told = c.requires.told;
      only = λ p. subst (HoldOnly c.args.product.now.sessions) (sym held) (only_changed c.args.product.now.sessions old.held conn done_of (λ h q. q) p);
      treated = λ h there stepped.
          let may = subst (MayAsk c.args.request.now) there c.requires.may in
          let asked : h.asked ≡ Some request.Heartbeat = may.0 ∙ ap Some c.in-Heartbeat.is in
          let serves = serves_open setting accepted c.args.moment conn h request.Heartbeat old new pure refl (quiet_acts accepted conn old new h c.requires.rises there asked c.done.ensures)
          (ap inputs_of held ∙ done_inputs accepted conn old.held h there) in
          front_served setting accepted c.args.outbox.now c.args.moment conn old h there new c.args.request.now stepped
          (subst (λ (r : Request). Serves setting accepted c.args.moment conn h r old new) (sym c.in-Heartbeat.is) serves);
    }
