use Rattle.std.proofs.Common.{◌≡◌, ◌+◌, Some, length, sym, ap, ◌∙◌, subst, arith}
use Rattle.t7_eti.specs.declared.reason.Reason.TheVariants.{BadRange}
use Rattle.t7_eti.specs.declared.request.Request.TheVariants as request
use Rattle.t7_eti.specs.declared.response.Response.TheVariants as response
use Rattle.t7_book.specs.Orders.{Roster, empty_book}
use Rattle.t7_orders.specs.Answers.{of_session, stored_from}
use Rattle.t7_session.specs.Steps.{done_of}
use Rattle.t7_entry.specs.State.{Core, Outcome, and_then, with_line}
use Rattle.t7_entry.specs.Treatment.{counted, send, send_again}
use Rattle.t7_exchange.specs.Maps.{HoldOnly, changed, inputs_of, line_part}
use Rattle.t7_exchange.specs.Serving.{HasSession, WasAsked}
use Rattle.t7_exchange.specs.Trading.{stored_at}
use Rattle.t7_exchange.specs.Wires.{Wires, core_of}
use Rattle.t7_exchange.proofs.HoldFacts.{only_changed}
use Rattle.t7_exchange.proofs.SayFacts.{resent_said}
use Rattle.t7_exchange.proofs.ServeFacts.{acts_via, bad_range, done_core, done_inputs, good_range, on_ok, range_few, serves_open}
use Rattle.t7_exchange.proofs.WireFacts.{acts_then}
use Rattle.t7_exchange.proofs.serving.send_range.Goals as goal

pub returns-in_default-clause-serves : goal.returns-in_default-clause-serves
returns-in_default-clause-serves c = on_ok c.reject.result (λ sends setting h roster there.
    let conn = c.args.conn in
    let moment = c.args.moment in
    let old = c.args.wires.now in
    let accepted = c.args.desk.now.accepted in
    let asked = request.Resend c.args.seq c.args.after c.args.upto in
    let was : h.asked ≡ Some asked = subst (WasAsked asked) there c.requires.asked in
    let has : h.session ≡ Some c.args.session = subst (HasSession c.args.session) there c.requires.session in
    let list = stored_at c.args.desk.now c.args.session in
    let are = ap (λ (r : Roster). of_session c.args.session (stored_from (empty_book r) accepted)) (sym roster) in
    let went = sends accepted asked h there was in
    let act : Core → Outcome = λ core. send moment conn (response.Reject (Some c.args.seq) BadRange) (with_line core conn (counted (line_part h) asked)) in
    serves_open setting accepted moment conn h asked old c.reject.new.wires act
    (bad_range setting moment conn (line_part h) (core_of accepted old.held) c.args.seq c.args.after c.args.upto c.args.session list has are c.in_default.ensures.bad)
    went.acts went.inputs) c.reject.ensures.sends

pub send-requires-clause-sayable : goal.send-requires-clause-sayable
send-requires-clause-sayable c =
    let few = range_few (stored_at c.args.desk.now c.args.session) c.args.after c.args.upto in
    let long = ap length c.in-Ok.ensures.range in
    resent_said c.args.seq (length c.in-Ok.range.now) _ _ c.requires.number (omega (arith, few, long))

pub returns-clause-serves : goal.returns-clause-serves
returns-clause-serves c = λ setting h roster there.
    let conn = c.args.conn in
    let moment = c.args.moment in
    let old = c.args.wires.now in
    let b = c.done.new.self in
    let new = c.send_again.new.self in
    let accepted = c.args.desk.now.accepted in
    let asked = request.Resend c.args.seq c.args.after c.args.upto in
    let was : h.asked ≡ Some asked = subst (WasAsked asked) there c.requires.asked in
    let has : h.session ≡ Some c.args.session = subst (HasSession c.args.session) there c.requires.session in
    let list = stored_at c.args.desk.now c.args.session in
    let are = ap (λ (r : Roster). of_session c.args.session (stored_from (empty_book r) accepted)) (sym roster) in
    let range = c.in-Ok.range.now in
    let known = c.count-known.result in
    let b_is : b.held ≡ changed old.held conn done_of = ap (λ (w : Wires). w.held) c.done.ensures ∙ ap (λ m. changed m conn done_of) c.reserve.ensures.held in
    let waiting : b.waiting ≡ old.waiting = ap (λ (w : Wires). w.waiting) c.done.ensures ∙ c.reserve.ensures.waiting in
    let core : core_of accepted b.held ≡ with_line (core_of accepted old.held) conn (counted (line_part h) asked) = ap (core_of accepted) b_is ∙ done_core accepted conn old.held h there asked was in
    let first : Core → Outcome = send moment conn (response.Resent c.args.seq (length range) (c.args.after + length range) known) in
    let others : Core → Outcome = send_again moment conn (c.args.after + 1) range in
    let next : Core → Outcome = λ core. and_then (first core) others in
    let act : Core → Outcome = λ core. next (with_line core conn (counted (line_part h) asked)) in
    let sent = acts_then accepted b c.send.new.self new first others (c.send.ensures.acts accepted) (c.send_again.ensures.acts accepted) in
    serves_open setting accepted moment conn h asked old new act
    (good_range setting moment conn (line_part h) (core_of accepted old.held) c.args.seq c.args.after c.args.upto c.args.session list has are range known c.in-Ok.ensures.range c.count-known.ensures c.in-Ok.ensures.bad)
    (acts_via accepted old b new next act (ap next (sym core)) waiting sent)
    (c.send_again.ensures.inputs ∙ c.send.ensures.inputs ∙ ap inputs_of b_is ∙ done_inputs accepted conn old.held h there)

pub returns-clause-only : goal.returns-clause-only
returns-clause-only c = λ sessions only.
    let conn = c.args.conn in
    let old = c.args.wires.now in
    let b_is : c.done.new.self.held ≡ changed old.held conn done_of = ap (λ (w : Wires). w.held) c.done.ensures ∙ ap (λ m. changed m conn done_of) c.reserve.ensures.held in
    c.send_again.ensures.only sessions (c.send.ensures.only sessions (subst (HoldOnly sessions) (sym b_is) (only_changed sessions old.held conn done_of (λ h p. p) only)))
