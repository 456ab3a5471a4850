use Rattle.std.proofs.Common.{◌≡◌, Some, sym, ap, ◌∙◌, subst}
use Rattle.t7_eti.specs.declared.response.Response.TheVariants as response
use Rattle.t7_session.specs.Steps.{done_of}
use Rattle.t7_entry.specs.State.{Core, Outcome, with_line}
use Rattle.t7_entry.specs.Treatment.{counted, send}
use Rattle.t7_exchange.specs.Maps.{HoldOnly, changed, inputs_of, line_part}
use Rattle.t7_exchange.specs.Wires.{Wires, core_of}
use Rattle.t7_exchange.proofs.HoldFacts.{only_changed}
use Rattle.t7_exchange.proofs.SayFacts.{reject_said}
use Rattle.t7_exchange.proofs.ServeFacts.{acts_via, done_core, done_inputs}
use Rattle.t7_exchange.proofs.serving.reject.Goals as goal

pub send-requires-clause-sayable : goal.send-requires-clause-sayable
send-requires-clause-sayable c = reject_said (Some c.args.seq) c.args.reason c.requires.number

pub returns-clause-sends : goal.returns-clause-sends
returns-clause-sends c = λ accepted asked h there was.
    let conn = c.args.conn in
    let old = c.args.wires.now in
    let b = c.done.new.self in
    let b_is : b.held ≡ changed old.held conn done_of = ap (λ (w : Wires). w.held) c.done.ensures ∙ ap (λ m. changed m conn done_of) c.reserve.ensures.held in
    let waiting : b.waiting ≡ old.waiting = ap (λ (w : Wires). w.waiting) c.done.ensures ∙ c.reserve.ensures.waiting in
    let core : core_of accepted b.held ≡ with_line (core_of accepted old.held) conn (counted (line_part h) asked) = ap (core_of accepted) b_is ∙ done_core accepted conn old.held h there asked was in
    let next : Core → Outcome = send c.args.moment conn (response.Reject (Some c.args.seq) c.args.reason) in
    let act : Core → Outcome = λ core. next (with_line core conn (counted (line_part h) asked)) in
    record {
      acts = acts_via accepted old b c.send.new.self next act (ap next (sym core)) waiting (c.send.ensures.acts accepted);
      inputs = c.send.ensures.inputs ∙ ap inputs_of b_is ∙ done_inputs accepted conn old.held h there;
    }

pub returns-clause-only : goal.returns-clause-only
returns-clause-only c = λ sessions only.
    let conn = c.args.conn in
    let old = c.args.wires.now in
    let b_is : c.done.new.self.held ≡ changed old.held conn done_of = ap (λ (w : Wires). w.held) c.done.ensures ∙ ap (λ m. changed m conn done_of) c.reserve.ensures.held in
    c.send.ensures.only sessions (subst (HoldOnly sessions) (sym b_is) (only_changed sessions old.held conn done_of (λ h p. p) only))
