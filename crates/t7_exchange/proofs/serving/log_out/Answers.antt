use Rattle.std.proofs.Common.{refl, ap, ◌∙◌}
use Rattle.t7_eti.specs.declared.request.Request.TheVariants as request
use Rattle.t7_eti.specs.declared.response.Response.TheVariants as response
use Rattle.t7_entry.specs.ByNumber.{remove}
use Rattle.t7_entry.specs.State.{Core, Outcome, and_then}
use Rattle.t7_entry.specs.Treatment.{close, send}
use Rattle.t7_exchange.specs.Maps.{inputs_of}
use Rattle.t7_exchange.proofs.SayFacts.{logout_said}
use Rattle.t7_exchange.proofs.ServeFacts.{serves_shut}
use Rattle.t7_exchange.proofs.WireFacts.{acts_from, acts_then}
use Rattle.t7_exchange.proofs.serving.log_out.Goals as goal

pub send-requires-clause-sayable : goal.send-requires-clause-sayable
send-requires-clause-sayable c = logout_said c.args.seq c.requires.number

pub returns-clause-serves : goal.returns-clause-serves
returns-clause-serves c = λ setting accepted h there.
    let conn = c.args.conn in
    let old = c.args.wires.now in
    let mid = c.reserve.new.self in
    let new = c.close.new.self in
    let first : Core → Outcome = send c.args.moment conn (response.Logout c.args.seq) in
    let act : Core → Outcome = λ core. and_then (first core) (close conn) in
    let acts = acts_then accepted mid c.send.new.self new first (close conn) (c.send.ensures.acts accepted) (c.close.ensures.acts accepted) in
    serves_shut setting accepted c.args.moment conn h (request.Logout c.args.seq) old new act refl (acts_from accepted old mid new act c.reserve.ensures.held c.reserve.ensures.waiting acts)
    (c.close.ensures.inputs ∙ ap (λ m. remove m conn) (c.send.ensures.inputs ∙ ap inputs_of c.reserve.ensures.held))
