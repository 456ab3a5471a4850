use Rattle.std.proofs.Common.{◌≡◌, ℕ, Bool, true, false, List, Some, is_some, refl, sym, ap, ◌∙◌, subst}
use Rattle.std.specs.Prelude.{◌==◌, Contains, IfSome, IsSome}
use Rattle.std.specs.List.{list_any}
use Rattle.t7_base.specs.Listing.{Listing}
use Rattle.t7_eti.specs.declared.reason.Reason.TheVariants.{SessionInUse, UnknownSession}
use Rattle.t7_eti.specs.declared.request.Request.TheVariants as request
use Rattle.t7_eti.specs.declared.response.Response.TheVariants as response
use Rattle.t7_session.specs.Heartbeats.{interval_of}
use Rattle.t7_session.specs.Held.{Held}
use Rattle.t7_session.specs.Steps.{done_of}
use Rattle.t7_entry.specs.ByNumber.{get, remove}
use Rattle.t7_entry.specs.State.{Core, Outcome, with_line}
use Rattle.t7_entry.specs.Treatment.{counted, holder, refuse, send}
use Rattle.t7_exchange.specs.Maps.{HoldOnly, changed, inputs_of, line_part}
use Rattle.t7_exchange.specs.Sayable.{IsSayable}
use Rattle.t7_exchange.specs.Serving.{WasAsked}
use Rattle.t7_exchange.specs.Wires.{Acts, Wires, core_of}
use Rattle.t7_exchange.proofs.HoldFacts.{asked_still, known_session, only_changed}
use Rattle.t7_exchange.proofs.SayFacts.{logon_said}
use Rattle.t7_exchange.proofs.ServeFacts.{acts_via, logged_core, logged_inputs, logs_on, serves_open, serves_shut, session_in_use, unknown_session}
use Rattle.t7_exchange.proofs.WireFacts.{acts_from}
use Rattle.t7_exchange.proofs.serving.log_on.Goals as goal

-- whether a session is the product's
tested : (listing product : Listing) (sessions : List ℕ) (session : ℕ) (result b : Bool) → listing ≡ product → sessions ≡ product.sessions → result ≡ list_any (λ s. s == session) sessions → result ≡ b
    → list_any (λ s. s == session) listing.sessions ≡ b
tested listing product sessions session result b same are is was =
    ap (λ (l : List ℕ). list_any (λ s. s == session) l) (ap (λ (l : Listing). l.sessions) same ∙ sym are) ∙ sym is ∙ was

pub returns-then-not-contains-clause-serves : goal.returns-then-not-contains-clause-serves
returns-then-not-contains-clause-serves c = λ setting accepted h same there.
    let conn = c.args.conn in
    let old = c.args.wires.now in
    let mid = c.reserve.new.self in
    let new = c.refuse.new.self in
    let act = refuse c.args.moment conn (Some c.args.seq) UnknownSession in
    let none = tested setting.listing c.args.product.now c.sessions.result.now c.args.session c.contains.result false same c.sessions.ensures.value c.contains.ensures.value c.if-not-contains.true in
    serves_shut setting accepted c.args.moment conn h (request.Logon c.args.seq c.args.heart c.args.session) old new act
    (unknown_session setting c.args.moment conn (line_part h) (core_of accepted old.held) c.args.seq c.args.heart c.args.session none)
    (acts_from accepted old mid new act c.reserve.ensures.held c.reserve.ensures.waiting (c.refuse.ensures.acts accepted))
    (c.refuse.ensures.inputs ∙ ap (λ m. remove (inputs_of m) conn) c.reserve.ensures.held)

pub returns-then-is_some-clause-serves : goal.returns-then-is_some-clause-serves
returns-then-is_some-clause-serves c = λ setting accepted h same there.
    let conn = c.args.conn in
    let old = c.args.wires.now in
    let mid = c.reserve.new.self in
    let new = c.refuse-then-is_some.new.self in
    let act = refuse c.args.moment conn (Some c.args.seq) SessionInUse in
    let known = tested setting.listing c.args.product.now c.sessions.result.now c.args.session c.contains.result true same c.sessions.ensures.value c.contains.ensures.value c.if-not-contains.false in
    let held : is_some (holder c.args.session (core_of accepted old.held)) ≡ true =
    ap (λ m. is_some (holder c.args.session (core_of accepted m))) (sym c.reserve.ensures.held) ∙ ap is_some (sym (c.holder.ensures accepted)) ∙ sym c.is_some.ensures ∙ c.if-is_some.true
    in
    serves_shut setting accepted c.args.moment conn h (request.Logon c.args.seq c.args.heart c.args.session) old new act
    (session_in_use setting c.args.moment conn (line_part h) (core_of accepted old.held) c.args.seq c.args.heart c.args.session known held)
    (acts_from accepted old mid new act c.reserve.ensures.held c.reserve.ensures.waiting (c.refuse-then-is_some.ensures.acts accepted))
    (c.refuse-then-is_some.ensures.inputs ∙ ap (λ m. remove (inputs_of m) conn) c.reserve.ensures.held)

pub done-requires : goal.done-requires
done-requires c =
    let asked = request.Logon c.args.seq c.args.heart c.args.session in
    let f : Held → Held = λ h. record h { session = Some c.args.session; heart = interval_of c.args.heart } in
    let still = asked_still asked c.reserve.new.self.held c.args.conn f (λ h. refl) (subst (λ m. WasAsked asked (get m c.args.conn)) (sym c.reserve.ensures.held) c.requires.asked) in
    subst (λ (w : Wires). IfSome (get w.held c.args.conn) (λ (h : Held). IsSome h.asked)) (sym c.log_on.ensures) still

pub send-requires-clause-sayable : goal.send-requires-clause-sayable
send-requires-clause-sayable c =
    subst (λ n. IsSayable (response.Logon c.args.seq n)) (sym c.heartbeat_interval-heart.ensures) (logon_said c.args.seq c.args.heart c.requires.number)

pub returns-clause-serves : goal.returns-clause-serves
returns-clause-serves c = λ setting accepted h same there.
    let conn = c.args.conn in
    let moment = c.args.moment in
    let asked = request.Logon c.args.seq c.args.heart c.args.session in
    let old = c.args.wires.now in
    let b = c.done.new.self in
    let new = c.send.new.self in
    let f : Held → Held = λ h. record h { session = Some c.args.session; heart = interval_of c.args.heart } in
    let a_is : c.log_on.new.self.held ≡ changed old.held conn f = ap (λ (w : Wires). w.held) c.log_on.ensures ∙ ap (λ m. changed m conn f) c.reserve.ensures.held in
    let b_is : b.held ≡ changed (changed old.held conn f) conn done_of = ap (λ (w : Wires). w.held) c.done.ensures ∙ ap (λ m. changed m conn done_of) a_is in
    let waiting : b.waiting ≡ old.waiting = ap (λ (w : Wires). w.waiting) c.done.ensures ∙ ap (λ (w : Wires). w.waiting) c.log_on.ensures ∙ c.reserve.ensures.waiting in
    let was : h.asked ≡ Some asked = subst (WasAsked asked) there c.requires.asked in
    let core : core_of accepted b.held ≡ with_line (core_of accepted old.held) conn (counted (line_part (f h)) asked) =
    ap (core_of accepted) b_is ∙ logged_core accepted conn old.held h there asked f (λ g. refl) was
    in
    let next : Core → Outcome = send moment conn (response.Logon c.args.seq (interval_of c.args.heart)) in
    let act : Core → Outcome = λ core. next (with_line core conn (counted (line_part (f h)) asked)) in
    let sent : Acts accepted b new next = subst (λ n. Acts accepted b new (send moment conn (response.Logon c.args.seq n))) c.heartbeat_interval-heart.ensures (c.send.ensures.acts accepted) in
    let known = tested setting.listing c.args.product.now c.sessions.result.now c.args.session c.contains.result true same c.sessions.ensures.value c.contains.ensures.value c.if-not-contains.false in
    let free : is_some (holder c.args.session (core_of accepted old.held)) ≡ false =
    ap (λ m. is_some (holder c.args.session (core_of accepted m))) (sym c.reserve.ensures.held) ∙ ap is_some (sym (c.holder.ensures accepted)) ∙ sym c.is_some.ensures ∙ c.if-is_some.false
    in
    serves_open setting accepted moment conn h asked old new act
    (logs_on setting moment conn (line_part h) (core_of accepted old.held) c.args.seq c.args.heart c.args.session known free)
    (acts_via accepted old b new next act (ap next (sym core)) waiting sent)
    (c.send.ensures.inputs ∙ ap inputs_of b_is ∙ logged_inputs accepted conn old.held h there f (λ g. refl))

pub returns-clause-only : goal.returns-clause-only
returns-clause-only c = λ only.
    let conn = c.args.conn in
    let old = c.args.wires.now in
    let sessions = c.args.product.now.sessions in
    let f : Held → Held = λ h. record h { session = Some c.args.session; heart = interval_of c.args.heart } in
    let a_is : c.log_on.new.self.held ≡ changed old.held conn f = ap (λ (w : Wires). w.held) c.log_on.ensures ∙ ap (λ m. changed m conn f) c.reserve.ensures.held in
    let b_is : c.done.new.self.held ≡ changed (changed old.held conn f) conn done_of = ap (λ (w : Wires). w.held) c.done.ensures ∙ ap (λ m. changed m conn done_of) a_is in
    let there : Contains sessions c.args.session =
    known_session sessions c.args.session (tested c.args.product.now c.args.product.now c.sessions.result.now c.args.session c.contains.result true refl c.sessions.ensures.value c.contains.ensures.value c.if-not-contains.false)
    in
    c.send.ensures.only sessions
    (subst (HoldOnly sessions) (sym b_is)
    (only_changed sessions (changed old.held conn f) conn done_of (λ h p. p) (only_changed sessions old.held conn f (λ h p. there) only)))
