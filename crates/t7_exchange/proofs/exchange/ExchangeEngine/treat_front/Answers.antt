use Rattle.std.proofs.Common.{◌≡◌, ℕ, List, Option, Some, None, refl, sym, ap, ◌∙◌, subst}
use Rattle.std.specs.Prelude.{IfSome}
use Rattle.std.specs.List.{All}
use Rattle.t7_frames.specs.Frames.{front_of, not_yet}
use Rattle.t7_eti.specs.declared.reason.Reason.{Reason}
use Rattle.t7_book.specs.declared.command.Command.{Command}
use Rattle.t7_book.specs.Trace.{AreAccepted}
use Rattle.t7_session.specs.declared.session.Step.{Step}
use Rattle.t7_session.specs.declared.session.Step.TheVariants as step
use Rattle.t7_session.specs.Held.{Held}
use Rattle.t7_session.specs.Steps.{asked_in}
use Rattle.t7_entry.specs.ByNumber.{Rises, remove}
use Rattle.t7_entry.specs.Days.{Day}
use Rattle.t7_entry.specs.Stalls.{IsOpen, front_treated, untreated_of}
use Rattle.t7_entry.specs.State.{Setting}
use Rattle.t7_entry.specs.Tellable.{IsTellable}
use Rattle.t7_entry.specs.Treatment.{refuse}
use Rattle.t7_feed.specs.Sending.{AreRanged}
use Rattle.t7_exchange.specs.Maps.{HoldOnly, changed, input_part, inputs_of}
use Rattle.t7_exchange.specs.Outbox.{Outbox}
use Rattle.t7_exchange.specs.Serving.{MayAsk}
use Rattle.t7_exchange.specs.Views.{day_of}
use Rattle.t7_exchange.specs.Wires.{Acts, Wires}
use Rattle.t7_exchange.proofs.ExchangeFacts.{ask_session, input_held, old_stands, on_err, same_day, treats_shrink, untreated_held, was_stepped}
use Rattle.t7_exchange.proofs.FrontFacts.{front_refused}
use Rattle.t7_exchange.proofs.HoldFacts.{only_changed}
use Rattle.t7_exchange.proofs.MapFacts.{rises-changed}
use Rattle.t7_exchange.proofs.ShrinkFacts.{front_nothing}
use Rattle.t7_exchange.proofs.Tells.{told_kept}
use Rattle.t7_exchange.proofs.WireFacts.{acts_from}
use Rattle.t7_exchange.proofs.exchange.ExchangeEngine.treat_front.Goals as goal

-- the sessions after a step
only_stepped : (sessions : List ℕ) (w0 w : Wires) (conn : ℕ) (s : Step) → w ≡ record w0 { held = changed w0.held conn (λ h. record h { asked = asked_in s }) } → HoldOnly sessions w0.held → HoldOnly sessions w.held
only_stepped sessions w0 w conn s asks only =
    subst (λ (x : Wires). HoldOnly sessions x.held) (sym asks) (only_changed sessions w0.held conn (λ (h : Held). record h { asked = asked_in s }) (λ h p. p) only)

-- the connections and the replies after a Reject
refused_acts : (accepted : List Command) (w mid new : Wires) (moment conn : ℕ) (seq : Option ℕ) (reason : Reason) → mid.held ≡ w.held → mid.waiting ≡ w.waiting → Acts accepted mid new (refuse moment conn seq reason)
    → Acts accepted w new (refuse moment conn seq reason)
refused_acts accepted w mid new moment conn seq reason held waiting acts = acts_from accepted w mid new (refuse moment conn seq reason) held waiting acts

pub invariant_of-self : goal.invariant_of-self
invariant_of-self c =
    let e = c.self.inside in
    let conn = c.args.conn in
    let w = c.step.new.self in
    let was = c.self.invariant in
    record {
      table = was.table;
      listing = was.listing;
      roster = was.roster;
      accepted = was.accepted;
      tellable = was.tellable;
      ranged = was.ranged;
      sessions = only_stepped e.product.now.sessions e.wires w conn step.NotYet c.in-NotYet.ensures.asks c.self.invariant.sessions;
      terms = was.terms;
      told = was.told;
    }

pub invariant_of-self-in_err-reserve-in-Refuse : goal.invariant_of-self-in_err-reserve-in-Refuse
invariant_of-self-in_err-reserve-in-Refuse c =
    let e = c.self.inside in
    let conn = c.args.conn in
    let w = c.step.new.self in
    let s : Step = step.Refuse c.in-Refuse.seq c.in-Refuse.reason in
    let was = c.self.invariant in
    record {
      table = was.table;
      listing = was.listing;
      roster = was.roster;
      accepted = was.accepted;
      tellable = was.tellable;
      ranged = was.ranged;
      sessions = subst (HoldOnly e.product.now.sessions) (sym c.reserve.ensures.held) (only_stepped e.product.now.sessions e.wires w conn s c.in-Refuse.ensures.asks c.self.invariant.sessions);
      terms = was.terms;
      told = was.told;
    }

pub invariant_of-self-in-Refuse : goal.invariant_of-self-in-Refuse
invariant_of-self-in-Refuse c =
    let e = c.self.inside in
    let conn = c.args.conn in
    let w = c.step.new.self in
    let s : Step = step.Refuse c.in-Refuse.seq c.in-Refuse.reason in
    let was = c.self.invariant in
    record {
      table = was.table;
      listing = was.listing;
      roster = was.roster;
      accepted = was.accepted;
      tellable = was.tellable;
      ranged = was.ranged;
      sessions = c.refuse.ensures.only e.product.now.sessions (subst (HoldOnly e.product.now.sessions) (sym c.reserve.ensures.held) (only_stepped e.product.now.sessions e.wires w conn s c.in-Refuse.ensures.asks c.self.invariant.sessions));
      terms = was.terms;
      told = was.told;
    }

pub invariant_of-self-in_err-answer-in-Ask : goal.invariant_of-self-in_err-answer-in-Ask
invariant_of-self-in_err-answer-in-Ask c =
    let e = c.self.inside in
    let conn = c.args.conn in
    let w = c.step.new.self in
    let s : Step = step.Ask c.in-Ask.request in
    let was = c.self.invariant in
    let keeps = c.in_err-answer-in-Ask.ensures.err in
    record {
      table = was.table;
      listing = was.listing;
      roster = keeps.roster ∙ was.roster;
      accepted = subst (AreAccepted e.product.now) (sym keeps.accepted) was.accepted;
      tellable = subst (All IsTellable) (sym keeps.accepted) was.tellable;
      ranged = subst AreRanged (sym keeps.accepted) was.ranged;
      sessions = subst (HoldOnly e.product.now.sessions) (sym keeps.wires.held) (only_stepped e.product.now.sessions e.wires w conn s c.in-Ask.ensures.asks c.self.invariant.sessions);
      terms = ap (λ (o : Outbox). o.cycle.terms) keeps.outbox ∙ was.terms;
      told = told_kept e.product.now e.desk.accepted c.answer.new.desk.accepted e.outbox c.answer.new.outbox keeps.accepted keeps.outbox was.told;
    }

pub invariant_of-self-in-Ask : goal.invariant_of-self-in-Ask
invariant_of-self-in-Ask c =
    let e = c.self.inside in
    let conn = c.args.conn in
    let w = c.step.new.self in
    let s : Step = step.Ask c.in-Ask.request in
    let was = c.self.invariant in
    let went = c.in_ok-answer-in-Ask.ensures.ok e.table.now in
    record {
      table = was.table;
      listing = was.listing;
      roster = went.roster ∙ was.roster;
      accepted = went.accepted;
      tellable = went.tellable;
      ranged = went.ranged;
      sessions = went.only (only_stepped e.product.now.sessions e.wires w conn s c.in-Ask.ensures.asks c.self.invariant.sessions);
      terms = went.terms ∙ was.terms;
      told = went.told;
    }

pub answer-requires-clause-sessions : goal.answer-requires-clause-sessions
answer-requires-clause-sessions c =
    let e = c.self.inside in
    let conn = c.args.conn in
    let w = c.step.new.self in
    only_stepped e.product.now.sessions e.wires w conn (step.Ask c.in-Ask.request) c.in-Ask.ensures.asks c.self.invariant.sessions

pub answer-requires-clause-rises : goal.answer-requires-clause-rises
answer-requires-clause-rises c =
    let e = c.self.inside in
    subst (λ (x : Wires). Rises x.held) (sym c.in-Ask.ensures.asks) (rises-changed e.wires.held c.args.conn (λ (h : Held). record h { asked = Some c.in-Ask.request }) c.in-Ask.ensures.rises)

pub answer-requires-clause-may : goal.answer-requires-clause-may
answer-requires-clause-may c =
    let e = c.self.inside in
    let setting : Setting = record { layouts = e.table.now; listing = e.product.now } in
    let accepted = e.desk.accepted in
    let conn = c.args.conn in
    let w = c.step.new.self in
    let s : Step = step.Ask c.in-Ask.request in
    let st = was_stepped setting accepted e.outbox e.wires w conn s (subst (λ (d : Day). IsOpen d conn) (sym c.self.view_is) c.requires) c.in-Ask.ensures.rises c.in-Ask.ensures.step c.in-Ask.ensures.asks in
    subst (MayAsk c.in-Ask.request) (sym st.now) (refl, ask_session e.table.now st.h c.in-Ask.request st.is)

pub returns-in-NotYet-clause-stood : goal.returns-in-NotYet-clause-stood
returns-in-NotYet-clause-stood c =
    let e = c.self.inside in
    let setting : Setting = record { layouts = e.table.now; listing = e.product.now } in
    let accepted = e.desk.accepted in
    let conn = c.args.conn in
    let w = c.step.new.self in
    let s : Step = step.NotYet in
    let st = was_stepped setting accepted e.outbox e.wires w conn s (subst (λ (d : Day). IsOpen d conn) (sym c.self.view_is) c.requires) c.in-NotYet.ensures.rises c.in-NotYet.ensures.step c.in-NotYet.ensures.asks in
    let front : front_of st.h.untreated ≡ not_yet = subst (λ (o : Option Held). IfSome o (λ h. front_of h.untreated ≡ not_yet)) st.there (c.in-NotYet.ensures.waits refl) in
    (ap (λ (d : Day). front_of (untreated_of d conn)) (sym c.self.view_is) ∙ ap front_of (untreated_held setting accepted e.outbox e.wires conn st.h st.there) ∙ front, st.day ∙ c.self.view_is)

pub returns-in-NotYet-clause-done : goal.returns-in-NotYet-clause-done
returns-in-NotYet-clause-done c =
    let e = c.self.inside in
    let setting : Setting = record { layouts = e.table.now; listing = e.product.now } in
    let accepted = e.desk.accepted in
    let conn = c.args.conn in
    let w = c.step.new.self in
    let s : Step = step.NotYet in
    let st = was_stepped setting accepted e.outbox e.wires w conn s (subst (λ (d : Day). IsOpen d conn) (sym c.self.view_is) c.requires) c.in-NotYet.ensures.rises c.in-NotYet.ensures.step c.in-NotYet.ensures.asks in
    let front : front_of st.h.untreated ≡ not_yet = subst (λ (o : Option Held). IfSome o (λ h. front_of h.untreated ≡ not_yet)) st.there (c.in-NotYet.ensures.waits refl) in
    let day = day_of setting accepted e.wires e.outbox in
    st.day ∙ sym (front_nothing day c.args.moment conn (input_part st.h) (input_held setting accepted e.outbox e.wires conn st.h st.there) front) ∙ ap (front_treated c.args.moment conn) c.self.view_is

pub returns-in_ok-reserve-in-Refuse-clause-done : goal.returns-in_ok-reserve-in-Refuse-clause-done
returns-in_ok-reserve-in-Refuse-clause-done c =
    let e = c.self.inside in
    let setting : Setting = record { layouts = e.table.now; listing = e.product.now } in
    let accepted = e.desk.accepted in
    let conn = c.args.conn in
    let w = c.step.new.self in
    let s : Step = step.Refuse c.in-Refuse.seq c.in-Refuse.reason in
    let st = was_stepped setting accepted e.outbox e.wires w conn s (subst (λ (d : Day). IsOpen d conn) (sym c.self.view_is) c.requires) c.in-Refuse.ensures.rises c.in-Refuse.ensures.step c.in-Refuse.ensures.asks in
    let acts = refused_acts accepted w c.reserve.new.self c.refuse.new.self c.args.moment conn c.in-Refuse.seq c.in-Refuse.reason c.reserve.ensures.held c.reserve.ensures.waiting (c.refuse.ensures.acts accepted) in
    sym (front_refused setting accepted e.outbox c.args.moment conn w (record st.h { asked = None }) st.now c.refuse.new.self c.in-Refuse.seq c.in-Refuse.reason st.is acts
    (c.refuse.ensures.inputs ∙ ap (λ m. remove (inputs_of m) conn) c.reserve.ensures.held))
    ∙ ap (front_treated c.args.moment conn) (st.day ∙ c.self.view_is)

pub returns-in_ok-reserve-in-Refuse-clause-stood : goal.returns-in_ok-reserve-in-Refuse-clause-stood
returns-in_ok-reserve-in-Refuse-clause-stood c =
    let e = c.self.inside in
    let setting : Setting = record { layouts = e.table.now; listing = e.product.now } in
    let accepted = e.desk.accepted in
    let conn = c.args.conn in
    let w = c.step.new.self in
    let s : Step = step.Refuse c.in-Refuse.seq c.in-Refuse.reason in
    let st = was_stepped setting accepted e.outbox e.wires w conn s (subst (λ (d : Day). IsOpen d conn) (sym c.self.view_is) c.requires) c.in-Refuse.ensures.rises c.in-Refuse.ensures.step c.in-Refuse.ensures.asks in
    let acts = refused_acts accepted w c.reserve.new.self c.refuse.new.self c.args.moment conn c.in-Refuse.seq c.in-Refuse.reason c.reserve.ensures.held c.reserve.ensures.waiting (c.refuse.ensures.acts accepted) in
    treats_shrink setting accepted e.outbox e.wires c.args.self.now (day_of setting accepted c.refuse.new.self e.outbox) c.args.moment conn st.h s c.self.view_is st.there st.is (λ x. cc)
    (sym (front_refused setting accepted e.outbox c.args.moment conn w (record st.h { asked = None }) st.now c.refuse.new.self c.in-Refuse.seq c.in-Refuse.reason st.is acts
    (c.refuse.ensures.inputs ∙ ap (λ m. remove (inputs_of m) conn) c.reserve.ensures.held))
    ∙ ap (front_treated c.args.moment conn) (st.day ∙ c.self.view_is))

pub returns-in_err-reserve-in-Refuse-clause-err : goal.returns-in_err-reserve-in-Refuse-clause-err
returns-in_err-reserve-in-Refuse-clause-err c =
    let e = c.self.inside in
    let setting : Setting = record { layouts = e.table.now; listing = e.product.now } in
    let accepted = e.desk.accepted in
    let conn = c.args.conn in
    let w = c.step.new.self in
    let s : Step = step.Refuse c.in-Refuse.seq c.in-Refuse.reason in
    let st = was_stepped setting accepted e.outbox e.wires w conn s (subst (λ (d : Day). IsOpen d conn) (sym c.self.view_is) c.requires) c.in-Refuse.ensures.rises c.in-Refuse.ensures.step c.in-Refuse.ensures.asks in
    on_err c.from_residual.result (same_day setting accepted e.outbox w c.reserve.new.self c.reserve.ensures.held c.reserve.ensures.waiting ∙ st.day ∙ c.self.view_is)

pub returns-in_err-reserve-in-Refuse-clause-stands : goal.returns-in_err-reserve-in-Refuse-clause-stands
returns-in_err-reserve-in-Refuse-clause-stands c =
    let e = c.self.inside in
    let setting : Setting = record { layouts = e.table.now; listing = e.product.now } in
    let accepted = e.desk.accepted in
    let conn = c.args.conn in
    let w = c.step.new.self in
    let s : Step = step.Refuse c.in-Refuse.seq c.in-Refuse.reason in
    let st = was_stepped setting accepted e.outbox e.wires w conn s (subst (λ (d : Day). IsOpen d conn) (sym c.self.view_is) c.requires) c.in-Refuse.ensures.rises c.in-Refuse.ensures.step c.in-Refuse.ensures.asks in
    on_err c.from_residual.result (old_stands setting accepted e.outbox e.wires c.args.self.now conn st.h s c.self.view_is st.there st.is (λ x. cc))

pub returns-in_ok-answer-in-Ask-clause-done : goal.returns-in_ok-answer-in-Ask-clause-done
returns-in_ok-answer-in-Ask-clause-done c =
    let e = c.self.inside in
    let setting : Setting = record { layouts = e.table.now; listing = e.product.now } in
    let accepted = e.desk.accepted in
    let conn = c.args.conn in
    let w = c.step.new.self in
    let s : Step = step.Ask c.in-Ask.request in
    let st = was_stepped setting accepted e.outbox e.wires w conn s (subst (λ (d : Day). IsOpen d conn) (sym c.self.view_is) c.requires) c.in-Ask.ensures.rises c.in-Ask.ensures.step c.in-Ask.ensures.asks in
    let went = c.in_ok-answer-in-Ask.ensures.ok e.table.now in
    sym (went.treated (record st.h { asked = Some c.in-Ask.request }) st.now st.is) ∙ ap (front_treated c.args.moment conn) (st.day ∙ c.self.view_is)

pub returns-in_ok-answer-in-Ask-clause-stood : goal.returns-in_ok-answer-in-Ask-clause-stood
returns-in_ok-answer-in-Ask-clause-stood c =
    let e = c.self.inside in
    let setting : Setting = record { layouts = e.table.now; listing = e.product.now } in
    let accepted = e.desk.accepted in
    let conn = c.args.conn in
    let w = c.step.new.self in
    let s : Step = step.Ask c.in-Ask.request in
    let st = was_stepped setting accepted e.outbox e.wires w conn s (subst (λ (d : Day). IsOpen d conn) (sym c.self.view_is) c.requires) c.in-Ask.ensures.rises c.in-Ask.ensures.step c.in-Ask.ensures.asks in
    let went = c.in_ok-answer-in-Ask.ensures.ok e.table.now in
    treats_shrink setting accepted e.outbox e.wires c.args.self.now (day_of setting c.answer.new.desk.accepted c.answer.new.wires c.answer.new.outbox) c.args.moment conn st.h s c.self.view_is st.there st.is (λ x. cc)
    (sym (went.treated (record st.h { asked = Some c.in-Ask.request }) st.now st.is) ∙ ap (front_treated c.args.moment conn) (st.day ∙ c.self.view_is))

pub returns-in_err-answer-in-Ask-clause-err : goal.returns-in_err-answer-in-Ask-clause-err
returns-in_err-answer-in-Ask-clause-err c =
    let e = c.self.inside in
    let setting : Setting = record { layouts = e.table.now; listing = e.product.now } in
    let accepted = e.desk.accepted in
    let conn = c.args.conn in
    let w = c.step.new.self in
    let s : Step = step.Ask c.in-Ask.request in
    let st = was_stepped setting accepted e.outbox e.wires w conn s (subst (λ (d : Day). IsOpen d conn) (sym c.self.view_is) c.requires) c.in-Ask.ensures.rises c.in-Ask.ensures.step c.in-Ask.ensures.asks in
    let keeps = c.in_err-answer-in-Ask.ensures.err in
    on_err c.from_residual-in_err-answer-in-Ask.result
    ((λ i. day_of setting (keeps.accepted i) c.answer.new.wires (keeps.outbox i))
    ∙ same_day setting accepted e.outbox w c.answer.new.wires keeps.wires.held keeps.wires.waiting ∙ st.day ∙ c.self.view_is)

pub returns-in_err-answer-in-Ask-clause-stands : goal.returns-in_err-answer-in-Ask-clause-stands
returns-in_err-answer-in-Ask-clause-stands c =
    let e = c.self.inside in
    let setting : Setting = record { layouts = e.table.now; listing = e.product.now } in
    let accepted = e.desk.accepted in
    let conn = c.args.conn in
    let w = c.step.new.self in
    let s : Step = step.Ask c.in-Ask.request in
    let st = was_stepped setting accepted e.outbox e.wires w conn s (subst (λ (d : Day). IsOpen d conn) (sym c.self.view_is) c.requires) c.in-Ask.ensures.rises c.in-Ask.ensures.step c.in-Ask.ensures.asks in
    on_err c.from_residual-in_err-answer-in-Ask.result (old_stands setting accepted e.outbox e.wires c.args.self.now conn st.h s c.self.view_is st.there st.is (λ x. cc))
