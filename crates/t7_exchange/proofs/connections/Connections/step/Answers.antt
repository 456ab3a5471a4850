use Rattle.std.proofs.Common.{◌≡◌, ap, sym, subst, ◌∙◌, is_some, Some, None}
use Rattle.std.specs.Prelude.{IfSome, Option}
use Rattle.t7_frames.specs.Frames.{front_of, not_yet}
use Rattle.t7_entry.specs.ByNumber.{Rises}
use Rattle.std.specs.Option.{option_map_or}
use Rattle.t7_session.specs.declared.session.Step.TheVariants as step
use Rattle.t7_session.specs.Steps.{asked_in, step_of}
use Rattle.t7_session.specs.Held.{Held}
use Rattle.t7_exchange.specs.Maps.{changed}
use Rattle.t7_exchange.proofs.MapFacts.{found_there, none_changed, rises_from, was_changed}
use Rattle.t7_exchange.proofs.connections.Connections.step.Goals as goal

pub returns-in_default-clause-asks : goal.returns-in_default-clause-asks
returns-in_default-clause-asks c =
    let f : Held → Held = λ h. record h { asked = None } in
    ap (λ s. s.entries) c.get_mut.follows.holds-at-none
    ∙ none_changed c.self.inside.sessions.entries c.args.conn f (sym c.in_default.ensures.value)
    ∙ ap (λ m. changed m c.args.conn f) c.self.view_is

pub returns-clause-asks : goal.returns-clause-asks
returns-clause-asks c =
    let f : Held → Held = λ h. record h { asked = asked_in c.step.result } in
    let has = sym c.in-Some.ensures.value in
    let wrote = c.get_mut.follows.holds c.step.new.self in
    was_changed c.self.inside.sessions.entries (c.get_mut.follows.lender c.step.new.self).entries c.args.conn f c.in-Some.session.now c.step.new.self has c.step.ensures.asks c.self.invariant wrote.4 (wrote.3 (ap is_some has)).0
    ∙ ap (λ m. changed m c.args.conn f) c.self.view_is

pub invariant_of-self-2 : goal.invariant_of-self-2
invariant_of-self-2 c = rises_from (c.get_mut.follows.lender c.step.new.self).entries (c.get_mut.follows.holds c.step.new.self).4

pub returns-in_default-clause-step : goal.returns-in_default-clause-step
returns-in_default-clause-step c =
    let none = found_there c.self.inside.sessions.entries c.args.self.now c.args.conn None c.self.view_is c.in_default.ensures.value in
    ap (λ (o : Option Held). option_map_or (step_of c.args.table.now) o step.NotYet) (sym none)

pub returns-clause-step : goal.returns-clause-step
returns-clause-step c =
    let got = found_there c.self.inside.sessions.entries c.args.self.now c.args.conn (Some c.in-Some.session.now) c.self.view_is c.in-Some.ensures.value in
    c.step.ensures.step ∙ ap (λ (o : Option Held). option_map_or (step_of c.args.table.now) o step.NotYet) (sym got)

pub returns-in_default-clause-rises : goal.returns-in_default-clause-rises
returns-in_default-clause-rises c = subst (λ m. Rises m) c.self.view_is c.self.invariant

pub returns-clause-rises : goal.returns-clause-rises
returns-clause-rises c = subst (λ m. Rises m) c.self.view_is c.self.invariant

pub returns-in_default-clause-waits : goal.returns-in_default-clause-waits
returns-in_default-clause-waits c = λ none.
    let there = found_there c.self.inside.sessions.entries c.args.self.now c.args.conn None c.self.view_is c.in_default.ensures.value in
    subst (λ (o : Option Held). IfSome o (λ h. front_of h.untreated ≡ not_yet)) (sym there) tt

pub returns-clause-waits : goal.returns-clause-waits
returns-clause-waits c = λ none.
    let got = found_there c.self.inside.sessions.entries c.args.self.now c.args.conn (Some c.in-Some.session.now) c.self.view_is c.in-Some.ensures.value in
    subst (λ (o : Option Held). IfSome o (λ h. front_of h.untreated ≡ not_yet)) (sym got) (c.step.ensures.waits.0 none)
