use Rattle.std.proofs.Common.{ap, sym, ◌∙◌, is_some, Some, None}
use Rattle.std.specs.Prelude.{Option}
use Rattle.std.specs.Option.{option_map_or}
use Rattle.t7_session.specs.declared.session.Beat.TheVariants as beat
use Rattle.t7_session.specs.Heartbeats.{beat_of}
use Rattle.t7_session.specs.Held.{Held}
use Rattle.t7_exchange.proofs.MapFacts.{changed_same, found_there, rises_from, was_changed}
use Rattle.t7_exchange.proofs.connections.Connections.tick.Goals as goal

pub returns-in_default-clause-beat : goal.returns-in_default-clause-beat
returns-in_default-clause-beat c =
    let none = found_there c.self.inside.sessions.entries c.args.self.now c.args.conn None c.self.view_is c.in_default.ensures.value in
    ap (λ (o : Option Held). option_map_or (λ (h : Held). beat_of h c.args.now) o beat.Nothing) (sym none)

pub returns-clause-beat : goal.returns-clause-beat
returns-clause-beat c =
    let got = found_there c.self.inside.sessions.entries c.args.self.now c.args.conn (Some c.in-Some.session.now) c.self.view_is c.in-Some.ensures.value in
    c.tick.ensures.beat ∙ ap (λ (o : Option Held). option_map_or (λ (h : Held). beat_of h c.args.now) o beat.Nothing) (sym got)

pub returns-clause-kept : goal.returns-clause-kept
returns-clause-kept c =
    let f : Held → Held = λ h. h in
    let has = sym c.in-Some.ensures.value in
    let wrote = c.get_mut.follows.holds c.tick.new.self in
    was_changed c.self.inside.sessions.entries (c.get_mut.follows.lender c.tick.new.self).entries c.args.conn f c.in-Some.session.now c.tick.new.self has c.tick.ensures.kept c.self.invariant wrote.4 (wrote.3 (ap is_some has)).0
    ∙ changed_same c.self.inside.sessions.entries c.args.conn c.self.invariant ∙ c.self.view_is

pub invariant_of-self-2 : goal.invariant_of-self-2
invariant_of-self-2 c = rises_from (c.get_mut.follows.lender c.tick.new.self).entries (c.get_mut.follows.holds c.tick.new.self).4
