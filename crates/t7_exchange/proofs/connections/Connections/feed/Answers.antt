use Rattle.std.proofs.Common.{◌≡◌, ap, sym, ◌∙◌, is_some, Some, None, subst}
use Rattle.std.specs.Prelude.{IfSome, Option, ◌-◌, length, min}
use Rattle.t7_session.specs.Held.{Held}
use Rattle.t7_entry.specs.ByNumber.{Rises}
use Rattle.t7_exchange.specs.Maps.{changed, fed}
use Rattle.t7_exchange.proofs.MapFacts.{found_there, none_changed, rises_from, was_changed}
use Rattle.t7_exchange.proofs.connections.Connections.feed.Goals as goal

pub returns-in_default-clause-fed : goal.returns-in_default-clause-fed
returns-in_default-clause-fed c =
    let f : Held → Held = fed c.args.piece.now 0 c.args.now in
    ap (λ s. s.entries) c.get_mut.follows.holds-at-none
    ∙ none_changed c.self.inside.sessions.entries c.args.conn f (sym c.in_default.ensures.value)
    ∙ ap (λ m. changed m c.args.conn f) c.self.view_is

pub returns-clause-fed : goal.returns-clause-fed
returns-clause-fed c =
    let f : Held → Held = fed c.args.piece.now c.feed.result c.args.now in
    let has = sym c.in-Some.ensures.value in
    let wrote = c.get_mut.follows.holds c.feed.new.self in
    was_changed c.self.inside.sessions.entries (c.get_mut.follows.lender c.feed.new.self).entries c.args.conn f c.in-Some.session.now c.feed.new.self has c.feed.ensures.fed c.self.invariant wrote.4 (wrote.3 (ap is_some has)).0
    ∙ ap (λ m. changed m c.args.conn f) c.self.view_is

pub invariant_of-self-2 : goal.invariant_of-self-2
invariant_of-self-2 c = rises_from (c.get_mut.follows.lender c.feed.new.self).entries (c.get_mut.follows.holds c.feed.new.self).4

pub returns-in_default-clause-count : goal.returns-in_default-clause-count
returns-in_default-clause-count c =
    let none = found_there c.self.inside.sessions.entries c.args.self.now c.args.conn None c.self.view_is c.in_default.ensures.value in
    subst (λ (o : Option Held). IfSome o (λ h. 0 ≡ min (length c.args.piece.now) (8192 - length h.untreated))) (sym none) tt

pub returns-clause-count : goal.returns-clause-count
returns-clause-count c =
    let got = found_there c.self.inside.sessions.entries c.args.self.now c.args.conn (Some c.in-Some.session.now) c.self.view_is c.in-Some.ensures.value in
    subst (λ (o : Option Held). IfSome o (λ h. c.feed.result ≡ min (length c.args.piece.now) (8192 - length h.untreated))) (sym got) c.feed.ensures.count

pub returns-in_default-clause-rises : goal.returns-in_default-clause-rises
returns-in_default-clause-rises c = subst (λ m. Rises m) c.self.view_is c.self.invariant

pub returns-clause-rises : goal.returns-clause-rises
returns-clause-rises c = subst (λ m. Rises m) c.self.view_is c.self.invariant
