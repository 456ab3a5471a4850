use Rattle.std.proofs.Common.{◌∙◌, ap, subst, List, ℕ, Option, Some}
use Rattle.t7_levels.specs.Named.{Found, Gap}
use Rattle.t7_levels.specs.Holes.{standing}
use Rattle.t7_levels.proofs.HoleLemmas.{stands}
use Rattle.t7_levels.proofs.names.Names.find.Goals as goal

pub returns-in-Some-clause-found : goal.returns-in-Some-clause-found
returns-in-Some-clause-found g c =
    let f : Found g.K.Ord.cmp c.self.inside.entries.items c.args.name (Some c.in-Some.slot) = subst (λ (l : List (g.row.K.Denot × Option ℕ)). Found g.K.Ord.cmp l c.args.name (Some c.in-Some.slot)) c.deref.ensures.value c.in-Some.ensures.found.0 in
    subst (λ (l : List (g.row.K.Denot × ℕ)). Found g.K.Ord.cmp l c.args.name c.in-Some.slot) c.self.view_is (stands g.K.Ord.cmp g.met.K.Ord.total c.self.inside.entries.items c.args.name c.in-Some.slot f)

pub returns-in-None-clause-absent : goal.returns-in-None-clause-absent
returns-in-None-clause-absent g c none =
    subst (λ (l : List (g.row.K.Denot × ℕ)). Gap g.K.Ord.cmp l c.args.name) (ap standing c.deref.ensures.value ∙ c.self.view_is) (c.slot_at.ensures.absent c.in-None.is)
