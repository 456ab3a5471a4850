use Rattle.std.proofs.Common.{◌≡◌, [], subst, sym, ap, ◌∙◌, refl, arith}
use Rattle.std.specs.List.{All, IsDistinct}
use Rattle.std.specs.Ordering.{int_eq}
use Rattle.t7_eobi.specs.Bytes.{IsSecurity}
use Rattle.t7_feed.specs.Cycles.{cycle_of}
use Rattle.t7_feed.specs.Sending.{parts_of}
use Rattle.t7_snapshot.specs.Tallies.{IsTallied, securities_of}
use Rattle.t7_snapshot.proofs.TallyFacts.{ranged_by, untold_securities, untold_tallied}
use Rattle.t7_snapshot.proofs.script.Script.begin.Goals as goal

pub tally_orders-requires-clause-distinct : goal.tally_orders-requires-clause-distinct
tally_orders-requires-clause-distinct c = subst (λ zs. IsDistinct int_eq zs) (sym (ap securities_of c.begin_tallies.ensures.tallies ∙ untold_securities c.args.securities.now)) c.requires.distinct

pub tally_orders-requires-clause-untold : goal.tally_orders-requires-clause-untold
tally_orders-requires-clause-untold c = subst (λ ts. All (IsTallied []) ts) (sym c.begin_tallies.ensures.tallies) (untold_tallied c.args.securities.now)

pub invariant_of-self : goal.invariant_of-self
invariant_of-self c =
    let same = c.tally_orders.ensures.securities ∙ ap securities_of c.begin_tallies.ensures.tallies ∙ untold_securities c.args.securities.now in (
      record {
        few = c.copy_orders.ensures.few;
        tallied = subst (λ xs. All (IsTallied xs) c.tally_orders.new.tallies.items) c.deref.ensures.value c.tally_orders.ensures.tallied;
        ranged = ranged_by IsSecurity c.tally_orders.new.tallies.items (subst (λ zs. All IsSecurity zs) (sym same) c.requires.ranged);
        numbered = λ m is. (let number = c.requires.number in let e : c.args.m ≡ m = cc is in omega (arith, number, e));
        left_under = refl;
      },
      c.copy_orders.ensures.room,
      (let a = c.tally_orders.ensures.room in let b = c.begin_tallies.ensures.room in let r = c.self.invariant.2 in omega (arith, a, b, r)),
    )

pub returns : goal.returns
returns c =
    let same = c.tally_orders.ensures.securities ∙ ap securities_of c.begin_tallies.ensures.tallies ∙ untold_securities c.args.securities.now in
    ap (λ zs. cycle_of c.args.m (parts_of zs c.copy_orders.new.orders.items)) same ∙ ap (λ os. cycle_of c.args.m (parts_of c.args.securities.now os)) c.copy_orders.ensures.copied
