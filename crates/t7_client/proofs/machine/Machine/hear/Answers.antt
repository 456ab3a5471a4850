use Rattle.std.proofs.Common.{◌≡◌, ℕ, ◌+◌, ◌-◌, ◌^◌, ◌≤◌, List, length, take, drop, sym, ap, ◌∙◌, subst, arith}
use Rattle.std.proofs.lemmas.Result.{err_from_is_err_and}
use Rattle.t7_client.specs.Hearing.{Continues, heard}
use Rattle.t7_client.specs.Recovering.{Recovery}
use Rattle.t7_client.specs.Sound.{IsSound}
use Rattle.t7_client.proofs.Continuing.{continues_on, fed, fed_sound, feeds, heard_all, no_bytes, stops_before, tail_is}
use Rattle.t7_client.proofs.machine.Machine.hear.Goals as goal

pub returns-in_err-treat_all-clause-stops : goal.returns-in_err-treat_all-clause-stops
returns-in_err-treat_all-clause-stops c =
    let p = err_from_is_err_and c.from_residual.result c.from_residual.ensures.1 in
    rw (p.1, p.2) (stops_before _ _ _ _ _ _ c.pieces.invariant.goes (c.in_err-treat_all.ensures.stops c.pieces.left.now))

pub returns-then-is_empty-clause-ok : goal.returns-then-is_empty-clause-ok
returns-then-is_empty-clause-ok c =
    let left = c.pieces.left.now in
    let on = continues_on _ _ _ _ _ _ c.pieces.invariant.goes (c.in_ok-treat_all.ensures.goes left) in
    on.heard ∙ ap (heard c.treat_all.new.self) (no_bytes left c.if-is_empty.ensures)
    ∙ heard_all c.a_front_begins_the_split.ensures.waits c.treat_all.new.self c.in_ok-treat_all.ensures.waits

pub pieces-preserved : goal.pieces-preserved
pieces-preserved c =
    let now = c.args.self.now in
    let bytes = c.args.bytes.now in
    let left = c.pieces.left.now in
    let count = c.feed-count.result in
    let treated = c.treat_all.new.self in
    let next : Recovery = fed treated count left in
    let is : c.feed-count.new.self ≡ next = c.feed-count.ensures.fed in
    let tail = tail_is left count in
    let goes = c.in_ok-treat_all.ensures.goes left in
    let few : treated.treated + length treated.rest + length left ≤ 2 ^ 35 = omega (arith, goes.count, c.pieces.invariant.few) in
    let feeds = feeds treated count left in
    let on = continues_on now treated next bytes left (drop count left) (continues_on now c.pieces.self treated bytes left left c.pieces.invariant.goes goes) feeds in
    let A : Recovery → Type 0 = λ r. IsSound r in
    let B : List ℕ → Type 0 = λ l. Continues now bytes next l in
    let C : Recovery → Type 0 = λ r. Continues now bytes r (take (length left - count) (drop count left)) in
    let D : List ℕ → Type 0 = λ l. next.treated + length next.rest + length l ≤ 2 ^ 35 in
    let E : Recovery → Type 0 = λ r. r.treated + length r.rest + length (take (length left - count) (drop count left)) ≤ 2 ^ 35 in
    record {
      sound = subst A (sym is) (fed_sound treated count left c.in_ok-treat_all.ensures.sound few);
      goes = subst C (sym is) (subst B (sym tail) on);
      dialed = ap (λ (r : Recovery). r.dialed) is ∙ goes.stays.dialed ∙ c.pieces.invariant.dialed;
      session = ap (λ (r : Recovery). r.session) is ∙ goes.stays.session ∙ c.pieces.invariant.session;
      few = subst E (sym is) (subst D (sym tail) (omega (arith, feeds.count, few)));
    }
