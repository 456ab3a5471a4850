use Rattle.std.proofs.Common.{◌≡◌, ℕ, ◌+◌, ◌^◌, ◌≤◌, ◌⊎◌, List, Some, sym, ap, ◌∙◌, subst}
use Rattle.t7_client.specs.Going.{Treats, taken}
use Rattle.t7_client.specs.Hearing.{Heard}
use Rattle.t7_client.specs.Recovering.{Recovery, after, cut}
use Rattle.t7_client.proofs.Results.{an_err, not_err}
use Rattle.t7_client.proofs.Treating.{misfits, stops_short, treats, treats_few}
use Rattle.t7_client.proofs.machine.Machine.step.Goals as goal

pub returns-in-Misfit-clause-stops : goal.returns-in-Misfit-clause-stops
returns-in-Misfit-clause-stops c = λ (more : List ℕ).
    let law = c.a_front_begins_the_split.ensures in
    let m = misfits law.whole law.bad c.args.self.now c.in-Misfit.ensures.value more in
    let same = c.self.view_is ∙ c.look.ensures.kept in
    (ap (λ (h : Heard). h.misfit) m ∙ ap (λ (r : Recovery). Some r.treated) (sym same), ap cut c.look.ensures.kept ∙ ap (λ (h : Heard). cut h.client) (sym m))

pub take_off-requires-clause-few : goal.take_off-requires-clause-few
take_off-requires-clause-few c =
    let now = c.args.self.now in
    let is : c.treat.new.self ≡ after now c.in-Said.said =
    not_err c.treat.result c.if-is_err.ensures.value c.treat.ensures.ok ∙ ap (λ (r : Recovery). after r c.in-Said.said) c.look.ensures.kept in
    let P : Recovery → Type 0 = λ r. r.treated + c.in-Said.count ≤ 2 ^ 35 in
    subst P (sym is) (treats_few c.a_front_begins_the_split.ensures.whole now c.in-Said.said c.in-Said.count c.in-Said.ensures.value c.requires.sound)

pub returns-then-is_err-clause-stops : goal.returns-then-is_err-clause-stops
returns-then-is_err-clause-stops c = λ (more : List ℕ).
    let now = c.args.self.now in
    let which = an_err c.treat.result c.if-is_err.ensures.value c.treat.ensures.err in
    let P : Recovery → Type 0 = λ r. (cut c.treat.new.self ≡ cut r) ⊎ (cut c.treat.new.self ≡ cut (after r c.in-Said.said)) in
    stops_short c.a_front_begins_the_split.ensures.whole now c.in-Said.said c.in-Said.count c.in-Said.ensures.value c.treat.new.self
    (subst P c.look.ensures.kept which) more

pub returns-else-is_err-clause-goes : goal.returns-else-is_err-clause-goes
returns-else-is_err-clause-goes c =
    let now = c.args.self.now in
    let is : c.treat.new.self ≡ after now c.in-Said.said =
    not_err c.treat.result c.if-is_err.ensures.value c.treat.ensures.ok ∙ ap (λ (r : Recovery). after r c.in-Said.said) c.look.ensures.kept in
    let P : Recovery → Type 0 = λ r. Treats now r in
    subst P (sym (c.take_off.ensures ∙ ap (λ (r : Recovery). taken r c.in-Said.count) is))
    (treats c.a_front_begins_the_split.ensures.whole now c.in-Said.said c.in-Said.count c.in-Said.ensures.value c.in-Said.ensures.long c.requires.sound)
