use Rattle.std.proofs.Common.{ℕ, Option, Result, Ok, Err, sym, ap, ◌∙◌}
use Rattle.t7_eti.specs.declared.reason.Reason.TheVariants.{NullField}
use Rattle.t7_eti.specs.declared.request.Request.{Request}
use Rattle.t7_session.specs.declared.checks.Refusal.{Refusal}
use Rattle.t7_session.proofs.Refusals.{asked_as-fits, asked_as-short, number_in-role}
use Rattle.t7_session.proofs.checks.asked_as.Goals as goal

pub returns-in_default-clause-value : goal.returns-in_default-clause-value
returns-in_default-clause-value c =
    ap Err c.unnumbered.ensures
    ∙ sym (asked_as-short c.args.table.now c.args.template.now c.args.role c.args.frame.now c.requires.frame c.requires.family c.in_default.ensures.short)

pub returns-in-Ok-read_request-clause-value : goal.returns-in-Ok-read_request-clause-value
returns-in-Ok-read_request-clause-value c =
    sym (asked_as-fits c.args.table.now c.args.template.now c.args.role c.args.frame.now c.in-Ok.view (Ok c.in-Ok-read_request.request)
    c.in-Ok.ensures.fits c.requires.role c.in-Ok.ensures.view c.in-Ok-read_request.ensures.value)

pub returns-in-Err-clause-value : goal.returns-in-Err-clause-value
returns-in-Err-clause-value c =
    let refuses : Option ℕ → Result Request Refusal = λ number. Err (record { seq = number; reason = NullField }) in
    ap refuses (c.number_said.ensures.value ∙ number_in-role c.args.table.now c.args.template.now c.args.role c.args.frame.now c.requires.role)
    ∙ sym (asked_as-fits c.args.table.now c.args.template.now c.args.role c.args.frame.now c.in-Ok.view (Err c.in-Err.field-0)
    c.in-Ok.ensures.fits c.requires.role c.in-Ok.ensures.view c.in-Err.ensures.value)
