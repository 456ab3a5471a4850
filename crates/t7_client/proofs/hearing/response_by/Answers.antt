use Rattle.std.proofs.Common.{◌≤◌, sym, ◌∙◌, arith}
use Rattle.t7_client.proofs.Reading.{under_found, unfit_none}
use Rattle.t7_client.proofs.Sizes.{asks_long}
use Rattle.t7_client.proofs.hearing.response_by.Goals as goal

pub returns-in_default-clause-value : goal.returns-in_default-clause-value
returns-in_default-clause-value c =
    let table = c.args.table.now in
    let t = c.in_ok-template.template.now in
    sym (under_found table c.args.frame.now t c.template_id.result c.template_id.ensures c.in_ok-template.ensures.found
    ∙ unfit_none table c.args.frame.now t c.requires c.in_ok-template.ensures.family c.in_default.ensures.short)

pub returns-in-Ok-read_response-clause-long : goal.returns-in-Ok-read_response-clause-long
returns-in-Ok-read_response-clause-long c = λ asked.
    let t = c.in_ok-template.template.now in
    let long : 16 ≤ t.size =
    asks_long c.args.table.now t c.args.frame.now c.in-Ok-read_response.said c.template.ensures.table c.in_ok-template.ensures.layout
    c.in_ok-template.ensures.family c.in_ok-template.ensures.role (sym (rw c.in-Ok.ensures.view at c.in-Ok-read_response.ensures)) asked in
    omega (arith, long, c.in-Ok.ensures.fits.room)
