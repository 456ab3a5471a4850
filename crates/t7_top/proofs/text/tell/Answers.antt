use Rattle.t7_top.proofs.Telling.{cut_feed, cut_line, cut_text, whole_line}
use Rattle.t7_top.proofs.text.tell.Goals as goal

pub returns-in-Err-clause-written : goal.returns-in-Err-clause-written
returns-in-Err-clause-written g c = cut_line _ _ c.args.text.now (cut_text _ _ c.args.text.now c.in-Err.ensures.err)

pub returns-in-Err-clause-tells : goal.returns-in-Err-clause-tells
returns-in-Err-clause-tells g c = cut_text _ _ c.args.text.now c.in-Err.ensures.err

pub returns-in-Ok-put-clause-written : goal.returns-in-Ok-put-clause-written
returns-in-Ok-put-clause-written g c = whole_line _ _ _ c.args.text.now c.in-Ok.ensures.ok c.in-Ok-put.ensures.ok

pub returns-in-Err-put-clause-written : goal.returns-in-Err-put-clause-written
returns-in-Err-put-clause-written g c = cut_line _ _ c.args.text.now (cut_feed _ _ _ c.args.text.now c.in-Ok.ensures.ok c.in-Err-put.ensures.err)
