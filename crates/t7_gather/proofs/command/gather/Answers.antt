use Rattle.std.proofs.Common.{rules, ◌≡◌, ◌∷◌, [], List, true, Option, Some, Ok, Err, subst, sym}
use Rattle.t7_base.specs.Outside.{Grew}
use Rattle.t7_eti.specs.declared.response.Kept.{Kept}
use Rattle.t7_net.specs.Links.{Dialed, LinkAsk}
use Rattle.t7_outcome.specs.declared.ending.Stop.TheVariants.{Memory, WriteFault}
use Rattle.t7_outcome.specs.Steps.{Prints}
use Rattle.t7_report.specs.Gathered.{gathered_lines}
use Rattle.t7_gather.specs.Gathering.{client_of}
use Rattle.t7_gather.proofs.Finishing.{gathers_cut, gathers_none, gathers_stopped, gathers_whole, recovers_on, told_sent, told_written}
use Rattle.t7_gather.proofs.command.gather.Goals as goal

-- memory was wanting
pub returns-in_default-new-clause-written : goal.returns-in_default-new-clause-written
returns-in_default-new-clause-written g c =
    let conn = c.in-Ok.conn in
    let client = client_of c.args.table.now c.args.session in
    let e = g.L.Link.events c.args.link.now in
    let f = g.L.Link.events c.dial.new.self in
    let s = g.L.Link.sent c.args.link.now in
    let t = g.L.Link.sent c.dial.new.self in
    let p = g.S.Sink.written c.args.sink.now in
    told_written c.args.address.now c.args.count conn client (Err Memory) _ _ e f s t p p c.in-Ok.ensures.asked
    (gathers_none c.args.count conn client e f s t p c.dial.ensures.events c.dial.ensures.sent)

pub returns-in_default-new-clause-sent : goal.returns-in_default-new-clause-sent
returns-in_default-new-clause-sent g c =
    let conn = c.in-Ok.conn in
    let client = client_of c.args.table.now c.args.session in
    let e = g.L.Link.events c.args.link.now in
    let f = g.L.Link.events c.dial.new.self in
    let s = g.L.Link.sent c.args.link.now in
    let t = g.L.Link.sent c.dial.new.self in
    let p = g.S.Sink.written c.args.sink.now in
    told_sent c.args.address.now c.args.count conn client (Err Memory) _ _ e f s t p p c.in-Ok.ensures.asked
    (gathers_none c.args.count conn client e f s t p c.dial.ensures.events c.dial.ensures.sent)

-- it was stopped before all was recovered
pub returns-in_err-finish-clause-written : goal.returns-in_err-finish-clause-written
returns-in_err-finish-clause-written g c =
    let conn = c.in-Ok.conn in
    let client = client_of c.args.table.now c.args.session in
    let now = c.recover.new.gatherer.client in
    let e = g.L.Link.events c.args.link.now in
    let f = g.L.Link.events c.dial.new.self in
    let h = g.L.Link.events c.recover.new.link in
    let s = g.L.Link.sent c.args.link.now in
    let t = g.L.Link.sent c.dial.new.self in
    let u = g.L.Link.sent c.recover.new.link in
    let p = g.S.Sink.written c.args.sink.now in
    let ended = c.from_residual.result in
    let is : c.recover.result ≡ Err c.in_err-finish.field-0.0 = search rules in
    let ends : c.from_residual.result ≡ Err c.in_err-finish.field-0.0 = search rules in
    let asked = subst (λ (o : Option (List LinkAsk)). Grew (g.L.Link.asked c.args.link.now) o (λ asks. asks ≡ Dialed c.args.address.now (Some conn) ∷ []))
    (sym c.recover.ensures.asked) c.in-Ok.ensures.asked in
    told_written c.args.address.now c.args.count conn client ended _ _ e h s u p p asked
    (gathers_stopped c.args.count conn client now c.recover.result e f h s t u c.dial.ensures.events c.dial.ensures.sent
    (recovers_on c.args.count conn _ client _ now c.recover.result f h t u c.in-Ok-new.ensures.conn c.in-Ok-new.ensures.client c.recover.ensures.recovers)
    p c.in_err-finish.field-0.0 ended is ends c.recover.ensures.only)

-- the report could not be written
pub returns-in_err-put_gathered-clause-written : goal.returns-in_err-put_gathered-clause-written
returns-in_err-put_gathered-clause-written g c =
    let conn = c.in-Ok.conn in
    let client = client_of c.args.table.now c.args.session in
    let now = c.recover.new.gatherer.client in
    let e = g.L.Link.events c.args.link.now in
    let f = g.L.Link.events c.dial.new.self in
    let h = g.L.Link.events c.recover.new.link in
    let s = g.L.Link.sent c.args.link.now in
    let t = g.L.Link.sent c.dial.new.self in
    let u = g.L.Link.sent c.recover.new.link in
    let p = g.S.Sink.written c.args.sink.now in
    let q = g.S.Sink.written c.put_gathered.new.sink in
    let ended = c.from_residual-in_err-put_gathered.result in
    let is : c.recover.result ≡ Ok c.in_ok-finish.finish = search rules in
    let bad : c.put_gathered.result ≡ Err WriteFault = search rules in
    let ends : c.from_residual-in_err-put_gathered.result ≡ Err WriteFault = search rules in
    let printed = subst (λ (l : List Kept). Grew p q
    (Prints (gathered_lines true l) c.put_gathered.result)) c.responses.ensures c.put_gathered.ensures.printed in
    let asked = subst (λ (o : Option (List LinkAsk)). Grew (g.L.Link.asked c.args.link.now) o (λ asks. asks ≡ Dialed c.args.address.now (Some conn) ∷ []))
    (sym c.recover.ensures.asked) c.in-Ok.ensures.asked in
    told_written c.args.address.now c.args.count conn client ended _ _ e h s u p q asked
    (gathers_cut c.args.count conn client now c.recover.result e f h s t u c.dial.ensures.events c.dial.ensures.sent
    (recovers_on c.args.count conn _ client _ now c.recover.result f h t u c.in-Ok-new.ensures.conn c.in-Ok-new.ensures.client c.recover.ensures.recovers)
    p q c.in_ok-finish.finish c.put_gathered.result ended is bad ends printed)

pub returns-in_err-put_gathered-clause-sent : goal.returns-in_err-put_gathered-clause-sent
returns-in_err-put_gathered-clause-sent g c =
    let conn = c.in-Ok.conn in
    let client = client_of c.args.table.now c.args.session in
    let now = c.recover.new.gatherer.client in
    let e = g.L.Link.events c.args.link.now in
    let f = g.L.Link.events c.dial.new.self in
    let h = g.L.Link.events c.recover.new.link in
    let s = g.L.Link.sent c.args.link.now in
    let t = g.L.Link.sent c.dial.new.self in
    let u = g.L.Link.sent c.recover.new.link in
    let p = g.S.Sink.written c.args.sink.now in
    let q = g.S.Sink.written c.put_gathered.new.sink in
    let ended = c.from_residual-in_err-put_gathered.result in
    let is : c.recover.result ≡ Ok c.in_ok-finish.finish = search rules in
    let bad : c.put_gathered.result ≡ Err WriteFault = search rules in
    let ends : c.from_residual-in_err-put_gathered.result ≡ Err WriteFault = search rules in
    let printed = subst (λ (l : List Kept). Grew p q
    (Prints (gathered_lines true l) c.put_gathered.result)) c.responses.ensures c.put_gathered.ensures.printed in
    let asked = subst (λ (o : Option (List LinkAsk)). Grew (g.L.Link.asked c.args.link.now) o (λ asks. asks ≡ Dialed c.args.address.now (Some conn) ∷ []))
    (sym c.recover.ensures.asked) c.in-Ok.ensures.asked in
    told_sent c.args.address.now c.args.count conn client ended _ _ e h s u p q asked
    (gathers_cut c.args.count conn client now c.recover.result e f h s t u c.dial.ensures.events c.dial.ensures.sent
    (recovers_on c.args.count conn _ client _ now c.recover.result f h t u c.in-Ok-new.ensures.conn c.in-Ok-new.ensures.client c.recover.ensures.recovers)
    p q c.in_ok-finish.finish c.put_gathered.result ended is bad ends printed)

-- all is recovered, and the report was written
pub returns-clause-written : goal.returns-clause-written
returns-clause-written g c =
    let conn = c.in-Ok.conn in
    let client = client_of c.args.table.now c.args.session in
    let now = c.recover.new.gatherer.client in
    let e = g.L.Link.events c.args.link.now in
    let f = g.L.Link.events c.dial.new.self in
    let h = g.L.Link.events c.recover.new.link in
    let s = g.L.Link.sent c.args.link.now in
    let t = g.L.Link.sent c.dial.new.self in
    let u = g.L.Link.sent c.recover.new.link in
    let p = g.S.Sink.written c.args.sink.now in
    let q = g.S.Sink.written c.put_gathered.new.sink in
    let finish = c.in_ok-finish.finish in
    let is : c.recover.result ≡ Ok c.in_ok-finish.finish = search rules in
    let ok : c.put_gathered.result ≡ Ok c.in_ok-put_gathered.field-0 = search rules in
    let printed = subst (λ (l : List Kept). Grew p q
    (Prints (gathered_lines true l) c.put_gathered.result)) c.responses.ensures c.put_gathered.ensures.printed in
    let asked = subst (λ (o : Option (List LinkAsk)). Grew (g.L.Link.asked c.args.link.now) o (λ asks. asks ≡ Dialed c.args.address.now (Some conn) ∷ []))
    (sym c.recover.ensures.asked) c.in-Ok.ensures.asked in
    told_written c.args.address.now c.args.count conn client (Ok finish) _ _ e h s u p q asked
    (gathers_whole c.args.count conn client now c.recover.result e f h s t u c.dial.ensures.events c.dial.ensures.sent
    (recovers_on c.args.count conn _ client _ now c.recover.result f h t u c.in-Ok-new.ensures.conn c.in-Ok-new.ensures.client c.recover.ensures.recovers)
    p q finish c.put_gathered.result c.in_ok-put_gathered.field-0 is ok printed)
