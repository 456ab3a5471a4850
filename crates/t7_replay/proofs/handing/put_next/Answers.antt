use Rattle.std.proofs.Common.{rules, ◌≡◌, Some}
use Rattle.t7_exchange.specs.declared.replies.Reply.TheVariants as handed
use Rattle.t7_exchange.specs.Handed.{first_handed}
use Rattle.t7_replay.proofs.ReplyFacts.{prints_close, prints_frame}
use Rattle.t7_replay.proofs.handing.put_next.Goals as goal

pub returns-in_ok-put_close-in-Some-Close : goal.returns-in_ok-put_close-in-Some-Close
returns-in_ok-put_close-in-Some-Close c =
    let is : first_handed c.args.exchange.now.setting.layouts c.args.exchange.now.waiting ≡ Some (handed.Close c.in-Some-Close.conn) = search rules in
    prints_close c.args.raw c.args.exchange.now c.next_reply.new.self c.args.caller.now c.tell_close.new.caller c.in-Some-Close.conn c.args.text.now.items c.put_close.new.text.items
    is c.in-Some-Close.ensures.others c.tell_close.ensures c.in_ok-put_close-in-Some-Close.ensures

pub returns-in_ok-put_frame-in-Some-Bytes : goal.returns-in_ok-put_frame-in-Some-Bytes
returns-in_ok-put_frame-in-Some-Bytes c =
    let is : first_handed c.args.exchange.now.setting.layouts c.args.exchange.now.waiting ≡ Some (handed.Bytes c.in-Some-Bytes.conn c.in-Some-Bytes.len) = search rules in
    prints_frame c.args.raw c.args.exchange.now c.next_reply.new.self c.args.caller.now c.tell_frame.new.caller c.in-Some-Bytes.conn c.in-Some-Bytes.len _ c.next_reply.new.out c.next_refusal-reason.result
    c.args.text.now.items c.put_frame.new.text.items
    is c.in-Some-Bytes.ensures.bytes c.next_refusal-reason.ensures
    c.in-Some-Bytes.ensures.others c.in_ok-tell_frame-in-Some-Bytes.ensures (search rules) c.in_ok-put_frame-in-Some-Bytes.ensures
