use Rattle.std.proofs.Common.{rules, ◌≡◌, Some, unwrap_or, length, subst, true}
use Rattle.t7_entry.specs.Days.{Day}
use Rattle.t7_entry.specs.Stalls.{IsOpen}
use Rattle.t7_replay.specs.Calling.{HandsUp, is_on_line}
use Rattle.t7_replay.proofs.Dialing.{up_done}
use Rattle.t7_replay.proofs.Opening.{where_true}
use Rattle.t7_replay.proofs.replayer.Replayer.up.Goals as goal

pub returns-clause-done : goal.returns-clause-done
returns-clause-done c =
    let calling = c.in-Some.caller in
    let is : c.args.self.now.caller ≡ Some c.in-Some.caller = search rules in
    let on : is_on_line c.in-Some.caller ≡ true = search rules in
    let yes : c.is_open.result ≡ true = search rules in
    let day : c.self.inside.exchange ≡ c.args.self.now.day = search rules in
    let is_open : IsOpen c.args.self.now.day c.conn-conn.result =
    subst (λ (d : Day). IsOpen d c.conn-conn.result) day (where_true c.is_open.result _ _ yes c.is_open.ensures) in
    let hands : HandsUp (unwrap_or c.args.count (length c.in-Some.caller.client.queue)) c.in-Some.caller c.up.new.self (Some c.in-Some-bytes.bytes.items) = search rules in
    up_done (λ text. text.items) c.args.self.now _ c.enter.new.self calling c.up.new.self c.args.count c.conn-conn.result c.in-Some-bytes.bytes.items c.enter.result
    is on c.conn-conn.ensures is_open hands c.enter.ensures.done (search rules)
