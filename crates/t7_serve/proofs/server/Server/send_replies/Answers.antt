use Rattle.t7_serve.specs.Servers.{waiting_sent}
use Rattle.t7_serve.proofs.Going.{on_err, replies_broke}
use Rattle.t7_serve.proofs.server.Server.send_replies.Goals as goal

pub returns-in_err-send_next-clause-broke : goal.returns-in_err-send_next-clause-broke
returns-in_err-send_next-clause-broke g c =
    on_err c.from_residual.result
    (replies_broke c.loop.self (waiting_sent c.args.self.now) _ _ _ c.loop.invariant.sent c.in_err-send_next.ensures.broke)
