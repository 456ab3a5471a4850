use Rattle.std.proofs.Common.{refl}
use Rattle.t7_acts.proofs.Sends.{none_sent}
use Rattle.t7_acts.proofs.sending.nothing_was_sent.Goals as goal

pub returns : goal.returns
returns c = record { sent = none_sent; left = λ terms. refl }
