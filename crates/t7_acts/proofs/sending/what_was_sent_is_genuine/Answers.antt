use Rattle.t7_feed.specs.Arrivals.{channel_of}
use Rattle.t7_feed.specs.Sending.{sent_on}
use Rattle.t7_acts.proofs.Sends.{at_its_number}
use Rattle.t7_acts.proofs.sending.what_was_sent_is_genuine.Goals as goal

pub returns : goal.returns
returns c = λ terms acts dl feed k bytes at g. (at_its_number (sent_on terms acts (channel_of feed)) k bytes at, g)
