-- What the member keeps and counts.
use Rattle.t7_drill.proofs.Hearing.{heard_more}
use Rattle.t7_drill.proofs.feeding.deliver.Goals as goal

pub returns : goal.returns
returns c = λ terms came sound heard.
    let does = c.deliver-delivered.ensures in
    heard_more terms c.args.feed c.args.bytes.now c.args.member.now c.deliver-delivered.new.self came c.what_is_fresh_is_new.ensures sound
    (record { refused = does.refused; accepted = does.accepted; step = does.step }) heard
