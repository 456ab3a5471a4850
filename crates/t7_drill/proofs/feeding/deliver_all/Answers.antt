-- The datagrams so far were delivered.
use Rattle.std.proofs.Common.{◌∙◌, subst, sym, arith, List}
use Rattle.t7_feed.specs.Arrivals.{Delivery}
use Rattle.t7_drill.specs.Feeding.{Heard, delivered}
use Rattle.t7_drill.proofs.Casting.{each_delivered, one_delivered}
use Rattle.t7_drill.proofs.feeding.deliver_all.Goals as goal

pub loop-datagram-preserved : goal.loop-datagram-preserved
loop-datagram-preserved c = λ terms came sound heard.
    let before = c.loop-datagram.invariant terms came sound heard in (
      delivered c.args.feed c.bytes.result.now before.0,
      c.deliver.ensures terms before.0 sound before.1,
      one_delivered c.args.feed c.args.datagrams.now c.loop-datagram.datagram-index c.datagram-item.result c.bytes.result.now before.0
          (omega arith) c.datagram-item.is c.bytes.ensures ∙ before.2,
    )

pub returns : goal.returns
returns c = λ terms came sound heard.
    let before = c.loop-datagram.invariant terms came sound heard in
    let same = sym (each_delivered c.args.feed c.args.datagrams.now c.loop-datagram.datagram-index before.0 (omega arith)) ∙ before.2 in
    subst (λ (dl : List Delivery). Heard terms c.loop-datagram.member dl) same before.1
