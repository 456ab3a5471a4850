-- Each datagram that was due goes out in its turn.
use Rattle.std.proofs.Common.{◌∙◌, sym}
use Rattle.t7_packets.specs.Packing.{datagram_bytes}
use Rattle.t7_drill.specs.Feeding.{Feeding}
use Rattle.t7_drill.proofs.Casting.{all_fed, cast_on, day_kept, live_kept, none_cast, put_bytes}
use Rattle.t7_drill.proofs.feeding.send_due.Goals as goal

pub loop-sent-preserved : goal.loop-sent-preserved
loop-sent-preserved c =
    let sent = c.in-Some.ensures in
    let old = c.loop-sent.exchange in
    let new = c.next_datagram.new.self in
    record {
      day = day_kept c.args.exchange.now old new sent.datagram c.loop-sent.invariant.day sent.ships;
      live = live_kept old new sent.datagram _ c.loop-sent.invariant.live sent.ships;
      fed = λ terms came sound heard.
          let before = c.loop-sent.invariant.fed terms came sound heard in
          let f : Feeding = record { draw = c.loop-sent.draw; copies = c.loop-sent.copies.items; came = before.0 } in
          let bytes = datagram_bytes old.setting.layouts old.setting.listing.segment sent.datagram in
          let front = put_bytes bytes c.next_datagram.new.out _ c.in-Some.sent.len sent.put.length sent.put.bytes in (
            _,
            c.in_ok-cast.ensures.heard terms before.0 sound before.1,
            cast_on old new sent.datagram _ f _ c.cast.new.draw c.cast.new.copies.items sent.ships front
                c.in_ok-cast.ensures.draw c.in_ok-cast.ensures.copies before.2,
          );
    }

pub returns-clause-fed : goal.returns-clause-fed
returns-clause-fed c = λ terms came sound heard.
    let before = c.loop-sent.invariant.fed terms came sound heard in
    let f : Feeding = record { draw = c.loop-sent.draw; copies = c.loop-sent.copies.items; came = before.0 } in
    all_fed terms f _ c.loop-sent.member before.1 (sym (none_cast c.loop-sent.exchange f c.in_default.ensures.0) ∙ before.2)
