use Rattle.t7_eobi.specs.Bytes.{header_bytes}
use Rattle.t7_eobi.specs.Said.{SaysHeader}
use Rattle.std.proofs.Common.{subst, arith}
use Rattle.t7_snapshot.proofs.Fills.{packs_full, packs_all, filling_push}
use Rattle.t7_snapshot.proofs.cycle.fill.Goals as goal

pub returns-then-limit-len : goal.returns-then-limit-len
returns-then-limit-len c =
    let limit = c.datagram-limit.ensures.value in
    let sizes = c.datagram-limit.ensures.listing.datagram in
    let says = subst (λ n. SaysHeader c.args.table.now n c.args.number (header_bytes c.args.table.now n c.args.number)) c.segment.ensures.value c.write_header-len.ensures.says in
    packs_full c.datagrams_read_again.ensures.snap (record { layouts = c.args.table.now; listing = c.args.product.now }) c.args.number c.args.script.now c.loop-snap.script c.loop-snap.len c.args.out.now c.loop-snap.out
    c.in-Some.snap c.in-Some.ensures.next.0 c.snap_size.result c.loop-snap.invariant.filling says (omega (arith, sizes)) (omega (arith, sizes)) (omega (arith, limit, c.loop-snap.invariant.fits))
    (omega (arith, c.write_header-len.ensures.size, c.write_header-len.ensures.short)) c.in-Some.ensures.next.1 c.snap_size.ensures.size c.snap_size.ensures.short (omega (arith, limit, c.if-limit-len.true))

pub loop-snap-preserved : goal.loop-snap-preserved
loop-snap-preserved c = record {
  fits = omega (arith, c.loop-snap.invariant.fits, c.if-limit-len.false, c.snap_size.ensures.size, c.write_behind-len.ensures.size);
  room = omega (arith, c.loop-snap.invariant.room, c.write_behind-len.auto);
  filling = filling_push (record { layouts = c.args.table.now; listing = c.args.product.now }) c.args.number c.args.script.now c.loop-snap.script c.loop-snap.len c.args.out.now c.loop-snap.out c.write_behind-len.new.out
      c.in-Some.snap c.pass.ensures.0 c.in-Some.ensures.next.0 c.pass.new.self c.write_behind-len.result c.loop-snap.invariant.filling c.in-Some.ensures.next.1 c.pass.ensures.1 c.write_behind-len.ensures.size
      c.write_behind-len.ensures.length c.write_behind-len.ensures.says c.write_behind-len.ensures.bytes;
}

pub returns : goal.returns
returns c =
    let limit = c.datagram-limit.ensures.value in
    let sizes = c.datagram-limit.ensures.listing.datagram in
    let says = subst (λ n. SaysHeader c.args.table.now n c.args.number (header_bytes c.args.table.now n c.args.number)) c.segment.ensures.value c.write_header-len.ensures.says in
    packs_all c.datagrams_read_again.ensures.snap (record { layouts = c.args.table.now; listing = c.args.product.now }) c.args.number c.args.script.now c.loop-snap.script c.loop-snap.len c.args.out.now c.loop-snap.out
    c.loop-snap.invariant.filling says (omega (arith, sizes)) (omega (arith, limit, c.loop-snap.invariant.fits)) c.in_default.ensures.next c.requires.some
