use Rattle.std.proofs.Common.{take, refl, subst, arith}
use Rattle.t7_packets.proofs.PackFacts.{IsBegun, begun_next, begun_reads, longest_before, some_before}
use Rattle.t7_packets.proofs.packing.pack.Goals as goal

pub returns-then-left-message_size-clause-some : goal.returns-then-left-message_size-clause-some
returns-then-left-message_size-clause-some c =
    some_before c.args.table.now c.args.segment c.args.limit c.args.number c.args.first c.args.messages.now c.loop-used.used c.loop-used.len c.message_size.result c.args.out.now c.loop-used.out
    c.loop-used.invariant.begun (omega (arith, c.write_header-len.ensures.size, c.write_header-len.ensures.short)) c.message_size.ensures.short c.requires.limit_least c.if-left-message_size.true

pub returns-then-left-message_size-clause-greedy : goal.returns-then-left-message_size-clause-greedy
returns-then-left-message_size-clause-greedy c =
    longest_before c.args.table.now c.args.segment c.args.limit c.args.number c.args.first c.args.messages.now c.loop-used.used c.loop-used.len c.message_size.result c.index-messages-used.result c.args.out.now c.loop-used.out
    c.loop-used.invariant.begun (omega (arith, c.write_header-len.ensures.size, c.write_header-len.ensures.short)) c.message_size.ensures.short c.requires.limit_least c.loop-used.invariant.fits c.if-left-message_size.true
    c.message_size.ensures.size c.index-messages-used.is c.loop-used-test.true

pub returns-then-left-message_size-clause-reads : goal.returns-then-left-message_size-clause-reads
returns-then-left-message_size-clause-reads c =
    begun_reads c.datagrams_read_again.ensures.live c.args.table.now c.args.segment c.args.number c.args.first _ c.loop-used.len c.args.out.now c.loop-used.out c.write_header-len.ensures.says c.loop-used.invariant.begun
    (omega (arith, c.loop-used.invariant.fits, c.requires.limit_most))

pub loop-used-preserved : goal.loop-used-preserved
loop-used-preserved c =
    let below = c.loop-used-test.true in
    record {
      fits = omega (arith, c.loop-used.invariant.fits, c.if-left-message_size.false, c.message_size.ensures.size, c.write_behind-len.ensures.size);
      begun = begun_next c.args.table.now c.args.segment c.args.number c.args.first c.args.messages.now c.loop-used.used c.index-messages-used.result c.loop-used.len c.args.out.now c.loop-used.out c.write_behind-len.new.out
          c.write_behind-len.result _ c.index-messages-used.is below c.loop-used.invariant.begun refl c.write_behind-len.ensures.size c.write_behind-len.ensures.length c.write_behind-len.ensures.says c.write_behind-len.ensures.bytes;
    }

pub returns-clause-reads : goal.returns-clause-reads
returns-clause-reads c =
    let below = c.loop-used-test.false in
    begun_reads c.datagrams_read_again.ensures.live c.args.table.now c.args.segment c.args.number c.args.first _ c.loop-used.len c.args.out.now c.loop-used.out c.write_header-len.ensures.says
    (subst (λ n. IsBegun c.args.table.now c.args.segment c.args.number c.args.first (take n c.args.messages.now) c.loop-used.len c.args.out.now c.loop-used.out) (omega arith) c.loop-used.invariant.begun)
    (omega (arith, c.loop-used.invariant.fits, c.requires.limit_most))
