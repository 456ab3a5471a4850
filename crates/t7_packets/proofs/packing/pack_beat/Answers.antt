use Rattle.std.proofs.Common.{refl}
use Rattle.t7_packets.proofs.PackFacts.{beat_reads}
use Rattle.t7_packets.proofs.packing.pack_beat.Goals as goal

pub returns-clause-reads : goal.returns-clause-reads
returns-clause-reads c =
    beat_reads c.datagrams_read_again.ensures.live c.args.table.now c.args.segment c.args.number c.args.last c.write_header-header.new.out _ c.write_beat.new.out _ _ _ c.write_header-header.result c.write_beat.result
    c.write_header-header.ensures.says c.write_beat.ensures.says c.write_header-header.ensures.bytes refl c.write_header-header.ensures.length c.write_header-header.ensures.short
    c.write_beat.ensures.bytes c.write_beat.ensures.length c.write_beat.ensures.short
