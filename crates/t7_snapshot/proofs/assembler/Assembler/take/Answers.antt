use Rattle.t7_snapshot.specs.Store.{reading}
use Rattle.t7_snapshot.proofs.assembler.Assembler.take.Goals as goal

pub keep-requires-clause-small : goal.keep-requires-clause-small
keep-requires-clause-small c =
    let whole = (c.datagrams_are_messages_behind_a_header.ensures.faultless (reading c.args.self.now.terms) c.args.packet.now.bytes).0 (rw c.requires.reading at c.requires.sound) in
    rw c.bytes.ensures whole.1.short
