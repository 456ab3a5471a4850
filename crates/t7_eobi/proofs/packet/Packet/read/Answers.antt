use Rattle.std.proofs.Common.{◌≡◌, ◌∙◌, None, refl, sym}
use Rattle.t7_eobi.specs.Datagrams.{messages_of}
use Rattle.t7_eobi.specs.Faults.{Reading, fault_of}
use Rattle.t7_eobi.proofs.GrammarFacts.{datagram_faultless, faultless_datagram}
use Rattle.t7_eobi.proofs.packet.Packet.read.Goals as goal

pub returns-in-Some-clause-grammar : goal.returns-in-Some-clause-grammar
returns-in-Some-clause-grammar c =
    let x : Reading = record { layouts = c.args.table.now; segment = c.args.segment; channel = c.args.channel } in (
      (λ e. cc e),
      (λ (messages, d). (let f : fault_of x c.args.bytes.now ≡ None = (datagram_faultless x c.args.bytes.now messages d).0 in cc (f, c.fault_of.ensures, c.in-Some.is))),
    )

pub returns-in-None-clause-grammar : goal.returns-in-None-clause-grammar
returns-in-None-clause-grammar c =
    let x : Reading = record { layouts = c.args.table.now; segment = c.args.segment; channel = c.args.channel } in
    ((λ e. (messages_of c.args.bytes.now, faultless_datagram x c.args.bytes.now (sym c.fault_of.ensures ∙ c.in-None.is))), (λ d. refl))
