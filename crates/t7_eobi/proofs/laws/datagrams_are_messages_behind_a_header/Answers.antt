use Rattle.std.proofs.Common.{ap, sym}
use Rattle.t7_eobi.proofs.GrammarFacts.{datagram_faultless, datagram_rest, faultless_datagram}
use Rattle.std.specs.List.{filter_map}
use Rattle.t7_eobi.specs.Datagrams.{live_of, messages_of, snap_of}
use Rattle.t7_eobi.proofs.laws.datagrams_are_messages_behind_a_header.Goals as goal

pub returns-clause-faultless : goal.returns-clause-faultless
returns-clause-faultless c = λ x bytes. ((λ e. (messages_of bytes, faultless_datagram x bytes e)), (λ (messages, d). (datagram_faultless x bytes messages d).0))

pub returns-clause-one : goal.returns-clause-one
returns-clause-one c = λ x bytes messages d. sym (datagram_faultless x bytes messages d).1

pub returns-clause-live : goal.returns-clause-live
returns-clause-live c = λ x bytes header others d. ap (filter_map (live_of x.layouts)) (datagram_rest x bytes header others d)

pub returns-clause-snap : goal.returns-clause-snap
returns-clause-snap c = λ x bytes header others d. ap (filter_map (snap_of x.layouts)) (datagram_rest x bytes header others d)
