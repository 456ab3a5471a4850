use Rattle.t7_book.specs.Orders.{empty_book, roster_of}
use Rattle.t7_packets.proofs.ActFacts.{live_carried, live_kept, live_numbered}
use Rattle.t7_packets.proofs.laws.live_datagrams_carry_the_trace.Goals as goal

pub returns-clause-numbered : goal.returns-clause-numbered
returns-clause-numbered c = λ layouts listing acts. live_numbered layouts listing.datagram (empty_book (roster_of listing)) 1 1 acts

pub returns-clause-carried : goal.returns-clause-carried
returns-clause-carried c = λ layouts listing acts. live_carried layouts listing.datagram (empty_book (roster_of listing)) 1 1 acts

pub returns-clause-kept : goal.returns-clause-kept
returns-clause-kept c = λ layouts listing acts more. live_kept layouts listing.datagram (empty_book (roster_of listing)) 1 1 acts more
