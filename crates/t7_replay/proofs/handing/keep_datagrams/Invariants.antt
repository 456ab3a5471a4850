use Rattle.std.proofs.Common.{◌≡◌, ◌+◌, ◌++◌, codes, length}
use Rattle.t7_outcome.specs.Outcome.{text_of}
use Rattle.t7_replay.specs.Handing.{due_bytes}
use Rattle.t7_replay.specs.Lines.{datagram_lines, under}
use Rattle.t7_replay.proofs.handing.keep_datagrams.Given as goal

abbrev pub invariant-loop : goal.invariant-loop
invariant-loop l = record {
  others : l.exchange ≡ record l.initial.exchange { untold = l.exchange.untold; live = l.exchange.live };
  count : l.exchange.live + length (due_bytes l.exchange) ≡ l.initial.exchange.live + length (due_bytes l.initial.exchange);
  lives : l.lives.items ++ due_bytes l.exchange ≡ l.initial.lives.items ++ due_bytes l.initial.exchange;
  lines : l.text.items ++ text_of (under l.raw (datagram_lines (codes "LIVE") (length l.lives.items) (due_bytes l.exchange)))
      ≡ l.initial.text.items ++ text_of (under l.raw (datagram_lines (codes "LIVE") (length l.initial.lives.items) (due_bytes l.initial.exchange)));
}

abbrev pub decreases-loop : goal.decreases-loop
decreases-loop l = length (due_bytes l.exchange)
