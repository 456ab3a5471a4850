use Rattle.std.proofs.Common.{◌≡◌, ◌++◌, length}
use Rattle.t7_outcome.specs.Outcome.{text_of}
use Rattle.t7_replay.specs.Calling.{told_all}
use Rattle.t7_replay.specs.Handing.{AreSaidReplies}
use Rattle.t7_replay.specs.Lines.{replies_lines}
use Rattle.t7_replay.proofs.handing.put_replies.Given as goal

abbrev pub invariant-loop : goal.invariant-loop
invariant-loop l = record {
  told : told_all l.exchange.setting.layouts l.exchange.waiting l.caller ≡ told_all l.initial.exchange.setting.layouts l.initial.exchange.waiting l.initial.caller;
  said : AreSaidReplies l.exchange.setting.layouts l.exchange.waiting → AreSaidReplies l.initial.exchange.setting.layouts l.initial.exchange.waiting;
  others : l.exchange ≡ record l.initial.exchange { waiting = l.exchange.waiting };
  lines : l.text.items ++ text_of (replies_lines l.exchange.setting.layouts l.raw l.exchange.waiting)
      ≡ l.initial.text.items ++ text_of (replies_lines l.initial.exchange.setting.layouts l.raw l.initial.exchange.waiting);
}

abbrev pub decreases-loop : goal.decreases-loop
decreases-loop l = length l.exchange.waiting
