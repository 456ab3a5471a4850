use Rattle.std.proofs.Common.{◌∙◌, ◌∷◌, [], ◌++◌, ap, drop, add-zero}
use Rattle.std.proofs.lemmas.List.{append-nil}
use Rattle.t7_base.specs.declared.ids.Channel.TheVariants as channel
use Rattle.t7_book.specs.Acts.{Snaps, commands_of}
use Rattle.t7_feed.specs.Sending.{beats_in, first_and, numbered_bytes, sent_on}
use Rattle.t7_acts.specs.Left.{left_of}
use Rattle.t7_acts.specs.Next.{next_datagram}
use Rattle.t7_acts.proofs.Cycling.{left_both, next_opened}
use Rattle.t7_acts.proofs.Lists.{beats_both, commands_both, snaps_both}
use Rattle.t7_acts.proofs.Sends.{live_sent, snap_sent}
use Rattle.t7_acts.proofs.sending.a_snapshot_sends_one_more.Goals as goal

pub returns : goal.returns
returns c = record {
  live = λ terms acts. live_sent terms acts (Snaps ∷ []) ∙ append-nil (sent_on terms acts channel.Live);
  snap = λ terms acts items rest is. snap_sent terms acts (Snaps ∷ [])
      ∙ ap (λ way. sent_on terms acts channel.Snap ++ numbered_bytes terms (next_datagram terms acts channel.Snap) (first_and way (λ _. []))) is;
  commands = λ acts. commands_both acts (Snaps ∷ []) ∙ append-nil (commands_of acts);
  left = λ terms acts items rest is. left_both terms _ _ acts (Snaps ∷ []) ∙ ap (drop 1) is;
  beats = λ acts. beats_both acts (Snaps ∷ []) ∙ add-zero (beats_in acts);
  snaps = λ acts. snaps_both acts (Snaps ∷ []);
  some = λ terms acts. let o = next_opened terms (left_of terms acts) (commands_of acts) in (o.first, o.rest, o.are);
}
