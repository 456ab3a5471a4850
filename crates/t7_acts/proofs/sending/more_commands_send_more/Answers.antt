use Rattle.std.proofs.Common.{◌∙◌, ◌++◌, map, ap, arith}
use Rattle.t7_base.specs.declared.ids.Channel.TheVariants as channel
use Rattle.t7_book.specs.Acts.{Accepts, commands_of}
use Rattle.t7_feed.specs.Sending.{sent_on}
use Rattle.t7_acts.specs.Left.{left_of}
use Rattle.t7_acts.specs.Next.{book_behind, live_bytes, next_datagram, next_message}
use Rattle.t7_acts.proofs.Cycling.{commands_leave, commands_snap_none, left_both}
use Rattle.t7_acts.proofs.Lists.{beats_both, commands_more, no_beats, no_snaps, snaps_both}
use Rattle.t7_acts.proofs.Sends.{live_sent, snap_same}
use Rattle.t7_acts.proofs.sending.more_commands_send_more.Goals as goal

pub returns : goal.returns
returns c = record {
  live = λ terms acts cs. live_sent terms acts (map Accepts cs)
      ∙ ap (λ ds. sent_on terms acts channel.Live ++ live_bytes terms ds)
      (c.due_datagrams_are_live.ensures terms.layouts terms.listing.datagram (book_behind terms acts) (next_datagram terms acts channel.Live) (next_message terms acts) cs);
  snap = λ terms acts cs. snap_same terms acts (map Accepts cs) (commands_snap_none terms (commands_of acts) (left_of terms acts) cs);
  commands = commands_more;
  left = λ terms acts cs. left_both terms _ _ acts (map Accepts cs) ∙ commands_leave terms (commands_of acts) (left_of terms acts) cs;
  beats = λ acts cs. let both = beats_both acts (map Accepts cs) in let none = no_beats cs in omega (arith, both, none);
  snaps = λ acts cs. let both = snaps_both acts (map Accepts cs) in let none = no_snaps cs in omega (arith, both, none);
}
