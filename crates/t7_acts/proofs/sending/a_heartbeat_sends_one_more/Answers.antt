use Rattle.std.proofs.Common.{ℕ, ◌+◌, ◌-◌, ◌≡◌, ◌∙◌, ◌∷◌, ◌++◌, [], ap, arith, refl, add-zero}
use Rattle.std.proofs.lemmas.List.{append-nil}
use Rattle.t7_base.specs.declared.ids.Channel.TheVariants as channel
use Rattle.t7_book.specs.Acts.{Beats, commands_of}
use Rattle.t7_feed.specs.Sending.{last_of, sent_on, snaps_in}
use Rattle.t7_packets.specs.Packing.{of_beat}
use Rattle.t7_acts.specs.Next.{live_bytes, next_datagram}
use Rattle.t7_acts.proofs.Cycling.{left_both}
use Rattle.t7_acts.proofs.Lists.{beats_both, commands_both, snaps_both}
use Rattle.t7_acts.proofs.Sends.{live_sent, snap_same}
use Rattle.t7_acts.proofs.sending.a_heartbeat_sends_one_more.Goals as goal

one_less : (n : ℕ) → n + 1 - 1 ≡ n
one_less n = omega arith

pub returns : goal.returns
returns c = record {
  live = λ terms acts. live_sent terms acts (Beats ∷ [])
      ∙ ap (λ n. sent_on terms acts channel.Live ++ live_bytes terms (of_beat (next_datagram terms acts channel.Live) n ∷ [])) (one_less (last_of terms.listing (commands_of acts)));
  snap = λ terms acts. snap_same terms acts (Beats ∷ []) refl;
  commands = λ acts. commands_both acts (Beats ∷ []) ∙ append-nil (commands_of acts);
  left = λ terms acts. left_both terms _ _ acts (Beats ∷ []);
  beats = λ acts. beats_both acts (Beats ∷ []);
  snaps = λ acts. snaps_both acts (Beats ∷ []) ∙ add-zero (snaps_in acts);
}
