-- A day stays in step with acts.
use Rattle.std.proofs.Common.{◌≡◌, ◌∙◌, ℕ, ◌+◌, List, [], ◌∷◌, ◌++◌, length, map, refl, sym, ap, arith, append_assoc, length-append}
use Rattle.std.proofs.lemmas.List.{append-nil, length-map, map-append}
use Rattle.t7_base.specs.declared.ids.Channel.TheVariants as channel
use Rattle.t7_book.specs.Acts.{Act, Accepts, Beats, Snaps, commands_of}
use Rattle.t7_book.specs.declared.command.Command.{Command}
use Rattle.t7_book.specs.Trace.{trace}
use Rattle.t7_greedy.specs.Cuts.{joined}
use Rattle.t7_packets.specs.Packing.{Datagram, datagram_bytes, of_beat}
use Rattle.t7_entry.specs.State.{Setting, book_of}
use Rattle.t7_entry.specs.Events.{Event, happens}
use Rattle.t7_entry.specs.Days.{Day, Ships, day_after, due, due_from, first_of, last_of, new_day, told_by, told_in}
use Rattle.t7_feed.specs.Arrivals.{Terms}
use Rattle.t7_feed.specs.Sending.{sent_on}
use Rattle.t7_acts.specs.Added.{added_by}
use Rattle.t7_acts.specs.InStep.{IsInStep, setting_of}
use Rattle.t7_acts.specs.Next.{datagrams_of, live_bytes, next_datagram, next_message}
use Rattle.t7_acts.proofs.Owing.{CutsAll, due_both, due_items, items_of, joined_both}
use Rattle.t7_acts.proofs.Telling.{Added, last_grows}

-- the datagrams of commands after those that were accepted, where the next datagram and the next message have these numbers
abbrev due_by : Setting → ℕ → ℕ → List Command → List Command → List Datagram
due_by setting number first accepted cs = due_from setting.layouts setting.listing.datagram number first (told_by (book_of setting accepted) cs)

abbrev sum_by : Setting → List Command → ℕ
sum_by setting accepted = length (trace setting.listing accepted)

-- nothing is due where all messages were sent
none_due : (day : Day) → day.untold ≡ [] → due day ≡ []
none_due day none = ap (λ l. due_from day.setting.layouts day.setting.listing.datagram (day.live + 1) (first_of day) l) none

module _ (terms : Terms) (acts : List Act) where
  -- the numbers that come next
  last_is : (day : Day) (put : List (List ℕ)) → IsInStep terms acts day put → last_of day + 1 ≡ next_message terms acts
  last_is day put is = ap (λ s. sum_by s day.state.core.accepted + 1) is.setting ∙ ap (λ l. sum_by (setting_of terms) l + 1) is.accepted

  number_is : (day : Day) (put : List (List ℕ)) → IsInStep terms acts day put → day.live + length (due day) + 1 ≡ next_datagram terms acts channel.Live
  number_is day put is =
      let live = is.live in
      let bytes = length-map (due day) (datagram_bytes terms.layouts terms.listing.segment) in
      let both = length-append put (live_bytes terms (due day)) in
      let whole = ap (λ (l : List (List ℕ)). length l) is.whole in
      omega (arith, live, bytes, both, whole)

  -- the datagrams of further commands, in the words of the day and in those of the acts
  leads : (day : Day) (put : List (List ℕ)) (number first : ℕ) (cs : List Command) → IsInStep terms acts day put → number ≡ next_datagram terms acts channel.Live → first ≡ next_message terms acts
      → due_from day.setting.layouts day.setting.listing.datagram number first (told_by (book_of day.setting day.state.core.accepted) cs) ≡ datagrams_of terms acts cs
  leads day put number first cs is n f =
      ap (λ s. due_by s number first day.state.core.accepted cs) is.setting
      ∙ ap (λ l. due_by (setting_of terms) number first l cs) is.accepted
      ∙ ap (λ k. due_by (setting_of terms) k first (commands_of acts) cs) n
      ∙ ap (λ k. due_by (setting_of terms) (next_datagram terms acts channel.Live) k (commands_of acts) cs) f

  pub all_put : (day : Day) (put : List (List ℕ)) → IsInStep terms acts day put → day.untold ≡ [] → put ≡ sent_on terms acts channel.Live
  all_put day put is none = sym (append-nil put) ∙ ap (λ ds. put ++ live_bytes terms ds) (sym (none_due day none)) ∙ is.whole

  pub due_leads : (day : Day) (put : List (List ℕ)) (event : Event) → IsInStep terms acts day put → day.untold ≡ []
      → due_from day.setting.layouts day.setting.listing.datagram (day.live + 1) (last_of day + 1) (told_by (book_of day.setting day.state.core.accepted) (added_by day.setting day.state event))
      ≡ datagrams_of terms acts (added_by day.setting day.state event)
  due_leads day put event is none =
      let number : day.live + 1 ≡ next_datagram terms acts channel.Live =
      (let n = number_is day put is in let l = ap (λ (ds : List Datagram). length ds) (none_due day none) in omega (arith, n, l)) in
      leads day put (day.live + 1) (last_of day + 1) (added_by day.setting day.state event) is number (last_is day put is)

  -- what is due after an event: what was due, and the datagrams of the commands that it adds
  due_goes_on : (day : Day) (put : List (List ℕ)) (event : Event) → Added day event → IsInStep terms acts day put
      → due (day_after day event) ≡ due day ++ datagrams_of terms acts (added_by day.setting day.state event)
  due_goes_on day put event adds is =
      let layouts = day.setting.layouts in
      let limit = day.setting.listing.datagram in
      let told = told_in (happens day.setting day.state event).doings in
      let last = last_grows day event adds in
      let both = joined_both day.untold told in
      let few = is.few in
      let same : first_of (day_after day event) ≡ first_of day = omega (arith, last, both) in
      let follows : first_of day + length (joined day.untold) ≡ last_of day + 1 = omega (arith, few) in
      let number : day.live + 1 + length (due day) ≡ next_datagram terms acts channel.Live = (let n = number_is day put is in omega (arith, n)) in
      ap (λ n. due_from layouts limit (day.live + 1) n (day.untold ++ told)) same
      ∙ due_both layouts limit (day.live + 1) (first_of day) day.untold told
      ∙ ap (λ l. due day ++ due_from layouts limit (day.live + 1 + length (due day)) (first_of day + length (joined day.untold)) l) adds.told
      ∙ ap (λ ds. due day ++ ds)
      (leads day put (day.live + 1 + length (due day)) (first_of day + length (joined day.untold)) (added_by day.setting day.state event) is number (follows ∙ last_is day put is))

  pub event_steps : (day : Day) (put : List (List ℕ)) (event : Event) → Added day event → IsInStep terms acts day put →
      let cs = added_by day.setting day.state event in
      sent_on terms (acts ++ map Accepts cs) channel.Live ≡ sent_on terms acts channel.Live ++ live_bytes terms (datagrams_of terms acts cs)
      → commands_of (acts ++ map Accepts cs) ≡ commands_of acts ++ cs
      → IsInStep terms (acts ++ map Accepts cs) (day_after day event) put
  event_steps day put event adds is sends commands =
      let cs = added_by day.setting day.state event in
      let bytes = datagram_bytes terms.layouts terms.listing.segment in
      let more = datagrams_of terms acts cs in
      let last = last_grows day event adds in
      let both = joined_both day.untold (told_in (happens day.setting day.state event).doings) in
      let was = is.few in
      record {
        setting = is.setting;
        accepted = adds.accepted ∙ ap (λ l. l ++ cs) is.accepted ∙ sym commands;
        live = is.live;
        few = omega (arith, last, both, was);
        whole =
            ap (λ ds. put ++ live_bytes terms ds) (due_goes_on day put event adds is)
            ∙ ap (λ l. put ++ l) (map-append bytes (due day) more)
            ∙ sym (append_assoc put (live_bytes terms (due day)) (live_bytes terms more))
            ∙ ap (λ l. l ++ live_bytes terms more) is.whole
            ∙ sym sends;
      }

  pub sent_steps : CutsAll → (old new : Day) (put : List (List ℕ)) (datagram : Datagram) → IsInStep terms acts old put → Ships old new datagram
      → IsInStep terms acts new (put ++ datagram_bytes terms.layouts terms.listing.segment datagram ∷ [])
  sent_steps all old new put datagram is ships =
      let bytes = datagram_bytes terms.layouts terms.listing.segment datagram in
      let was = is.live in
      let now = ap (λ (d : Day). d.live) ships.others in
      let longer = length-append put (bytes ∷ []) in
      let last = ap last_of ships.others in
      let few = is.few in
      let before = due_items old.setting.layouts old.setting.listing.datagram all (old.live + 1) (first_of old) old.untold in
      let after = due_items new.setting.layouts new.setting.listing.datagram all (new.live + 1) (first_of new) new.untold in
      let first = ap items_of ships.first in
      record {
        setting = ap (λ (d : Day). d.setting) ships.others ∙ is.setting;
        accepted = ap (λ (d : Day). d.state.core.accepted) ships.others ∙ is.accepted;
        live = omega (arith, was, now, longer);
        few = omega (arith, last, few, before, after, first);
        whole = append_assoc put (bytes ∷ []) (live_bytes terms (due new)) ∙ ap (λ ds. put ++ live_bytes terms ds) (sym ships.first) ∙ is.whole;
      }

  pub beat_steps : (day : Day) (put : List (List ℕ)) → IsInStep terms acts day put → day.untold ≡ []
      → sent_on terms (acts ++ Beats ∷ []) channel.Live ≡ sent_on terms acts channel.Live ++ live_bytes terms (of_beat (next_datagram terms acts channel.Live) (length (trace terms.listing (commands_of acts))) ∷ [])
      → commands_of (acts ++ Beats ∷ []) ≡ commands_of acts
      → IsInStep terms (acts ++ Beats ∷ []) (record day { live = day.live + 1; beats = day.beats + 1 }) (put ++ datagram_bytes terms.layouts terms.listing.segment (of_beat (day.live + 1) (last_of day)) ∷ [])
  beat_steps day put is none sends commands =
      let bytes = datagram_bytes terms.layouts terms.listing.segment (of_beat (day.live + 1) (last_of day)) in
      let was = is.live in
      let longer = length-append put (bytes ∷ []) in
      let number : day.live + 1 ≡ next_datagram terms acts channel.Live =
      (let n = number_is day put is in let l = ap (λ (ds : List Datagram). length ds) (none_due day none) in omega (arith, n, l)) in
      let last : last_of day ≡ length (trace terms.listing (commands_of acts)) = (let l = last_is day put is in omega (arith, l)) in
      record {
        setting = is.setting;
        accepted = is.accepted ∙ sym commands;
        live = omega (arith, was, longer);
        few = is.few;
        whole =
            ap (λ ds. (put ++ bytes ∷ []) ++ live_bytes terms ds) (none_due (record day { live = day.live + 1; beats = day.beats + 1 }) none)
            ∙ append-nil (put ++ bytes ∷ [])
            ∙ ap (λ l. l ++ bytes ∷ []) (all_put day put is none)
            ∙ ap (λ n. sent_on terms acts channel.Live ++ live_bytes terms (of_beat n (last_of day) ∷ [])) number
            ∙ ap (λ n. sent_on terms acts channel.Live ++ live_bytes terms (of_beat (next_datagram terms acts channel.Live) n ∷ [])) last
            ∙ sym sends;
      }

  pub snap_steps : (day : Day) (put : List (List ℕ)) → IsInStep terms acts day put → sent_on terms (acts ++ Snaps ∷ []) channel.Live ≡ sent_on terms acts channel.Live
      → commands_of (acts ++ Snaps ∷ []) ≡ commands_of acts → IsInStep terms (acts ++ Snaps ∷ []) day put
  snap_steps day put is sends commands =
      record { setting = is.setting; accepted = is.accepted ∙ sym commands; live = is.live; few = is.few; whole = is.whole ∙ sym sends }

pub day_begins : (terms : Terms) → IsInStep terms [] (new_day (setting_of terms)) []
day_begins terms = record { setting = refl; accepted = refl; live = refl; few = omega arith; whole = refl }
