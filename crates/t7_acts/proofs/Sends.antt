-- What acts send on each channel, one after another.
use Rattle.std.proofs.Common.{◌≡◌, ◌∙◌, ℕ, zero, suc, ◌+◌, List, [], ◌∷◌, ◌++◌, length, map, Some, None, refl, sym, ap, subst, arith}
use Rattle.std.specs.Prelude.{slice_get, Contains}
use Rattle.std.proofs.lemmas.List.{append-nil, length-map, map-append}
use Rattle.std.proofs.lemmas.List.Elements.{Contains-append_left}
use Rattle.t7_base.specs.declared.ids.Channel.{Channel}
use Rattle.t7_base.specs.declared.ids.Channel.TheVariants as channel
use Rattle.t7_eobi.specs.declared.walks.Snap.{Snap}
use Rattle.t7_book.specs.Acts.{Act, commands_of}
use Rattle.t7_book.specs.Orders.{empty_book, roster_of}
use Rattle.t7_book.specs.Trace.{trace}
use Rattle.t7_packets.specs.Datagrams.{live_datagrams, live_from}
use Rattle.t7_packets.specs.Packing.{Datagram, datagram_bytes}
use Rattle.t7_feed.specs.Arrivals.{Delivery, Terms, channel_of}
use Rattle.t7_feed.specs.Sending.{Genuine, at_number, numbered_bytes, sent_on, snap_datagrams, snaps_from}
use Rattle.t7_acts.specs.Left.{left_of}
use Rattle.t7_acts.specs.Next.{book_behind, live_bytes, next_datagram, next_message}
use Rattle.t7_acts.proofs.Lives.{live_both}
use Rattle.t7_acts.proofs.Cycling.{numbered_append, numbered_count, snaps_both}

module _ (terms : Terms) where
  -- the live datagrams of acts after others
  abbrev pub live_after : List Act → List Act → List Datagram
  live_after acts more = live_from terms.layouts terms.listing.datagram (book_behind terms acts) (next_datagram terms acts channel.Live) (next_message terms acts) more

  pub live_sent : (acts more : List Act) → sent_on terms (acts ++ more) channel.Live ≡ sent_on terms acts channel.Live ++ live_bytes terms (live_after acts more)
  live_sent acts more =
      let bytes = datagram_bytes terms.layouts terms.listing.segment in
      let limit = terms.listing.datagram in
      let before = live_datagrams terms.layouts terms.listing acts in
      let book = book_behind terms acts in
      let n : 1 + length before ≡ next_datagram terms acts channel.Live = (let l = length-map before bytes in omega (arith, l)) in
      let f : 1 + length (trace terms.listing (commands_of acts)) ≡ next_message terms acts = omega arith in
      ap (map bytes)
      (live_both terms.layouts limit (empty_book (roster_of terms.listing)) 1 1 acts more
      ∙ ap (λ k. before ++ live_from terms.layouts limit book k (1 + length (trace terms.listing (commands_of acts))) more) n
      ∙ ap (λ k. before ++ live_from terms.layouts limit book (next_datagram terms acts channel.Live) k more) f)
      ∙ map-append bytes before (live_after acts more)

  -- the snapshot datagrams of acts after others
  abbrev pub snaps_after : List Act → List Act → List (List Snap)
  snaps_after acts more = snaps_from terms (commands_of acts) (left_of terms acts) more

  pub snap_sent : (acts more : List Act) → sent_on terms (acts ++ more) channel.Snap ≡ sent_on terms acts channel.Snap ++ numbered_bytes terms (next_datagram terms acts channel.Snap) (snaps_after acts more)
  snap_sent acts more =
      let before = snap_datagrams terms acts in
      let n : 1 + length before ≡ next_datagram terms acts channel.Snap = (let l = numbered_count terms 1 before in omega (arith, l)) in
      ap (numbered_bytes terms 1) (snaps_both terms [] [] acts more)
      ∙ numbered_append terms 1 before (snaps_after acts more)
      ∙ ap (λ k. numbered_bytes terms 1 before ++ numbered_bytes terms k (snaps_after acts more)) n

  -- acts that send no snapshot datagram
  pub snap_same : (acts more : List Act) → snaps_after acts more ≡ [] → sent_on terms (acts ++ more) channel.Snap ≡ sent_on terms acts channel.Snap
  snap_same acts more none =
      snap_sent acts more
      ∙ ap (λ l. sent_on terms acts channel.Snap ++ numbered_bytes terms (next_datagram terms acts channel.Snap) l) none
      ∙ append-nil (sent_on terms acts channel.Snap)

  pub sent_kept : (acts more : List Act) (c : Channel) → (rest : List (List ℕ)) × (sent_on terms (acts ++ more) c ≡ sent_on terms acts c ++ rest)
  sent_kept acts more channel.Live = (live_bytes terms (live_after acts more), live_sent acts more)
  sent_kept acts more channel.Snap = (numbered_bytes terms (next_datagram terms acts channel.Snap) (snaps_after acts more), snap_sent acts more)

  pub genuine_kept : (acts more : List Act) (dl : List Delivery) → Genuine terms acts dl → Genuine terms (acts ++ more) dl
  genuine_kept acts more [] g = tt
  genuine_kept acts more (d ∷ dl) g =
      let kept = sent_kept acts more (channel_of d.feed) in
      (subst (λ (l : List (List ℕ)). Contains l d.bytes) (sym kept.1) (Contains-append_left (sent_on terms acts (channel_of d.feed)) kept.0 d.bytes g.0), genuine_kept acts more dl g.1)

-- what stands at a number is contained
at_place : (xs : List (List ℕ)) (n : ℕ) (x : List ℕ) → slice_get xs n ≡ Some x → Contains xs x
at_place [] n x is = absurd (let gone : None ≡ Some x = is in cc gone)
at_place (y ∷ xs) zero x is = (let same : y ≡ x = cc is in (0, omega arith, same))
at_place (y ∷ xs) (suc n) x is = (let rest = at_place xs n x is in let below = rest.1 in (suc rest.0, omega arith, rest.2))

pub at_its_number : (xs : List (List ℕ)) (k : ℕ) (x : List ℕ) → at_number xs k ≡ Some x → Contains xs x
at_its_number xs zero x is = absurd (let gone : None ≡ Some x = is in cc gone)
at_its_number xs (suc n) x is = at_place xs n x is

pub none_sent : (terms : Terms) (c : Channel) → sent_on terms [] c ≡ []
none_sent terms channel.Live = refl
none_sent terms channel.Snap = refl
