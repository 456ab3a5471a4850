-- How a refusal begins, and how it ends.
use Rattle.std.proofs.Common.{Bool, ◌≡◌, ℕ, ◌+◌, ◌≤◌, max, ◌⊎◌, inl, inr, ℤ, List, [], Option, Some, None, refl, sym, ap, subst, ◌∙◌}
use Rattle.t7_base.specs.Listing.{Listing}
use Rattle.t7_base.specs.declared.ids.Feed.{Feed}
use Rattle.t7_base.specs.declared.ids.Channel.{Channel}
use Rattle.t7_base.specs.declared.ids.Channel.TheVariants as channel
use Rattle.t7_base.specs.declared.public.Public.{Public}
use Rattle.t7_base.specs.declared.public.Resting.{Resting}
use Rattle.t7_eobi.specs.declared.walks.Live.{Live}
use Rattle.t7_eobi.specs.declared.walks.Live.TheVariants.{Beat, Message}
use Rattle.t7_eobi.specs.declared.walks.Snap.{Snap}
use Rattle.t7_eobi.specs.Datagrams.{packet_number}
use Rattle.t7_mbook.specs.Misfits.{misfit_of}
use Rattle.t7_mbook.specs.declared.misfit.Misfit.{Misfit}
use Rattle.t7_lines.specs.Gap.{kept_at}
use Rattle.t7_feed.specs.Arrivals.{channel_of}
use Rattle.t7_feed.specs.Cycles.{Finds, Section, orders_of}
use Rattle.t7_feed.specs.Fitting.{staged, stepped}
use Rattle.t7_feed.specs.Words.{SomeOf}
use Rattle.t7_member.specs.declared.standing.Refusal.{Refusal}
use Rattle.t7_member.specs.Keeping.{Image, packets_of}
use Rattle.t7_member.specs.Refusing.{Begins, Causes, Follows, here, goes, IsAtHand, StaysOrEnds}
use Rattle.t7_member.specs.Steps.{Buffers, Chains, ends, next, fails, Hears, at_once, misfits, others, Receives, finds_none, ignores, adopts, Tells, all, one, TellsOne, TakesDatagram, Delivers, adopted, dropped, moved, noted, received}
use Rattle.t7_member.specs.Taking.{IsUpTo}
use Rattle.t7_member.proofs.Hear.{chain_none}
use Rattle.t7_member.proofs.Moves.{buffers_from, leaves_of}

-- what a member is so far: what it keeps is among some; its base and list follow from where they began; and its refusal stood before or has its cause
pub record Sofar (securities : List ℤ) (Among : ℕ → Public → Type 0) (base : Option ℕ) (list : List Resting) (refused : Option Refusal) (member : Image) : Type 0 where
  pub kept : (k : ℕ) (said : Public) → kept_at member.kept k ≡ Some said → Among k said
  pub based : (n : ℕ) → member.base ≡ Some n → (m : ℕ) × (base ≡ Some m) × Follows securities Among m list n member.list
  pub cause : (q : Refusal) → member.refused ≡ Some q → (refused ≡ Some q) ⊎ ((m : ℕ) × (base ≡ Some m) × Causes securities Among m list q)

module _ (listing : Listing) (Among : ℕ → Public → Type 0) (base : Option ℕ) (list : List Resting) (refused : Option Refusal) where
  so_moved : (member : Image) (n : ℕ) (said : Public) (lot : List Resting) (kept : List (ℕ × Public)) → member.base ≡ Some n → Among (n + 1) said → stepped listing.securities member.list said ≡ Some lot
      → ((k : ℕ) (is : Public) → kept_at kept k ≡ Some is → Among k is) → Sofar listing.securities Among base list refused member → Sofar listing.securities Among base list refused (moved member n lot kept)
  so_moved member n said lot kept is among fits all_kept s =
      let b = s.based n is in
      record {
        kept = all_kept;
        based = λ j now. (b.0, b.1, subst (λ i. Follows listing.securities Among b.0 list i lot) (cc now) (goes member.list said b.2 among fits));
        cause = s.cause;
      }

  so_dropped : (member : Image) (n : ℕ) (said : Public) (why : Misfit) (kept : List (ℕ × Public)) → member.base ≡ Some n → Among (n + 1) said → misfit_of listing.securities member.list said ≡ Some why
      → ((k : ℕ) (is : Public) → kept_at kept k ≡ Some is → Among k is) → Sofar listing.securities Among base list refused member → Sofar listing.securities Among base list refused (dropped member n why kept)
  so_dropped member n said why kept is among misfit all_kept s =
      let b = s.based n is in
      let at_once_caused : Causes listing.securities Among b.0 list (record { number = n + 1; why = why }) = record { last = n; final = member.list; said = said; follows = b.2; number = refl; among = among; why = misfit } in
      record {
        kept = all_kept;
        based = λ j none. absurd (cc none);
        cause = λ q now. (let same : record { number = n + 1; why = why } ≡ q = cc now in inr (b.0, b.1, subst (Causes listing.securities Among b.0 list) same at_once_caused));
      }

  so_chained : {old new : Image} → Chains listing old new → Sofar listing.securities Among base list refused old → Sofar listing.securities Among base list refused new
  so_chained (ends rests) s = s
  so_chained {old} (next n said lot kept is at leaves fits rest) s =
      so_chained rest (so_moved old n said lot kept is (s.kept (n + 1) said at) fits (λ k is h. s.kept k is ((leaves_of (n + 1) old.kept kept leaves).from k is h)) s)
  so_chained {old} (fails n said why kept is at leaves misfit) s =
      so_dropped old n said why kept is (s.kept (n + 1) said at) misfit (λ k is h. s.kept k is ((leaves_of (n + 1) old.kept kept leaves).from k is h)) s

  put_among : (window highest : ℕ) (at : Option ℕ) (k : ℕ) (said : Public) (old kept : List (ℕ × Public)) → Buffers window highest at k said old kept → Among k said
      → ((i : ℕ) (is : Public) → kept_at old i ≡ Some is → Among i is) → (i : ℕ) (is : Public) → kept_at kept i ≡ Some is → Among i is
  put_among window highest at k said old kept puts among all_kept i is h = elim (buffers_from window highest at k said old kept puts i is h) [
    | inl before ↦ all_kept i is before
    | inr now ↦ subst (λ m. Among i m) now.1 (subst (λ j. Among j said) now.0 among)
  ]

  so_noted : (member : Image) (k : ℕ) (kept : List (ℕ × Public)) → ((i : ℕ) (is : Public) → kept_at kept i ≡ Some is → Among i is)
      → Sofar listing.securities Among base list refused member → Sofar listing.securities Among base list refused (noted member k kept)
  so_noted member k kept all_kept s = record { kept = all_kept; based = s.based; cause = s.cause }

  so_heard : {k : ℕ} {said : Public} {old new : Image} → Hears listing k said old new → Among k said → Sofar listing.securities Among base list refused old → Sofar listing.securities Among base list refused new
  so_heard {k} {said} {old} (at_once n lot kept puts is this fits rest) among s =
      let all_kept = put_among listing.window (max k old.highest) old.base k said old.kept kept puts among s.kept in
      so_chained rest (so_moved (noted old k kept) n said lot kept is (subst (λ j. Among j said) this among) fits all_kept (so_noted old k kept all_kept s))
  so_heard {k} {said} {old} (misfits n why kept puts is this misfit) among s =
      let all_kept = put_among listing.window (max k old.highest) old.base k said old.kept kept puts among s.kept in
      so_dropped (noted old k kept) n said why kept is (subst (λ j. Among j said) this among) misfit all_kept (so_noted old k kept all_kept s)
  so_heard {k} {said} {old} (others kept puts near rest) among s =
      so_chained rest (so_noted old k kept (put_among listing.window (max k old.highest) old.base k said old.kept kept puts among s.kept) s)

  so_told_one : (live : Live) (new : Bool) (old mid : Image) → TellsOne listing live new old mid → ((k : ℕ) (said : Public) → live ≡ Message k said → Among k said)
      → Sofar listing.securities Among base list refused old → Sofar listing.securities Among base list refused mid
  so_told_one (Message k said) new old mid tells among s = so_heard tells.0 (among k said refl) s
  so_told_one (Beat last) new old mid tells among s = subst (Sofar listing.securities Among base list refused) (sym tells.0) (record { kept = s.kept; based = s.based; cause = s.cause })

  so_told : {lives : List Live} {new : Bool} {old last : Image} → Tells listing lives new old last → ((k : ℕ) (said : Public) → SomeOf (λ live. live ≡ Message k said) lives → Among k said)
      → Sofar listing.securities Among base list refused old → Sofar listing.securities Among base list refused last
  so_told all among s = s
  so_told (one {old} {mid} live new tells rest) among s = so_told rest (λ k said later. among k said (inr later)) (so_told_one live new old mid tells (λ k said now. among k said (inl now)) s)

so_begun : (securities : List ℤ) (Among : ℕ → Public → Type 0) (old : Image) → ((k : ℕ) (said : Public) → kept_at old.kept k ≡ Some said → Among k said) → Sofar securities Among old.base old.list old.refused old
so_begun securities Among old kept = record { kept = kept; based = λ n is. (n, is, here); cause = λ q is. inl is }

chains_packets : {listing : Listing} {old new : Image} → Chains listing old new → packets_of new ≡ packets_of old
chains_packets (ends rests) = refl
chains_packets (next n said lot kept is at leaves fits rest) = chains_packets rest
chains_packets (fails n said why kept is at leaves misfit) = refl

-- the cause of a refusal after a snapshot datagram
received_cause : {listing : Listing} {i : ℕ} {snaps : List Snap} {old new : Image} → Receives listing i snaps old new → (q : Refusal) → new.refused ≡ Some q
    → (old.refused ≡ Some q) ⊎ ((m : ℕ) × (lot : List Resting) × ((parts : List Section) × Finds listing.securities (packets_of new) i m parts × (staged listing.securities (orders_of parts) [] ≡ Some lot))
    × Causes listing.securities (λ k said. kept_at old.kept k ≡ Some said) m lot q)
received_cause (finds_none ring found) q is = inl is
received_cause (ignores ring m parts found fits) q is = inl is
received_cause {listing} {i} {snaps} {old} {new} (adopts ring m parts lot found above upto fits rest) q is =
    let begun = so_begun listing.securities (λ k said. kept_at old.kept k ≡ Some said) (adopted (received old i snaps ring) m lot) (λ k said at. at) in
    let s = so_chained listing (λ k said. kept_at old.kept k ≡ Some said) (Some m) lot None rest begun in
    elim (s.cause q is) [
      | inl none ↦ absurd (cc none)
      | inr caused ↦ inr (
        m,
        lot,
        (parts, subst (λ at. Finds listing.securities at i m parts) (sym (chains_packets rest)) found.answers, fits),
        subst (λ n. Causes listing.securities (λ k said. kept_at old.kept k ≡ Some said) n lot q) (let e : Some m ≡ Some caused.0 = caused.1 in sym (cc e)) caused.2,
      )
    ]

datagram_cause : (old mid : Image) (c : Channel) (bytes : List ℕ) (fresh : Bool) → TakesDatagram old.terms c bytes fresh old mid → (q : Refusal) → mid.refused ≡ Some q → (old.refused ≡ Some q) ⊎ Begins old mid c bytes q
datagram_cause old mid channel.Live bytes fresh takes q is =
    let s = so_told old.terms.listing (IsAtHand old channel.Live bytes) old.base old.list old.refused takes (λ k said carried. inr carried) (so_begun old.terms.listing.securities (IsAtHand old channel.Live bytes) old (λ k said at. inl at)) in
    elim (s.cause q is) [
      | inl before ↦ inl before
      | inr caused ↦ inr (record { n = caused.0; list = old.list; start = (caused.1, refl); causes = caused.2 })
    ]
datagram_cause old mid channel.Snap bytes fresh takes q is = elim (received_cause takes.0 q is) [
  | inl before ↦ inl before
  | inr caused ↦ (let f = caused.2 in inr (record { n = caused.0; list = caused.1; start = record { parts = f.0; finds = f.1; fits = f.2 }; causes = caused.3 }))
]

-- a refusal begins only with its cause
pub refusal_begins : (feed : Feed) (bytes : List ℕ) (old new : Image) → Delivers feed bytes old new → (q : Refusal) → new.refused ≡ Some q → (old.refused ≡ Some q) ⊎ Begins old new (channel_of feed) bytes q
refusal_begins feed bytes old new d q is =
    elim (datagram_cause old d.between (channel_of feed) bytes d.fresh d.takes q (sym (ap (λ (m : Image). m.refused) d.counted) ∙ is)) [
      | inl before ↦ inl before
      | inr begins ↦ inr (again (channel_of feed) begins)
    ]
  where
    again : (c : Channel) → Begins old d.between c bytes q → Begins old new c bytes q
    again channel.Live b = record { n = b.n; list = b.list; start = b.start; causes = b.causes }
    again channel.Snap b = record { n = b.n; list = b.list; start = (let s = b.start in record { parts = s.parts; finds = subst (λ (m : Image). Finds old.terms.listing.securities (packets_of m) (packet_number old.terms.layouts bytes) b.n s.parts) (sym d.counted) s.finds; fits = s.fits }); causes = b.causes }

-- with no base, live messages leave a refusal
still_hears : {listing : Listing} {k : ℕ} {said : Public} {old new : Image} → Hears listing k said old new → (refused : Option Refusal) → old.base ≡ None → old.refused ≡ refused → (new.base ≡ None) × (new.refused ≡ refused)
still_hears (at_once n lot kept puts is this fits rest) refused none was = absurd (cc (is, none))
still_hears (misfits n why kept puts is this misfit) refused none was = absurd (cc (is, none))
still_hears (others kept puts near rest) refused none was = (let same = chain_none rest none in (ap (λ (m : Image). m.base) same ∙ none, ap (λ (m : Image). m.refused) same ∙ was))

still_told_one : (listing : Listing) (live : Live) (new : Bool) (old mid : Image) → TellsOne listing live new old mid → (refused : Option Refusal) → old.base ≡ None → old.refused ≡ refused → (mid.base ≡ None) × (mid.refused ≡ refused)
still_told_one listing (Message k said) new old mid tells refused none was = still_hears tells.0 refused none was
still_told_one listing (Beat last) new old mid tells refused none was = (ap (λ (m : Image). m.base) tells.0 ∙ none, ap (λ (m : Image). m.refused) tells.0 ∙ was)

still_told : {listing : Listing} {lives : List Live} {new : Bool} {old last : Image} → Tells listing lives new old last → (refused : Option Refusal) → old.base ≡ None → old.refused ≡ refused → (last.base ≡ None) × (last.refused ≡ refused)
still_told all refused none was = (none, was)
still_told {listing} (one {old} {mid} live new tells rest) refused none was = (let s = still_told_one listing live new old mid tells refused none was in still_told rest refused s.0 s.1)

-- a snapshot datagram leaves it, or adopts a cycle at its number or above
received_stays : {listing : Listing} {i : ℕ} {snaps : List Snap} {old new : Image} → Receives listing i snaps old new → (q : Refusal) → old.base ≡ None → old.refused ≡ Some q
    → ((new.base ≡ None) × (new.refused ≡ Some q)) ⊎ ((m : ℕ) × (lot : List Resting) × ((parts : List Section) × Finds listing.securities (packets_of new) i m parts × (staged listing.securities (orders_of parts) [] ≡ Some lot)) × (q.number ≤ m))
received_stays (finds_none ring found) q none was = inl (none, was)
received_stays (ignores ring m parts found fits) q none was = inl (none, was)
received_stays {listing} {i} {snaps} {old} {new} (adopts ring m parts lot found above upto fits rest) q none was =
    inr (m, lot, (parts, subst (λ at. Finds listing.securities at i m parts) (sym (chains_packets rest)) found.answers, fits), subst (λ r. IsUpTo r m) was upto)

-- a refusal stays until a cycle at its number or above is adopted
pub refusal_stays : (feed : Feed) (bytes : List ℕ) (old new : Image) → Delivers feed bytes old new → (q : Refusal) → old.base ≡ None → old.refused ≡ Some q → StaysOrEnds old new (channel_of feed) bytes q
refusal_stays feed bytes old new d q none was = by (channel_of feed) d.takes
  where
    base_same : new.base ≡ d.between.base
    base_same = ap (λ (m : Image). m.base) d.counted

    refused_same : new.refused ≡ d.between.refused
    refused_same = ap (λ (m : Image). m.refused) d.counted

    by : (c : Channel) → TakesDatagram old.terms c bytes d.fresh old d.between → StaysOrEnds old new c bytes q
    by channel.Live takes = (let s = still_told takes (Some q) none was in (base_same ∙ s.0, refused_same ∙ s.1))
    by channel.Snap takes = elim (received_stays takes.0 q none was) [
      | inl still ↦ inl (base_same ∙ still.0, refused_same ∙ still.1)
      | inr ended ↦ (let f = ended.2 in inr (ended.0, ended.1, record { parts = f.0; finds = subst (λ (m : Image). Finds old.terms.listing.securities (packets_of m) (packet_number old.terms.layouts bytes) ended.0 f.0) (sym d.counted) f.1; fits = f.2 }, ended.3))
    ]
