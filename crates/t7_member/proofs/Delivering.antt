-- The step of a delivery.
use Rattle.std.proofs.Common.{◌≡◌, ℕ, Bool, List, ◌∷◌, Some, None, refl, sym, ap, subst, ◌∙◌}
use Rattle.t7_base.specs.Listing.{IsListing, Listing}
use Rattle.t7_base.specs.declared.ids.Feed.{Feed}
use Rattle.t7_base.specs.declared.ids.Channel.{Channel}
use Rattle.t7_base.specs.declared.ids.Channel.TheVariants as channel
use Rattle.t7_base.specs.declared.public.Public.{Public}
use Rattle.t7_eobi.specs.declared.faults.PacketFault.{PacketFault}
use Rattle.t7_eobi.specs.declared.walks.Live.{Live}
use Rattle.t7_eobi.specs.declared.walks.Live.TheVariants.{Message, Beat}
use Rattle.t7_eobi.specs.declared.walks.Snap.{Snap}
use Rattle.t7_eobi.specs.Datagrams.{packet_number, snaps_of}
use Rattle.t7_eobi.specs.Faults.{fault_of}
use Rattle.t7_lines.specs.declared.tally.Tallies.{Tallies}
use Rattle.t7_lines.specs.Gap.{noted_on}
use Rattle.t7_book.specs.Acts.{Act}
use Rattle.t7_feed.specs.Arrivals.{Arrival, arrivals, channel_of, Delivery, reading_of, taken, taken_where, Terms, Told, told}
use Rattle.t7_feed.specs.Sending.{AreActs}
use Rattle.t7_feed.proofs.Sent.{Laws, laws_hold}
use Rattle.t7_member.specs.Keeping.{Image, Keeps}
use Rattle.t7_member.specs.Steps.{all, at_once, Chains, Delivers, ends, fails, finds_none, adopts, ignores, Hears, misfits, next, one, others, Receives, TakesDatagram, Tells, TellsOne}
use Rattle.t7_member.proofs.Hear.{step_beat, step_message}
use Rattle.t7_member.proofs.Snapshot.{step_packet}

-- what counts beside what is kept changes nothing of it
pub counts_keep : {terms : Terms} {acts : List Act} {member : Image} {came : List Arrival} (tallies : Tallies) (bad : ℕ) → Keeps terms acts member came → Keeps terms acts (record member { tallies = tallies; bad = bad }) came
counts_keep tallies bad keeps =
    let h = keeps.holds in
    record {
      holds = record {
        terms_are = h.terms_are;
        highest = h.highest;
        highest_packet = h.highest_packet;
        known = h.known;
        kept = h.kept;
        all = h.all;
        packets = h.packets;
        near = h.near;
        supported = h.supported;
        one = h.one;
        cycles = cycles_same h.cycles;
      };
      rests = keeps.rests;
      mirrors = λ sent. (let m = keeps.mirrors sent in (record { trusted = m.0.trusted; list = m.0.list; kept = m.0.kept }, m.1));
    }
  where
    cycles_same : {A : Type 0} → A → A
    cycles_same h = h

-- the parts that no datagram changes
pub record IsSame (old new : Image) : Type 0 where
  pub terms : new.terms ≡ old.terms
  pub tallies : new.tallies ≡ old.tallies
  pub bad : new.bad ≡ old.bad

pub same_self : (member : Image) → IsSame member member
same_self member = record { terms = refl; tallies = refl; bad = refl }

same_on : {old mid new : Image} → IsSame old mid → IsSame mid new → IsSame old new
same_on a b = record { terms = b.terms ∙ a.terms; tallies = b.tallies ∙ a.tallies; bad = b.bad ∙ a.bad }

pub chains_same : {listing : Listing} {old new : Image} → Chains listing old new → IsSame old new
chains_same {listing} {old} (ends rests) = same_self old
chains_same (next n said list kept is at leaves fits rest) = (let s = chains_same rest in record { terms = s.terms; tallies = s.tallies; bad = s.bad })
chains_same (fails n said why kept is at leaves misfit) = record { terms = refl; tallies = refl; bad = refl }

pub hears_same : {listing : Listing} {k : ℕ} {said : Public} {old new : Image} → Hears listing k said old new → IsSame old new
hears_same (at_once n list kept puts is is_next fits rest) = (let s = chains_same rest in record { terms = s.terms; tallies = s.tallies; bad = s.bad })
hears_same (misfits n why kept puts is is_next misfit) = record { terms = refl; tallies = refl; bad = refl }
hears_same (others kept puts close rest) = (let s = chains_same rest in record { terms = s.terms; tallies = s.tallies; bad = s.bad })

one_same : (listing : Listing) (live : Live) (new : Bool) (old mid : Image) → TellsOne listing live new old mid → IsSame old mid
one_same listing (Message k said) new old mid told = hears_same told.0
one_same listing (Beat last) new old mid told = subst (λ (m : Image). IsSame old m) (sym told.0) (record { terms = refl; tallies = refl; bad = refl })

pub tells_same : {listing : Listing} {lives : List Live} {new : Bool} {old last : Image} → Tells listing lives new old last → IsSame old last
tells_same {listing} {lives} {new} {old} all = same_self old
tells_same {listing} (one live new told rest) = same_on (one_same listing live new _ _ told) (tells_same rest)

pub receives_same : {listing : Listing} {i : ℕ} {snaps : List Snap} {old new : Image} → Receives listing i snaps old new → IsSame old new
receives_same (finds_none ring a) = record { terms = refl; tallies = refl; bad = refl }
receives_same (ignores ring m parts a why) = record { terms = refl; tallies = refl; bad = refl }
receives_same (adopts ring m parts list a below upto fits rest) = (let s = chains_same rest in record { terms = s.terms; tallies = s.tallies; bad = s.bad })

pub datagram_same : (terms : Terms) (c : Channel) (bytes : List ℕ) (new : Bool) (old mid : Image) → TakesDatagram terms c bytes new old mid → IsSame old mid
datagram_same terms channel.Live bytes new old mid takes = tells_same takes
datagram_same terms channel.Snap bytes new old mid takes = receives_same takes.0

-- the step of one item, and of the items of a live datagram
pub one_keeps : {terms : Terms} {acts : List Act} {old mid : Image} {came : List Arrival} (live : Live) (new : Bool) → Laws terms acts → TellsOne terms.listing live new old mid → Keeps terms acts old came → Keeps terms acts mid (Told live ∷ came)
one_keeps (Message k said) new laws told keeps = step_message k said laws told.0 keeps
one_keeps {terms} {acts} {old} {mid} {came} (Beat last) new laws told keeps = subst (λ (m : Image). Keeps terms acts m (Told (Beat last) ∷ came)) (sym told.0) (step_beat last keeps)

tells_keeps : {terms : Terms} {acts : List Act} {lives : List Live} {new : Bool} {old last : Image} {came : List Arrival} → Laws terms acts → Tells terms.listing lives new old last → Keeps terms acts old came → Keeps terms acts last (told lives came)
tells_keeps laws all keeps = keeps
tells_keeps laws (one live new told rest) keeps = tells_keeps laws rest (one_keeps live new laws told keeps)

datagram_keeps : {terms : Terms} {acts : List Act} {old mid : Image} {came : List Arrival} (c : Channel) (bytes : List ℕ) (new : Bool) → Laws terms acts → TakesDatagram terms c bytes new old mid → Keeps terms acts old came → Keeps terms acts mid (taken terms.layouts c bytes came)
datagram_keeps channel.Live bytes new laws takes keeps = tells_keeps laws takes keeps
datagram_keeps {terms} channel.Snap bytes new laws takes keeps = step_packet (packet_number terms.layouts bytes) (snaps_of terms.layouts bytes) laws takes.0 keeps

-- the step of a delivery that is refused, and of one that is accepted
pub refused_step : (terms : Terms) (acts : List Act) (dl : List Delivery) (old : Image) (feed : Feed) (bytes : List ℕ) (fault : PacketFault) (bad : ℕ) → fault_of (reading_of old.terms feed) bytes ≡ Some fault
    → Keeps terms acts old (arrivals terms dl) → Keeps terms acts (record old { bad = bad }) (arrivals terms (record { feed = feed; bytes = bytes } ∷ dl))
refused_step terms acts dl old feed bytes fault bad is keeps =
    let here = subst (λ (t : Terms). fault_of (reading_of t feed) bytes ≡ Some fault) keeps.holds.terms_are is in
    subst (λ f. Keeps terms acts (record old { bad = bad }) (taken_where f terms.layouts (channel_of feed) bytes (arrivals terms dl))) (sym here) (counts_keep old.tallies bad keeps)

pub accepted_step : (terms : Terms) (acts : List Act) (dl : List Delivery) (old new : Image) (feed : Feed) (bytes : List ℕ) → IsListing old.terms.listing → AreActs terms.listing acts → fault_of (reading_of old.terms feed) bytes ≡ None
    → Delivers feed bytes old new → Keeps terms acts old (arrivals terms dl) → Keeps terms acts new (arrivals terms (record { feed = feed; bytes = bytes } ∷ dl))
accepted_step terms acts dl old new feed bytes product valid is d keeps =
    let same = keeps.holds.terms_are in
    let here = subst (λ (t : Terms). fault_of (reading_of t feed) bytes ≡ None) same is in
    let laws = laws_hold terms acts (subst (λ (t : Terms). IsListing t.listing) same product) valid in
    let takes = subst (λ (t : Terms). TakesDatagram t (channel_of feed) bytes d.fresh old d.between) same d.takes in
    let after = counts_keep _ old.bad (datagram_keeps (channel_of feed) bytes d.fresh laws takes keeps) in
    subst (λ f. Keeps terms acts new (taken_where f terms.layouts (channel_of feed) bytes (arrivals terms dl))) (sym here)
    (subst (λ (m : Image). Keeps terms acts m (taken terms.layouts (channel_of feed) bytes (arrivals terms dl))) (sym d.counted) after)

-- a datagram that is taken and counted
pub delivered : (feed : Feed) (bytes : List ℕ) (old mid new : Image) (fresh : Bool) → TakesDatagram old.terms (channel_of feed) bytes fresh old mid
    → new ≡ record mid { tallies = noted_on mid.tallies feed fresh } → Delivers feed bytes old new
delivered feed bytes old mid new fresh takes is =
    let s = datagram_same old.terms (channel_of feed) bytes fresh old mid takes in
    record {
      fresh = fresh;
      between = mid;
      takes = takes;
      counted = is ∙ ap (λ t. record mid { tallies = noted_on t feed fresh }) s.tallies ∙ ap (λ b. record mid { tallies = noted_on old.tallies feed fresh; bad = b }) s.bad;
    }
