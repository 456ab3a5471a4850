-- What follows one thing after another in the doing of an event.
use Rattle.std.proofs.Common.{◌≡◌, ◌≢◌, inr, nat_le, ℕ, ◌+◌, ◌≤◌, Bool, true, false, List, [], ◌∷◌, Option}
use Rattle.std.proofs.Common.{Result, Ok, Err, IfErr, OnErr, OnOk, if◌then◌else◌, arith, refl, sym, ◌∙◌, ap, subst, length}
use Rattle.t7_base.specs.Outside.{Begins, Grew}
use Rattle.t7_base.proofs.Grown.{grew_as}
use Rattle.t7_eobi.specs.declared.walks.Snap.{Snap as Item}
use Rattle.t7_entry.specs.ByNumber.{insert, len}
use Rattle.t7_entry.specs.Events as entry
use Rattle.t7_net.specs.declared.link.LinkEvent.{LinkEvent}
use Rattle.t7_net.specs.declared.link.LinkEvent.TheVariants as event
use Rattle.t7_net.specs.declared.link.LinkItem.{LinkItem}
use Rattle.t7_net.specs.declared.link.LinkItem.TheVariants as item
use Rattle.t7_net.specs.Lines.{Casting}
use Rattle.t7_net.specs.Links.{LinkSent, Shut, link_taken}
use Rattle.t7_outcome.specs.declared.ending.Stop.{Stop}
use Rattle.t7_outcome.specs.declared.ending.Stop.TheVariants.{Memory, NetFault}
use Rattle.t7_serve.specs.Clauses.{OfTurn}
use Rattle.t7_serve.specs.Servers.{Broke, Done, IsReady, Stepped, item_of}
use Rattle.t7_serve.specs.Turns.{beats, came_on, does, enters, follows, hands_out, is_due}
use Rattle.t7_serve.specs.Turns.{is_open, is_too_long, next_snaps, snaps, snaps_first, takes, ticks}
use Rattle.t7_serve.specs.Venues.{Turn, Venue, and_then, rests}
use Rattle.t7_serve.proofs.Keeping.{does_told}
use Rattle.t7_serve.proofs.Turning.{adds_none, broke_first, broke_then, done_then, fronts_nothing}

-- a turn of the lines alone was done, or broken off
lines_done : (turn : Turn) (new : Venue) (s : Option (List LinkSent)) (c c1 : Option (List Casting)) → turn.sent ≡ [] → new ≡ turn.venue
    → Grew c c1 (λ added. added ≡ turn.cast)
    → Done turn new s s c c1
lines_done turn new s c c1 none is cast = record {
  venue = is;
  sent = subst (λ (l : List LinkSent). Grew s s (λ added. added ≡ l)) (sym none) (adds_none s s refl);
  cast = cast;
}

lines_broke : (turn : Turn) (s : Option (List LinkSent)) (c c1 : Option (List Casting)) → Grew c c1 (λ added. Begins added turn.cast) → Broke turn s s c c1
lines_broke turn s c c1 cast = record { sent = fronts_nothing s s turn.sent refl; cast = cast }

-- a turn of the link alone was done
link_done : (turn : Turn) (new : Venue) (s s1 : Option (List LinkSent)) (c : Option (List Casting)) → turn.cast ≡ [] → new ≡ turn.venue
    → Grew s s1 (λ added. added ≡ turn.sent)
    → Done turn new s s1 c c
link_done turn new s s1 c none is sent = record {
  venue = is;
  sent = sent;
  cast = subst (λ (l : List Casting). Grew c c (λ added. added ≡ l)) (sym none) (adds_none c c refl);
}

-- a snapshot datagram sends nothing on a connection
snaps_sent : (venue : Venue) (next : List (List Item)) → (snaps_first next venue).sent ≡ []
snaps_sent venue [] = refl
snaps_sent venue (items ∷ left) = refl

-- one of two turns, neither of which casts anything
either_cast : (test : Bool) (one other : Turn) → one.cast ≡ [] → other.cast ≡ [] → (if test then one else other).cast ≡ []
either_cast true one other a b = a
either_cast false one other a b = b

-- what an event of the link does in order entry casts nothing
takes_cast : (what : LinkItem) (moment : ℕ) (venue : Venue) → (takes what moment venue).cast ≡ []
takes_cast (item.Opened conn) moment venue =
    either_cast (is_open venue conn) (rests venue) _ refl
    (either_cast (nat_le 1024 (len venue.day.state.inputs)) (record { venue = venue; acts = []; sent = Shut conn ∷ []; cast = [] })
    (enters (entry.Opened conn) (record venue { came = insert venue.came conn 0 })) refl refl)
takes_cast (item.Bytes conn piece) moment venue =
    either_cast (is_open venue conn) (enters (entry.Bytes conn piece moment)
    (record venue { came = insert venue.came conn (came_on venue conn + length piece) })) (rests venue) refl refl
takes_cast (item.Closed conn) moment venue = refl
takes_cast item.Quiet moment venue = refl

-- the time goes on
module _ (venue ticked : Venue) (moment : ℕ) (s s1 : Option (List LinkSent)) (c c1 : Option (List Casting))
    (is : ticked ≡ (enters (entry.Tick moment) venue).venue) where
  abbrev later : Venue → Turn
  later told = and_then (beats told) snaps

  abbrev handing : Venue → Turn
  handing now = and_then (hands_out now) later

  entered : Done (enters (entry.Tick moment) venue) ticked s s c c
  entered = record { venue = is; sent = adds_none s s refl; cast = adds_none c c refl }

  pub tick_not_handed : Broke (hands_out ticked) s s1 c c1 → Broke (ticks moment venue) s s1 c c1
  tick_not_handed broke =
      broke_then (enters (entry.Tick moment) venue) handing ticked s s c c s1 c1 entered (broke_first (hands_out ticked) later ticked s s1 c c1 broke)

  module _ (told : Venue) (c2 : Option (List Casting)) (handed : Done (hands_out ticked) told s s1 c c1) where
    pub tick_not_beaten : Grew c1 c2 (λ added. Begins added (beats told).cast) → Broke (ticks moment venue) s s1 c c2
    tick_not_beaten cut =
        broke_then (enters (entry.Tick moment) venue) handing ticked s s c c s1 c2 entered
        (broke_then (hands_out ticked) later told s s1 c c1 s1 c2 handed
        (broke_first (beats told) snaps told s1 s1 c1 c2 (lines_broke (beats told) s1 c1 c2 cut)))

    module _ (beaten : Venue) (c3 : Option (List Casting)) (beat : beaten ≡ (beats told).venue) (cast : Grew c1 c2 (λ added. added ≡ (beats told).cast)) where
      pub tick_not_snapped : Grew c2 c3 (λ added. Begins added (snaps beaten).cast) → Broke (ticks moment venue) s s1 c c3
      tick_not_snapped cut =
          broke_then (enters (entry.Tick moment) venue) handing ticked s s c c s1 c3 entered
          (broke_then (hands_out ticked) later told s s1 c c1 s1 c3 handed
          (broke_then (beats told) snaps beaten s1 s1 c1 c2 s1 c3 (lines_done (beats told) beaten s1 c1 c2 refl beat cast)
          (lines_broke (snaps beaten) s1 c2 c3 cut)))

      pub tick_done : (new : Venue) → new ≡ (snaps beaten).venue → Grew c2 c3 (λ added. added ≡ (snaps beaten).cast) → Done (ticks moment venue) new s s1 c c3
      tick_done new snapped also =
          done_then (enters (entry.Tick moment) venue) handing ticked s s c c new s1 c3 entered
          (done_then (hands_out ticked) later told s s1 c c1 new s1 c3 handed
          (done_then (beats told) snaps beaten s1 s1 c1 c2 new s1 c3 (lines_done (beats told) beaten s1 c1 c2 refl beat cast)
          (lines_done (snaps beaten) new s1 c2 c3 (snaps_sent beaten (next_snaps beaten.day)) snapped also)))

-- an event is done
module _ (venue counted taken : Venue) (what : LinkItem) (moment : ℕ) (s s1 : Option (List LinkSent)) (c : Option (List Casting))
    (is : counted ≡ record venue { events = venue.events + 1 })
    (took : taken ≡ (takes what moment counted).venue) (sent : Grew s s1 (λ added. added ≡ (takes what moment counted).sent)) where
  abbrev rest : Venue → Turn
  rest now = and_then (hands_out now) (follows what moment)

  abbrev whole : Turn
  whole = and_then (takes what moment counted) rest

  same : whole ≡ does what moment venue
  same = ap (λ (v : Venue). and_then (takes what moment v) rest) is

  first : Done (takes what moment counted) taken s s1 c c
  first = link_done (takes what moment counted) taken s s1 c (takes_cast what moment counted) took sent

  pub event_not_handed : (s2 : Option (List LinkSent)) (c1 : Option (List Casting)) → Broke (hands_out taken) s1 s2 c c1
      → Broke (does what moment venue) s s2 c c1
  event_not_handed s2 c1 broke =
      subst (λ (t : Turn). Broke t s s2 c c1) same
      (broke_then (takes what moment counted) rest taken s s1 c c s2 c1 first (broke_first (hands_out taken) (follows what moment) taken s1 s2 c c1 broke))

  module _ (out : Venue) (s2 : Option (List LinkSent)) (c1 : Option (List Casting)) (handed : Done (hands_out taken) out s1 s2 c c1) where
    pub event_done : (new : Venue) (s3 : Option (List LinkSent)) (c2 : Option (List Casting)) → Done (follows what moment out) new s2 s3 c1 c2
        → Done (does what moment venue) new s s3 c c2
    event_done new s3 c2 done =
        subst (λ (t : Turn). Done t new s s3 c c2) same
        (done_then (takes what moment counted) rest taken s s1 c c new s3 c2 first
        (done_then (hands_out taken) (follows what moment) out s1 s2 c c1 new s3 c2 handed done))

    pub event_broke : (s3 : Option (List LinkSent)) (c2 : Option (List Casting)) → Broke (follows what moment out) s2 s3 c1 c2
        → Broke (does what moment venue) s s3 c c2
    event_broke s3 c2 broke =
        subst (λ (t : Turn). Broke t s s3 c c2) same
        (broke_then (takes what moment counted) rest taken s s1 c c s3 c2 first
        (broke_then (hands_out taken) (follows what moment) out s1 s2 c c1 s3 c2 handed broke))

-- what follows, where it is due, and where it isn't
pub follows_due : (what : LinkItem) (moment : ℕ) (venue : Venue) → is_due what venue.events ≡ true → follows what moment venue ≡ ticks moment venue
follows_due what moment venue is = ap (λ (b : Bool). if b then ticks moment venue else rests venue) is

pub follows_none : (what : LinkItem) (moment : ℕ) (venue : Venue) → is_due what venue.events ≡ false → follows what moment venue ≡ rests venue
follows_none what moment venue is = ap (λ (b : Bool). if b then ticks moment venue else rests venue) is

-- how the counts go on
record Counts (old new : Venue) : Type 0 where
  events : new.events ≡ old.events
  beats : new.day.beats ≤ old.day.beats + 1
  snaps : new.day.snaps ≤ old.day.snaps + 1

snaps_counts : (venue : Venue) (next : List (List Item)) → ((snaps_first next venue).venue.events ≡ venue.events)
    × ((snaps_first next venue).venue.day.beats ≡ venue.day.beats)
    × ((snaps_first next venue).venue.day.snaps ≤ venue.day.snaps + 1)
snaps_counts venue [] = (refl, refl, omega arith)
snaps_counts venue (items ∷ left) = (refl, refl, omega arith)

follows_counts : (what : LinkItem) (moment : ℕ) (venue : Venue) → Counts venue (follows what moment venue).venue
follows_counts what moment venue = by_test (is_due what venue.events)
  where
    by_test : (due_now : Bool) → Counts venue (if due_now then ticks moment venue else rests venue).venue
    by_test true =
        let beaten = (beats (hands_out (enters (entry.Tick moment) venue).venue).venue).venue in
        let c = snaps_counts beaten (next_snaps beaten.day) in record { events = c.0; beats = omega (arith, c.1); snaps = c.2 }
    by_test false = record { events = refl; beats = omega arith; snaps = omega arith }

-- one of two turns, neither of which counts anything
record Same (old new : Venue) : Type 0 where
  events : new.events ≡ old.events
  beats : new.day.beats ≡ old.day.beats
  snaps : new.day.snaps ≡ old.day.snaps

either_same : (test : Bool) (venue : Venue) (one other : Turn) → Same venue one.venue → Same venue other.venue → Same venue (if test then one else other).venue
either_same true venue one other a b = a
either_same false venue one other a b = b

nothing_counts : (venue : Venue) → Same venue venue
nothing_counts venue = record { events = refl; beats = refl; snaps = refl }

takes_same : (what : LinkItem) (moment : ℕ) (venue : Venue) → Same venue (takes what moment venue).venue
takes_same (item.Opened conn) moment venue =
    either_same (is_open venue conn) venue (rests venue) _ (nothing_counts venue)
    (either_same (nat_le 1024 (len venue.day.state.inputs)) venue (record { venue = venue; acts = []; sent = Shut conn ∷ []; cast = [] })
    (enters (entry.Opened conn) (record venue { came = insert venue.came conn 0 })) (nothing_counts venue)
    (record { events = refl; beats = refl; snaps = refl }))
takes_same (item.Bytes conn piece) moment venue =
    either_same (is_open venue conn) venue (enters (entry.Bytes conn piece moment)
    (record venue { came = insert venue.came conn (came_on venue conn + length piece) })) (rests venue)
    (record { events = refl; beats = refl; snaps = refl }) (nothing_counts venue)
takes_same (item.Closed conn) moment venue = record { events = refl; beats = refl; snaps = refl }
takes_same item.Quiet moment venue = nothing_counts venue

pub does_counts : (what : LinkItem) (moment : ℕ) (venue : Venue) → ((does what moment venue).venue.events ≡ venue.events + 1)
    × ((does what moment venue).venue.day.beats ≤ venue.day.beats + 1) × ((does what moment venue).venue.day.snaps ≤ venue.day.snaps + 1)
does_counts what moment venue =
    let counted : Venue = record venue { events = venue.events + 1 } in
    let out = (hands_out (takes what moment counted).venue).venue in
    let t = takes_same what moment counted in
    let f = follows_counts what moment out in
    (f.events ∙ t.events, omega (arith, f.beats, t.beats), omega (arith, f.snaps, t.snaps))

-- the exchange is ready for the next event
pub ready_after : (what : LinkItem) (moment : ℕ) (old new : Venue) → IsReady old → new ≡ (does what moment old).venue → IsReady new
ready_after what moment old new ready is =
    let n = does_counts what moment old in
    subst IsReady (sym is) (record {
      told = does_told what moment old;
      beats = omega (arith, n.0, n.1, ready.beats);
      snaps = omega (arith, n.0, n.2, ready.snaps);
    })

pub counted_after : (what : LinkItem) (moment : ℕ) (old new : Venue) → new ≡ (does what moment old).venue → new.events ≡ old.events + 1
counted_after what moment old new is = ap (λ (v : Venue). v.events) is ∙ (does_counts what moment old).0

-- an event is one item
pub one_item : (what : LinkEvent) (into : List ℕ) → what ≢ event.Failed → link_taken what into ≡ item_of what into ∷ []
one_item (event.Opened conn) into some = refl
one_item (event.Bytes conn count) into some = refl
one_item (event.Closed conn) into some = refl
one_item event.Quiet into some = refl
one_item event.Failed into some = absurd (some refl)

-- one event was taken at one moment
module _ (old new : Venue) (s s1 : Option (List LinkSent)) (c c1 : Option (List Casting)) (what : LinkItem) (moment : ℕ)
    (short : is_too_long what old ≡ false) where
  pub stepped : {T : Type 0} (r : Result T Stop) → OnOk r (Done (does what moment old) new s s1 c c1) → OnErr r (Broke (does what moment old) s s1 c c1)
      → IfErr r OfTurn
      → (items : List LinkItem) (moments : List ℕ) → items ≡ what ∷ [] → moments ≡ moment ∷ [] → Stepped old new s s1 c c1 r items moments
  stepped (Ok x) done broke only items moments is at = record { item = what; moment = moment; taken = is; given = at; short = short; done = done }
  stepped (Err NetFault) done broke only items moments is at = inr
      (record { item = what; moment = moment; taken = is; given = at; short = short; broke = broke })
  stepped (Err Memory) done broke only items moments is at = record { item = what; moment = moment; taken = is; given = at; short = short; broke = broke }
  stepped (Err stop) done broke only items moments is at = absurd only

-- the same, where the link tells its events
pub step_stepped : {T : Type 0} (old new : Venue) (s0 s s1 : Option (List LinkSent)) (c c1 : Option (List Casting)) (e e1 e2 : Option (List LinkItem))
    (g g1 : Option (List ℕ))
    (what : LinkEvent) (into : List ℕ) (moment : ℕ) (r : Result T Stop) → what ≢ event.Failed → is_too_long (item_of what into) old ≡ false → s ≡ s0 → e2 ≡ e1
    → Grew e e1 (λ items. items ≡ link_taken what into) → Grew g g1 (λ moments. moments ≡ moment ∷ [])
    → OnOk r (Done (does (item_of what into) moment old) new s s1 c c1) → OnErr r (Broke (does (item_of what into) moment old) s s1 c c1) → IfErr r OfTurn
    → Grew e e2 (λ items. Grew g g1 (Stepped old new s0 s1 c c1 r items))
step_stepped {T} old new s0 s s1 c c1 e e1 e2 g g1 what into moment r some short same also took given done broke only =
    subst (λ (o : Option (List LinkItem)). Grew e o (λ items. Grew g g1 (Stepped old new s0 s1 c c1 r items))) (sym also)
    (subst (λ (o : Option (List LinkSent)). Grew e e1 (λ items. Grew g g1 (Stepped old new o s1 c c1 r items))) same
    (grew_as e e1 (λ (items : List LinkItem). items ≡ link_taken what into) (λ (items : List LinkItem). Grew g g1 (Stepped old new s s1 c c1 r items)) took
    (λ items is.
    grew_as g g1 (λ (moments : List ℕ). moments ≡ moment ∷ []) (Stepped old new s s1 c c1 r items) given
    (λ moments at. stepped old new s s1 c c1 (item_of what into) moment short r done broke only items moments (is ∙ one_item what into some) at))))
