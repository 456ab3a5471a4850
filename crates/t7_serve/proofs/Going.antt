-- Replies and datagrams that go out one by one.
use Rattle.std.proofs.Common.{◌≡◌, ℕ, ◌+◌, ◌<◌, arith, Bool, true, List, [], ◌∷◌, ◌++◌, Option, Some, Result, Ok}
use Rattle.std.proofs.Common.{Err, IfOk, OnErr, OnOk, length, map, take, drop, refl, sym, ◌∙◌, ap, subst, append_assoc}
use Rattle.std.proofs.lemmas.List.{append-nil, length-map}
use Rattle.std.proofs.Math.Seq.{take-append_seam}
use Rattle.t7_base.specs.Outside.{Begins, Grew}
use Rattle.t7_base.specs.declared.ids.Feed.TheVariants.{LiveA, LiveB}
use Rattle.t7_base.specs.declared.public.Public.{Public}
use Rattle.t7_base.proofs.Grown.{grew_as, grew_then}
use Rattle.t7_layout.specs.Layouts.{Layout}
use Rattle.t7_eti.specs.Saying.{response_bytes}
use Rattle.t7_entry.specs.ByNumber.{ByNumber, remove}
use Rattle.t7_entry.specs.Days.{Day, due}
use Rattle.t7_entry.specs.State.{Reply, closes, sends}
use Rattle.t7_exchange.specs.declared.replies.Reply.TheVariants as handed
use Rattle.t7_exchange.specs.Handed.{first_handed, first_written}
use Rattle.t7_exchange.specs.Sending.{IsSent}
use Rattle.t7_exchange.specs.declared.sent.Sent.{Sent}
use Rattle.t7_packets.specs.Packing.{datagram_bytes}
use Rattle.t7_net.specs.Lines.{Casting}
use Rattle.t7_net.specs.Links.{Gave, LinkSent, Shut}
use Rattle.t7_serve.specs.Fronts.{SentFront}
use Rattle.t7_outcome.specs.declared.ending.Stop.{Stop}
use Rattle.t7_serve.specs.Servers.{CastsDatagram, SendsNext, SendsReply, waiting_sent}
use Rattle.t7_serve.specs.Turns.{due_bytes, on_both, sending, without_closed}
use Rattle.t7_serve.specs.Venues.{Venue}
use Rattle.t7_serve.proofs.Sent.{begins_after, begins_more, front_after, front_cut}

-- the first reply that waits is a close
closes_first : (layouts : List Layout) (conn : ℕ) (waiting : List Reply) → first_handed layouts waiting ≡ Some (handed.Close conn)
    → waiting ≡ closes conn ∷ drop 1 waiting
closes_first layouts conn [] is = absurd (cc)
closes_first layouts conn (sends c r ∷ more) is = absurd (cc)
closes_first layouts conn (closes c ∷ more) is = let same : c ≡ conn = cc in ap (λ (n : ℕ). closes n ∷ more) same

pub sends_close : (old new : Venue) (conn : ℕ) (s s1 : Option (List LinkSent)) → first_handed old.day.setting.layouts old.day.waiting ≡ Some (handed.Close conn)
    → new ≡ record old { day = record old.day { waiting = drop 1 old.day.waiting }; came = remove old.came conn }
    → Grew s s1 (λ added. added ≡ Shut conn ∷ []) → SendsReply old new s s1
sends_close old new conn s s1 is next sent =
    let first = closes_first old.day.setting.layouts conn old.day.waiting is in
    let left : new.day.waiting ≡ drop 1 old.day.waiting = ap (λ (v : Venue). v.day.waiting) next in record {
      reply = closes conn;
      first = first ∙ ap (λ (w : List Reply). closes conn ∷ w) (sym left);
      venue = next ∙ ap (λ (w : List Reply). record old { day = record old.day { waiting = w }; came = remove old.came conn }) (sym left);
      sent = sent;
    }

-- the first reply that waits is a frame
record IsFrame (layouts : List Layout) (conn : ℕ) (frame : List ℕ) (waiting : List Reply) : Type 0 where
  reply : Reply
  first : waiting ≡ reply ∷ drop 1 waiting
  sent : Gave conn frame ≡ sending layouts reply
  open_still : (came : ByNumber ℕ) → without_closed came (reply ∷ []) ≡ came

frame_first : (layouts : List Layout) (conn len : ℕ) (out now : List ℕ) (waiting : List Reply)
    → first_handed layouts waiting ≡ Some (handed.Bytes conn len) → now ≡ first_written layouts waiting out → IsFrame layouts conn (take len now) waiting
frame_first layouts conn len out now [] is written = absurd (cc)
frame_first layouts conn len out now (closes c ∷ more) is written = absurd (cc)
frame_first layouts conn len out now (sends c r ∷ more) is written =
    let same : conn ≡ c = cc in
    let count : len ≡ length (response_bytes layouts r) = cc in
    let frame : take len now ≡ response_bytes layouts r =
    ap (λ (n : ℕ). take n now) count ∙ ap (take (length (response_bytes layouts r))) written
    ∙ take-append_seam (response_bytes layouts r) (drop (length (response_bytes layouts r)) out) in record {
      reply = sends c r;
      first = refl;
      sent = rw (same, frame) refl;
      open_still = λ came. refl;
    }

module _ (old : Venue) (conn len : ℕ) (out now : List ℕ) (s s1 : Option (List LinkSent))
    (is : first_handed old.day.setting.layouts old.day.waiting ≡ Some (handed.Bytes conn len))
    (written : now ≡ first_written old.day.setting.layouts old.day.waiting out) where
  pub sends_frame : (new : Venue) → new ≡ record old { day = record old.day { waiting = drop 1 old.day.waiting } }
      → Grew s s1 (λ added. added ≡ Gave conn (take len now) ∷ []) → SendsReply old new s s1
  sends_frame new next sent =
      let found = frame_first old.day.setting.layouts conn len out now old.day.waiting is written in
      let left : new.day.waiting ≡ drop 1 old.day.waiting = ap (λ (v : Venue). v.day.waiting) next in record {
        reply = found.reply;
        first = found.first ∙ ap (λ (w : List Reply). found.reply ∷ w) (sym left);
        venue = next ∙ ap (λ (w : List Reply). record old { day = record old.day { waiting = w } }) (sym left)
            ∙ ap (λ (m : ByNumber ℕ). record old { day = record old.day { waiting = new.day.waiting }; came = m }) (sym (found.open_still old.came));
        sent = subst (λ (one : LinkSent). Grew s s1 (λ added. added ≡ one ∷ [])) found.sent sent;
      }

  pub frame_went : (new : Venue) (r : Result Bool Stop) → new ≡ record old { day = record old.day { waiting = drop 1 old.day.waiting } }
      → OnOk r (Grew s s1 (λ added. added ≡ Gave conn (take len now) ∷ [])) → IfOk r (λ more. more ≡ true) → IfOk r (SendsNext old new s s1)
  frame_went new (Ok more) next sent is = subst (SendsNext old new s s1) (sym is) (sends_frame new next sent)
  frame_went new (Err stop) next sent is = tt

  pub breaks_frame : Grew s s1 (λ added. (front : List ℕ) × Begins front (take len now) × (added ≡ Gave conn front ∷ []))
      → Grew s s1 (SentFront (waiting_sent old))
  breaks_frame cut =
      let layouts = old.day.setting.layouts in
      let found = frame_first layouts conn len out now old.day.waiting is written in
      let all : Gave conn (take len now) ∷ map (sending layouts) (drop 1 old.day.waiting) ≡ waiting_sent old =
      ap (λ (one : LinkSent). one ∷ map (sending layouts) (drop 1 old.day.waiting)) found.sent ∙ ap (map (sending layouts)) (sym found.first) in
      grew_as s s1 (λ (added : List LinkSent). (front : List ℕ) × Begins front (take len now) × (added ≡ Gave conn front ∷ [])) (SentFront (waiting_sent old))
      cut
      (λ xs of. subst (λ (l : List LinkSent). SentFront l xs) all
      (front_cut conn (take len now) of.0 (map (sending layouts) (drop 1 old.day.waiting)) xs of.1 of.2))

-- what was sent, and what the replies that still wait send, are all
abbrev pub Sends : List LinkSent → Venue → List LinkSent → Type 0
Sends all now sent = sent ++ waiting_sent now ≡ all

module _ (begun old new : Venue) (s s1 s2 : Option (List LinkSent)) (reply : SendsReply old new s1 s2) where
  pub replies_venue : old ≡ record begun { day = record begun.day { waiting = old.day.waiting }; came = old.came }
      → new ≡ record begun { day = record begun.day { waiting = new.day.waiting }; came = new.came }
  replies_venue is =
      let came : without_closed old.came (reply.reply ∷ []) ≡ new.came = sym (ap (λ (v : Venue). v.came) reply.venue) in
      reply.venue ∙ ap (λ (m : ByNumber ℕ). record old { day = record old.day { waiting = new.day.waiting }; came = m }) came
      ∙ ap (λ (v : Venue). record v { day = record v.day { waiting = new.day.waiting }; came = new.came }) is

  closed_on : (came : ByNumber ℕ) (one : Reply) (more : List Reply) → without_closed (without_closed came (one ∷ [])) more ≡ without_closed came (one ∷ more)
  closed_on came (sends conn r) more = refl
  closed_on came (closes conn) more = refl

  pub replies_came : without_closed new.came new.day.waiting ≡ without_closed old.came old.day.waiting
  replies_came =
      ap (λ (v : Venue). without_closed v.came new.day.waiting) reply.venue ∙ closed_on old.came reply.reply new.day.waiting
      ∙ ap (without_closed old.came) (sym reply.first)

  pub replies_sent : (all : List LinkSent) → Grew s s1 (Sends all old) → Grew s s2 (Sends all new)
  replies_sent all before =
      grew_then s s1 s2 (Sends all old) (λ (added : List LinkSent). added ≡ sending old.day.setting.layouts reply.reply ∷ []) (Sends all new) before reply.sent
      (λ xs ys is one. append_assoc xs ys (waiting_sent new) ∙ ap (λ (l : List LinkSent). xs ++ l) (next ys one) ∙ is)
    where
      next : (ys : List LinkSent) → ys ≡ sending old.day.setting.layouts reply.reply ∷ [] → ys ++ waiting_sent new ≡ waiting_sent old
      next ys one =
          ap (λ (l : List LinkSent). l ++ waiting_sent new) one
          ∙ ap (λ (v : Venue). sending old.day.setting.layouts reply.reply ∷ map (sending v.day.setting.layouts) new.day.waiting) reply.venue
          ∙ ap (map (sending old.day.setting.layouts)) (sym reply.first)

  pub fewer_replies : length new.day.waiting < length old.day.waiting
  fewer_replies = omega (arith, ap length reply.first)

pub replies_broke : (old : Venue) (all : List LinkSent) (s s1 s2 : Option (List LinkSent)) → Grew s s1 (Sends all old)
    → Grew s1 s2 (SentFront (waiting_sent old)) → Grew s s2 (SentFront all)
replies_broke old all s s1 s2 before broke =
    grew_then s s1 s2 (Sends all old) (SentFront (waiting_sent old)) (SentFront all) before broke
    (λ xs ys is front. subst (λ (l : List LinkSent). SentFront l (xs ++ ys)) is (front_after xs (waiting_sent old) ys front))

pub replies_all : (now : Venue) (all : List LinkSent) (s s1 : Option (List LinkSent)) → now.day.waiting ≡ [] → Grew s s1 (Sends all now)
    → Grew s s1 (λ added. added ≡ all)
replies_all now all s s1 none before =
    grew_as s s1 (Sends all now) (λ (added : List LinkSent). added ≡ all) before
    (λ xs is. sym (append-nil xs) ∙ ap (λ (w : List Reply). xs ++ map (sending now.day.setting.layouts) w) (sym none) ∙ is)

-- what holds at an error
pub on_err : {T E X : Type 0} (r : Result T E) → X → OnErr r X
on_err (Ok x) fact = tt
on_err (Err e) fact = fact

-- what follows from what holds
pub when_done : {T E A B : Type 0} (r : Result T E) → OnOk r A → (A → B) → OnOk r B
when_done (Ok x) fact to = to fact
when_done (Err e) fact to = tt

pub when_broke : {T E A B : Type 0} (r : Result T E) → OnErr r A → (A → B) → OnErr r B
when_broke (Ok x) fact to = tt
when_broke (Err e) fact to = to fact

-- the parts of a venue
pub same_venue : (day other : Day) (came more : ByNumber ℕ) (events : ℕ) → day ≡ other → came ≡ more
    → (let one : Venue = record { day = day; came = came; events = events } in one) ≡ record { day = other; came = more; events = events }
same_venue day other came more events one two = rw (one, two) refl

-- the first live datagram that is due was written
module _ (old new : Day) (out now : List ℕ) (sent : Sent) (is : IsSent old new out now sent) where
  written : take sent.len now ≡ datagram_bytes old.setting.layouts old.setting.listing.segment is.datagram
  written =
      let bytes = datagram_bytes old.setting.layouts old.setting.listing.segment is.datagram in
      ap (take sent.len) is.put.bytes ∙ ap (λ (n : ℕ). take n (bytes ++ drop sent.len out)) is.put.length ∙ take-append_seam bytes (drop sent.len out)

  pub first_due : due_bytes old ≡ take sent.len now ∷ due_bytes new
  first_due =
      ap (map (datagram_bytes old.setting.layouts old.setting.listing.segment)) is.ships.first
      ∙ ap (λ (d : Day). datagram_bytes old.setting.layouts old.setting.listing.segment is.datagram
      ∷ map (datagram_bytes d.setting.layouts d.setting.listing.segment) (due new)) (sym is.ships.others)
      ∙ ap (λ (b : List ℕ). b ∷ due_bytes new) (sym written)

  pub casts_datagram : (came : ByNumber ℕ) (events : ℕ) (c c1 : Option (List Casting))
      → Grew c c1 (λ added. added ≡ on_both LiveA LiveB (take sent.len now ∷ []))
      → CastsDatagram (record { day = old; came = came; events = events }) (record { day = new; came = came; events = events }) c c1
  casts_datagram came events c c1 cast =
      let live : new.live ≡ old.live + 1 = ap (λ (d : Day). d.live) is.ships.others in record {
        bytes = take sent.len now;
        first = first_due;
        venue = ap (λ (d : Day). let one : Venue = record { day = d; came = came; events = events } in one)
            (is.ships.others ∙ ap (λ (n : ℕ). record old { untold = new.untold; live = n }) (sym live));
        live = live;
        cast = cast;
      }

  pub breaks_datagram : (c c1 : Option (List Casting)) → Grew c c1 (λ added. Begins added (on_both LiveA LiveB (take sent.len now ∷ [])))
      → Grew c c1 (λ added. Begins added (on_both LiveA LiveB (due_bytes old)))
  breaks_datagram c c1 cut =
      grew_as c c1 (λ (added : List Casting). Begins added (on_both LiveA LiveB (take sent.len now ∷ [])))
      (λ (added : List Casting). Begins added (on_both LiveA LiveB (due_bytes old))) cut
      (λ xs front. subst (λ (l : List (List ℕ)). Begins xs (on_both LiveA LiveB l)) (sym first_due)
      (begins_more (on_both LiveA LiveB (take sent.len now ∷ [])) (on_both LiveA LiveB (due_bytes new)) xs front))

-- what was cast, and the live datagrams that are still due, are all
abbrev pub Casts : List Casting → Venue → List Casting → Type 0
Casts all now cast = cast ++ on_both LiveA LiveB (due_bytes now.day) ≡ all

module _ (begun old new : Venue) (c c1 c2 : Option (List Casting)) (one : CastsDatagram old new c1 c2) where
  pub datagrams_venue : old ≡ record begun { day = record begun.day { untold = old.day.untold; live = old.day.live } }
      → new ≡ record begun { day = record begun.day { untold = new.day.untold; live = new.day.live } }
  datagrams_venue is = one.venue ∙ ap (λ (v : Venue). record v { day = record v.day { untold = new.day.untold; live = new.day.live } }) is

  pub datagrams_count : new.day.live + length (due_bytes new.day) ≡ old.day.live + length (due_bytes old.day)
  datagrams_count = omega (arith, one.live, ap length one.first)

  pub datagrams_cast : (all : List Casting) → Grew c c1 (Casts all old) → Grew c c2 (Casts all new)
  datagrams_cast all before =
      grew_then c c1 c2 (Casts all old) (λ (added : List Casting). added ≡ on_both LiveA LiveB (one.bytes ∷ [])) (Casts all new) before one.cast
      (λ xs ys is pair.
      append_assoc xs ys (on_both LiveA LiveB (due_bytes new.day))
      ∙ ap (λ (l : List Casting). xs ++ l)
      (ap (λ (l : List Casting). l ++ on_both LiveA LiveB (due_bytes new.day)) pair ∙ ap (on_both LiveA LiveB) (sym one.first))
      ∙ is)

  pub fewer_datagrams : length (due_bytes new.day) < length (due_bytes old.day)
  fewer_datagrams = omega (arith, ap length one.first)

pub datagrams_broke : (old : Venue) (all : List Casting) (c c1 c2 : Option (List Casting)) → Grew c c1 (Casts all old)
    → Grew c1 c2 (λ added. Begins added (on_both LiveA LiveB (due_bytes old.day))) → Grew c c2 (λ added. Begins added all)
datagrams_broke old all c c1 c2 before broke =
    grew_then c c1 c2 (Casts all old) (λ (added : List Casting). Begins added (on_both LiveA LiveB (due_bytes old.day)))
    (λ (added : List Casting). Begins added all) before broke
    (λ xs ys is front. subst (λ (l : List Casting). Begins (xs ++ ys) l) is (begins_after xs (on_both LiveA LiveB (due_bytes old.day)) ys front))

-- nothing is due where no message waits
none_due : (day : Day) → day.untold ≡ [] → due_bytes day ≡ []
none_due day none = ap (λ (u : List (List Public)). due_bytes (record day { untold = u })) none

pub datagrams_all : (now : Venue) (all : List Casting) (c c1 : Option (List Casting)) → now.day.untold ≡ [] → Grew c c1 (Casts all now)
    → Grew c c1 (λ added. added ≡ all)
datagrams_all now all c c1 none before =
    grew_as c c1 (Casts all now) (λ (added : List Casting). added ≡ all) before
    (λ xs is. sym (append-nil xs) ∙ ap (λ (l : List (List ℕ)). xs ++ on_both LiveA LiveB l) (sym (none_due now.day none)) ∙ is)

pub datagrams_done : (begun now : Venue) → now ≡ record begun { day = record begun.day { untold = now.day.untold; live = now.day.live } }
    → now.day.live + length (due_bytes now.day) ≡ begun.day.live + length (due_bytes begun.day) → now.day.untold ≡ []
    → now ≡ record begun { day = record begun.day { untold = []; live = begun.day.live + length (due begun.day) } }
datagrams_done begun now is count none =
    let here : length (due_bytes now.day) ≡ 0 = ap length (none_due now.day none) in
    let there : length (due_bytes begun.day) ≡ length (due begun.day) = length-map (due begun.day)
    (datagram_bytes begun.day.setting.layouts begun.day.setting.listing.segment) in
    let live : now.day.live ≡ begun.day.live + length (due begun.day) = omega arith in
    is ∙ ap (λ (u : List (List Public)). record begun { day = record begun.day { untold = u; live = now.day.live } }) none
    ∙ ap (λ (n : ℕ). record begun { day = record begun.day { untold = []; live = n } }) live
