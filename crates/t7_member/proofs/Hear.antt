-- A live message: what is kept, and what is reached.
use Rattle.std.proofs.Common.{Bool, true, false, ◌||◌, ◌≡◌, ℕ, ◌+◌, ◌<◌, ◌≤◌, max, ◌⊎◌, inl, inr, List, [], ◌∷◌, Option, Some, None, refl, sym, ap, subst, ◌∙◌, arith}
use Rattle.t7_base.specs.Listing.{Listing}
use Rattle.t7_base.specs.declared.public.Public.{Public}
use Rattle.t7_base.specs.declared.public.Resting.{Resting}
use Rattle.t7_eobi.specs.declared.walks.Live.TheVariants.{Beat, Message}
use Rattle.t7_feed.proofs.Growth.{some_one, split_last}
use Rattle.t7_feed.proofs.Sent.{Laws}
use Rattle.t7_book.specs.Acts.{Act, commands_of}
use Rattle.t7_feed.specs.Arrivals.{Arrival, Came, CameAs, Packet, Terms, Told, Window, heard, highest, told}
use Rattle.t7_feed.specs.Fitting.{stepped}
use Rattle.t7_feed.specs.Reached.{ReachesByMessage}
use Rattle.t7_feed.specs.Sending.{book_at, message_sent}
use Rattle.t7_feed.specs.Whole.{Farthest, Buffered}
use Rattle.t7_lines.specs.Gap.{kept_at}
use Rattle.t7_lines.specs.Puts.{IsPut, Puts, TakesOff}
use Rattle.t7_lines.specs.declared.put.Put.{Put}
use Rattle.t7_mbook.specs.Misfits.{misfit_of}
use Rattle.t7_member.proofs.Moves.{Leaves, buffers_from, buffers_near, floor_base, leaves_of, this_stays, moves, drops, notes, beats, misfit_stops, fit_steps}
use Rattle.t7_member.specs.Keeping.{Holds, Image, Keeps, Mirrors, Rests, floor}
use Rattle.t7_member.specs.Steps.{Buffers, Chains, ends, next, fails, Hears, at_once, misfits, others, Settles, beaten, dropped, moved, noted}
use Rattle.t7_mbook.specs.Changes.{after}
use Rattle.t7_mbook.specs.declared.misfit.Misfit.{Misfit}
use Rattle.t7_lines.specs.declared.put.Put.TheVariants.{Old, Outside, New}

pub CameAs-came : (came : List Arrival) (k : ℕ) (said : Public) → CameAs came k said → Came came k
CameAs-came [] k said h = h
CameAs-came (Told (Message number heard) ∷ before) k said (inl h) = inl h.0
CameAs-came (Told (Message number heard) ∷ before) k said (inr h) = inr (CameAs-came before k said h)
CameAs-came (Told (Beat last) ∷ before) k said h = CameAs-came before k said h
CameAs-came (Packet number snaps ∷ before) k said h = CameAs-came before k said h

pub Leaves-all : (k : ℕ) (kept : List (ℕ × Public)) → Leaves k kept kept
Leaves-all k kept = record { from = λ i is at. at; above = λ i h. refl }

-- what is kept came, and is held
pub kept_held : {terms : Terms} {member : Image} {came : List Arrival} (k : ℕ) (said : Public) → Holds terms member came → kept_at member.kept k ≡ Some said → Buffered terms.listing came k
kept_held {terms} {member} {came} k said h at = let both = h.kept k said at in (CameAs-came came k said both.0, both.1)

pub chain_holds : {terms : Terms} {old new : Image} {came : List Arrival} → Chains terms.listing old new → Holds terms old came → Holds terms new came × Rests new
chain_holds (ends rests) h = (h, rests)
chain_holds (next n said list kept is at leaves fits rest) h =
    chain_holds rest (moves n list kept is ((kept_held (n + 1) said h at).0) (leaves_of (n + 1) _ kept leaves) h)
chain_holds (fails n said why kept is at leaves misfit) h =
    (drops n why kept is (leaves_of (n + 1) _ kept leaves) h, λ j none. absurd (cc none))

pub chain_none : {listing : Listing} {old new : Image} → Chains listing old new → old.base ≡ None → new ≡ old
chain_none (ends rests) none = refl
chain_none (next n said list kept is at leaves fits rest) none = absurd (cc (is, none))
chain_none (fails n said why kept is at leaves misfit) none = absurd (cc (is, none))

-- the mirror moves on
pub mirrors_move : {terms : Terms} {acts : List Act} {member : Image} (n : ℕ) (said : Public) (list : List Resting) (kept : List (ℕ × Public)) →
    Laws terms acts → member.base ≡ Some n → message_sent terms.listing acts (n + 1) ≡ Some said → stepped terms.listing.securities member.list said ≡ Some list → Leaves (n + 1) member.kept kept →
    Mirrors terms acts member → Mirrors terms acts (moved member n list kept)
mirrors_move {terms} {acts} {member} n said list kept laws is told fits leaves m = record {
  trusted = m.trusted;
  list = λ j at.
      let e = some_one at in
      let law = laws.next n said told in
      let same = m.list n is in
      let both : Some list ≡ Some (book_at terms.listing (commands_of acts) (n + 1)) = sym fits ∙ ap (λ xs. stepped terms.listing.securities xs said) same ∙ law in
      some_one both ∙ ap (λ k. book_at terms.listing (commands_of acts) k) e;
  kept = λ k is_k at. m.kept k is_k (leaves.from k is_k at);
}

-- on what an exchange sent, the next message fits
pub fits_next : {terms : Terms} {acts : List Act} {member : Image} (n : ℕ) (said : Public) (why : Misfit) →
    Laws terms acts → member.base ≡ Some n → message_sent terms.listing acts (n + 1) ≡ Some said → misfit_of terms.listing.securities member.list said ≡ Some why → Mirrors terms acts member → ⊥
fits_next {terms} {acts} {member} n said why laws is told misfit m =
    let both : None ≡ Some (book_at terms.listing (commands_of acts) (n + 1)) = sym (misfit_stops terms.listing.securities member.list said why misfit) ∙ ap (λ xs. stepped terms.listing.securities xs said) (m.list n is) ∙ laws.next n said told in
    cc both

-- what a chain reaches
module _ (terms : Terms) (acts : List Act) (laws : Laws terms acts) (came : List Arrival) (start : ℕ) (Has : ℕ → Type 0)
    (held : (j : ℕ) → Buffered terms.listing came j → Has j)
    (further : (n : ℕ) → Window terms.listing came (n + 1) → Has (n + 1 + 1) → Buffered terms.listing came (n + 1 + 1)) where
  pub chain_reaches : {old new : Image} (n : ℕ) → Chains terms.listing old new → old.base ≡ Some n → Holds terms old came → Mirrors terms acts old →
      start ≤ n → ((k : ℕ) → start < k → k ≤ n → Has k) → (Has (n + 1) → Buffered terms.listing came (n + 1)) →
      Mirrors terms acts new × ((j : ℕ) × (new.base ≡ Some j) × Farthest start j Has)
  chain_reaches {old} n (ends rests) is h m from each last = (
    m,
    (
      n,
      is,
      record {
        from = from;
        each = each;
        stop = λ has.
            let here = last has in
            let f = floor_base old n is in
            let above : floor old < n + 1 = omega arith in
            let found = h.all (n + 1) above here.0 here.1 in
            let none = rests n is in
            absurd (cc (found.1, none));
      },
    ),
  )
  chain_reaches {old} n (next n' said list kept is' at leaves fits rest) is h m from each last =
      let e : n' ≡ n = some_one (sym is' ∙ is) in
      let here = kept_held (n' + 1) said h at in
      let told = m.kept (n' + 1) said at in
      chain_reaches (n' + 1) rest refl
      (moves n' list kept is' here.0 (leaves_of (n' + 1) old.kept kept leaves) h)
      (mirrors_move n' said list kept laws is' told fits (leaves_of (n' + 1) old.kept kept leaves) m)
      (omega arith)
      (λ k above upto. elim (split_last k n' upto) [
        | inl below ↦ (let low : k ≤ n = omega arith in each k above low)
        | inr k_is ↦ rw k_is (held (n' + 1) here)
      ])
      (further n' here.1)
  chain_reaches {old} n (fails n' said why kept is' at leaves misfit) is h m from each last =
      absurd (fits_next n' said why laws is' (m.kept (n' + 1) said at) misfit m)

pub mirrors_note : {terms : Terms} {acts : List Act} {member : Image} (window k : ℕ) (said : Public) (kept : List (ℕ × Public)) →
    Buffers window (max k member.highest) member.base k said member.kept kept → message_sent terms.listing acts k ≡ Some said →
    Mirrors terms acts member → Mirrors terms acts (noted member k kept)
mirrors_note {terms} {acts} {member} window k said kept puts told m = record {
  trusted = m.trusted;
  list = m.list;
  kept = λ i is at. elim (buffers_from window (max k member.highest) member.base k said member.kept kept puts i is at) [
    | inl old ↦ m.kept i is old
    | inr now ↦ rw (← now.0, ← now.1) told
  ];
}

-- what holds once a message is heard, and the number after the base isn't kept
pub hears_holds : {terms : Terms} (k : ℕ) (said : Public) {old new : Image} {came : List Arrival} →
    Hears terms.listing k said old new → Holds terms old came →
    Holds terms new (Told (Message k said) ∷ came) × Rests new
hears_holds k said (at_once n list kept puts is is_next fits rest) h =
    chain_holds rest (moves n list kept is (inl is_next) (Leaves-all (n + 1) kept) (notes k said kept puts h))
hears_holds k said (misfits n why kept puts is is_next misfit) h =
    (drops n why kept is (Leaves-all (n + 1) kept) (notes k said kept puts h), λ j none. absurd (cc none))
hears_holds k said (others kept puts close rest) h = chain_holds rest (notes k said kept puts h)

-- on what an exchange sent: the mirror stays, and the base is what is reached
module _ (terms : Terms) (acts : List Act) (laws : Laws terms acts) (came : List Arrival) (k : ℕ) (said : Public) (told : message_sent terms.listing acts k ≡ Some said) where
  pub Has : ℕ → Type 0
  Has i = Buffered terms.listing (Told (Message k said) ∷ came) i ⊎ (i ≡ k)

  pub further : (n : ℕ) → Window terms.listing (Told (Message k said) ∷ came) (n + 1) → Has (n + 1 + 1) → Buffered terms.listing (Told (Message k said) ∷ came) (n + 1 + 1)
  unfolding Has
  further n near (inl h) = h
  further n near (inr e) = (inl (sym e), omega arith)

  pub hears_none : {old new : Image} → Hears terms.listing k said old new → Mirrors terms acts old → old.base ≡ None → Mirrors terms acts new × (new.base ≡ None)
  hears_none (at_once n list kept puts is is_next fits rest) m none = absurd (cc (is, none))
  hears_none (misfits n why kept puts is is_next misfit) m none = absurd (cc (is, none))
  hears_none (others kept puts close rest) m none =
      let same = chain_none rest none in
      (rw same (mirrors_note terms.listing.window k said kept puts told m), rw same none)

  pub hears_some : {old new : Image} (n : ℕ) → Hears terms.listing k said old new → Holds terms old came → Mirrors terms acts old → old.base ≡ Some n →
      Mirrors terms acts new × ((j : ℕ) × (new.base ≡ Some j) × Farthest n j Has)
  unfolding Has
  hears_some n (at_once n' list kept puts is' is_next fits rest) h m is =
      let e : n' ≡ n = some_one (sym is' ∙ is) in
      let sent : message_sent terms.listing acts (n' + 1) ≡ Some said = rw is_next at told in
      chain_reaches terms acts laws (Told (Message k said) ∷ came) n Has (λ j here. inl here) further (n' + 1) rest refl
      (moves n' list kept is' (inl is_next) (Leaves-all (n' + 1) kept) (notes k said kept puts h))
      (mirrors_move n' said list kept laws is' sent fits (Leaves-all (n' + 1) kept) (mirrors_note terms.listing.window k said kept puts told m))
      (omega arith)
      (λ i above upto. inr (omega arith))
      (λ has. elim has [ inl here ↦ here | inr is_k ↦ absurd (omega arith) ])
  hears_some n (misfits n' why kept puts is' is_next misfit) h m is =
      let sent : message_sent terms.listing acts (n' + 1) ≡ Some said = rw is_next at told in
      absurd (fits_next n' said why laws is' sent misfit m)
  hears_some {old} n (others kept puts close rest) h m is =
      let top = h.highest in
      chain_reaches terms acts laws (Told (Message k said) ∷ came) n Has (λ j here. inl here) further n rest is
      (notes k said kept puts h)
      (mirrors_note terms.listing.window k said kept puts told m)
      (omega arith)
      (λ i above upto. absurd (omega arith))
      (λ has. elim has [
        | inl here ↦ here
        | inr is_k ↦ (let c : max k old.highest < k + terms.listing.window = close n is (sym is_k) in (inl (sym is_k), omega arith))
      ])

  pub hears_reaches : {old new : Image} (base : Option ℕ) → Hears terms.listing k said old new → Holds terms old came → Mirrors terms acts old → old.base ≡ base →
      Mirrors terms acts new × ReachesByMessage terms.listing (Told (Message k said) ∷ came) k base new.base
  unfolding Has
  hears_reaches None hears h m is = hears_none hears m is
  hears_reaches (Some n) hears h m is = hears_some n hears h m is

-- the step of a live message
pub step_message : {terms : Terms} {acts : List Act} {old new : Image} {came : List Arrival} (k : ℕ) (said : Public) →
    Laws terms acts → Hears terms.listing k said old new → Keeps terms acts old came → Keeps terms acts new (Told (Message k said) ∷ came)
step_message {terms} {acts} {old} {new} {came} k said laws hears keeps =
    let both = hears_holds k said hears keeps.holds in
    record {
      holds = both.0;
      rests = both.1;
      mirrors = λ genuine.
          let before = keeps.mirrors genuine.1 in
          let now = hears_reaches terms acts laws came k said genuine.0 old.base hears keeps.holds before.0 refl in
          (now.0, (old.base, before.1, now.1));
    }

-- the step of a Heartbeat
pub step_beat : {terms : Terms} {acts : List Act} {old : Image} {came : List Arrival} (last : ℕ) →
    Keeps terms acts old came → Keeps terms acts (beaten old last) (Told (Beat last) ∷ came)
step_beat last keeps = record {
  holds = beats last keeps.holds;
  rests = keeps.rests;
  mirrors = λ genuine. (let before = keeps.mirrors genuine in (record { trusted = before.0.trusted; list = before.0.list; kept = before.0.kept }, before.1));
}

-- the loop of `chain`, one turn after another
chain_turn_by : (listing : Listing) (old now new : Image) (n : ℕ) (said : Public) (kept : List (ℕ × Public)) (result : Option Misfit) → misfit_of listing.securities old.list said ≡ result →
    old.base ≡ Some n → kept_at old.kept (n + 1) ≡ Some said → TakesOff (n + 1) old.kept kept →
    ((list : List Resting) → stepped listing.securities old.list said ≡ Some list → now ≡ moved old n list kept) →
    ((why : Misfit) → misfit_of listing.securities old.list said ≡ Some why → now ≡ dropped old n why kept) → Chains listing now new → Chains listing old new
chain_turn_by listing old now new n said kept (Some why) is based at leaves fit misfit rest =
    let same = misfit why is in
    let gone : new ≡ now = chain_none rest (rw same refl) in
    let e : dropped old n why kept ≡ new = sym (gone ∙ same) in
    subst (λ x. Chains listing old x) e (fails n said why kept based at leaves is)
chain_turn_by listing old now new n said kept None is based at leaves fit misfit rest =
    let steps = fit_steps listing.securities old.list said is in
    let same = fit (after listing.securities old.list said) steps in
    next n said (after listing.securities old.list said) kept based at leaves steps (rw same at rest)

pub chain_turn : (listing : Listing) (old now new : Image) (n : ℕ) (said : Public) (kept : List (ℕ × Public)) →
    old.base ≡ Some n → kept_at old.kept (n + 1) ≡ Some said → TakesOff (n + 1) old.kept kept →
    ((list : List Resting) → stepped listing.securities old.list said ≡ Some list → now ≡ moved old n list kept) →
    ((why : Misfit) → misfit_of listing.securities old.list said ≡ Some why → now ≡ dropped old n why kept) → Chains listing now new → Chains listing old new
chain_turn listing old now new n said kept based at leaves fit misfit rest =
    chain_turn_by listing old now new n said kept (misfit_of listing.securities old.list said) refl based at leaves fit misfit rest

pub rests_none : (member : Image) → member.base ≡ None → Rests member
rests_none member none n is = absurd (cc (none, is))

pub rests_some : (member : Image) (n : ℕ) → member.base ≡ Some n → kept_at member.kept (n + 1) ≡ None → Rests member
rests_some member n based none j is = let e : j ≡ n = some_one (sym is ∙ based) in rw e none

-- the answer of a put that isn't for a message at once
pub put_near : (put : Put) (window highest : ℕ) (base : Option ℕ) (k n : ℕ) (old : List (ℕ × Public)) → ((is : Public) → kept_at old k ≡ Some is → highest < k + window) →
    IsPut put window highest base k old → base ≡ Some n → k ≡ n + 1 → (put ≡ Outside → ⊥) → highest < k + window
put_near Old window highest base k n old near (inl under) is is_next other = absurd (under (rw is (omega arith)))
put_near Old window highest base k n old near (inr found) is is_next other = near found.0 found.1
put_near Outside window highest base k n old near answer is is_next other = absurd (other refl)
put_near New window highest base k n old near answer is is_next other = answer.2

settled_at_once : (listing : Listing) (k : ℕ) (said : Public) (old settled new : Image) (kept : List (ℕ × Public)) (n : ℕ) (result : Option Misfit) → misfit_of listing.securities old.list said ≡ result →
    Buffers listing.window (max k old.highest) old.base k said old.kept kept → old.base ≡ Some n → k ≡ n + 1 →
    ((list : List Resting) → stepped listing.securities old.list said ≡ Some list → settled ≡ moved (noted old k kept) n list kept) →
    ((why : Misfit) → misfit_of listing.securities old.list said ≡ Some why → settled ≡ dropped (noted old k kept) n why kept) → Chains listing settled new → Hears listing k said old new
settled_at_once listing k said old settled new kept n (Some why) is puts based is_next fit misfit rest =
    let same = misfit why is in
    let gone : new ≡ settled = chain_none rest (rw same refl) in
    let e : dropped (noted old k kept) n why kept ≡ new = sym (gone ∙ same) in
    subst (λ x. Hears listing k said old x) e (misfits n why kept puts based is_next is)
settled_at_once listing k said old settled new kept n None is puts based is_next fit misfit rest =
    let steps = fit_steps listing.securities old.list said is in
    let same = fit (after listing.securities old.list said) steps in
    at_once n (after listing.securities old.list said) kept puts based is_next steps (rw same at rest)

pub heard_by : (listing : Listing) (k : ℕ) (said : Public) (put : Put) (old settled new : Image) (kept : List (ℕ × Public)) →
    Puts put listing.window (max k old.highest) k said old.kept kept → IsPut put listing.window (max k old.highest) old.base k old.kept →
    Settles listing put k said (noted old k kept) settled → Chains listing settled new → Hears listing k said old new
heard_by listing k said put old settled new kept puts answer (inl s) rest =
    settled_at_once listing k said old settled new kept s.0 (misfit_of listing.securities old.list said) refl (record { put = put; answer = answer; kept = puts }) s.1 s.2 s.3 s.4 rest
heard_by listing k said put old settled new kept puts answer (inr s) rest =
    let put_in : Buffers listing.window (max k old.highest) old.base k said old.kept kept = record { put = put; answer = answer; kept = puts } in
    let near : (is : Public) → kept_at old.kept k ≡ Some is → max k old.highest < k + listing.window =
    λ is at. buffers_near listing.window (max k old.highest) old.base k said old.kept kept put_in k is
    (this_stays listing.window (max k old.highest) old.base k said old.kept kept put_in put is answer puts.this at) in
    others kept put_in (λ n is is_next. put_near put listing.window (max k old.highest) old.base k n old.kept near answer is is_next (λ out. s.1 out n is is_next)) (rw s.0 at rest)

pub chains_terms : {listing : Listing} {old new : Image} → Chains listing old new → new.terms ≡ old.terms
chains_terms (ends rests) = refl
chains_terms (next n said list kept is at leaves fits rest) = chains_terms rest
chains_terms (fails n said why kept is at leaves misfit) = refl

pub hears_terms : (listing : Listing) (k : ℕ) (said : Public) {old new : Image} → Hears listing k said old new → new.terms ≡ old.terms
hears_terms listing k said (at_once n list kept puts is is_next fits rest) = chains_terms rest
hears_terms listing k said (misfits n why kept puts is is_next misfit) = refl
hears_terms listing k said (others kept puts close rest) = chains_terms rest

-- the step, with the terms that the member has
pub message_step : (terms : Terms) (acts : List Act) (old new : Image) (came : List Arrival) (k : ℕ) (said : Public) →
    Laws terms acts → Hears old.terms.listing k said old new → Keeps terms acts old came → Keeps terms acts new (Told (Message k said) ∷ came)
message_step terms acts old new came k said laws hears keeps =
    step_message k said laws (subst (λ (t : Terms). Hears t.listing k said old new) keeps.holds.terms_are hears) keeps

-- of three, one is
pub or_join : (a b c : Bool) → (a || (b || c)) ≡ ((a || b) || c)
or_join true b c = refl
or_join false b c = refl

pub or_none : (a : Bool) → (a || false) ≡ a
or_none true = refl
or_none false = refl
