-- What the assembler keeps of a datagram, by its items.
use Rattle.std.proofs.Common.{◌≡◌, ℕ, ◌+◌, ◌<◌, max, inl, inr, List, Option, Some, None, option_map, eqb, if◌then◌else◌, refl, sym, ap, subst, ◌∙◌, arith}
use Rattle.std.proofs.lemmas.Bool.Decides.{eqb_tells}
use Rattle.t7_base.specs.Listing.{Listing}
use Rattle.t7_base.specs.declared.public.Resting.{Resting}
use Rattle.t7_layout.specs.Layouts.{Layout}
use Rattle.t7_eobi.specs.declared.walks.Snap.{Snap}
use Rattle.t7_eobi.specs.Datagrams.{packet_number, snaps_of}
use Rattle.t7_feed.specs.Arrivals.{greatest_named, or_else, Terms}
use Rattle.t7_feed.specs.Cycles.{Section}
use Rattle.t7_feed.specs.Whole.{IsBelow}
use Rattle.t7_snapshot.specs.Store.{held, seen, Store, Takes}
use Rattle.t7_member.specs.declared.standing.Refusal.{Refusal}
use Rattle.t7_member.specs.Keeping.{Image, packets_of}
use Rattle.t7_member.specs.Steps.{adopted, adopts, Chains, finds_none, ignores, received, Receives}
use Rattle.t7_member.specs.Taking.{Answers, Assembles, IsUpTo, Stages}

-- what is mapped was there
map_some : {A B : Type 0} (f : A → B) (o : Option A) (b : B) → option_map f o ≡ Some b → (a : A) × (o ≡ Some a)
map_some f None b h = absurd (cc h)
map_some f (Some a) b h = (a, refl)

map_or : {A B : Type 0} (f : A → B) (o : Option A) (i j : ℕ) (a : A) → option_map f (or_else o (if eqb i j then Some a else None)) ≡ or_else (option_map f o) (if eqb i j then Some (f a) else None)
map_or f (Some x) i j a = refl
map_or f None i j a = elim (eqb_tells i j) [ inl e ↦ rw e.0 refl | inr o ↦ rw o.0 refl ]

-- in the words of stores: what is near, and what each number has
pub takes_seen : (listing : Listing) (layouts : List Layout) (old new : Store) (i : ℕ) (bytes : List ℕ) (answer : Option (ℕ × List Section)) → old.terms ≡ record { layouts = layouts; listing = listing } → Takes i bytes old new
    → Answers listing.securities (seen new) i answer → Assembles listing (max i old.highest) i (snaps_of layouts bytes) (seen old) (seen new) answer
takes_seen listing layouts old new i bytes answer terms took answers =
    let packets : old.terms.listing.packets ≡ listing.packets = ap (λ (t : Terms). t.listing.packets) terms in
    let before : old.terms.layouts ≡ layouts = ap (λ (t : Terms). t.layouts) terms in
    let after : new.terms.layouts ≡ layouts = ap (λ (t : Terms). t.layouts) took.terms ∙ before in
    let top = took.highest in
    record {
      near = λ j is at.
          let there = map_some (snaps_of new.terms.layouts) (held new j) is at in
          let close = took.near j there.0 there.1 in omega arith;
      kept = λ j close.
          let near : new.highest < j + old.terms.listing.packets = omega arith in
          ap (λ ls. option_map (snaps_of ls) (held new j)) after
          ∙ ap (λ o. option_map (snaps_of layouts) o) (took.kept j near)
          ∙ map_or (snaps_of layouts) (held old j) i j bytes
          ∙ ap (λ ls. or_else (option_map (snaps_of ls) (held old j)) (if eqb i j then Some (snaps_of layouts bytes) else None)) (sym before);
      answers = answers;
    }

-- what a member has of a store
abbrev pub store_of : Image → Store
store_of member = record { terms = member.terms; highest = member.highest_packet; ring = member.ring }

-- a member took a snapshot datagram
module _ (member : Image) (old new : Store) (i : ℕ) (bytes : List ℕ) (here : store_of member ≡ old) (took : Takes i bytes old new) where
  abbrev items : List Snap
  items = snaps_of member.terms.layouts bytes

  abbrev now : Image
  now = received member i items new.ring

  there : store_of now ≡ new
  there =
      let terms : member.terms ≡ new.terms = ap (λ (s : Store). s.terms) here ∙ sym took.terms in
      let highest : max i member.highest_packet ≡ new.highest = ap (λ (s : Store). max i s.highest) here ∙ sym took.highest in
      ap (λ t. record { terms = t; highest = max i member.highest_packet; ring = new.ring }) terms ∙ ap (λ h. record { terms = new.terms; highest = h; ring = new.ring }) highest

  pub assembles : (answer : Option (ℕ × List Section)) → Answers member.terms.listing.securities (seen new) i answer
      → Assembles member.terms.listing (max i member.highest_packet) i items (packets_of member) (packets_of now) answer
  assembles answer answers =
      let highest : max i old.highest ≡ max i member.highest_packet = ap (λ (s : Store). max i s.highest) (sym here) in
      let found = takes_seen member.terms.listing member.terms.layouts old new i bytes answer (ap (λ (s : Store). s.terms) (sym here)) took answers in
      let by_old = subst (λ (s : Store). Assembles member.terms.listing (max i old.highest) i items (seen s) (seen new) answer) (sym here) found in
      let by_new = subst (λ (s : Store). Assembles member.terms.listing (max i old.highest) i items (packets_of member) (seen s) answer) (sym there) by_old in
      subst (λ h. Assembles member.terms.listing h i items (packets_of member) (packets_of now) answer) highest by_new

  -- nothing is adopted
  pub left_as_it_is : (base : Option ℕ) (refused : Option Refusal) (list : List Resting) → base ≡ member.base → refused ≡ member.refused → Stages member.terms.listing.securities (seen new) i base refused list None
      → Receives member.terms.listing i items member now
  left_as_it_is base refused list base_is refused_is (inl none) = finds_none new.ring (assembles None none)
  left_as_it_is base refused list base_is refused_is (inr some) =
      ignores new.ring some.0 some.1 (assembles (Some (some.0, some.1)) some.2)
      (λ below upto. some.3 (subst (λ b. IsBelow b some.0) (sym base_is) below) (subst (λ r. IsUpTo r some.0) (sym refused_is) upto))

  -- a cycle is adopted
  pub taken_over : (base : Option ℕ) (refused : Option Refusal) (list : List Resting) (m : ℕ) (last : Image) → base ≡ member.base → refused ≡ member.refused → Stages member.terms.listing.securities (seen new) i base refused list (Some m)
      → Chains member.terms.listing (adopted now m list) last → Receives member.terms.listing i items member last
  taken_over base refused list m last base_is refused_is s chains =
      adopts new.ring m s.0 list (assembles (Some (m, s.0)) s.1) (subst (λ b. IsBelow b m) base_is s.2) (subst (λ r. IsUpTo r m) refused_is s.3) s.4 chains

-- the member's parts after a snapshot datagram are those of the words
pub image_after : (member : Image) (list : List Resting) (highest known : ℕ) (ring : List (ℕ × List ℕ)) (i : ℕ) (snaps : List Snap) → list ≡ member.list → highest ≡ max i member.highest_packet → known ≡ max (greatest_named snaps) member.known
    → record member { list = list; highest_packet = highest; known = known; ring = ring } ≡ received member i snaps ring
image_after member list highest known ring i snaps list_is highest_is known_is =
    ap (λ l. record member { list = l; highest_packet = highest; known = known; ring = ring }) list_is
    ∙ ap (λ h. record member { highest_packet = h; known = known; ring = ring }) highest_is
    ∙ ap (λ k. record member { highest_packet = max i member.highest_packet; known = k; ring = ring }) known_is

pub image_adopted : (member : Image) (m : ℕ) (list new : List Resting) (highest known : ℕ) (ring : List (ℕ × List ℕ)) (i : ℕ) (snaps : List Snap) → list ≡ new → highest ≡ max i member.highest_packet → known ≡ max (greatest_named snaps) member.known
    → record member { base = Some m; refused = None; list = list; highest_packet = highest; known = known; ring = ring } ≡ adopted (received member i snaps ring) m new
image_adopted member m list new highest known ring i snaps list_is highest_is known_is =
    ap (λ l. record member { base = Some m; refused = None; list = l; highest_packet = highest; known = known; ring = ring }) list_is
    ∙ ap (λ h. record member { base = Some m; refused = None; list = new; highest_packet = h; known = known; ring = ring }) highest_is
    ∙ ap (λ k. record member { base = Some m; refused = None; list = new; highest_packet = max i member.highest_packet; known = k; ring = ring }) known_is

pub no_adoption : (member last : Image) (old new : Store) (layouts : List Layout) (bytes : List ℕ) (list : List Resting) → layouts ≡ member.terms.layouts → store_of member ≡ old → Takes (packet_number layouts bytes) bytes old new
    → Stages member.terms.listing.securities (seen new) (packet_number layouts bytes) member.base member.refused list None → last ≡ received member (packet_number layouts bytes) (snaps_of layouts bytes) new.ring
    → Receives member.terms.listing (packet_number member.terms.layouts bytes) (snaps_of member.terms.layouts bytes) member last
no_adoption member last old new layouts bytes list same here took stages is =
    let took_at = subst (λ ls. Takes (packet_number ls bytes) bytes old new) same took in
    let stages_at = subst (λ ls. Stages member.terms.listing.securities (seen new) (packet_number ls bytes) member.base member.refused list None) same stages in
    let is_at = is ∙ ap (λ ls. received member (packet_number ls bytes) (snaps_of ls bytes) new.ring) same in
    subst (λ (x : Image). Receives member.terms.listing (packet_number member.terms.layouts bytes) (snaps_of member.terms.layouts bytes) member x) (sym is_at)
    (left_as_it_is member old new (packet_number member.terms.layouts bytes) bytes here took_at member.base member.refused list refl refl stages_at)

pub adoption : (member begun last : Image) (old new : Store) (layouts : List Layout) (bytes : List ℕ) (list : List Resting) (m : ℕ) → layouts ≡ member.terms.layouts → store_of member ≡ old → Takes (packet_number layouts bytes) bytes old new
    → Stages member.terms.listing.securities (seen new) (packet_number layouts bytes) member.base member.refused list (Some m) → begun ≡ adopted (received member (packet_number layouts bytes) (snaps_of layouts bytes) new.ring) m list
    → Chains member.terms.listing begun last → Receives member.terms.listing (packet_number member.terms.layouts bytes) (snaps_of member.terms.layouts bytes) member last
adoption member begun last old new layouts bytes list m same here took stages is chains =
    let took_at = subst (λ ls. Takes (packet_number ls bytes) bytes old new) same took in
    let stages_at = subst (λ ls. Stages member.terms.listing.securities (seen new) (packet_number ls bytes) member.base member.refused list (Some m)) same stages in
    let is_at = is ∙ ap (λ ls. adopted (received member (packet_number ls bytes) (snaps_of ls bytes) new.ring) m list) same in
    taken_over member old new (packet_number member.terms.layouts bytes) bytes here took_at member.base member.refused list m last refl refl stages_at
    (subst (λ (x : Image). Chains member.terms.listing x last) is_at chains)
