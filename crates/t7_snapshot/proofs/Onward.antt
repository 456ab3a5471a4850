-- A cycle that was read a part of the way, and what is remembered of it.
use Rattle.std.proofs.Common.{◌≡◌, ℕ, ◌+◌, ◌%◌, ◌<◌, ◌≤◌, max, ◌⊎◌, inl, inr, List, [], ◌∷◌, length, get_or, set, Option, Some, None, Bool, true, false, refl, sym, ap, subst, ◌∙◌, arith, eqb, if◌then◌else◌, get_or-set_same, get_or-set_other, length-set, option_map, ℤ, nat_lt, ◌&&◌}
use Rattle.std.specs.Bool.{OnTrue}
use Rattle.std.specs.Ordering.{int_eq}
use Rattle.std.proofs.lemmas.Bool.{cases_Bool}
use Rattle.std.proofs.lemmas.Bool.Decides.{nat_tests}
use Rattle.t7_eobi.specs.declared.walks.Snap.{Snap}
use Rattle.t7_eobi.specs.declared.walks.Snap.TheVariants.{Product, Instrument, Order}
use Rattle.t7_eobi.specs.Datagrams.{snaps_of}
use Rattle.t7_feed.specs.Arrivals.{or_else, Terms}
use Rattle.t7_snapshot.specs.declared.progress.Progress.{Progress}
use Rattle.t7_snapshot.specs.Reading.{Awaits, fresh, read_instrument, read_one, read_all, Completes, goes_on, opens, Kept, Nearest, Reads, begins_at, reads_on}
use Rattle.t7_snapshot.specs.Remembered.{blank, IsProgress, IsRow, AreRemembered}
use Rattle.t7_snapshot.specs.Store.{Store, free, held, seen, IsNew, IsRing, IsSnapDatagram, Takes}
use Rattle.t7_snapshot.proofs.Held.{compare, held_stands, none_or, now_below, now_held, now_same, rises, same_or, some_one, takes_new, takes_same}
use Rattle.t7_snapshot.proofs.Search.{completes_back, is_not_none}

-- what completes the rest completes the whole
pub reads_to : {at : ℕ → Option (List Snap)} {start : Awaits} {first : ℕ} {w : Awaits} {n m q : ℕ} → Reads at start first n w → Completes at w n m q → Completes at start first m q
reads_to {at} {start} {first} {w} {n} {m} {q} (begins_at here same) whole = subst (λ k. Completes at start k m q) here (subst (λ v. Completes at v n m q) same whole)
reads_to {at} {start} {first} {w} {n} {m} {q} (reads_on before v snaps r is read not next) whole = reads_to r (goes_on snaps w is read not (subst (λ k. Completes at w k m q) next whole))

pub reads_back : {at : ℕ → Option (List Snap)} {start : Awaits} {first : ℕ} {w : Awaits} {n m q : ℕ} → Reads at start first n w → Completes at start first m q → Completes at w n m q
reads_back {at} {start} {first} {w} {n} {m} {q} (begins_at here same) whole = subst (λ k. Completes at w k m q) (sym here) (subst (λ v. Completes at v first m q) (sym same) whole)
reads_back {at} {start} {first} {w} {n} {m} {q} (reads_on before v snaps r is read not next) whole = subst (λ k. Completes at w k m q) (sym next) (completes_back snaps w is read not (reads_back r whole))

pub reads_above : {at : ℕ → Option (List Snap)} {start : Awaits} {first : ℕ} {w : Awaits} {n : ℕ} → Reads at start first n w → first ≤ n
reads_above (begins_at here same) = omega arith
reads_above (reads_on before v snaps r is read not next) = (let h = reads_above r in omega arith)

-- what was read stays read where the datagrams stay
pub reads_same : {at later : ℕ → Option (List Snap)} {start : Awaits} {first : ℕ} {w : Awaits} {n : ℕ} → ((k : ℕ) (snaps : List Snap) → first ≤ k → at k ≡ Some snaps → later k ≡ Some snaps) → Reads at start first n w → Reads later start first n w
reads_same stays (begins_at here same) = begins_at here same
reads_same stays (reads_on before v snaps r is read not next) = reads_on before v snaps (reads_same stays r) (stays before snaps (reads_above r) is) read not next

instrument_keeps : (w v : Awaits) (m : ℕ) (security : ℤ) (count : ℕ) (number : Option ℕ) (securities : List ℤ) → number ≡ Some m → read_instrument w security count number securities ≡ Some v → v.number ≡ Some m
instrument_keeps w v m security count None securities is read = absurd (cc is)
instrument_keeps w v m security count (Some k) [] is read = absurd (cc read)
instrument_keeps w v m security count (Some k) (next ∷ others) is read = elim (cases_Bool (int_eq next security && eqb w.count 0)) [
  | inl fits ↦ sym (ap (λ x. x.number) (some_one (rw fits at read))) ∙ is
  | inr misfits ↦ absurd (let no : None ≡ Some v = rw misfits at read in cc no)
]

-- once a cycle has its number, it keeps it
one_keeps : (w v : Awaits) (m : ℕ) (snap : Snap) → w.number ≡ Some m → read_one w snap ≡ Some v → v.number ≡ Some m
unfolding read_one
one_keeps w v m (Product k) is read = absurd (let none : None ≡ Some v = rw is at read in cc none)
one_keeps w v m (Instrument security count) is read = instrument_keeps w v m security count w.number w.securities is read
one_keeps w v m (Order side price stamp qty) is read = elim (cases_Bool (nat_lt 0 w.count)) [
  | inl some ↦ sym (ap (λ x. x.number) (some_one (rw some at read))) ∙ is
  | inr none ↦ absurd (let no : None ≡ Some v = rw none at read in cc no)
]

number_stays : (w v : Awaits) (m : ℕ) (snaps : List Snap) → w.number ≡ Some m → read_all w snaps ≡ Some v → v.number ≡ Some m
number_stays w v m [] is read = ap (λ x. x.number) (sym (some_one read)) ∙ is
number_stays w v m (snap ∷ snaps) is read = elim (none_or (read_one w snap)) [
  | inl none ↦ absurd (let no : None ≡ Some v = rw none at read in cc no)
  | inr some ↦ number_stays some.0 v m snaps (one_keeps w some.0 m snap is some.1) (rw some.1 at read)
]

-- so a datagram that opens a cycle isn't read in another
opens_none : (w v : Awaits) (m : ℕ) (snaps : List Snap) → w.number ≡ Some m → read_all w snaps ≡ Some v → opens snaps ≡ false
unfolding read_one
opens_none w v m [] is read = refl
opens_none w v m (Product k ∷ snaps) is read = absurd (let none : None ≡ Some v = rw is at read in cc none)
opens_none w v m (Instrument security count ∷ snaps) is read = refl
opens_none w v m (Order side price stamp qty ∷ snaps) is read = refl

pub record IsNumbered (w : Awaits) : Type 0 where
  pub number : ℕ
  pub is : w.number ≡ Some number

opened_number : (w v : Awaits) (snaps : List Snap) → opens snaps ≡ true → read_all w snaps ≡ Some v → IsNumbered v
unfolding read_one
opened_number w v [] o read = absurd (cc o)
opened_number w v (Product k ∷ snaps) o read = elim (none_or w.number) [
  | inl none ↦ record { number = k; is = number_stays (record w { number = Some k }) v k snaps refl (rw none at read) }
  | inr some ↦ absurd (let none : None ≡ Some v = rw some.1 at read in cc none)
]
opened_number w v (Instrument security count ∷ snaps) o read = absurd (cc o)
opened_number w v (Order side price stamp qty ∷ snaps) o read = absurd (cc o)

reads_numbered : {at : ℕ → Option (List Snap)} {start : Awaits} {first : ℕ} {w : Awaits} {n : ℕ} → Kept at first true → first < n → Reads at start first n w → IsNumbered w
reads_numbered kept above (begins_at here same) = absurd (omega arith)
reads_numbered {at} {start} {first} {w} {n} kept above (reads_on before v snaps r is read not next) =
    elim (compare first before) [
      | inl more ↦ (let i = reads_numbered kept more r in record { number = i.number; is = number_stays v w i.number snaps i.is read })
      | inr (inl less) ↦ (let h = reads_above r in absurd (omega arith))
      | inr (inr same) ↦ opened_number v w snaps (ap opens (some_one (sym is ∙ ap at (sym same) ∙ kept.1)) ∙ kept.2) read
    ]

-- none of those that were read opens a cycle but the first
pub reads_between : {at : ℕ → Option (List Snap)} {start : Awaits} {first : ℕ} {w : Awaits} {n : ℕ} → Kept at first true → Reads at start first n w → (k : ℕ) → first < k → k < n → Kept at k false
reads_between kept (begins_at here same) k above below = absurd (omega arith)
reads_between {at} {start} {first} {w} {n} kept (reads_on before v snaps r is read not next) k above below =
    elim (compare k before) [
      | inl less ↦ reads_between kept r k above less
      | inr (inl more) ↦ absurd (omega arith)
      | inr (inr same) ↦ (let above' : first < before = omega arith in let i = reads_numbered kept above' r in subst (λ x. Kept at x false) (sym same) (snaps, is, opens_none v w i.number snaps i.is read))
    ]

pub reads_nearest : {at : ℕ → Option (List Snap)} {start : Awaits} {first : ℕ} {w : Awaits} {n i : ℕ} → Kept at first true → Reads at start first n w → first ≤ i → i < n → Nearest at i first
reads_nearest kept r from below = record { from = from; begins = kept; between = λ k above upto. reads_between kept r k above (omega arith) }

lt_tells : (a b : ℕ) → ((nat_lt a b ≡ true) × (a < b)) ⊎ (nat_lt a b ≡ false)
lt_tells a b = grind (arith, nat_tests)

pub read_nearest : {at : ℕ → Option (List Snap)} {start : Awaits} {first : ℕ} {w : Awaits} {n i : ℕ} → Kept at first true → Reads at start first n w → first ≤ i → OnTrue (nat_lt i n) (Nearest at i first)
read_nearest {n = n} {i = i} kept r from = elim (lt_tells i n) [ inl less ↦ rw less.0 (reads_nearest kept r from less.1) | inr not ↦ rw not tt ]

-- the nearest of a number is that of a higher one, where none between opens a cycle
pub nearest_join : (at : ℕ → Option (List Snap)) (n i p : ℕ) → n ≤ i → ((k : ℕ) → n < k → k ≤ i → Kept at k false) → Nearest at n p → Nearest at i p
nearest_join at n i p low between near = record {
  from = (let f = near.from in omega arith);
  begins = near.begins;
  between = λ k above upto. elim (compare n k) [
    | inl over ↦ between k over upto
    | inr (inl under) ↦ near.between k above (omega arith)
    | inr (inr same) ↦ near.between k above (omega arith)
  ];
}

-- two numbers that are held at one place are one
same_place : (store : Store) (a b : ℕ) (xs ys : List ℕ) → held store a ≡ Some xs → held store b ≡ Some ys → a % store.terms.listing.packets ≡ b % store.terms.listing.packets → a ≡ b
unfolding held
same_place store a b xs ys at_a at_b same =
    let sa = held_stands store.terms.listing.packets store.highest store.ring a xs at_a in
    let sb = held_stands store.terms.listing.packets store.highest store.ring b ys at_b in
    sym sa.number ∙ ap (λ k. (get_or store.ring k free).0) same ∙ sb.number

-- what is seen is held
pub seen_held : (store : Store) (n : ℕ) (snaps : List Snap) → seen store n ≡ Some snaps → (bytes : List ℕ) × (held store n ≡ Some bytes)
seen_held store n snaps is = elim (none_or (held store n)) [ inl none ↦ absurd (let no : None ≡ Some snaps = rw none at is in cc no) | inr some ↦ some ]

-- better knowledge of one datagram
pub remembers_more : (store : Store) (places : List Progress) (n : ℕ) (progress : Progress) → 0 < store.terms.listing.packets → AreRemembered store places → IsProgress store n progress
    → AreRemembered store (set places (n % store.terms.listing.packets) progress)
remembers_more store places n progress some all is = record {
  many = length-set places (n % store.terms.listing.packets) progress ∙ all.many;
  each = λ k bytes at. elim (same_or (k % store.terms.listing.packets) (n % store.terms.listing.packets)) [
    | inl same ↦ (
        let there = seen_held store n is.opens.0 is.opens.1 in
        let one : k ≡ n = same_place store k n bytes there.0 at there.1 same in
        let e : get_or (set places (n % store.terms.listing.packets) progress) (k % store.terms.listing.packets) blank ≡ progress =
        ap (λ i. get_or (set places (n % store.terms.listing.packets) progress) i blank) same
        ∙ get_or-set_same places (n % store.terms.listing.packets) progress blank (let m = all.many in omega arith) in
        subst (λ x. IsProgress store k x) (sym e) (subst (λ j. IsProgress store j progress) (sym one) is)
        )
    | inr other ↦ subst (λ x. IsProgress store k x) (sym (get_or-set_other places (n % store.terms.listing.packets) (k % store.terms.listing.packets) progress blank other)) (all.each k bytes at)
  ];
}

abbrev pub stored : Terms → ℕ → List (ℕ × List ℕ) → Store
stored terms high ring = record { terms = terms; highest = high; ring = ring }

stays_seen : (terms : Terms) (low high i : ℕ) (ring after : List (ℕ × List ℕ)) (taken : List ℕ) → Takes i taken (stored terms low ring) (stored terms high after)
    → (k : ℕ) (snaps : List Snap) → high < k + terms.listing.packets → seen (stored terms low ring) k ≡ Some snaps → seen (stored terms high after) k ≡ Some snaps
stays_seen terms low high i ring after taken t k snaps from seen_then =
    let h = seen_held (stored terms low ring) k snaps seen_then in
    let e : held (stored terms high after) k ≡ held (stored terms low ring) k =
    t.kept k from ∙ ap (λ o. or_else o (if eqb i k then Some taken else None)) h.1 ∙ sym h.1 in
    ap (λ o. option_map (snaps_of terms.layouts) o) e ∙ seen_then

-- so does the row before it
row_still : (terms : Terms) (low high i : ℕ) (ring after : List (ℕ × List ℕ)) (taken : List ℕ) → Takes i taken (stored terms low ring) (stored terms high after)
    → (n back : ℕ) → IsRow (stored terms low ring) n back → IsRow (stored terms high after) n back
row_still terms low high i ring after taken t n back row = λ k over under near.
    let kept = row k over under (let h = t.highest in omega arith) in
    (kept.0, stays_seen terms low high i ring after taken t k kept.0 near kept.1, kept.2)

-- what is remembered of a datagram stays so while it is held
still : (terms : Terms) (low high i : ℕ) (ring after : List (ℕ × List ℕ)) (taken : List ℕ) → Takes i taken (stored terms low ring) (stored terms high after)
    → (n : ℕ) (bytes : List ℕ) → held (stored terms high after) n ≡ Some bytes → (progress : Progress) → IsProgress (stored terms low ring) n progress → IsProgress (stored terms high after) n progress
still terms low high i ring after taken t n bytes at progress is =
    let near = t.near n bytes at in
    record {
      opens = (is.opens.0, stays_seen terms low high i ring after taken t n is.opens.0 near is.opens.1, is.opens.2);
      reads = reads_same (λ k snaps from. stays_seen terms low high i ring after taken t k snaps (omega arith)) is.reads;
      row = row_still terms low high i ring after taken t n progress.back is.row;
    }

-- a ring of which the highest number rises
pub ring_same : (terms : Terms) (low i : ℕ) (ring : List (ℕ × List ℕ)) → i < 4294967295 → IsRing (stored terms low ring) → IsRing (stored terms (max i low) ring)
ring_same terms low i ring room inside = record {
  some = inside.some;
  top = (let t = inside.top in omega arith);
  full = inside.full;
  below = λ place. (let b = inside.below place in omega arith);
  sound = inside.sound;
}

-- a ring that keeps a datagram more
pub ring_new : (terms : Terms) (low i : ℕ) (ring : List (ℕ × List ℕ)) (bytes : List ℕ) → IsRing (stored terms low ring) → 0 < i → i < 4294967295 → IsNew (stored terms low ring) i → IsSnapDatagram terms bytes
    → IsRing (stored terms (max i low) (set ring (i % terms.listing.packets) (i, bytes)))
ring_new terms low i ring bytes inside some room new fine =
    let i_near : max i low < i + terms.listing.packets = (let n = new.0 in let p = inside.some in omega arith) in
    record {
      some = inside.some;
      top = (let t = inside.top in omega arith);
      full = length-set ring (i % terms.listing.packets) (i, bytes) ∙ inside.full;
      below = now_below terms.listing.packets low ring inside.below inside.some inside.full i bytes some i_near;
      sound = λ place there. elim (same_or place (i % terms.listing.packets)) [
        | inl same ↦ (let e : get_or (set ring (i % terms.listing.packets) (i, bytes)) place free ≡ (i, bytes) =
            ap (λ k. get_or (set ring (i % terms.listing.packets) (i, bytes)) k free) same
            ∙ get_or-set_same ring (i % terms.listing.packets) (i, bytes) free (let f = inside.full in let p = inside.some in omega arith) in
            subst (λ x. IsSnapDatagram terms x.1) (sym e) fine)
        | inr other ↦ (let e = get_or-set_other ring (i % terms.listing.packets) place (i, bytes) free other in
            subst (λ x. IsSnapDatagram terms x.1) (sym e) (inside.sound place (subst (λ x. 0 < x.0) e there)))
      ];
    }

-- a take that keeps nothing
pub remembers_same : (terms : Terms) (low i : ℕ) (ring : List (ℕ × List ℕ)) (bytes : List ℕ) (places : List Progress) → IsRing (stored terms low ring) → 0 < i → (IsNew (stored terms low ring) i → ⊥)
    → AreRemembered (stored terms low ring) places → AreRemembered (stored terms (max i low) ring) places
unfolding held
remembers_same terms low i ring bytes places inside some old all =
    let t = takes_same terms low i ring bytes inside some old in
    record {
      many = all.many;
      each = λ n xs at. (
          let near = (held_stands terms.listing.packets (max i low) ring n xs at).near in
          let before = sym (rises terms.listing.packets low ring inside.below (max i low) n (omega arith) near) ∙ at in
          still terms low (max i low) i ring ring bytes t n xs at (get_or places (n % terms.listing.packets) blank) (all.each n xs before)
          );
    }

-- a take that keeps the datagram
pub remembers_new : (terms : Terms) (low i : ℕ) (ring : List (ℕ × List ℕ)) (bytes : List ℕ) (places : List Progress) (does : Bool) (back : ℕ) → IsRing (stored terms low ring) → 0 < i → IsNew (stored terms low ring) i
    → does ≡ opens (snaps_of terms.layouts bytes) → IsRow (stored terms low ring) i back → AreRemembered (stored terms low ring) places
    → AreRemembered (stored terms (max i low) (set ring (i % terms.listing.packets) (i, bytes))) (set places (i % terms.listing.packets) (record { opens = does; next = i; awaited = fresh terms.listing.securities; back = back }))
unfolding held
remembers_new terms low i ring bytes places does back inside some new does_is row all =
    let packets = terms.listing.packets in
    let now = stored terms (max i low) (set ring (i % terms.listing.packets) (i, bytes)) in
    let mine : Progress = record { opens = does; next = i; awaited = fresh terms.listing.securities; back = back } in
    let t = takes_new terms low i ring bytes inside some new in
    let i_near : max i low < i + terms.listing.packets = (let n = new.0 in let p = inside.some in omega arith) in
    let here : held now i ≡ Some bytes = now_same terms.listing.packets low ring inside.below inside.some inside.full i bytes some i_near in
    record {
      many = length-set places (i % terms.listing.packets) mine ∙ all.many;
      each = λ n xs at. elim (same_or (n % terms.listing.packets) (i % terms.listing.packets)) [
        | inl same ↦ (
            let one : n ≡ i = same_place now n i xs bytes at here same in
            let e : get_or (set places (i % terms.listing.packets) mine) (n % terms.listing.packets) blank ≡ mine =
            ap (λ k. get_or (set places (i % terms.listing.packets) mine) k blank) same
            ∙ get_or-set_same places (i % terms.listing.packets) mine blank (let m = all.many in let p = inside.some in omega arith) in
            let is : IsProgress now i mine = record { opens = (snaps_of terms.layouts bytes, ap (λ o. option_map (snaps_of terms.layouts) o) here, sym does_is); reads = begins_at refl refl; row = row_still terms low (max i low) i ring (set ring (i % terms.listing.packets) (i, bytes)) bytes t i back row } in
            subst (λ x. IsProgress now n x) (sym e) (subst (λ j. IsProgress now j mine) (sym one) is)
            )
        | inr other ↦ (
            let near = (held_stands terms.listing.packets (max i low) (set ring (i % terms.listing.packets) (i, bytes)) n xs at).near in
            let before : held (stored terms low ring) n ≡ Some xs =
            sym (now_held terms.listing.packets low ring inside.below inside.some inside.full i bytes some i_near n near (λ e. other (ap (λ k. k % terms.listing.packets) e))) ∙ at in
            let is = still terms low (max i low) i ring (set ring (i % terms.listing.packets) (i, bytes)) bytes t n xs at (get_or places (n % terms.listing.packets) blank) (all.each n xs before) in
            subst (λ x. IsProgress now n x) (sym (get_or-set_other places (i % terms.listing.packets) (n % terms.listing.packets) mine blank other)) is
            )
      ];
    }

-- where nothing is held, nothing is remembered
pub remembers_none : (store : Store) (places : List Progress) → length places ≡ store.terms.listing.packets → ((n : ℕ) → held store n ≡ None) → AreRemembered store places
remembers_none store places many none = record { many = many; each = λ n bytes at. absurd (is_not_none at (none n)) }
