-- What a ring keeps under each number.
use Rattle.std.proofs.Common.{◌≡◌, ◌≢◌, ℕ, zero, suc, ◌+◌, ◌*◌, ◌/◌, ◌%◌, ◌-◌, ◌<◌, ◌≤◌, max, ◌⊎◌, inl, inr, List, [], ◌∷◌, ◌++◌, length, get_or, set, take, Option, Some, None, true, false, refl, sym, ap, ◌∙◌, arith, add-zero, length-set, get_or-set_same, get_or-set_other}
use Rattle.std.proofs.lemmas.Bool.Decides.{eqb_tells, nat_tests}
use Rattle.std.proofs.Math.Nat.{mul-le-mul_left}
use Rattle.std.specs.Prelude.{is_some, nat_lt, replicate}
use Rattle.t7_base.specs.declared.public.Public.{Public}
use Rattle.t7_lines.specs.Gap.{kept_at}
use Rattle.t7_lines.specs.Puts.{Puts, TakesOff}
use Rattle.t7_lines.specs.declared.put.Put.TheVariants.{New, Old, Outside}
use Rattle.t7_lines.specs.Ring.{IsPlaced, entries, said_at}

abbrev pub Entry : Type 0
Entry = Option (ℕ × Public)

abbrev pub no_entry : Entry
no_entry = None

-- a number is in the window below the highest, or not
pub near_tells : (window highest number : ℕ) → ((nat_lt highest (number + window) ≡ true) × (highest < number + window))
    ⊎ ((nat_lt highest (number + window) ≡ false) × (number + window ≤ highest))
near_tells window highest number = grind (arith, nat_tests)

pub same_or : (a b : ℕ) → (a ≡ b) ⊎ (a ≡ b → ⊥)
same_or a b = grind arith

pub near_or : (window highest number : ℕ) → (highest < number + window) ⊎ (number + window ≤ highest)
near_or window highest number = grind arith

pub below_or : (a b : ℕ) → (a < b) ⊎ (b ≤ a)
below_or a b = grind arith

pub compare : (a b : ℕ) → (a < b) ⊎ ((b < a) ⊎ (a ≡ b))
compare a b = grind arith

-- two numbers at one place are a window apart
pub two : (a b : ℕ) → (b ≤ a) ⊎ (a + 1 ≤ b)
two a b = grind arith

pub apart : (window a b : ℕ) → 0 < window → a % window ≡ b % window → a < b → a + window ≤ b
apart window a b some same less =
    elim (two (a / window) (b / window)) [
      | inl low ↦ (let h : window * (b / window) ≤ window * (a / window) = mul-le-mul_left window low in absurd (omega arith))
      | inr high ↦ (let h : window * (a / window + 1) ≤ window * (b / window) = mul-le-mul_left window high in omega arith)
    ]

-- one entry before others
pub entry_first : (number k : ℕ) (message : Public) (rest : List (ℕ × Public)) → number ≡ k → kept_at ((number, message) ∷ rest) k ≡ Some message
entry_first number k message rest same = elim (eqb_tells number k) [ inl e ↦ rw e.0 refl | inr o ↦ absurd (o.1 same) ]

pub entry_other : (number k : ℕ) (message : Public) (rest : List (ℕ × Public)) → (number ≡ k → ⊥) → kept_at ((number, message) ∷ rest) k ≡ kept_at rest k
entry_other number k message rest other = elim (eqb_tells number k) [ inl e ↦ absurd (other e.1) | inr o ↦ rw o.0 refl ]

pub said_same : (kept : ℕ × Public) (k : ℕ) → kept.0 ≡ k → said_at (Some kept) k ≡ Some kept.1
said_same kept k same = elim (eqb_tells kept.0 k) [ inl e ↦ rw e.0 refl | inr o ↦ absurd (o.1 same) ]

pub said_other : (kept : ℕ × Public) (k : ℕ) → (kept.0 ≡ k → ⊥) → said_at (Some kept) k ≡ None
said_other kept k other = elim (eqb_tells kept.0 k) [ inl e ↦ absurd (other e.1) | inr o ↦ rw o.0 refl ]

-- a number outside the window isn't kept
pub kept_far : (window highest k : ℕ) (places : List Entry) → k + window ≤ highest → kept_at (entries window highest places) k ≡ None
kept_far window highest k [] far = refl
kept_far window highest k (None ∷ places) far = kept_far window highest k places far
kept_far window highest k (Some kept ∷ places) far =
    elim (near_tells window highest kept.0) [
      | inl n ↦ rw n.0 (entry_other kept.0 k kept.1 (entries window highest places) (λ same. (let h = n.1 in omega arith)) ∙ kept_far window highest k places far)
      | inr n ↦ rw n.0 (kept_far window highest k places far)
    ]

-- a number whose place is before these isn't among them
pub kept_before : (window highest top b k : ℕ) (places : List Entry) → IsPlaced window top b places → k % window < b → kept_at (entries window highest places) k ≡ None
kept_before window highest top b k [] placed before = refl
kept_before window highest top b k (None ∷ places) placed before = kept_before window highest top (b + 1) k places placed (omega arith)
kept_before window highest top b k (Some kept ∷ places) placed before =
    let rest = kept_before window highest top (b + 1) k places placed.2 (omega arith) in
    let at = placed.0 in
    let other : kept.0 ≡ k → ⊥ = λ same. (let e : kept.0 % window ≡ k % window = ap (λ n. n % window) same in omega arith) in
    elim (near_tells window highest kept.0) [
      | inl n ↦ rw n.0 (entry_other kept.0 k kept.1 (entries window highest places) other ∙ rest)
      | inr n ↦ rw n.0 rest
    ]

-- in the window, what is kept under a number is what stands at its place
pub kept_here : (window highest top b k place : ℕ) (places : List Entry) → IsPlaced window top b places → place < length places → k % window ≡ b + place → highest < k + window →
    kept_at (entries window highest places) k ≡ said_at (get_or places place None) k
kept_here window highest top b k place [] placed below is near = absurd (omega arith)
kept_here window highest top b k zero (None ∷ places) placed below is near = kept_before window highest top (b + 1) k places placed (omega arith)
kept_here window highest top b k zero (Some kept ∷ places) placed below is near =
    elim (same_or kept.0 k) [
      | inl same ↦ elim (near_tells window highest kept.0) [
        | inl n ↦ rw n.0 (entry_first kept.0 k kept.1 (entries window highest places) same ∙ sym (said_same kept k same))
        | inr n ↦ absurd (let h = n.1 in omega arith)
      ]
      | inr other ↦
          (let rest = kept_before window highest top (b + 1) k places placed.2 (omega arith) in
          elim (near_tells window highest kept.0) [
            | inl n ↦ rw n.0 (entry_other kept.0 k kept.1 (entries window highest places) other ∙ rest ∙ sym (said_other kept k other))
            | inr n ↦ rw n.0 (rest ∙ sym (said_other kept k other))
          ])
    ]
kept_here window highest top b k (suc place) (None ∷ places) placed below is near = kept_here window highest top (b + 1) k place places placed (omega arith) (omega arith) near
kept_here window highest top b k (suc place) (Some kept ∷ places) placed below is near =
    let rest = kept_here window highest top (b + 1) k place places placed.2 (omega arith) (omega arith) near in
    let at = placed.0 in
    let other : kept.0 ≡ k → ⊥ = λ same. (let e : kept.0 % window ≡ k % window = ap (λ n. n % window) same in omega arith) in
    elim (near_tells window highest kept.0) [
      | inl n ↦ rw n.0 (entry_other kept.0 k kept.1 (entries window highest places) other ∙ rest)
      | inr n ↦ rw n.0 rest
    ]

-- the highest number may rise
pub placed_rises : (window low high b : ℕ) (places : List Entry) → low ≤ high → IsPlaced window low b places → IsPlaced window high b places
placed_rises window low high b [] up placed = tt
placed_rises window low high b (None ∷ places) up placed = placed_rises window low high (b + 1) places up placed
placed_rises window low high b (Some kept ∷ places) up placed = (placed.0, (let h = placed.1 in omega arith), placed_rises window low high (b + 1) places up placed.2)

-- a place is free again
pub placed_free : (window high b place : ℕ) (places : List Entry) → IsPlaced window high b places → IsPlaced window high b (set places place None)
placed_free window high b place [] placed = tt
placed_free window high b zero (None ∷ places) placed = placed
placed_free window high b zero (Some kept ∷ places) placed = placed.2
placed_free window high b (suc place) (None ∷ places) placed = placed_free window high (b + 1) place places placed
placed_free window high b (suc place) (Some kept ∷ places) placed = (placed.0, placed.1, placed_free window high (b + 1) place places placed.2)

-- a message comes to stand at its place
pub placed_set : (window high b place : ℕ) (new : ℕ × Public) (places : List Entry) → new.0 % window ≡ b + place → new.0 ≤ high → IsPlaced window high b places → IsPlaced window high b (set places place (Some new))
placed_set window high b place new [] is top placed = tt
placed_set window high b zero new (None ∷ places) is top placed = (rw add-zero at is, top, placed)
placed_set window high b zero new (Some kept ∷ places) is top placed = (rw add-zero at is, top, placed.2)
placed_set window high b (suc place) new (None ∷ places) is top placed = placed_set window high (b + 1) place new places (omega arith) top placed
placed_set window high b (suc place) new (Some kept ∷ places) is top placed = (placed.0, placed.1, placed_set window high (b + 1) place new places (omega arith) top placed.2)

-- what stands at a place is of that place, and its number isn't above the highest
pub record Sits (window high place : ℕ) (kept : ℕ × Public) : Type 0 where
  pub is : kept.0 % window ≡ place
  pub top : kept.0 ≤ high

pub sits_at : (window high b place : ℕ) (places : List Entry) (kept : ℕ × Public) → IsPlaced window high b places → get_or places place None ≡ Some kept → Sits window high (b + place) kept
sits_at window high b place [] kept placed at = absurd (cc at)
sits_at window high b zero (None ∷ places) kept placed at = absurd (cc at)
sits_at window high b zero (Some here ∷ places) kept placed at =
    let same : here ≡ kept = cc at in
    let is = placed.0 in
    let top = placed.1 in
    record { is = rw (add-zero, ← same) is; top = rw (← same) top }
sits_at window high b (suc place) (None ∷ places) kept placed at = let s = sits_at window high (b + 1) place places kept placed at in let e = s.is in record { is = omega arith; top = s.top }
sits_at window high b (suc place) (Some here ∷ places) kept placed at = let s = sits_at window high (b + 1) place places kept placed.2 at in let e = s.is in record { is = omega arith; top = s.top }

-- a number above the highest isn't kept
pub kept_above : (window highest top b k : ℕ) (places : List Entry) → IsPlaced window top b places → top < k → kept_at (entries window highest places) k ≡ None
kept_above window highest top b k [] placed above = refl
kept_above window highest top b k (None ∷ places) placed above = kept_above window highest top (b + 1) k places placed above
kept_above window highest top b k (Some kept ∷ places) placed above =
    let rest = kept_above window highest top (b + 1) k places placed.2 above in
    let h = placed.1 in
    elim (near_tells window highest kept.0) [
      | inl n ↦ rw n.0 (entry_other kept.0 k kept.1 (entries window highest places) (λ same. omega arith) ∙ rest)
      | inr n ↦ rw n.0 rest
    ]

-- another number of the same place doesn't stand there, where both are in the window
pub other_there : (window low high k i : ℕ) (found : Entry) (places : List Entry) → 0 < window → IsPlaced window low 0 places → k ≤ high → low ≤ high → i ≢ k → i % window ≡ k % window → high < i + window →
    high < k + window → get_or places (k % window) None ≡ found → said_at found i ≡ None
other_there window low high k i None places some placed top up other same near k_near at = refl
other_there window low high k i (Some kept) places some placed top up other same near k_near at =
    elim (same_or kept.0 i) [
      | inr o ↦ said_other kept i o
      | inl e ↦ absurd (let s = sits_at window low 0 (k % window) places kept placed at in
          let t = s.top in
          elim (compare i k) [
            | inl less ↦ (let h = apart window i k some same less in omega arith)
            | inr (inl more) ↦ (let h = apart window k i some (sym same) more in omega arith)
            | inr (inr is) ↦ other is
          ])
    ]

-- a ring before message k is put, and the highest number after it
module _ (window low k : ℕ) (places : List Entry) (full : length places ≡ window) (placed : IsPlaced window low 0 places) where
  abbrev pub high : ℕ
  high = max k low

  -- at a number in the window, what is kept is what stands at its place
  pub kept_is : (i : ℕ) → high < i + window → i ≤ high → kept_at (entries window high places) i ≡ said_at (get_or places (i % window) None) i
  kept_is i near top = kept_here window high low 0 i (i % window) places placed (omega arith) (omega arith) near

  pub kept_was : (i : ℕ) → low < i + window → 0 < window → kept_at (entries window low places) i ≡ said_at (get_or places (i % window) None) i
  kept_was i near some = kept_here window low low 0 i (i % window) places placed (omega arith) (omega arith) near

  -- the rise of the highest number alone drops what falls out of the window
  pub rise_same : (i : ℕ) → high < i + window → kept_at (entries window high places) i ≡ kept_at (entries window low places) i
  rise_same i near =
      elim (below_or high i) [
        | inl above ↦ kept_above window high low 0 i places placed (omega arith) ∙ sym (kept_above window low low 0 i places placed (omega arith))
        | inr top ↦ kept_is i near (omega arith) ∙ sym (kept_was i (omega arith) (omega arith))
      ]

  -- a number outside the window isn't kept before either
  pub far_was : k + window ≤ high → kept_at (entries window low places) k ≡ None
  far_was far =
      elim (below_or low k) [
        | inr top ↦ kept_far window low k places (omega arith)
        | inl above ↦ kept_above window low low 0 k places placed (omega arith)
      ]

  pub same_this : kept_at (entries window high places) k ≡ kept_at (entries window low places) k
  same_this =
      elim (near_or window high k) [
        | inl near ↦ rise_same k near
        | inr far ↦ kept_far window high k places far ∙ sym (far_was far)
      ]

  pub puts_old : (said : Public) → Puts Old window high k said (entries window low places) (entries window high places)
  puts_old said = record { dropped = λ i far. kept_far window high i places far; others = λ i other near. rise_same i near; this = same_this }

  pub puts_outside : (said : Public) → k + window ≤ high → Puts Outside window high k said (entries window low places) (entries window high places)
  puts_outside said far = record { dropped = λ i gone. kept_far window high i places gone; others = λ i other near. rise_same i near; this = kept_far window high k places far }

  -- the message comes to stand at its place
  module _ (said : Public) (near : high < k + window) where
    abbrev pub new_kept : ℕ × Public
    new_kept = (k, said)

    pub now_placed : IsPlaced window high 0 (set places (k % window) (Some new_kept))
    now_placed = placed_set window high 0 (k % window) new_kept places (omega arith) (omega arith) (placed_rises window low high 0 places (omega arith) placed)

    pub now_is : (i : ℕ) → high < i + window → kept_at (entries window high (set places (k % window) (Some new_kept))) i ≡ said_at (get_or (set places (k % window) (Some new_kept)) (i % window) None) i
    now_is i i_near = kept_here window high high 0 i (i % window) (set places (k % window) (Some new_kept)) now_placed (rw length-set (omega arith)) (omega arith) i_near

    pub now_same : get_or (set places (k % window) (Some new_kept)) (k % window) None ≡ Some new_kept
    now_same = get_or-set_same places (k % window) (Some new_kept) None (omega arith)

    pub now_others : (i : ℕ) → i ≢ k → high < i + window → kept_at (entries window high (set places (k % window) (Some new_kept))) i ≡ kept_at (entries window low places) i
    now_others i other i_near =
        elim (same_or (i % window) (k % window)) [
          | inl e ↦ now_is i i_near ∙ ap (λ x. said_at (get_or (set places (k % window) (Some new_kept)) x None) i) e ∙ ap (λ x. said_at x i) now_same ∙ said_other new_kept i (λ same. other (sym same))
              ∙ sym (kept_was i (omega arith) (omega arith) ∙ ap (λ x. said_at (get_or places x None) i) e
              ∙ other_there window low high k i (get_or places (k % window) None) places (omega arith) placed (omega arith) (omega arith) other e i_near near refl)
          | inr o ↦ now_is i i_near ∙ ap (λ x. said_at x i) (get_or-set_other places (k % window) (i % window) (Some new_kept) None o) ∙ sym (kept_was i (omega arith) (omega arith))
        ]

    pub puts_new : Puts New window high k said (entries window low places) (entries window high (set places (k % window) (Some new_kept)))
    puts_new = record {
      dropped = λ i far. kept_far window high i (set places (k % window) (Some new_kept)) far;
      others = now_others;
      this = now_is k near ∙ ap (λ x. said_at x k) now_same ∙ said_same new_kept k refl;
    }

-- a message is taken off its place
module _ (window high k : ℕ) (message : Public) (places : List Entry) (full : length places ≡ window) (placed : IsPlaced window high 0 places) (top : k ≤ high) (near : high < k + window)
    (at : said_at (get_or places (k % window) None) k ≡ Some message) where
  pub freed_placed : IsPlaced window high 0 (set places (k % window) None)
  freed_placed = placed_free window high 0 (k % window) places placed

  pub freed_is : (i : ℕ) → high < i + window → kept_at (entries window high (set places (k % window) None)) i ≡ said_at (get_or (set places (k % window) None) (i % window) None) i
  freed_is i i_near = kept_here window high high 0 i (i % window) (set places (k % window) None) freed_placed (rw length-set (omega arith)) (omega arith) i_near

  pub freed_same : get_or (set places (k % window) None) (k % window) None ≡ None
  freed_same = get_or-set_same places (k % window) None None (omega arith)

  pub freed_was : (i : ℕ) → high < i + window → kept_at (entries window high places) i ≡ said_at (get_or places (i % window) None) i
  freed_was i i_near = kept_here window high high 0 i (i % window) places placed (omega arith) (omega arith) i_near

  pub freed_others : (i : ℕ) → i ≢ k → kept_at (entries window high (set places (k % window) None)) i ≡ kept_at (entries window high places) i
  freed_others i other =
      elim (near_or window high i) [
        | inr far ↦ kept_far window high i (set places (k % window) None) far ∙ sym (kept_far window high i places far)
        | inl i_near ↦
            elim (same_or (i % window) (k % window)) [
              | inl e ↦ freed_is i i_near ∙ ap (λ x. said_at (get_or (set places (k % window) None) x None) i) e ∙ ap (λ x. said_at x i) freed_same
                  ∙ sym (freed_was i i_near ∙ ap (λ x. said_at (get_or places x None) i) e
                  ∙ other_there window high high k i (get_or places (k % window) None) places (omega arith) placed top (omega arith) other e i_near near refl)
              | inr o ↦ freed_is i i_near ∙ ap (λ x. said_at x i) (get_or-set_other places (k % window) (i % window) None None o) ∙ sym (freed_was i i_near)
            ]
      ]

  pub takes_off : TakesOff k (entries window high places) (entries window high (set places (k % window) None))
  takes_off = record { gone = freed_is k near ∙ ap (λ x. said_at x k) freed_same; others = freed_others }

-- nothing is taken off where nothing is kept
pub takes_none : (k : ℕ) (kept : List (ℕ × Public)) → kept_at kept k ≡ None → TakesOff k kept kept
takes_none k kept none = record { gone = none; others = λ i other. refl }

-- whether a message was found
pub is_found : (found : Option Public) → is_some found ≡ true → (said : Public) × (found ≡ Some said)
is_found None h = absurd (cc h)
is_found (Some said) h = (said, refl)

pub is_missing : (found : Option Public) → is_some found ≡ false → found ≡ None
is_missing None h = refl
is_missing (Some said) h = absurd (cc h)

pub get_or_any : (places : List Entry) (i : ℕ) (d e : Entry) → i < length places → get_or places i d ≡ get_or places i e
get_or_any [] i d e below = absurd (omega arith)
get_or_any (place ∷ places) zero d e below = refl
get_or_any (place ∷ places) (suc i) d e below = get_or_any places i d e (omega arith)

-- what an index reads, with any default
pub read_at : (i : ℕ) (places : List Entry) (read : Entry) → i < length places → read ≡ get_or places i read → get_or places i None ≡ read
read_at i places read below is = get_or_any places i None read below ∙ sym is

-- what is kept under a number in the window is what its place was read for
pub was_found : (window low k : ℕ) (places : List Entry) → length places ≡ window → IsPlaced window low 0 places → (read : Entry) (found : Option Public) → max k low < k + window →
    read ≡ get_or places (k % window) read → found ≡ said_at read k → kept_at (entries window low places) k ≡ found
was_found window low k places full placed read found near is said =
    kept_was window low k places full placed k (omega arith) (omega arith) ∙ ap (λ x. said_at x k) (read_at (k % window) places read (omega arith) is) ∙ sym said

-- there are at most as many entries as places
pub few_entries : (window highest : ℕ) (places : List Entry) → length (entries window highest places) ≤ length places
few_entries window highest [] = omega arith
few_entries window highest (None ∷ places) = let h = few_entries window highest places in omega arith
few_entries window highest (Some kept ∷ places) =
    let h = few_entries window highest places in
    elim (near_tells window highest kept.0) [ inl n ↦ rw n.0 (omega arith) | inr n ↦ rw n.0 (omega arith) ]

-- free places keep nothing, wherever they stand
pub free_placed : (window top b count : ℕ) → IsPlaced window top b (replicate count None)
free_placed window top b zero = tt
free_placed window top b (suc count) = free_placed window top (b + 1) count

pub free_entries : (window highest count : ℕ) → entries window highest (replicate count None) ≡ []
free_entries window highest zero = refl
free_entries window highest (suc count) = free_entries window highest count

-- as many free places as there are to be, where there were none
abbrev pub no_places : List Entry
no_places = []

pub take_none : (count : ℕ) → take count no_places ≡ no_places
take_none zero = refl
take_none (suc count) = refl

pub free_ring : (count had : ℕ) (places old : List Entry) → old ≡ [] → had ≡ 0 → places ≡ take count old ++ replicate (count - had) None → places ≡ replicate count None
free_ring count had places old none zero_had is =
    let left : count - had ≡ count = omega arith in
    is ∙ ap (λ x. take count x ++ replicate (count - had) None) none ∙ ap (λ x. x ++ replicate (count - had) None) (take_none count) ∙ ap (λ x. replicate x None) left

-- outside the window, or above the highest number, nothing is kept
pub not_within : (window high k : ℕ) (places : List Entry) → IsPlaced window high 0 places → ((k ≤ high) × (high < k + window) → ⊥) → kept_at (entries window high places) k ≡ None
not_within window high k places placed out =
    elim (below_or high k) [
      | inl above ↦ kept_above window high high 0 k places placed above
      | inr top ↦ elim (near_or window high k) [
        | inl near ↦ absurd (out (top, near))
        | inr far ↦ kept_far window high k places far
      ]
    ]

-- in the window, what is kept is what its place was read for
pub was_read : (window high k : ℕ) (places : List Entry) → length places ≡ window → IsPlaced window high 0 places → (read : Entry) → (k ≤ high) × (high < k + window) →
    read ≡ get_or places (k % window) read → kept_at (entries window high places) k ≡ said_at read k
was_read window high k places full placed read within is =
    let top = within.0 in let near = within.1 in
    kept_here window high high 0 k (k % window) places placed (omega arith) (omega arith) near ∙ ap (λ x. said_at x k) (read_at (k % window) places read (omega arith) is)

-- what the place was read for is what stands there
pub stands_read : (window k : ℕ) (places : List Entry) → length places ≡ window → 0 < window → (read : Entry) (message : Public) →
    read ≡ get_or places (k % window) read → Some message ≡ said_at read k → said_at (get_or places (k % window) None) k ≡ Some message
stands_read window k places full some read message is said = ap (λ x. said_at x k) (read_at (k % window) places read (omega arith) is) ∙ sym said
