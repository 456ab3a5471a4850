-- The last order of the book.
use Rattle.std.proofs.Common.{◌≡◌, ℕ, ℤ, ◌+◌, ◌<◌, List, [], ◌∷◌, ◌++◌, length, get_or, Some, None, refl, sym, ap, ◌∙◌, arith}
use Rattle.std.proofs.lemmas.List.{append_assoc, append-nil}
use Rattle.std.proofs.lemmas.List.Concat.{flat_map-append}
use Rattle.t7_lists.specs.declared.place.LinkEnd.TheVariants.{Slot, Head}
use Rattle.t7_lists.specs.Paths.{last_or}
use Rattle.t7_levels.specs.declared.key.LevelKey.{LevelKey}
use Rattle.t7_levels.specs.Chain.{Each, slots, Ahead}
use Rattle.t7_levels.specs.Named.{last_entry}
use Rattle.t7_levels.specs.Ladder.{Among, book, IsRow}
use Rattle.t7_levels.proofs.EachLemmas.{Each-back}

pub last_cut : {X : Type 0} (xs : List X) (x : X) → Some x ≡ last_entry xs → (front : List X) × (xs ≡ front ++ x ∷ [])
last_cut [] x is = absurd (cc)
last_cut (y ∷ []) x is =
    let same : x ≡ y = cc in
    ([], ap (λ z. z ∷ []) (sym same))
last_cut (y ∷ z ∷ zs) x is =
    let rest = last_cut (z ∷ zs) x is in
    (y ∷ rest.0, ap (λ us. y ∷ us) rest.1)

pub no_last : {X : Type 0} (xs : List X) → None ≡ last_entry xs → xs ≡ []
no_last [] is = refl
no_last (y ∷ []) is = absurd (cc)
no_last (y ∷ z ∷ zs) is = absurd (cc (no_last (z ∷ zs) is))

module _ {T : Type 0} where
  -- the last of the orders behind one
  last_behind : (s : ℕ) (u : ℕ × T) (us : List (ℕ × T)) → Slot s ≡ last_or (Slot u.0) (slots us) → (front : List (ℕ × T)) × (v : T) × (u ∷ us ≡ front ++ (s, v) ∷ [])
  last_behind s u [] is =
      let same : s ≡ u.0 = cc in
      ([], u.1, ap (λ (i : ℕ). (i, u.1) ∷ []) (sym same))
  last_behind s u (w ∷ us) is =
      let rest = last_behind s w us is in
      (u ∷ rest.0, rest.1, ap (λ (vs : List (ℕ × T)). u ∷ vs) rest.2)

  pub slot_last : (k s : ℕ) (us : List (ℕ × T)) → Slot s ≡ last_or (Head k) (slots us) → (front : List (ℕ × T)) × (v : T) × (us ≡ front ++ (s, v) ∷ [])
  slot_last k s [] is = absurd (cc)
  slot_last k s (u ∷ us) is = last_behind s u us is

  no_head : (h : ℕ) (u : ℕ × T) (us : List (ℕ × T)) → Head h ≡ last_or (Slot u.0) (slots us) → ⊥
  no_head h u [] is = cc
  no_head h u (w ∷ us) is = no_head h w us is

  pub head_last : (k h : ℕ) (us : List (ℕ × T)) → Head h ≡ last_or (Head k) (slots us) → us ≡ []
  head_last k h [] is = refl
  head_last k h (u ∷ us) is = absurd (no_head h u us is)

  -- the end of a level
  abbrev pub level_end : (orders : List (List (ℕ × T))) (l : ℕ) → l < length orders → Ahead orders (Head l)
  level_end orders l within = record { chain = l; before = get_or orders l []; behind = []; cut = record { within = within; parts = sym (append-nil (get_or orders l [])) }; is = refl }

  pub last_among : (orders : List (List (ℕ × T))) (es : List (LevelKey × ℕ)) (e : LevelKey × ℕ) (s : ℕ) (front : List (ℕ × T)) (v : T) → get_or orders e.1 [] ≡ front ++ (s, v) ∷ [] → Among (book orders (es ++ e ∷ [])) s
  last_among orders es e s front v is = record {
    front = book orders es ++ front;
    value = v;
    back = [];
    parts = flat_map-append (λ (f : LevelKey × ℕ). get_or orders f.1 []) es (e ∷ [])
        ∙ ap (λ (us : List (ℕ × T)). book orders es ++ us) (append-nil (get_or orders e.1 []) ∙ is)
        ∙ sym (append_assoc (book orders es) front ((s, v) ∷ []));
  }

  pub last_row : (number : T → ℕ) (rank : T → ℤ) (stamp : T → ℕ) (orders : List (List (ℕ × T))) (fo : ℕ) (es : List (LevelKey × ℕ)) (e : LevelKey × ℕ) → length orders ≡ fo + 1 → Each (IsRow number rank stamp fo orders) (es ++ e ∷ []) → e.1 < length orders
  last_row number rank stamp orders fo es e size rows =
      let room : e.1 < fo = (Each-back (IsRow number rank stamp fo orders) es (e ∷ []) rows).0.room in
      omega (arith, room, size)
