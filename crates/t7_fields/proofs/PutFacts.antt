-- What is put in a blank message is spelled by it.
use Rattle.std.proofs.Common.{◌≡◌, ◌≢◌, inl, inr, ◌<◌, ◌≤◌, ◌+◌, ◌-◌, ◌*◌, ◌/◌, ◌^◌, ◌∙◌, ◌++◌, ◌==◌, ℕ, zero, suc, List, [], ◌∷◌, Bool, true, false, Option, Some, None, length, take, drop, get_or, refl, sym, ap, subst, arith, cond, map, replicate, append_assoc, length-append, add-one}
use Rattle.std.specs.Prelude.{Contains, IfSome, ℤ, pos}
use Rattle.std.specs.Int.{byte_at, bytes_low_first}
use Rattle.std.proofs.lemmas.List.{take-append-le, drop-append-le, length-replicate, append-nil, take_all}
use Rattle.std.proofs.lemmas.List.Elements.{Contains-get_or}
use Rattle.std.proofs.Math.Seq.{take-append_seam, drop-append-add, drop-append_seam}
use Rattle.std.proofs.Math.Nat.{one-le-pow, zero-div}
use Rattle.std.proofs.lemmas.Bool.Decides.{nat_tests}
use Rattle.byteorder.specs.Endian.{little_bytes, little_number}
use Rattle.byteorder.specs.Numbers.{length-bytes_low_first, little_from-take}
use Rattle.t7_layout.specs.declared.words.Family.{Family}
use Rattle.t7_layout.specs.declared.words.Family.TheVariants.{Eti, Eobi}
use Rattle.t7_layout.specs.declared.words.Kind.{Kind}
use Rattle.t7_layout.specs.declared.words.Kind.TheVariants.{Unsigned, Signed, Raw}
use Rattle.t7_layout.specs.declared.roles.FieldName.TheVariants as name
use Rattle.t7_layout.specs.Layouts.{HasHeader, IsInRange, IsLayout, IsPlace, LaidOut, Layout, Place}
use Rattle.t7_layout.specs.Roles.{width_in}
use Rattle.t7_fields.specs.Spelling.{EachSpells, FieldSpells, IsHeld, Spells, Value, Number, Bytes, body_length, complement, header_width, length_width, number_bytes, raw_at, template_id}
use Rattle.t7_fields.specs.Puts.{IsPuttable, MayPut, MayPutEach, Put, blank, blank_value, last_put, null_bytes, patch, put_each, record_of, unset_bytes, unset_value, value_bytes, filled, written}
use Rattle.t7_layout.proofs.BytesFacts.{halves, number_again}
use Rattle.t7_fields.proofs.PatchFacts.{Leaves, before, drop_sum, laid_within, patch_field, patch_leaves, patch_length}
use Rattle.t7_layout.proofs.ImageFacts.{body_width, held, length_room, null_length, number_length, unset_length}
use Rattle.t7_fields.proofs.SpellFacts.{contains_at}

-- ---- bytes in place of others, beside bytes that stay

pub patch_append : (at : ℕ) (piece xs ys : List ℕ) → at + length piece ≤ length xs → patch at piece (xs ++ ys) ≡ patch at piece xs ++ ys
unfolding patch
patch_append at piece xs ys h =
    let front = take-append-le at xs ys (omega arith) in
    let back = drop-append-le (at + length piece) xs ys h in
    rw (front, back) (sym (append_assoc (take at xs) (piece ++ drop (at + length piece) xs) ys ∙ ap (λ (t : List ℕ). take at xs ++ t) (append_assoc piece (drop (at + length piece) xs) ys)))

-- ---- the bytes of values

byte_zero : (i : ℕ) → byte_at i 0 ≡ 0
byte_zero zero = refl
byte_zero (suc i) = let low = one-le-pow (suc i) 256 (omega arith) in let e : 0 / 256 ^ suc i ≡ 0 = zero-div (256 ^ suc i) in rw e refl

zero_bytes : (i w : ℕ) → bytes_low_first i w 0 ≡ replicate w 0
zero_bytes i zero = refl
zero_bytes i (suc w) = rw (byte_zero i, zero_bytes (suc i) w) refl

pub puttable_length : (f : Place) (v : Value) → IsPuttable f v → length (value_bytes f v) ≡ f.width
unfolding value_bytes
puttable_length f (Number (Some z)) can = number_length f.width z
puttable_length f (Number None) can = absurd can
puttable_length f (Bytes xs) can = can.1

-- ---- a message in which nothing is put

unset_at : (pre : List ℕ) (fs : List Place) (to : ℕ) (f : Place) → LaidOut (length pre) fs to → Contains fs f → raw_at f (pre ++ unset_bytes fs) ≡ null_bytes f.width f.null
unfolding unset_bytes raw_at
unset_at pre [] to f l c = let (k, inside, is) = c in absurd (omega arith)
unset_at pre (g ∷ fs) to f l (zero, inside, is) =
    let wide = null_length g.width g.null in
    let P : Place → Type 0 = λ p. take p.width (drop p.offset (pre ++ (null_bytes g.width g.null ++ unset_bytes fs))) ≡ null_bytes p.width p.null in
    subst P is (rw (l.0, drop-append_seam pre (null_bytes g.width g.null ++ unset_bytes fs)) (first g.width (null_bytes g.width g.null) (unset_bytes fs) wide))
  where
    first : (w : ℕ) (xs ys : List ℕ) → length xs ≡ w → take w (xs ++ ys) ≡ xs
    first w xs ys e = rw (← e) (take-append_seam xs ys)
unset_at pre (g ∷ fs) to f l (suc k, inside, is) =
    let wide = null_length g.width g.null in
    let whole = length-append pre (null_bytes g.width g.null) in
    let from : length pre + g.width ≡ length (pre ++ null_bytes g.width g.null) = omega arith in
    let P : ℕ → Type 0 = λ n. LaidOut n fs to in
    let rest = unset_at (pre ++ null_bytes g.width g.null) fs to f (subst P from l.1) (k, omega arith, is) in
    let Q : List ℕ → Type 0 = λ b. take f.width (drop f.offset b) ≡ null_bytes f.width f.null in
    subst Q (append_assoc pre (null_bytes g.width g.null) (unset_bytes fs)) rest

-- ---- what a field with nothing in it spells

held_zero : (k : Kind) (w : ℕ) → k ≢ Raw → IsHeld k w (pos 0)
unfolding IsHeld
held_zero Unsigned w h = let low = one-le-pow w 256 (omega arith) in omega arith
held_zero Signed w h = let low = one-le-pow (8 * w - 1) 2 (omega arith) in omega arith
held_zero Raw w h = absurd (h refl)

-- a field with the bytes of nothing spells what isn't put
unset_spells : (k : Kind) (null : Option ℤ) (f : Place) (b : List ℕ) → f.kind ≡ k → f.null ≡ null → IsPlace f → raw_at f b ≡ null_bytes f.width null → FieldSpells f (unset_value k null f.width) b
unfolding unset_value null_bytes number_bytes complement
unset_spells Unsigned None f b e n p h =
    (record { held = held_zero f.kind f.width (λ raw. cc (raw, e)); bytes = h ∙ sym (zero_bytes 0 f.width) }, λ s. cc (s, n))
unset_spells Signed None f b e n p h =
    (record { held = held_zero f.kind f.width (λ raw. cc (raw, e)); bytes = h ∙ sym (zero_bytes 0 f.width) }, λ s. cc (s, n))
unset_spells Raw None f b e n p h = (e, h)
unset_spells Unsigned (Some z) f b e n p h = (z, n, record { held = held f.kind f.width z p.some (rw n at p.null); bytes = h })
unset_spells Signed (Some z) f b e n p h = (z, n, record { held = held f.kind f.width z p.some (rw n at p.null); bytes = h })
unset_spells Raw (Some z) f b e n p h = let r = rw (n, e) at p.null in absurd r

-- ---- fields and their places

pub same_place : (from : ℕ) (fs : List Place) (to : ℕ) (f g : Place) → LaidOut from fs to → ((p : Place) → Contains fs p → 1 ≤ p.width) → Contains fs f → Contains fs g → f.offset ≡ g.offset → f ≡ g
same_place from [] to f g l low c d e = let (k, inside, is) = c in absurd (omega arith)
same_place from (h ∷ hs) to f g l low (zero, i, is) (zero, j, js) e = sym is ∙ js
same_place from (h ∷ hs) to f g l low (zero, i, is) (suc n, j, js) e =
    let w = laid_within (from + h.width) hs to g l.1 (n, omega arith, js) in
    let wide = low h (0, omega arith, refl) in
    let o : h.offset ≡ f.offset = ap (λ (p : Place). p.offset) is in
    absurd (omega (arith, l.0, w.low))
same_place from (h ∷ hs) to f g l low (suc m, i, is) (zero, j, js) e =
    let w = laid_within (from + h.width) hs to f l.1 (m, omega arith, is) in
    let wide = low h (0, omega arith, refl) in
    let o : h.offset ≡ g.offset = ap (λ (p : Place). p.offset) js in
    absurd (omega (arith, l.0, w.low))
same_place from (h ∷ hs) to f g l low (suc m, i, is) (suc n, j, js) e =
    same_place (from + h.width) hs to f g l.1 (λ p there. let (k, inside, same) = there in low p (suc k, omega arith, same)) (m, omega arith, is) (n, omega arith, js) e

spells_along : (f : Place) (v : Value) (old new : List ℕ) → raw_at f new ≡ raw_at f old → FieldSpells f v old → FieldSpells f v new
spells_along f (Number (Some z)) old new e s = (record { held = s.0.held; bytes = e ∙ s.0.bytes }, s.1)
spells_along f (Number None) old new e s = let (z, null, has) = s in (z, null, record { held = has.held; bytes = e ∙ has.bytes })
spells_along f (Bytes xs) old new e s = (s.0, e ∙ s.1)

put_spells : (f : Place) (v : Value) (b : List ℕ) → IsPuttable f v → raw_at f b ≡ value_bytes f v → FieldSpells f v b
unfolding value_bytes
put_spells f (Number (Some z)) b can e = (record { held = can.0; bytes = e }, can.1)
put_spells f (Number None) b can e = absurd can
put_spells f (Bytes xs) b can e = (can.0, e)

-- ---- what a message carries while fields are put in it

pub record Carries (t : Layout) (g : Place → Value) (b : List ℕ) : Type 0 where
  pub size : length b ≡ t.size
  pub body : body_length t.family b ≡ t.size
  pub id : template_id t.family b ≡ t.id
  pub each : (f : Place) → Contains t.fields f → FieldSpells f (g f) b

-- a number of the first bytes, or of two bytes from a place on, is the same after bytes past it changed
same_front : (w at : ℕ) (piece b : List ℕ) → w ≤ at → at ≤ length b → little_number w (patch at piece b) ≡ little_number w b
unfolding patch
same_front w at piece b h k =
    let e : take w (patch at piece b) ≡ take w b = before 0 w at b (piece ++ drop (at + length piece) b) (omega arith) k in
    sym (little_from-take 0 w w (patch at piece b) (omega arith)) ∙ ap (little_number w) e ∙ little_from-take 0 w w b (omega arith)

same_second : (o w at : ℕ) (piece b : List ℕ) → o + w ≤ at → at ≤ length b → little_number w (drop o (patch at piece b)) ≡ little_number w (drop o b)
unfolding patch
same_second o w at piece b h k =
    let e : take w (drop o (patch at piece b)) ≡ take w (drop o b) = before o w at b (piece ++ drop (at + length piece) b) h k in
    sym (little_from-take 0 w w (drop o (patch at piece b)) (omega arith)) ∙ ap (little_number w) e ∙ little_from-take 0 w w (drop o b) (omega arith)

pub put_carries : (t : Layout) (g : Place → Value) (p : Put) (b : List ℕ) → IsLayout t → MayPut t p → Carries t g b
    → Carries t (λ f. cond (p.place.offset == f.offset) p.value (g f)) (patch p.place.offset (value_bytes p.place p.value) b)
unfolding body_length template_id header_width
put_carries t g p b whole may has =
    let wide = puttable_length p.place p.value may.can in
    let w = laid_within 0 t.fields t.size p.place whole.laid may.there in
    let room : t.size ≤ length b = omega (arith, has.size) in
    let inside : p.place.offset + length (value_bytes p.place p.value) ≤ length b = omega (arith, w.high, has.size) in
    let free = may.free in
    record {
      size = patch_length p.place.offset (value_bytes p.place p.value) b inside ∙ has.size;
      body = same_front (length_width t.family) p.place.offset (value_bytes p.place p.value) b (omega arith) (omega arith) ∙ has.body;
      id = same_second (length_width t.family) 2 p.place.offset (value_bytes p.place p.value) b free (omega arith) ∙ has.id;
      each = λ f there. by f there (p.place.offset == f.offset) refl;
    }
  where
    leaves : Carries t g b → Leaves t p.place b (patch p.place.offset (value_bytes p.place p.value) b)
    leaves has = patch_leaves t p.place (value_bytes p.place p.value) b whole.laid may.there (puttable_length p.place p.value may.can) (omega (arith, has.size))

    by : (f : Place) → Contains t.fields f → (s : Bool) → (p.place.offset == f.offset) ≡ s → FieldSpells f (cond s p.value (g f)) (patch p.place.offset (value_bytes p.place p.value) b)
    by f there true e =
        let same : p.place.offset ≡ f.offset = grind (arith, nat_tests) in
        let is = same_place 0 t.fields t.size p.place f whole.laid (λ q c. (whole.places q c).some) may.there there same in
        let w = laid_within 0 t.fields t.size p.place whole.laid may.there in
        let P : Place → Type 0 = λ q. FieldSpells q p.value (patch p.place.offset (value_bytes p.place p.value) b) in
        subst P is (put_spells p.place p.value (patch p.place.offset (value_bytes p.place p.value) b) may.can
        (patch_field p.place (value_bytes p.place p.value) b (puttable_length p.place p.value may.can) (omega (arith, w.high, has.size))))
    by f there false e =
        let apart : f.offset ≢ p.place.offset = λ same. grind (arith, nat_tests) in
        spells_along f (g f) b (patch p.place.offset (value_bytes p.place p.value) b) ((leaves has).others f there apart) (has.each f there)

pub each_carries : (t : Layout) (ps : List Put) (g : Place → Value) (b : List ℕ) → IsLayout t → MayPutEach t ps → Carries t g b → Carries t (λ f. last_put f ps (g f)) (put_each ps b)
unfolding put_each last_put
each_carries t [] g b whole may has = has
each_carries t (p ∷ ps) g b whole may has =
    each_carries t ps (λ f. cond (p.place.offset == f.offset) p.value (g f)) (patch p.place.offset (value_bytes p.place p.value) b) whole
    (record { each = λ q there. let (k, inside, is) = there in may.each q (suc k, omega arith, is) })
    (put_carries t g p b whole (may.each p (0, omega arith, refl)) has)

-- ---- the blank message

pub id_width : (family : Family) → width_in family name.TemplateID ≡ 2
unfolding width_in
id_width Eti = refl
id_width Eobi = refl

width_low : (family : Family) → 2 ≤ length_width family
unfolding length_width
width_low Eti = omega arith
width_low Eobi = omega arith

pub read_at : (f : Place) (b : List ℕ) (w o n : ℕ) → f.width ≡ w → f.offset ≡ o → raw_at f b ≡ little_bytes w n → n < 256 ^ w → little_number w (drop o b) ≡ n
unfolding raw_at
read_at f b w o n ew eo e h =
    let piece : take w (drop o b) ≡ little_bytes w n = rw (ew, eo) at e in
    sym (little_from-take 0 w w (drop o b) (omega arith)) ∙ ap (little_number w) piece ∙ number_again w n h

number_spells : (f : Place) (b : List ℕ) (w n : ℕ) → f.kind ≡ Unsigned → f.null ≡ None → f.width ≡ w → raw_at f b ≡ little_bytes w n → n < 256 ^ w → FieldSpells f (Number (Some (pos n))) b
unfolding IsHeld number_bytes complement
number_spells f b w n kind null wide e h =
    let P : Kind → Type 0 = λ k. IsHeld k f.width (pos n) in
    let fits : n < 256 ^ f.width = rw wide h in
    (record { held = subst P (sym kind) fits; bytes = e ∙ ap (λ (v : ℕ). little_bytes v n) (sym wide) }, λ s. cc (s, null))

-- what a blank message carries, with its header at the places of its two fields
record Header (t : Layout) (body id : Place) : Type 0 where
  body_there : Contains t.fields body
  id_there : Contains t.fields id
  body_at : body.offset ≡ 0
  id_at : id.offset ≡ length_width t.family
  body_wide : body.width ≡ length_width t.family
  id_wide : id.width ≡ 2
  body_kind : body.kind ≡ Unsigned
  id_kind : id.kind ≡ Unsigned
  body_null : body.null ≡ None
  id_null : id.null ≡ None

header_of : (t : Layout) (h : HasHeader t) → Header t h.body h.id
header_of t h = record {
  body_there = contains_at t.fields 0 h.body h.body_is.there;
  id_there = contains_at t.fields 1 h.id h.id_is.there;
  body_at = h.body_is.offset_is;
  id_at = h.id_is.offset_is ∙ body_width t.family;
  body_wide = h.body_is.width_is ∙ body_width t.family;
  id_wide = h.id_is.width_is ∙ id_width t.family;
  body_kind = h.body_is.kind_is;
  id_kind = h.id_is.kind_is;
  body_null = h.body_null;
  id_null = h.id_null;
}

length_piece : (w n : ℕ) → length (little_bytes w n) ≡ w
length_piece w n = length-bytes_low_first 0 w n

record Headed (t : Layout) (body id : Place) (b : List ℕ) : Type 0 where
  size : length b ≡ t.size
  body_bytes : raw_at body b ≡ little_bytes (length_width t.family) t.size
  id_bytes : raw_at id b ≡ little_bytes 2 t.id
  others : (f : Place) → Contains t.fields f → f.offset ≢ body.offset → f.offset ≢ id.offset → raw_at f b ≡ raw_at f (unset_bytes t.fields)

headed : (t : Layout) (body id : Place) → IsLayout t → Header t body id → Headed t body id (patch id.offset (little_bytes 2 t.id) (patch body.offset (little_bytes (length_width t.family) t.size) (unset_bytes t.fields)))
headed t body id whole h =
    let wide_1 : length (little_bytes (length_width t.family) t.size) ≡ body.width = length_piece (length_width t.family) t.size ∙ sym h.body_wide in
    let wide_2 : length (little_bytes 2 t.id) ≡ id.width = length_piece 2 t.id ∙ sym h.id_wide in
    let size_0 : length (unset_bytes t.fields) ≡ t.size = omega (arith, unset_length 0 t.fields t.size whole.laid) in
    let in_1 = laid_within 0 t.fields t.size body whole.laid h.body_there in
    let in_2 = laid_within 0 t.fields t.size id whole.laid h.id_there in
    let b_1 : List ℕ = patch body.offset (little_bytes (length_width t.family) t.size) (unset_bytes t.fields) in
    let size_1 : length b_1 ≡ t.size = patch_length body.offset (little_bytes (length_width t.family) t.size) (unset_bytes t.fields) (omega (arith, in_1.high)) ∙ size_0 in
    let leaves_1 = patch_leaves t body (little_bytes (length_width t.family) t.size) (unset_bytes t.fields) whole.laid h.body_there wide_1 (omega arith) in
    let leaves_2 = patch_leaves t id (little_bytes 2 t.id) b_1 whole.laid h.id_there wide_2 (omega arith) in
    let low = width_low t.family in
    let ne : body.offset ≢ id.offset = λ same. omega (arith, h.body_at, h.id_at) in
    record {
      size = patch_length id.offset (little_bytes 2 t.id) b_1 (omega (arith, in_2.high)) ∙ size_1;
      body_bytes = leaves_2.others body h.body_there ne ∙ patch_field body (little_bytes (length_width t.family) t.size) (unset_bytes t.fields) wide_1 (omega (arith, in_1.high));
      id_bytes = patch_field id (little_bytes 2 t.id) b_1 wide_2 (omega (arith, in_2.high));
      others = λ f there x y. leaves_2.others f there y ∙ leaves_1.others f there x;
    }

blank_as : (t : Layout) (body id : Place) (b : List ℕ) → IsLayout t → Header t body id → Headed t body id b → Carries t (blank_value t) b
unfolding blank_value body_length template_id
blank_as t body id b whole h has =
    record {
      size = has.size;
      body = read_at body b (length_width t.family) 0 t.size h.body_wide h.body_at has.body_bytes (length_room t.family t.size whole.short);
      id = read_at id b 2 (length_width t.family) t.id h.id_wide h.id_at has.id_bytes whole.id_fits;
      each = λ f there. first f there (f.offset == 0) refl;
    }
  where
    low : (p : Place) → Contains t.fields p → 1 ≤ p.width
    low p c = (whole.places p c).some

    second : (f : Place) → Contains t.fields f → f.offset ≢ 0 → (s : Bool) → (f.offset == length_width t.family) ≡ s
        → FieldSpells f (cond s (Number (Some (pos t.id))) (unset_value f.kind f.null f.width)) b
    second f there first true e =
        let at : f.offset ≡ length_width t.family = grind (arith, nat_tests) in
        let is = same_place 0 t.fields t.size id f whole.laid low h.id_there there (h.id_at ∙ sym at) in
        let P : Place → Type 0 = λ q. FieldSpells q (Number (Some (pos t.id))) b in
        subst P is (number_spells id b 2 t.id h.id_kind h.id_null h.id_wide has.id_bytes whole.id_fits)
    second f there first false e =
        let ne_1 : f.offset ≢ body.offset = λ same. first (same ∙ h.body_at) in
        let ne_2 : f.offset ≢ id.offset = λ same. grind (arith, nat_tests, h.id_at) in
        spells_along f (unset_value f.kind f.null f.width) (unset_bytes t.fields) b (has.others f there ne_1 ne_2)
        (unset_spells f.kind f.null f (unset_bytes t.fields) refl refl (whole.places f there) (unset_at [] t.fields t.size f whole.laid there))

    first : (f : Place) → Contains t.fields f → (s : Bool) → (f.offset == 0) ≡ s
        → FieldSpells f (cond s (Number (Some (pos t.size))) (cond (f.offset == length_width t.family) (Number (Some (pos t.id))) (unset_value f.kind f.null f.width))) b
    first f there true e =
        let at : f.offset ≡ 0 = grind (arith, nat_tests) in
        let is = same_place 0 t.fields t.size body f whole.laid low h.body_there there (h.body_at ∙ sym at) in
        let P : Place → Type 0 = λ q. FieldSpells q (Number (Some (pos t.size))) b in
        subst P is (number_spells body b (length_width t.family) t.size h.body_kind h.body_null h.body_wide has.body_bytes (length_room t.family t.size whole.short))
    first f there false e =
        let ne : f.offset ≢ 0 = λ same. grind (arith, nat_tests) in
        second f there ne (f.offset == length_width t.family) refl

pub blank_carries : (t : Layout) → IsLayout t → Carries t (blank_value t) (blank t)
unfolding blank
blank_carries t whole =
    let h = header_of t whole.header in
    let c = blank_as t whole.header.body whole.header.id _ whole h (headed t whole.header.body whole.header.id whole h) in
    let at_1 = h.body_at in
    let at_2 = h.id_at in
    let P : ℕ → Type 0 = λ n. Carries t (blank_value t) (patch whole.header.id.offset (little_bytes 2 t.id) (patch n (little_bytes (length_width t.family) t.size) (unset_bytes t.fields))) in
    let Q : ℕ → Type 0 = λ n. Carries t (blank_value t) (patch n (little_bytes 2 t.id) (patch 0 (little_bytes (length_width t.family) t.size) (unset_bytes t.fields))) in
    subst Q at_2 (subst P at_1 c)

-- ---- what is put is spelled

each_spells : (fs : List Place) (g : Place → Value) (b : List ℕ) → ((f : Place) → Contains fs f → FieldSpells f (g f) b) → EachSpells fs (map g fs) b
unfolding EachSpells
each_spells [] g b h = tt
each_spells (f ∷ fs) g b h = (h f (0, omega arith, refl), each_spells fs g b (λ p there. let (k, inside, is) = there in h p (suc k, omega arith, is)))

pub filled_carries : (t : Layout) (ps : List Put) → IsLayout t → MayPutEach t ps → Carries t (λ f. last_put f ps (blank_value t f)) (filled t ps)
unfolding filled
filled_carries t ps whole may = each_carries t ps (blank_value t) (blank t) whole may (blank_carries t whole)

pub filled_spells : (t : Layout) (ps : List Put) → IsLayout t → MayPutEach t ps → Spells t (record_of t ps) (filled t ps)
unfolding record_of
filled_spells t ps whole may =
    let c = filled_carries t ps whole may in
    record {
      fits = record { room = omega (arith, c.size); said = c.body ∙ sym c.size };
      id = c.id;
      fields = each_spells t.fields (λ f. last_put f ps (blank_value t f)) (filled t ps) c.each;
    }

-- ---- over bytes that stay

each_append : (t : Layout) (ps : List Put) (b tail : List ℕ) → IsLayout t → MayPutEach t ps → length b ≡ t.size → put_each ps (b ++ tail) ≡ put_each ps b ++ tail
unfolding put_each
each_append t [] b tail whole may size = refl
each_append t (p ∷ ps) b tail whole may size =
    let here = may.each p (0, omega arith, refl) in
    let wide = puttable_length p.place p.value here.can in
    let w = laid_within 0 t.fields t.size p.place whole.laid here.there in
    let room : p.place.offset + length (value_bytes p.place p.value) ≤ length b = omega (arith, w.high) in
    let same = patch_append p.place.offset (value_bytes p.place p.value) b tail room in
    rw same (each_append t ps (patch p.place.offset (value_bytes p.place p.value) b) tail whole
    (record { each = λ q there. let (k, inside, is) = there in may.each q (suc k, omega arith, is) })
    (patch_length p.place.offset (value_bytes p.place p.value) b room ∙ size))

pub written_over : (t : Layout) (ps : List Put) (out : List ℕ) → IsLayout t → MayPutEach t ps → written t ps out ≡ filled t ps ++ drop t.size out
unfolding written filled
written_over t ps out whole may = each_append t ps (blank t) (drop t.size out) whole may (blank_carries t whole).size

-- one more is put
pub one_put : (ps : List Put) (p : Put) (b : List ℕ) → put_each (ps ++ (p ∷ [])) b ≡ patch p.place.offset (value_bytes p.place p.value) (put_each ps b)
unfolding put_each
one_put [] p b = refl
one_put (q ∷ ps) p b = one_put ps p (patch q.place.offset (value_bytes q.place q.value) b)

pub written_put : (t : Layout) (ps : List Put) (p : Put) (out old : List ℕ) → old ≡ written t ps out → patch p.place.offset (value_bytes p.place p.value) old ≡ written t (ps ++ (p ∷ [])) out
unfolding written
written_put t ps p out old e = rw e (sym (one_put ps p (blank t ++ drop t.size out)))

-- what is finished
pub record Finished (t : Layout) (ps : List Put) (out new : List ℕ) : Type 0 where
  pub spells : Spells t (record_of t ps) (take t.size new)
  pub filled_is : take t.size new ≡ filled t ps
  pub tail : drop t.size new ≡ drop t.size out

pub finished : (t : Layout) (ps : List Put) (out new : List ℕ) → IsLayout t → MayPutEach t ps → new ≡ written t ps out → Finished t ps out new
finished t ps out new whole may e =
    let c = filled_carries t ps whole may in
    let over : new ≡ filled t ps ++ drop t.size out = e ∙ written_over t ps out whole may in
    let front : take t.size new ≡ filled t ps = ap (take t.size) over ∙ first (filled t ps) (drop t.size out) t.size c.size in
    let back : drop t.size new ≡ drop t.size out = ap (drop t.size) over ∙ past (filled t ps) (drop t.size out) t.size c.size in
    let P : List ℕ → Type 0 = λ b. Spells t (record_of t ps) b in
    record { spells = subst P (sym front) (filled_spells t ps whole may); filled_is = front; tail = back }
  where
    first : (xs ys : List ℕ) (n : ℕ) → length xs ≡ n → take n (xs ++ ys) ≡ xs
    first xs ys n e = rw (← e) (take-append_seam xs ys)

    past : (xs ys : List ℕ) (n : ℕ) → length xs ≡ n → drop n (xs ++ ys) ≡ ys
    past xs ys n e = rw (← e) (drop-append_seam xs ys)
