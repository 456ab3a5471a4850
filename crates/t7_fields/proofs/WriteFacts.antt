-- What is written field by field is said, and nothing else.
use Rattle.std.proofs.Common.{◌≡◌, ◌≢◌, ◌^◌, ◌<◌, ◌≤◌, ◌⊎◌, inl, inr, ◌+◌, ◌∙◌, ◌++◌, ◌==◌, ℕ, zero, suc, List, [], ◌∷◌, Bool, true, false, not, Option, Some, None, length, take, drop, map, replicate, refl, sym, ap, subst, arith, cond, slice_get, get_or, nat_eq, append_assoc, add-one, is_some}
use Rattle.std.specs.Prelude.{Contains, ℤ, pos, slice_index, IfSome, find, neg_ℤ, ◌/◌, ◌-◌}
use Rattle.std.specs.List.{list_all}
use Rattle.std.specs.Option.{option_map_or}
use Rattle.std.proofs.lemmas.Bool.Decides.{nat_tests}
use Rattle.std.proofs.lemmas.List.{append-nil}
use Rattle.std.proofs.lemmas.List.Elements.{Contains-append_cases, Contains-get_or}
use Rattle.std.proofs.lemmas.Option.{same_Some}
use Rattle.std.proofs.Math.Seq.{take-suc}
use Rattle.byteorder.specs.Endian.{big_bytes, big_from, big_number}
use Rattle.byteorder.specs.Numbers.{big_number-reads_back, length-bytes_high_first}
use Rattle.t7_layout.specs.declared.roles.Role.{Role}
use Rattle.t7_layout.specs.declared.roles.FieldName.{FieldName}
use Rattle.t7_layout.specs.declared.roles.FieldName.TheVariants.{BodyLen, TemplateID}
use Rattle.t7_layout.specs.declared.words.Family.{Family}
use Rattle.t7_layout.specs.declared.words.Family.TheVariants.{Eti, Eobi}
use Rattle.t7_layout.specs.declared.words.Kind.{Kind}
use Rattle.t7_layout.specs.declared.words.Kind.TheVariants.{Unsigned, Signed, Raw}
use Rattle.t7_layout.specs.Layouts.{IsExtreme, IsLayout, IsPlace, Layout, Place}
use Rattle.t7_layout.specs.Lookups.{IsTable, find_field, find_role, holds_role, is_layout_of, is_place, place_in}
use Rattle.t7_layout.specs.Roles.{family_of, field_text, kind_of, required, width_in}
use Rattle.t7_layout.specs.Rows.{family_text, same_family, same_kind}
use Rattle.t7_fields.specs.declared.writer.Scalar.{Scalar}
use Rattle.t7_fields.specs.declared.writer.Scalar.TheVariants as number
use Rattle.t7_fields.specs.Spelling.{FieldSpells, IsHeld, Spells, Value, header_width, length_width, number_bytes, raw_at}
use Rattle.t7_fields.specs.Messages.{is_among, number_as, number_at, said_number}
use Rattle.t7_fields.specs.Puts.{MayPut, MayPutEach, Put, blank_value, filled, last_put, patch, record_of, unset_value, value_bytes, written}
use Rattle.t7_fields.specs.Writing.{AddsSaid, SaysSoFar, role_size, scalar_bytes, AreKnown, AreOrdinary, AreSaid, AreSized, IsOrdinary, IsSized, IsWritten, MayHave, can_say, can_say_each, longest, meaning, message_saying, number_kind, number_width, puts, unset_number, value_of}
use Rattle.t7_fields.proofs.NameFacts.{among_contains, among_front, among_none, among_tail, both, found_place, kinds_same, one_text, past_two, two_places}
use Rattle.t7_layout.proofs.ImageFacts.{body_width}
use Rattle.t7_fields.proofs.PutFacts.{id_width, filled_carries, filled_spells, finished, written_over, written_put}
use Rattle.t7_fields.proofs.SpellFacts.{contains_at, number_spelled}

-- ---- what a role can say

negated : (b : Bool) → not b ≡ true → b ≡ false
negated true e = cc e
negated false e = refl

unequal : (a b : ℕ) → a ≢ b → (a == b) ≡ false
unequal a b h = grind (arith, nat_tests)

equal : (a : ℕ) → (a == a) ≡ true
equal a = grind (arith, nat_tests)

pub record Sayable (role : Role) (name : FieldName) (n : Scalar) : Type 0 where
  pub there : Contains (required role) name
  pub free : is_among name (BodyLen ∷ TemplateID ∷ []) ≡ false
  pub kind : kind_of name ≡ number_kind n
  pub width : width_in (family_of role) name ≡ number_width n

pub sayable : (role : Role) (p : FieldName × Scalar) → can_say role p ≡ true → Sayable role p.0 p.1
unfolding can_say
sayable role p e =
    let a = both (is_among p.0 (required role)) _ e in
    let b = both (not (is_among p.0 (BodyLen ∷ TemplateID ∷ []))) _ a.1 in
    let d = both (same_kind (kind_of p.0) (number_kind p.1)) (width_in (family_of role) p.0 == number_width p.1) b.1 in
    let w : nat_eq (width_in (family_of role) p.0) (number_width p.1) ≡ true = d.1 in
    record {
      there = among_contains p.0 (required role) a.0;
      free = negated (is_among p.0 (BodyLen ∷ TemplateID ∷ [])) b.0;
      kind = kinds_same (kind_of p.0) (number_kind p.1) d.0;
      width = grind (arith, nat_tests);
    }

pub each_sayable : (role : Role) (ps : List (FieldName × Scalar)) (p : FieldName × Scalar) → can_say_each role ps ≡ true → Contains ps p → Sayable role p.0 p.1
unfolding can_say_each
each_sayable role [] p e c = let (k, inside, is) = c in absurd (omega arith)
each_sayable role (q ∷ ps) p e (zero, inside, is) =
    let a = both (can_say role q) _ e in
    let P : FieldName × Scalar → Type 0 = λ x. Sayable role x.0 x.1 in
    subst P is (sayable role q a.0)
each_sayable role (q ∷ ps) p e (suc k, inside, is) =
    let a = both (can_say role q) _ e in
    let b = both (not (is_among q.0 (map (λ (q : FieldName × Scalar). q.0) ps))) (can_say_each role ps) a.1 in
    each_sayable role ps p b.1 (k, omega arith, is)

-- ---- where it says them

pub place_layout : (layouts : List Layout) (role : Role) (t : Layout) (name : FieldName) → find_role layouts role ≡ Some t → place_in layouts role name ≡ find_field (family_of role) name t.names t.fields
unfolding place_in
place_layout layouts role t name e = rw e refl

pub find_contains : (family : Family) (name : FieldName) (ws : List (List ℕ)) (fs : List Place) (f : Place) → find_field family name ws fs ≡ Some f → Contains fs f
unfolding find_field
find_contains family name [] fs f h = cc h
find_contains family name (w ∷ ws) [] f h = cc h
find_contains family name (w ∷ ws) (g ∷ gs) f h = by (is_place family name w g) h (find_contains family name ws gs f)
  where
    by : (b : Bool) → cond b (Some g) (find_field family name ws gs) ≡ Some f → (find_field family name ws gs ≡ Some f → Contains gs f) → Contains (g ∷ gs) f
    by true h more = let s : g ≡ f = cc h in (0, omega arith, s)
    by false h more = let (k, inside, is) = more h in (suc k, omega arith, is)

all_there : {X : Type 0} (p : X → Bool) (xs : List X) (x : X) → list_all p xs ≡ true → Contains xs x → p x ≡ true
all_there p [] x e c = let (k, inside, is) = c in absurd (omega arith)
all_there p (y ∷ ys) x e (zero, inside, is) = let a = both (p y) (list_all p ys) e in ap p (sym is) ∙ a.0
all_there p (y ∷ ys) x e (suc k, inside, is) = let a = both (p y) (list_all p ys) e in all_there p ys x a.1 (k, omega arith, is)

pub place_there : (layouts : List Layout) (role : Role) (t : Layout) (name : FieldName) → find_role layouts role ≡ Some t → holds_role layouts role ≡ true → Contains (required role) name
    → (f : Place) × (place_in layouts role name ≡ Some f)
unfolding holds_role place_in
place_there layouts role t name e h c =
    let held : list_all (λ n. is_some (find_field (family_of role) n t.names t.fields)) (required role) ≡ true = rw e at h in
    let there = all_there (λ n. is_some (find_field (family_of role) n t.names t.fields)) (required role) name held c in
    rw e (by (find_field (family_of role) name t.names t.fields) there)
  where
    by : (o : Option Place) → is_some o ≡ true → (f : Place) × (o ≡ Some f)
    by None s = cc s
    by (Some f) s = (f, refl)

-- the field of a name that isn't one of the header's two lies past these
pub past_header : (t : Layout) (family : Family) (name : FieldName) (f : Place) → IsLayout t → t.family ≡ family → is_among name (BodyLen ∷ TemplateID ∷ []) ≡ false
    → find_field family name t.names t.fields ≡ Some f → header_width t.family ≤ f.offset
unfolding header_width
past_header t family name f l same free e =
    let h = l.header in
    let body_not : BodyLen ≢ name = among_none name BodyLen (BodyLen ∷ TemplateID ∷ []) free (0, omega arith, refl) in
    let id_not : TemplateID ≢ name = among_none name TemplateID (BodyLen ∷ TemplateID ∷ []) free (1, omega arith, refl) in
    let m = past_two family name t.names t.fields t.size (field_text BodyLen) (field_text TemplateID) h.body h.id f l.laid h.body_is.named h.id_is.named h.body_is.there h.id_is.there
    (λ s. body_not (one_text BodyLen name s)) (λ s. id_not (one_text TemplateID name s)) e in
    let w = h.body_is.width_is ∙ body_width t.family in
    let v = h.id_is.width_is ∙ id_width t.family in
    omega arith

-- ---- each of them may be put

pub record Named (layouts : List Layout) (role : Role) (t : Layout) : Type 0 where
  pub found : find_role layouts role ≡ Some t
  pub layout : IsLayout t
  pub family : t.family ≡ family_of role
  pub holds : holds_role layouts role ≡ true

pub may_have : (layouts : List Layout) (role : Role) (t : Layout) (ps : List (FieldName × Scalar)) (p : FieldName × Scalar) (f : Place) → Named layouts role t → AreSaid layouts role ps → Contains ps p
    → place_in layouts role p.0 ≡ Some f → MayHave f p.1
may_have layouts role t ps p f named can c e =
    let s = each_sayable role ps p can.fit c in
    let is = found_place (family_of role) p.0 t.names t.fields f (sym (place_layout layouts role t p.0 named.found) ∙ e) in
    record { kind = is.kind ∙ s.kind; width = is.width ∙ s.width; known = can.known.each p c f e }

pub free_place : (layouts : List Layout) (role : Role) (t : Layout) (ps : List (FieldName × Scalar)) (p : FieldName × Scalar) (f : Place) → Named layouts role t → AreSaid layouts role ps → Contains ps p
    → place_in layouts role p.0 ≡ Some f → header_width t.family ≤ f.offset
free_place layouts role t ps p f named can c e =
    let s = each_sayable role ps p can.fit c in
    past_header t (family_of role) p.0 f named.layout named.family s.free (sym (place_layout layouts role t p.0 named.found) ∙ e)

pub place_contains : (layouts : List Layout) (role : Role) (t : Layout) (name : FieldName) (f : Place) → find_role layouts role ≡ Some t → place_in layouts role name ≡ Some f → Contains t.fields f
place_contains layouts role t name f e h = find_contains (family_of role) name t.names t.fields f (sym (place_layout layouts role t name e) ∙ h)

held_as : (k : Kind) (f : Place) (w : ℕ) (z : ℤ) → f.kind ≡ k → f.width ≡ w → IsHeld k w z → IsHeld f.kind f.width z
held_as k f w z e s h =
    let P : Kind → Type 0 = λ x. IsHeld x f.width z in
    let Q : ℕ → Type 0 = λ x. IsHeld k x z in
    subst P (sym e) (subst Q (sym s) h)

pub may_put : (t : Layout) (f : Place) (n : Scalar) → Contains t.fields f → header_width t.family ≤ f.offset → MayHave f n → IsSized n → MayPut t (record { place = f; value = value_of n })
unfolding value_of IsSized meaning number_kind number_width IsHeld
may_put t f (number.Byte n) c free may sized = record { there = c; free = free; can = (held_as Unsigned f 1 (pos n) may.kind may.width (omega arith), may.known) }
may_put t f (number.Half n) c free may sized = record { there = c; free = free; can = (held_as Unsigned f 2 (pos n) may.kind may.width (omega arith), may.known) }
may_put t f (number.Word n) c free may sized = record { there = c; free = free; can = (held_as Unsigned f 4 (pos n) may.kind may.width (omega arith), may.known) }
may_put t f (number.Long n) c free may sized = record { there = c; free = free; can = (held_as Unsigned f 8 (pos n) may.kind may.width (omega arith), may.known) }
may_put t f (number.SignedWord z) c free may sized = record { there = c; free = free; can = (held_as Signed f 4 z may.kind may.width sized, may.known) }
may_put t f (number.Signed z) c free may sized = record { there = c; free = free; can = (held_as Signed f 8 z may.kind may.width sized, may.known) }
may_put t f (number.Raw n) c free may sized = record { there = c; free = free; can = (may.kind, length-bytes_high_first 16 n ∙ sym may.width) }

put_first : (layouts : List Layout) (role : Role) (t : Layout) (ps qs : List (FieldName × Scalar)) (q : FieldName × Scalar) (o : Option Place) → place_in layouts role q.0 ≡ o
    → Named layouts role t → AreSaid layouts role ps → AreSized ps → Contains ps q → MayPutEach t (puts layouts role qs)
    → MayPutEach t (option_map_or (λ (f : Place). record { place = f; value = value_of q.1 } ∷ []) o [] ++ puts layouts role qs)
put_first layouts role t ps qs q None e named can sized here rest = rest
put_first layouts role t ps qs q (Some f) e named can sized here rest = record { each = at }
  where
    at : (p : Put) → Contains (record { place = f; value = value_of q.1 } ∷ puts layouts role qs) p → MayPut t p
    at p (zero, inside, is) =
        let P : Put → Type 0 = λ x. MayPut t x in
        subst P is (may_put t f q.1 (place_contains layouts role t q.0 f named.found e) (free_place layouts role t ps q f named can here e) (may_have layouts role t ps q f named can here e) (sized.each q here))
    at p (suc k, inside, is) = rest.each p (k, omega arith, is)

pub may_put_each : (layouts : List Layout) (role : Role) (t : Layout) (ps qs : List (FieldName × Scalar)) → Named layouts role t → AreSaid layouts role ps → AreSized ps
    → ((p : FieldName × Scalar) → Contains qs p → Contains ps p) → MayPutEach t (puts layouts role qs)
unfolding puts
may_put_each layouts role t ps [] named can sized within = record { each = λ p c. let (k, inside, is) = c in absurd (omega arith) }
may_put_each layouts role t ps (q ∷ qs) named can sized within =
    put_first layouts role t ps qs q (place_in layouts role q.0) refl named can sized (within q (0, omega arith, refl))
    (may_put_each layouts role t ps qs named can sized (λ p c. let (k, inside, is) = c in within p (suc k, omega arith, is)))

-- ---- the last that was put

two_offsets : (layouts : List Layout) (role : Role) (t : Layout) (n m : FieldName) (f g : Place) → Named layouts role t → n ≢ m → place_in layouts role n ≡ Some f → place_in layouts role m ≡ Some g → f.offset ≢ g.offset
two_offsets layouts role t n m f g named ne e d =
    two_places (family_of role) n m t.names 0 t.size t.fields f g ne named.layout.laid (sym (place_layout layouts role t n named.found) ∙ e) (sym (place_layout layouts role t m named.found) ∙ d)

pub last_none : (layouts : List Layout) (role : Role) (t : Layout) (ps : List (FieldName × Scalar)) (name : FieldName) (f : Place) (v : Value) → Named layouts role t → place_in layouts role name ≡ Some f
    → is_among name (map (λ (q : FieldName × Scalar). q.0) ps) ≡ false → last_put f (puts layouts role ps) v ≡ v
unfolding puts last_put
last_none layouts role t [] name f v named e free = refl
last_none layouts role t (q ∷ qs) name f v named e free =
    let other = among_none name q.0 (q.0 ∷ map (λ (q : FieldName × Scalar). q.0) qs) free (0, omega arith, refl) in
    let later = among_tail name q.0 (map (λ (q : FieldName × Scalar). q.0) qs) free in
    by (place_in layouts role q.0) refl other (last_none layouts role t qs name f v named e later)
  where
    by : (o : Option Place) → place_in layouts role q.0 ≡ o → q.0 ≢ name → last_put f (puts layouts role qs) v ≡ v
        → last_put f (option_map_or (λ (g : Place). record { place = g; value = value_of q.1 } ∷ []) o [] ++ puts layouts role qs) v ≡ v
    by None d other rest = rest
    by (Some g) d other rest =
        let ne = two_offsets layouts role t q.0 name g f named other d e in
        let s : (g.offset == f.offset) ≡ false = unequal g.offset f.offset ne in
        ap (λ (b : Bool). last_put f (puts layouts role qs) (cond b (value_of q.1) v)) s ∙ rest

pub last_said : (layouts : List Layout) (role : Role) (t : Layout) (ps : List (FieldName × Scalar)) (k : ℕ) (p : FieldName × Scalar) (f : Place) (v : Value) → Named layouts role t → can_say_each role ps ≡ true
    → slice_get ps k ≡ Some p → place_in layouts role p.0 ≡ Some f → last_put f (puts layouts role ps) v ≡ value_of p.1
unfolding puts last_put can_say_each
last_said layouts role t [] k p f v named can e d = cc e
last_said layouts role t (q ∷ qs) zero p f v named can e d =
    let a = both (can_say role q) _ can in
    let b = both (not (is_among q.0 (map (λ (q : FieldName × Scalar). q.0) qs))) (can_say_each role qs) a.1 in
    let is : q ≡ p = cc e in
    let free = negated (is_among q.0 (map (λ (q : FieldName × Scalar). q.0) qs)) b.0 in
    let at : place_in layouts role q.0 ≡ Some f = ap (λ (x : FieldName × Scalar). place_in layouts role x.0) is ∙ d in
    let s : (f.offset == f.offset) ≡ true = equal f.offset in
    let put : last_put f (puts layouts role (q ∷ qs)) v ≡ last_put f (puts layouts role qs) (value_of q.1) =
    ap (λ (o : Option Place). last_put f (option_map_or (λ (g : Place). record { place = g; value = value_of q.1 } ∷ []) o [] ++ puts layouts role qs) v) at
    ∙ ap (λ (b : Bool). last_put f (puts layouts role qs) (cond b (value_of q.1) v)) s in
    put ∙ last_none layouts role t qs q.0 f (value_of q.1) named at free ∙ ap (λ (x : FieldName × Scalar). value_of x.1) is
last_said layouts role t (q ∷ qs) (suc k) p f v named can e d =
    let a = both (can_say role q) _ can in
    let b = both (not (is_among q.0 (map (λ (q : FieldName × Scalar). q.0) qs))) (can_say_each role qs) a.1 in
    by (place_in layouts role q.0) (λ w. last_said layouts role t qs k p f w named b.1 e d)
  where
    by : (o : Option Place) → ((w : Value) → last_put f (puts layouts role qs) w ≡ value_of p.1)
        → last_put f (option_map_or (λ (g : Place). record { place = g; value = value_of q.1 } ∷ []) o [] ++ puts layouts role qs) v ≡ value_of p.1
    by None rest = rest v
    by (Some g) rest = rest (cond (g.offset == f.offset) (value_of q.1) v)

-- ---- what is read back

big_zeros : (i n m : ℕ) → big_from i n (replicate m 0) ≡ 0
big_zeros i zero m = refl
big_zeros i (suc n) m = let byte = slice_zeros m i in let rest = big_zeros (suc i) n m in rw (byte, rest) (omega arith)
  where
    slice_zeros : (m i : ℕ) → slice_index (replicate m 0) i ≡ 0
    slice_zeros zero i = refl
    slice_zeros (suc m) zero = refl
    slice_zeros (suc m) (suc i) = slice_zeros m i

raw_number : (f : Place) (b xs : List ℕ) → f.kind ≡ Raw → raw_at f b ≡ xs → number_at f b ≡ Some (pos (big_number f.width xs))
unfolding number_at number_as
raw_number f b xs e h = ap (λ (k : Kind). number_as k f b) e ∙ ap (λ (ys : List ℕ). Some (pos (big_number f.width ys))) h

value_read : (f : Place) (n : Scalar) (b : List ℕ) → 1 ≤ f.width → MayHave f n → IsSized n → FieldSpells f (value_of n) b → number_at f b ≡ Some (meaning n)
unfolding value_of meaning IsSized number_width number_kind
value_read f (number.Byte n) b low may sized s = number_spelled f (Some (pos n)) b low s
value_read f (number.Half n) b low may sized s = number_spelled f (Some (pos n)) b low s
value_read f (number.Word n) b low may sized s = number_spelled f (Some (pos n)) b low s
value_read f (number.Long n) b low may sized s = number_spelled f (Some (pos n)) b low s
value_read f (number.SignedWord z) b low may sized s = number_spelled f (Some z) b low s
value_read f (number.Signed z) b low may sized s = number_spelled f (Some z) b low s
value_read f (number.Raw n) b low may sized s =
    raw_number f b (big_bytes 16 n) s.0 s.1 ∙ ap (λ (w : ℕ). Some (pos (big_number w (big_bytes 16 n)))) may.width
    ∙ ap (λ (x : ℕ). Some (pos x)) (ap (big_number 16) (sym (append-nil (big_bytes 16 n))) ∙ big_number-reads_back 16 n [] sized)

unset_read : (k : Kind) (null : Option ℤ) (f : Place) (b : List ℕ) → 1 ≤ f.width → f.kind ≡ k → f.null ≡ null → IsPlace f → FieldSpells f (unset_value k null f.width) b → number_at f b ≡ unset_number null
unfolding unset_value unset_number
unset_read Unsigned None f b low e n p s = number_spelled f (Some (pos 0)) b low s
unset_read Signed None f b low e n p s = number_spelled f (Some (pos 0)) b low s
unset_read Raw None f b low e n p s = raw_number f b (replicate f.width 0) s.0 s.1 ∙ ap (λ (x : ℕ). Some (pos x)) (big_zeros 0 f.width f.width)
unset_read Unsigned (Some z) f b low e n p s = number_spelled f None b low s
unset_read Signed (Some z) f b low e n p s = number_spelled f None b low s
unset_read Raw (Some z) f b low e n p s = let r = rw (n, e) at p.null in absurd r

said_at : (layouts : List Layout) (role : Role) (bytes : List ℕ) (name : FieldName) (f : Place) → place_in layouts role name ≡ Some f
    → said_number (record { layouts = layouts; role = role; bytes = bytes }) name ≡ number_at f bytes
unfolding said_number
said_at layouts role bytes name f e = rw e refl

blank_past : (t : Layout) (f : Place) → header_width t.family ≤ f.offset → blank_value t f ≡ unset_value f.kind f.null f.width
unfolding blank_value header_width
blank_past t f h =
    let a : (f.offset == 0) ≡ false = unequal f.offset 0 (λ s. omega arith) in
    let b : (f.offset == length_width t.family) ≡ false = unequal f.offset (length_width t.family) (λ s. omega arith) in
    rw (a, b) refl

pub is_written : (layouts : List Layout) (role : Role) (t : Layout) (ps : List (FieldName × Scalar)) → Named layouts role t → AreSaid layouts role ps → AreSized ps
    → IsWritten layouts role ps (filled t (puts layouts role ps))
is_written layouts role t ps named can sized =
    let may = may_put_each layouts role t ps ps named can sized (λ p c. c) in
    let spells = filled_spells t (puts layouts role ps) named.layout may in
    let has = filled_carries t (puts layouts role ps) named.layout may in
    let b : List ℕ = filled t (puts layouts role ps) in
    record {
      message = (t, named.found, spells.fits);
      whole = λ s e. (let is : t ≡ s = same_Some t s (sym named.found ∙ e) in let P : Layout → Type 0 = λ x. Spells x (record_of x (puts layouts role ps)) b × (length b ≡ x.size) in subst P is (spells, has.size));
      says = record {
        each = λ k p e.
            let c = contains_at ps k p e in
            let (f, at) = place_there layouts role t p.0 named.found named.holds (each_sayable role ps p can.fit c).there in
            let there = place_contains layouts role t p.0 f named.found at in
            let P : Value → Type 0 = λ v. FieldSpells f v b in
            let s = subst P (last_said layouts role t ps k p f (blank_value t f) named can.fit e at) (has.each f there) in
            said_at layouts role b p.0 f at ∙ value_read f p.1 b (named.layout.places f there).some (may_have layouts role t ps p f named can c at) (sized.each p c) s;
      };
      unset = λ name f at free.
          let there = place_contains layouts role t name f named.found at in
          let place = named.layout.places f there in
          let header = among_front name (map (λ (q : FieldName × Scalar). q.0) ps) free in
          let past = past_header t (family_of role) name f named.layout named.family header.0 (sym (place_layout layouts role t name named.found) ∙ at) in
          let P : Value → Type 0 = λ v. FieldSpells f v b in
          let s = subst P (last_none layouts role t ps name f (blank_value t f) named at header.1 ∙ blank_past t f past) (has.each f there) in
          said_at layouts role b name f at ∙ unset_read f.kind f.null f b place.some refl refl place s;
    }

-- ---- one more after others

puts_append : (layouts : List Layout) (role : Role) (ps qs : List (FieldName × Scalar)) → puts layouts role (ps ++ qs) ≡ puts layouts role ps ++ puts layouts role qs
unfolding puts
puts_append layouts role [] qs = refl
puts_append layouts role (p ∷ ps) qs =
    ap (λ (r : List Put). option_map_or (λ (f : Place). record { place = f; value = value_of p.1 } ∷ []) (place_in layouts role p.0) [] ++ r) (puts_append layouts role ps qs)
    ∙ sym (append_assoc (option_map_or (λ (f : Place). record { place = f; value = value_of p.1 } ∷ []) (place_in layouts role p.0) []) (puts layouts role ps) (puts layouts role qs))

-- ---- what is finished

pub record IsFinished (layouts : List Layout) (role : Role) (ps : List (FieldName × Scalar)) (size : ℕ) (out new : List ℕ) : Type 0 where
  pub bytes : new ≡ message_saying layouts role ps ++ drop size out
  pub written : IsWritten layouts role ps (take size new)
  pub rest : drop size new ≡ drop size out

pub all_finished : (layouts : List Layout) (role : Role) (t : Layout) (ps qs : List (FieldName × Scalar)) (size : ℕ) (out new : List ℕ) → Named layouts role t → AreSaid layouts role ps → qs ≡ ps → AreSized qs
    → size ≡ t.size → new ≡ written t (puts layouts role qs) out → IsFinished layouts role ps size out new
unfolding message_saying
all_finished layouts role t ps qs size out new named can same sized es e =
    let P : List (FieldName × Scalar) → Type 0 = λ l. AreSized l in
    let all = subst P same sized in
    let may = may_put_each layouts role t ps ps named can all (λ p c. c) in
    let whole : new ≡ written t (puts layouts role ps) out = e ∙ ap (λ (l : List (FieldName × Scalar)). written t (puts layouts role l) out) same in
    let done = finished t (puts layouts role ps) out new named.layout may whole in
    let message : option_map_or (λ (x : Layout). filled x (puts layouts role ps)) (find_role layouts role) [] ≡ filled t (puts layouts role ps) =
    ap (λ (o : Option Layout). option_map_or (λ (x : Layout). filled x (puts layouts role ps)) o []) named.found in
    let Q : List ℕ → Type 0 = λ b. IsWritten layouts role ps b in
    let R : ℕ → Type 0 = λ n. IsFinished layouts role ps n out new in
    subst R (sym es) (record {
      bytes = whole ∙ written_over t (puts layouts role ps) out named.layout may ∙ ap (λ (b : List ℕ). b ++ drop t.size out) (sym message);
      written = subst Q (sym done.filled_is) (is_written layouts role t ps named can all);
      rest = done.tail;
    })

-- ---- in a whole table

find_passes : {X : Type 0} (p : X → Bool) (xs : List X) (x : X) → find p xs ≡ Some x → (p x ≡ true) × Contains xs x
find_passes p [] x e = cc e
find_passes p (y ∷ ys) x e = by (p y) refl e (find_passes p ys x)
  where
    by : (b : Bool) → p y ≡ b → cond b (Some y) (find p ys) ≡ Some x → (find p ys ≡ Some x → (p x ≡ true) × Contains ys x) → (p x ≡ true) × Contains (y ∷ ys) x
    by true q h more = let s : y ≡ x = cc h in (ap p (sym s) ∙ q, (0, omega arith, s))
    by false q h more = let r = more h in let (k, inside, is) = r.1 in (r.0, (suc k, omega arith, is))

same_families : (a b : Family) → same_family a b ≡ true → a ≡ b
unfolding same_family family_text
same_families Eti Eti e = refl
same_families Eti Eobi e = cc e
same_families Eobi Eti e = cc e
same_families Eobi Eobi e = refl

pub named_in : (layouts : List Layout) (role : Role) → IsTable layouts → (t : Layout) × Named layouts role t
unfolding holds_role find_role is_layout_of
named_in layouts role table = by (find_role layouts role) refl
  where
    by : (o : Option Layout) → find_role layouts role ≡ o → (t : Layout) × Named layouts role t
    by None e =
        let h : option_map_or (λ (t : Layout). list_all (λ name. is_some (find_field (family_of role) name t.names t.fields)) (required role)) (find_role layouts role) false ≡ true = table.roles role in
        let none = ap (λ (o : Option Layout). option_map_or (λ (t : Layout). list_all (λ name. is_some (find_field (family_of role) name t.names t.fields)) (required role)) o false) e in
        cc (h, none)
    by (Some t) e =
        let r = find_passes (is_layout_of role) layouts t e in
        let s = both (same_family t.family (family_of role)) _ r.0 in
        (t, record { found = e; layout = table.whole t r.1; family = same_families t.family (family_of role) s.0; holds = table.roles role })

pub message_written : (layouts : List Layout) (role : Role) (ps : List (FieldName × Scalar)) → IsTable layouts → AreSaid layouts role ps → AreSized ps → IsWritten layouts role ps (message_saying layouts role ps)
unfolding message_saying
message_written layouts role ps table can sized =
    let (t, named) = named_in layouts role table in
    let message : option_map_or (λ (x : Layout). filled x (puts layouts role ps)) (find_role layouts role) [] ≡ filled t (puts layouts role ps) =
    ap (λ (o : Option Layout). option_map_or (λ (x : Layout). filled x (puts layouts role ps)) o []) named.found in
    let Q : List ℕ → Type 0 = λ b. IsWritten layouts role ps b in
    subst Q (sym message) (is_written layouts role t ps named can sized)

pos_same : {a b : ℕ} → pos a ≡ pos b → a ≡ b
pos_same e = cc e

ordinary_not : (k : Kind) (w : ℕ) (n : Scalar) (z : ℤ) → k ≡ number_kind n → w ≡ number_width n → IsOrdinary n → IsExtreme k w z → z ≢ meaning n
unfolding number_kind number_width meaning IsOrdinary
ordinary_not k w (number.Byte n) z e s o x same = let P : Kind → Type 0 = λ q. IsExtreme q w z in let y : z ≡ pos (256 ^ w - 1) = subst P e x in o (pos_same (sym same ∙ y ∙ ap (λ (v : ℕ). pos (256 ^ v - 1)) s))
ordinary_not k w (number.Half n) z e s o x same = let P : Kind → Type 0 = λ q. IsExtreme q w z in let y : z ≡ pos (256 ^ w - 1) = subst P e x in o (pos_same (sym same ∙ y ∙ ap (λ (v : ℕ). pos (256 ^ v - 1)) s))
ordinary_not k w (number.Word n) z e s o x same = let P : Kind → Type 0 = λ q. IsExtreme q w z in let y : z ≡ pos (256 ^ w - 1) = subst P e x in o (pos_same (sym same ∙ y ∙ ap (λ (v : ℕ). pos (256 ^ v - 1)) s))
ordinary_not k w (number.Long n) z e s o x same = let P : Kind → Type 0 = λ q. IsExtreme q w z in let y : z ≡ pos (256 ^ w - 1) = subst P e x in o (pos_same (sym same ∙ y ∙ ap (λ (v : ℕ). pos (256 ^ v - 1)) s))
ordinary_not k w (number.SignedWord n) z e s o x same = let P : Kind → Type 0 = λ q. IsExtreme q w z in let y : z ≡ neg_ℤ (pos (256 ^ w / 2)) = subst P e x in o (sym same ∙ y ∙ ap (λ (v : ℕ). neg_ℤ (pos (256 ^ v / 2))) s)
ordinary_not k w (number.Signed n) z e s o x same = let P : Kind → Type 0 = λ q. IsExtreme q w z in let y : z ≡ neg_ℤ (pos (256 ^ w / 2)) = subst P e x in o (sym same ∙ y ∙ ap (λ (v : ℕ). neg_ℤ (pos (256 ^ v / 2))) s)
ordinary_not k w (number.Raw n) z e s o x same = let P : Kind → Type 0 = λ q. IsExtreme q w z in subst P e x

pub ordinary_known : (layouts : List Layout) (role : Role) (ps : List (FieldName × Scalar)) → IsTable layouts → can_say_each role ps ≡ true → AreOrdinary ps → AreKnown layouts role ps
ordinary_known layouts role ps table fit ordinary = record {
  each = λ p c f e.
      let (t, named) = named_in layouts role table in
      let s = each_sayable role ps p fit c in
      let is = found_place (family_of role) p.0 t.names t.fields f (sym (place_layout layouts role t p.0 named.found) ∙ e) in
      let extreme = (table.nulls role p.0 f s.there e).extreme in
      λ null. ordinary_not f.kind f.width p.1 (meaning p.1) (is.kind ∙ s.kind) (is.width ∙ s.width) (ordinary.each p c) (some_extreme f (meaning p.1) null extreme) refl;
}
  where
    some_extreme : (f : Place) (z : ℤ) → f.null ≡ Some z → IfSome f.null (IsExtreme f.kind f.width) → IsExtreme f.kind f.width z
    some_extreme f z null h = rw null at h

-- ---- one that is said after others

each_can : (role : Role) (ps : List (FieldName × Scalar)) (p : FieldName × Scalar) → can_say_each role ps ≡ true → Contains ps p → can_say role p ≡ true
unfolding can_say_each
each_can role [] p e c = let (k, inside, is) = c in absurd (omega arith)
each_can role (q ∷ ps) p e (zero, inside, is) = let a = both (can_say role q) _ e in ap (can_say role) (sym is) ∙ a.0
each_can role (q ∷ ps) p e (suc k, inside, is) =
    let a = both (can_say role q) _ e in
    let b = both (not (is_among q.0 (map (λ (q : FieldName × Scalar). q.0) ps))) (can_say_each role ps) a.1 in
    each_can role ps p b.1 (k, omega arith, is)

-- one of those that may be said together may be said alone
pub one_said : (layouts : List Layout) (role : Role) (ps : List (FieldName × Scalar)) (p : FieldName × Scalar) → AreSaid layouts role ps → Contains ps p → AreSaid layouts role (p ∷ [])
unfolding can_say_each is_among
one_said layouts role ps p can c = record {
  fit = rw (each_can role ps p can.fit c) refl;
  known = record { each = λ q d. (let P : FieldName × Scalar → Type 0 = λ x. (f : Place) → place_in layouts role x.0 ≡ Some f → f.null ≢ Some (meaning x.1) in subst P (only q d) (can.known.each p c)) };
}
  where
    only : (q : FieldName × Scalar) → Contains (p ∷ []) q → p ≡ q
    only q (zero, inside, is) = is
    only q (suc k, inside, is) = absurd (omega arith)

-- the same, by the place of it
pub alone_at : (layouts : List Layout) (role : Role) (ps : List (FieldName × Scalar)) (k : ℕ) (p : FieldName × Scalar) → AreSaid layouts role ps → slice_get ps k ≡ Some p → AreSaid layouts role (p ∷ [])
alone_at layouts role ps k p can e = one_said layouts role ps p can (contains_at ps k p e)

pub size_is : (layouts : List Layout) (role : Role) (t : Layout) → find_role layouts role ≡ Some t → role_size layouts role ≡ t.size
size_is layouts role t e = ap (λ (o : Option Layout). option_map_or (λ (t : Layout). t.size) o 0) e

room_for : (family : Family) (size n : ℕ) → size ≤ 1024 → (family ≡ Eobi → size ≤ 128) → longest family ≤ n → size ≤ n
unfolding longest
room_for Eti size n long short h = omega arith
room_for Eobi size n long short h = let s = short refl in omega arith

-- there is room for a message of a role where there is for the longest of its family
pub role_room : (layouts : List Layout) (role : Role) (n : ℕ) → IsTable layouts → longest (family_of role) ≤ n → role_size layouts role ≤ n
role_room layouts role n table h =
    let (t, named) = named_in layouts role table in
    rw (size_is layouts role t named.found) (room_for (family_of role) t.size n named.layout.short (table.short role t named.found) h)

-- a field of a role lies within its message
pub field_room : (layouts : List Layout) (role : Role) (p : FieldName × Scalar) (f : Place) (n : ℕ) → IsTable layouts → AreSaid layouts role (p ∷ []) → place_in layouts role p.0 ≡ Some f → role_size layouts role ≤ n
    → f.offset + number_width p.1 ≤ n
field_room layouts role p f n table can at room =
    let (t, named) = named_in layouts role table in
    let there = place_contains layouts role t p.0 f named.found at in
    let may = may_have layouts role t (p ∷ []) p f named can (0, omega arith, refl) at in
    let size = size_is layouts role t named.found in
    let span = named.layout.spans f there in
    let place = named.layout.places f there in
    let within = place.within in
    let wide = may.width in
    omega arith

scalar_is : (f : Place) (n : Scalar) → MayHave f n → value_bytes f (value_of n) ≡ scalar_bytes n
unfolding value_bytes value_of scalar_bytes number_width meaning
scalar_is f (number.Byte n) may = ap (λ (w : ℕ). number_bytes w (pos n)) may.width
scalar_is f (number.Half n) may = ap (λ (w : ℕ). number_bytes w (pos n)) may.width
scalar_is f (number.Word n) may = ap (λ (w : ℕ). number_bytes w (pos n)) may.width
scalar_is f (number.Long n) may = ap (λ (w : ℕ). number_bytes w (pos n)) may.width
scalar_is f (number.SignedWord z) may = ap (λ (w : ℕ). number_bytes w z) may.width
scalar_is f (number.Signed z) may = ap (λ (w : ℕ). number_bytes w z) may.width
scalar_is f (number.Raw n) may = refl

sized_append : (ps : List (FieldName × Scalar)) (p : FieldName × Scalar) → AreSized ps → IsSized p.1 → AreSized (ps ++ (p ∷ []))
sized_append ps p so here = record { each = λ q c. by q (Contains-append_cases ps (p ∷ []) q c) }
  where
    by : (q : FieldName × Scalar) → Contains ps q ⊎ Contains (p ∷ []) q → IsSized q.1
    by q (inl c) = so.each q c
    by q (inr (zero, inside, is)) = let P : FieldName × Scalar → Type 0 = λ x. IsSized x.1 in subst P is here
    by q (inr (suc k, inside, is)) = absurd (omega arith)

one_puts : (layouts : List Layout) (role : Role) (p : FieldName × Scalar) (f : Place) → place_in layouts role p.0 ≡ Some f → puts layouts role (p ∷ []) ≡ record { place = f; value = value_of p.1 } ∷ []
unfolding puts
one_puts layouts role p f e = ap (λ (o : Option Place). option_map_or (λ (g : Place). record { place = g; value = value_of p.1 } ∷ []) o [] ++ []) e

-- where a number is written in its field, it is said
pub adds : (layouts : List Layout) (role : Role) (p : FieldName × Scalar) (f : Place) (now next : List ℕ) → IsTable layouts → AreSaid layouts role (p ∷ []) → place_in layouts role p.0 ≡ Some f → IsSized p.1
    → next ≡ patch f.offset (scalar_bytes p.1) now → AddsSaid layouts role p now next
adds layouts role p f now next table can at sized e ps old so = record {
  sized = sized_append ps p so.sized sized;
  bytes = λ t found. at_layout t found;
}
  where
    at_layout : (t : Layout) → find_role layouts role ≡ Some t → next ≡ written t (puts layouts role (ps ++ (p ∷ []))) old
    at_layout t found =
        let (s, named) = named_in layouts role table in
        let may = may_have layouts role s (p ∷ []) p f named can (0, omega arith, refl) at in
        let put : Put = record { place = f; value = value_of p.1 } in
        e ∙ ap (λ (b : List ℕ). patch f.offset b now) (sym (scalar_is f p.1 may)) ∙ written_put t (puts layouts role ps) put old now (so.bytes t found)
        ∙ ap (λ (qs : List Put). written t qs old) (ap (λ (qs : List Put). puts layouts role ps ++ qs) (sym (one_puts layouts role p f at)) ∙ sym (puts_append layouts role ps (p ∷ [])))

-- what is said so far is a whole message
pub said_finished : (layouts : List Layout) (role : Role) (ps : List (FieldName × Scalar)) (size : ℕ) (out new : List ℕ) → IsTable layouts → AreSaid layouts role ps → size ≡ role_size layouts role
    → SaysSoFar layouts role ps out new → IsFinished layouts role ps size out new
said_finished layouts role ps size out new table can es so =
    let (t, named) = named_in layouts role table in
    all_finished layouts role t ps ps size out new named can refl so.sized (es ∙ size_is layouts role t named.found) (so.bytes t named.found)

pub take_more : (ps : List (FieldName × Scalar)) (i : ℕ) (d : FieldName × Scalar) → i < length ps → take i ps ++ (get_or ps i d ∷ []) ≡ take (i + 1) ps
take_more ps i d h = rw (add-one i) (sym (take-suc ps i d h))
