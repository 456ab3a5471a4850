-- What a field's bytes are read as is the value that they spell.
use Rattle.std.proofs.Common.{◌≡◌, ◌≢◌, ◌<◌, ◌≤◌, ◌+◌, ◌^◌, ◌∙◌, ℕ, zero, suc, List, [], ◌∷◌, Bool, true, false, Option, Some, None, refl, sym, ap, subst, cond, slice_get, slice_index, map, take, drop, length, length-take, length-drop, arith}
use Rattle.std.specs.Prelude.{pos, negsuc, ℤ, option_map, Contains}
use Rattle.std.specs.Ordering.{int_eq}
use Rattle.std.specs.Option.{option_eq}
use Rattle.std.proofs.lemmas.Bool.Decides.{Decides-int_eq}
use Rattle.byteorder.specs.Endian.{little_bytes, little_number, twos_complement}
use Rattle.byteorder.specs.Numbers.{little_from-lt}
use Rattle.t7_layout.specs.Layouts.{IsLayout, Layout, Place}
use Rattle.t7_layout.specs.declared.words.Kind.{Kind}
use Rattle.t7_layout.specs.declared.words.Kind.TheVariants.{Unsigned, Signed, Raw}
use Rattle.t7_fields.specs.Spelling.{IsHeld, complement, number_bytes, EachSpells, FieldSpells, Fits, HasNumber, Spells, template_id, Value, Number, Bytes, known_signed, known_unsigned, raw_at, signed_at, unsigned_at}
use Rattle.t7_fields.specs.Messages.{number_as, number_at}
use Rattle.t7_fields.specs.Records.{record_in, value_as}
use Rattle.t7_layout.proofs.ImageFacts.{not_raw}
use Rattle.t7_layout.proofs.BytesFacts.{bytes_again, complement_again, complement_fits, number_again, signed_again}

is_null : (o : Option ℤ) (z : ℤ) → option_eq int_eq o (Some z) ≡ true → o ≡ Some z
is_null None z h = cc h
is_null (Some y) z h = ap (λ (x : ℤ). Some x) ((Decides-int_eq y z).0 h)

null_is : (o : Option ℤ) (z : ℤ) → o ≡ Some z → option_eq int_eq o (Some z) ≡ true
null_is o z e = rw e ((Decides-int_eq z z).1 refl)

pub not_null : (o : Option ℤ) (z : ℤ) → o ≢ Some z → option_eq int_eq o (Some z) ≡ false
not_null o z h = by (option_eq int_eq o (Some z)) refl
  where
    by : (b : Bool) → option_eq int_eq o (Some z) ≡ b → b ≡ false
    by true e = absurd (h (is_null o z e))
    by false e = refl

-- a number, where it is not a field's null
pub known : Option ℤ → ℤ → Option ℤ
known null z = cond (option_eq int_eq null (Some z)) None (Some z)

pub known_number : (null : Option ℤ) (z : ℤ) → null ≢ Some z → known null z ≡ Some z
unfolding known
known_number null z h = rw (not_null null z h) refl

pub known_null : (null : Option ℤ) (z : ℤ) → null ≡ Some z → known null z ≡ None
unfolding known
known_null null z h = rw (null_is null z h) refl

-- the bytes of a number are read as it
pub record IsReadAs (f : Place) (b : List ℕ) (z : ℤ) : Type 0 where
  pub reads : number_at f b ≡ known f.null z

number_read : (k : Kind) (f : Place) (z : ℤ) (b : List ℕ) → 1 ≤ f.width → IsHeld k f.width z → raw_at f b ≡ number_bytes f.width z → number_as k f b ≡ known f.null z
unfolding IsHeld number_as number_bytes complement known_unsigned known_signed unsigned_at signed_at known
number_read Unsigned f (pos n) b low h e =
    let s : little_number f.width (raw_at f b) ≡ n = ap (little_number f.width) e ∙ number_again f.width n h in
    rw s (by (option_eq int_eq f.null (Some (pos n))))
  where
    by : (t : Bool) → option_map pos (cond t None (Some n)) ≡ cond t None (Some (pos n))
    by true = refl
    by false = refl
number_read Unsigned f (negsuc n) b low h e = absurd h
number_read Signed f z b low h e =
    let fits = complement_fits Signed f.width z low h in
    let s : little_number f.width (raw_at f b) ≡ complement f.width z = ap (little_number f.width) e ∙ number_again f.width (complement f.width z) fits in
    rw (s, signed_again f.width z low h) refl
number_read Raw f (pos n) b low h e = absurd h
number_read Raw f (negsuc n) b low h e = absurd h

pub has_reads : (f : Place) (z : ℤ) (b : List ℕ) → 1 ≤ f.width → HasNumber f z b → number_at f b ≡ known f.null z
unfolding number_at
has_reads f z b low h = number_read f.kind f z b low h.held h.bytes

-- a number or nothing that a field's bytes spell is what they are read as
pub number_spelled : (f : Place) (o : Option ℤ) (b : List ℕ) → 1 ≤ f.width → FieldSpells f (Number o) b → number_at f b ≡ o
number_spelled f (Some z) b low s = has_reads f z b low s.0 ∙ known_number f.null z s.1
number_spelled f None b low s = let (z, null, has) = s in has_reads f z b low has ∙ known_null f.null z null

-- a field's bytes spell one value
pub one_value : (f : Place) (v w : Value) (b : List ℕ) → 1 ≤ f.width → FieldSpells f v b → FieldSpells f w b → v ≡ w
one_value f (Number o) (Number p) b low s t = ap (λ (x : Option ℤ). Number x) (sym (number_spelled f o b low s) ∙ number_spelled f p b low t)
one_value f (Number (Some z)) (Bytes ys) b low s t = absurd (not_raw f.kind f.width z t.0 s.0.held)
one_value f (Number None) (Bytes ys) b low s t = let (z, null, has) = s in absurd (not_raw f.kind f.width z t.0 has.held)
one_value f (Bytes xs) (Number (Some z)) b low s t = absurd (not_raw f.kind f.width z s.0 t.0.held)
one_value f (Bytes xs) (Number None) b low s t = let (z, null, has) = t in absurd (not_raw f.kind f.width z s.0 has.held)
one_value f (Bytes xs) (Bytes ys) b low s t = ap (λ (x : List ℕ). Bytes x) (sym s.1 ∙ t.1)

-- a field of a record has a value that its bytes spell
pub record IsSpelledAt (r : List Value) (k : ℕ) (f : Place) (b : List ℕ) (v : Value) : Type 0 where
  pub there : slice_get r k ≡ Some v
  pub spells : FieldSpells f v b

pub spelled_at : (fs : List Place) (r : List Value) (b : List ℕ) (k : ℕ) (f : Place) → EachSpells fs r b → slice_get fs k ≡ Some f → (v : Value) × IsSpelledAt r k f b v
unfolding EachSpells
spelled_at [] r b k f s e = cc e
spelled_at (g ∷ fs) [] b k f s e = absurd s
spelled_at (g ∷ fs) (v ∷ vs) b zero f s e = let same : g ≡ f = cc e in let P : Place → Type 0 = λ p. FieldSpells p v b in (v, record { there = refl; spells = subst P same s.0 })
spelled_at (g ∷ fs) (v ∷ vs) b (suc k) f s e = let (w, at) = spelled_at fs vs b k f s.1 e in (w, record { there = at.there; spells = at.spells })

-- a field of numbers has the number that its bytes are read as
pub number_is : (f : Place) (v : Value) (b : List ℕ) → 1 ≤ f.width → f.kind ≢ Raw → FieldSpells f v b → v ≡ Number (number_at f b)
number_is f (Number o) b low k s = ap (λ (x : Option ℤ). Number x) (sym (number_spelled f o b low s))
number_is f (Bytes xs) b low k s = absurd (k s.0)

pub bytes_are : (f : Place) (v : Value) (b : List ℕ) → f.kind ≡ Raw → FieldSpells f v b → v ≡ Bytes (raw_at f b)
bytes_are f (Number (Some z)) b k s = absurd (not_raw f.kind f.width z k s.0.held)
bytes_are f (Number None) b k s = let (z, null, has) = s in absurd (not_raw f.kind f.width z k has.held)
bytes_are f (Bytes xs) b k s = ap (λ (x : List ℕ). Bytes x) (sym s.1)

-- bytes spell one record
pub one_each : (fs : List Place) (r s : List Value) (b : List ℕ) → ((k : ℕ) (f : Place) → slice_get fs k ≡ Some f → 1 ≤ f.width) → EachSpells fs r b → EachSpells fs s b → r ≡ s
unfolding EachSpells
one_each [] [] [] b low x y = refl
one_each [] [] (w ∷ ws) b low x y = absurd y
one_each [] (v ∷ vs) s b low x y = absurd x
one_each (f ∷ fs) [] s b low x y = absurd x
one_each (f ∷ fs) (v ∷ vs) [] b low x y = absurd y
one_each (f ∷ fs) (v ∷ vs) (w ∷ ws) b low x y =
    let here = one_value f v w b (low 0 f refl) x.0 y.0 in
    let rest = one_each fs vs ws b (λ k g e. low (suc k) g e) x.1 y.1 in
    cc (here, rest)

-- an item of a list is in it
pub contains_at : {X : Type 0} (xs : List X) (k : ℕ) (x : X) → slice_get xs k ≡ Some x → Contains xs x
contains_at [] k x e = cc e
contains_at (y ∷ ys) zero x e = let same : y ≡ x = cc e in (0, omega arith, same)
contains_at (y ∷ ys) (suc k) x e = let (j, inside, is) = contains_at ys k x e in (suc j, omega arith, is)

-- the values that a record has at a field
pub unsigned_spelled : (fs : List Place) (r : List Value) (b : List ℕ) (k : ℕ) (f : Place) → 1 ≤ f.width → f.kind ≡ Unsigned → EachSpells fs r b → slice_get fs k ≡ Some f
    → slice_get r k ≡ Some (Number (option_map pos (known_unsigned f (unsigned_at f b))))
unfolding number_at number_as
unsigned_spelled fs r b k f low kind s e =
    let (v, at) = spelled_at fs r b k f s e in
    let is = number_is f v b low (λ raw. cc (raw, kind)) at.spells in
    let same : number_as f.kind f b ≡ number_as Unsigned f b = ap (λ (x : Kind). number_as x f b) kind in
    at.there ∙ ap (λ (x : Value). Some x) is ∙ ap (λ (x : Option ℤ). Some (Number x)) same

pub signed_spelled : (fs : List Place) (r : List Value) (b : List ℕ) (k : ℕ) (f : Place) → 1 ≤ f.width → f.kind ≡ Signed → EachSpells fs r b → slice_get fs k ≡ Some f
    → slice_get r k ≡ Some (Number (known_signed f (signed_at f b)))
unfolding number_at number_as
signed_spelled fs r b k f low kind s e =
    let (v, at) = spelled_at fs r b k f s e in
    let is = number_is f v b low (λ raw. cc (raw, kind)) at.spells in
    let same : number_as f.kind f b ≡ number_as Signed f b = ap (λ (x : Kind). number_as x f b) kind in
    at.there ∙ ap (λ (x : Value). Some x) is ∙ ap (λ (x : Option ℤ). Some (Number x)) same

pub raw_spelled : (fs : List Place) (r : List Value) (b : List ℕ) (k : ℕ) (f : Place) → f.kind ≡ Raw → EachSpells fs r b → slice_get fs k ≡ Some f
    → slice_get r k ≡ Some (Bytes (raw_at f b))
raw_spelled fs r b k f kind s e =
    let (v, at) = spelled_at fs r b k f s e in
    at.there ∙ ap (λ (x : Value). Some x) (bytes_are f v b kind at.spells)

-- the record that bytes are read as is one that they spell
part_low : (o w : ℕ) (b : List ℕ) → ((i : ℕ) → slice_index b i < 256) → (i : ℕ) → slice_index (take w (drop o b)) i < 256
part_low zero zero b low i = omega arith
part_low zero (suc w) [] low i = omega arith
part_low zero (suc w) (x ∷ xs) low zero = low 0
part_low zero (suc w) (x ∷ xs) low (suc i) = part_low zero w xs (λ k. low (suc k)) i
part_low (suc o) zero [] low i = omega arith
part_low (suc o) (suc w) [] low i = omega arith
part_low (suc o) w (x ∷ xs) low i = part_low o w xs (λ k. low (suc k)) i

pub part_length : (f : Place) (b : List ℕ) → f.offset + f.width ≤ length b → length (raw_at f b) ≡ f.width
unfolding raw_at
part_length f b h = omega (arith, length-take f.width (drop f.offset b), length-drop f.offset b)

pub record IsOfBytes (f : Place) (b : List ℕ) : Type 0 where
  pub small : unsigned_at f b < 256 ^ f.width
  pub again : little_bytes f.width (unsigned_at f b) ≡ raw_at f b

of_bytes : (f : Place) (b : List ℕ) → ((i : ℕ) → slice_index b i < 256) → f.offset + f.width ≤ length b → IsOfBytes f b
unfolding unsigned_at raw_at
of_bytes f b low h =
    let wide = part_length f b h in
    let bytes = raw_low f b low in
    let P : ℕ → Type 0 = λ w. little_bytes w (little_number w (raw_at f b)) ≡ raw_at f b in
    record { small = little_from-lt 0 f.width (raw_at f b) bytes; again = subst P wide (bytes_again (raw_at f b) bytes) }
  where
    raw_low : (f : Place) (b : List ℕ) → ((i : ℕ) → slice_index b i < 256) → (i : ℕ) → slice_index (raw_at f b) i < 256
    raw_low f b low = part_low f.offset f.width b low

value_spelled : (k : Kind) (f : Place) (b : List ℕ) → f.kind ≡ k → 1 ≤ f.width → IsOfBytes f b → FieldSpells f (value_as k f b) b
unfolding value_as number_as known_unsigned known_signed signed_at unsigned_at IsHeld number_bytes complement
value_spelled Raw f b e low h = (e, refl)
value_spelled Unsigned f b e low h = by (option_eq int_eq f.null (Some (pos (unsigned_at f b)))) refl
  where
    has : HasNumber f (pos (unsigned_at f b)) b
    has = record { held = (let P : Kind → Type 0 = λ x. IsHeld x f.width (pos (unsigned_at f b)) in subst P (sym e) h.small); bytes = sym h.again }

    by : (t : Bool) → option_eq int_eq f.null (Some (pos (unsigned_at f b))) ≡ t → FieldSpells f (Number (option_map pos (cond t None (Some (unsigned_at f b))))) b
    by true s = (pos (unsigned_at f b), is_null f.null (pos (unsigned_at f b)) s, has)
    by false s = (has, λ same. cc (null_is f.null (pos (unsigned_at f b)) same, s))
value_spelled Signed f b e low h = by (option_eq int_eq f.null (Some (twos_complement f.width (unsigned_at f b)))) refl
  where
    has : HasNumber f (twos_complement f.width (unsigned_at f b)) b
    has =
        let c = complement_again f.width (unsigned_at f b) low h.small in
        record { held = (let P : Kind → Type 0 = λ x. IsHeld x f.width (twos_complement f.width (unsigned_at f b)) in subst P (sym e) c.held); bytes = sym (ap (little_bytes f.width) c.again ∙ h.again) }

    by : (t : Bool) → option_eq int_eq f.null (Some (twos_complement f.width (unsigned_at f b))) ≡ t → FieldSpells f (Number (cond t None (Some (twos_complement f.width (unsigned_at f b))))) b
    by true s = (twos_complement f.width (unsigned_at f b), is_null f.null (twos_complement f.width (unsigned_at f b)) s, has)
    by false s = (has, λ same. cc (null_is f.null (twos_complement f.width (unsigned_at f b)) same, s))

each_read : (fs : List Place) (b : List ℕ) → ((f : Place) → Contains fs f → FieldSpells f (value_as f.kind f b) b) → EachSpells fs (map (λ f. value_as f.kind f b) fs) b
unfolding EachSpells
each_read [] b h = tt
each_read (f ∷ fs) b h = (h f (0, omega arith, refl), each_read fs b (λ p there. let (k, inside, is) = there in h p (suc k, omega arith, is)))

pub read_spells : (t : Layout) (b : List ℕ) → IsLayout t → ((i : ℕ) → slice_index b i < 256) → Fits t b → template_id t.family b ≡ t.id → Spells t (record_in t b) b
unfolding record_in
read_spells t b l low fits id = record {
  fits = fits;
  id = id;
  fields = each_read t.fields b (λ f there. let p = l.places f there in let s = l.spans f there in
      let inside : f.offset + f.width ≤ length b = omega (arith, p.within, fits.room) in
      value_spelled f.kind f b refl p.some (of_bytes f b low inside));
}
