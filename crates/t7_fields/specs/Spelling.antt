-- How the bytes of a message spell a record: the values of a template's fields.
use Rattle.std.specs.Prelude.{ℕ, ◌≡◌, ◌≢◌, ◌≤◌, ◌+◌, ◌-◌, ◌*◌, ◌^◌, ◌<◌, if◌then◌else◌, List, [], ◌∷◌, Option, Some, None, ℤ, pos, negsuc, length, take, drop}
use Rattle.std.specs.Ordering.{int_eq}
use Rattle.std.specs.Option.{option_eq}
use Rattle.byteorder.specs.Endian.{little_bytes, little_number, twos_complement}
unfoldable pub use Rattle.t7_layout.specs.Images.{IsHeld, complement, length_width, number_bytes}
use Rattle.t7_layout.specs.Layouts.{Layout, Place}
use Rattle.t7_layout.specs.declared.words.Family.{Family}
use Rattle.t7_layout.specs.declared.words.Family.TheVariants.{Eti, Eobi}
use Rattle.t7_layout.specs.declared.words.Kind.{Kind}
use Rattle.t7_layout.specs.declared.words.Kind.TheVariants.{Unsigned, Signed, Raw}

-- the bytes of a field
unfoldable pub raw_at : Place → List ℕ → List ℕ
raw_at f b = take f.width (drop f.offset b)

-- where the fields after these two begin
unfoldable pub header_width : Family → ℕ
header_width family = length_width family + 2

-- how long a message says that it is
unfoldable pub body_length : Family → List ℕ → ℕ
body_length family b = little_number (length_width family) b

-- of which template
unfoldable pub template_id : Family → List ℕ → ℕ
template_id family b = little_number 2 (drop (length_width family) b)

-- the bytes are no fewer than the template's, and BodyLen says how many they are
pub record Fits (t : Layout) (b : List ℕ) : Type 0 where
  pub room : t.size ≤ length b
  pub said : body_length t.family b ≡ length b

-- what a record has for a field: a number, or nothing in its place; or bytes
pub data Value : Type 0 where
  Number : Option ℤ → Value
  Bytes : List ℕ → Value

-- a field's bytes are those of a number that it can hold
pub record HasNumber (f : Place) (z : ℤ) (b : List ℕ) : Type 0 where
  pub held : IsHeld f.kind f.width z
  pub bytes : raw_at f b ≡ number_bytes f.width z

-- a field's bytes spell a value: those of a number that is not its null, those of its null, or the raw bytes
abbrev pub FieldSpells : Place → Value → List ℕ → Type 0
FieldSpells f (Number (Some z)) b = HasNumber f z b × (f.null ≢ Some z)
FieldSpells f (Number None) b = (z : ℤ) × (f.null ≡ Some z) × HasNumber f z b
FieldSpells f (Bytes xs) b = (f.kind ≡ Raw) × (raw_at f b ≡ xs)

-- each field's bytes spell its value
unfoldable pub EachSpells : List Place → List Value → List ℕ → Type 0
EachSpells [] [] b = Unit {0}
EachSpells (f ∷ fs) (v ∷ vs) b = FieldSpells f v b × EachSpells fs vs b
EachSpells fs vs b = ⊥

-- the bytes spell a record of the template; those past the template are free
pub record Spells (t : Layout) (r : List Value) (b : List ℕ) : Type 0 where
  pub fits : Fits t b
  pub id : template_id t.family b ≡ t.id
  pub fields : EachSpells t.fields r b

-- the number that a field's bytes read as
unfoldable pub unsigned_at : Place → List ℕ → ℕ
unsigned_at f b = little_number f.width (raw_at f b)

-- in two's complement, where the field is signed
unfoldable pub signed_at : Place → List ℕ → ℤ
signed_at f b = twos_complement f.width (little_number f.width (raw_at f b))

-- a number, where it is not the field's null
unfoldable pub known_unsigned : Place → ℕ → Option ℕ
known_unsigned f n = if option_eq int_eq f.null (Some (pos n)) then None else Some n

-- the same of a signed number
unfoldable pub known_signed : Place → ℤ → Option ℤ
known_signed f z = if option_eq int_eq f.null (Some z) then None else Some z

-- a view: a template, and the bytes that it is laid over
pub record Seen : Type 0 where
  pub layout : Layout
  pub bytes : List ℕ
