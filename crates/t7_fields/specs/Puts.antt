-- What a writer makes of a template: a blank message, in which fields are put.
use Rattle.std.specs.Prelude.{ℕ, ◌≡◌, ◌≢◌, ◌≤◌, ◌+◌, ◌==◌, if◌then◌else◌, List, [], ◌∷◌, ◌++◌, Option, Some, None, ℤ, pos, Contains, length, take, drop, map, replicate}
use Rattle.byteorder.specs.Endian.{little_bytes}
unfoldable pub use Rattle.t7_layout.specs.Images.{blank, null_bytes, patch, unset_bytes}
use Rattle.t7_layout.specs.Layouts.{Layout, Place}
use Rattle.t7_layout.specs.declared.words.Kind.{Kind}
use Rattle.t7_layout.specs.declared.words.Kind.TheVariants.{Raw}
use Rattle.t7_fields.specs.Spelling.{IsHeld, Value, Number, Bytes, Spells, header_width, length_width, number_bytes}

-- a value that is put in a field
pub record Put : Type 0 where
  pub place : Place
  pub value : Value

-- the bytes of a value in a field
unfoldable pub value_bytes : Place → Value → List ℕ
value_bytes f (Number (Some z)) = number_bytes f.width z
value_bytes f (Number None) = null_bytes f.width f.null
value_bytes f (Bytes xs) = xs

-- values put one after another, the last at a field stands
unfoldable pub put_each : List Put → List ℕ → List ℕ
put_each [] b = b
put_each (p ∷ ps) b = put_each ps (patch p.place.offset (value_bytes p.place p.value) b)

-- a message in which these are put
unfoldable pub filled : Layout → List Put → List ℕ
filled t ps = put_each ps (blank t)

-- the same over bytes, of which those past the template stay
unfoldable pub written : Layout → List Put → List ℕ → List ℕ
written t ps out = put_each ps (blank t ++ drop t.size out)

-- where certain values were put over other bytes before, this one is put as well
abbrev pub AddsPut : Layout → Put → List ℕ → List ℕ → Type 0
AddsPut t p old new = (ps : List Put) (out : List ℕ) → old ≡ written t ps out → new ≡ written t (ps ++ (p ∷ [])) out

-- the value of a field that isn't put
unfoldable pub unset_value : Kind → Option ℤ → ℕ → Value
unset_value Raw null width = Bytes (replicate width 0)
unset_value kind None width = Number (Some (pos 0))
unset_value kind (Some z) width = Number None

-- the value of a field in a blank message: BodyLen stands first, and TemplateID behind it
unfoldable pub blank_value : Layout → Place → Value
blank_value t f =
    if f.offset == 0 then Number (Some (pos t.size))
    else if f.offset == length_width t.family then Number (Some (pos t.id))
    else unset_value f.kind f.null f.width

-- the value of a field: the last that was put in it, or else this one
unfoldable pub last_put : Place → List Put → Value → Value
last_put f [] v = v
last_put f (p ∷ ps) v = last_put f ps (if p.place.offset == f.offset then p.value else v)

-- the record of what was put, with every other field unset
unfoldable pub record_of : Layout → List Put → List Value
record_of t ps = map (λ f. last_put f ps (blank_value t f)) t.fields

-- a value may be put in a field: a number that it can hold and that isn't its null, or as many bytes as it has
abbrev pub IsPuttable : Place → Value → Type 0
IsPuttable f (Number (Some z)) = IsHeld f.kind f.width z × (f.null ≢ Some z)
IsPuttable f (Number None) = ⊥
IsPuttable f (Bytes xs) = (f.kind ≡ Raw) × (length xs ≡ f.width)

-- a value may be put in a field of a template, which isn't BodyLen or TemplateID
pub record MayPut (t : Layout) (p : Put) : Type 0 where
  pub there : Contains t.fields p.place
  pub free : header_width t.family ≤ p.place.offset
  pub can : IsPuttable p.place p.value

-- each may be put
pub record MayPutEach (t : Layout) (ps : List Put) : Type 0 where
  pub each : (p : Put) → Contains ps p → MayPut t p

-- where certain values were put over other bytes, the message has their record, and the bytes past it are those that were there
abbrev pub FinishesPuts : Layout → List ℕ → List ℕ → Type 0
FinishesPuts t old new = (ps : List Put) (out : List ℕ) → old ≡ written t ps out → MayPutEach t ps → Spells t (record_of t ps) (take t.size new) × (drop t.size new ≡ drop t.size out)
