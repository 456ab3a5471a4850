-- What a template of a layout table says, and what every template keeps.
use Rattle.std.specs.Prelude.{ℕ, ◌+◌, ◌-◌, ◌/◌, ◌%◌, ◌^◌, ◌<◌, ◌≤◌, ◌≡◌, ◌≢◌, ◌⊎◌, List, [], ◌∷◌, Option, Some, None, ℤ, pos, neg_ℤ, true, Contains, IfSome, length, slice_get}
use Rattle.std.specs.List.{IsDistinct}
use Rattle.std.specs.Str.{bytes_eq}
use Rattle.t7_layout.specs.declared.words.Kind.TheVariants.{Unsigned, Signed, Raw}
use Rattle.t7_layout.specs.declared.words.Family.{Family}
use Rattle.t7_layout.specs.declared.words.Family.TheVariants.{Eobi}
use Rattle.t7_layout.specs.declared.words.Kind.{Kind}
use Rattle.t7_layout.specs.declared.roles.FieldName.{FieldName}
use Rattle.t7_layout.specs.declared.roles.FieldName.TheVariants.{BodyLen, TemplateID, MsgSeqNum}
use Rattle.t7_layout.specs.Roles.{field_text, width_in}
use Rattle.t7_layout.specs.Rows.{is_name}

-- where a field lies in its template, how its bytes are read, which number stands for no value, and how long its template is
pub record Place : Type 0 where
  pub offset : ℕ
  pub width : ℕ
  pub kind : Kind
  pub null : Option ℤ
  pub span : ℕ

-- a template, with the names of its fields and their places in order
pub record Layout : Type 0 where
  pub family : Family
  pub id : ℕ
  pub name : List ℕ
  pub size : ℕ
  pub names : List (List ℕ)
  pub fields : List Place

-- the widths of numbers
abbrev pub IsNumberWidth : ℕ → Type 0
IsNumberWidth width = (width ≡ 1) ⊎ ((width ≡ 2) ⊎ ((width ≡ 4) ⊎ (width ≡ 8)))

-- a number that the bytes of a field can spell; a signed one is below half of all that they spell, or goes as far as that half below 0
abbrev pub IsInRange : Kind → ℕ → ℤ → Type 0
IsInRange Unsigned width z = (n : ℕ) × (n < 256 ^ width) × (z ≡ pos n)
IsInRange Signed width z = ((n : ℕ) × (n < 256 ^ width / 2) × (z ≡ pos n)) ⊎ ((n : ℕ) × (n ≤ 256 ^ width / 2) × (z ≡ neg_ℤ (pos n)))
IsInRange Raw width z = ⊥

-- the greatest unsigned number of a width, or the least signed one
abbrev pub IsExtreme : Kind → ℕ → ℤ → Type 0
IsExtreme Unsigned width z = z ≡ pos (256 ^ width - 1)
IsExtreme Signed width z = z ≡ neg_ℤ (pos (256 ^ width / 2))
IsExtreme Raw width z = ⊥

-- a field has bytes, and lies within its template; a number has 1, 2, 4 or 8; its bytes can spell its null, and bytes that are no number have none
pub record IsPlace (f : Place) : Type 0 where
  pub some : 1 ≤ f.width
  pub within : f.offset + f.width ≤ f.span
  pub narrow : f.kind ≢ Raw → f.width ≤ 8
  pub number : f.kind ≢ Raw → IsNumberWidth f.width
  pub null : IfSome f.null (IsInRange f.kind f.width)

-- fields that lie one after another, from a place to another
abbrev pub LaidOut : ℕ → List Place → ℕ → Type 0
LaidOut from [] to = from ≡ to
LaidOut from (f ∷ fs) to = (f.offset ≡ from) × LaidOut (from + f.width) fs to

-- the field at a place of a template is the one of this name in its family's header, an unsigned number at this offset
pub record IsHeaderField (t : Layout) (place : ℕ) (name : FieldName) (offset : ℕ) (field : Place) : Type 0 where
  pub there : slice_get t.fields place ≡ Some field
  pub named : slice_get t.names place ≡ Some (field_text name)
  pub offset_is : field.offset ≡ offset
  pub width_is : field.width ≡ width_in t.family name
  pub kind_is : field.kind ≡ Unsigned

-- a template begins with the message's length and the template's id, which are never null; in market data the message's number follows
pub record HasHeader (t : Layout) : Type 0 where
  pub body : Place
  pub body_is : IsHeaderField t 0 BodyLen 0 body
  pub body_null : body.null ≡ None
  pub id : Place
  pub id_is : IsHeaderField t 1 TemplateID (width_in t.family BodyLen) id
  pub id_null : id.null ≡ None
  pub number : t.family ≡ Eobi → (f : Place) × IsHeaderField t 2 MsgSeqNum 4 f

-- what every template keeps: its id, name and length are in their ranges, and its fields fill it without holes or overlaps, each of one name
pub record IsLayout (t : Layout) : Type 0 where
  pub id_some : 1 ≤ t.id
  pub id_fits : t.id < 65536
  pub name : is_name t.name ≡ true
  pub long : 8 ≤ t.size
  pub short : t.size ≤ 1024
  pub eights : t.size % 8 ≡ 0
  pub spans : (f : Place) → Contains t.fields f → f.span ≡ t.size
  pub places : (f : Place) → Contains t.fields f → IsPlace f
  pub laid : LaidOut 0 t.fields t.size
  pub header : HasHeader t
  pub each_named : length t.names ≡ length t.fields
  pub distinct : IsDistinct bytes_eq t.names
