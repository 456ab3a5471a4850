-- What the bytes of a message of a role say, by the names of its fields.
use Rattle.std.specs.Prelude.{ℕ, ◌≡◌, ◌==◌, List, Bool, not, Option, Some, ℤ, pos, is_some, option_map, find}
use Rattle.std.specs.List.{list_any}
use Rattle.std.specs.Option.{option_and_then, option_map_or}
use Rattle.byteorder.specs.Endian.{big_number}
use Rattle.t7_layout.specs.declared.words.Kind.{Kind}
use Rattle.t7_layout.specs.declared.words.Kind.TheVariants.{Unsigned, Signed, Raw}
use Rattle.t7_layout.specs.declared.roles.Role.{Role}
use Rattle.t7_layout.specs.declared.roles.FieldName.{FieldName}
use Rattle.t7_layout.specs.Layouts.{Layout, Place}
use Rattle.t7_layout.specs.Lookups.{find_role, place_in}
use Rattle.t7_layout.specs.Roles.{name_number}
use Rattle.t7_fields.specs.Spelling.{Fits, known_signed, known_unsigned, raw_at, signed_at, unsigned_at}

-- bytes that are read as a message of a role, by a table
pub record Message : Type 0 where
  pub layouts : List Layout
  pub role : Role
  pub bytes : List ℕ

-- the number that a field's bytes spell, or nothing where it is the field's null; raw bytes are a number with the highest first
unfoldable pub number_as : Kind → Place → List ℕ → Option ℤ
number_as Unsigned f b = option_map pos (known_unsigned f (unsigned_at f b))
number_as Signed f b = known_signed f (signed_at f b)
number_as Raw f b = Some (pos (big_number f.width (raw_at f b)))

-- the same, by the field's own kind
unfoldable pub number_at : Place → List ℕ → Option ℤ
number_at f b = number_as f.kind f b

-- what a message says in the field of a name
unfoldable pub said_number : Message → FieldName → Option ℤ
said_number m name = option_and_then (λ f. number_at f m.bytes) (place_in m.layouts m.role name)

-- the same, and 0 where it says nothing
unfoldable pub value : Message → FieldName → ℤ
value m name = option_map_or (λ z. z) (said_number m name) (pos 0)

-- the first of these names of which a message says nothing
unfoldable pub first_unset : Message → List FieldName → Option FieldName
first_unset m names = find (λ name. not (is_some (said_number m name))) names

-- a name is one of these
unfoldable pub is_among : FieldName → List FieldName → Bool
is_among name names = list_any (λ other. name_number other == name_number name) names

-- the bytes are no fewer than the role's template, and say how many they are
abbrev pub IsMessage : Message → Type 0
IsMessage m = (t : Layout) × (find_role m.layouts m.role ≡ Some t) × Fits t m.bytes
