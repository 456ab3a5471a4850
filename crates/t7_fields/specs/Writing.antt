-- What a message of a role says once it is written, field by field.
use Rattle.std.specs.Prelude.{ℕ, ◌≡◌, ◌≢◌, ◌<◌, ◌^◌, ◌==◌, ◌&&◌, if◌then◌else◌, List, [], ◌∷◌, ◌++◌, Bool, true, false, not, ℤ, pos, negsuc, Option, Some, None, is_some, Contains, length, map, slice_get}
use Rattle.std.specs.Option.{option_map_or}
use Rattle.byteorder.specs.Endian.{big_bytes}
use Rattle.t7_layout.specs.declared.words.Family.{Family}
use Rattle.t7_layout.specs.declared.words.Family.TheVariants.{Eti, Eobi}
use Rattle.t7_layout.specs.declared.words.Kind.{Kind}
use Rattle.t7_layout.specs.declared.words.Kind.TheVariants.{Unsigned, Signed, Raw}
use Rattle.t7_layout.specs.declared.roles.Role.{Role}
use Rattle.t7_layout.specs.declared.roles.FieldName.{FieldName}
use Rattle.t7_layout.specs.declared.roles.FieldName.TheVariants.{BodyLen, TemplateID}
use Rattle.t7_layout.specs.Layouts.{Layout, Place}
use Rattle.t7_layout.specs.Lookups.{find_role, place_in}
use Rattle.t7_layout.specs.Roles.{family_of, kind_of, required, width_in}
use Rattle.t7_layout.specs.Rows.{same_kind}
use Rattle.t7_fields.specs.declared.writer.Scalar.{Scalar}
use Rattle.t7_fields.specs.declared.writer.Scalar.TheVariants as number
use Rattle.t7_fields.specs.Spelling.{IsHeld, Spells, Value, number_bytes, template_id}
use Rattle.t7_fields.specs.Spelling as spelling
use Rattle.t7_fields.specs.Messages.{IsMessage, is_among, said_number}
use Rattle.t7_fields.specs.Puts.{Put, filled, record_of, written}

-- the kind of the field of a number that is written
unfoldable pub number_kind : Scalar → Kind
number_kind (number.Byte n) = Unsigned
number_kind (number.Half n) = Unsigned
number_kind (number.Word n) = Unsigned
number_kind (number.Long n) = Unsigned
number_kind (number.SignedWord z) = Signed
number_kind (number.Signed z) = Signed
number_kind (number.Raw n) = Raw

-- how many bytes that field has
unfoldable pub number_width : Scalar → ℕ
number_width (number.Byte n) = 1
number_width (number.Half n) = 2
number_width (number.Word n) = 4
number_width (number.Long n) = 8
number_width (number.SignedWord z) = 4
number_width (number.Signed z) = 8
number_width (number.Raw n) = 16

-- which number it is
unfoldable pub meaning : Scalar → ℤ
meaning (number.Byte n) = pos n
meaning (number.Half n) = pos n
meaning (number.Word n) = pos n
meaning (number.Long n) = pos n
meaning (number.SignedWord z) = z
meaning (number.Signed z) = z
meaning (number.Raw n) = pos n

-- a number is one of its type
unfoldable pub IsSized : Scalar → Type 0
IsSized (number.Byte n) = n < 256
IsSized (number.Half n) = n < 65536
IsSized (number.Word n) = n < 4_294_967_296
IsSized (number.Long n) = n < 18_446_744_073_709_551_616
IsSized (number.SignedWord z) = IsHeld Signed 4 z
IsSized (number.Signed z) = IsHeld Signed 8 z
IsSized (number.Raw n) = n < 256 ^ 16

-- the value that a number is in a field: raw bytes are a number with the highest first
unfoldable pub value_of : Scalar → Value
value_of (number.Byte n) = spelling.Number (Some (pos n))
value_of (number.Half n) = spelling.Number (Some (pos n))
value_of (number.Word n) = spelling.Number (Some (pos n))
value_of (number.Long n) = spelling.Number (Some (pos n))
value_of (number.SignedWord z) = spelling.Number (Some z)
value_of (number.Signed z) = spelling.Number (Some z)
value_of (number.Raw n) = spelling.Bytes (big_bytes 16 n)

-- the bytes of a number in a field of its kind and width
unfoldable pub scalar_bytes : Scalar → List ℕ
scalar_bytes (number.Raw n) = big_bytes 16 n
scalar_bytes n = number_bytes (number_width n) (meaning n)

-- a role has a field of this name, which isn't BodyLen or TemplateID, of the number's kind and width
unfoldable pub can_say : Role → FieldName × Scalar → Bool
can_say role p =
    is_among p.0 (required role) && (not (is_among p.0 (BodyLen ∷ TemplateID ∷ []))
    && (same_kind (kind_of p.0) (number_kind p.1) && (width_in (family_of role) p.0 == number_width p.1)))

-- it has one for each, and no name stands twice
unfoldable pub can_say_each : Role → List (FieldName × Scalar) → Bool
can_say_each role [] = true
can_say_each role (p ∷ ps) = can_say role p && (not (is_among p.0 (map (λ (q : FieldName × Scalar). q.0) ps)) && can_say_each role ps)

-- a field may be given a number
pub record MayHave (f : Place) (n : Scalar) : Type 0 where
  pub kind : f.kind ≡ number_kind n
  pub width : f.width ≡ number_width n
  pub known : f.null ≢ Some (meaning n)

-- no number is the null of its field
pub record AreKnown (layouts : List Layout) (role : Role) (ps : List (FieldName × Scalar)) : Type 0 where
  pub each : (p : FieldName × Scalar) → Contains ps p → (f : Place) → place_in layouts role p.0 ≡ Some f → f.null ≢ Some (meaning p.1)

-- a number is not the greatest of its type, or the least of a signed one: it is the null of no field that a role requires
unfoldable pub IsOrdinary : Scalar → Type 0
IsOrdinary (number.Byte n) = n ≢ 255
IsOrdinary (number.Half n) = n ≢ 65535
IsOrdinary (number.Word n) = n ≢ 4_294_967_295
IsOrdinary (number.Long n) = n ≢ 18_446_744_073_709_551_615
IsOrdinary (number.SignedWord z) = z ≢ negsuc 2_147_483_647
IsOrdinary (number.Signed z) = z ≢ negsuc 9_223_372_036_854_775_807
IsOrdinary (number.Raw n) = Unit {0}

-- each is an ordinary number
pub record AreOrdinary (ps : List (FieldName × Scalar)) : Type 0 where
  pub each : (p : FieldName × Scalar) → Contains ps p → IsOrdinary p.1

-- these may be said together in a message of a role
pub record AreSaid (layouts : List Layout) (role : Role) (ps : List (FieldName × Scalar)) : Type 0 where
  pub fit : can_say_each role ps ≡ true
  pub known : AreKnown layouts role ps

-- each is a number of its type
pub record AreSized (ps : List (FieldName × Scalar)) : Type 0 where
  pub each : (p : FieldName × Scalar) → Contains ps p → IsSized p.1

-- bytes say a number in the field of a name
abbrev pub says : List Layout → Role → List ℕ → FieldName × Scalar → Type 0
says layouts role bytes p = said_number (record { layouts = layouts; role = role; bytes = bytes }) p.0 ≡ Some (meaning p.1)

-- bytes say each of these
pub record Says (layouts : List Layout) (role : Role) (bytes : List ℕ) (ps : List (FieldName × Scalar)) : Type 0 where
  pub each : (k : ℕ) (p : FieldName × Scalar) → slice_get ps k ≡ Some p → says layouts role bytes p

-- what is put in a template, field by field
unfoldable pub puts : List Layout → Role → List (FieldName × Scalar) → List Put
puts layouts role [] = []
puts layouts role (p ∷ ps) = option_map_or (λ f. record { place = f; value = value_of p.1 } ∷ []) (place_in layouts role p.0) [] ++ puts layouts role ps

-- the message of a role that says these, with every other field unset
unfoldable pub message_saying : List Layout → Role → List (FieldName × Scalar) → List ℕ
message_saying layouts role ps = option_map_or (λ t. filled t (puts layouts role ps)) (find_role layouts role) []

-- how many bytes a message of a role has: those of the role's template
abbrev pub role_size : List Layout → Role → ℕ
role_size layouts role = option_map_or (λ (t : Layout). t.size) (find_role layouts role) 0

-- where bytes were, a message of a role stands that so far says these; those past the message are as they were
pub record SaysSoFar (layouts : List Layout) (role : Role) (ps : List (FieldName × Scalar)) (old new : List ℕ) : Type 0 where
  pub sized : AreSized ps
  pub bytes : (t : Layout) → find_role layouts role ≡ Some t → new ≡ written t (puts layouts role ps) old

-- what a message has said so far, it says still, and this after it
abbrev pub AddsSaid : List Layout → Role → FieldName × Scalar → List ℕ → List ℕ → Type 0
AddsSaid layouts role p now next = (ps : List (FieldName × Scalar)) (old : List ℕ) → SaysSoFar layouts role ps old now → SaysSoFar layouts role (ps ++ (p ∷ [])) old next

-- what a field says that isn't written: nothing, or 0 where it has no null
unfoldable pub unset_number : Option ℤ → Option ℤ
unset_number null = if is_some null then None else Some (pos 0)

-- bytes are a message of a role of its template's length, with its id, and say these and nothing else
pub record IsWritten (layouts : List Layout) (role : Role) (ps : List (FieldName × Scalar)) (bytes : List ℕ) : Type 0 where
  pub message : IsMessage (record { layouts = layouts; role = role; bytes = bytes })
  pub whole : (t : Layout) → find_role layouts role ≡ Some t → Spells t (record_of t (puts layouts role ps)) bytes × (length bytes ≡ t.size)
  pub says : Says layouts role bytes ps
  pub unset : (name : FieldName) (f : Place) → place_in layouts role name ≡ Some f → is_among name (BodyLen ∷ TemplateID ∷ map (λ (q : FieldName × Scalar). q.0) ps) ≡ false
      → said_number (record { layouts = layouts; role = role; bytes = bytes }) name ≡ unset_number f.null

-- the longest message of a family
unfoldable pub longest : Family → ℕ
longest Eti = 1024
longest Eobi = 128
