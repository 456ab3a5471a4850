-- What the fields of a template and of a table keep beside what they say. No contract of a public call speaks of it.
use Rattle.std.specs.Prelude.{ℕ, zero, suc, ◌+◌, ◌*◌, ◌<◌, ◌≡◌, if◌then◌else◌, List, [], ◌∷◌, Option, Some, None, find, drop, length, slice_get, slice_index}
use Rattle.std.specs.Option.{option_and_then, unwrap_or}
use Rattle.t7_layout.specs.declared.words.Family.{Family}
use Rattle.t7_layout.specs.declared.words.Family.TheVariants.{Eti, Eobi}
use Rattle.t7_layout.specs.declared.words.Kind.TheVariants.{Raw}
use Rattle.t7_layout.specs.declared.roles.Role.{Role}
use Rattle.t7_layout.specs.declared.roles.FieldName.{FieldName}
use Rattle.t7_layout.specs.Images.{blank}
use Rattle.t7_layout.specs.Layouts.{IsLayout, Layout, Place}
use Rattle.t7_layout.specs.Lookups.{IsTable, find_role, has_id, is_layout_of, place_in, role_of_layout}
use Rattle.t7_layout.specs.Roles.{name_number, role_number}

-- a whole template, its role, and the bytes of a message of it in which nothing is put
pub record IsTemplate (t : Layout) (role : Option Role) (image : List ℕ) : Type 0 where
  pub layout : IsLayout t
  pub role_is : role ≡ role_of_layout t
  pub image_is : image ≡ blank t

-- the template that stands just before a place, and none before place 0
abbrev pub layout_before : List Layout → ℕ → Option Layout
layout_before layouts zero = None
layout_before layouts (suc place) = slice_get layouts place

-- the place of the template of a role, and how many there are where there is none
unfoldable pub place_of_role : List Layout → Role → ℕ
place_of_role [] role = 0
place_of_role (t ∷ ts) role = if is_layout_of role t then 0 else suc (place_of_role ts role)

-- by each role's number, the place of its template
abbrev pub ArePlacesOfRoles : List Layout → List ℕ → Type 0
ArePlacesOfRoles layouts places = (role : Role) → option_and_then (slice_get layouts) (slice_get places (role_number role)) ≡ find_role layouts role

-- a field of one raw byte, which stands where a role's template has no field of a name
abbrev pub filler : Place
filler = record { offset = 0; width = 1; kind = Raw; null = None; span = 1 }

-- the field of a role's template that has a name, and that one where there is none
abbrev pub field_in : List Layout → Role → FieldName → Place
field_in layouts role name = unwrap_or (place_in layouts role name) filler

-- by each role's number, for each of the 35 field names the field of the role's template that has it
abbrev pub AreFieldsOfRoles : List Layout → List Place → Type 0
AreFieldsOfRoles layouts fields = (role : Role) (name : FieldName) → slice_get fields (role_number role * 35 + name_number name) ≡ Some (field_in layouts role name)

-- by each id, the place behind a family's template of that id, and 0 where there is none; of the templates from a place on
pub record ArePlacesOfIds (layouts : List Layout) (family : Family) (from : ℕ) (places : List ℕ) : Type 0 where
  pub long : length places ≡ 65536
  pub each : (id : ℕ) → id < 65536 → layout_before layouts (slice_index places id) ≡ find (has_id family id) (drop from layouts)

-- a table, with what is looked up in it
pub record IsIndexed (layouts : List Layout) (roles : List ℕ) (fields : List Place) (eti eobi : List ℕ) : Type 0 where
  pub table : IsTable layouts
  pub roles_are : ArePlacesOfRoles layouts roles
  pub fields_are : AreFieldsOfRoles layouts fields
  pub eti_are : ArePlacesOfIds layouts Eti 0 eti
  pub eobi_are : ArePlacesOfIds layouts Eobi 0 eobi
