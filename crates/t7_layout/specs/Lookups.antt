-- What is found in a table: templates by family and id, the templates of roles, and the fields that these require.
use Rattle.std.specs.Prelude.{ℕ, ◌≤◌, ◌&&◌, ◌==◌, ◌≡◌, if◌then◌else◌, List, [], ◌∷◌, Bool, true, false, Option, Some, None, is_some, find, Contains, IfSome, slice_get}
use Rattle.std.specs.List.{list_all}
use Rattle.std.specs.Option.{option_and_then, option_map_or}
use Rattle.std.specs.Str.{bytes_eq}
use Rattle.t7_layout.specs.declared.words.Family.{Family}
use Rattle.t7_layout.specs.declared.words.Family.TheVariants.{Eobi}
use Rattle.t7_layout.specs.declared.roles.Role.{Role}
use Rattle.t7_layout.specs.declared.roles.FieldName.{FieldName}
use Rattle.t7_layout.specs.declared.roles.FieldName.TheVariants.{BodyLen, TemplateID}
use Rattle.t7_layout.specs.Layouts.{IsExtreme, IsLayout, Layout, Place}
use Rattle.t7_layout.specs.Roles.{all_roles, family_of, field_text, kind_of, required, role_text, width_in}
use Rattle.t7_layout.specs.Rows.{same_family, same_kind}

-- a template of a family and an id
abbrev pub has_id : Family → ℕ → Layout → Bool
has_id family id t = same_family t.family family && (t.id == id)

-- the template of a family and an id
abbrev pub find_template : List Layout → Family → ℕ → Option Layout
find_template layouts family id = find (has_id family id) layouts

-- a template of a role
unfoldable pub is_layout_of : Role → Layout → Bool
is_layout_of role t = same_family t.family (family_of role) && bytes_eq t.name (role_text role)

-- the template of a role
unfoldable pub find_role : List Layout → Role → Option Layout
find_role layouts role = find (is_layout_of role) layouts

-- the role that a template has by its family and its name
unfoldable pub role_of_layout : Layout → Option Role
role_of_layout t = find (λ role. is_layout_of role t) all_roles

-- a field of this name, with the kind and the width that it has in a family
unfoldable pub is_place : Family → FieldName → List ℕ → Place → Bool
is_place family name word f = bytes_eq word (field_text name) && same_kind f.kind (kind_of name) && (f.width == width_in family name)

-- the field of a required name
unfoldable pub find_field : Family → FieldName → List (List ℕ) → List Place → Option Place
find_field family name [] fields = None
find_field family name (word ∷ words) [] = None
find_field family name (word ∷ words) (f ∷ fields) = if is_place family name word f then Some f else find_field family name words fields

-- where the template of a role has a required field
unfoldable pub place_in : List Layout → Role → FieldName → Option Place
place_in layouts role name = option_and_then (λ (t : Layout). find_field (family_of role) name t.names t.fields) (find_role layouts role)

-- a table has a template for a role, with each field that the role requires
unfoldable pub holds_role : List Layout → Role → Bool
holds_role layouts role =
    option_map_or (λ (t : Layout). list_all (λ name. is_some (find_field (family_of role) name t.names t.fields)) (required role)) (find_role layouts role) false

-- it has one for each role
abbrev pub HoldsRoles : List Layout → Type 0
HoldsRoles layouts = (role : Role) → holds_role layouts role ≡ true

-- what is known of the null of a role's required field: it is the extreme number of the field's width, and the header's length and id have none
pub record IsRoleNull (name : FieldName) (f : Place) : Type 0 where
  pub extreme : IfSome f.null (IsExtreme f.kind f.width)
  pub body : name ≡ BodyLen → f.null ≡ None
  pub id : name ≡ TemplateID → f.null ≡ None

-- what every table keeps: whole templates, each role with its fields and their nulls, and of one family no two templates of one id or one name
pub record IsTable (layouts : List Layout) : Type 0 where
  pub whole : (t : Layout) → Contains layouts t → IsLayout t
  pub roles : HoldsRoles layouts
  pub short : (role : Role) (t : Layout) → find_role layouts role ≡ Some t → family_of role ≡ Eobi → t.size ≤ 128
  pub nulls : (role : Role) (name : FieldName) (f : Place) → Contains (required role) name → place_in layouts role name ≡ Some f → IsRoleNull name f
  pub ids : (i j : ℕ) (a b : Layout) → slice_get layouts i ≡ Some a → slice_get layouts j ≡ Some b → a.family ≡ b.family → a.id ≡ b.id → i ≡ j
  pub names : (i j : ℕ) (a b : Layout) → slice_get layouts i ≡ Some a → slice_get layouts j ≡ Some b → a.family ≡ b.family → a.name ≡ b.name → i ≡ j
