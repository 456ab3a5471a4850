-- The texts of a table and of a refusal.
use Rattle.std.specs.Prelude.{ℕ, List, [], ◌∷◌, ◌++◌, ◌≡◌, codes, decimal, length, take}
use Rattle.std.specs.List.{flat_map}
use Rattle.t7_layout.specs.declared.words.TableWhy.{TableWhy}
use Rattle.t7_layout.specs.declared.words.TableWhy.TheVariants.{Columns, Family, Cell, Kind, Width, Null, DuplicateId, DuplicateName, Overlap, Hole, Length, Header, RoleField, RoleMissing}
use Rattle.t7_layout.specs.Layouts.{Layout}
use Rattle.t7_layout.specs.Rows.{family_text}

-- the word for a reason
unfoldable pub why_text : TableWhy → List ℕ
why_text Columns = codes "columns"
why_text Family = codes "family"
why_text Cell = codes "cell"
why_text Kind = codes "kind"
why_text Width = codes "width"
why_text Null = codes "null"
why_text DuplicateId = codes "duplicate id"
why_text DuplicateName = codes "duplicate name"
why_text Overlap = codes "overlap"
why_text Hole = codes "hole"
why_text Length = codes "length"
why_text Header = codes "header"
why_text RoleField = codes "role field"
why_text RoleMissing = codes "role missing"

-- the line of a template: family, id, name and length, with single spaces between them and a line feed at the end
unfoldable pub line_of : Layout → List ℕ
line_of t = family_text t.family ++ 32 ∷ decimal t.id ++ 32 ∷ t.name ++ 32 ∷ decimal t.size ++ 10 ∷ []

-- the text of a table: a line for each template, in order
unfoldable pub table_text : List Layout → List ℕ
table_text layouts = flat_map line_of layouts

-- bytes that begin with those that were there before
pub record BeginsWith (before after : List ℕ) : Type 0 where
  pub front : take (length before) after ≡ before
