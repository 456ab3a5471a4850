-- The table of valid records.
use Rattle.std.specs.Prelude.{ℕ, zero, suc, ◌&&◌, nat_lt, if◌then◌else◌, List, [], ◌∷◌, ◌++◌, length, map}
use Rattle.t7_records.specs.Records.{Record, cell, record_at}
use Rattle.t7_layout.specs.Layouts.{Layout, Place}
use Rattle.t7_layout.specs.Rows.{ends, row_end, row_family, row_id, row_kind, row_null, row_offset, row_width, so_far}

-- the name of a row's field
unfoldable pub row_name : Record → List ℕ
row_name row = cell row 3

-- the field of a row, in a template of this length
unfoldable pub place_of : ℕ → Record → Place
place_of size row = record { offset = row_offset row; width = row_width row; kind = row_kind row; null = row_null row; span = size }

-- the template whose last row is at a place: its length is the end of that row's field
unfoldable pub layout_at : List Record → ℕ → Layout
layout_at rows at =
    let last = record_at rows at in
    record {
      family = row_family last;
      id = row_id last;
      name = cell last 2;
      size = row_end last;
      names = map row_name (so_far rows at);
      fields = map (place_of (row_end last)) (so_far rows at);
    }

-- the templates whose last rows stand before a place, in order; the heading is none
unfoldable pub layouts_before : List Record → ℕ → List Layout
layouts_before rows zero = []
layouts_before rows (suc at) = layouts_before rows at ++ (if nat_lt 0 at && ends rows at then layout_at rows at ∷ [] else [])

-- the templates of records, in order
unfoldable pub table_of : List Record → List Layout
table_of rows = layouts_before rows (length rows)
