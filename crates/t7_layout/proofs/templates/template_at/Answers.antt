use Rattle.std.proofs.Common.{◌≡◌, ◌-◌, ◌∙◌, ℕ, List, map, sym, refl, arith}
use Rattle.std.specs.String.{string_bytes}
use Rattle.t7_records.specs.Records.{Record, cell, record_at}
use Rattle.t7_layout.specs.declared.words.Family.{Family}
use Rattle.t7_layout.specs.Layouts.{Place}
use Rattle.t7_layout.specs.Images.{blank, unset_bytes, with_header}
use Rattle.t7_layout.specs.Rows.{row_end, row_family, row_id, so_far}
use Rattle.t7_layout.specs.Tables.{layout_at, place_of, row_name}
use Rattle.t7_layout.proofs.TableFacts.{cells_of, is_layout}
use Rattle.t7_layout.proofs.FaultFacts.{valid_no_overlap, valid_passes}
use Rattle.t7_layout.proofs.NameFacts.{name_text, role_same}
use Rattle.t7_layout.proofs.RowFacts.{below_last}
use Rattle.t7_layout.proofs.templates.template_at.Goals as goal

pub image_of-requires-clause-long : goal.image_of-requires-clause-long
unfolding layout_at
image_of-requires-clause-long c =
    let l = is_layout c.args.rows.now c.args.at c.requires.first c.requires.last (λ j first below. valid_passes c.args.rows.now c.requires.valid j first (omega arith)) in
    rw c.row_end-size.ensures.value l.long

pub image_of-requires-clause-short : goal.image_of-requires-clause-short
unfolding layout_at
image_of-requires-clause-short c =
    let l = is_layout c.args.rows.now c.args.at c.requires.first c.requires.last (λ j first below. valid_passes c.args.rows.now c.requires.valid j first (omega arith)) in
    rw c.row_end-size.ensures.value l.short

pub image_of-requires-clause-laid : goal.image_of-requires-clause-laid
unfolding layout_at
image_of-requires-clause-laid c =
    let so_far_is = c.start_of-start.ensures.rows in
    let l = is_layout c.args.rows.now c.args.at c.requires.first c.requires.last (λ j first below. valid_passes c.args.rows.now c.requires.valid j first (omega arith)) in
    rw (c.deref.ensures.value, c.in_ok-fields.ensures, c.row_end-size.ensures.value, c.requires.next, ← so_far_is) l.laid

pub fields_of-requires-clause-within : goal.fields_of-requires-clause-within
fields_of-requires-clause-within c j from below =
    rw c.row_end-size.ensures.value (
    below_last c.args.rows.now c.args.at (c.args.at - j) j (valid_no_overlap c.args.rows.now c.requires.valid) c.requires.inside (omega arith)
    (λ k past within. c.start_of-start.ensures.inner k (omega arith) within))

-- the template is that of its last row
is_at : (rows : List Record) (at : ℕ) (name : List ℕ) (names : List (List ℕ)) (fields : List Place) (family : Family) (id size : ℕ)
    → family ≡ row_family (record_at rows at) → id ≡ row_id (record_at rows at) → name ≡ cell (record_at rows at) 2 → size ≡ row_end (record_at rows at)
    → names ≡ map row_name (so_far rows at) → fields ≡ map (place_of (row_end (record_at rows at))) (so_far rows at)
    → layout_at rows at ≡ record { family = family; id = id; name = name; size = size; names = names; fields = fields }
unfolding layout_at
is_at rows at name names fields family id size f i n s ns fs = rw (f, i, n, s, ns, fs) refl

pub returns : goal.returns
returns c =
    let rows = c.args.rows.now in
    let p = valid_passes rows c.requires.valid c.args.at c.requires.first c.requires.inside in
    let text = name_text (cell (record_at rows c.args.at) 2) (cells_of (record_at rows c.args.at) p.cells).name in
    let name : string_bytes c.in_ok-name.name ≡ cell (record_at rows c.args.at) 2 = c.in_ok-name.ensures.ok (rw c.cell.ensures text) ∙ c.cell.ensures in
    let so_far_is = c.start_of-start.ensures.rows in
    sym (is_at rows c.args.at _ _ _ _ _ _ c.row_family-family.ensures c.row_id-id.ensures.value name c.row_end-size.ensures.value
    (c.in_ok-names.ensures ∙ rw (c.requires.next, ← so_far_is) refl) (c.in_ok-fields.ensures ∙ rw (c.row_end-size.ensures.value, c.requires.next, ← so_far_is) refl))

-- its image is that of its last row's template
image_at : (rows : List Record) (at : ℕ) (image : List ℕ) (fields : List Place) (family : Family) (id size : ℕ)
    → family ≡ row_family (record_at rows at) → id ≡ row_id (record_at rows at) → size ≡ row_end (record_at rows at)
    → fields ≡ map (place_of (row_end (record_at rows at))) (so_far rows at)
    → image ≡ with_header family id size (unset_bytes fields)
    → image ≡ blank (layout_at rows at)
unfolding blank layout_at
image_at rows at image fields family id size f i s fs e = rw (e, f, i, s, fs) refl

pub invariant_of-result : goal.invariant_of-result
invariant_of-result c =
    let rows = c.args.rows.now in
    let p = valid_passes rows c.requires.valid c.args.at c.requires.first c.requires.inside in
    let text = name_text (cell (record_at rows c.args.at) 2) (cells_of (record_at rows c.args.at) p.cells).name in
    let name : string_bytes c.in_ok-name.name ≡ cell (record_at rows c.args.at) 2 = c.in_ok-name.ensures.ok (rw c.cell.ensures text) ∙ c.cell.ensures in
    let so_far_is = c.start_of-start.ensures.rows in
    let l = is_layout rows c.args.at c.requires.first c.requires.last (λ j first below. valid_passes rows c.requires.valid j first (omega arith)) in
    rw (← is_at rows c.args.at _ _ _ _ _ _ c.row_family-family.ensures c.row_id-id.ensures.value name c.row_end-size.ensures.value
    (c.in_ok-names.ensures ∙ rw (c.requires.next, ← so_far_is) refl) (c.in_ok-fields.ensures ∙ rw (c.row_end-size.ensures.value, c.requires.next, ← so_far_is) refl))
    (record {
      layout = l;
      role_is = c.role_of.ensures ∙ role_same rows c.args.at;
      image_is =
          image_at rows c.args.at _ _ _ _ _ c.row_family-family.ensures c.row_id-id.ensures.value c.row_end-size.ensures.value
          (c.in_ok-fields.ensures ∙ rw (c.row_end-size.ensures.value, c.requires.next, ← so_far_is) refl) (rw c.deref.ensures.value at c.in_ok-image.ensures);
    })
