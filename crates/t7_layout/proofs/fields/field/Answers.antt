use Rattle.std.proofs.Common.{refl}
use Rattle.t7_records.specs.Records.{record_at}
use Rattle.t7_layout.specs.Rows.{row_kind, row_null, row_width}
use Rattle.t7_layout.specs.Tables.{place_of}
use Rattle.t7_layout.proofs.TableFacts.{is_place}
use Rattle.t7_layout.proofs.WordFacts.{is_word, null_kept}
use Rattle.t7_layout.proofs.fields.field.Goals as goal

pub null_word-requires : goal.null_word-requires
unfolding place_of
null_word-requires c =
    let row = record_at c.args.rows.now c.args.at in
    let place = is_place c.args.size row c.requires.cells c.requires.width c.requires.within in
    rw c.row_null-null.ensures (is_word (row_kind row) (row_width row) (row_null row) place.number place.null)

pub invariant_of-result : goal.invariant_of-result
unfolding place_of
invariant_of-result c =
    let row = record_at c.args.rows.now c.args.at in
    let place = is_place c.args.size row c.requires.cells c.requires.width c.requires.within in
    let kept = null_kept (row_kind row) (row_width row) (row_null row) place.number place.null in
    rw (c.row_offset.ensures.value, c.row_width.ensures.value, c.row_kind.ensures, c.is_some.ensures, c.null_word.ensures, c.row_null-null.ensures, kept) (place, refl)

pub returns : goal.returns
unfolding place_of
returns c =
    let row = record_at c.args.rows.now c.args.at in
    let place = is_place c.args.size row c.requires.cells c.requires.width c.requires.within in
    let kept = null_kept (row_kind row) (row_width row) (row_null row) place.number place.null in
    rw (c.row_offset.ensures.value, c.row_width.ensures.value, c.row_kind.ensures, c.is_some.ensures, c.null_word.ensures, c.row_null-null.ensures, kept) refl
