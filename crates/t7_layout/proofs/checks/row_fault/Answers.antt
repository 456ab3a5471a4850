use Rattle.std.proofs.Common.{rules}
use Rattle.t7_layout.specs.Faults.{row_fault}
use Rattle.t7_layout.proofs.checks.row_fault.Goals as goal

pub returns-then-fails_columns : goal.returns-then-fails_columns
unfolding row_fault
returns-then-fails_columns c = search rules

pub returns-then-fails_family : goal.returns-then-fails_family
unfolding row_fault
returns-then-fails_family c = search rules

pub returns-then-fails_cell : goal.returns-then-fails_cell
unfolding row_fault
returns-then-fails_cell c = search rules

pub returns-then-fails_kind : goal.returns-then-fails_kind
unfolding row_fault
returns-then-fails_kind c = search rules

pub returns-then-fails_width : goal.returns-then-fails_width
unfolding row_fault
returns-then-fails_width c = search rules

pub returns-then-fails_null : goal.returns-then-fails_null
unfolding row_fault
returns-then-fails_null c = search rules

pub returns-then-fails_duplicate_id : goal.returns-then-fails_duplicate_id
unfolding row_fault
returns-then-fails_duplicate_id c = search rules

pub returns-then-fails_duplicate_name : goal.returns-then-fails_duplicate_name
unfolding row_fault
returns-then-fails_duplicate_name c = search rules

pub returns-then-fails_overlap : goal.returns-then-fails_overlap
unfolding row_fault
returns-then-fails_overlap c = search rules

pub returns-then-fails_hole : goal.returns-then-fails_hole
unfolding row_fault
returns-then-fails_hole c = search rules

pub returns-then-fails_length : goal.returns-then-fails_length
unfolding row_fault
returns-then-fails_length c = search rules

pub returns-then-fails_header : goal.returns-then-fails_header
unfolding row_fault
returns-then-fails_header c = search rules

pub returns-then-fails_role_field : goal.returns-then-fails_role_field
unfolding row_fault
returns-then-fails_role_field c = search rules

pub returns : goal.returns
unfolding row_fault
returns c = search rules
