-- The drill's own table and product: they are valid, and a datagram takes at least 20 items of a snapshot. All of it is computed from their texts.
use Rattle.std.proofs.Common.{refl, arith, ◌≤◌, ◌+◌, ◌*◌, ◌%◌, ◌==◌, ◌∙◌, ◌≡◌, ℕ, ℤ, zero, suc, Bool, true, false, None, if◌then◌else◌, length}
use Rattle.csv.proofs.OnLiterals.{csv_on_literals}
use Rattle.t7_records.specs.Records.{records_of}
use Rattle.t7_records.specs.Numbers.{is_decimal, is_decimal_to, number_to}
use Rattle.t7_base.specs.declared.ids.Side.{Side}
use Rattle.t7_base.specs.ProductFile.{is_of as is_word, is_security, is_session, fixed_word, fixed_range, security_range, tick_range, session_range, is_within, number_in, listed_before, security_of, tick_of, session_of, securities_in, ticks_in, sessions_in, fails_key as fails_word, fails_columns as fails_cells, fails_number, fails_duplicate, fault_at as product_fault_at, least_fault as least_product_fault, fault_of as product_fault_of, product_of}
use Rattle.t7_drill.specs.declared.run.TheConstants.{PRODUCT}
use Rattle.t7_drill.specs.Asking.{opening}
use Rattle.t7_drill.specs.Drilled.{IsRoomy}
use Rattle.t7_drill.specs.Entering.{accepted_in}
use Rattle.t7_base.specs.declared.ids.Feed.TheVariants.{SnapB}
use Rattle.t7_drill.specs.Worlds.{World, after, caught_up, closed, counted, cycle_ended, drilled, entered, first_phase, logged_on, new_world, rotated, second_phase, sent_off, snap_on, step_asked, step_conn}
use Rattle.t7_entry.specs.State.{Setting}
use Rattle.t7_eobi.specs.Bytes.{snap_role}
use Rattle.t7_eobi.specs.declared.walks.Snap.{Snap}
use Rattle.t7_eobi.specs.declared.walks.Snap.TheVariants as snap
use Rattle.t7_exchange.specs.Sending.{terms_of}
use Rattle.t7_eobi.specs.Sizes.{snap_size}
use Rattle.t7_feed.specs.Sending.{cycle_now}
use Rattle.t7_layout.specs.Faults.{fails_columns, fails_family, fails_cell, fails_kind, is_width, fails_width, has_extreme_null, is_required, is_length_or_id, fails_null, fails_duplicate_id, fails_duplicate_name, fails_overlap, fails_hole, fails_length, begin_with, fails_header, has_fields, fails_role_field, row_fault, fault_at, least_fault, has_roles, looked_at, fault_of}
use Rattle.t7_layout.specs.Lookups.{is_layout_of, find_role, role_of_layout, is_place, find_field, place_in, holds_role}
use Rattle.t7_layout.specs.Roles.{all_roles, family_of, role_text, required, field_text, kind_of, width_in, header, all_names, role_number, name_number}
use Rattle.t7_layout.specs.Rows.{is_heading, family_text, kind_text, in_family, has_kind, row_family, row_kind, same_family, same_kind, row_id, row_offset, row_width, row_end, is_name, greatest, unsigned_null, signed_null, row_null, same_cell, same_template, begins, ends, so_far, earlier_in, end_before, is_of, role_of, is_field}
use Rattle.t7_layout.specs.Tables.{row_name, place_of, layout_at, layouts_before, table_of}
use Rattle.t7_packets.specs.Packing.{room_in}
use Rattle.t7_sample.specs.declared.TheConstants.{SAMPLE}
use Rattle.t7_top.specs.Exercise.{drill_setting}

pub product_valid : product_fault_of (records_of PRODUCT.now) ≡ None
unfolding csv_on_literals records_of is_decimal is_decimal_to number_to is_word is_security is_session fixed_word fixed_range security_range tick_range session_range is_within number_in listed_before security_of tick_of session_of securities_in ticks_in sessions_in fails_word fails_cells fails_number fails_duplicate product_fault_at least_product_fault product_fault_of
product_valid = refl

pub table_valid : fault_of (records_of SAMPLE.now) ≡ None
unfolding csv_on_literals records_of is_decimal is_decimal_to number_to fails_columns fails_family fails_cell fails_kind is_width fails_width has_extreme_null is_required is_length_or_id fails_null fails_duplicate_id fails_duplicate_name fails_overlap fails_hole fails_length begin_with fails_header has_fields fails_role_field row_fault fault_at least_fault has_roles looked_at fault_of all_roles family_of role_text required field_text kind_of width_in header all_names role_number name_number is_heading family_text kind_text in_family has_kind row_family row_kind same_family same_kind row_id row_offset row_width row_end is_name greatest unsigned_null signed_null row_null same_cell same_template begins ends so_far earlier_in end_before is_of role_of is_field
table_valid = refl

room : room_in (table_of (records_of SAMPLE.now)) 1472 ≡ 1456
unfolding csv_on_literals records_of is_decimal is_decimal_to number_to fails_columns fails_family fails_cell fails_kind is_width fails_width has_extreme_null is_required is_length_or_id fails_null fails_duplicate_id fails_duplicate_name fails_overlap fails_hole fails_length begin_with fails_header has_fields fails_role_field row_fault fault_at least_fault has_roles looked_at fault_of is_layout_of find_role role_of_layout is_place find_field place_in holds_role all_roles family_of role_text required field_text kind_of width_in header all_names role_number name_number is_heading family_text kind_text in_family has_kind row_family row_kind same_family same_kind row_id row_offset row_width row_end is_name greatest unsigned_null signed_null row_null same_cell same_template begins ends so_far earlier_in end_before is_of role_of is_field row_name place_of layout_at layouts_before table_of is_word is_security is_session fixed_word fixed_range security_range tick_range session_range is_within number_in security_of tick_of session_of securities_in ticks_in sessions_in product_of snap_role
room = refl

product : (m : ℕ) → snap_size (table_of (records_of SAMPLE.now)) (snap.Product m) ≡ 16
unfolding csv_on_literals records_of is_decimal is_decimal_to number_to fails_columns fails_family fails_cell fails_kind is_width fails_width has_extreme_null is_required is_length_or_id fails_null fails_duplicate_id fails_duplicate_name fails_overlap fails_hole fails_length begin_with fails_header has_fields fails_role_field row_fault fault_at least_fault has_roles looked_at fault_of is_layout_of find_role role_of_layout is_place find_field place_in holds_role all_roles family_of role_text required field_text kind_of width_in header all_names role_number name_number is_heading family_text kind_text in_family has_kind row_family row_kind same_family same_kind row_id row_offset row_width row_end is_name greatest unsigned_null signed_null row_null same_cell same_template begins ends so_far earlier_in end_before is_of role_of is_field row_name place_of layout_at layouts_before table_of is_word is_security is_session fixed_word fixed_range security_range tick_range session_range is_within number_in security_of tick_of session_of securities_in ticks_in sessions_in product_of snap_role
product m = refl

instrument : (security : ℤ) (count : ℕ) → snap_size (table_of (records_of SAMPLE.now)) (snap.Instrument security count) ≡ 24
unfolding csv_on_literals records_of is_decimal is_decimal_to number_to fails_columns fails_family fails_cell fails_kind is_width fails_width has_extreme_null is_required is_length_or_id fails_null fails_duplicate_id fails_duplicate_name fails_overlap fails_hole fails_length begin_with fails_header has_fields fails_role_field row_fault fault_at least_fault has_roles looked_at fault_of is_layout_of find_role role_of_layout is_place find_field place_in holds_role all_roles family_of role_text required field_text kind_of width_in header all_names role_number name_number is_heading family_text kind_text in_family has_kind row_family row_kind same_family same_kind row_id row_offset row_width row_end is_name greatest unsigned_null signed_null row_null same_cell same_template begins ends so_far earlier_in end_before is_of role_of is_field row_name place_of layout_at layouts_before table_of is_word is_security is_session fixed_word fixed_range security_range tick_range session_range is_within number_in security_of tick_of session_of securities_in ticks_in sessions_in product_of snap_role
instrument security count = refl

order : (side : Side) (price : ℤ) (stamp : ℕ) (qty : ℕ) → snap_size (table_of (records_of SAMPLE.now)) (snap.Order side price stamp qty) ≡ 40
unfolding csv_on_literals records_of is_decimal is_decimal_to number_to fails_columns fails_family fails_cell fails_kind is_width fails_width has_extreme_null is_required is_length_or_id fails_null fails_duplicate_id fails_duplicate_name fails_overlap fails_hole fails_length begin_with fails_header has_fields fails_role_field row_fault fault_at least_fault has_roles looked_at fault_of is_layout_of find_role role_of_layout is_place find_field place_in holds_role all_roles family_of role_text required field_text kind_of width_in header all_names role_number name_number is_heading family_text kind_text in_family has_kind row_family row_kind same_family same_kind row_id row_offset row_width row_end is_name greatest unsigned_null signed_null row_null same_cell same_template begins ends so_far earlier_in end_before is_of role_of is_field row_name place_of layout_at layouts_before table_of is_word is_security is_session fixed_word fixed_range security_range tick_range session_range is_within number_in security_of tick_of session_of securities_in ticks_in sessions_in product_of snap_role
order side price stamp qty = refl

sizes : (item : Snap) → 20 * snap_size (table_of (records_of SAMPLE.now)) item ≤ room_in (table_of (records_of SAMPLE.now)) 1472
sizes (snap.Product m) = rw (product m, room) (omega arith)
sizes (snap.Instrument security count) = rw (instrument security count, room) (omega arith)
sizes (snap.Order side price stamp qty) = rw (order side price stamp qty, room) (omega arith)

pub roomy : IsRoomy drill_setting
unfolding csv_on_literals records_of is_decimal is_decimal_to number_to fails_columns fails_family fails_cell fails_kind is_width fails_width has_extreme_null is_required is_length_or_id fails_null fails_duplicate_id fails_duplicate_name fails_overlap fails_hole fails_length begin_with fails_header has_fields fails_role_field row_fault fault_at least_fault has_roles looked_at fault_of is_layout_of find_role role_of_layout is_place find_field place_in holds_role all_roles family_of role_text required field_text kind_of width_in header all_names role_number name_number is_heading family_text kind_text in_family has_kind row_family row_kind same_family same_kind row_id row_offset row_width row_end is_name greatest unsigned_null signed_null row_null same_cell same_template begins ends so_far earlier_in end_before is_of role_of is_field row_name place_of layout_at layouts_before table_of is_word is_security is_session fixed_word fixed_range security_range tick_range session_range is_within number_in security_of tick_of session_of securities_in ticks_in sessions_in product_of snap_role
roomy = record { items = sizes; packets = omega arith; securities = omega arith }

-- no step of a drill changes its table and product
after_setting : (i : ℕ) (w : World) → (after i w).day.setting ≡ w.day.setting
after_setting i w = by (i % 4 == 0)
  where
    by : (b : Bool) → (if b then rotated w else w).day.setting ≡ w.day.setting
    by true = refl
    by false = refl

counted_setting : (conn : ℕ) (w : World) → (counted conn w).day.setting ≡ w.day.setting
counted_setting conn w = by (conn == 1)
  where
    by : (b : Bool) → (if b then record w { first = w.first + 1 } else record w { second = w.second + 1 }).day.setting ≡ w.day.setting
    by true = refl
    by false = refl

first_setting : (n : ℕ) (w : World) → (first_phase n w).day.setting ≡ w.day.setting
unfolding first_phase
first_setting zero w = refl
first_setting (suc n) w =
    let v : World = first_phase n w in
    let x : World = entered 1 (opening v.first (suc n)) v in
    after_setting (suc n) (counted 1 x) ∙ counted_setting 1 x ∙ first_setting n w

second_setting : (n : ℕ) (w : World) → (second_phase n w).day.setting ≡ w.day.setting
unfolding second_phase
second_setting zero w = refl
second_setting (suc n) w =
    let v : World = second_phase n w in
    let x : World = entered (step_conn v) (step_asked v).request (record v { draw = (step_asked v).draw }) in
    after_setting (suc n) (counted (step_conn v) x) ∙ counted_setting (step_conn v) x ∙ second_setting n w

sent_setting : (n : ℕ) (w : World) → (sent_off n w).day.setting ≡ w.day.setting
unfolding sent_off
sent_setting zero w = refl
sent_setting (suc n) w = sent_setting n (snap_on SnapB w)

closed_setting : (w : World) → (closed w).day.setting ≡ w.day.setting
closed_setting w =
    let x : World = cycle_ended (caught_up w) in
    sent_setting (length (cycle_now (terms_of x.day) (accepted_in x.day))) x ∙ sent_setting (length (caught_up w).day.left) (caught_up w)

pub drilled_setting : (setting : Setting) (seed orders : ℕ) → (drilled setting seed orders).day.setting ≡ setting
drilled_setting setting seed orders =
    let w : World = logged_on (new_world setting seed) in
    let x : World = first_phase orders w in
    closed_setting (second_phase 20_000 x) ∙ second_setting 20_000 x ∙ first_setting orders w
