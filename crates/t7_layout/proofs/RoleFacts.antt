-- Valid records have a template for each role, with its fields.
use Rattle.std.proofs.Common.{◌≡◌, ◌<◌, ◌≤◌, ◌+◌, ◌-◌, ◌==◌, ◌&&◌, ◌||◌, ◌∙◌, ℕ, zero, suc, List, [], ◌∷◌, ◌++◌, Bool, true, false, not, Option, Some, None, length, map, refl, sym, arith, cond, nat_lt, nat_le, codes, is_some}
use Rattle.std.specs.Prelude.{find, slice_get, if◌then◌else◌}
use Rattle.std.specs.List.{list_all, list_any}
use Rattle.std.specs.Option.{option_map_or}
use Rattle.std.specs.Str.{bytes_eq}
use Rattle.std.proofs.lemmas.Slice.Eq.{bytes_eq-Decides}
use Rattle.std.proofs.lemmas.Bool.Decides.{nat_tests}
use Rattle.t7_records.specs.Records.{Record, cell, record_at}
use Rattle.t7_layout.specs.declared.words.Family.{Family}
use Rattle.t7_layout.specs.declared.words.Family.TheVariants.{Eti, Eobi}
use Rattle.t7_layout.specs.declared.words.TableFault.{TableFault}
use Rattle.t7_layout.specs.declared.words.TableWhy.{TableWhy}
use Rattle.t7_layout.specs.declared.words.TableWhy.TheVariants as why
use Rattle.t7_layout.specs.declared.roles.FieldName.{FieldName}
use Rattle.t7_layout.specs.declared.roles.Role.{Role}
use Rattle.t7_layout.specs.declared.roles.Role.TheVariants.{LogonRequest, LogoutRequest, EtiHeartbeat, NewOrderSingleRequest, ModifyOrderSingleRequest, DeleteOrderSingleRequest, DeleteAllOrderRequest, RetransmitMEMessageRequest, LogonResponse, LogoutResponse, HeartbeatNotification, Reject, RetransmitMEMessageResponse, NewOrderResponse, ModifyOrderResponse, DeleteOrderResponse, DeleteAllOrderResponse, DeleteAllOrderBroadcast, OrderExecNotification, PacketHeader, EobiHeartbeat, OrderAdd, OrderModify, OrderModifySamePriority, OrderDelete, OrderMassDelete, PartialOrderExecution, FullOrderExecution, ExecutionSummary, ProductSummary, InstrumentSummary, SnapshotOrder}
use Rattle.t7_layout.specs.Roles.{all_roles, family_of, field_text, kind_of, required, role_number, role_text, width_in}
use Rattle.t7_layout.specs.Rows.{ends, family_text, in_family, is_field, is_heading, is_of, role_of, row_end, row_family, row_kind, row_width, same_cell, same_family, same_kind, same_template, so_far}
use Rattle.t7_layout.specs.Faults.{IsValid, fails_role_field, fault_at, fault_of, first_of, has_fields, has_roles, looked_at}
use Rattle.t7_layout.specs.Layouts.{Layout}
use Rattle.t7_layout.specs.Lookups.{find_field, find_role, holds_role, is_layout_of, is_place}
use Rattle.t7_layout.specs.Tables.{layout_at, layouts_before, place_of, row_name, table_of}
use Rattle.t7_layout.proofs.FaultFacts.{first_none, looked_at_all, none_below, some_rows, valid_passes}

pub stands_there : (role : Role) → slice_get all_roles (role_number role) ≡ Some role
unfolding all_roles role_number
stands_there LogonRequest = refl
stands_there LogoutRequest = refl
stands_there EtiHeartbeat = refl
stands_there NewOrderSingleRequest = refl
stands_there ModifyOrderSingleRequest = refl
stands_there DeleteOrderSingleRequest = refl
stands_there DeleteAllOrderRequest = refl
stands_there RetransmitMEMessageRequest = refl
stands_there LogonResponse = refl
stands_there LogoutResponse = refl
stands_there HeartbeatNotification = refl
stands_there Reject = refl
stands_there RetransmitMEMessageResponse = refl
stands_there NewOrderResponse = refl
stands_there ModifyOrderResponse = refl
stands_there DeleteOrderResponse = refl
stands_there DeleteAllOrderResponse = refl
stands_there DeleteAllOrderBroadcast = refl
stands_there OrderExecNotification = refl
stands_there PacketHeader = refl
stands_there EobiHeartbeat = refl
stands_there OrderAdd = refl
stands_there OrderModify = refl
stands_there OrderModifySamePriority = refl
stands_there OrderDelete = refl
stands_there OrderMassDelete = refl
stands_there PartialOrderExecution = refl
stands_there FullOrderExecution = refl
stands_there ExecutionSummary = refl
stands_there ProductSummary = refl
stands_there InstrumentSummary = refl
stands_there SnapshotOrder = refl

all_at : {X : Type 0} (p : X → Bool) (xs : List X) (at : ℕ) (x : X) → list_all p xs ≡ true → slice_get xs at ≡ Some x → p x ≡ true
all_at p [] at x h e = cc e
all_at p (y ∷ ys) zero x h e = by (p y) refl h
  where
    by : (b : Bool) → p y ≡ b → (b && list_all p ys) ≡ true → p x ≡ true
    by true f h = let s : y ≡ x = cc e in rw (← s) f
    by false f h = cc h
all_at p (y ∷ ys) (suc at) x h e = by (p y) h (λ more. all_at p ys at x more e)
  where
    by : (b : Bool) → (b && list_all p ys) ≡ true → (list_all p ys ≡ true → p x ≡ true) → p x ≡ true
    by true h more = more h
    by false h more = cc h

all_same : {X : Type 0} (p q : X → Bool) → ((x : X) → p x ≡ q x) → (xs : List X) → list_all p xs ≡ list_all q xs
all_same p q h [] = refl
all_same p q h (x ∷ xs) = rw (h x, all_same p q h xs) refl

-- what holds of every role in the list holds of each
pub each_role : (p : Role → Bool) → list_all p all_roles ≡ true → (role : Role) → p role ≡ true
each_role p h role = all_at p all_roles (role_number role) role h (stands_there role)

-- the role of a family and a name is found
pub finds_itself : (role : Role) → find (λ s. same_family (family_of role) (family_of s) && bytes_eq (role_text role) (role_text s)) all_roles ≡ Some role
unfolding all_roles family_of role_text same_family family_text
finds_itself LogonRequest = refl
finds_itself LogoutRequest = refl
finds_itself EtiHeartbeat = refl
finds_itself NewOrderSingleRequest = refl
finds_itself ModifyOrderSingleRequest = refl
finds_itself DeleteOrderSingleRequest = refl
finds_itself DeleteAllOrderRequest = refl
finds_itself RetransmitMEMessageRequest = refl
finds_itself LogonResponse = refl
finds_itself LogoutResponse = refl
finds_itself HeartbeatNotification = refl
finds_itself Reject = refl
finds_itself RetransmitMEMessageResponse = refl
finds_itself NewOrderResponse = refl
finds_itself ModifyOrderResponse = refl
finds_itself DeleteOrderResponse = refl
finds_itself DeleteAllOrderResponse = refl
finds_itself DeleteAllOrderBroadcast = refl
finds_itself OrderExecNotification = refl
finds_itself PacketHeader = refl
finds_itself EobiHeartbeat = refl
finds_itself OrderAdd = refl
finds_itself OrderModify = refl
finds_itself OrderModifySamePriority = refl
finds_itself OrderDelete = refl
finds_itself OrderMassDelete = refl
finds_itself PartialOrderExecution = refl
finds_itself FullOrderExecution = refl
finds_itself ExecutionSummary = refl
finds_itself ProductSummary = refl
finds_itself InstrumentSummary = refl
finds_itself SnapshotOrder = refl

and_true : (a b : Bool) → (a && b) ≡ true → (a ≡ true) × (b ≡ true)
and_true true b h = (refl, h)
and_true false b h = cc h

or_false : (a b : Bool) → (a || b) ≡ false → (a ≡ false) × (b ≡ false)
or_false true b h = cc h
or_false false b h = (refl, h)

and_no : (a b : Bool) → b ≡ false → (a && b) ≡ false
and_no true b h = h
and_no false b h = refl

not_false : (a : Bool) → not a ≡ false → a ≡ true
not_false true h = refl
not_false false h = cc h

pub same_bytes : (a b : List ℕ) → bytes_eq a b ≡ true → a ≡ b
same_bytes a b h = (bytes_eq-Decides a b).0 h

pub one_family : (a b : Family) → same_family a b ≡ true → a ≡ b
unfolding same_family family_text
one_family Eti Eti h = refl
one_family Eti Eobi h = cc h
one_family Eobi Eti h = cc h
one_family Eobi Eobi h = refl

pub find_same : {X : Type 0} (p q : X → Bool) → ((x : X) → p x ≡ q x) → (xs : List X) → find p xs ≡ find q xs
find_same p q h [] = refl
find_same p q h (x ∷ xs) = rw (h x, find_same p q h xs) refl

-- a row of a role has that role
pub has_role_of : (row : Record) (role : Role) → is_of row role ≡ true → role_of row ≡ Some role
unfolding role_of is_of
has_role_of row role h =
    let both = and_true _ _ h in
    let family : row_family row ≡ family_of role = one_family (row_family row) (family_of role) both.0 in
    let name : cell row 2 ≡ role_text role = same_bytes (cell row 2) (role_text role) both.1 in
    find_same _ (λ s. same_family (family_of role) (family_of s) && bytes_eq (role_text role) (role_text s)) (λ s. rw (family, name) refl) all_roles ∙ finds_itself role

any_at : (p : Record → Bool) (rows : List Record) → list_any p rows ≡ true → (k : ℕ) × (k < length rows) × (p (record_at rows k) ≡ true)
any_at p [] h = cc h
any_at p (row ∷ rows) h = by (p row) refl h (any_at p rows)
  where
    by : (b : Bool) → p row ≡ b → (b || list_any p rows) ≡ true → (list_any p rows ≡ true → (k : ℕ) × (k < length rows) × (p (record_at rows k) ≡ true))
        → (k : ℕ) × (k < length (row ∷ rows)) × (p (record_at (row ∷ rows) k) ≡ true)
    by true e h more = (0, omega arith, e)
    by false e h more = let (k, inside, is) = more h in (suc k, omega arith, is)

no_role : (role : Role) → bytes_eq (codes "template") (role_text role) ≡ false
unfolding role_text
no_role LogonRequest = refl
no_role LogoutRequest = refl
no_role EtiHeartbeat = refl
no_role NewOrderSingleRequest = refl
no_role ModifyOrderSingleRequest = refl
no_role DeleteOrderSingleRequest = refl
no_role DeleteAllOrderRequest = refl
no_role RetransmitMEMessageRequest = refl
no_role LogonResponse = refl
no_role LogoutResponse = refl
no_role HeartbeatNotification = refl
no_role Reject = refl
no_role RetransmitMEMessageResponse = refl
no_role NewOrderResponse = refl
no_role ModifyOrderResponse = refl
no_role DeleteOrderResponse = refl
no_role DeleteAllOrderResponse = refl
no_role DeleteAllOrderBroadcast = refl
no_role OrderExecNotification = refl
no_role PacketHeader = refl
no_role EobiHeartbeat = refl
no_role OrderAdd = refl
no_role OrderModify = refl
no_role OrderModifySamePriority = refl
no_role OrderDelete = refl
no_role OrderMassDelete = refl
no_role PartialOrderExecution = refl
no_role FullOrderExecution = refl
no_role ExecutionSummary = refl
no_role ProductSummary = refl
no_role InstrumentSummary = refl
no_role SnapshotOrder = refl

-- the heading is of no role
heading_of_none : (row : Record) (role : Role) → is_heading row ≡ true → is_of row role ≡ false
unfolding is_heading is_of
heading_of_none row role h =
    let a = and_true _ _ h in
    let b = and_true _ _ a.0 in
    let c = and_true _ _ b.0 in
    let d = and_true _ _ c.0 in
    let e = and_true _ _ d.0 in
    let f = and_true _ _ e.0 in
    let name : cell row 2 ≡ codes "template" = same_bytes (cell row 2) (codes "template") f.1 in
    and_no (same_family (row_family row) (family_of role)) _ (rw name (no_role role))

-- rows of one template are of one role
pub of_same : (a b : Record) (role : Role) → same_template a b ≡ true → is_of a role ≡ true → is_of b role ≡ true
unfolding same_template same_cell is_of row_family in_family
of_same a b role h of =
    let x = and_true _ _ h in
    let y = and_true _ _ x.0 in
    let z = and_true _ _ y.0 in
    let first : cell a 0 ≡ cell b 0 = same_bytes (cell a 0) (cell b 0) z.1 in
    let third : cell a 2 ≡ cell b 2 = same_bytes (cell a 2) (cell b 2) x.1 in
    rw (first, third) at of

-- the last row of a template of a role
pub record Last (rows : List Record) (role : Role) : Type 0 where
  pub at : ℕ
  pub first : 0 < at
  pub inside : at < length rows
  pub last : ends rows at ≡ true
  pub of : is_of (record_at rows at) role ≡ true

ends_there : (rows : List Record) (at : ℕ) → at + 1 ≡ length rows → ends rows at ≡ true
unfolding ends
ends_there rows at e =
    let t : nat_le (length rows) (at + 1) ≡ true = grind (arith, nat_tests) in
    rw t refl

pub goes_on : (rows : List Record) (at : ℕ) → ends rows at ≡ false → same_template (record_at rows at) (record_at rows (at + 1)) ≡ true
unfolding ends
goes_on rows at e = not_false _ (or_false _ _ e).1

to_last : (rows : List Record) (role : Role) (n at : ℕ) → 0 < at → at + n + 1 ≡ length rows → is_of (record_at rows at) role ≡ true → Last rows role
to_last rows role zero at first e of =
    record { at = at; first = first; inside = omega arith; last = ends_there rows at (omega arith); of = of }
to_last rows role (suc n) at first e of = by (ends rows at) refl (to_last rows role n (at + 1) (omega arith) (omega arith))
  where
    by : (b : Bool) → ends rows at ≡ b → (is_of (record_at rows (at + 1)) role ≡ true → Last rows role) → Last rows role
    by true l more = record { at = at; first = first; inside = omega arith; last = l; of = of }
    by false l more = more (of_same (record_at rows at) (record_at rows (at + 1)) role (goes_on rows at l) of)

find_append : {X : Type 0} (p : X → Bool) (xs ys : List X) → find p (xs ++ ys) ≡ first_of (find p xs) (find p ys)
find_append p [] ys = refl
find_append p (x ∷ xs) ys = by (p x) (find_append p xs ys)
  where
    by : (b : Bool) → find p (xs ++ ys) ≡ first_of (find p xs) (find p ys) → cond b (Some x) (find p (xs ++ ys)) ≡ first_of (cond b (Some x) (find p xs)) (find p ys)
    by true e = refl
    by false e = e

-- a template that was found
pub record Found (p : Layout → Bool) (rows : List Record) (n : ℕ) (t : Layout) : Type 0 where
  pub at : ℕ
  pub first : 0 < at
  pub below : at < n
  pub last : ends rows at ≡ true
  pub is : t ≡ layout_at rows at
  pub passes : p (layout_at rows at) ≡ true

pub find_in : (p : Layout → Bool) (rows : List Record) (n : ℕ) (t : Layout) → find p (layouts_before rows n) ≡ Some t → Found p rows n t
unfolding layouts_before
find_in p rows zero t h = cc h
find_in p rows (suc m) t h =
    by (find p (layouts_before rows m)) refl (rw find_append at h) (find_in p rows m t)
  where
    new : List Layout
    new = if nat_lt 0 m && ends rows m then layout_at rows m ∷ [] else []

    wide : Found p rows m t → Found p rows (suc m) t
    wide f = record { at = f.at; first = f.first; below = omega (arith, f.below); last = f.last; is = f.is; passes = f.passes }

    here : (b c : Bool) → (nat_lt 0 m && ends rows m) ≡ b → p (layout_at rows m) ≡ c → cond b (cond c (Some (layout_at rows m)) None) None ≡ Some t → Found p rows (suc m) t
    here true true e f g =
        let both = and_true _ _ e in
        let some : nat_lt 0 m ≡ true = both.0 in
        record { at = m; first = grind (arith, nat_tests); below = omega arith; last = both.1; is = cc g; passes = f }
    here true false e f g = cc g
    here false c e f g = cc g

    by : (o : Option Layout) → find p (layouts_before rows m) ≡ o → first_of o (find p (if nat_lt 0 m && ends rows m then layout_at rows m ∷ [] else [])) ≡ Some t
        → (find p (layouts_before rows m) ≡ Some t → Found p rows m t) → Found p rows (suc m) t
    by (Some u) e g more = wide (more (e ∙ g))
    by None e g more = split (nat_lt 0 m && ends rows m) refl g
      where
        split : (b : Bool) → (nat_lt 0 m && ends rows m) ≡ b → find p (cond b (layout_at rows m ∷ []) []) ≡ Some t → Found p rows (suc m) t
        split true e g = here true (p (layout_at rows m)) e refl g
        split false e g = cc g

find_none : (p : Layout → Bool) (rows : List Record) (n k : ℕ) → find p (layouts_before rows n) ≡ None → 0 < k → k < n → ends rows k ≡ true → p (layout_at rows k) ≡ false
unfolding layouts_before
find_none p rows zero k h first below last = absurd (omega arith)
find_none p rows (suc m) k h first below last =
    let both = first_none _ _ (rw find_append at h) in
    by (nat_lt k m) refl (find_none p rows m k both.0 first) both.1
  where
    by : (b : Bool) → nat_lt k m ≡ b → (k < m → ends rows k ≡ true → p (layout_at rows k) ≡ false)
        → find p (if nat_lt 0 m && ends rows m then layout_at rows m ∷ [] else []) ≡ None → p (layout_at rows k) ≡ false
    by true e more none = more (grind (arith, nat_tests)) last
    by false e more none =
        let here : k ≡ m = (let past : m ≤ k = grind (arith, nat_tests) in omega arith) in
        let some : nat_lt 0 m ≡ true = (let h : 0 < m = omega arith in grind (arith, nat_tests)) in
        let end : ends rows m ≡ true = rw (← here) last in
        let left : find p (layout_at rows m ∷ []) ≡ None = rw (some, end) at none in
        rw here (fails (p (layout_at rows m)) left)
      where
        fails : (b : Bool) → cond b (Some (layout_at rows m)) None ≡ None → b ≡ false
        fails true h = cc h
        fails false h = refl

field_same : (family : Family) (size : ℕ) (name : FieldName) (rows : List Record)
    → list_any (is_field family name) rows ≡ is_some (find_field family name (map row_name rows) (map (place_of size) rows))
unfolding find_field is_place is_field row_name place_of
field_same family size name [] = refl
field_same family size name (row ∷ rows) =
    by (bytes_eq (cell row 3) (field_text name) && same_kind (row_kind row) (kind_of name) && (row_width row == width_in family name)) (field_same family size name rows)
  where
    by : (b : Bool) → list_any (is_field family name) rows ≡ is_some (find_field family name (map row_name rows) (map (place_of size) rows))
        → (b || list_any (is_field family name) rows) ≡ is_some (cond b (Some (place_of size row)) (find_field family name (map row_name rows) (map (place_of size) rows)))
    by true e = refl
    by false e = e

-- each last row of a role has the role's fields
role_fields : (rows : List Record) (at : ℕ) (role : Role) → ends rows at ≡ true → role_of (record_at rows at) ≡ Some role → fails_role_field rows at ≡ false → has_fields role (so_far rows at) ≡ true
unfolding fails_role_field
role_fields rows at role last is passes = not_false _ (rw (last, is) at passes)

of_layout : (rows : List Record) (at : ℕ) (role : Role) → is_of (record_at rows at) role ≡ true → is_layout_of role (layout_at rows at) ≡ true
unfolding is_layout_of layout_at is_of
of_layout rows at role h = h

pub layout_of : (rows : List Record) (at : ℕ) (role : Role) → is_layout_of role (layout_at rows at) ≡ true → is_of (record_at rows at) role ≡ true
unfolding is_layout_of layout_at is_of
layout_of rows at role h = h

fields_by : (rows : List Record) (at : ℕ) (role : Role) → has_fields role (so_far rows at) ≡ true
    → list_all (λ name. is_some (find_field (family_of role) name (layout_at rows at).names (layout_at rows at).fields)) (required role) ≡ true
unfolding has_fields layout_at
fields_by rows at role h =
    sym (all_same _ (λ name. is_some (find_field (family_of role) name (map row_name (so_far rows at)) (map (place_of (row_end (record_at rows at))) (so_far rows at))))
    (λ name. field_same (family_of role) (row_end (record_at rows at)) name (so_far rows at)) (required role)) ∙ h

-- valid records have a template for each role, with its fields
pub valid_roles : (rows : List Record) → IsValid rows → (role : Role) → holds_role (table_of rows) role ≡ true
unfolding fault_of has_roles fault_at holds_role find_role table_of has_fields
valid_roles rows valid role =
    let some = some_rows rows valid in
    let parts = first_none _ _ valid in
    let least = none_below (fault_at rows) 0 (looked_at rows) parts.0 0 (omega arith) (omega (arith, looked_at_all rows some)) in
    let heads : is_heading (record_at rows 0) ≡ true = heads_by (is_heading (record_at rows 0)) least in
    let all : list_all (λ r. list_any (λ row. is_of row r) rows) all_roles ≡ true = has_by (list_all (λ r. list_any (λ row. is_of row r) rows) all_roles) parts.1 in
    let (k, inside, of) = any_at (λ row. is_of row role) rows (each_role (λ r. list_any (λ row. is_of row r) rows) all role) in
    let first : 0 < k = first_by k of heads in
    let l = to_last rows role (length rows - k - 1) k first (omega arith) of in
    found (find (is_layout_of role) (layouts_before rows (length rows))) refl l
  where
    heads_by : (b : Bool) → cond {A = Option TableWhy} b None (Some why.Columns) ≡ None → b ≡ true
    heads_by true h = refl
    heads_by false h = cc h

    has_by : (b : Bool) → cond {A = Option TableFault} b None (Some (record { row = length rows + 1; why = why.RoleMissing })) ≡ None → b ≡ true
    has_by true h = refl
    has_by false h = cc h

    first_by : (k : ℕ) → is_of (record_at rows k) role ≡ true → is_heading (record_at rows 0) ≡ true → 0 < k
    first_by zero of heads = cc (of, heading_of_none (record_at rows 0) role heads)
    first_by (suc k) of heads = omega arith

    found : (o : Option Layout) → find (is_layout_of role) (layouts_before rows (length rows)) ≡ o → Last rows role
        → option_map_or (λ (t : Layout). list_all (λ name. is_some (find_field (family_of role) name t.names t.fields)) (required role)) o false ≡ true
    found None e l = cc (of_layout rows l.at role l.of, find_none (is_layout_of role) rows (length rows) l.at e l.first l.inside l.last)
    found (Some t) e l =
        let f = find_in (is_layout_of role) rows (length rows) t e in
        let of = layout_of rows f.at role f.passes in
        let fields = role_fields rows f.at role f.last (has_role_of (record_at rows f.at) role of) (valid_passes rows valid f.at f.first f.below).role_field in
        rw f.is (fields_by rows f.at role fields)
