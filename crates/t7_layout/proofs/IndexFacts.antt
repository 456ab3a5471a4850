-- What is looked up in a table, one role and one template at a time.
use Rattle.std.proofs.Common.{◌≡◌, ◌≢◌, ◌<◌, ◌≤◌, ◌+◌, ◌-◌, ◌*◌, ◌∙◌, ℕ, zero, suc, List, [], ◌∷◌, ◌++◌, Bool, true, false, Option, Some, None, length, map, drop, get_or, refl, ap, sym, arith, cond, nat_eq, ◌&&◌, ◌==◌, add-one, drop-cons, suc-mul, length-append, nat_lt}
use Rattle.std.specs.Prelude.{Contains, IfSome, find, slice_get, slice_index, slice_set, replicate}
use Rattle.std.specs.List.{flat_map}
use Rattle.std.specs.Option.{option_and_then, unwrap_or}
use Rattle.std.proofs.lemmas.Bool.Decides.{nat_tests}
use Rattle.std.proofs.lemmas.List.{drop_all}
use Rattle.t7_layout.specs.declared.words.Family.{Family}
use Rattle.t7_layout.specs.declared.roles.Role.{Role}
use Rattle.t7_layout.specs.declared.roles.FieldName.{FieldName}
use Rattle.t7_layout.specs.declared.roles.FieldName.TheVariants.{BodyLen, TemplateID, MsgSeqNum, HeartBtInt, PartyIDSessionID, Side, SecurityID, ClOrdID, Price, OrderQty, OrderID, ApplBegMsgID, ApplEndMsgID, SessionRejectReason, ApplTotalMessageCount, RefApplLastMsgID, ApplMsgID, TrdRegTSTimePriority, NoAffectedOrders, LeavesQty, CumQty, FillQty, FillPx, ApplSeqNum, MarketSegmentID, LastMsgSeqNumProcessed, DisplayQty, TrdRegTSPrevTimePriority, PrevPrice, PrevDisplayQty, LastQty, LastPx, AggressorTime, AggressorSide, TotNoOrders}
use Rattle.t7_layout.specs.Inside.{AreFieldsOfRoles, ArePlacesOfIds, ArePlacesOfRoles, field_in, filler, layout_before, place_of_role}
use Rattle.t7_layout.specs.Layouts.{Layout, Place}
use Rattle.t7_layout.specs.Lookups.{find_field, find_role, has_id, holds_role, is_layout_of, place_in}
use Rattle.t7_layout.specs.Roles.{all_names, all_roles, family_of, kind_of, name_number, required, role_number, width_in}
use Rattle.t7_layout.specs.Rows.{same_family}
use Rattle.t7_records.specs.Records.{Record}
use Rattle.std.proofs.lemmas.Option.{slice_get_within}
use Rattle.t7_layout.specs.Rows.{ends}
use Rattle.t7_layout.specs.Tables.{layout_at, layouts_before, table_of}
use Rattle.t7_layout.proofs.LookupFacts.{field_there, found_field, role_there}
use Rattle.t7_layout.proofs.RoleFacts.{stands_there}

-- the place of a role's template, one template at a time
pub place_next : (layouts : List Layout) (role : Role) (i : ℕ) (t : Layout) → i < length layouts → t ≡ get_or layouts i t → is_layout_of role t ≡ false
    → place_of_role (drop i layouts) role ≡ suc (place_of_role (drop (i + 1) layouts) role)
unfolding place_of_role
place_next layouts role i t h is fails = rw (add-one i, drop-cons layouts i t h, ← is, fails) refl

pub place_here : (layouts : List Layout) (role : Role) (i : ℕ) (t : Layout) → i < length layouts → t ≡ get_or layouts i t → is_layout_of role t ≡ true → place_of_role (drop i layouts) role ≡ 0
unfolding place_of_role
place_here layouts role i t h is passes = rw (drop-cons layouts i t h, ← is, passes) refl

pub place_past : (layouts : List Layout) (role : Role) (i : ℕ) → length layouts ≤ i → place_of_role (drop i layouts) role ≡ 0
unfolding place_of_role
place_past layouts role i h = rw (drop_all i layouts h) refl

place_finds : (layouts : List Layout) (role : Role) → slice_get layouts (place_of_role layouts role) ≡ find (is_layout_of role) layouts
unfolding place_of_role
place_finds [] role = refl
place_finds (t ∷ ts) role = by (is_layout_of role t) (place_finds ts role)
  where
    by : (b : Bool) → slice_get ts (place_of_role ts role) ≡ find (is_layout_of role) ts
        → slice_get (t ∷ ts) (cond b 0 (suc (place_of_role ts role))) ≡ cond b (Some t) (find (is_layout_of role) ts)
    by true e = refl
    by false e = e

mapped : {X Y : Type 0} (f : X → Y) (xs : List X) (i : ℕ) (x : X) → slice_get xs i ≡ Some x → slice_get (map f xs) i ≡ Some (f x)
mapped f [] i x h = cc h
mapped f (y ∷ ys) zero x h = let s : y ≡ x = cc h in ap (λ z. Some (f z)) s
mapped f (y ∷ ys) (suc i) x h = mapped f ys i x h

pub role_places : (layouts : List Layout) → ArePlacesOfRoles layouts (map (place_of_role layouts) all_roles)
unfolding find_role
role_places layouts role = rw (mapped (place_of_role layouts) all_roles (role_number role) role (stands_there role)) (place_finds layouts role)

in_front : {X : Type 0} (xs ys : List X) (i : ℕ) (x : X) → slice_get xs i ≡ Some x → slice_get (xs ++ ys) i ≡ Some x
in_front [] ys i x h = cc h
in_front (z ∷ zs) ys zero x h = h
in_front (z ∷ zs) ys (suc i) x h = in_front zs ys i x h

behind : {X : Type 0} (xs ys : List X) (i : ℕ) → slice_get (xs ++ ys) (length xs + i) ≡ slice_get ys i
behind [] ys i = let e : 0 + i ≡ i = omega arith in rw e refl
behind (x ∷ xs) ys i = let e : suc (length xs) + i ≡ suc (length xs + i) = omega arith in rw e (behind xs ys i)

-- an item of one of several lists of one length
in_flat : {X Y : Type 0} (f : X → List Y) (n : ℕ) (long : (x : X) → length (f x) ≡ n) (xs : List X) (k j : ℕ) (x : X) (y : Y) → slice_get xs k ≡ Some x → slice_get (f x) j ≡ Some y
    → slice_get (flat_map f xs) (k * n + j) ≡ Some y
in_flat f n long [] k j x y h e = cc h
in_flat f n long (z ∷ zs) zero j x y h e =
    let s : z ≡ x = cc h in
    let none : 0 * n + j ≡ j = omega arith in
    rw (none, s) (in_front (f x) (flat_map f zs) j y e)
in_flat f n long (z ∷ zs) (suc k) j x y h e =
    let more : suc k * n ≡ k * n + n = suc-mul k n in
    let first : length (f z) ≡ n = long z in
    let one : suc k * n + j ≡ length (f z) + (k * n + j) = omega (arith, more, first) in
    rw one (behind (f z) (flat_map f zs) (k * n + j) ∙ in_flat f n long zs k j x y h e)

-- where a name stands among all of them
name_there : (name : FieldName) → slice_get all_names (name_number name) ≡ Some name
unfolding all_names name_number
name_there BodyLen = refl
name_there TemplateID = refl
name_there MsgSeqNum = refl
name_there HeartBtInt = refl
name_there PartyIDSessionID = refl
name_there Side = refl
name_there SecurityID = refl
name_there ClOrdID = refl
name_there Price = refl
name_there OrderQty = refl
name_there OrderID = refl
name_there ApplBegMsgID = refl
name_there ApplEndMsgID = refl
name_there SessionRejectReason = refl
name_there ApplTotalMessageCount = refl
name_there RefApplLastMsgID = refl
name_there ApplMsgID = refl
name_there TrdRegTSTimePriority = refl
name_there NoAffectedOrders = refl
name_there LeavesQty = refl
name_there CumQty = refl
name_there FillQty = refl
name_there FillPx = refl
name_there ApplSeqNum = refl
name_there MarketSegmentID = refl
name_there LastMsgSeqNumProcessed = refl
name_there DisplayQty = refl
name_there TrdRegTSPrevTimePriority = refl
name_there PrevPrice = refl
name_there PrevDisplayQty = refl
name_there LastQty = refl
name_there LastPx = refl
name_there AggressorTime = refl
name_there AggressorSide = refl
name_there TotNoOrders = refl

names_many : length all_names ≡ 35
unfolding all_names
names_many = refl

map_long : {X Y : Type 0} (f : X → Y) (xs : List X) → length (map f xs) ≡ length xs
map_long f [] = refl
map_long f (x ∷ xs) = ap suc (map_long f xs)

pub role_fields_are : (layouts : List Layout) → AreFieldsOfRoles layouts (flat_map (λ role. map (field_in layouts role) all_names) all_roles)
role_fields_are layouts role name =
    in_flat (λ r. map (field_in layouts r) all_names) 35 (λ r. map_long (field_in layouts r) all_names ∙ names_many) all_roles (role_number role) (name_number name) role (field_in layouts role name)
    (stands_there role) (mapped (field_in layouts role) all_names (name_number name) name (name_there name))

-- ids, from the last template to the first
pub zeros : (n i : ℕ) → slice_index (replicate n 0) i ≡ 0
zeros zero i = refl
zeros (suc n) zero = refl
zeros (suc n) (suc i) = zeros n i

pub no_ids : (layouts : List Layout) (family : Family) (places : List ℕ) → ((i : ℕ) → slice_index places i ≡ 0) → length places ≡ 65536 → ArePlacesOfIds layouts family (length layouts) places
no_ids layouts family places e long = record {
  long = long;
  each = λ id h. rw (e id, drop_all (length layouts) layouts (omega arith)) refl;
}

here_found : (p : Layout → Bool) (layouts : List Layout) (i : ℕ) (t : Layout) → i < length layouts → t ≡ get_or layouts i t → find p (drop i layouts) ≡ cond (p t) (Some t) (find p (drop (i + 1) layouts))
here_found p layouts i t h is = rw (add-one i, drop-cons layouts i t h, ← is) refl

there : (layouts : List Layout) (i : ℕ) (t : Layout) → i < length layouts → t ≡ get_or layouts i t → slice_get layouts i ≡ Some t
there [] i t h e = absurd (omega arith)
there (x ∷ xs) zero t h e = ap (λ (y : Layout). Some y) (sym e)
there (x ∷ xs) (suc i) t h e = there xs i t (omega arith) e

-- a template of another family changes nothing
pub id_passed : (layouts : List Layout) (family : Family) (left : ℕ) (t : Layout) (places : List ℕ) → 0 < left → left ≤ length layouts → t ≡ get_or layouts (left - 1) t → same_family t.family family ≡ false
    → ArePlacesOfIds layouts family left places → ArePlacesOfIds layouts family (left - 1) places
id_passed layouts family left t places some below is other are =
    let back : left - 1 + 1 ≡ left = omega arith in
    record {
      long = are.long;
      each = λ id h. are.each id h ∙ sym (here_found (has_id family id) layouts (left - 1) t (omega arith) is ∙ rw (other, back) refl);
    }

set_same : (places : List ℕ) (i v : ℕ) → i < length places → slice_index (slice_set places i v) i ≡ v
set_same [] i v h = absurd (omega arith)
set_same (p ∷ ps) zero v h = refl
set_same (p ∷ ps) (suc i) v h = set_same ps i v (omega arith)

set_other : (places : List ℕ) (i j v : ℕ) → i ≢ j → slice_index (slice_set places i v) j ≡ slice_index places j
set_other [] i j v h = refl
set_other (p ∷ ps) zero zero v h = absurd (h refl)
set_other (p ∷ ps) zero (suc j) v h = refl
set_other (p ∷ ps) (suc i) zero v h = refl
set_other (p ∷ ps) (suc i) (suc j) v h = set_other ps i j v (λ e. h (ap suc e))

set_long : (places : List ℕ) (i v : ℕ) → length (slice_set places i v) ≡ length places
set_long [] i v = refl
set_long (p ∷ ps) zero v = refl
set_long (p ∷ ps) (suc i) v = ap suc (set_long ps i v)

-- a template of the family is noted
pub id_noted : (layouts : List Layout) (family : Family) (left : ℕ) (t : Layout) (places : List ℕ) → 0 < left → left ≤ length layouts → t ≡ get_or layouts (left - 1) t → same_family t.family family ≡ true
    → t.id < 65536 → ArePlacesOfIds layouts family left places → ArePlacesOfIds layouts family (left - 1) (slice_set places t.id left)
id_noted layouts family left t places some below is same small are = record {
  long = set_long places t.id left ∙ are.long;
  each = λ id h. by id h (t.id == id) refl;
}
  where
    back : left - 1 + 1 ≡ left
    back = omega arith

    last : layout_before layouts left ≡ slice_get layouts (left - 1)
    last = split left some
      where
        split : (n : ℕ) → 0 < n → layout_before layouts n ≡ slice_get layouts (n - 1)
        split zero h = absurd (omega arith)
        split (suc n) h = let e : suc n - 1 ≡ n = omega arith in rw e refl

    by : (id : ℕ) → id < 65536 → (b : Bool) → nat_eq t.id id ≡ b → layout_before layouts (slice_index (slice_set places t.id left) id) ≡ find (has_id family id) (drop (left - 1) layouts)
    by id h true e =
        let one : t.id ≡ id = grind (arith, nat_tests) in
        let set : slice_index (slice_set places t.id left) id ≡ left = rw (← one) (set_same places t.id left (omega (arith, are.long, small))) in
        ap (layout_before layouts) set ∙ last ∙ there layouts (left - 1) t (omega arith) is ∙ sym (here_found (has_id family id) layouts (left - 1) t (omega arith) is ∙ rw (same, e) refl)
    by id h false e =
        let two : t.id ≢ id = grind (arith, nat_tests) in
        ap (layout_before layouts) (set_other places t.id id left two) ∙ are.each id h ∙ sym (here_found (has_id family id) layouts (left - 1) t (omega arith) is ∙ rw (same, e, back) refl)

-- ---- what is found

-- the template of a role, and where it stands
pub record RolePlace (layouts : List Layout) (places : List ℕ) (role : Role) : Type 0 where
  pub place : ℕ
  pub template : Layout
  pub there : slice_get places (role_number role) ≡ Some place
  pub is : slice_get layouts place ≡ Some template
  pub found : find_role layouts role ≡ Some template

pub role_stands : (layouts : List Layout) (places : List ℕ) (role : Role) → ArePlacesOfRoles layouts places → holds_role layouts role ≡ true → RolePlace layouts places role
role_stands layouts places role are holds = by (slice_get places (role_number role)) refl (are role) (find_role layouts role) refl
  where
    by : (o : Option ℕ) → slice_get places (role_number role) ≡ o → option_and_then (slice_get layouts) o ≡ find_role layouts role → (t : Option Layout) → find_role layouts role ≡ t → RolePlace layouts places role
    by o e is None found = absurd (role_there layouts role holds found)
    by None e is (Some t) found = cc (is, found)
    by (Some k) e is (Some t) found = record { place = k; template = t; there = e; is = is ∙ found; found = found }

pub field_inside : (layouts : List Layout) (fields : List Place) (role : Role) (name : FieldName) → AreFieldsOfRoles layouts fields → role_number role * 35 + name_number name < length fields
field_inside layouts fields role name are = slice_get_within fields (role_number role * 35 + name_number name) (field_in layouts role name) (are role name)

required_there : (layouts : List Layout) (role : Role) (name : FieldName) → holds_role layouts role ≡ true → Contains (required role) name → place_in layouts role name ≡ None → ⊥
unfolding place_in
required_there layouts role name holds there none = by (find_role layouts role) refl none
  where
    by : (o : Option Layout) → find_role layouts role ≡ o → option_and_then (λ (t : Layout). find_field (family_of role) name t.names t.fields) o ≡ None → ⊥
    by None e none = role_there layouts role holds e
    by (Some t) e none = field_there layouts role t name holds e there none

-- the field that is kept for a required name is the one that has it
pub field_is : (layouts : List Layout) (fields : List Place) (role : Role) (name : FieldName) (f : Place) → AreFieldsOfRoles layouts fields → holds_role layouts role ≡ true → Contains (required role) name
    → slice_get fields (role_number role * 35 + name_number name) ≡ Some f → place_in layouts role name ≡ Some f
field_is layouts fields role name f are holds there e = by (place_in layouts role name) refl (sym (are role name) ∙ e)
  where
    by : (o : Option Place) → place_in layouts role name ≡ o → Some (unwrap_or o filler) ≡ Some f → o ≡ Some f
    by None none e = absurd (required_there layouts role name holds there none)
    by (Some g) some e = e

-- the field of a role that a name has
pub record RoleField (layouts : List Layout) (role : Role) (name : FieldName) (f : Place) : Type 0 where
  pub there : IfSome (find_role layouts role) (λ t. Contains t.fields f)
  pub kind : f.kind ≡ kind_of name
  pub width : f.width ≡ width_in (family_of role) name

pub role_field : (layouts : List Layout) (role : Role) (name : FieldName) (f : Place) → place_in layouts role name ≡ Some f → RoleField layouts role name f
unfolding place_in
role_field layouts role name f h = by (find_role layouts role) refl h
  where
    by : (o : Option Layout) → find_role layouts role ≡ o → option_and_then (λ (t : Layout). find_field (family_of role) name t.names t.fields) o ≡ Some f → RoleField layouts role name f
    by None e h = cc h
    by (Some t) e h =
        let r = found_field (family_of role) name t.names t.fields f h in
        record { there = rw e r.there; kind = r.kind; width = r.width }

pub few_templates : (rows : List Record) (n : ℕ) → length (layouts_before rows n) ≤ n
unfolding layouts_before
few_templates rows zero = omega arith
few_templates rows (suc m) = by (nat_lt 0 m && ends rows m) (few_templates rows m)
  where
    by : (b : Bool) → length (layouts_before rows m) ≤ m → length (layouts_before rows m ++ cond b (layout_at rows m ∷ []) []) ≤ suc m
    by true h = omega (arith, h, length-append (layouts_before rows m) (layout_at rows m ∷ []))
    by false h = omega (arith, h, length-append {A = Layout} (layouts_before rows m) [])

pub few_table : (rows : List Record) → length rows < 4294967295 → length (table_of rows) < 4294967296
unfolding table_of
few_table rows h = omega (arith, h, few_templates rows (length rows))
