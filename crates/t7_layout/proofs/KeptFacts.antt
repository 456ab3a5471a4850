-- What the table of valid records keeps.
use Rattle.std.proofs.Common.{◌≡◌, ◌<◌, ◌≤◌, ◌+◌, ◌-◌, ◌∙◌, ℕ, zero, suc, List, [], ◌∷◌, ◌++◌, Bool, true, false, not, Option, Some, None, length, map, take, get_or, refl, ap, sym, subst, arith, cond, nat_lt, nat_le, nat_eq, ◌&&◌, ◌||◌, ◌==◌, is_some, length-append, ◌⊎◌, inl, inr, ◌%◌}
use Rattle.std.specs.Prelude.{Contains, find, slice_get}
use Rattle.std.specs.List.{list_any}
use Rattle.std.specs.Option.{option_and_then}
use Rattle.std.specs.Str.{bytes_eq}
use Rattle.std.proofs.lemmas.Bool.Decides.{nat_tests}
use Rattle.std.proofs.lemmas.List.{append-nil, get_or_append_left}
use Rattle.std.proofs.lemmas.Cmp.{nat_list_eq_equiv}
use Rattle.std.proofs.Math.Seq.{get_or-append_seam}
use Rattle.std.proofs.lemmas.Option.{slice_get-get_or}
use Rattle.std.proofs.lemmas.Slice.Eq.{bytes_eq-Decides}
use Rattle.t7_records.specs.Records.{Record, cell, record_at}
use Rattle.t7_layout.specs.declared.words.Family.{Family}
use Rattle.t7_layout.specs.declared.words.Family.TheVariants.{Eti, Eobi}
use Rattle.t7_layout.specs.declared.roles.FieldName.{FieldName}
use Rattle.t7_layout.specs.declared.roles.Role.{Role}
use Rattle.t7_layout.specs.Faults.{IsValid, fails_duplicate_id, fails_duplicate_name, fails_family, fails_length, is_required}
use Rattle.t7_layout.specs.Layouts.{IsLayout, Layout, Place}
use Rattle.t7_layout.specs.Lookups.{IsRoleNull, IsTable, find_field, find_role, is_layout_of, is_place, place_in}
use Rattle.t7_layout.specs.Roles.{family_of, field_text, kind_of, required, width_in}
use Rattle.t7_layout.specs.Rows.{begins, earlier_in, ends, family_text, in_family, is_of, role_of, row_end, row_family, row_id, same_cell, same_kind, same_template, so_far}
use Rattle.t7_layout.specs.Tables.{layout_at, layouts_before, place_of, row_name, table_of}
use Rattle.t7_layout.proofs.FaultFacts.{valid_passes}
use Rattle.t7_layout.proofs.NullFacts.{role_null}
use Rattle.t7_layout.proofs.RoleFacts.{find_in, has_role_of, layout_of, one_family, valid_roles}
use Rattle.t7_layout.proofs.RowFacts.{any_found, past_first}
use Rattle.t7_layout.proofs.SpellingFacts.{same_number}
use Rattle.t7_layout.proofs.TableFacts.{cells_of, is_layout, row_of}

and_true : (a b : Bool) → (a && b) ≡ true → (a ≡ true) × (b ≡ true)
and_true true b h = (refl, h)
and_true false b h = cc h

not_false : (a : Bool) → not a ≡ false → a ≡ true
not_false true h = refl
not_false false h = cc h

or_false : (a b : Bool) → (a || b) ≡ false → (a ≡ false) × (b ≡ false)
or_false true b h = cc h
or_false false b h = (refl, h)

-- rows of one template have the same first three cells
same_cells : (a b : Record) → same_template a b ≡ true → (cell a 0 ≡ cell b 0) × (cell a 1 ≡ cell b 1) × (cell a 2 ≡ cell b 2)
unfolding same_template same_cell
same_cells a b h =
    let x = and_true _ _ h in
    let y = and_true _ _ x.0 in
    let z = and_true _ _ y.0 in
    ((bytes_eq-Decides (cell a 0) (cell b 0)).0 z.1, (bytes_eq-Decides (cell a 1) (cell b 1)).0 y.1, (bytes_eq-Decides (cell a 2) (cell b 2)).0 x.1)

-- ---- each template is that of a last row

pub record LastOf (rows : List Record) (n : ℕ) (t : Layout) : Type 0 where
  pub at : ℕ
  pub first : 0 < at
  pub below : at < n
  pub last : ends rows at ≡ true
  pub is : t ≡ layout_at rows at

-- an item of a list with one more is one of the list, or the new one
split_get : {X : Type 0} (xs : List X) (x : X) (i : ℕ) (y : X) → slice_get (xs ++ x ∷ []) i ≡ Some y → ((i < length xs) × (slice_get xs i ≡ Some y)) ⊎ ((i ≡ length xs) × (y ≡ x))
split_get [] x zero y h = inr (refl, cc h)
split_get [] x (suc i) y h = cc h
split_get (z ∷ zs) x zero y h = inl (omega arith, h)
split_get (z ∷ zs) x (suc i) y h = elim (split_get zs x i y h) [
  | inl l ↦ inl (omega (arith, l.0), l.1)
  | inr r ↦ inr (omega (arith, r.0), r.1)
]

-- each template of the list before row n
pub at_place : (rows : List Record) (n i : ℕ) (t : Layout) → slice_get (layouts_before rows n) i ≡ Some t → LastOf rows n t
unfolding layouts_before
at_place rows zero i t h = cc h
at_place rows (suc m) i t h = by (nat_lt 0 m && ends rows m) refl h (at_place rows m i t)
  where
    wide : LastOf rows m t → LastOf rows (suc m) t
    wide l = record { at = l.at; first = l.first; below = omega (arith, l.below); last = l.last; is = l.is }

    by : (b : Bool) → (nat_lt 0 m && ends rows m) ≡ b → slice_get (layouts_before rows m ++ cond b (layout_at rows m ∷ []) []) i ≡ Some t
        → (slice_get (layouts_before rows m) i ≡ Some t → LastOf rows m t) → LastOf rows (suc m) t
    by false e g more = wide (more (rw append-nil at g))
    by true e g more =
        let both = and_true _ _ e in
        let some : nat_lt 0 m ≡ true = both.0 in
        elim (split_get (layouts_before rows m) (layout_at rows m) i t g) [
          | inl l ↦ wide (more l.1)
          | inr r ↦ record { at = m; first = grind (arith, nat_tests); below = omega arith; last = both.1; is = r.1 }
        ]

place_there : (layouts : List Layout) (t : Layout) → Contains layouts t → (i : ℕ) × (slice_get layouts i ≡ Some t)
place_there layouts t c = let (k, inside, e) = c in (k, slice_get-get_or layouts k t inside ∙ ap (λ (x : Layout). Some x) e)

-- each template is whole
pub each_whole : (rows : List Record) → IsValid rows → (t : Layout) → Contains (table_of rows) t → IsLayout t
unfolding table_of
each_whole rows valid t c =
    let (i, e) = place_there (layouts_before rows (length rows)) t c in
    let l = at_place rows (length rows) i t e in
    rw l.is (is_layout rows l.at l.first l.last (λ j first below. valid_passes rows valid j first (omega (arith, below, l.below))))

-- ---- the length of a template of a market data role

no_more : (a b c : Bool) → (a || b || c) ≡ false → c ≡ false
no_more true b c h = cc h
no_more false true c h = cc h
no_more false false c h = h

eobi_only : (row : Record) → fails_family row ≡ false → row_family row ≡ Eobi → in_family Eobi row ≡ true
unfolding fails_family row_family
eobi_only row h e = by (in_family Eti row) (in_family Eobi row) (not_false _ h) e
  where
    by : (a b : Bool) → (a || b) ≡ true → cond a Eti Eobi ≡ Eobi → b ≡ true
    by true b h e = cc e
    by false b h e = h

family_of_row : (row : Record) (role : Role) → is_of row role ≡ true → row_family row ≡ family_of role
unfolding is_of
family_of_row row role h = one_family (row_family row) (family_of role) (and_true _ _ h).0

short_row : (rows : List Record) (at : ℕ) → ends rows at ≡ true → fails_length rows at ≡ false → in_family Eobi (record_at rows at) ≡ true → is_some (role_of (record_at rows at)) ≡ true
    → row_end (record_at rows at) ≤ 128
unfolding fails_length
short_row rows at last h family role =
    let long : nat_lt 128 (row_end (record_at rows at)) ≡ false = no_more (not (row_end (record_at rows at) % 8 == 0)) (nat_lt 1024 (row_end (record_at rows at))) (nat_lt 128 (row_end (record_at rows at))) (rw (last, family, role) at h) in
    grind (arith, nat_tests)

size_is : (rows : List Record) (at : ℕ) → (layout_at rows at).size ≡ row_end (record_at rows at)
unfolding layout_at
size_is rows at = refl

pub each_short : (rows : List Record) → IsValid rows → (role : Role) (t : Layout) → find_role (table_of rows) role ≡ Some t → family_of role ≡ Eobi → t.size ≤ 128
unfolding table_of find_role
each_short rows valid role t e family =
    let f = find_in (is_layout_of role) rows (length rows) t e in
    let of = layout_of rows f.at role f.passes in
    let p = valid_passes rows valid f.at f.first f.below in
    let row : Record = record_at rows f.at in
    let eobi : in_family Eobi row ≡ true = eobi_only row p.family (family_of_row row role of ∙ family) in
    let some : is_some (role_of row) ≡ true = rw (has_role_of row role of) refl in
    rw (f.is, size_is rows f.at) (short_row rows f.at f.last p.length eobi some)

-- ---- the nulls of required fields

-- a field that was found is that of a row of its name
record RowField (size : ℕ) (rows : List Record) (name : FieldName) (f : Place) : Type 0 where
  pub place : ℕ
  pub inside : place < length rows
  pub named : bytes_eq (cell (get_or rows place []) 3) (field_text name) ≡ true
  pub is : f ≡ place_of size (get_or rows place [])

row_field : (family : Family) (name : FieldName) (size : ℕ) (rows : List Record) (f : Place) → find_field family name (map row_name rows) (map (place_of size) rows) ≡ Some f → RowField size rows name f
unfolding find_field is_place row_name
row_field family name size [] f h = cc h
row_field family name size (row ∷ rows) f h =
    by (bytes_eq (cell row 3) (field_text name) && same_kind (place_of size row).kind (kind_of name) && ((place_of size row).width == width_in family name)) refl h (row_field family name size rows f)
  where
    by : (b : Bool) → (bytes_eq (cell row 3) (field_text name) && same_kind (place_of size row).kind (kind_of name) && ((place_of size row).width == width_in family name)) ≡ b
        → cond b (Some (place_of size row)) (find_field family name (map row_name rows) (map (place_of size) rows)) ≡ Some f
        → (find_field family name (map row_name rows) (map (place_of size) rows) ≡ Some f → RowField size rows name f) → RowField size (row ∷ rows) name f
    by true e h more = record { place = 0; inside = omega arith; named = (and_true _ _ (and_true _ _ e).0).0; is = cc h }
    by false e h more = let r = more h in record { place = suc r.place; inside = omega (arith, r.inside); named = r.named; is = r.is }

-- rows of one template are of one role
same_before : (rows : List Record) (at : ℕ) → begins rows at ≡ false → same_template (record_at rows (at - 1)) (record_at rows at) ≡ true
unfolding begins
same_before rows at h = not_false _ (or_false _ _ h).1

of_same_back : (a b : Record) (role : Role) → same_template a b ≡ true → is_of b role ≡ true → is_of a role ≡ true
unfolding is_of row_family in_family
of_same_back a b role h of =
    let c = same_cells a b h in
    rw (c.0, c.2) of

so_far_role : (rows : List Record) (at k : ℕ) (role : Role) → 0 < at → k < length (so_far rows at) → is_of (record_at rows at) role ≡ true → is_of (get_or (so_far rows at) k []) role ≡ true
unfolding so_far
so_far_role rows zero k role first inside of = absurd (omega arith)
so_far_role rows (suc at) k role first inside of = by (begins rows (suc at)) inside refl (λ some below is. so_far_role rows at k role some below is)
  where
    back : suc at - 1 ≡ at
    back = omega arith

    same : begins rows (suc at) ≡ false → same_template (record_at rows at) (record_at rows (suc at)) ≡ true
    same e = rw back at (same_before rows (suc at) e)

    by : (b : Bool) → k < length (cond b [] (so_far rows at) ++ record_at rows (suc at) ∷ []) → begins rows (suc at) ≡ b
        → (0 < at → k < length (so_far rows at) → is_of (record_at rows at) role ≡ true → is_of (get_or (so_far rows at) k []) role ≡ true)
        → is_of (get_or (cond b [] (so_far rows at) ++ record_at rows (suc at) ∷ []) k []) role ≡ true
    by true h e rest = let z : k ≡ 0 = omega arith in rw z of
    by false h e rest = split (nat_lt k (length (so_far rows at))) refl
      where
        split : (b : Bool) → nat_lt k (length (so_far rows at)) ≡ b → is_of (get_or (so_far rows at ++ record_at rows (suc at) ∷ []) k []) role ≡ true
        split true f =
            let past = past_first rows (suc at) (omega arith) e in
            let below : k < length (so_far rows at) = grind (arith, nat_tests) in
            rw (get_or_append_left (so_far rows at) (record_at rows (suc at) ∷ []) [] k below)
            (rest (omega (arith, past)) below (of_same_back (record_at rows at) (record_at rows (suc at)) role (same e) of))
        split false f =
            let past : length (so_far rows at) ≤ k = grind (arith, nat_tests) in
            let here : k ≡ length (so_far rows at) = omega (arith, length-append (so_far rows at) (record_at rows (suc at) ∷ [])) in
            rw (here, get_or-append_seam (so_far rows at) (record_at rows (suc at)) [] []) of

any_there : {X : Type 0} (p : X → Bool) (xs : List X) (x : X) → Contains xs x → p x ≡ true → list_any p xs ≡ true
any_there {X = X} p xs x c h = let (k, inside, e) = c in by xs k inside e
  where
    by : (ys : List X) (k : ℕ) → k < length ys → get_or ys k x ≡ x → list_any p ys ≡ true
    by [] k inside e = absurd (omega arith)
    by (y ∷ ys) zero inside e = let f : p y ≡ true = rw e h in rw f refl
    by (y ∷ ys) (suc k) inside e = split (p y) (by ys k (omega arith) e)
      where
        split : (b : Bool) → list_any p ys ≡ true → (b || list_any p ys) ≡ true
        split true h = refl
        split false h = h

required_row : (row : Record) (role : Role) (name : FieldName) → is_of row role ≡ true → Contains (required role) name → bytes_eq (cell row 3) (field_text name) ≡ true → is_required row ≡ true
unfolding is_required
required_row row role name of there named = rw (has_role_of row role of) (any_there (λ n. bytes_eq (cell row 3) (field_text n)) (required role) name there named)

parts_of : (rows : List Record) (at : ℕ) (family : Family) (name : FieldName) (f : Place) → find_field family name (layout_at rows at).names (layout_at rows at).fields ≡ Some f
    → RowField (row_end (record_at rows at)) (so_far rows at) name f
unfolding layout_at
parts_of rows at family name f h = row_field family name (row_end (record_at rows at)) (so_far rows at) f h

pub each_null : (rows : List Record) → IsValid rows → (role : Role) (name : FieldName) (f : Place) → Contains (required role) name → place_in (table_of rows) role name ≡ Some f → IsRoleNull name f
unfolding place_in find_role table_of
each_null rows valid role name f there h = by (find (is_layout_of role) (layouts_before rows (length rows))) refl h
  where
    by : (o : Option Layout) → find (is_layout_of role) (layouts_before rows (length rows)) ≡ o
        → option_and_then (λ (t : Layout). find_field (family_of role) name t.names t.fields) o ≡ Some f → IsRoleNull name f
    by None e h = cc h
    by (Some t) e h =
        let l = find_in (is_layout_of role) rows (length rows) t e in
        let of = layout_of rows l.at role l.passes in
        let r = parts_of rows l.at (family_of role) name f (rw l.is at h) in
        let row : Record = get_or (so_far rows l.at) r.place [] in
        let o = row_of rows l.at r.place l.first r.inside in
        let p = valid_passes rows valid o.place o.first (omega (arith, o.below, l.below)) in
        let wanted = required_row row role name (so_far_role rows l.at r.place role l.first r.inside of) there r.named in
        rw r.is (role_null (row_end (record_at rows l.at)) row name r.named wanted (rw o.is p.width) (rw o.is p.null))

-- ---- no two templates of one family have one id or one name

ends_begins : (rows : List Record) (k : ℕ) → 0 < k → ends rows k ≡ true → k + 1 < length rows → begins rows (k + 1) ≡ true
unfolding ends begins
ends_begins rows k first e inside =
    let back : k + 1 - 1 ≡ k = omega arith in
    let more : nat_le (length rows) (k + 1) ≡ false = grind (arith, nat_tests) in
    let past : nat_eq (k + 1) 1 ≡ false = grind (arith, nat_tests) in
    rw (back, past) (rw more at e)

-- the first row of a template whose last row is at m, behind a last row at k
record Start (rows : List Record) (k m : ℕ) : Type 0 where
  pub at : ℕ
  pub after : k < at
  pub within : at ≤ m
  pub begin : begins rows at ≡ true
  pub family : cell (record_at rows at) 0 ≡ cell (record_at rows m) 0
  pub id : cell (record_at rows at) 1 ≡ cell (record_at rows m) 1
  pub name : cell (record_at rows at) 2 ≡ cell (record_at rows m) 2

start_between : (rows : List Record) (n k m : ℕ) → k + n + 1 ≡ m → m < length rows → 0 < k → ends rows k ≡ true → Start rows k m
start_between rows zero k m h inside first e =
    let next : k + 1 ≡ m = omega arith in
    record { at = m; after = omega arith; within = omega arith; begin = rw next at (ends_begins rows k first e (omega arith)); family = refl; id = refl; name = refl }
start_between rows (suc n) k m h inside first e = by (begins rows m) refl (start_between rows n k (m - 1) (omega arith) (omega arith) first e)
  where
    by : (b : Bool) → begins rows m ≡ b → Start rows k (m - 1) → Start rows k m
    by true f s = record { at = m; after = omega arith; within = omega arith; begin = f; family = refl; id = refl; name = refl }
    by false f s =
        let c = same_cells (record_at rows (m - 1)) (record_at rows m) (same_before rows m f) in
        record { at = s.at; after = s.after; within = omega (arith, s.within); begin = s.begin; family = s.family ∙ c.0; id = s.id ∙ c.1; name = s.name ∙ c.2 }

in_cell : (family : Family) (row : Record) → in_family family row ≡ true → cell row 0 ≡ family_text family
unfolding in_family
in_cell family row h = (bytes_eq-Decides (cell row 0) (family_text family)).0 h

family_cell : (a b : Record) → fails_family a ≡ false → fails_family b ≡ false → row_family a ≡ row_family b → cell a 0 ≡ cell b 0
unfolding fails_family row_family
family_cell a b h k e = by (in_family Eti a) (in_family Eobi a) (in_family Eti b) (in_family Eobi b) refl refl refl refl (not_false _ h) (not_false _ k) e
  where
    by : (p q r s : Bool) → in_family Eti a ≡ p → in_family Eobi a ≡ q → in_family Eti b ≡ r → in_family Eobi b ≡ s → (p || q) ≡ true → (r || s) ≡ true
        → cond p Eti Eobi ≡ cond r Eti Eobi → cell a 0 ≡ cell b 0
    by true q true s ep eq er es h k e = in_cell Eti a ep ∙ sym (in_cell Eti b er)
    by true q false s ep eq er es h k e = cc e
    by false q true s ep eq er es h k e = cc e
    by false true false true ep eq er es h k e = in_cell Eobi a eq ∙ sym (in_cell Eobi b es)
    by false false false s ep eq er es h k e = cc h
    by false true false false ep eq er es h k e = cc k

earlier_none : (rows : List Record) (at : ℕ) (p : Record → Bool) → begins rows at ≡ true → (begins rows at && list_any p (take at rows)) ≡ false → list_any p (take at rows) ≡ false
earlier_none rows at p b h = rw b at h

same_bytes : (a b : List ℕ) → a ≡ b → bytes_eq a b ≡ true
same_bytes a b e = rw e (nat_list_eq_equiv.refl b)

-- a row in common with an earlier one of the same family
no_earlier : (rows : List Record) (k at c : ℕ) → k < at → k < length rows → list_any (λ earlier. same_cell 0 earlier (record_at rows at) && same_cell c earlier (record_at rows at)) (take at rows) ≡ false
    → cell (record_at rows k) 0 ≡ cell (record_at rows at) 0 → cell (record_at rows k) c ≡ cell (record_at rows at) c → ⊥
unfolding same_cell
no_earlier rows k at c below inside none family other =
    let both : (bytes_eq (cell (record_at rows k) 0) (cell (record_at rows at) 0) && bytes_eq (cell (record_at rows k) c) (cell (record_at rows at) c)) ≡ true
    = rw (same_bytes _ _ family, same_bytes _ _ other) refl in
    let found = any_found (λ earlier. bytes_eq (cell earlier 0) (cell (record_at rows at) 0) && bytes_eq (cell earlier c) (cell (record_at rows at) c)) rows k at below inside both in
    cc (found, none)

id_apart : (rows : List Record) → IsValid rows → (k m : ℕ) → 0 < k → k < m → m < length rows → ends rows k ≡ true
    → row_family (record_at rows k) ≡ row_family (record_at rows m) → row_id (record_at rows k) ≡ row_id (record_at rows m) → ⊥
unfolding row_id fails_duplicate_id
id_apart rows valid k m first below inside e family id =
    let s = start_between rows (m - k - 1) k m (omega arith) inside first e in
    let p = valid_passes rows valid k first (omega arith) in
    let q = valid_passes rows valid m (omega arith) inside in
    let o = valid_passes rows valid s.at (omega (arith, s.after)) (omega (arith, s.within)) in
    let none = rw s.begin at o.duplicate_id in
    let families = family_cell (record_at rows k) (record_at rows m) p.family q.family family in
    let ids = same_number 65535 (cell (record_at rows k) 1) (cell (record_at rows m) 1) (cells_of (record_at rows k) p.cells).id_decimal (cells_of (record_at rows m) q.cells).id_decimal id in
    no_earlier rows k s.at 1 s.after (omega arith) none (families ∙ sym s.family) (ids ∙ sym s.id)

name_apart : (rows : List Record) → IsValid rows → (k m : ℕ) → 0 < k → k < m → m < length rows → ends rows k ≡ true
    → row_family (record_at rows k) ≡ row_family (record_at rows m) → cell (record_at rows k) 2 ≡ cell (record_at rows m) 2 → ⊥
unfolding fails_duplicate_name
name_apart rows valid k m first below inside e family name =
    let s = start_between rows (m - k - 1) k m (omega arith) inside first e in
    let p = valid_passes rows valid k first (omega arith) in
    let q = valid_passes rows valid m (omega arith) inside in
    let o = valid_passes rows valid s.at (omega (arith, s.after)) (omega (arith, s.within)) in
    let both : (list_any (λ earlier. same_cell 0 earlier (record_at rows s.at) && same_cell 2 earlier (record_at rows s.at)) (take s.at rows)
    || list_any (λ earlier. same_cell 3 earlier (record_at rows s.at)) (earlier_in rows s.at)) ≡ false = rw s.begin at o.duplicate_name in
    let none = (or_false _ _ both).0 in
    let families = family_cell (record_at rows k) (record_at rows m) p.family q.family family in
    no_earlier rows k s.at 2 s.after (omega arith) none (families ∙ sym s.family) (name ∙ sym s.name)

-- two templates with something in common are one, where no two last rows have it in common
one_place : (rows : List Record) (R : Layout → Layout → Type 0) → ((a b : Layout) → R a b → R b a)
    → ((k m : ℕ) → 0 < k → k < m → m < length rows → ends rows k ≡ true → R (layout_at rows k) (layout_at rows m) → ⊥)
    → (n i j : ℕ) (a b : Layout) → n ≤ length rows → slice_get (layouts_before rows n) i ≡ Some a → slice_get (layouts_before rows n) j ≡ Some b → R a b → i ≡ j
unfolding layouts_before
one_place rows R flip apart zero i j a b within ea eb r = cc ea
one_place rows R flip apart (suc m) i j a b within ea eb r =
    by (nat_lt 0 m && ends rows m) refl ea eb (λ ea eb. one_place rows R flip apart m i j a b (omega arith) ea eb r)
  where
    old_new : (k : ℕ) (x y : Layout) → slice_get (layouts_before rows m) k ≡ Some x → y ≡ layout_at rows m → R x y → ⊥
    old_new k x y e new r =
        let l = at_place rows m k x e in
        let P : Layout → Type 0 = λ (z : Layout). R z y in
        let Q : Layout → Type 0 = λ (z : Layout). R (layout_at rows l.at) z in
        apart l.at m l.first l.below (omega arith) l.last (subst Q new (subst P l.is r))

    by : (c : Bool) → (nat_lt 0 m && ends rows m) ≡ c → slice_get (layouts_before rows m ++ cond c (layout_at rows m ∷ []) []) i ≡ Some a
        → slice_get (layouts_before rows m ++ cond c (layout_at rows m ∷ []) []) j ≡ Some b
        → (slice_get (layouts_before rows m) i ≡ Some a → slice_get (layouts_before rows m) j ≡ Some b → i ≡ j) → i ≡ j
    by false e ea eb more = more (rw append-nil at ea) (rw append-nil at eb)
    by true e ea eb more = elim (split_get (layouts_before rows m) (layout_at rows m) i a ea) [
      | inl l ↦ elim (split_get (layouts_before rows m) (layout_at rows m) j b eb) [
        | inl k ↦ more l.1 k.1
        | inr k ↦ absurd (old_new i a b l.1 k.1 r)
      ]
      | inr l ↦ elim (split_get (layouts_before rows m) (layout_at rows m) j b eb) [
        | inl k ↦ absurd (old_new j b a k.1 l.1 (flip a b r))
        | inr k ↦ l.0 ∙ sym k.0
      ]
    ]

record SameId (a b : Layout) : Type 0 where
  pub family : a.family ≡ b.family
  pub id : a.id ≡ b.id

record SameName (a b : Layout) : Type 0 where
  pub family : a.family ≡ b.family
  pub name : a.name ≡ b.name

id_rows : (rows : List Record) (k m : ℕ) → SameId (layout_at rows k) (layout_at rows m) → (row_family (record_at rows k) ≡ row_family (record_at rows m)) × (row_id (record_at rows k) ≡ row_id (record_at rows m))
unfolding layout_at
id_rows rows k m s = (s.family, s.id)

name_rows : (rows : List Record) (k m : ℕ) → SameName (layout_at rows k) (layout_at rows m) → (row_family (record_at rows k) ≡ row_family (record_at rows m)) × (cell (record_at rows k) 2 ≡ cell (record_at rows m) 2)
unfolding layout_at
name_rows rows k m s = (s.family, s.name)

-- the table of valid records
pub is_table : (rows : List Record) → IsValid rows → IsTable (table_of rows)
unfolding table_of
is_table rows valid = record {
  whole = each_whole rows valid;
  roles = valid_roles rows valid;
  short = each_short rows valid;
  nulls = each_null rows valid;
  ids = λ i j a b ea eb family id.
      one_place rows SameId (λ a b s. record { family = sym s.family; id = sym s.id })
      (λ k m first below inside e s. id_apart rows valid k m first below inside e (id_rows rows k m s).0 (id_rows rows k m s).1)
      (length rows) i j a b (omega arith) ea eb (record { family = family; id = id });
  names = λ i j a b ea eb family name.
      one_place rows SameName (λ a b s. record { family = sym s.family; name = sym s.name })
      (λ k m first below inside e s. name_apart rows valid k m first below inside e (name_rows rows k m s).0 (name_rows rows k m s).1)
      (length rows) i j a b (omega arith) ea eb (record { family = family; name = name });
}
