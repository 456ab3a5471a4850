-- Finding the template of a role and its fields.
use Rattle.std.proofs.Common.{◌≡◌, ◌<◌, ◌≤◌, ◌+◌, ◌==◌, ◌&&◌, ℕ, zero, suc, List, [], ◌∷◌, Bool, true, false, Some, None, length, map, drop, get_or, refl, arith, add-one, cond, is_some, nat_eq}
use Rattle.std.proofs.lemmas.Bool.Decides.{nat_tests}
use Rattle.std.proofs.lemmas.List.{drop_all, length-map}
use Rattle.std.specs.Prelude.{Contains}
use Rattle.std.specs.List.{list_all}
use Rattle.std.specs.Str.{bytes_eq}
use Rattle.t7_layout.specs.declared.words.Family.{Family}
use Rattle.t7_layout.specs.declared.words.Kind.{Kind}
use Rattle.t7_layout.specs.declared.words.Kind.TheVariants.{Unsigned, Signed, Raw}
use Rattle.t7_layout.specs.declared.roles.Role.{Role}
use Rattle.t7_layout.specs.declared.roles.FieldName.{FieldName}
use Rattle.t7_layout.specs.Layouts.{Layout, Place}
use Rattle.t7_layout.specs.Lookups.{find_field, find_role, holds_role, is_place}
use Rattle.t7_layout.specs.Roles.{family_of, field_text, kind_of, required, width_in}
use Rattle.t7_layout.specs.Rows.{kind_text, same_kind}

pub here_mapped : {X : Type 0} (f : X → List ℕ) (xs : List X) (i : ℕ) (x : X) → i < length xs → x ≡ get_or xs i x → drop i (map f xs) ≡ f x ∷ drop (i + 1) (map f xs)
here_mapped {X = X} f xs i x h e = rw (add-one i) (by xs i h e)
  where
    by : (xs : List X) (i : ℕ) → i < length xs → x ≡ get_or xs i x → drop i (map f xs) ≡ f x ∷ drop (suc i) (map f xs)
    by [] i h e = absurd (omega arith)
    by (y ∷ ys) zero h e = rw e refl
    by (y ∷ ys) (suc i) h e = by ys i (omega arith) e

pub here : {X : Type 0} (xs : List X) (i : ℕ) (x : X) → i < length xs → x ≡ get_or xs i x → drop i xs ≡ x ∷ drop (i + 1) xs
here {X = X} xs i x h e = rw (add-one i) (by xs i h e)
  where
    by : (xs : List X) (i : ℕ) → i < length xs → x ≡ get_or xs i x → drop i xs ≡ x ∷ drop (suc i) xs
    by [] i h e = absurd (omega arith)
    by (y ∷ ys) zero h e = rw e refl
    by (y ∷ ys) (suc i) h e = by ys i (omega arith) e

pub field_next : (family : Family) (name : FieldName) (w : List ℕ) (ws : List (List ℕ)) (f : Place) (fs : List Place) → is_place family name w f ≡ false
    → find_field family name (w ∷ ws) (f ∷ fs) ≡ find_field family name ws fs
unfolding find_field
field_next family name w ws f fs e = rw e refl

pub field_found : (family : Family) (name : FieldName) (w : List ℕ) (ws : List (List ℕ)) (f : Place) (fs : List Place) → is_place family name w f ≡ true
    → find_field family name (w ∷ ws) (f ∷ fs) ≡ Some f
unfolding find_field
field_found family name w ws f fs e = rw e refl

pub no_names : (family : Family) (name : FieldName) (fs : List Place) → find_field family name [] fs ≡ None
unfolding find_field
no_names family name fs = refl

pub no_fields : (family : Family) (name : FieldName) (ws : List (List ℕ)) → find_field family name ws [] ≡ None
unfolding find_field
no_fields family name [] = refl
no_fields family name (w ∷ ws) = refl

pub one_kind : (a b : Kind) → same_kind a b ≡ true → a ≡ b
unfolding same_kind kind_text
one_kind Unsigned Unsigned h = refl
one_kind Unsigned Signed h = cc h
one_kind Unsigned Raw h = cc h
one_kind Signed Unsigned h = cc h
one_kind Signed Signed h = refl
one_kind Signed Raw h = cc h
one_kind Raw Unsigned h = cc h
one_kind Raw Signed h = cc h
one_kind Raw Raw h = refl

and_true : (a b : Bool) → (a && b) ≡ true → (a ≡ true) × (b ≡ true)
and_true true b h = (refl, h)
and_true false b h = cc h

-- what is known of a field that was found
pub record IsRequired (family : Family) (name : FieldName) (fields : List Place) (f : Place) : Type 0 where
  pub there : Contains fields f
  pub kind : f.kind ≡ kind_of name
  pub width : f.width ≡ width_in family name

pub found_field : (family : Family) (name : FieldName) (ws : List (List ℕ)) (fs : List Place) (f : Place) → find_field family name ws fs ≡ Some f → IsRequired family name fs f
unfolding find_field is_place
found_field family name [] fs f h = cc h
found_field family name (w ∷ ws) [] f h = cc h
found_field family name (w ∷ ws) (g ∷ gs) f h =
    by (bytes_eq w (field_text name) && same_kind g.kind (kind_of name) && (g.width == width_in family name)) refl h (found_field family name ws gs f)
  where
    by : (b : Bool) → (bytes_eq w (field_text name) && same_kind g.kind (kind_of name) && (g.width == width_in family name)) ≡ b
        → cond b (Some g) (find_field family name ws gs) ≡ Some f → (find_field family name ws gs ≡ Some f → IsRequired family name gs f) → IsRequired family name (g ∷ gs) f
    by true e h more =
        let s : g ≡ f = cc h in
        let x = and_true _ _ e in
        let y = and_true _ _ x.0 in
        let same : nat_eq g.width (width_in family name) ≡ true = x.1 in
        let width : g.width ≡ width_in family name = grind (arith, nat_tests) in
        rw (← s) (record { there = (0, omega arith, refl); kind = one_kind g.kind (kind_of name) y.1; width = width })
    by false e h more =
        let r = more h in
        let (k, inside, is) = r.there in
        record { there = (suc k, omega arith, is); kind = r.kind; width = r.width }

all_contains : {X : Type 0} (p : X → Bool) (xs : List X) (k : ℕ) (x : X) → list_all p xs ≡ true → k < length xs → get_or xs k x ≡ x → p x ≡ true
all_contains p [] k x h inside e = absurd (omega arith)
all_contains p (y ∷ ys) zero x h inside e = rw (← e) (and_true _ _ h).0
all_contains p (y ∷ ys) (suc k) x h inside e = all_contains p ys k x (and_true _ _ h).1 (omega arith) e

pub role_there : (layouts : List Layout) (role : Role) → holds_role layouts role ≡ true → find_role layouts role ≡ None → ⊥
unfolding holds_role
role_there layouts role h e = cc (rw e at h)

pub field_there : (layouts : List Layout) (role : Role) (t : Layout) (name : FieldName) → holds_role layouts role ≡ true → find_role layouts role ≡ Some t → Contains (required role) name
    → find_field (family_of role) name t.names t.fields ≡ None → ⊥
unfolding holds_role
field_there layouts role t name h e there none =
    let (k, inside, is) = there in
    let all = all_contains (λ n. is_some (find_field (family_of role) n t.names t.fields)) (required role) k name (rw e at h) inside is in
    cc (rw none at all)

-- the search for a field, one name at a time
pub at_next : {X : Type 0} (view : X → List ℕ) (family : Family) (name : FieldName) (names : List X) (fields : List Place) (i : ℕ) (x : X) (f : Place)
    → i < length names → x ≡ get_or names i x → i < length fields → f ≡ get_or fields i f
    → find_field family name (drop i (map view names)) (drop i fields) ≡ find_field family name (view x ∷ drop (i + 1) (map view names)) (f ∷ drop (i + 1) fields)
at_next view family name names fields i x f h e k g = rw (here_mapped view names i x h e, here fields i f k g) refl

pub at_end : {X : Type 0} (view : X → List ℕ) (family : Family) (name : FieldName) (names : List X) (fields : List Place) (i : ℕ) → length names ≤ i
    → find_field family name (drop i (map view names)) (drop i fields) ≡ None
at_end view family name names fields i h = rw (drop_all i (map view names) (omega (arith, length-map names view))) (no_names family name (drop i fields))

pub past_fields : (family : Family) (name : FieldName) (words : List (List ℕ)) (fields : List Place) (i : ℕ) → length fields ≤ i
    → find_field family name (drop i words) (drop i fields) ≡ None
past_fields family name words fields i h = rw (drop_all i fields h) (no_fields family name (drop i words))
