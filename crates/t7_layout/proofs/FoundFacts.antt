-- What is known of the templates that are found in a table.
use Rattle.std.proofs.Common.{◌≡◌, ◌∙◌, ℕ, zero, suc, List, [], ◌∷◌, Bool, true, false, Option, Some, None, refl, sym, arith, cond, nat_eq, Bor, ◌&&◌}
use Rattle.std.specs.Prelude.{Contains, IfNone, IfSome, find, slice_get}
use Rattle.std.specs.Option.{option_copied}
use Rattle.std.specs.Str.{bytes_eq}
use Rattle.std.proofs.lemmas.Bool.Decides.{nat_tests}
use Rattle.std.proofs.lemmas.Cmp.{nat_list_eq_equiv}
use Rattle.std.proofs.lemmas.Option.{get_or_from_slice_get, slice_get_within}
use Rattle.t7_layout.specs.declared.words.Family.{Family}
use Rattle.t7_layout.specs.declared.roles.Role.{Role}
use Rattle.t7_layout.specs.Layouts.{IsLayout, Layout}
use Rattle.t7_layout.specs.Lookups.{IsTable, find_role, find_template, has_id, is_layout_of, role_of_layout}
use Rattle.t7_layout.specs.Roles.{all_roles, family_of, role_number, role_text}
use Rattle.t7_layout.specs.Rows.{family_text, same_family}
use Rattle.t7_layout.proofs.RoleFacts.{find_same, finds_itself, one_family, same_bytes, stands_there}

and_true : (a b : Bool) → (a && b) ≡ true → (a ≡ true) × (b ≡ true)
and_true true b h = (refl, h)
and_true false b h = cc h

-- an item that was found, and its place
pub record At {X : Type 0} (p : X → Bool) (xs : List X) (x : X) : Type 0 where
  pub place : ℕ
  pub there : slice_get xs place ≡ Some x
  pub passes : p x ≡ true

pub found_place : {X : Type 0} (p : X → Bool) (xs : List X) (x : X) → find p xs ≡ Some x → At p xs x
found_place p [] x h = cc h
found_place p (y ∷ ys) x h = by (p y) refl h (found_place p ys x)
  where
    by : (b : Bool) → p y ≡ b → cond b (Some y) (find p ys) ≡ Some x → (find p ys ≡ Some x → At p ys x) → At p (y ∷ ys) x
    by true e h more = let s : y ≡ x = cc h in record { place = 0; there = h; passes = rw (← s) e }
    by false e h more = let a = more h in record { place = suc a.place; there = a.there; passes = a.passes }

pub none_passes : {X : Type 0} (p : X → Bool) (xs : List X) (i : ℕ) (x : X) → find p xs ≡ None → slice_get xs i ≡ Some x → p x ≡ false
none_passes p [] i x h e = cc e
none_passes p (y ∷ ys) i x h e = by (p y) refl h i e (λ k none there. none_passes p ys k x none there)
  where
    by : (b : Bool) → p y ≡ b → cond b (Some y) (find p ys) ≡ None → (i : ℕ) → slice_get (y ∷ ys) i ≡ Some x
        → ((k : ℕ) → find p ys ≡ None → slice_get ys k ≡ Some x → p x ≡ false) → p x ≡ false
    by true f h i e more = cc h
    by false f h zero e more = let s : y ≡ x = cc e in rw (← s) f
    by false f h (suc i) e more = more i h e

-- an item that passes is found where no other one does
pub only_found : {X : Type 0} (p : X → Bool) (xs : List X) (i : ℕ) (x : X) → slice_get xs i ≡ Some x → p x ≡ true
    → ((j : ℕ) (y : X) → slice_get xs j ≡ Some y → p y ≡ true → j ≡ i) → find p xs ≡ Some x
only_found {X = X} p xs i x there passes only = by (find p xs) refl
  where
    by : (o : Option X) → find p xs ≡ o → find p xs ≡ Some x
    by None e = cc (passes, none_passes p xs i x e there)
    by (Some y) e =
        let a = found_place p xs y e in
        let same : a.place ≡ i = only a.place y a.there a.passes in
        let one : slice_get xs i ≡ Some y = rw same at a.there in
        e ∙ sym one ∙ there

contains_place : {X : Type 0} (xs : List X) (i : ℕ) (x : X) → slice_get xs i ≡ Some x → Contains xs x
contains_place xs i x e = (i, slice_get_within xs i x e, get_or_from_slice_get xs i x x e)

-- the template of a role is of its family and its name
pub record OfRole (role : Role) (t : Layout) : Type 0 where
  pub family : t.family ≡ family_of role
  pub name : t.name ≡ role_text role

pub of_role : (role : Role) (t : Layout) → is_layout_of role t ≡ true → OfRole role t
unfolding is_layout_of
of_role role t h =
    let both = and_true _ _ h in
    record { family = one_family t.family (family_of role) both.0; name = same_bytes t.name (role_text role) both.1 }

pub role_family : (layouts : List Layout) (role : Role) (t : Layout) → find_role layouts role ≡ Some t → t.family ≡ family_of role
unfolding find_role
role_family layouts role t h = (of_role role t (found_place (is_layout_of role) layouts t h).passes).family

pub role_whole : (layouts : List Layout) (role : Role) (t : Layout) → IsTable layouts → find_role layouts role ≡ Some t → IsLayout t
unfolding find_role
role_whole layouts role t table h =
    let a = found_place (is_layout_of role) layouts t h in
    table.whole t (contains_place layouts a.place t a.there)

-- the role of a template is the one whose family and name it has
pub own_role : (role : Role) (t : Layout) → is_layout_of role t ≡ true → role_of_layout t ≡ Some role
unfolding role_of_layout is_layout_of
own_role role t h =
    let o = of_role role t h in
    find_same _ (λ s. same_family (family_of role) (family_of s) && bytes_eq (role_text role) (role_text s)) (λ s. rw (o.family, o.name) refl) all_roles ∙ finds_itself role

pub role_own : (layouts : List Layout) (role : Role) (t : Layout) → find_role layouts role ≡ Some t → role_of_layout t ≡ Some role
unfolding find_role
role_own layouts role t h = own_role role t (found_place (is_layout_of role) layouts t h).passes

pub role_passes : (t : Layout) (role : Role) → role_of_layout t ≡ Some role → is_layout_of role t ≡ true
unfolding role_of_layout
role_passes t role h = (found_place (λ r. is_layout_of r t) all_roles role h).passes

pub no_role_passes : (t : Layout) → role_of_layout t ≡ None → (role : Role) → is_layout_of role t ≡ false
unfolding role_of_layout
no_role_passes t h role = none_passes (λ r. is_layout_of r t) all_roles (role_number role) role h (stands_there role)

same_id : (family : Family) (id : ℕ) (t : Layout) → has_id family id t ≡ true → (t.family ≡ family) × (t.id ≡ id)
same_id family id t h =
    let both = and_true _ _ h in
    let test : nat_eq t.id id ≡ true = both.1 in
    let id_is : t.id ≡ id = grind (arith, nat_tests) in
    (one_family t.family family both.0, id_is)

same_family_self : (family : Family) → same_family family family ≡ true
unfolding same_family
same_family_self family = nat_list_eq_equiv.refl (family_text family)

has_own_id : (family : Family) (t : Layout) → t.family ≡ family → has_id family t.id t ≡ true
has_own_id family t e =
    let one : nat_eq t.id t.id ≡ true = grind (arith, nat_tests) in
    rw (e, same_family_self family, one) refl

pub template_family : (layouts : List Layout) (family : Family) (id : ℕ) (t : Layout) → find_template layouts family id ≡ Some t → t.family ≡ family
template_family layouts family id t h = (same_id family id t (found_place (has_id family id) layouts t h).passes).0

pub template_whole : (layouts : List Layout) (family : Family) (id : ℕ) (t : Layout) → IsTable layouts → find_template layouts family id ≡ Some t → IsLayout t
template_whole layouts family id t table h =
    let a = found_place (has_id family id) layouts t h in
    table.whole t (contains_place layouts a.place t a.there)

-- the template of a role is found by its id
pub role_id : (layouts : List Layout) (role : Role) (t : Layout) → IsTable layouts → find_role layouts role ≡ Some t → find_template layouts (family_of role) t.id ≡ Some t
unfolding find_role
role_id layouts role t table h =
    let a = found_place (is_layout_of role) layouts t h in
    let family = (of_role role t a.passes).family in
    let passes : has_id (family_of role) t.id t ≡ true = has_own_id (family_of role) t family in
    only_found (has_id (family_of role) t.id) layouts a.place t a.there passes
    (λ j y there test. table.ids j a.place y t there a.there ((same_id (family_of role) t.id y test).0 ∙ sym family) (same_id (family_of role) t.id y test).1)

-- a template with the family and the name of a role is the one of that role
pub template_role : (layouts : List Layout) (family : Family) (id : ℕ) (t : Layout) (role : Role) → IsTable layouts → find_template layouts family id ≡ Some t → role_of_layout t ≡ Some role
    → find_role layouts role ≡ Some t
unfolding find_role
template_role layouts family id t role table h own =
    let a = found_place (has_id family id) layouts t h in
    let passes = role_passes t role own in
    let o = of_role role t passes in
    only_found (is_layout_of role) layouts a.place t a.there passes
    (λ j y there test. table.names j a.place y t there a.there ((of_role role y test).family ∙ sym o.family) ((of_role role y test).name ∙ sym o.name))

-- the same, for what a search answers
pub each_role_is : (t : Layout) (o : Option Role) → o ≡ role_of_layout t → IfSome o (λ role. is_layout_of role t ≡ true)
each_role_is t None e = tt
each_role_is t (Some role) e = role_passes t role (sym e)

pub no_role_is : (t : Layout) (o : Option Role) → o ≡ role_of_layout t → IfNone o ((role : Role) → is_layout_of role t ≡ false)
no_role_is t None e = no_role_passes t (sym e)
no_role_is t (Some role) e = tt

-- what is known of a template that was looked for by family and id
pub each_found_whole : (layouts : List Layout) (family : Family) (id : ℕ) (o : Option (Bor Layout)) → IsTable layouts → option_copied o ≡ find_template layouts family id → IfSome o (λ t. IsLayout t.now)
each_found_whole layouts family id None table e = tt
each_found_whole layouts family id (Some t) table e = template_whole layouts family id t.now table (sym e)

pub each_found_family : (layouts : List Layout) (family : Family) (id : ℕ) (o : Option (Bor Layout)) → option_copied o ≡ find_template layouts family id → IfSome o (λ t. t.now.family ≡ family)
each_found_family layouts family id None e = tt
each_found_family layouts family id (Some t) e = template_family layouts family id t.now (sym e)

pub each_found_role : (layouts : List Layout) (family : Family) (id : ℕ) (o : Option (Bor Layout)) → IsTable layouts → option_copied o ≡ find_template layouts family id
    → IfSome o (λ t. IfSome (role_of_layout t.now) (λ role. find_role layouts role ≡ Some t.now))
each_found_role layouts family id None table e = tt
each_found_role layouts family id (Some t) table e = by (role_of_layout t.now) refl
  where
    by : (o : Option Role) → role_of_layout t.now ≡ o → IfSome o (λ role. find_role layouts role ≡ Some t.now)
    by None f = tt
    by (Some role) f = template_role layouts family id t.now role table (sym e) f
