-- Open connections and their parts, after writes.
use Rattle.std.proofs.Common.{◌≡◌, ℕ, Bool, true, false, not, cond, ◌&&◌, List, [], ◌∷◌, Option, Some, None, is_some, refl, sym, ap, ◌∙◌, subst}
use Rattle.std.specs.Prelude.{T}
use Rattle.std.specs.Ordering.{nat_cmp, eq_by_cmp, is_lt}
use Rattle.std.specs.declared.cmp.Ordering.TheVariants.{Less, Equal, Greater}
use Rattle.std.specs.Cmp.{nat_cmp_total, eq_by_cmp_equiv}
use Rattle.std.specs.FinMap.{nat_cmp-IsAntisymmetric}
use Rattle.std.specs.FinMap.Entries.{below_all, by_order, is_sorted, put, same_entries}
use Rattle.std.specs.BTreeMap.{is_at}
use Rattle.std.specs.List.{AllByRecursion}
use Rattle.std.specs.List.Sorted.{IsStrictlySortedBy}
use Rattle.std.specs.Map.{keys_of, lookup}
use Rattle.std.specs.Option.{option_map}
use Rattle.t7_entry.specs.ByNumber.{ByNumber, Rises, get, insert, keys, remove}
use Rattle.t7_entry.proofs.Numbers.{get-insert, get-remove, insert-get, rises-insert, rises-remove}
use Rattle.t7_exchange.specs.Maps.{changed, changed_at, parts}

-- what a look-up finds
pub lookup-get : {X : Type 0} (m : ByNumber X) (k : ℕ) → lookup (is_at (nat_cmp k)) m ≡ get m k
lookup-get [] k = refl
lookup-get (e ∷ m) k = ap (cond (eq_by_cmp nat_cmp k e.0) (Some e.1)) (lookup-get m k)

module _ {X Y : Type 0} (f : X → Y) where
  pub get-parts : (m : ByNumber X) (k : ℕ) → get (parts f m) k ≡ option_map f (get m k)
  get-parts [] k = refl
  get-parts (e ∷ m) k = at_head (eq_by_cmp nat_cmp k e.0) (get (parts f m) k) (get m k) (get-parts m k)
    where
      at_head : (b : Bool) (y : Option Y) (z : Option X) → y ≡ option_map f z → cond b (Some (f e.1)) y ≡ option_map f (cond b (Some e.1) z)
      at_head true y z is = refl
      at_head false y z is = is

  pub keys-parts : (m : ByNumber X) → keys (parts f m) ≡ keys m
  keys-parts [] = refl
  keys-parts (e ∷ m) = ap (λ (l : List ℕ). e.0 ∷ l) (keys-parts m)

  pub parts-insert : (m : ByNumber X) (k : ℕ) (v : X) → parts f (insert m k v) ≡ insert (parts f m) k (f v)
  parts-insert [] k v = refl
  parts-insert (e ∷ m) k v =
      elim (nat_cmp k e.0) as (λ r. parts f (by_order {A = List (ℕ × X)} r ((k, v) ∷ e ∷ m) ((e.0, v) ∷ m) (e ∷ put nat_cmp k v m)) ≡ by_order {A = List (ℕ × Y)} r ((k, f v) ∷ (e.0, f e.1) ∷ parts f m) ((e.0, f v) ∷ parts f m) ((e.0, f e.1) ∷ put nat_cmp k (f v) (parts f m))) [
        | Less ↦ refl
        | Equal ↦ refl
        | Greater ↦ ap (λ (l : List (ℕ × Y)). (e.0, f e.1) ∷ l) (parts-insert m k v)
      ]

  pub parts-remove : (m : ByNumber X) (k : ℕ) → parts f (remove m k) ≡ remove (parts f m) k
  parts-remove [] k = refl
  parts-remove (e ∷ m) k =
      elim (not (eq_by_cmp nat_cmp k e.0)) as (λ b. parts f (cond b (e ∷ remove m k) (remove m k)) ≡ cond b ((e.0, f e.1) ∷ remove (parts f m) k) (remove (parts f m) k)) [
        | true ↦ ap (λ (l : List (ℕ × Y)). (e.0, f e.1) ∷ l) (parts-remove m k)
        | false ↦ parts-remove m k
      ]

  below-parts : (x : ℕ) (m : ByNumber X) → below_all nat_cmp x (parts f m) ≡ below_all nat_cmp x m
  below-parts x [] = refl
  below-parts x (e ∷ m) = ap (λ b. is_lt (nat_cmp x e.0) && b) (below-parts x m)

  sorted-parts : (m : ByNumber X) → is_sorted nat_cmp (parts f m) ≡ is_sorted nat_cmp m
  sorted-parts [] = refl
  sorted-parts (e ∷ m) = ap (λ b. b && is_sorted nat_cmp (parts f m)) (below-parts e.0 m) ∙ ap (λ b. below_all nat_cmp e.0 m && b) (sorted-parts m)

  pub rises-parts : (m : ByNumber X) → Rises m → Rises (parts f m)
  rises-parts m rises = subst T (sym (sorted-parts m)) rises

  -- a change that leaves the part
  pub parts-kept : (m : ByNumber X) (k : ℕ) (g : X → X) → Rises m → ((x : X) → f (g x) ≡ f x) → parts f (changed m k g) ≡ parts f m
  parts-kept m k g rises same = by_value (get m k) refl
    where
      by_value : (o : Option X) → get m k ≡ o → parts f (changed_at m k g o) ≡ parts f m
      by_value None is = refl
      by_value (Some x) is =
          parts-insert m k (g x) ∙ ap (insert (parts f m) k) (same x)
          ∙ insert-get (parts f m) k (f x) (rises-parts m rises) (get-parts m k ∙ ap (option_map f) is)

-- the entries of a map rise
below_from : {X : Type 0} (k : ℕ) (m : ByNumber X) → AllByRecursion (λ q. nat_cmp k q ≡ Less) (keys_of m) → T (below_all nat_cmp k m)
below_from k [] h = tt
below_from k (e ∷ m) h = rw h.0 (below_from k m h.1)

pub rises_from : {X : Type 0} (m : ByNumber X) → IsStrictlySortedBy nat_cmp (keys_of m) → Rises m
unfolding IsStrictlySortedBy
rises_from [] h = tt
rises_from (e ∷ m) h = both (below_all nat_cmp e.0 m) (is_sorted nat_cmp m) (below_from e.0 m h.0) (rises_from m h.1)
  where
    both : (a b : Bool) → T a → T b → T (a && b)
    both true b p q = q
    both false b p q = p

-- entries after a call that puts a value at a number
pub was_put : {X : Type 0} (m n : ByNumber X) (k : ℕ) (v : X) → Rises m → IsStrictlySortedBy nat_cmp (keys_of n)
    → ((q : ℕ) → lookup (is_at (nat_cmp q)) n ≡ cond (is_at (nat_cmp k) q) (Some v) (lookup (is_at (nat_cmp q)) m))
    → n ≡ insert m k v
was_put m n k v rises ordered updates = same_entries nat_cmp nat_cmp_total nat_cmp-IsAntisymmetric n (insert m k v) (rises_from n ordered) (rises-insert m k v rises) (λ q.
    sym (lookup-get n q) ∙ updates q
    ∙ ap (λ b. cond b (Some v) (lookup (is_at (nat_cmp q)) m)) ((eq_by_cmp_equiv nat_cmp_total).symm k q)
    ∙ ap (cond (eq_by_cmp nat_cmp q k) (Some v)) (lookup-get m q)
    ∙ sym (get-insert m k v q))

-- after one that takes it off
pub was_taken : {X : Type 0} (m n : ByNumber X) (k : ℕ) → Rises m → IsStrictlySortedBy nat_cmp (keys_of n)
    → ((q : ℕ) → lookup (is_at (nat_cmp q)) n ≡ cond (is_at (nat_cmp k) q) None (lookup (is_at (nat_cmp q)) m))
    → n ≡ remove m k
was_taken m n k rises ordered updates = same_entries nat_cmp nat_cmp_total nat_cmp-IsAntisymmetric n (remove m k) (rises_from n ordered) (rises-remove m k rises) (λ q.
    sym (lookup-get n q) ∙ updates q
    ∙ ap (λ b. cond b None (lookup (is_at (nat_cmp q)) m)) ((eq_by_cmp_equiv nat_cmp_total).symm k q)
    ∙ ap (cond (eq_by_cmp nat_cmp q k) None) (lookup-get m q)
    ∙ sym (get-remove m k q))

-- after one that changes it
pub was_changed : {X : Type 0} (m n : ByNumber X) (k : ℕ) (f : X → X) (x y : X) → lookup (is_at (nat_cmp k)) m ≡ Some x → y ≡ f x → Rises m → IsStrictlySortedBy nat_cmp (keys_of n)
    → ((q : ℕ) → lookup (is_at (nat_cmp q)) n ≡ cond (is_at (nat_cmp k) q) (Some y) (lookup (is_at (nat_cmp q)) m))
    → n ≡ changed m k f
was_changed m n k f x y has is rises ordered updates =
    was_put m n k y rises ordered updates ∙ ap (insert m k) is ∙ sym (ap (changed_at m k f) (sym (lookup-get m k) ∙ has))

-- nothing stood there
pub none_changed : {X : Type 0} (m : ByNumber X) (k : ℕ) (f : X → X) → lookup (is_at (nat_cmp k)) m ≡ None → m ≡ changed m k f
none_changed m k f none = sym (ap (changed_at m k f) (sym (lookup-get m k) ∙ none))

pub rises-changed : {X : Type 0} (m : ByNumber X) (k : ℕ) (f : X → X) → Rises m → Rises (changed m k f)
rises-changed {X} m k f rises = by_value (get m k)
  where
    by_value : (o : Option X) → Rises (changed_at m k f o)
    by_value None = rises
    by_value (Some x) = rises-insert m k (f x) rises

-- what a call found stands there
pub found_there : {X : Type 0} (m v : ByNumber X) (k : ℕ) (o : Option X) → m ≡ v → o ≡ lookup (is_at (nat_cmp k)) m → get v k ≡ o
found_there m v k o same is = ap (λ n. get n k) (sym same) ∙ sym (lookup-get m k) ∙ sym is

pub none_there : {X : Type 0} (o : Option X) → is_some o ≡ false → o ≡ None
none_there None is = refl
none_there (Some x) is = absurd (let e : true ≡ false = is in cc)

-- a change that changes nothing
pub changed_same : {X : Type 0} (m : ByNumber X) (k : ℕ) → Rises m → changed m k (λ x. x) ≡ m
changed_same {X} m k rises = by_value (get m k) refl
  where
    by_value : (o : Option X) → get m k ≡ o → changed_at m k (λ x. x) o ≡ m
    by_value None is = refl
    by_value (Some x) is = insert-get m k x rises is
