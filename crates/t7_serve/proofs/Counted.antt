-- Counts by rising numbers, after writes.
use Rattle.std.proofs.Common.{◌≡◌, ℕ, Bool, true, false, cond, ◌&&◌, [], ◌∷◌, Option, Some, None, refl, sym, ap, ◌∙◌}
use Rattle.std.specs.Prelude.{T}
use Rattle.std.specs.Ordering.{nat_cmp, eq_by_cmp}
use Rattle.std.specs.declared.cmp.Ordering.TheVariants.{Less}
use Rattle.std.specs.Cmp.{nat_cmp_total, eq_by_cmp_equiv}
use Rattle.std.specs.FinMap.{nat_cmp-IsAntisymmetric}
use Rattle.std.specs.FinMap.Entries.{below_all, is_sorted, same_entries}
use Rattle.std.specs.BTreeMap.{is_at}
use Rattle.std.specs.List.{AllByRecursion}
use Rattle.std.specs.List.Sorted.{IsStrictlySortedBy}
use Rattle.std.specs.Map.{keys_of, lookup}
use Rattle.t7_entry.specs.ByNumber.{ByNumber, Rises, get, insert, remove}
use Rattle.t7_entry.proofs.Numbers.{get-insert, get-remove, rises-insert, rises-remove}

module _ {X : Type 0} where
  -- what a look-up finds
  pub lookup-get : (m : ByNumber X) (k : ℕ) → lookup (is_at (nat_cmp k)) m ≡ get m k
  lookup-get [] k = refl
  lookup-get (e ∷ m) k = ap (cond (eq_by_cmp nat_cmp k e.0) (Some e.1)) (lookup-get m k)

  below_from : (k : ℕ) (m : ByNumber X) → AllByRecursion (λ q. nat_cmp k q ≡ Less) (keys_of m) → T (below_all nat_cmp k m)
  below_from k [] h = tt
  below_from k (e ∷ m) h = rw h.0 (below_from k m h.1)

  -- the entries of a map rise
  pub rises_from : (m : ByNumber X) → IsStrictlySortedBy nat_cmp (keys_of m) → Rises m
  unfolding IsStrictlySortedBy
  rises_from [] h = tt
  rises_from (e ∷ m) h = both (below_all nat_cmp e.0 m) (is_sorted nat_cmp m) (below_from e.0 m h.0) (rises_from m h.1)
    where
      both : (a b : Bool) → T a → T b → T (a && b)
      both true b p q = q
      both false b p q = p

  -- entries after a call that puts a value at a number
  pub was_put : (m n : ByNumber X) (k : ℕ) (v : X) → Rises m → IsStrictlySortedBy nat_cmp (keys_of n)
      → ((q : ℕ) → lookup (is_at (nat_cmp q)) n ≡ cond (is_at (nat_cmp k) q) (Some v) (lookup (is_at (nat_cmp q)) m))
      → n ≡ insert m k v
  was_put m n k v rises ordered updates =
      same_entries nat_cmp nat_cmp_total nat_cmp-IsAntisymmetric n (insert m k v) (rises_from n ordered) (rises-insert m k v rises) (λ q.
      sym (lookup-get n q) ∙ updates q
      ∙ ap (λ b. cond b (Some v) (lookup (is_at (nat_cmp q)) m)) ((eq_by_cmp_equiv nat_cmp_total).symm k q)
      ∙ ap (cond (eq_by_cmp nat_cmp q k) (Some v)) (lookup-get m q)
      ∙ sym (get-insert m k v q))

  -- after one that takes it off
  pub was_taken : (m n : ByNumber X) (k : ℕ) → Rises m → IsStrictlySortedBy nat_cmp (keys_of n)
      → ((q : ℕ) → lookup (is_at (nat_cmp q)) n ≡ cond (is_at (nat_cmp k) q) None (lookup (is_at (nat_cmp q)) m))
      → n ≡ remove m k
  was_taken m n k rises ordered updates =
      same_entries nat_cmp nat_cmp_total nat_cmp-IsAntisymmetric n (remove m k) (rises_from n ordered) (rises-remove m k rises) (λ q.
      sym (lookup-get n q) ∙ updates q
      ∙ ap (λ b. cond b None (lookup (is_at (nat_cmp q)) m)) ((eq_by_cmp_equiv nat_cmp_total).symm k q)
      ∙ ap (cond (eq_by_cmp nat_cmp q k) None) (lookup-get m q)
      ∙ sym (get-remove m k q))

  -- what a call found stands there
  pub found_there : (m v : ByNumber X) (k : ℕ) (o : Option X) → m ≡ v → o ≡ lookup (is_at (nat_cmp k)) m → get v k ≡ o
  found_there m v k o same is = ap (λ (n : ByNumber X). get n k) (sym same) ∙ sym (lookup-get m k) ∙ sym is
