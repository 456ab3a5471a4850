-- The connection that holds a session, and what is told of there as cores change.
use Rattle.std.proofs.Common.{◌≡◌, ℕ, Bool, true, false, cond, List, [], ◌∷◌, Option, Some, None, refl, sym, ap, ◌∙◌, subst}
use Rattle.std.specs.List.{AllByRecursion}
use Rattle.std.specs.Prelude.{◌==◌}
use Rattle.std.specs.Ordering.{nat_cmp, eq_by_cmp}
use Rattle.t7_entry.specs.ByNumber.{ByNumber, get, keys}
use Rattle.t7_entry.specs.State.{Core, Line, line_of}
use Rattle.t7_entry.specs.Treatment.{holder, holder_among, holds, session_at, session_of}
use Rattle.t7_entry.proofs.EntryFacts.{holder-holds}
use Rattle.t7_entry.proofs.Numbers.{tied}
use Rattle.t7_dialog.specs.Reaching.{Reached}
use Rattle.t7_dialog.specs.Serving.{IsTold}
use Rattle.t7_dialog.proofs.Moving.{eqb_not}

-- what holds of each number holds of one at which something stands
at_number : {X : Type 0} (P : ℕ → Type 0) (m : ByNumber X) (k : ℕ) (v : X) → get m k ≡ Some v → AllByRecursion P (keys m) → P k
at_number P [] k v is each = absurd (let no : None ≡ Some v = is in cc)
at_number {X} P (e ∷ m) k v is each = by (eq_by_cmp nat_cmp k e.0) refl is (λ later. at_number P m k v later each.1)
  where
    by : (b : Bool) → eq_by_cmp nat_cmp k e.0 ≡ b → cond b (Some e.1) (get m k) ≡ Some v → (get m k ≡ Some v → P k) → P k
    by true same found go = subst P (sym (tied k e.0 same)) each.0
    by false other found go = go found

module _ (session : ℕ) where
  -- where no connection is found that holds the session, none does
  none_among : (core : Core) (conns : List ℕ) → holder_among session core conns ≡ None → AllByRecursion (λ (c : ℕ). session_of core c ≡ Some session → ⊥) conns
  none_among core [] is = tt
  none_among core (c ∷ conns) is = by (session_of core c) refl is (none_among core conns)
    where
      by_test : (b : Bool) (t : ℕ) → (session == t) ≡ b → session_of core c ≡ Some t → cond b (Some c) (holder_among session core conns) ≡ None
          → (holder_among session core conns ≡ None → AllByRecursion (λ (d : ℕ). session_of core d ≡ Some session → ⊥) conns)
          → (session_of core c ≡ Some session → ⊥) × AllByRecursion (λ (d : ℕ). session_of core d ≡ Some session → ⊥) conns
      by_test true t test e none go = absurd (let no : Some c ≡ None = none in cc)
      by_test false t test e none go = (λ here. let there : Some t ≡ Some session = sym e ∙ here in let same : t ≡ session = cc there in eqb_not session t test (sym same), go none)

      by : (held : Option ℕ) → session_of core c ≡ held → cond (holds session held) (Some c) (holder_among session core conns) ≡ None
          → (holder_among session core conns ≡ None → AllByRecursion (λ (d : ℕ). session_of core d ≡ Some session → ⊥) conns)
          → (session_of core c ≡ Some session → ⊥) × AllByRecursion (λ (d : ℕ). session_of core d ≡ Some session → ⊥) conns
      by None e none go = (λ here. let no : None ≡ Some session = sym e ∙ here in cc no, go none)
      by (Some t) e none go = by_test (session == t) t refl e none go

  unheld_at : (core : Core) (conn : ℕ) (line : Option Line) → line_of core conn ≡ line → AllByRecursion (λ (c : ℕ). session_of core c ≡ Some session → ⊥) (keys core.lines) → session_at line ≡ Some session → ⊥
  unheld_at core conn None is each here = let no : None ≡ Some session = here in cc no
  unheld_at core conn (Some line) is each here = at_number (λ (c : ℕ). session_of core c ≡ Some session → ⊥) core.lines conn line is each (ap session_at is ∙ here)

  pub unheld : (core : Core) → holder session core ≡ None → (conn : ℕ) → session_of core conn ≡ Some session → ⊥
  unfolding holder
  unheld core none conn = unheld_at core conn (line_of core conn) refl (none_among core (keys core.lines) none)

module _ (conn session stored : ℕ) where
  -- a core in which no more connections hold the session, and the connection does where it did
  pub told_within : (reached : Reached) (a b : Core) → session_of b conn ≡ session_of a conn → ((other : ℕ) → session_of b other ≡ Some session → session_of a other ≡ Some session)
      → IsTold conn session stored reached a → IsTold conn session stored reached b
  told_within reached a b same within told = record {
    sole = λ here other there. told.sole (sym same ∙ here) other (within other there);
    all = λ count is. let before = told.all count is in (same ∙ before.0, before.1);
  }

  pub told_same : (reached : Reached) (a b : Core) → ((other : ℕ) → session_of b other ≡ session_of a other) → IsTold conn session stored reached a → IsTold conn session stored reached b
  told_same reached a b same told = told_within reached a b (same conn) (λ other there. sym (same other) ∙ there) told

  -- where the connection doesn't hold the session nothing has been told of
  pub told_free : (less : ℕ) (reached : Reached) (core : Core) → (session_of core conn ≡ Some session → ⊥) → IsTold conn session less reached core → IsTold conn session stored reached core
  told_free less reached core free told = record { sole = λ here. absurd (free here); all = λ count is. absurd (free (told.all count is).0) }

  -- where it does it is the holder
  pub holder_is : (reached : Reached) (core : Core) (held : Option ℕ) → holder session core ≡ held → session_of core conn ≡ Some session → IsTold conn session stored reached core → held ≡ Some conn
  holder_is reached core None is here told = absurd (unheld session core is conn here)
  holder_is reached core (Some other) is here told = ap Some (told.sole here other (holder-holds session core other is))
