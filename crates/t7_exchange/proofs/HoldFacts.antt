-- Connections after changes: the sessions that they hold, and what has come on them.
use Rattle.std.proofs.Common.{◌≡◌, ℕ, suc, Bool, true, false, cond, ◌||◌, List, [], ◌∷◌, Option, Some, None, refl, sym, ap, ◌∙◌, subst, arith}
use Rattle.std.specs.Prelude.{◌==◌, Contains, IfSome, IsSome}
use Rattle.std.specs.List.{list_any}
use Rattle.std.proofs.lemmas.Bool.{eqb-true}
use Rattle.t7_eti.specs.declared.request.Request.{Request}
use Rattle.std.specs.Option.{option_map}
use Rattle.std.specs.Ordering.{nat_cmp, eq_by_cmp}
use Rattle.t7_session.specs.Held.{Held, opened}
use Rattle.t7_entry.specs.ByNumber.{ByNumber, get, insert, remove}
use Rattle.t7_entry.proofs.Numbers.{get-insert, get-insert-same, get-remove, tied}
use Rattle.t7_exchange.specs.Maps.{HoldOnly, HoldsOneOf, IsOneOf, IsStill, Stays, changed, changed_at, input_part}
use Rattle.t7_exchange.specs.Serving.{WasAsked}

pub get-changed : {X : Type 0} (m : ByNumber X) (k : ℕ) (f : X → X) (q : ℕ) → get (changed m k f) q ≡ cond (eq_by_cmp nat_cmp q k) (option_map f (get m q)) (get m q)
get-changed {X} m k f q = by_value (get m k) refl (eq_by_cmp nat_cmp q k) refl
  where
    by_value : (o : Option X) → get m k ≡ o → (b : Bool) → eq_by_cmp nat_cmp q k ≡ b → get (changed_at m k f o) q ≡ cond b (option_map f (get m q)) (get m q)
    by_value None is true e = let same : get m q ≡ None = ap (get m) (tied q k e) ∙ is in same ∙ sym (ap (option_map f) same)
    by_value None is false e = refl
    by_value (Some x) is true e =
        let same : get m q ≡ Some x = ap (get m) (tied q k e) ∙ is in
        get-insert m k (f x) q ∙ ap (λ b. cond b (Some (f x)) (get m q)) e ∙ sym (ap (option_map f) same)
    by_value (Some x) is false e = get-insert m k (f x) q ∙ ap (λ b. cond b (Some (f x)) (get m q)) e

-- a change that leaves the session, or makes it one of these
pub only_changed : (sessions : List ℕ) (m : ByNumber Held) (k : ℕ) (f : Held → Held) → ((h : Held) → IsOneOf sessions h.session → IsOneOf sessions (f h).session)
    → HoldOnly sessions m → HoldOnly sessions (changed m k f)
only_changed sessions m k f leaves only = record { each = λ q. subst (HoldsOneOf sessions) (sym (get-changed m k f q)) (by_test (eq_by_cmp nat_cmp q k) (get m q) (only.each q)) }
  where
    by_test : (b : Bool) (o : Option Held) → HoldsOneOf sessions o → HoldsOneOf sessions (cond b (option_map f o) o)
    by_test true None p = p
    by_test true (Some h) p = leaves h p
    by_test false o p = p

pub only_removed : (sessions : List ℕ) (m : ByNumber Held) (k : ℕ) → HoldOnly sessions m → HoldOnly sessions (remove m k)
only_removed sessions m k only = record { each = λ q. subst (HoldsOneOf sessions) (sym (get-remove m k q)) (by_test (eq_by_cmp nat_cmp q k) (get m q) (only.each q)) }
  where
    by_test : (b : Bool) (o : Option Held) → HoldsOneOf sessions o → HoldsOneOf sessions (cond b None o)
    by_test true o p = tt
    by_test false o p = p

pub only_opened : (sessions : List ℕ) (m : ByNumber Held) (k : ℕ) → HoldOnly sessions m → HoldOnly sessions (insert m k opened)
only_opened sessions m k only = record { each = λ q. subst (HoldsOneOf sessions) (sym (get-insert m k opened q)) (by_test (eq_by_cmp nat_cmp q k) (get m q) (only.each q)) }
  where
    by_test : (b : Bool) (o : Option Held) → HoldsOneOf sessions o → HoldsOneOf sessions (cond b (Some opened) o)
    by_test true o p = tt
    by_test false o p = p

pub none_held : (sessions : List ℕ) (m : ByNumber Held) → ((k : ℕ) → get m k ≡ None) → HoldOnly sessions m
none_held sessions m none = record { each = λ q. subst (HoldsOneOf sessions) (sym (none q)) tt }

-- the session of an open connection is one of these
pub held_session : (sessions : List ℕ) (m : ByNumber Held) (conn : ℕ) (h : Held) (s : ℕ) → HoldOnly sessions m → get m conn ≡ Some h → h.session ≡ Some s → Contains sessions s
held_session sessions m conn h s only there is =
    subst (IsOneOf sessions) is (subst (HoldsOneOf sessions) there (only.each conn))

-- what has come stays
pub stays_same : (m : ByNumber Held) → Stays m m
stays_same m = record { each = λ q. at (get m q) }
  where
    at : (o : Option Held) → IsStill o o
    at None = tt
    at (Some h) = refl

pub stays_then : (a b c : ByNumber Held) → Stays a b → Stays b c → Stays a c
stays_then a b c first next = record { each = λ q. at (get a q) (get b q) (get c q) (first.each q) (next.each q) }
  where
    at : (x y z : Option Held) → IsStill x y → IsStill y z → IsStill x z
    at x y None p q = tt
    at x None (Some h) p q = absurd (let e : None ≡ Some (input_part h) = q in cc)
    at x (Some g) (Some h) p q = p ∙ q

pub stays_changed : (m : ByNumber Held) (k : ℕ) (f : Held → Held) → ((h : Held) → input_part (f h) ≡ input_part h) → Stays m (changed m k f)
stays_changed m k f same = record { each = λ q. subst (IsStill (get m q)) (sym (get-changed m k f q)) (by_test (eq_by_cmp nat_cmp q k) (get m q)) }
  where
    by_test : (b : Bool) (o : Option Held) → IsStill o (cond b (option_map f o) o)
    by_test true None = tt
    by_test true (Some h) = ap Some (sym (same h))
    by_test false None = tt
    by_test false (Some h) = refl

pub stays_removed : (m : ByNumber Held) (k : ℕ) → Stays m (remove m k)
stays_removed m k = record { each = λ q. subst (IsStill (get m q)) (sym (get-remove m k q)) (by_test (eq_by_cmp nat_cmp q k) (get m q)) }
  where
    by_test : (b : Bool) (o : Option Held) → IsStill o (cond b None o)
    by_test true o = tt
    by_test false None = tt
    by_test false (Some h) = refl

-- what was asked stays asked where a change leaves it
pub asked_still : (asked : Request) (m : ByNumber Held) (conn : ℕ) (f : Held → Held) → ((h : Held) → (f h).asked ≡ h.asked) → WasAsked asked (get m conn) → IfSome (get (changed m conn f) conn) (λ h. IsSome h.asked)
asked_still asked m conn f keeps was = by_value (get m conn) refl was
  where
    by_value : (o : Option Held) → get m conn ≡ o → WasAsked asked o → IfSome (get (changed m conn f) conn) (λ h. IsSome h.asked)
    by_value None is was = subst (λ (o : Option Held). IfSome o (λ h. IsSome h.asked)) (sym (ap (λ o. get (changed_at m conn f o) conn) is ∙ is)) tt
    by_value (Some h) is was =
        subst (λ (o : Option Held). IfSome o (λ h. IsSome h.asked)) (sym (ap (λ o. get (changed_at m conn f o) conn) is ∙ get-insert-same m conn (f h)))
        (subst (λ (o : Option Request). IsSome o) (sym (keeps h ∙ was)) refl)

pub asked_there : (asked : Request) (m : ByNumber Held) (conn : ℕ) → WasAsked asked (get m conn) → IfSome (get m conn) (λ h. IsSome h.asked)
asked_there asked m conn was = by_value (get m conn) was
  where
    by_value : (o : Option Held) → WasAsked asked o → IfSome o (λ h. IsSome h.asked)
    by_value None was = tt
    by_value (Some h) was = subst (λ (o : Option Request). IsSome o) (sym was) refl

-- a session that is found stands among them
pub known_session : (sessions : List ℕ) (session : ℕ) → list_any (λ s. s == session) sessions ≡ true → Contains sessions session
known_session [] session is = absurd (let e : false ≡ true = is in cc)
known_session (s ∷ sessions) session is = by_test (s == session) refl is (known_session sessions session)
  where
    by_test : (b : Bool) → (s == session) ≡ b → (b || list_any (λ s. s == session) sessions) ≡ true → (list_any (λ s. s == session) sessions ≡ true → Contains sessions session)
        → Contains (s ∷ sessions) session
    by_test true same is more = (0, omega arith, eqb-true s session same)
    by_test false other is more = let rest = more is in (suc rest.0, (let lt = rest.1 in omega arith), rest.2)
