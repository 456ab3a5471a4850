-- The first fault of rows.
use Rattle.std.proofs.Common.{◌≡◌, ◌≢◌, ◌<◌, ◌≤◌, ◌+◌, ◌-◌, ◌∙◌, ◌⊎◌, inl, inr, ℕ, zero, suc, List, [], ◌∷◌, Bool, true, false, not, Option, Some, None, length, refl, ap, sym, arith, cond, nat_eq, option_map, ◌==◌, ◌&&◌}
use Rattle.std.specs.Prelude.{find, slice_get}
use Rattle.std.specs.List.{list_all, list_any}
use Rattle.std.proofs.lemmas.Bool.Decides.{nat_tests}
use Rattle.t7_records.specs.Records.{Record, record_at}
use Rattle.t7_layout.specs.declared.words.TableFault.{TableFault}
use Rattle.t7_layout.specs.declared.words.TableWhy.{TableWhy}
use Rattle.t7_layout.specs.declared.words.TableWhy.TheVariants.{Columns, Family, Cell, Kind, Width, Null, DuplicateId, DuplicateName, Overlap, Hole, Length, Header, RoleField, RoleMissing}
use Rattle.t7_layout.specs.Faults.{IsValid, fault_at, fault_of, first_of, has_roles, least_fault, looked_at, row_fault}
use Rattle.t7_layout.specs.FirstFault.{AreSound, IsFirstFault, IsRowFault, PassesAll, fails, tests}
use Rattle.t7_layout.specs.Rows.{is_heading, is_of}
use Rattle.t7_layout.specs.Roles.{all_roles}
use Rattle.t7_layout.proofs.FaultFacts.{first_none, none_below}
use Rattle.t7_layout.proofs.FoundFacts.{none_passes}
use Rattle.t7_layout.proofs.RoleFacts.{each_role}

-- the fault at a place is the first test that its row fails
at_is : (rows : List Record) (at : ℕ) → fault_at rows at ≡ find (λ why. fails why rows at) tests
unfolding fault_at row_fault fails
at_is rows zero = by (is_heading (record_at rows 0))
  where
    by : (b : Bool) → cond b None (Some Columns) ≡ cond (not b) (Some Columns) None
    by true = refl
    by false = refl
at_is rows (suc at) =
    let behind : nat_eq (suc at) 0 ≡ false = grind (arith, nat_tests) in
    rw behind refl

-- where each test stands
test_place : TableWhy → ℕ
test_place Columns = 0
test_place Family = 1
test_place Cell = 2
test_place Kind = 3
test_place Width = 4
test_place Null = 5
test_place DuplicateId = 6
test_place DuplicateName = 7
test_place Overlap = 8
test_place Hole = 9
test_place Length = 10
test_place Header = 11
test_place RoleField = 12
test_place RoleMissing = 13

no_test : (rows : List Record) (at : ℕ) → fails RoleMissing rows at ≡ false
unfolding fails
no_test rows zero = refl
no_test rows (suc at) = refl

test_there : (why : TableWhy) → (why ≡ RoleMissing) ⊎ (slice_get tests (test_place why) ≡ Some why)
unfolding test_place
test_there Columns = inr refl
test_there Family = inr refl
test_there Cell = inr refl
test_there Kind = inr refl
test_there Width = inr refl
test_there Null = inr refl
test_there DuplicateId = inr refl
test_there DuplicateName = inr refl
test_there Overlap = inr refl
test_there Hole = inr refl
test_there Length = inr refl
test_there Header = inr refl
test_there RoleField = inr refl
test_there RoleMissing = inl refl

-- a place with no fault
pub no_fault : (rows : List Record) (at : ℕ) → fault_at rows at ≡ None → PassesAll rows at
no_fault rows at h why = elim (test_there why) [
  | inl e ↦ rw e (no_test rows at)
  | inr e ↦ none_passes (λ w. fails w rows at) tests (test_place why) why (sym (at_is rows at) ∙ h) e
]

none_found : {X : Type 0} (p : X → Bool) (xs : List X) → ((i : ℕ) (x : X) → slice_get xs i ≡ Some x → p x ≡ false) → find p xs ≡ None
none_found p [] h = refl
none_found p (x ∷ xs) h = rw (h 0 x refl) (none_found p xs (λ i y e. h (suc i) y e))

pub passes_all : (rows : List Record) (at : ℕ) → PassesAll rows at → fault_at rows at ≡ None
passes_all rows at h = at_is rows at ∙ none_found (λ why. fails why rows at) tests (λ i why e. h why)

-- an item that was found, with those before it
record First {X : Type 0} (p : X → Bool) (xs : List X) (x : X) : Type 0 where
  pub place : ℕ
  pub there : slice_get xs place ≡ Some x
  pub passes : p x ≡ true
  pub before : (i : ℕ) (y : X) → i < place → slice_get xs i ≡ Some y → p y ≡ false

past_head : {X : Type 0} (p : X → Bool) (y : X) (ys : List X) (place : ℕ) → p y ≡ false → ((i : ℕ) (z : X) → i < place → slice_get ys i ≡ Some z → p z ≡ false)
    → (i : ℕ) (z : X) → i < suc place → slice_get (y ∷ ys) i ≡ Some z → p z ≡ false
past_head p y ys place e before zero z below is = let s : y ≡ z = cc is in rw (← s) e
past_head p y ys place e before (suc i) z below is = before i z (omega arith) is

first_found : {X : Type 0} (p : X → Bool) (xs : List X) (x : X) → find p xs ≡ Some x → First p xs x
first_found p [] x h = cc h
first_found p (y ∷ ys) x h = by (p y) refl h (first_found p ys x)
  where
    by : (b : Bool) → p y ≡ b → cond b (Some y) (find p ys) ≡ Some x → (find p ys ≡ Some x → First p ys x) → First p (y ∷ ys) x
    by true e h more = let s : y ≡ x = cc h in record { place = 0; there = h; passes = rw (← s) e; before = λ i z below is. absurd (omega arith) }
    by false e h more = let r = more h in record { place = suc r.place; there = r.there; passes = r.passes; before = past_head p y ys r.place e r.before }

found_first : {X : Type 0} (p : X → Bool) (xs : List X) (k : ℕ) (x : X) → slice_get xs k ≡ Some x → p x ≡ true → ((i : ℕ) (y : X) → i < k → slice_get xs i ≡ Some y → p y ≡ false) → find p xs ≡ Some x
found_first p [] k x e h before = cc e
found_first p (y ∷ ys) zero x e h before =
    let s : y ≡ x = cc e in
    let t : p y ≡ true = rw s h in
    rw t e
found_first p (y ∷ ys) (suc k) x e h before = rw (before 0 y (omega arith) refl) (found_first p ys k x e h (λ i z below is. before (suc i) z (omega arith) is))

-- the fault of the least place
record Least (fault : ℕ → Option TableWhy) (at more : ℕ) (f : TableFault) : Type 0 where
  pub place : ℕ
  pub from : at ≤ place
  pub below : place < at + more
  pub row : f.row ≡ place + 1
  pub is : fault place ≡ Some f.why
  pub before : (i : ℕ) → at ≤ i → i < place → fault i ≡ None

early : (fault : ℕ → Option TableWhy) (at place : ℕ) → fault at ≡ None → ((i : ℕ) → at + 1 ≤ i → i < place → fault i ≡ None) → (i : ℕ) → at ≤ i → i < place → fault i ≡ None
early fault at place none before i from below = by (i == at) refl
  where
    by : (b : Bool) → nat_eq i at ≡ b → fault i ≡ None
    by true e = let s : i ≡ at = grind (arith, nat_tests) in rw s none
    by false e = let d : i ≢ at = grind (arith, nat_tests) in before i (omega arith) below

least_is : (fault : ℕ → Option TableWhy) (at more : ℕ) (f : TableFault) → least_fault fault at more ≡ Some f → Least fault at more f
unfolding least_fault
least_is fault at zero f h = cc h
least_is fault at (suc more) f h = by (fault at) refl h (least_is fault (at + 1) more f)
  where
    by : (o : Option TableWhy) → fault at ≡ o → first_of (option_map (λ why. record { row = at + 1; why = why }) o) (least_fault fault (at + 1) more) ≡ Some f
        → (least_fault fault (at + 1) more ≡ Some f → Least fault (at + 1) more f) → Least fault at (suc more) f
    by (Some why) e h rest =
        let here : TableFault = record { row = at + 1; why = why } in
        let s : here ≡ f = cc h in
        record { place = at; from = omega arith; below = omega arith; row = sym (ap (λ (g : TableFault). g.row) s); is = e ∙ ap (λ (g : TableFault). Some g.why) s; before = λ i from below. absurd (omega arith) }
    by None e h rest =
        let l = rest h in
        record { place = l.place; from = omega (arith, l.from); below = omega (arith, l.below); row = l.row; is = l.is; before = early fault at l.place e l.before }

least_at : (fault : ℕ → Option TableWhy) (at more : ℕ) (f : TableFault) → Least fault at more f → least_fault fault at more ≡ Some f
unfolding least_fault
least_at fault at zero f l = absurd (omega (arith, l.from, l.below))
least_at fault at (suc more) f l = by (l.place == at) refl (least_at fault (at + 1) more f)
  where
    by : (b : Bool) → nat_eq l.place at ≡ b → (Least fault (at + 1) more f → least_fault fault (at + 1) more ≡ Some f)
        → first_of (option_map (λ why. record { row = at + 1; why = why }) (fault at)) (least_fault fault (at + 1) more) ≡ Some f
    by true e rest =
        let s : l.place ≡ at = grind (arith, nat_tests) in
        let here : fault at ≡ Some f.why = rw s at l.is in
        let row : at + 1 ≡ f.row = omega (arith, l.row, s) in
        rw here (ap (λ (n : ℕ). Some (record { row = n; why = f.why })) row)
    by false e rest =
        let d : l.place ≢ at = grind (arith, nat_tests) in
        let none : fault at ≡ None = l.before at (omega arith) (omega (arith, l.from, d)) in
        rw none (rest (record { place = l.place; from = omega (arith, l.from, d); below = omega (arith, l.below); row = l.row; is = l.is; before = λ i from below. l.before i (omega arith) below }))

least_none : (fault : ℕ → Option TableWhy) (at more : ℕ) → ((k : ℕ) → at ≤ k → k < at + more → fault k ≡ None) → least_fault fault at more ≡ None
unfolding least_fault
least_none fault at zero h = refl
least_none fault at (suc more) h = rw (h at (omega arith) (omega arith)) (least_none fault (at + 1) more (λ k from below. h k (omega arith) (omega arith)))

-- where not all pass, one does not
one_fails : {X : Type 0} (p : X → Bool) (xs : List X) → list_all p xs ≡ false → (x : X) × (p x ≡ false)
one_fails p [] h = cc h
one_fails {X = X} p (x ∷ xs) h = by (p x) refl h (one_fails p xs)
  where
    by : (b : Bool) → p x ≡ b → (b && list_all p xs) ≡ false → (list_all p xs ≡ false → (y : X) × (p y ≡ false)) → (y : X) × (p y ≡ false)
    by true e h more = more h
    by false e h more = (x, e)

all_pass : {X : Type 0} (p : X → Bool) (xs : List X) → ((x : X) → p x ≡ true) → list_all p xs ≡ true
all_pass p [] h = refl
all_pass p (x ∷ xs) h = rw (h x) (all_pass p xs h)

row_fault_is : (rows : List Record) (f : TableFault) → Least (fault_at rows) 0 (looked_at rows) f → IsRowFault rows f
row_fault_is rows f l =
    let back : f.row - 1 ≡ l.place = omega (arith, l.row) in
    let t = first_found (λ why. fails why rows l.place) tests f.why (sym (at_is rows l.place) ∙ l.is) in
    record {
      some = omega (arith, l.row);
      inside = omega (arith, l.row, l.below);
      place = t.place;
      test = t.there;
      failed = rw back t.passes;
      first = λ earlier why below is. rw back (t.before earlier why below is);
      least = λ at below. no_fault rows at (l.before at (omega arith) (omega (arith, l.row)));
    }

row_least : (rows : List Record) (f : TableFault) → IsRowFault rows f → Least (fault_at rows) 0 (looked_at rows) f
row_least rows f r = record {
  place = f.row - 1;
  from = omega arith;
  below = omega (arith, r.some, r.inside);
  row = omega (arith, r.some);
  is = at_is rows (f.row - 1) ∙ found_first (λ why. fails why rows (f.row - 1)) tests r.place f.why r.test r.failed r.first;
  before = λ i from below. passes_all rows i (r.least i (omega (arith, r.some)));
}

pub fault_first : (rows : List Record) (f : TableFault) → fault_of rows ≡ Some f → IsFirstFault rows f
unfolding fault_of has_roles
fault_first rows f h = by (least_fault (fault_at rows) 0 (looked_at rows)) refl h
  where
    lacks : (b : Bool) → list_all (λ role. list_any (λ row. is_of row role) rows) all_roles ≡ b → cond b None (Some (record { row = length rows + 1; why = RoleMissing })) ≡ Some f
        → ((at : ℕ) → at < looked_at rows → PassesAll rows at) → IsFirstFault rows f
    lacks true e h passed = cc h
    lacks false e h passed =
        let last : TableFault = record { row = length rows + 1; why = RoleMissing } in
        let s : last ≡ f = cc h in
        let (role, absent) = one_fails (λ role. list_any (λ row. is_of row role) rows) all_roles e in
        inr (record { row = sym (ap (λ (g : TableFault). g.row) s); why = sym (ap (λ (g : TableFault). g.why) s); passed = passed; role = role; absent = absent })

    by : (o : Option TableFault) → least_fault (fault_at rows) 0 (looked_at rows) ≡ o
        → first_of o (cond (list_all (λ role. list_any (λ row. is_of row role) rows) all_roles) None (Some (record { row = length rows + 1; why = RoleMissing }))) ≡ Some f → IsFirstFault rows f
    by (Some g) e h = inl (row_fault_is rows f (least_is (fault_at rows) 0 (looked_at rows) f (e ∙ h)))
    by None e h = lacks (list_all (λ role. list_any (λ row. is_of row role) rows) all_roles) refl h (λ at below. no_fault rows at (none_below (fault_at rows) 0 (looked_at rows) e at (omega arith) (omega arith)))

pub first_fault : (rows : List Record) (f : TableFault) → IsFirstFault rows f → fault_of rows ≡ Some f
unfolding fault_of has_roles
first_fault rows f (inl r) = rw (least_at (fault_at rows) 0 (looked_at rows) f (row_least rows f r)) refl
first_fault rows f (inr m) =
    rw (least_none (fault_at rows) 0 (looked_at rows) (λ k from below. passes_all rows k (m.passed k (omega arith))))
    (by (list_all (λ role. list_any (λ row. is_of row role) rows) all_roles) refl)
  where
    by : (b : Bool) → list_all (λ role. list_any (λ row. is_of row role) rows) all_roles ≡ b → cond b None (Some (record { row = length rows + 1; why = RoleMissing })) ≡ Some f
    by true e = cc (m.absent, each_role (λ role. list_any (λ row. is_of row role) rows) e m.role)
    by false e = rw (sym m.row) (ap (λ (w : TableWhy). Some (record { row = f.row; why = w })) (sym m.why))

pub valid_sound : (rows : List Record) → IsValid rows → AreSound rows
unfolding fault_of has_roles
valid_sound rows h =
    let parts = first_none _ _ h in
    record {
      passed = λ at below. no_fault rows at (none_below (fault_at rows) 0 (looked_at rows) parts.0 at (omega arith) (omega arith));
      roles = each_role (λ role. list_any (λ row. is_of row role) rows) (has_by (list_all (λ role. list_any (λ row. is_of row role) rows) all_roles) parts.1);
    }
  where
    has_by : (b : Bool) → cond {A = Option TableFault} b None (Some (record { row = length rows + 1; why = RoleMissing })) ≡ None → b ≡ true
    has_by true h = refl
    has_by false h = cc h

pub sound_valid : (rows : List Record) → AreSound rows → IsValid rows
unfolding fault_of has_roles
sound_valid rows s =
    let all = all_pass (λ role. list_any (λ row. is_of row role) rows) all_roles s.roles in
    rw (least_none (fault_at rows) 0 (looked_at rows) (λ k from below. passes_all rows k (s.passed k (omega arith))), all) refl
