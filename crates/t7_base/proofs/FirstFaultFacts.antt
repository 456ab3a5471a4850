-- The first fault of the records of a product file.
use Rattle.std.proofs.Common.{◌≡◌, ◌≢◌, ◌<◌, ◌≤◌, ◌+◌, ◌-◌, ◌∙◌, ◌⊎◌, inl, inr, ℕ, zero, suc, List, [], ◌∷◌, Bool, true, false, Option, Some, None, length, refl, ap, sym, arith, cond, nat_eq, option_map, ◌==◌, drop}
use Rattle.std.specs.Prelude.{find, slice_get}
use Rattle.std.proofs.lemmas.Bool.Decides.{nat_tests}
use Rattle.t7_records.specs.Records.{Record}
use Rattle.t7_base.specs.declared.product.ProductWhy.{ProductWhy}
use Rattle.t7_base.specs.declared.product.ProductWhy.TheVariants.{Key, Columns, Number, Duplicate, Missing}
use Rattle.t7_base.specs.ProductFile.{ProductFault, fault_at, fault_of, first_of, least_fault, sessions_in}
use Rattle.t7_base.specs.FirstFault.{AreSound, IsFirstFault, IsRecordFault, PassesAll, fails, tests}

-- the fault at a place is the first test that its record fails
at_is : (rows : List Record) (at : ℕ) → fault_at rows at ≡ find (λ why. fails why rows at) tests
unfolding fault_at fails
at_is rows at = refl

-- where each test stands
test_place : ProductWhy → ℕ
test_place Key = 0
test_place Columns = 1
test_place Number = 2
test_place Duplicate = 3
test_place Missing = 4

no_test : (rows : List Record) (at : ℕ) → fails Missing rows at ≡ false
unfolding fails
no_test rows at = refl

test_there : (why : ProductWhy) → (why ≡ Missing) ⊎ (slice_get tests (test_place why) ≡ Some why)
unfolding test_place
test_there Key = inr refl
test_there Columns = inr refl
test_there Number = inr refl
test_there Duplicate = inr refl
test_there Missing = inl refl

-- of a list in which none is found each item passes
none_passes : {X : Type 0} (p : X → Bool) (xs : List X) (i : ℕ) (x : X) → find p xs ≡ None → slice_get xs i ≡ Some x → p x ≡ false
none_passes p [] i x h e = cc e
none_passes p (y ∷ ys) i x h e = by (p y) refl h i e (λ k rest is. none_passes p ys k x rest is)
  where
    by : (b : Bool) → p y ≡ b → cond b (Some y) (find p ys) ≡ None → (i : ℕ) → slice_get (y ∷ ys) i ≡ Some x
        → ((k : ℕ) → find p ys ≡ None → slice_get ys k ≡ Some x → p x ≡ false) → p x ≡ false
    by true t h i e more = cc h
    by false t h zero e more = let s : y ≡ x = cc e in rw (← s) t
    by false t h (suc i) e more = more i h e

-- a place with no fault
pub no_fault : (rows : List Record) (at : ℕ) → fault_at rows at ≡ None → PassesAll rows at
no_fault rows at h why = elim (test_there why) [
  | inl e ↦ rw e (no_test rows at)
  | inr e ↦ none_passes (λ w. fails w rows at) tests (test_place why) why (sym (at_is rows at) ∙ h) e
]

none_found : {X : Type 0} (p : X → Bool) (xs : List X) → ((i : ℕ) (x : X) → slice_get xs i ≡ Some x → p x ≡ false) → find p xs ≡ None
none_found p [] h = refl
none_found p (x ∷ xs) h = rw (h 0 x refl) (none_found p xs (λ i y e. h (suc i) y e))

pub passes_all : (rows : List Record) (at : ℕ) → PassesAll rows at → fault_at rows at ≡ None
passes_all rows at h = at_is rows at ∙ none_found (λ why. fails why rows at) tests (λ i why e. h why)

-- an item that was found, with those before it
record First {X : Type 0} (p : X → Bool) (xs : List X) (x : X) : Type 0 where
  pub place : ℕ
  pub there : slice_get xs place ≡ Some x
  pub passes : p x ≡ true
  pub before : (i : ℕ) (y : X) → i < place → slice_get xs i ≡ Some y → p y ≡ false

past_head : {X : Type 0} (p : X → Bool) (y : X) (ys : List X) (place : ℕ) → p y ≡ false → ((i : ℕ) (z : X) → i < place → slice_get ys i ≡ Some z → p z ≡ false)
    → (i : ℕ) (z : X) → i < suc place → slice_get (y ∷ ys) i ≡ Some z → p z ≡ false
past_head p y ys place e before zero z below is = let s : y ≡ z = cc is in rw (← s) e
past_head p y ys place e before (suc i) z below is = before i z (omega arith) is

first_found : {X : Type 0} (p : X → Bool) (xs : List X) (x : X) → find p xs ≡ Some x → First p xs x
first_found p [] x h = cc h
first_found p (y ∷ ys) x h = by (p y) refl h (first_found p ys x)
  where
    by : (b : Bool) → p y ≡ b → cond b (Some y) (find p ys) ≡ Some x → (find p ys ≡ Some x → First p ys x) → First p (y ∷ ys) x
    by true e h more = let s : y ≡ x = cc h in record { place = 0; there = h; passes = rw (← s) e; before = λ i z below is. absurd (omega arith) }
    by false e h more = let r = more h in record { place = suc r.place; there = r.there; passes = r.passes; before = past_head p y ys r.place e r.before }

found_first : {X : Type 0} (p : X → Bool) (xs : List X) (k : ℕ) (x : X) → slice_get xs k ≡ Some x → p x ≡ true → ((i : ℕ) (y : X) → i < k → slice_get xs i ≡ Some y → p y ≡ false) → find p xs ≡ Some x
found_first p [] k x e h before = cc e
found_first p (y ∷ ys) zero x e h before =
    let s : y ≡ x = cc e in
    let t : p y ≡ true = rw s h in
    rw t e
found_first p (y ∷ ys) (suc k) x e h before = rw (before 0 y (omega arith) refl) (found_first p ys k x e h (λ i z below is. before (suc i) z (omega arith) is))

-- the fault of the least place
record Least (fault : ℕ → Option ProductWhy) (at more : ℕ) (f : ProductFault) : Type 0 where
  pub place : ℕ
  pub from : at ≤ place
  pub below : place < at + more
  pub row : f.row ≡ place + 1
  pub is : fault place ≡ Some f.why
  pub before : (i : ℕ) → at ≤ i → i < place → fault i ≡ None

early : (fault : ℕ → Option ProductWhy) (at place : ℕ) → fault at ≡ None → ((i : ℕ) → at + 1 ≤ i → i < place → fault i ≡ None) → (i : ℕ) → at ≤ i → i < place → fault i ≡ None
early fault at place none before i from below = by (i == at) refl
  where
    by : (b : Bool) → nat_eq i at ≡ b → fault i ≡ None
    by true e = let s : i ≡ at = grind (arith, nat_tests) in rw s none
    by false e = let d : i ≢ at = grind (arith, nat_tests) in before i (omega arith) below

least_is : (fault : ℕ → Option ProductWhy) (at more : ℕ) (f : ProductFault) → least_fault fault at more ≡ Some f → Least fault at more f
unfolding least_fault
least_is fault at zero f h = cc h
least_is fault at (suc more) f h = by (fault at) refl h (least_is fault (at + 1) more f)
  where
    by : (o : Option ProductWhy) → fault at ≡ o → first_of (option_map (λ why. record { row = at + 1; why = why }) o) (least_fault fault (at + 1) more) ≡ Some f
        → (least_fault fault (at + 1) more ≡ Some f → Least fault (at + 1) more f) → Least fault at (suc more) f
    by (Some why) e h rest =
        let here : ProductFault = record { row = at + 1; why = why } in
        let s : here ≡ f = cc h in
        record { place = at; from = omega arith; below = omega arith; row = sym (ap (λ (g : ProductFault). g.row) s); is = e ∙ ap (λ (g : ProductFault). Some g.why) s; before = λ i from below. absurd (omega arith) }
    by None e h rest =
        let l = rest h in
        record { place = l.place; from = omega (arith, l.from); below = omega (arith, l.below); row = l.row; is = l.is; before = early fault at l.place e l.before }

least_at : (fault : ℕ → Option ProductWhy) (at more : ℕ) (f : ProductFault) → Least fault at more f → least_fault fault at more ≡ Some f
unfolding least_fault
least_at fault at zero f l = absurd (omega (arith, l.from, l.below))
least_at fault at (suc more) f l = by (l.place == at) refl (least_at fault (at + 1) more f)
  where
    by : (b : Bool) → nat_eq l.place at ≡ b → (Least fault (at + 1) more f → least_fault fault (at + 1) more ≡ Some f)
        → first_of (option_map (λ why. record { row = at + 1; why = why }) (fault at)) (least_fault fault (at + 1) more) ≡ Some f
    by true e rest =
        let s : l.place ≡ at = grind (arith, nat_tests) in
        let here : fault at ≡ Some f.why = rw s at l.is in
        let row : at + 1 ≡ f.row = omega (arith, l.row, s) in
        rw here (ap (λ (n : ℕ). Some (record { row = n; why = f.why })) row)
    by false e rest =
        let d : l.place ≢ at = grind (arith, nat_tests) in
        let none : fault at ≡ None = l.before at (omega arith) (omega (arith, l.from, d)) in
        rw none (rest (record { place = l.place; from = omega (arith, l.from, d); below = omega (arith, l.below); row = l.row; is = l.is; before = λ i from below. l.before i (omega arith) below }))

least_none : (fault : ℕ → Option ProductWhy) (at more : ℕ) → ((k : ℕ) → at ≤ k → k < at + more → fault k ≡ None) → least_fault fault at more ≡ None
unfolding least_fault
least_none fault at zero h = refl
least_none fault at (suc more) h = rw (h at (omega arith) (omega arith)) (least_none fault (at + 1) more (λ k from below. h k (omega arith) (omega arith)))

-- each place of so many has no fault, where none has the least
none_below : (fault : ℕ → Option ProductWhy) (at more : ℕ) → least_fault fault at more ≡ None → (k : ℕ) → at ≤ k → k < at + more → fault k ≡ None
unfolding least_fault
none_below fault at zero h k from below = absurd (omega arith)
none_below fault at (suc more) h k from below = by (fault at) refl h (λ rest past. none_below fault (at + 1) more rest k past (omega arith))
  where
    later : (b : Bool) → nat_eq k at ≡ b → fault at ≡ None → (at + 1 ≤ k → fault k ≡ None) → fault k ≡ None
    later true e none more = let s : k ≡ at = grind (arith, nat_tests) in rw s none
    later false e none more = let d : k ≢ at = grind (arith, nat_tests) in more (omega (arith, from, d))

    by : (o : Option ProductWhy) → fault at ≡ o → first_of (option_map (λ why. record { row = at + 1; why = why }) o) (least_fault fault (at + 1) more) ≡ None
        → (least_fault fault (at + 1) more ≡ None → at + 1 ≤ k → fault k ≡ None) → fault k ≡ None
    by (Some why) e h rest = cc h
    by None e h rest = later (k == at) refl e (rest h)

record_fault_is : (rows : List Record) (f : ProductFault) → Least (fault_at rows) 0 (length rows) f → IsRecordFault rows f
record_fault_is rows f l =
    let back : f.row - 1 ≡ l.place = omega (arith, l.row) in
    let t = first_found (λ why. fails why rows l.place) tests f.why (sym (at_is rows l.place) ∙ l.is) in
    record {
      some = omega (arith, l.row);
      inside = omega (arith, l.row, l.below);
      place = t.place;
      test = t.there;
      failed = rw back t.passes;
      first = λ earlier why below is. rw back (t.before earlier why below is);
      least = λ at below. no_fault rows at (l.before at (omega arith) (omega (arith, l.row)));
    }

record_least : (rows : List Record) (f : ProductFault) → IsRecordFault rows f → Least (fault_at rows) 0 (length rows) f
record_least rows f r = record {
  place = f.row - 1;
  from = omega arith;
  below = omega (arith, r.some, r.inside);
  row = omega (arith, r.some);
  is = at_is rows (f.row - 1) ∙ found_first (λ why. fails why rows (f.row - 1)) tests r.place f.why r.test r.failed r.first;
  before = λ i from below. passes_all rows i (r.least i (omega (arith, r.some)));
}

-- the fault of records that all pass: none but that a session is missing
abbrev missing : List Record → Option ProductFault
missing rows = cond (length (sessions_in (drop 4 rows)) == 0) (Some (record { row = length rows + 1; why = Missing })) None

pub fault_first : (rows : List Record) (f : ProductFault) → fault_of rows ≡ Some f → IsFirstFault rows f
unfolding fault_of
fault_first rows f h = by (least_fault (fault_at rows) 0 (length rows)) refl h
  where
    lacks : (b : Bool) → nat_eq (length (sessions_in (drop 4 rows))) 0 ≡ b → cond b (Some (record { row = length rows + 1; why = Missing })) None ≡ Some f
        → ((at : ℕ) → at < length rows → PassesAll rows at) → IsFirstFault rows f
    lacks false e h passed = cc h
    lacks true e h passed =
        let last : ProductFault = record { row = length rows + 1; why = Missing } in
        let s : last ≡ f = cc h in
        inr (record { row = sym (ap (λ (g : ProductFault). g.row) s); why = sym (ap (λ (g : ProductFault). g.why) s); passed = passed; none = grind (arith, nat_tests, e) })

    by : (o : Option ProductFault) → least_fault (fault_at rows) 0 (length rows) ≡ o → first_of o (missing rows) ≡ Some f → IsFirstFault rows f
    by (Some g) e h = inl (record_fault_is rows f (least_is (fault_at rows) 0 (length rows) f (e ∙ h)))
    by None e h = lacks (length (sessions_in (drop 4 rows)) == 0) refl h (λ at below. no_fault rows at (none_below (fault_at rows) 0 (length rows) e at (omega arith) (omega arith)))

pub first_fault : (rows : List Record) (f : ProductFault) → IsFirstFault rows f → fault_of rows ≡ Some f
unfolding fault_of
first_fault rows f (inl r) = rw (least_at (fault_at rows) 0 (length rows) f (record_least rows f r)) refl
first_fault rows f (inr m) =
    rw (least_none (fault_at rows) 0 (length rows) (λ k from below. passes_all rows k (m.passed k (omega arith))), m.none)
    (rw (sym m.row) (ap (λ (w : ProductWhy). Some (record { row = f.row; why = w })) (sym m.why)))

pub none_sound : (rows : List Record) → fault_of rows ≡ None → AreSound rows
unfolding fault_of
none_sound rows h = by (least_fault (fault_at rows) 0 (length rows)) refl h
  where
    has : (b : Bool) → nat_eq (length (sessions_in (drop 4 rows))) 0 ≡ b → cond {A = Option ProductFault} b (Some (record { row = length rows + 1; why = Missing })) None ≡ None → length (sessions_in (drop 4 rows)) ≢ 0
    has true e h = cc h
    has false e h = grind (arith, nat_tests, e)

    by : (o : Option ProductFault) → least_fault (fault_at rows) 0 (length rows) ≡ o → first_of o (missing rows) ≡ None → AreSound rows
    by (Some g) e h = cc h
    by None e h = record {
      passed = λ at below. no_fault rows at (none_below (fault_at rows) 0 (length rows) e at (omega arith) (omega arith));
      session = has (length (sessions_in (drop 4 rows)) == 0) refl h;
    }

pub sound_none : (rows : List Record) → AreSound rows → fault_of rows ≡ None
unfolding fault_of
sound_none rows s =
    let some : nat_eq (length (sessions_in (drop 4 rows))) 0 ≡ false = grind (arith, nat_tests, s.session) in
    rw (least_none (fault_at rows) 0 (length rows) (λ k from below. passes_all rows k (s.passed k (omega arith))), some) refl
