-- What the tests of a product file say of one record, and how its lists grow.
use Rattle.std.proofs.Common.{◌≡◌, ◌≢◌, ◌<◌, ◌≤◌, ◌+◌, ◌-◌, ◌∙◌, ◌&&◌, ◌||◌, ◌==◌, ℕ, zero, suc, ℤ, List, [], ◌∷◌, ◌++◌, Bool, true, false, not, Option, Some, None, length, drop, take, filter, refl, ap, sym, arith, cond, nat_lt, nat_le, nat_eq, option_map, length-take, length-append, subst, ⊎_elim}
use Rattle.std.specs.List.{list_any, IsDistinct}
use Rattle.std.specs.Prelude.{pos, ◌≤ℤ◌, Contains}
use Rattle.std.specs.Cmp.{int_eq_equiv, nat_eq_equiv}
use Rattle.std.proofs.lemmas.Map.Keys.{IsDistinct-push}
use Rattle.std.specs.Ordering.{int_eq}
use Rattle.std.proofs.lemmas.Int.{ints}
use Rattle.std.proofs.lemmas.Bool.Decides.{nat_tests}
use Rattle.std.proofs.lemmas.Slice.Eq.{bytes_eq-Decides}
use Rattle.std.proofs.lemmas.Bool.{cases_lt}
use Rattle.std.proofs.lemmas.List.{take_all, take_more, drop-append-le, drop_all, append-nil, map-append}
use Rattle.std.proofs.lemmas.List.Elements.{filter-append, Contains-push_cases}
use Rattle.std.specs.Prelude.{codes}
use Rattle.t7_records.specs.Records.{Record, cell, record_at}
use Rattle.t7_base.specs.declared.product.ProductWhy.{ProductWhy}
use Rattle.t7_base.specs.declared.product.ProductWhy.TheVariants as why
use Rattle.t7_base.specs.ProductFile.{ProductFault, Range, fails_columns, fails_duplicate, fails_key, fails_number, fault_at, fault_of, first_of, fixed_range, is_of, is_security, is_session, is_within, least_fault, listed_before, number_in, product_of, securities_in, security_of, security_range, session_of, session_range, sessions_in, tick_of, tick_range, ticks_in}
use Rattle.t7_base.specs.Listing.{IsListing, Listing}
use Rattle.t7_base.specs.ProductLists.{AreProductRows, ProductRows, lists_before}

-- the lists that were read, one by one
pub securities_are : (l : ProductRows) (rows : List Record) (at : ℕ) → l ≡ lists_before rows at → l.securities ≡ securities_in (listed_before rows at)
unfolding lists_before
securities_are l rows at e = ap (λ (x : ProductRows). x.securities) e

pub sessions_are : (l : ProductRows) (rows : List Record) (at : ℕ) → l ≡ lists_before rows at → l.sessions ≡ sessions_in (listed_before rows at)
unfolding lists_before
sessions_are l rows at e = ap (λ (x : ProductRows). x.sessions) e

pub key_of_security : (rows : List Record) (at : ℕ) → 4 ≤ at → is_security (record_at rows at) ≡ true
    → fails_key rows at ≡ (nat_lt 0 (length (sessions_in (listed_before rows at))) || nat_le 1000 (length (securities_in (listed_before rows at))))
unfolding fails_key
key_of_security rows at h s = let t : nat_lt at 4 ≡ false = grind (arith, nat_tests) in rw (t, s) refl

pub key_of_session : (rows : List Record) (at : ℕ) → 4 ≤ at → is_security (record_at rows at) ≡ false → is_session (record_at rows at) ≡ true
    → fails_key rows at ≡ ((length (securities_in (listed_before rows at)) == 0) || nat_le 64 (length (sessions_in (listed_before rows at))))
unfolding fails_key
key_of_session rows at h s n = let t : nat_lt at 4 ≡ false = grind (arith, nat_tests) in rw (t, s, n) refl

pub duplicate_of_security : (rows : List Record) (at : ℕ) → 4 ≤ at → is_security (record_at rows at) ≡ true
    → fails_duplicate rows at ≡ list_any (λ z. int_eq z (security_of (record_at rows at))) (securities_in (listed_before rows at))
unfolding fails_duplicate
duplicate_of_security rows at h s = let t : nat_lt at 4 ≡ false = grind (arith, nat_tests) in rw (t, s) refl

pub duplicate_of_session : (rows : List Record) (at : ℕ) → 4 ≤ at → is_security (record_at rows at) ≡ false
    → fails_duplicate rows at ≡ list_any (λ n. n == session_of (record_at rows at)) (sessions_in (listed_before rows at))
unfolding fails_duplicate
duplicate_of_session rows at h s = let t : nat_lt at 4 ≡ false = grind (arith, nat_tests) in rw (t, s) refl

-- the fault of the least row, one row at a time
pub least_next : (fault : ℕ → Option ProductWhy) (at more : ℕ) → 0 < more → fault at ≡ None → least_fault fault at more ≡ least_fault fault (at + 1) (more - 1)
unfolding least_fault
least_next fault at zero h e = absurd (omega arith)
least_next fault at (suc more) h e =
    let n : suc more - 1 ≡ more = omega arith in
    rw (e, n) refl

pub least_found : (fault : ℕ → Option ProductWhy) (at more : ℕ) (why : ProductWhy) → 0 < more → fault at ≡ Some why → least_fault fault at more ≡ Some (record { row = at + 1; why = why })
unfolding least_fault
least_found fault at zero why h e = absurd (omega arith)
least_found fault at (suc more) why h e = rw e refl

pub least_none : (fault : ℕ → Option ProductWhy) (at more : ℕ) → more ≡ 0 → least_fault fault at more ≡ None
unfolding least_fault
least_none fault at more e = rw e refl

pub none_below : (fault : ℕ → Option ProductWhy) (at more : ℕ) → least_fault fault at more ≡ None → (k : ℕ) → at ≤ k → k < at + more → fault k ≡ None
unfolding least_fault
none_below fault at zero e k a b = absurd (omega arith)
none_below fault at (suc more) e k a b = by (fault at) refl e (λ h c. none_below fault (at + 1) more h k c (omega arith))
  where
    by : (o : Option ProductWhy) → fault at ≡ o
        → first_of (option_map (λ (why : ProductWhy). let f : ProductFault = record { row = at + 1; why = why } in f) o) (least_fault fault (at + 1) more) ≡ None
        → (least_fault fault (at + 1) more ≡ None → at + 1 ≤ k → fault k ≡ None) → fault k ≡ None
    by (Some why) f h rest = cc h
    by None f h rest = split (nat_eq k at) refl
      where
        split : (t : Bool) → nat_eq k at ≡ t → fault k ≡ None
        split true t = let s : k ≡ at = grind (arith, nat_tests) in rw s f
        split false t = let d : k ≢ at = grind (arith, nat_tests) in rest h (omega arith)

-- what a record without a fault passes
pub record Passes (rows : List Record) (at : ℕ) : Type 0 where
  pub key : fails_key rows at ≡ false
  pub columns : fails_columns rows at ≡ false
  pub number : fails_number rows at ≡ false
  pub duplicate : fails_duplicate rows at ≡ false

passed : (b : Bool) (x : ProductWhy) (rest : Option ProductWhy) → cond b (Some x) rest ≡ None → (b ≡ false) × (rest ≡ None)
passed true x rest h = cc h
passed false x rest h = (refl, h)

pub passes : (rows : List Record) (at : ℕ) → fault_at rows at ≡ None → Passes rows at
unfolding fault_at
passes rows at e =
    let a = passed (fails_key rows at) why.Key _ e in
    let b = passed (fails_columns rows at) why.Columns _ a.1 in
    let c = passed (fails_number rows at) why.Number _ b.1 in
    let d = passed (fails_duplicate rows at) why.Duplicate _ c.1 in
    record { key = a.0; columns = b.0; number = c.0; duplicate = d.0 }

-- a number within its range
pub within_is : (range : Range) (word : List ℕ) → is_within range word ≡ true → range.least ≤ number_in range word
unfolding is_within number_in
within_is range word h = grind (arith, nat_tests)

number_of_fixed : (rows : List Record) (at : ℕ) → at < 4 → fails_number rows at ≡ false → is_within (fixed_range at) (cell (record_at rows at) 1) ≡ true
unfolding fails_number
number_of_fixed rows at h e = let t : nat_lt at 4 ≡ true = grind (arith, nat_tests) in by (is_within (fixed_range at) (cell (record_at rows at) 1)) refl (rw t at e)
  where
    by : (b : Bool) → is_within (fixed_range at) (cell (record_at rows at) 1) ≡ b → not (is_within (fixed_range at) (cell (record_at rows at) 1)) ≡ false → is_within (fixed_range at) (cell (record_at rows at) 1) ≡ true
    by true s h = s
    by false s h = let r = rw s at h in cc r

pub fixed_passes : (rows : List Record) (at : ℕ) → at < 4 → at < length rows → fault_of rows ≡ None → (fixed_range at).least ≤ number_in (fixed_range at) (cell (record_at rows at) 1)
unfolding fault_of
fixed_passes rows at h inside valid =
    within_is (fixed_range at) (cell (record_at rows at) 1)
    (number_of_fixed rows at h (passes rows at (none_below (fault_at rows) 0 (length rows) (first (least_fault (fault_at rows) 0 (length rows)) _ valid) at (omega arith) (omega arith))).number)
  where
    first : (a b : Option ProductFault) → first_of a b ≡ None → a ≡ None
    first None b h = refl
    first (Some x) b h = cc h

-- the records that are listed, one record further on
listed_next : (rows : List Record) (at : ℕ) → 4 ≤ at → at < length rows → listed_before rows (at + 1) ≡ listed_before rows at ++ record_at rows at ∷ []
unfolding listed_before
listed_next rows at h inside =
    let more = take_more rows at [] inside in
    let long : 4 ≤ length (take at rows) = simp length-take (omega arith) in
    rw (more, drop-append-le 4 (take at rows) (record_at rows at ∷ []) long) refl

listed_none : (rows : List Record) (at : ℕ) → at ≤ 4 → listed_before rows at ≡ []
unfolding listed_before
listed_none rows at h = let short : length (take at rows) ≤ 4 = simp length-take (omega arith) in drop_all 4 (take at rows) short

-- before the fifth record nothing is listed
pub lists_none : (rows : List Record) (at : ℕ) → at < 4 → lists_before rows at ≡ lists_before rows (at + 1)
unfolding lists_before
lists_none rows at h = rw (listed_none rows at (omega arith), listed_none rows (at + 1) (omega arith)) refl

pub no_lists : (rows : List Record) → (let l : ProductRows = record { securities = []; ticks = []; sessions = [] } in l) ≡ lists_before rows 0
unfolding lists_before securities_in ticks_in sessions_in
no_lists rows = rw (listed_none rows 0 (omega arith)) refl

not_both : (row : Record) → is_security row ≡ true → is_session row ≡ false
unfolding is_security is_session is_of
not_both row s = let word : cell row 0 ≡ codes "security" = (bytes_eq-Decides (cell row 0) (codes "security")).0 s in rw word refl

module _ (rows : List Record) (at : ℕ) (h : 4 ≤ at) (inside : at < length rows) where
  pub with_security : is_security (record_at rows at) ≡ true
      → (let l : ProductRows = record {
        securities = (lists_before rows at).securities ++ security_of (record_at rows at) ∷ [];
        ticks = (lists_before rows at).ticks ++ tick_of (record_at rows at) ∷ [];
        sessions = (lists_before rows at).sessions;
      } in l) ≡ lists_before rows (at + 1)
  unfolding lists_before securities_in ticks_in sessions_in
  with_security s =
      let row = record_at rows at in
      let before = listed_before rows at in
      rw (
        listed_next rows at h inside,
        filter-append is_security before (row ∷ []),
        filter-append is_session before (row ∷ []),
        s,
        not_both row s,
        map-append security_of (filter is_security before) (row ∷ []),
        map-append tick_of (filter is_security before) (row ∷ []),
        append-nil,
      ) refl

  pub with_session : is_security (record_at rows at) ≡ false → is_session (record_at rows at) ≡ true
      → (let l : ProductRows = record {
        securities = (lists_before rows at).securities;
        ticks = (lists_before rows at).ticks;
        sessions = (lists_before rows at).sessions ++ session_of (record_at rows at) ∷ [];
      } in l) ≡ lists_before rows (at + 1)
  unfolding lists_before securities_in ticks_in sessions_in
  with_session s n =
      let row = record_at rows at in
      let before = listed_before rows at in
      rw (
        listed_next rows at h inside,
        filter-append is_security before (row ∷ []),
        filter-append is_session before (row ∷ []),
        s,
        n,
        map-append session_of (filter is_session before) (row ∷ []),
        append-nil,
      ) refl

-- what the tests that a security and a session pass say of their numbers and of the lists before them
pub record SecurityFits (rows : List Record) (at : ℕ) : Type 0 where
  pub few : length (lists_before rows at).securities < 1000
  pub security : pos 1 ≤ℤ security_of (record_at rows at)
  pub tick : pos 1 ≤ℤ tick_of (record_at rows at)
  pub absent : list_any (λ z. int_eq z (security_of (record_at rows at))) (lists_before rows at).securities ≡ false

pub record SessionFits (rows : List Record) (at : ℕ) : Type 0 where
  pub is : is_session (record_at rows at) ≡ true
  pub few : length (lists_before rows at).sessions < 64
  pub session : 1 ≤ session_of (record_at rows at)
  pub absent : list_any (λ n. n == session_of (record_at rows at)) (lists_before rows at).sessions ≡ false
  pub begun : 0 < length (lists_before rows at).securities

at_least_one : (n : ℕ) → 1 ≤ n → pos 1 ≤ℤ pos n
at_least_one n h = omega (arith, ints)

pub security_fits : (rows : List Record) (at : ℕ) → 4 ≤ at → is_security (record_at rows at) ≡ true → Passes rows at → SecurityFits rows at
unfolding lists_before fails_number security_of tick_of security_range tick_range
security_fits rows at h s p =
    let t : nat_lt at 4 ≡ false = grind (arith, nat_tests) in
    let key = key_of_security rows at h s in
    let number = rw (t, s) at p.number in
    record {
      few = grind (arith, nat_tests, key, p.key);
      security = at_least_one _ (within_is security_range _ (both number).0);
      tick = at_least_one _ (within_is tick_range _ (both number).1);
      absent = sym (duplicate_of_security rows at h s) ∙ p.duplicate;
    }
  where
    both : {a b : Bool} → not (a && b) ≡ false → (a ≡ true) × (b ≡ true)
    both {a = true} {b = true} e = (refl, refl)
    both {a = true} {b = false} e = (refl, sym e)
    both {a = false} {b = b} e = cc e

pub session_fits : (rows : List Record) (at : ℕ) → 4 ≤ at → is_security (record_at rows at) ≡ false → Passes rows at → SessionFits rows at
unfolding lists_before fails_number session_of session_range fails_key
session_fits rows at h s p =
    let t : nat_lt at 4 ≡ false = grind (arith, nat_tests) in
    let is : is_session (record_at rows at) ≡ true = word (is_session (record_at rows at)) refl (rw (t, s) at p.key) in
    let key = key_of_session rows at h s is in
    let number = rw (t, s) at p.number in
    record {
      is = is;
      few = grind (arith, nat_tests, key, p.key);
      session = within_is session_range _ (passes_it number);
      absent = sym (duplicate_of_session rows at h s) ∙ p.duplicate;
      begun = grind (arith, nat_tests, key, p.key);
    }
  where
    passes_it : {a : Bool} → not a ≡ false → a ≡ true
    passes_it {a = true} e = refl
    passes_it {a = false} e = sym e

    word : (b : Bool) → is_session (record_at rows at) ≡ b → cond (is_session (record_at rows at)) ((length (securities_in (listed_before rows at)) == 0) || nat_le 64 (length (sessions_in (listed_before rows at)))) true ≡ false → is_session (record_at rows at) ≡ true
    word true e h = e
    word false e h = let wrong = rw e at h in cc wrong

-- the limits of the lists stand at the beginning, and with each security and session more
pub no_lists_are : AreProductRows (record { securities = []; ticks = []; sessions = [] })
unfolding IsDistinct
no_lists_are = record {
  securities = omega arith;
  security = λ z h. absurd (none z h);
  each_once = tt;
  ticks = refl;
  tick = λ z h. absurd (none z h);
  sessions = omega arith;
  session = λ n h. absurd (none_of n h);
  each_session_once = tt;
  begun = λ h. h;
}
  where
    none : (z : ℤ) → Contains [] z → ⊥
    none z h = omega (arith, h.1)

    none_of : (n : ℕ) → Contains [] n → ⊥
    none_of n h = omega (arith, h.1)

swapped_int : (zs : List ℤ) (y : ℤ) → list_any (λ z. int_eq z y) zs ≡ list_any (int_eq y) zs
swapped_int [] y = refl
swapped_int (z ∷ zs) y = rw (int_eq_equiv.symm z y, swapped_int zs y) refl

pub lists_with_security : (l : ProductRows) (security tick : ℤ) → AreProductRows l → length l.securities < 1000
    → (pos 1 ≤ℤ security) × (security ≤ℤ pos 1_000_000_000_000_000_000) → (pos 1 ≤ℤ tick) × (tick ≤ℤ pos 100_000_000_000_000_000)
    → list_any (λ z. int_eq z security) l.securities ≡ false
    → AreProductRows (record { securities = l.securities ++ security ∷ []; ticks = l.ticks ++ tick ∷ []; sessions = l.sessions })
lists_with_security l security tick a few s t absent = record {
  securities = simp length-append (omega arith);
  security = λ z h. ⊎_elim (λ there. a.security z there) (λ e. let P : ℤ → Type 0 = λ z. (pos 1 ≤ℤ z) × (z ≤ℤ pos 1_000_000_000_000_000_000) in subst P e s) (Contains-push_cases l.securities security z h);
  each_once = IsDistinct-push int_eq_equiv l.securities security a.each_once (sym (swapped_int l.securities security) ∙ absent);
  ticks = simp length-append (ap (λ n. n + 1) a.ticks);
  tick = λ z h. ⊎_elim (λ there. a.tick z there) (λ e. let P : ℤ → Type 0 = λ z. (pos 1 ≤ℤ z) × (z ≤ℤ pos 100_000_000_000_000_000) in subst P e t) (Contains-push_cases l.ticks tick z h);
  sessions = a.sessions;
  session = a.session;
  each_session_once = a.each_session_once;
  begun = λ h. simp length-append (omega arith);
}

swapped_nat : (ns : List ℕ) (m : ℕ) → list_any (λ n. n == m) ns ≡ list_any (nat_eq m) ns
swapped_nat [] m = refl
swapped_nat (n ∷ ns) m = rw (nat_eq_equiv.symm n m, swapped_nat ns m) refl

pub lists_with_session : (l : ProductRows) (session : ℕ) → AreProductRows l → length l.sessions < 64 → (1 ≤ session) × (session ≤ 4_000_000_000)
    → list_any (λ n. n == session) l.sessions ≡ false → 0 < length l.securities
    → AreProductRows (record { securities = l.securities; ticks = l.ticks; sessions = l.sessions ++ session ∷ [] })
lists_with_session l session a few s absent begun = record {
  securities = a.securities;
  security = a.security;
  each_once = a.each_once;
  ticks = a.ticks;
  tick = a.tick;
  sessions = simp length-append (omega arith);
  session = λ n h. ⊎_elim (λ there. a.session n there) (λ e. let P : ℕ → Type 0 = λ n. (1 ≤ n) × (n ≤ 4_000_000_000) in subst P e s) (Contains-push_cases l.sessions session n h);
  each_session_once = IsDistinct-push nat_eq_equiv l.sessions session a.each_session_once (sym (swapped_nat l.sessions session) ∙ absent);
  begun = λ h. begun;
}

-- the same, for lists that are known by equations
pub adds_security : (l : ProductRows) (securities ticks : List ℤ) (security tick : ℤ) → AreProductRows l → length l.securities < 1000
    → (pos 1 ≤ℤ security) × (security ≤ℤ pos 1_000_000_000_000_000_000) → (pos 1 ≤ℤ tick) × (tick ≤ℤ pos 100_000_000_000_000_000)
    → list_any (λ z. int_eq z security) l.securities ≡ false
    → securities ≡ l.securities ++ security ∷ [] → ticks ≡ l.ticks ++ tick ∷ []
    → AreProductRows (record { securities = securities; ticks = ticks; sessions = l.sessions })
adds_security l securities ticks security tick a few s t absent e f = rw (e, f) (lists_with_security l security tick a few s t absent)

-- the fault of a whole file
pub found : (rows : List Record) (at : ℕ) (why : ProductWhy) → at < length rows
    → least_fault (fault_at rows) 0 (length rows) ≡ least_fault (fault_at rows) at (length rows - at) → fault_at rows at ≡ Some why
    → fault_of rows ≡ Some (record { row = at + 1; why = why })
unfolding fault_of
found rows at why h e f = rw (e, least_found (fault_at rows) at (length rows - at) why (omega arith) f) refl

whole : (rows : List Record) → lists_before rows (length rows) ≡ (let l : ProductRows = record { securities = securities_in (drop 4 rows); ticks = ticks_in (drop 4 rows); sessions = sessions_in (drop 4 rows) } in l)
unfolding lists_before listed_before
whole rows = rw (take_all (length rows) rows (omega arith)) refl

module _ (rows : List Record) (l : ProductRows) (read : l ≡ lists_before rows (length rows))
    (faults : least_fault (fault_at rows) 0 (length rows) ≡ least_fault (fault_at rows) (length rows) (length rows - length rows)) where
  none : least_fault (fault_at rows) 0 (length rows) ≡ None
  none = faults ∙ least_none (fault_at rows) (length rows) (length rows - length rows) (omega arith)

  sessions_of : l.sessions ≡ sessions_in (drop 4 rows)
  sessions_of = ap (λ (x : ProductRows). x.sessions) (read ∙ whole rows)

  pub missing : length l.sessions ≡ 0 → fault_of rows ≡ Some (record { row = length rows + 1; why = why.Missing })
  unfolding fault_of
  missing h =
      let t : (length (sessions_in (drop 4 rows)) == 0) ≡ true = rw (← sessions_of) (grind (arith, nat_tests)) in
      rw (none, t) refl

  pub valid : 0 < length l.sessions → fault_of rows ≡ None
  unfolding fault_of
  valid h =
      let t : (length (sessions_in (drop 4 rows)) == 0) ≡ false = rw (← sessions_of) (grind (arith, nat_tests)) in
      rw (none, t) refl

pub long : (rows : List Record) (l : ProductRows) → l ≡ lists_before rows (length rows) → 0 < length l.sessions → 4 < length rows
unfolding lists_before sessions_in
long rows l read h = ⊎_elim (λ long. long) (λ short. absurd (by (length rows) short read)) (cases_lt 4 (length rows))
  where
    by : (at : ℕ) → at ≤ 4 → l ≡ lists_before rows at → ⊥
    by at short e =
        let n = listed_none rows at short in
        let s = sessions_are l rows at e in
        let z : l.sessions ≡ [] = s ∙ rw n refl in
        let k : length l.sessions ≡ 0 = rw z refl in
        omega arith

-- the product of a whole file
pub is_listing : (segment window packets datagram : ℕ) (l : ProductRows)
    → (1 ≤ segment) × (segment ≤ 2_147_483_647) → (1 ≤ window) × (window ≤ 65_536) → (1 ≤ packets) × (packets ≤ 4_096) → (256 ≤ datagram) × (datagram ≤ 1_472)
    → AreProductRows l → 0 < length l.sessions
    → IsListing (record { segment = segment; window = window; packets = packets; datagram = datagram; securities = l.securities; ticks = l.ticks; sessions = l.sessions })
is_listing segment window packets datagram l s w p d a some = record {
  segment = s;
  window = w;
  packets = p;
  datagram = d;
  securities = (a.begun some, a.securities);
  security = a.security;
  each_once = a.each_once;
  ticks = a.ticks;
  tick = a.tick;
  sessions = (some, a.sessions);
  session = a.session;
  each_session_once = a.each_session_once;
}

pub product_is : (rows : List Record) (l : ProductRows) → l ≡ lists_before rows (length rows)
    → (let p : Listing = record {
      segment = number_in (fixed_range 0) (cell (record_at rows 0) 1);
      window = number_in (fixed_range 1) (cell (record_at rows 1) 1);
      packets = number_in (fixed_range 2) (cell (record_at rows 2) 1);
      datagram = number_in (fixed_range 3) (cell (record_at rows 3) 1);
      securities = l.securities;
      ticks = l.ticks;
      sessions = l.sessions;
    } in p) ≡ product_of rows
unfolding product_of
product_is rows l read = rw (read ∙ whole rows) refl
