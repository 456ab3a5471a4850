-- Names that were taken out and still lie among the others.
use Rattle.std.proofs.Common.{◌≡◌, ℕ, zero, suc, ◌+◌, ◌-◌, ◌<◌, ◌≤◌, Bool, cond, List, [], ◌∷◌, ◌++◌, length, get_or, set, take, Some, None, Option, refl, sym, ap, subst, ◌∙◌, inl, inr, arith}
use Rattle.std.specs.Option.{is_some}
use Rattle.std.specs.List.{filter, insert, remove}
use Rattle.std.specs.declared.cmp.Ordering.{Ordering}
use Rattle.std.specs.declared.cmp.Ordering.TheVariants.{Less, Equal, Greater}
use Rattle.std.specs.Cmp.{IsTotalOrder}
use Rattle.std.proofs.lemmas.Cmp.{alike_right, tied_itself}
use Rattle.std.proofs.lemmas.List.{append_assoc, length-append, take_at}
use Rattle.t7_levels.specs.Chain.{Each}
use Rattle.t7_levels.specs.Named.{Rises, Found, Gap, IsAt, IsGapAt, last_entry}
use Rattle.t7_levels.specs.Holes.{with_slot, standing, IsIndex, IsHole}
use Rattle.t7_levels.proofs.IndexLemmas.{append-cut}
use Rattle.t7_levels.proofs.EachLemmas.{Each-front, Each-back, Each-both, Each-weaker}
use Rattle.t7_levels.proofs.NamedLemmas.{flipped, rises_round, insert_gap, rises_insert, found_not_new, found_once, gap_once, cut_at, rises_out}

module _ {K : Type 0} where
  with_slot-append : (k : K) (o : Option ℕ) (es fs : List (K × ℕ)) → with_slot k o (es ++ fs) ≡ with_slot k o es ++ fs
  with_slot-append k None es fs = refl
  with_slot-append k (Some s) es fs = refl

  pub standing-append : (es fs : List (K × Option ℕ)) → standing (es ++ fs) ≡ standing es ++ standing fs
  standing-append [] fs = refl
  standing-append (e ∷ es) fs = ap (with_slot e.0 e.1) (standing-append es fs) ∙ with_slot-append e.0 e.1 (standing es) (standing fs)

  -- what stands round an entry
  pub standing_round : (es qs bs : List (K × Option ℕ)) (e : K × Option ℕ) → es ≡ bs ++ e ∷ qs → standing es ≡ standing bs ++ with_slot e.0 e.1 (standing qs)
  standing_round es qs bs e parts = ap standing parts ∙ standing-append bs (e ∷ qs)

  pub standing_few : (es : List (K × Option ℕ)) → length (standing es) ≤ length es
  standing_few [] = omega arith
  standing_few (e ∷ es) = few_with e.0 e.1 (standing es) (length es) (standing_few es)
    where
      few_with : (k : K) (o : Option ℕ) (fs : List (K × ℕ)) (n : ℕ) → length fs ≤ n → length (with_slot k o fs) ≤ suc n
      few_with k None fs n h = omega (arith, h)
      few_with k (Some s) fs n h = omega (arith, h)

  each_with : (P : K → Type 0) (k : K) (o : Option ℕ) (es : List (K × ℕ)) → P k → Each (λ (e : K × ℕ). P e.0) es → Each (λ (e : K × ℕ). P e.0) (with_slot k o es)
  each_with P k None es h each = each
  each_with P k (Some s) es h each = (h, each)

  -- what holds of every name holds of those that stand
  pub standing_each : (P : K → Type 0) (es : List (K × Option ℕ)) → Each (λ (e : K × Option ℕ). P e.0) es → Each (λ (e : K × ℕ). P e.0) (standing es)
  standing_each P [] each = tt
  standing_each P (e ∷ es) each = each_with P e.0 e.1 (standing es) each.0 (standing_each P es each.1)

  rises_with : (cmp : K → K → Ordering) (k : K) (o : Option ℕ) (es : List (K × ℕ)) → Each (λ (f : K × ℕ). cmp k f.0 ≡ Less) es → Rises cmp es → Rises cmp (with_slot k o es)
  rises_with cmp k None es each rises = rises
  rises_with cmp k (Some s) es each rises = (each, rises)

  pub standing_rises : (cmp : K → K → Ordering) (es : List (K × Option ℕ)) → Rises cmp es → Rises cmp (standing es)
  standing_rises cmp [] rises = tt
  standing_rises cmp (e ∷ es) rises = rises_with cmp e.0 e.1 (standing es) (standing_each (λ k. cmp e.0 k ≡ Less) es rises.0) (standing_rises cmp es rises.1)

  -- the last entry, and what stands before it
  last_more : (xs : List (K × ℕ)) (x : K × ℕ) → last_entry (xs ++ x ∷ []) ≡ Some x
  last_more [] x = refl
  last_more (y ∷ []) x = refl
  last_more (y ∷ z ∷ zs) x = last_more (z ∷ zs) x

  pub last_some : (es front : List (K × Option ℕ)) (k : K) (s : ℕ) → es ≡ front ++ (k, Some s) ∷ [] → last_entry (standing es) ≡ Some (k, s)
  last_some es front k s parts = ap last_entry (standing_round es [] front (k, Some s) parts) ∙ last_more (standing front) (k, s)

  append_none : (xs : List (K × ℕ)) → xs ++ [] ≡ xs
  append_none [] = refl
  append_none (x ∷ xs) = ap (λ us. x ∷ us) (append_none xs)

  pub last_hole : (es front : List (K × Option ℕ)) (k : K) → es ≡ front ++ (k, None) ∷ [] → standing front ≡ standing es
  last_hole es front k parts = sym (standing_round es [] front (k, None) parts ∙ append_none (standing front))

  -- the entries with slots alone
  abbrev pub has_slot : K × Option ℕ → Bool
  has_slot e = is_some e.1

  closed_with : (k : K) (o : Option ℕ) (es : List (K × Option ℕ)) (fs : List (K × ℕ)) → standing es ≡ fs → standing (cond (is_some o) ((k, o) ∷ es) es) ≡ with_slot k o fs
  closed_with k None es fs same = same
  closed_with k (Some s) es fs same = ap (λ us. (k, s) ∷ us) same

  pub closed_stand : (es : List (K × Option ℕ)) → standing (filter has_slot es) ≡ standing es
  closed_stand [] = refl
  closed_stand (e ∷ es) = closed_with e.0 e.1 (filter has_slot es) (standing es) (closed_stand es)

  whole_with : (k : K) (o : Option ℕ) (es : List (K × Option ℕ)) → length es ≡ length (standing es) → length (cond (is_some o) ((k, o) ∷ es) es) ≡ length (standing (cond (is_some o) ((k, o) ∷ es) es))
  whole_with k None es same = same
  whole_with k (Some s) es same = ap suc same

  pub closed_whole : (es : List (K × Option ℕ)) → length (filter has_slot es) ≡ length (standing (filter has_slot es))
  closed_whole [] = refl
  closed_whole (e ∷ es) = whole_with e.0 e.1 (filter has_slot es) (closed_whole es)

  each_closed_with : (P : K × Option ℕ → Type 0) (k : K) (o : Option ℕ) (es : List (K × Option ℕ)) → P (k, o) → Each P es → Each P (cond (is_some o) ((k, o) ∷ es) es)
  each_closed_with P k None es h each = each
  each_closed_with P k (Some s) es h each = (h, each)

  each_closed : (P : K × Option ℕ → Type 0) (es : List (K × Option ℕ)) → Each P es → Each P (filter has_slot es)
  each_closed P [] each = tt
  each_closed P (e ∷ es) each = each_closed_with P e.0 e.1 (filter has_slot es) each.0 (each_closed P es each.1)

  rises_closed_with : (cmp : K → K → Ordering) (k : K) (o : Option ℕ) (es : List (K × Option ℕ)) → Each (λ (f : K × Option ℕ). cmp k f.0 ≡ Less) es → Rises cmp es → Rises cmp (cond (is_some o) ((k, o) ∷ es) es)
  rises_closed_with cmp k None es each rises = rises
  rises_closed_with cmp k (Some s) es each rises = (each, rises)

  pub closed_rises : (cmp : K → K → Ordering) (es : List (K × Option ℕ)) → Rises cmp es → Rises cmp (filter has_slot es)
  closed_rises cmp [] rises = tt
  closed_rises cmp (e ∷ es) rises = rises_closed_with cmp e.0 e.1 (filter has_slot es) (each_closed (λ f. cmp e.0 f.0 ≡ Less) es rises.0) (closed_rises cmp es rises.1)

-- a write at the place between two parts
pub set_round : {X : Type 0} (xs bs qs : List X) (x y : X) (i : ℕ) → xs ≡ bs ++ x ∷ qs → length bs ≡ i → set xs i y ≡ bs ++ y ∷ qs
set_round xs bs qs x y i parts place = ap (λ us. set us i y) parts ∙ ap (λ k. set (bs ++ x ∷ qs) k y) (sym place) ∙ set_past bs qs x y
  where
    set_past : {X : Type 0} (bs qs : List X) (x y : X) → set (bs ++ x ∷ qs) (length bs) y ≡ bs ++ y ∷ qs
    set_past [] qs x y = refl
    set_past (b ∷ bs) qs x y = ap (λ us. b ∷ us) (set_past bs qs x y)

-- the item at the place between two parts
pub read_round : {X : Type 0} (xs bs qs : List X) (x d : X) (i : ℕ) → xs ≡ bs ++ x ∷ qs → length bs ≡ i → get_or xs i d ≡ x
read_round xs bs qs x d i parts place = ap (λ us. get_or us i d) parts ∙ ap (λ k. get_or (bs ++ x ∷ qs) k d) (sym place) ∙ read_past bs qs x d
  where
    read_past : {X : Type 0} (bs qs : List X) (x d : X) → get_or (bs ++ x ∷ qs) (length bs) d ≡ x
    read_past [] qs x d = refl
    read_past (b ∷ bs) qs x d = read_past bs qs x d

-- entries that slide by one place
pub insert_slide : {X : Type 0} (xs : List X) (i : ℕ) (d : X) → i < length xs → insert xs (suc i) (get_or xs i d) ≡ insert xs i (get_or xs i d)
insert_slide [] i d within = absurd (omega arith)
insert_slide (x ∷ xs) zero d within = refl
insert_slide (x ∷ xs) (suc i) d within = ap (λ us. x ∷ us) (insert_slide xs i d (omega arith))

pub set_insert : {X : Type 0} (xs : List X) (i : ℕ) (x y : X) → i ≤ length xs → set (insert xs i x) i y ≡ insert xs i y
set_insert xs zero x y within = refl
set_insert [] (suc i) x y within = absurd (omega arith)
set_insert (z ∷ zs) (suc i) x y within = ap (λ us. z ∷ us) (set_insert zs i x y (omega arith))

pub insert_back : {X : Type 0} (xs : List X) (i : ℕ) (d : X) → i < length xs → insert (remove xs i) i (get_or xs i d) ≡ xs
insert_back [] i d within = absurd (omega arith)
insert_back (x ∷ xs) zero d within = refl
insert_back (x ∷ xs) (suc i) d within = ap (λ us. x ∷ us) (insert_back xs i d (omega arith))

pub read_before : {X : Type 0} (xs : List X) (i : ℕ) (x d : X) → i < length xs → get_or (insert xs (suc i) x) i d ≡ get_or xs i d
read_before [] i x d within = absurd (omega arith)
read_before (y ∷ ys) zero x d within = refl
read_before (y ∷ ys) (suc i) x d within = read_before ys i x d (omega arith)

pub read_insert : {X : Type 0} (xs : List X) (i : ℕ) (x d : X) → i ≤ length xs → get_or (insert xs i x) i d ≡ x
read_insert xs zero x d within = refl
read_insert [] (suc i) x d within = absurd (omega arith)
read_insert (y ∷ ys) (suc i) x d within = read_insert ys i x d (omega arith)

pub length_remove : {X : Type 0} (xs : List X) (i : ℕ) → i < length xs → suc (length (remove xs i)) ≡ length xs
length_remove [] i within = absurd (omega arith)
length_remove (x ∷ xs) zero within = refl
length_remove (x ∷ xs) (suc i) within = ap suc (length_remove xs i (omega arith))

-- an item has come to one place after another, and goes on to the one before
slide : {X : Type 0} (rest xs : List X) (q : ℕ) (x : X) → q < length rest → ((d : X) → xs ≡ insert rest (suc q) (get_or xs (suc q) d)) → x ≡ get_or xs q x → (d : X) → set xs (suc q) x ≡ insert rest q (get_or (set xs (suc q) x) q d)
slide {X} rest xs q x within moved read d =
    let is = moved x in
    let y = get_or rest q x in
    let same : x ≡ y = read ∙ ap (λ (us : List X). get_or us q x) is ∙ read_before rest q (get_or xs (suc q) x) x within in
    let left : set xs (suc q) x ≡ insert rest q y = ap (λ (us : List X). set us (suc q) x) is ∙ set_insert rest (suc q) (get_or xs (suc q) x) x (omega (arith, within)) ∙ ap (λ (z : X). insert rest (suc q) z) same ∙ insert_slide rest q x within in
    left ∙ ap (λ (z : X). insert rest q z) (sym (ap (λ (us : List X). get_or us q d) left ∙ read_insert rest q y d (omega (arith, within))))

pub slide_on : {X : Type 0} (rest xs : List X) (p q : ℕ) (x : X) → p ≡ suc q → q < length rest → ((d : X) → xs ≡ insert rest p (get_or xs p d)) → x ≡ get_or xs q x → (d : X) → set xs p x ≡ insert rest q (get_or (set xs p x) q d)
slide_on {X} rest xs p q x next within moved read d =
    subst (λ (i : ℕ). ((d : X) → xs ≡ insert rest i (get_or xs i d)) → set xs i x ≡ insert rest q (get_or (set xs i x) q d)) (sym next) (λ m. slide rest xs q x within m read d) moved

pub slide_end : {X : Type 0} (rest xs : List X) (p q : ℕ) (x : X) → p ≡ q → q ≤ length rest → ((d : X) → xs ≡ insert rest p (get_or xs p d)) → set xs q x ≡ insert rest q x
slide_end {X} rest xs p q x same within moved =
    ap (λ (us : List X). set us q x) (moved x ∙ ap (λ (i : ℕ). insert rest i (get_or xs p x)) same) ∙ set_insert rest q (get_or xs p x) x within

-- a list without the item at the end of its front
pub remove_round : {X : Type 0} (xs bs qs : List X) (x : X) (i : ℕ) → xs ≡ bs ++ x ∷ qs → length bs ≡ i → remove xs i ≡ bs ++ qs
remove_round xs bs qs x i parts place = ap (λ us. remove us i) parts ∙ ap (λ k. remove (bs ++ x ∷ qs) k) (sym place) ∙ remove_past bs qs x
  where
    remove_past : {X : Type 0} (bs qs : List X) (x : X) → remove (bs ++ x ∷ qs) (length bs) ≡ bs ++ qs
    remove_past [] qs x = refl
    remove_past (b ∷ bs) qs x = ap (λ us. b ∷ us) (remove_past bs qs x)

module _ {K : Type 0} (cmp : K → K → Ordering) (total : IsTotalOrder cmp) where
  -- an entry of this name with a slot is where the name stands
  abbrev pub stands : (es : List (K × Option ℕ)) (name : K) (slot : ℕ) → Found cmp es name (Some slot) → Found cmp (standing es) name slot
  stands es name slot f = record { before = standing f.before; kept = f.kept; after = standing f.after; tie = f.tie; parts = standing_round es f.after f.before (f.kept, Some slot) f.parts }

  -- a hole of this name is where the name would go
  abbrev pub hole_gap : (es : List (K × Option ℕ)) (name : K) → Rises cmp es → (f : Found cmp es name None) → Gap cmp (standing es) name
  hole_gap es name rises f =
      let round = rises_round cmp total f.before f.after (f.kept, None) (subst (Rises cmp) f.parts rises) in
      record {
        before = standing f.before;
        after = standing f.after;
        smaller = standing_each (λ k. cmp k name ≡ Less) f.before (Each-weaker (λ (e : K × Option ℕ). cmp e.0 f.kept ≡ Less) (λ (e : K × Option ℕ). cmp e.0 name ≡ Less) (λ e less. sym (alike_right total f.kept name e.0 f.tie) ∙ less) f.before round.0);
        greater = standing_each (λ k. cmp k name ≡ Greater) f.after (Each-weaker (λ (e : K × Option ℕ). cmp f.kept e.0 ≡ Less) (λ (e : K × Option ℕ). cmp e.0 name ≡ Greater) (λ e less. sym (alike_right total f.kept name e.0 f.tie) ∙ flipped cmp total f.kept e.0 less) f.after round.1);
        parts = standing_round es f.after f.before (f.kept, None) f.parts;
      }

  -- a gap among all the entries is one among those that stand
  abbrev pub gap_stands : (es : List (K × Option ℕ)) (name : K) (g : Gap cmp es name) → Gap cmp (standing es) name
  gap_stands es name g = record {
    before = standing g.before;
    after = standing g.after;
    smaller = standing_each (λ k. cmp k name ≡ Less) g.before g.smaller;
    greater = standing_each (λ k. cmp k name ≡ Greater) g.after g.greater;
    parts = ap standing g.parts ∙ standing-append g.before g.after;
  }

  -- another slot at a name changes no name
  each_renamed : (P : K → Type 0) (bs qs : List (K × Option ℕ)) (k l : K) (o p : Option ℕ) → P l → Each (λ (e : K × Option ℕ). P e.0) (bs ++ (k, o) ∷ qs) → Each (λ (e : K × Option ℕ). P e.0) (bs ++ (l, p) ∷ qs)
  each_renamed P [] qs k l o p h each = (h, each.1)
  each_renamed P (b ∷ bs) qs k l o p h each = (each.0, each_renamed P bs qs k l o p h each.1)

  pub rises_renamed : (bs qs : List (K × Option ℕ)) (k l : K) (o p : Option ℕ) → cmp k l ≡ Equal → Rises cmp (bs ++ (k, o) ∷ qs) → Rises cmp (bs ++ (l, p) ∷ qs)
  rises_renamed [] qs k l o p tie rises = (Each-weaker (λ (e : K × Option ℕ). cmp k e.0 ≡ Less) (λ (e : K × Option ℕ). cmp l e.0 ≡ Less) (λ e less. sym (total.congr k l e.0 tie) ∙ less) qs rises.0, rises.1)
  rises_renamed (b ∷ bs) qs k l o p tie rises = (
    each_renamed (λ x. cmp b.0 x ≡ Less) bs qs k l o p (sym (alike_right total k l b.0 tie) ∙ (Each-back (λ (e : K × Option ℕ). cmp b.0 e.0 ≡ Less) bs ((k, o) ∷ qs) rises.0).0) rises.0,
    rises_renamed bs qs k l o p tie rises.1,
  )

  -- what the entry at a search's place says
  pub slot_found : (es : List (K × Option ℕ)) (name : K) (at slot : ℕ) (d : K × Option ℕ) → IsAt cmp es name at → (get_or es at d).1 ≡ Some slot → (f : Found cmp es name (Some slot)) × (length f.before ≡ at)
  slot_found es name at slot d h is =
      let f = h.found.1 in
      let read = read_round es f.before f.after (f.kept, h.found.0) d at f.parts h.found.2 in
      let same : h.found.0 ≡ Some slot = sym (ap (λ (e : K × Option ℕ). e.1) read) ∙ is in
      subst (λ (o : Option ℕ). (f : Found cmp es name o) × (length f.before ≡ at)) same (f, h.found.2)

  pub hole_found : (es : List (K × Option ℕ)) (name : K) (at : ℕ) (d : K × Option ℕ) → IsAt cmp es name at → (get_or es at d).1 ≡ None → (f : Found cmp es name None) × (length f.before ≡ at)
  hole_found es name at d h is =
      let f = h.found.1 in
      let read = read_round es f.before f.after (f.kept, h.found.0) d at f.parts h.found.2 in
      let same : h.found.0 ≡ None = sym (ap (λ (e : K × Option ℕ). e.1) read) ∙ is in
      subst (λ (o : Option ℕ). (f : Found cmp es name o) × (length f.before ≡ at)) same (f, h.found.2)

  -- the gap at a hole, and what stands before it
  pub hole_at : (es : List (K × Option ℕ)) (name : K) (at : ℕ) → Rises cmp es → (f : Found cmp es name None) → length f.before ≡ at → (g : Gap cmp (standing es) name) × (g.before ≡ standing (take at es))
  hole_at es name at rises f place =
      (hole_gap es name rises f, ap standing (sym (ap (take at) f.parts ∙ take_at f.before ((f.kept, None) ∷ f.after) at place)))

  -- the gap at a search's place, and what stands before it
  pub gap_at : (es : List (K × Option ℕ)) (name : K) (at : ℕ) → IsGapAt cmp es name at → (g : Gap cmp (standing es) name) × (g.before ≡ standing (take at es))
  gap_at es name at h =
      let k = h.gap.0 in
      (gap_stands es name k, ap standing (sym (ap (take at) k.parts ∙ take_at k.before k.after at h.gap.1)))

  -- a name that doesn't stand and yet is found is a hole's
  pub hole_here : (es : List (K × Option ℕ)) (name : K) (at : ℕ) → IsAt cmp es name at → Each (λ (e : K × ℕ). ¬ (cmp e.0 name ≡ Equal)) (standing es) → (f : Found cmp es name None) × (length f.before ≡ at)
  hole_here es name at h new = hole_of h.found.0 h.found.1 h.found.2
    where
      hole_of : (o : Option ℕ) (f : Found cmp es name o) → length f.before ≡ at → (f : Found cmp es name None) × (length f.before ≡ at)
      hole_of None f place = (f, place)
      hole_of (Some s) f place = absurd (found_not_new cmp total (standing es) name s (stands es name s f) new)

  -- a hole is filled again
  pub filled_is : (es : List (K × Option ℕ)) (name : K) (at slot : ℕ) (f : Found cmp es name None) → length f.before ≡ at → set es at (name, Some slot) ≡ f.before ++ (name, Some slot) ∷ f.after
  filled_is es name at slot f place = set_round es f.before f.after (f.kept, None) (name, Some slot) at f.parts place

  pub filled_holes : (es : List (K × Option ℕ)) (name : K) (holes capacity : ℕ) → IsIndex cmp es holes capacity → Found cmp es name None → 1 ≤ holes
  filled_holes es name holes capacity index f =
      omega (arith, index.counted, ap length f.parts, length-append f.before ((f.kept, None) ∷ f.after), ap length (standing_round es f.after f.before (f.kept, None) f.parts), length-append (standing f.before) (standing f.after), standing_few f.before, standing_few f.after)

  pub filled : (es : List (K × Option ℕ)) (name : K) (at slot holes capacity : ℕ) → IsIndex cmp es holes capacity → (f : Found cmp es name None) → length f.before ≡ at → IsIndex cmp (set es at (name, Some slot)) (holes - 1) capacity
  filled es name at slot holes capacity index f place =
      let is = filled_is es name at slot f place in
      record {
        rises = subst (Rises cmp) (sym is) (rises_renamed f.before f.after f.kept name None (Some slot) f.tie (subst (Rises cmp) f.parts index.rises));
        counted = omega (arith, filled_holes es name holes capacity index f, index.counted, ap length f.parts, length-append f.before ((f.kept, None) ∷ f.after), ap length (standing_round es f.after f.before (f.kept, None) f.parts), length-append (standing f.before) (standing f.after), ap length is, length-append f.before ((name, Some slot) ∷ f.after), ap length (standing_round (set es at (name, Some slot)) f.after f.before (name, Some slot) is), length-append (standing f.before) ((name, slot) ∷ standing f.after));
        few = omega (arith, index.few);
        room = index.room;
      }

  pub filled_stands : (es : List (K × Option ℕ)) (name : K) (at slot : ℕ) → Rises cmp es → (f : Found cmp es name None) → length f.before ≡ at → (g : Gap cmp (standing es) name) → standing (set es at (name, Some slot)) ≡ g.before ++ (name, slot) ∷ g.after
  filled_stands es name at slot rises f place g =
      let k = hole_gap es name rises f in
      let once = gap_once cmp total k.before k.after g.before g.after name k.smaller k.greater g.smaller g.greater (sym k.parts ∙ g.parts) in
      standing_round (set es at (name, Some slot)) f.after f.before (name, Some slot) (filled_is es name at slot f place)
      ∙ ap (λ (us : List (K × ℕ)). us ++ (name, slot) ∷ standing f.after) once.0
      ∙ ap (λ (us : List (K × ℕ)). g.before ++ (name, slot) ∷ us) once.1

  -- a name comes in
  pub inserted : (es : List (K × Option ℕ)) (name : K) (at slot holes capacity more : ℕ) → IsIndex cmp es holes capacity → IsGapAt cmp es name at → capacity ≤ more → IsIndex cmp (insert es at (name, Some slot)) holes more
  inserted es name at slot holes capacity more index h room =
      let k = h.gap.0 in
      let is = insert_gap cmp total es name at (Some slot) h k in
      record {
        rises = rises_insert cmp total es name at (Some slot) index.rises h;
        counted = omega (arith, index.counted, ap length k.parts, length-append k.before k.after, ap length (gap_stands es name k).parts, length-append (standing k.before) (standing k.after), ap length is, length-append k.before ((name, Some slot) ∷ k.after), ap length (standing_round (insert es at (name, Some slot)) k.after k.before (name, Some slot) is), length-append (standing k.before) ((name, slot) ∷ standing k.after));
        few = index.few;
        room = omega (arith, index.room, room);
      }

  pub inserted_stands : (es : List (K × Option ℕ)) (name : K) (at slot : ℕ) → IsGapAt cmp es name at → (g : Gap cmp (standing es) name) → standing (insert es at (name, Some slot)) ≡ g.before ++ (name, slot) ∷ g.after
  inserted_stands es name at slot h g =
      let k = h.gap.0 in
      let s = gap_stands es name k in
      let once = gap_once cmp total s.before s.after g.before g.after name s.smaller s.greater g.smaller g.greater (sym s.parts ∙ g.parts) in
      standing_round (insert es at (name, Some slot)) k.after k.before (name, Some slot) (insert_gap cmp total es name at (Some slot) h k)
      ∙ ap (λ (us : List (K × ℕ)). us ++ (name, slot) ∷ standing k.after) once.0
      ∙ ap (λ (us : List (K × ℕ)). g.before ++ (name, slot) ∷ us) once.1

  -- a name is taken out
  pub taken_is : (es : List (K × Option ℕ)) (name : K) (at slot : ℕ) (x : K × Option ℕ) → x ≡ get_or es at x → (f : Found cmp es name (Some slot)) → length f.before ≡ at → set es at (x.0, None) ≡ f.before ++ (f.kept, None) ∷ f.after
  taken_is es name at slot x read f place =
      let same : x.0 ≡ f.kept = ap (λ (e : K × Option ℕ). e.0) (read ∙ read_round es f.before f.after (f.kept, Some slot) x at f.parts place) in
      ap (λ (k : K). set es at (k, None)) same ∙ set_round es f.before f.after (f.kept, Some slot) (f.kept, None) at f.parts place

  pub taken_rises : (es : List (K × Option ℕ)) (name : K) (at slot : ℕ) (x : K × Option ℕ) → Rises cmp es → x ≡ get_or es at x → (f : Found cmp es name (Some slot)) → length f.before ≡ at → Rises cmp (set es at (x.0, None))
  taken_rises es name at slot x rises read f place =
      subst (Rises cmp) (sym (taken_is es name at slot x read f place)) (rises_renamed f.before f.after f.kept f.kept (Some slot) None (tied_itself total f.kept) (subst (Rises cmp) f.parts rises))

  pub taken : (es : List (K × Option ℕ)) (name : K) (at slot holes capacity : ℕ) (x : K × Option ℕ) → IsIndex cmp es holes capacity → x ≡ get_or es at x → (f : Found cmp es name (Some slot)) → length f.before ≡ at → (holes + 1 ≡ 512 → ⊥) → IsIndex cmp (set es at (x.0, None)) (holes + 1) capacity
  taken es name at slot holes capacity x index read f place few =
      let is = taken_is es name at slot x read f place in
      record {
        rises = taken_rises es name at slot x index.rises read f place;
        counted = omega (arith, index.counted, ap length f.parts, length-append f.before ((f.kept, Some slot) ∷ f.after), ap length (standing_round es f.after f.before (f.kept, Some slot) f.parts), length-append (standing f.before) ((f.kept, slot) ∷ standing f.after), ap length is, length-append f.before ((f.kept, None) ∷ f.after), ap length (standing_round (set es at (x.0, None)) f.after f.before (f.kept, None) is), length-append (standing f.before) (standing f.after));
        few = omega (arith, index.few, few);
        room = index.room;
      }

  pub taken_stands : (es : List (K × Option ℕ)) (name : K) (at slot : ℕ) (x : K × Option ℕ) → Rises cmp es → x ≡ get_or es at x → (f : Found cmp es name (Some slot)) → length f.before ≡ at → (other : ℕ) (h : Found cmp (standing es) name other) → standing (set es at (x.0, None)) ≡ h.before ++ h.after
  taken_stands es name at slot x rises read f place other h =
      let k = stands es name slot f in
      let once = found_once cmp total k.before k.after h.before h.after (k.kept, slot) (h.kept, other) name (subst (Rises cmp) k.parts (standing_rises cmp es rises)) k.tie h.tie (sym k.parts ∙ h.parts) in
      standing_round (set es at (x.0, None)) f.after f.before (f.kept, None) (taken_is es name at slot x read f place)
      ∙ ap (λ (us : List (K × ℕ)). us ++ standing f.after) once.0
      ∙ ap (λ (us : List (K × ℕ)). h.before ++ us) once.2

  -- a hole is closed
  pub closed_stands : (es : List (K × Option ℕ)) (from hole : ℕ) → IsHole es from hole → standing (remove es hole) ≡ standing es
  closed_stands es from hole h =
      let cut = cut_at es hole h.within in
      let none : cut.item.1 ≡ None = ap (λ (e : K × Option ℕ). e.1) (sym (cut.read cut.item)) ∙ h.empty cut.item in
      ap standing (remove_round es cut.before cut.after cut.item hole cut.parts cut.place)
      ∙ standing-append cut.before cut.after
      ∙ sym (standing_round es cut.after cut.before cut.item cut.parts ∙ ap (λ (o : Option ℕ). standing cut.before ++ with_slot cut.item.0 o (standing cut.after)) none)

  pub closed_index : (es : List (K × Option ℕ)) (from hole holes capacity : ℕ) → IsIndex cmp es holes capacity → IsHole es from hole → (1 ≤ holes) × IsIndex cmp (remove es hole) (holes - 1) capacity
  closed_index es from hole holes capacity index h =
      let cut = cut_at es hole h.within in
      let is = remove_round es cut.before cut.after cut.item hole cut.parts cut.place in
      let stands = ap length (closed_stands es from hole h) in
      let more : 1 ≤ holes = omega (arith, index.counted, stands, standing_few (remove es hole), ap length is, length-append cut.before cut.after, ap length cut.parts, length-append cut.before (cut.item ∷ cut.after)) in (
        more,
        record {
          rises = subst (Rises cmp) (sym is) (rises_out cmp total cut.before cut.after cut.item (subst (Rises cmp) cut.parts index.rises));
          counted = omega (arith, more, index.counted, stands, ap length is, length-append cut.before cut.after, ap length cut.parts, length-append cut.before (cut.item ∷ cut.after));
          few = omega (arith, index.few);
          room = index.room;
        },
      )

  -- the place of a name that is before a hole stays when the hole is closed
  pub gap_closed : (es : List (K × Option ℕ)) (name : K) (at hole : ℕ) → IsGapAt cmp es name at → IsHole es at hole → IsGapAt cmp (remove es hole) name at
  gap_closed es name at hole h e =
      let k = h.gap.0 in
      let cut = cut_at es hole e.within in
      let is = remove_round es cut.before cut.after cut.item hole cut.parts cut.place in
      elim (append-cut k.before k.after cut.before cut.item cut.after (sym k.parts ∙ cut.parts)) [
        | inl front ↦ absurd (omega (arith, e.order, h.gap.1, cut.place, ap length front.front, length-append cut.before (cut.item ∷ front.more)))
        | inr back ↦
            let greater = subst (Each (λ (f : K × Option ℕ). cmp f.0 name ≡ Greater)) back.back k.greater in
            record {
              in_range = omega (arith, h.gap.1, ap length is, length-append cut.before cut.after, ap length back.front, length-append k.before back.more);
              gap = (
                record {
                  before = k.before;
                  after = back.more ++ cut.after;
                  smaller = k.smaller;
                  greater = Each-both (λ (f : K × Option ℕ). cmp f.0 name ≡ Greater) back.more cut.after (Each-front (λ (f : K × Option ℕ). cmp f.0 name ≡ Greater) back.more (cut.item ∷ cut.after) greater) (Each-back (λ (f : K × Option ℕ). cmp f.0 name ≡ Greater) back.more (cut.item ∷ cut.after) greater).1;
                  parts = is ∙ ap (λ us. us ++ cut.after) back.front ∙ append_assoc k.before back.more cut.after;
                },
                h.gap.1,
              );
            }
      ]
