-- The sides of the securities by number, and orders as they are kept on their levels.
use Rattle.std.proofs.Common.{◌≡◌, ℕ, ℤ, ◌+◌, ◌*◌, ◌<◌, ◌≤◌, Bool, true, false, not, cond, ◌&&◌, ◌||◌, eqb, List, [], ◌∷◌, length, Some, None, refl, sym, ap, ◌∙◌, inl, inr, arith}
use Rattle.std.specs.Prelude.{◌==◌, nat_lt, int_lt, if◌then◌else◌}
use Rattle.std.specs.Bool.{Decides}
use Rattle.std.specs.List.{filter, find}
use Rattle.std.specs.Ordering.{int_eq, is_eq, nat_cmp}
use Rattle.std.proofs.lemmas.Bool.{cases_Bool}
use Rattle.std.proofs.lemmas.Bool.Decides.{same_from_decides, Decides-eqb, Decides-int_eq, Decides-and, Decides-like, nat_tests}
use Rattle.std.proofs.lemmas.Int.{ints}
use Rattle.t7_base.specs.declared.ids.Side.{Side}
use Rattle.t7_base.specs.declared.ids.Side.TheVariants.{Buy, Sell}
use Rattle.t7_levels.specs.Chain as chain
use Rattle.t7_levels.specs.Ladder.{goes}
use Rattle.t7_levels.specs.Placed as levels
use Rattle.t7_levels.specs.Index.{is_called}
use Rattle.t7_levels.specs.Side.{from_first}
use Rattle.t7_book.specs.declared.kept.Kept.{Kept}
use Rattle.t7_book.specs.declared.order.Order.{Order}
use Rattle.t7_book.specs.Orders.{rank_of, is_better, by_side, goes_before, placed, is_side}
use Rattle.t7_book.specs.Numbers.{is_listed, side_index, number_of, rank_of_price}
use Rattle.t7_book.specs.Kept.{IsNumbered, orders_in, order_in, is_on}

-- the securities of a product have places of their own
step_ranks : (b c : Bool) (m n : ℕ) (P : Type 0) → (b ≡ true → c ≡ true → P) → (b ≡ false → c ≡ false → m ≡ n → P) → cond b 0 (1 + m) ≡ cond c 0 (1 + n) → P
step_ranks true true m n P both neither same = both refl refl
step_ranks true false m n P both neither same = absurd (omega (arith, same))
step_ranks false true m n P both neither same = absurd (omega (arith, same))
step_ranks false false m n P both neither same = neither refl refl (omega (arith, same))

later : (b c : Bool) → b ≡ false → (b || c) ≡ true → c ≡ true
later true c is any = absurd (cc)
later false c is any = any

pub rank_once : (securities : List ℤ) (s t : ℤ) → is_listed securities s ≡ true → is_listed securities t ≡ true → rank_of securities s ≡ rank_of securities t → s ≡ t
rank_once [] s t first second same = absurd (cc)
rank_once (u ∷ us) s t first second same =
    step_ranks (int_eq u s) (int_eq u t) (rank_of us s) (rank_of us t) (s ≡ t)
    (λ here there. sym ((Decides-int_eq u s).0 here) ∙ (Decides-int_eq u t).0 there)
    (λ here there rest. rank_once us s t (later (int_eq u s) (is_listed us s) here first) (later (int_eq u t) (is_listed us t) there second) rest)
    same

-- so have their sides
pub number_once : (securities : List ℤ) (s t : ℤ) (a b : Side) → is_listed securities s ≡ true → is_listed securities t ≡ true → number_of securities s a ≡ number_of securities t b → (s ≡ t) × (a ≡ b)
number_once securities s t Buy Buy first second same = (rank_once securities s t first second (omega (arith, same)), refl)
number_once securities s t Buy Sell first second same = absurd (omega (arith, same))
number_once securities s t Sell Buy first second same = absurd (omega (arith, same))
number_once securities s t Sell Sell first second same = (rank_once securities s t first second (omega (arith, same)), refl)

pub rank_fits : (securities : List ℤ) (s : ℤ) → is_listed securities s ≡ true → rank_of securities s < length securities
rank_fits [] s listed = absurd (cc)
rank_fits (u ∷ us) s listed = elim (cases_Bool (int_eq u s)) [
  | inl here ↦ rw here (omega arith)
  | inr there ↦
      let rest : is_listed us s ≡ true = sym (ap (λ (b : Bool). b || is_listed us s) there) ∙ listed in
      let less = rank_fits us s rest in
      rw there (omega arith)
]

pub number_fits : (securities : List ℤ) (s : ℤ) (side : Side) → is_listed securities s ≡ true → number_of securities s side < 2 * length securities
number_fits securities s Buy listed = let less = rank_fits securities s listed in omega arith
number_fits securities s Sell listed = let less = rank_fits securities s listed in omega arith

pub Decides-side : (a b : Side) → Decides (is_side a b) (a ≡ b)
Decides-side Buy Buy = (λ e. refl, λ e. refl)
Decides-side Buy Sell = (λ e. absurd (cc), λ e. absurd (cc))
Decides-side Sell Buy = (λ e. absurd (cc), λ e. absurd (cc))
Decides-side Sell Sell = (λ e. refl, λ e. refl)

-- the order of the book, by numbers, ranks and stamps
abbrev lex : ℕ → ℕ → ℤ → ℤ → ℕ → ℕ → Bool
lex i j p q s t = if i == j then (if int_eq p q then nat_lt s t else int_lt p q) else nat_lt i j

abbrev by_key : ℕ → ℕ → Side → Side → ℤ → ℤ → ℕ → ℕ → Bool
by_key i j a b p q s t = if i == j then by_side a b (if int_eq p q then nat_lt s t else is_better a p q) else nat_lt i j

key_is : (i j : ℕ) (a b : Side) (p q : ℤ) (s t : ℕ) → lex (2 * i + side_index a) (2 * j + side_index b) (rank_of_price a p) (rank_of_price b q) s t ≡ by_key i j a b p q s t
key_is i j Buy Buy p q s t = grind (arith, ints, nat_tests)
key_is i j Buy Sell p q s t = grind (arith, ints, nat_tests)
key_is i j Sell Buy p q s t = grind (arith, ints, nat_tests)
key_is i j Sell Sell p q s t = grind (arith, ints, nat_tests)

-- what the levels are told of a kept order
abbrev pub numbered : Kept → ℕ
numbered k = k.number

abbrev pub ranked : Kept → ℤ
ranked k = rank_of_price k.order.rest.side k.order.rest.price

abbrev pub stamped : Kept → ℕ
stamped k = k.order.rest.stamp

abbrev pub named : Kept → ℕ
named k = k.order.id

abbrev pub is_named : ℕ → Kept → Bool
is_named id k = is_called named nat_cmp id k

eq_nat : (a b : ℕ) → is_eq (nat_cmp a b) ≡ eqb a b
eq_nat a b = grind (arith, nat_tests)

pub named_is : (id : ℕ) (k : Kept) → is_named id k ≡ eqb k.order.id id
named_is id k = eq_nat k.order.id id

pub Each-map : {X : Type 0} (P Q : X → Type 0) → ((x : X) → P x → Q x) → (xs : List X) → chain.Each P xs → chain.Each Q xs
Each-map P Q f [] each = tt
Each-map P Q f (x ∷ xs) each = (f x each.0, Each-map P Q f xs each.1)

pub Each-all : {X : Type 0} (P : X → Type 0) → ((x : X) → P x) → (xs : List X) → chain.Each P xs
Each-all P f [] = tt
Each-all P f (x ∷ xs) = (f x, Each-all P f xs)

module _ (securities : List ℤ) where
  goes_is : (y x : Kept) → IsNumbered securities y → IsNumbered securities x → goes numbered ranked stamped y x ≡ goes_before securities y.order.rest x.order.rest
  goes_is y x at_y at_x =
      ap (λ (n : ℕ). lex n x.number (ranked y) (ranked x) y.order.rest.stamp x.order.rest.stamp) at_y.number
      ∙ ap (λ (n : ℕ). lex (number_of securities y.order.rest.security y.order.rest.side) n (ranked y) (ranked x) y.order.rest.stamp x.order.rest.stamp) at_x.number
      ∙ key_is (rank_of securities y.order.rest.security) (rank_of securities x.order.rest.security) y.order.rest.side x.order.rest.side y.order.rest.price x.order.rest.price y.order.rest.stamp x.order.rest.stamp

  pub orders_alike : (x : Kept) (list : List Kept) → IsNumbered securities x → chain.Each (IsNumbered securities) list → chain.Each (λ (k : Kept). goes numbered ranked stamped k x ≡ goes_before securities k.order.rest x.order.rest) list
  orders_alike x list at_x each =
      Each-map (IsNumbered securities) (λ (k : Kept). goes numbered ranked stamped k x ≡ goes_before securities k.order.rest x.order.rest) (λ k at. goes_is k x at at_x) list each

  -- the number of a side is the security with the side
  side_test : (security : ℤ) (side : Side) (number : ℕ) (k : Kept) → is_listed securities security ≡ true → number ≡ number_of securities security side → IsNumbered securities k → (k.number == number) ≡ is_on security side k.order
  side_test security side number k listed is at =
      same_from_decides {P = (k.order.rest.security ≡ security) × (k.order.rest.side ≡ side)} (k.number == number) (is_on security side k.order)
      (Decides-like (k.number == number)
      (λ same. number_once securities k.order.rest.security security k.order.rest.side side at.listed listed (sym at.number ∙ same ∙ is))
      (λ all. at.number ∙ ap (λ (s : ℤ). number_of securities s k.order.rest.side) all.0 ∙ ap (number_of securities security) all.1 ∙ sym is)
      (Decides-eqb k.number number))
      (Decides-and (int_eq k.order.rest.security security) (is_side k.order.rest.side side) (Decides-int_eq k.order.rest.security security) (Decides-side k.order.rest.side side))

  pub sides_alike : (security : ℤ) (side : Side) (number : ℕ) (list : List Kept) → is_listed securities security ≡ true → number ≡ number_of securities security side → chain.Each (IsNumbered securities) list → chain.Each (λ (k : Kept). eqb k.number number ≡ is_on security side k.order) list
  sides_alike security side number list listed is each =
      Each-map (IsNumbered securities) (λ (k : Kept). eqb k.number number ≡ is_on security side k.order) (λ k at. side_test security side number k listed is at) list each

  -- no kept order is of another security
  elsewhere : (security : ℤ) (side : Side) (k : Kept) → is_listed securities security ≡ false → IsNumbered securities k → is_on security side k.order ≡ false
  elsewhere security side k unlisted at = elim (cases_Bool (int_eq k.order.rest.security security)) [
    | inl same ↦
        let listed : is_listed securities security ≡ true = ap (is_listed securities) (sym ((Decides-int_eq k.order.rest.security security).0 same)) ∙ at.listed in
        absurd (cc (listed, unlisted))
    | inr differ ↦ ap (λ (b : Bool). b && is_side k.order.rest.side side) differ
  ]

  pub none_here : (security : ℤ) (side : Side) (list : List Kept) → is_listed securities security ≡ false → chain.Each (IsNumbered securities) list → chain.Each (λ (k : Kept). is_on security side k.order ≡ false) list
  none_here security side list unlisted each =
      Each-map (IsNumbered securities) (λ (k : Kept). is_on security side k.order ≡ false) (λ k at. elsewhere security side k unlisted at) list each

-- what the number of a side tells
pub listed_is : (b : Bool) (n m : ℕ) → cond b (Some n) None ≡ Some m → (b ≡ true) × (m ≡ n)
listed_is true n m is = (refl, cc)
listed_is false n m is = absurd (cc)

pub unlisted_is : (b : Bool) (n : ℕ) → cond b (Some n) None ≡ None → b ≡ false
unlisted_is true n is = absurd (cc)
unlisted_is false n is = refl

-- a test of the kept orders that is a test of the orders
module _ (p : Kept → Bool) (q : Order → Bool) where
  abbrev pub AreAlike : List Kept → Type 0
  AreAlike list = chain.Each (λ (k : Kept). p k ≡ q k.order) list

  pub find_shown : (list : List Kept) → AreAlike list → order_in (find p list) ≡ find q (orders_in list)
  find_shown [] each = refl
  find_shown (k ∷ ks) each = elim (cases_Bool (p k)) [
    | inl passes ↦ ap (λ (b : Bool). order_in (cond b (Some k) (find p ks))) passes ∙ sym (ap (λ (b : Bool). cond b (Some k.order) (find q (orders_in ks))) (sym each.0 ∙ passes))
    | inr fails ↦ ap (λ (b : Bool). order_in (cond b (Some k) (find p ks))) fails ∙ find_shown ks each.1 ∙ sym (ap (λ (b : Bool). cond b (Some k.order) (find q (orders_in ks))) (sym each.0 ∙ fails))
  ]

  pub filter_shown : (list : List Kept) → AreAlike list → orders_in (filter (λ k. not (p k)) list) ≡ filter (λ y. not (q y)) (orders_in list)
  filter_shown [] each = refl
  filter_shown (k ∷ ks) each =
      let rest = filter_shown ks each.1 in
      elim (cases_Bool (p k)) [
        | inl passes ↦ ap (λ (b : Bool). orders_in (cond (not b) (k ∷ filter (λ k. not (p k)) ks) (filter (λ k. not (p k)) ks))) passes ∙ rest ∙ sym (ap (λ (b : Bool). cond (not b) (k.order ∷ filter (λ y. not (q y)) (orders_in ks)) (filter (λ y. not (q y)) (orders_in ks))) (sym each.0 ∙ passes))
        | inr fails ↦ ap (λ (b : Bool). orders_in (cond (not b) (k ∷ filter (λ k. not (p k)) ks) (filter (λ k. not (p k)) ks))) fails ∙ ap (λ (us : List Order). k.order ∷ us) rest ∙ sym (ap (λ (b : Bool). cond (not b) (k.order ∷ filter (λ y. not (q y)) (orders_in ks)) (filter (λ y. not (q y)) (orders_in ks))) (sym each.0 ∙ fails))
      ]

  pub from_shown : (list : List Kept) → AreAlike list → orders_in (from_first p list) ≡ from_first q (orders_in list)
  from_shown [] each = refl
  from_shown (k ∷ ks) each = elim (cases_Bool (p k)) [
    | inl passes ↦ ap (λ (b : Bool). orders_in (cond b (k ∷ ks) (from_first p ks))) passes ∙ sym (ap (λ (b : Bool). cond b (k.order ∷ orders_in ks) (from_first q (orders_in ks))) (sym each.0 ∙ passes))
    | inr fails ↦ ap (λ (b : Bool). orders_in (cond b (k ∷ ks) (from_first p ks))) fails ∙ from_shown ks each.1 ∙ sym (ap (λ (b : Bool). cond b (k.order ∷ orders_in ks) (from_first q (orders_in ks))) (sym each.0 ∙ fails))
  ]

pub each_kept : (p : Kept → Bool) (P : Kept → Type 0) (list : List Kept) → chain.Each P list → chain.Each P (filter (λ k. not (p k)) list)
each_kept p P [] each = tt
each_kept p P (k ∷ ks) each = elim (not (p k)) as (λ b. chain.Each P (cond b (k ∷ filter (λ k. not (p k)) ks) (filter (λ k. not (p k)) ks))) [ true ↦ (each.0, each_kept p P ks each.1) | false ↦ each_kept p P ks each.1 ]

pub fewer_kept : (p : Kept → Bool) (list : List Kept) → length (filter (λ k. not (p k)) list) ≤ length list
fewer_kept p [] = omega arith
fewer_kept p (k ∷ ks) =
    let rest = fewer_kept p ks in
    elim (not (p k)) as (λ b. length (cond b (k ∷ filter (λ k. not (p k)) ks) (filter (λ k. not (p k)) ks)) ≤ length (k ∷ ks)) [ true ↦ omega arith | false ↦ omega arith ]

pub none_found : (q : Order → Bool) (list : List Kept) → chain.Each (λ (k : Kept). q k.order ≡ false) list → find q (orders_in list) ≡ None
none_found q [] each = refl
none_found q (k ∷ ks) each = ap (λ (b : Bool). cond b (Some k.order) (find q (orders_in ks))) each.0 ∙ none_found q ks each.1

pub placed_shown : (b : Kept → Kept → Bool) (d : Order → Order → Bool) (x : Kept) (list : List Kept) → chain.Each (λ (k : Kept). b k x ≡ d k.order x.order) list → orders_in (levels.placed b x list) ≡ placed d x.order (orders_in list)
placed_shown b d x [] each = refl
placed_shown b d x (k ∷ ks) each =
    let rest = placed_shown b d x ks each.1 in
    elim (cases_Bool (b k x)) [
      | inl first ↦ ap (λ (c : Bool). orders_in (cond c (k ∷ levels.placed b x ks) (x ∷ k ∷ ks))) first ∙ ap (λ (us : List Order). k.order ∷ us) rest ∙ sym (ap (λ (c : Bool). cond c (k.order ∷ placed d x.order (orders_in ks)) (x.order ∷ k.order ∷ orders_in ks)) (sym each.0 ∙ first))
      | inr behind ↦ ap (λ (c : Bool). orders_in (cond c (k ∷ levels.placed b x ks) (x ∷ k ∷ ks))) behind ∙ sym (ap (λ (c : Bool). cond c (k.order ∷ placed d x.order (orders_in ks)) (x.order ∷ k.order ∷ orders_in ks)) (sym each.0 ∙ behind))
    ]

pub each_level : (P : Kept → Type 0) (b : Kept → Kept → Bool) (x : Kept) (list : List Kept) → P x → chain.Each P list → chain.Each P (levels.placed b x list)
each_level P b x [] here each = (here, tt)
each_level P b x (k ∷ ks) here each = elim (b k x) as (λ c. chain.Each P (cond c (k ∷ levels.placed b x ks) (x ∷ k ∷ ks))) [ true ↦ (each.0, each_level P b x ks here each.1) | false ↦ (here, each) ]

pub length_level : (b : Kept → Kept → Bool) (x : Kept) (list : List Kept) → length (levels.placed b x list) ≡ length list + 1
length_level b x [] = refl
length_level b x (k ∷ ks) =
    let rest = length_level b x ks in
    elim (b k x) as (λ c. length (cond c (k ∷ levels.placed b x ks) (x ∷ k ∷ ks)) ≡ length (k ∷ ks) + 1) [ true ↦ omega arith | false ↦ omega arith ]
