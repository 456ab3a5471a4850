-- Values by rising numbers: what stands at a number, with another one, and without it.
use Rattle.std.specs.Prelude.{ℕ, not, Bool, T, is_some, List, [], map, length, Option}
use Rattle.std.specs.List.{filter}
use Rattle.std.specs.Ordering.{nat_cmp, eq_by_cmp}
use Rattle.std.specs.FinMap.Entries.{find, is_sorted, put}

-- values by rising numbers
abbrev pub ByNumber : Type 0 → Type 0
ByNumber X = List (ℕ × X)

-- none
abbrev pub empty : {X : Type 0} → ByNumber X
empty = []

-- the value at a number
abbrev pub get : {X : Type 0} → ByNumber X → ℕ → Option X
get m k = find nat_cmp k m

-- a value stands at a number
abbrev pub contains_key : {X : Type 0} → ByNumber X → ℕ → Bool
contains_key m k = is_some (get m k)

-- with a value at a number, in the place of the one that stood there or in its place among the others
abbrev pub insert : {X : Type 0} → ByNumber X → ℕ → X → ByNumber X
insert m k v = put nat_cmp k v m

-- without the value at a number
abbrev pub remove : {X : Type 0} → ByNumber X → ℕ → ByNumber X
remove {X} m k = filter (λ (e : ℕ × X). not (eq_by_cmp nat_cmp k e.0)) m

-- the numbers
abbrev pub keys : {X : Type 0} → ByNumber X → List ℕ
keys {X} m = map (λ (e : ℕ × X). e.0) m

-- how many there are
abbrev pub len : {X : Type 0} → ByNumber X → ℕ
len m = length m

-- the numbers rise
abbrev pub Rises : {X : Type 0} → ByNumber X → Type 0
Rises m = T (is_sorted nat_cmp m)
