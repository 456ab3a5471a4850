-- What is read of a line is of its form.
use Rattle.std.proofs.Common.{◌≡◌, ◌≤◌, ◌<◌, ℕ, ℤ, pos, ◌≤ℤ◌, Bool, true, false, List, [], ◌∷◌, Option, Some, None, Contains, Result, Ok, Err, IfSome, codes, nat_le, option_map}
use Rattle.std.proofs.Common.{refl, subst, arith, if◌then◌else◌, take, drop}
use Rattle.std.specs.Prelude.{neg_ℤ}
use Rattle.std.proofs.lemmas.Int.{ints}
use Rattle.std.specs.Option.{option_and_then, option_or}
use Rattle.std.specs.Str.{bytes_eq}
use Rattle.std.proofs.lemmas.Bool.Decides.{nat_tests}
use Rattle.t7_base.specs.declared.ids.Side.{Side}
use Rattle.t7_records.specs.Numbers.{is_decimal_to, value_of}
use Rattle.t7_script.specs.declared.event.Event.{Event}
use Rattle.t7_script.specs.declared.event.Event.TheVariants as kind
use Rattle.t7_script.specs.declared.event.LineRefusal.{LineRefusal}
use Rattle.t7_script.specs.Cells.{byte_count, cells_of, client, connection, feed, forged, moment, number, number_within, one_of, order_of, piece}
use Rattle.t7_script.specs.Cells.{price, quantity}
use Rattle.t7_script.specs.Cells.{security, session, side, two_of}
use Rattle.t7_script.specs.Events.{Setting, alone, both, client_word, event_by, event_in, event_of, member_word, or_number, ordered, with_cells, word_of}
use Rattle.t7_replay.specs.Kits.{IsOfForm}

-- a price's number
abbrev pub InPrice : ℤ → Type 0
InPrice z = (neg_ℤ (pos 100_000_000_000_000_000) ≤ℤ z) × (z ≤ℤ pos 100_000_000_000_000_000)

-- what is read is of its form, but for a security that is cleared
abbrev pub IsFormed : Event → Type 0
IsFormed (kind.Dial conn session) = (1 ≤ session) × (session ≤ 4_000_000_000)
IsFormed (kind.Order security side price quantity client) =
    (pos 1 ≤ℤ security) × (security ≤ℤ pos 1_000_000_000_000_000_000) × (client < 18_446_744_073_709_551_615) × InPrice price × (quantity ≤ 1_000_000_000_000_000)
IsFormed event = Unit {0}

abbrev ReadsFormed : Result Event LineRefusal → Type 0
ReadsFormed (Ok event) = IsFormed event
ReadsFormed (Err why) = Unit {0}

from_option : (o : Option Event) → IfSome o IsFormed → ReadsFormed (or_number o)
from_option None formed = tt
from_option (Some event) formed = formed

from_cells : {A : Type 0} (o : Option A) (read : A → Option Event) → ((a : A) → IfSome (read a) IsFormed) → ReadsFormed (with_cells o read)
from_cells None read formed = tt
from_cells (Some a) read formed = from_option (read a) (formed a)

from_map : {A : Type 0} (make : A → Event) → ((a : A) → IsFormed (make a)) → (o : Option A) → IfSome (option_map make o) IsFormed
from_map make formed None = tt
from_map make formed (Some a) = formed a

from_both : {A B : Type 0} (make : A → B → Event) (P : B → Type 0) → ((a : A) (b : B) → P b → IsFormed (make a b)) → (a : Option A) (b : Option B) → IfSome b P
    → IfSome (both make a b) IsFormed
from_both make P formed None b has = tt
from_both make P formed (Some a) None has = tt
from_both make P formed (Some a) (Some b) has = formed a b has

-- any value
any : {B : Type 0} (o : Option B) → IfSome o (λ b. Unit {0})
any None = tt
any (Some b) = tt

-- a number within its limits
decimal_most : (most : ℕ) (cell : List ℕ) → is_decimal_to most cell ≡ true → value_of cell ≤ most
unfolding is_decimal_to
decimal_most most cell is = grind (arith, nat_tests)

found_within : (least n most : ℕ) (test : Bool) → nat_le least n ≡ test → n ≤ most → IfSome (let o : Option ℕ = if test then Some n else None in o) (λ m. (least ≤ m) × (m ≤ most))
found_within least n most true is fits = (grind (arith, nat_tests), fits)
found_within least n most false is fits = tt

from_decimal : (least most : ℕ) (cell : List ℕ) (test : Bool) → is_decimal_to most cell ≡ test
    → IfSome (option_and_then (λ (n : ℕ). let o : Option ℕ = if nat_le least n then Some n else None in o) (let o : Option ℕ = if test then Some (value_of cell) else None in o))
    (λ m. (least ≤ m) × (m ≤ most))
from_decimal least most cell true is = found_within least (value_of cell) most (nat_le least (value_of cell)) refl (decimal_most most cell is)
from_decimal least most cell false is = tt

within : (least most : ℕ) (cell : List ℕ) → IfSome (number_within least most cell) (λ m. (least ≤ m) × (m ≤ most))
unfolding number_within
within least most cell = from_decimal least most cell (is_decimal_to most cell) refl

-- and with a further test
kept_in : {A : Type 0} (P : A → Type 0) (make : ℕ → A) (test : ℕ → Bool) (o : Option ℕ) → IfSome o (λ n. P (make n))
    → IfSome (option_and_then (λ (n : ℕ). let r : Option A = if test n then Some (make n) else None in r) o) P
kept_in P make test None has = tt
kept_in {A} P make test (Some n) has = one (test n)
  where
    one : (b : Bool) → IfSome (let r : Option A = if b then Some (make n) else None in r) P
    one true = has
    one false = tt

-- a security's number
abbrev InRange : ℤ → Type 0
InRange z = (pos 1 ≤ℤ z) × (z ≤ℤ pos 1_000_000_000_000_000_000)

as_signed : (o : Option ℕ) → IfSome o (λ n. (1 ≤ n) × (n ≤ 1_000_000_000_000_000_000)) → IfSome o (λ n. InRange (pos n))
as_signed None has = tt
as_signed (Some n) has = (omega (arith, ints), omega (arith, ints))

as_client : (o : Option ℕ) → IfSome o (λ n. (0 ≤ n) × (n ≤ 18_446_744_073_709_551_614)) → IfSome o (λ n. n < 18_446_744_073_709_551_615)
as_client None has = tt
as_client (Some n) has = omega arith

as_price : (b : Bool) (x y : Option ℕ) → IfSome x (λ n. (1 ≤ n) × (n ≤ 100_000_000_000_000_000)) → IfSome y (λ n. (0 ≤ n) × (n ≤ 100_000_000_000_000_000))
    → IfSome (let o : Option ℤ = if b then option_map (λ n. neg_ℤ (pos n)) x else option_map (λ n. pos n) y in o) InPrice
as_price true None y low high = tt
as_price true (Some n) y low high = (omega (arith, ints), omega (arith, ints))
as_price false x None low high = tt
as_price false x (Some n) low high = (omega (arith, ints), omega (arith, ints))

as_quantity : (o : Option ℕ) → IfSome o (λ n. (1 ≤ n) × (n ≤ 1_000_000_000_000_000)) → IfSome o (λ n. n ≤ 1_000_000_000_000_000)
as_quantity None has = tt
as_quantity (Some n) has = has.1

from_order : (a : Option ℤ) (b : Option Side) (c : Option ℤ) (d e : Option ℕ) → IfSome a InRange → IfSome c InPrice → IfSome d (λ n. n ≤ 1_000_000_000_000_000)
    → IfSome e (λ n. n < 18_446_744_073_709_551_615) → IfSome (ordered a b c d e) IsFormed
from_order None b c d e in_range in_price many few = tt
from_order (Some x) None c d e in_range in_price many few = tt
from_order (Some x) (Some y) None d e in_range in_price many few = tt
from_order (Some x) (Some y) (Some z) None e in_range in_price many few = tt
from_order (Some x) (Some y) (Some z) (Some u) None in_range in_price many few = tt
from_order (Some x) (Some y) (Some z) (Some u) (Some v) in_range in_price many few = (in_range.0, in_range.1, few, in_price, many)

from_alone : (event : Event) → IsFormed event → (cells : List (List ℕ)) → ReadsFormed (alone event cells)
from_alone event formed [] = formed
from_alone event formed (cell ∷ cells) = tt

-- one of two
if_reads : {W : Type 0} (f : W → Result Event LineRefusal) (b : Bool) (x y : W) → ReadsFormed (f x) → ReadsFormed (f y) → ReadsFormed (f (if b then x else y))
if_reads f true x y one other = one
if_reads f false x y one other = other

-- each of those that are made so, or none
map_reads : {A W : Type 0} (f : Option W → Result Event LineRefusal) (make : A → W) (o : Option A) → ((a : A) → ReadsFormed (f (Some (make a)))) → ReadsFormed (f None)
    → ReadsFormed (f (option_map make o))
map_reads f make None each none = none
map_reads f make (Some a) each none = each a

module _ (setting : Setting) (first : List ℕ) (cells : List (List ℕ)) where
  from_client : ReadsFormed (event_by setting (client_word first) cells)
  from_client =
      if_reads (λ w. event_by setting w cells) (bytes_eq first (codes "DIAL")) _ _
      (from_cells (two_of cells) _ (λ p.
      from_both kind.Dial (λ n. (1 ≤ n) × (n ≤ 4_000_000_000)) (λ a b has. has) (connection p.0) (session setting.listing.sessions p.1)
      (kept_in (λ n. (1 ≤ n) × (n ≤ 4_000_000_000)) (λ n. n) _ (number_within 1 4_000_000_000 p.1) (within 1 4_000_000_000 p.1))))
      (if_reads (λ w. event_by setting w cells) (bytes_eq first (codes "ORDER")) _ _
      (from_cells (order_of cells) _ (λ o.
      from_order (security setting.listing.securities o.security) (side o.side) (price o.price) (quantity o.quantity) (client o.client)
      (kept_in InRange (λ n. pos n) _ (number_within 1 1_000_000_000_000_000_000 o.security)
      (as_signed (number_within 1 1_000_000_000_000_000_000 o.security) (within 1 1_000_000_000_000_000_000 o.security)))
      (as_price (bytes_eq (take 1 o.price) (codes "-")) (number_within 1 100_000_000_000_000_000 (drop 1 o.price)) (number_within 0 100_000_000_000_000_000 o.price)
      (within 1 100_000_000_000_000_000 (drop 1 o.price)) (within 0 100_000_000_000_000_000 o.price))
      (as_quantity (quantity o.quantity) (within 1 1_000_000_000_000_000 o.quantity))
      (as_client (client o.client) (within 0 18_446_744_073_709_551_614 o.client))))
      (if_reads (λ w. event_by setting w cells) (bytes_eq first (codes "UP")) _ _ (from_cells (one_of cells) _ (λ c. from_map kind.Up (λ a. tt) (byte_count c)))
      (if_reads (λ w. event_by setting w cells) (bytes_eq first (codes "DOWN")) _ _
      (from_cells (one_of cells) _ (λ c. from_map kind.Down (λ a. tt) (byte_count c)))
      (if_reads (λ w. event_by setting w cells) (bytes_eq first (codes "LIST")) _ _ (from_alone kind.List tt cells) tt))))

  from_member : ReadsFormed (event_by setting (option_or (member_word first) (client_word first)) cells)
  from_member =
      if_reads (λ w. event_by setting (option_or w (client_word first)) cells) (bytes_eq first (codes "FORGE")) _ _
      (from_cells (two_of cells) _ (λ p. from_both kind.Forge (λ b. Unit {0}) (λ a b has. tt) (feed p.0) (forged p.1) (any (forged p.1))))
      (if_reads (λ w. event_by setting (option_or w (client_word first)) cells) (bytes_eq first (codes "SHOW")) _ _ (from_alone kind.Show tt cells)
      (map_reads (λ w. event_by setting (option_or w (client_word first)) cells) _ (feed first)
      (λ on. from_cells (one_of cells) _ (λ c. from_map (kind.Deliver on) (λ a. tt) (number c))) from_client))

  from_exchange : ReadsFormed (event_by setting (word_of first) cells)
  from_exchange =
      if_reads (λ w. event_by setting (option_or w (option_or (member_word first) (client_word first))) cells) (bytes_eq first (codes "RAW")) _ _ (from_alone kind.Raw tt cells)
      (if_reads (λ w. event_by setting (option_or w (option_or (member_word first) (client_word first))) cells) (bytes_eq first (codes "OPEN")) _ _
      (from_cells (one_of cells) _ (λ c. from_map kind.Opens (λ a. tt) (connection c)))
      (if_reads (λ w. event_by setting (option_or w (option_or (member_word first) (client_word first))) cells) (bytes_eq first (codes "IN")) _ _
      (from_cells (two_of cells) _ (λ p. from_both kind.Input (λ b. Unit {0}) (λ a b has. tt) (connection p.0) (piece p.1) (any (piece p.1))))
      (if_reads (λ w. event_by setting (option_or w (option_or (member_word first) (client_word first))) cells) (bytes_eq first (codes "CUT")) _ _
      (from_cells (one_of cells) _ (λ c. from_map kind.Cut (λ a. tt) (connection c)))
      (if_reads (λ w. event_by setting (option_or w (option_or (member_word first) (client_word first))) cells) (bytes_eq first (codes "TICK")) _ _
      (from_cells (one_of cells) _ (λ c. from_map kind.Tick (λ a. tt) (moment setting.moment c)))
      (if_reads (λ w. event_by setting (option_or w (option_or (member_word first) (client_word first))) cells) (bytes_eq first (codes "SNAP")) _ _ (from_alone kind.Snap tt cells)
      (if_reads (λ w. event_by setting (option_or w (option_or (member_word first) (client_word first))) cells) (bytes_eq first (codes "BEAT")) _ _ (from_alone kind.Beat tt cells)
      (if_reads (λ w. event_by setting (option_or w (option_or (member_word first) (client_word first))) cells) (bytes_eq first (codes "CLEAR")) _ _
      (from_cells (one_of cells) _ (λ c. from_map kind.Clear (λ a. tt) (security setting.listing.securities c)))
      from_member)))))))

from_in : (setting : Setting) (cells : List (List ℕ)) → ReadsFormed (event_in setting cells)
from_in setting [] = tt
from_in setting (first ∷ cells) = from_exchange setting first cells

pub formed : (setting : Setting) (line : List ℕ) (event : Event) → event_of setting line ≡ Ok event → IsFormed event
formed setting line event is = subst ReadsFormed is (from_in setting (cells_of line))

-- the security of a CLEAR is a listed one
abbrev pub ClearsAreListed : Type 0
ClearsAreListed = (setting : Setting) (line : List ℕ) (security : ℤ) → event_of setting line ≡ Ok (kind.Clear security) → Contains setting.listing.securities security

-- so what is read is of its form
pub read_form : ClearsAreListed → (setting : Setting) (line : List ℕ) (event : Event) → event_of setting line ≡ Ok event → IsOfForm setting.listing.securities event
read_form law setting line (kind.Clear security) is = law setting line security is
read_form law setting line (kind.Dial conn session) is = formed setting line (kind.Dial conn session) is
read_form law setting line (kind.Order security side price quantity client) is = let f = formed setting line (kind.Order security side price quantity client) is in (f.0, f.1, f.2)
read_form law setting line event is = tt
