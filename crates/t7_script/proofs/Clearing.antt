-- The security of a CLEAR is a listed one.
use Rattle.std.proofs.Common.{◌≡◌, ℕ, ℤ, pos, Bool, true, false, List, [], ◌∷◌, Option, Some, None, Contains, Result, Ok, Err, IfSome, option_map, refl, sym, subst, if◌then◌else◌}
use Rattle.std.specs.Option.{option_and_then}
use Rattle.std.specs.Ordering.{int_eq}
use Rattle.std.proofs.lemmas.Bool.Decides.{Decides-int_eq}
use Rattle.std.proofs.lemmas.Map.Views.{Contains-from_any}
use Rattle.t7_base.specs.declared.ids.Side.{Side}
use Rattle.t7_script.specs.declared.event.Event.{Event}
use Rattle.t7_script.specs.declared.event.Event.TheVariants as kind
use Rattle.t7_script.specs.declared.event.LineRefusal.{LineRefusal}
use Rattle.t7_script.specs.declared.words.Word.{Word}
use Rattle.t7_script.specs.declared.words.Word.TheVariants as word
use Rattle.t7_script.specs.Cells.{cells_of, client, connection, byte_count, feed, forged, is_listed, moment, number, number_within, one_of, order_of, piece, price, quantity, security, session, side, two_of}
use Rattle.t7_script.specs.Events.{Setting, alone, both, event_by, event_in, event_of, event_with, or_number, ordered, with_cells}

-- an event clears no security but a listed one
abbrev ClearsListed : List ℤ → Event → Type 0
ClearsListed listed (kind.Clear security) = Contains listed security
ClearsListed listed event = Unit {0}

-- what is read clears no security but a listed one
abbrev ReadsListed : List ℤ → Result Event LineRefusal → Type 0
ReadsListed listed (Ok event) = ClearsListed listed event
ReadsListed listed (Err why) = Unit {0}

from_option : (listed : List ℤ) (o : Option Event) → IfSome o (ClearsListed listed) → ReadsListed listed (or_number o)
from_option listed None clears = tt
from_option listed (Some event) clears = clears

from_cells : {A : Type 0} (listed : List ℤ) (o : Option A) (read : A → Option Event) → ((a : A) → IfSome (read a) (ClearsListed listed)) → ReadsListed listed (with_cells o read)
from_cells listed None read clears = tt
from_cells listed (Some a) read clears = from_option listed (read a) (clears a)

from_map : {A : Type 0} (listed : List ℤ) (make : A → Event) → ((a : A) → ClearsListed listed (make a)) → (o : Option A) → IfSome (option_map make o) (ClearsListed listed)
from_map listed make clears None = tt
from_map listed make clears (Some a) = clears a

from_both : {A B : Type 0} (listed : List ℤ) (make : A → B → Event) → ((a : A) (b : B) → ClearsListed listed (make a b)) → (a : Option A) (b : Option B)
    → IfSome (both make a b) (ClearsListed listed)
from_both listed make clears None b = tt
from_both listed make clears (Some a) None = tt
from_both listed make clears (Some a) (Some b) = clears a b

from_order : (listed : List ℤ) (a : Option ℤ) (b : Option Side) (c : Option ℤ) (d e : Option ℕ) → IfSome (ordered a b c d e) (ClearsListed listed)
from_order listed None b c d e = tt
from_order listed (Some x) None c d e = tt
from_order listed (Some x) (Some y) None d e = tt
from_order listed (Some x) (Some y) (Some z) None e = tt
from_order listed (Some x) (Some y) (Some z) (Some u) None = tt
from_order listed (Some x) (Some y) (Some z) (Some u) (Some v) = tt

from_alone : (listed : List ℤ) (event : Event) → ClearsListed listed event → (cells : List (List ℕ)) → ReadsListed listed (alone event cells)
from_alone listed event clears [] = clears
from_alone listed event clears (cell ∷ cells) = tt

-- a listed security
listed_has : (listed : List ℤ) (x : ℤ) → is_listed listed x ≡ true → Contains listed x
listed_has listed x is = Contains-from_any {eq = λ (q : ℤ) (s : ℤ). int_eq s q} (λ q s same. sym ((Decides-int_eq s q).0 same)) x listed is

listed_found : (listed : List ℤ) (x : ℤ) (found : Bool) → is_listed listed x ≡ found
    → IfSome (option_map kind.Clear (let o : Option ℤ = if found then Some x else None in o)) (ClearsListed listed)
listed_found listed x true is = listed_has listed x is
listed_found listed x false is = tt

from_security : (listed : List ℤ) (n : Option ℕ)
    → IfSome (option_map kind.Clear (option_and_then (λ (n : ℕ). if is_listed listed (pos n) then Some (pos n) else None) n)) (ClearsListed listed)
from_security listed None = tt
from_security listed (Some n) = listed_found listed (pos n) (is_listed listed (pos n)) refl

from_word : (setting : Setting) (word : Word) (cells : List (List ℕ)) → ReadsListed setting.listing.securities (event_with setting word cells)
from_word setting word.Raw cells = from_alone _ kind.Raw tt cells
from_word setting word.Open cells = from_cells _ (one_of cells) _ (λ c. from_map _ kind.Opens (λ a. tt) (connection c))
from_word setting word.In cells = from_cells _ (two_of cells) _ (λ p. from_both _ kind.Input (λ a b. tt) (connection p.0) (piece p.1))
from_word setting word.Cut cells = from_cells _ (one_of cells) _ (λ c. from_map _ kind.Cut (λ a. tt) (connection c))
from_word setting word.Tick cells = from_cells _ (one_of cells) _ (λ c. from_map _ kind.Tick (λ a. tt) (moment setting.moment c))
from_word setting word.Snap cells = from_alone _ kind.Snap tt cells
from_word setting word.Beat cells = from_alone _ kind.Beat tt cells
from_word setting word.Clear cells = from_cells _ (one_of cells) _ (λ c. from_security setting.listing.securities (number_within 1 1_000_000_000_000_000_000 c))
from_word setting (word.Deliver on) cells = from_cells _ (one_of cells) _ (λ c. from_map _ (kind.Deliver on) (λ a. tt) (number c))
from_word setting word.Forge cells = from_cells _ (two_of cells) _ (λ p. from_both _ kind.Forge (λ a b. tt) (feed p.0) (forged p.1))
from_word setting word.Dial cells = from_cells _ (two_of cells) _ (λ p. from_both _ kind.Dial (λ a b. tt) (connection p.0) (session setting.listing.sessions p.1))
from_word setting word.Order cells = from_cells _ (order_of cells) _ (λ o.
    from_order _ (security setting.listing.securities o.security) (side o.side) (price o.price) (quantity o.quantity) (client o.client))
from_word setting word.Up cells = from_cells _ (one_of cells) _ (λ c. from_map _ kind.Up (λ a. tt) (byte_count c))
from_word setting word.Down cells = from_cells _ (one_of cells) _ (λ c. from_map _ kind.Down (λ a. tt) (byte_count c))
from_word setting word.Show cells = from_alone _ kind.Show tt cells
from_word setting word.List cells = from_alone _ kind.List tt cells

from_by : (setting : Setting) (word : Option Word) (cells : List (List ℕ)) → ReadsListed setting.listing.securities (event_by setting word cells)
from_by setting None cells = tt
from_by setting (Some word) cells = from_word setting word cells

from_in : (setting : Setting) (cells : List (List ℕ)) → ReadsListed setting.listing.securities (event_in setting cells)
from_in setting [] = tt
from_in setting (first ∷ cells) = from_by setting _ cells

pub clears_listed : (setting : Setting) (line : List ℕ) (security : ℤ) → event_of setting line ≡ Ok (kind.Clear security) → Contains setting.listing.securities security
clears_listed setting line security is = subst (ReadsListed setting.listing.securities) is (from_in setting (cells_of line))
