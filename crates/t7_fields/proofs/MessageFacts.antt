-- A field of a role's template.
use Rattle.std.proofs.Common.{◌≡◌, ◌<◌, ◌+◌, ℕ, zero, suc, Bool, true, false, List, [], ◌∷◌, Option, Some, None, length, drop, get_or, refl, arith, add-one}
use Rattle.std.specs.Prelude.{Contains, IfSome, find, is_some, option_map, pos}
use Rattle.byteorder.specs.Endian.{big_number}
use Rattle.t7_layout.specs.declared.words.Kind.{Kind}
use Rattle.t7_layout.specs.declared.words.Kind.TheVariants.{Raw, Signed, Unsigned}
use Rattle.t7_layout.specs.declared.roles.FieldName.{FieldName}
use Rattle.t7_layout.specs.Layouts.{Layout, Place}
use Rattle.t7_layout.specs.Lookups.{place_in}
use Rattle.t7_fields.specs.Spelling.{known_signed, known_unsigned, raw_at, signed_at, unsigned_at}
use Rattle.t7_fields.specs.Messages.{Message, number_as, number_at, said_number}

pub field_of_role : (o : Option Layout) (t : Layout) (f : Place) → o ≡ Some t → IfSome o (λ t. Contains t.fields f) → Contains t.fields f
field_of_role o t f e h = rw e at h

-- what a message says in a field whose place and kind are known
pub said_raw : (m : Message) (name : FieldName) (f : Place) → place_in m.layouts m.role name ≡ Some f → f.kind ≡ Raw → said_number m name ≡ Some (pos (big_number f.width (raw_at f m.bytes)))
unfolding said_number number_at number_as
said_raw m name f e k = rw e (by f.kind k)
  where
    by : (kind : Kind) → kind ≡ Raw → number_as kind f m.bytes ≡ Some (pos (big_number f.width (raw_at f m.bytes)))
    by kind e = rw e refl

pub said_unsigned : (m : Message) (name : FieldName) (f : Place) → place_in m.layouts m.role name ≡ Some f → f.kind ≡ Unsigned → said_number m name ≡ option_map pos (known_unsigned f (unsigned_at f m.bytes))
unfolding said_number number_at number_as
said_unsigned m name f e k = rw e (by f.kind k)
  where
    by : (kind : Kind) → kind ≡ Unsigned → number_as kind f m.bytes ≡ option_map pos (known_unsigned f (unsigned_at f m.bytes))
    by kind e = rw e refl

pub said_signed : (m : Message) (name : FieldName) (f : Place) → place_in m.layouts m.role name ≡ Some f → f.kind ≡ Signed → said_number m name ≡ known_signed f (signed_at f m.bytes)
unfolding said_number number_at number_as
said_signed m name f e k = rw e (by f.kind k)
  where
    by : (kind : Kind) → kind ≡ Signed → number_as kind f m.bytes ≡ known_signed f (signed_at f m.bytes)
    by kind e = rw e refl

pub number_known : (o : Option ℕ) → is_some (option_map pos o) ≡ true → is_some o ≡ true
number_known None h = cc h
number_known (Some n) h = refl

-- the first of a list for which a test holds, one item at a time
pub find_here : {X : Type 0} (p : X → Bool) (xs : List X) (i : ℕ) (x : X) → i < length xs → x ≡ get_or xs i x → p x ≡ true → find p (drop i xs) ≡ Some x
find_here p [] i x h e t = absurd (omega arith)
find_here p (y ∷ ys) zero x h e t = rw (← e, t) refl
find_here p (y ∷ ys) (suc i) x h e t = find_here p ys i x (omega arith) e t

pub find_later : {X : Type 0} (p : X → Bool) (xs : List X) (i : ℕ) (x : X) → i < length xs → x ≡ get_or xs i x → p x ≡ false → find p (drop i xs) ≡ find p (drop (i + 1) xs)
find_later {X = X} p xs i x h e t = rw (add-one i) (by xs i h e)
  where
    by : (xs : List X) (i : ℕ) → i < length xs → x ≡ get_or xs i x → find p (drop i xs) ≡ find p (drop (suc i) xs)
    by [] i h e = absurd (omega arith)
    by (y ∷ ys) zero h e = rw (← e, t) refl
    by (y ∷ ys) (suc i) h e = by ys i (omega arith) e
