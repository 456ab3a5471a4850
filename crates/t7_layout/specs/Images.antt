-- The bytes of a message of a template in which nothing is put.
use Rattle.std.specs.Prelude.{ℕ, ◌+◌, ◌-◌, ◌*◌, ◌^◌, ◌<◌, List, [], ◌∷◌, ◌++◌, Option, Some, None, ℤ, pos, negsuc, length, take, drop, replicate}
use Rattle.byteorder.specs.Endian.{little_bytes}
use Rattle.t7_layout.specs.declared.words.Family.{Family}
use Rattle.t7_layout.specs.declared.words.Family.TheVariants.{Eti, Eobi}
use Rattle.t7_layout.specs.declared.words.Kind.{Kind}
use Rattle.t7_layout.specs.declared.words.Kind.TheVariants.{Unsigned, Signed, Raw}
use Rattle.t7_layout.specs.Layouts.{Layout, Place}

-- a number of a kind, in so many bytes
unfoldable pub IsHeld : Kind → ℕ → ℤ → Type 0
IsHeld Unsigned width (pos n) = n < 256 ^ width
IsHeld Signed width (pos n) = n < 2 ^ (8 * width - 1)
IsHeld Signed width (negsuc n) = n < 2 ^ (8 * width - 1)
IsHeld kind width z = ⊥

-- the number whose bytes stand for a number: in two's complement, where it is below 0
unfoldable pub complement : ℕ → ℤ → ℕ
complement width (pos n) = n
complement width (negsuc n) = 256 ^ width - (n + 1)

-- the bytes of a number, the lowest first
unfoldable pub number_bytes : ℕ → ℤ → List ℕ
number_bytes width z = little_bytes width (complement width z)

-- the header's first two fields are BodyLen, in so many bytes, and TemplateID, in two
unfoldable pub length_width : Family → ℕ
length_width Eti = 4
length_width Eobi = 2

-- bytes with others in place of those from a place on
unfoldable pub patch : ℕ → List ℕ → List ℕ → List ℕ
patch at piece b = take at b ++ (piece ++ drop (at + length piece) b)

-- the bytes of a field in which nothing is put: those of its null, or zeros where it has none
unfoldable pub null_bytes : ℕ → Option ℤ → List ℕ
null_bytes width (Some z) = number_bytes width z
null_bytes width None = replicate width 0

-- those of all fields, one behind another
unfoldable pub unset_bytes : List Place → List ℕ
unset_bytes [] = []
unset_bytes (f ∷ fs) = null_bytes f.width f.null ++ unset_bytes fs

-- bytes with BodyLen and TemplateID of a template of a family, id and length in place of those that were there
abbrev pub with_header : Family → ℕ → ℕ → List ℕ → List ℕ
with_header family id size b = patch (length_width family) (little_bytes 2 id) (patch 0 (little_bytes (length_width family) size) b)

-- a message in which nothing is put: BodyLen says the template's length and TemplateID its id
unfoldable pub blank : Layout → List ℕ
blank t = with_header t.family t.id t.size (unset_bytes t.fields)
