-- How a field keeps the number that stands for no value: whether there is one, and a word of 64 bits.
use Rattle.std.specs.Prelude.{ℕ, ℤ, pos, neg_ℤ, ◌^◌, ◌≤ℤ◌, ◌<ℤ◌, if◌then◌else◌, Bool, Option, Some, None}
use Rattle.std.specs.Int.{w64, cast_signed, cast_unsigned}
use Rattle.t7_layout.specs.declared.words.Kind.{Kind}
use Rattle.t7_layout.specs.declared.words.Kind.TheVariants.{Unsigned, Signed, Raw}

-- the number that a word stands for in a field of a kind
abbrev pub word_number : Kind → ℕ → ℤ
word_number Unsigned word = pos word
word_number Signed word = cast_signed w64 word
word_number Raw word = pos word

-- the number that stands for no value, where there is one
abbrev pub kept_null : Kind → Bool → ℕ → Option ℤ
kept_null kind has_null word = if has_null then Some (word_number kind word) else None

-- the word of such a number, and 0 where there is none
abbrev pub null_word : Option ℤ → ℕ
null_word None = 0
null_word (Some z) = cast_unsigned w64 z

-- a number that a word can stand for
abbrev pub IsWordNumber : ℤ → Type 0
IsWordNumber z = (neg_ℤ (pos (2 ^ 63)) ≤ℤ z) × (z <ℤ pos (2 ^ 64))
