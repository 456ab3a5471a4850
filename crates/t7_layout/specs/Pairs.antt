-- The families of rows with another of their cells. No contract of a public call speaks of it.
use Rattle.std.specs.Prelude.{ℕ, ◌&&◌, ◌≡◌, List}
use Rattle.std.specs.HashSet.{HashSet}
use Rattle.std.specs.List.{list_any}
use Rattle.std.specs.Str.{bytes_eq}
use denote.Ref.{Bor}
use Rattle.t7_records.specs.Records.{Record, cell}
use Rattle.t7_layout.specs.declared.pairs.Passed.{Passed}

-- the set has a family and another word exactly where one of these rows has them: the family as its first cell, and the word at a place
abbrev pub ArePairs : {S : Type 0} → ℕ → List Record → HashSet (Bor (List ℕ) × Bor (List ℕ)) S → Type 0
ArePairs place rows pairs = (family word : Bor (List ℕ)) → list_any (λ pair. bytes_eq family.now pair.0.now && bytes_eq word.now pair.1.now) pairs.keys ≡ list_any (λ row. bytes_eq (cell row 0) family.now && bytes_eq (cell row place) word.now) rows

-- the families of these rows with their ids and with their names
pub record HoldsRows (rows : List Record) (passed : Passed) : Type 0 where
  pub ids : ArePairs 1 rows passed.ids
  pub names : ArePairs 2 rows passed.names
