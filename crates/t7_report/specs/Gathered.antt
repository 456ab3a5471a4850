-- The lines of what a client has gathered, each without its line feed.
use Rattle.std.specs.Prelude.{ℕ, ◌+◌, Bool, true, false, List, [], ◌∷◌, ◌++◌, codes, decimal, length}
use Rattle.t7_eti.specs.declared.response.Kept.{Kept}
use Rattle.t7_script.specs.Lines.{kept_line}

-- whether the list is whole, and how many responses it has
abbrev pub number_line : Bool → ℕ → List ℕ
number_line true count = codes "RECOVERED " ++ decimal count
number_line false count = codes "PARTIAL " ++ decimal count

-- the lines of responses, of which the first has this number
abbrev pub numbered_lines : ℕ → List Kept → List (List ℕ)
numbered_lines number [] = []
numbered_lines number (what ∷ later) = kept_line number what ∷ numbered_lines (number + 1) later

-- the report of a client: how many responses it has, and a line for each, in their order
abbrev pub gathered_lines : Bool → List Kept → List (List ℕ)
gathered_lines recovered responses = number_line recovered (length responses) ∷ numbered_lines 1 responses
