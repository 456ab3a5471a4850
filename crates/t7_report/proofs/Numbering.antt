-- The lines of responses from a place on.
use Rattle.std.proofs.Common.{◌≡◌, ℕ, suc, ◌+◌, ◌<◌, List, ◌∷◌, length, get_or, drop, sym, ◌∙◌, ap, add-one}
use Rattle.std.proofs.Math.Seq.{drop-cons}
use Rattle.t7_eti.specs.declared.response.Kept.{Kept}
use Rattle.t7_script.specs.Lines.{kept_line}
use Rattle.t7_report.specs.Gathered.{numbered_lines}

-- the first of them, and those behind it
pub lines_from : (responses : List Kept) (place number : ℕ) (what : Kept) → place < length responses → what ≡ get_or responses place what
    → numbered_lines number (drop place responses) ≡ kept_line number what ∷ numbered_lines (number + 1) (drop (place + 1) responses)
lines_from responses place number what inside is =
    ap (numbered_lines number) (drop-cons responses place what inside)
    ∙ ap (λ (k : Kept). kept_line number k ∷ numbered_lines (number + 1) (drop (suc place) responses)) (sym is)
    ∙ ap (λ (n : ℕ). kept_line number what ∷ numbered_lines (number + 1) (drop n responses)) (sym (add-one place))
