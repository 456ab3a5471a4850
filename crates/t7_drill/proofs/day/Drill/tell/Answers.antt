-- The lines, one behind another.
use Rattle.std.proofs.Common.{◌≡◌, List, ℕ, [], ◌++◌, ap, ◌∙◌, rules}
use Rattle.t7_outcome.specs.Outcome.{text_of}
use Rattle.t7_drill.specs.Kits.{told_by}
use Rattle.t7_drill.specs.Telling.{book_lines, count_lines, tally_lines}
use Rattle.t7_drill.proofs.TellingFacts.{lines_behind}
use Rattle.t7_drill.proofs.day.Drill.tell.Goals as goal

pub returns : goal.returns
returns c =
    let told = told_by c.args.self.now in
    let none : c.new-text.result.items ≡ [] = search rules in
    let first = c.in_ok-put_counts.ensures ∙ ap (λ (t : List ℕ). t ++ text_of (count_lines told)) none in
    lines_behind [] c.put_tallies.new.text.items c.put_books.new.text.items (count_lines told ++ tally_lines told.tallies) (book_lines told)
    (lines_behind [] c.put_counts.new.text.items c.put_tallies.new.text.items (count_lines told) (tally_lines told.tallies) first c.in_ok-put_tallies.ensures)
    c.in_ok-put_books.ensures
