use Rattle.std.proofs.Common.{rules, ◌≡◌, ◌∙◌, ap, ℕ, Option, Some, length}
use Rattle.std.specs.Option.{option_map}
use Rattle.t7_base.specs.Memory.{Noted}
use Rattle.t7_base.proofs.Pieces.{told_count}
use Rattle.t7_base.proofs.note.PieceNotes.count.Goals as goal

pub returns-then-self : goal.returns-then-self
returns-then-self c =
    let count : c.len.result ≡ length c.self.inside.lengths.items = search rules in
    ap (λ (n : ℕ). let o : Option ℕ = Some n in o) count
    ∙ told_count c.self.inside.told c.self.inside.lengths.items c.self.inside.bytes.items c.if-self.true
    ∙ ap (λ (n : Noted). option_map (λ told. length told) n.pieces) c.self.view_is
