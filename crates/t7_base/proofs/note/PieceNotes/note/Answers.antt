use Rattle.std.proofs.Common.{rules, arith, ◌≡◌, ◌∷◌, [], ◌++◌, ◌∙◌, ap, length, sum, false}
use Rattle.t7_base.specs.Memory.{Noted, after_note, passes_room}
use Rattle.t7_base.proofs.Calls.{has_room}
use Rattle.t7_base.proofs.Pieces.{noted_more}
use Rattle.t7_base.proofs.note.PieceNotes.note.Goals as goal

pub returns-clause-state : goal.returns-clause-state
returns-clause-state c =
    let before = c.self.inside in
    let piece = c.args.piece.now in
    let covers : sum before.lengths.items ≡ length before.bytes.items = search rules in
    let room : passes_room before.calls_left before.bytes_left (length piece) ≡ false = grind (arith, has_room) in
    let lengths : c.push.new.self.items ≡ before.lengths.items ++ length piece ∷ [] = grind arith in
    let bytes : c.extend_from_slice.new.self.items ≡ before.bytes.items ++ piece = grind arith in
    rw (lengths, bytes)
    (noted_more before.told before.lengths.items before.bytes.items before.calls_left before.bytes_left piece covers room
    ∙ ap (λ (n : Noted). after_note n piece) c.self.view_is)
