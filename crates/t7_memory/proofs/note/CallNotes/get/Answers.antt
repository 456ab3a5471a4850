use Rattle.std.proofs.Common.{rules, ◌≡◌, ◌∙◌, ap, length}
use Rattle.t7_memory.specs.Notes.{Noted, told_at}
use Rattle.t7_memory.proofs.Noting.{none_told, told_note}
use Rattle.t7_memory.proofs.note.CallNotes.get.Goals as goal

pub returns-in-Some : goal.returns-in-Some
returns-in-Some g c =
    let both : length c.self.inside.lengths.items ≡ length c.self.inside.kinds.items = search rules in
    told_note c.self.inside.told c.self.inside.kinds.items c.self.inside.lengths.items c.self.inside.bytes.items
    c.piece_at.result.now c.args.at c.in-Some.kind.now c.in-Some.kind.now c.if-not-self.false both (search rules) (search rules) (search rules)
    ∙ ap (λ (n : Noted g.row.K.Denot). told_at n.told c.args.at) c.self.view_is

pub returns-in-None : goal.returns-in-None
returns-in-None g c =
    none_told c.self.inside.told c.self.inside.kinds.items c.self.inside.lengths.items c.self.inside.bytes.items c.args.at (search rules)
    ∙ ap (λ (n : Noted g.row.K.Denot). told_at n.told c.args.at) c.self.view_is
