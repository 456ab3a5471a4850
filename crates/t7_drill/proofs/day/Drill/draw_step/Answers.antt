-- No more OrderIDs were given than commands were accepted.
use Rattle.std.proofs.Common.{ap, arith}
use Rattle.t7_book.specs.Orders.{BookState, empty_book, roster_of}
use Rattle.t7_drill.specs.Entering.{accepted_in}
use Rattle.t7_drill.proofs.Ordinary.{ids_few}
use Rattle.t7_drill.proofs.day.Drill.draw_step.Goals as goal

pub draw_request-request-requires-clause-last : goal.draw_request-request-requires-clause-last
draw_request-request-requires-clause-last c =
    let day = c.self.inside.exchange in
    let few = ids_few (empty_book (roster_of day.setting.listing)) (accepted_in day) in
    let most = c.is_sound.ensures.accepted.few in
    let same = c.last_id-last.ensures in
    let book = ap (λ (b : BookState). b.last_id) c.book.ensures in
    omega arith
