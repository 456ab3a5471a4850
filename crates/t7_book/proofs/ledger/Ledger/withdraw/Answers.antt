use Rattle.std.proofs.Common.{arith, ap, sym, subst, ◌≡◌, length, []}
use Rattle.std.proofs.lemmas.Grind.{common_steps}
use Rattle.t7_book.specs.Orders.{BookState, is_of}
use Rattle.t7_book.specs.Sound.{IsRunning}
use Rattle.t7_book.proofs.ApplyLemmas.{withdrew}
use Rattle.t7_book.proofs.ledger.Ledger.withdraw.Goals as goal

pub remove_all-requires : goal.remove_all-requires
remove_all-requires c =
    let found = c.in-Ok.ensures.found in
    let slice = c.deref-2.ensures.value in
    (is_of c.args.session c.args.security, rw slice found)

pub returns : goal.returns
returns c =
    let inside = c.self.inside in
    let book : BookState = record { roster = record { securities = inside.orders.securities; sessions = inside.sessions.items }; orders = inside.orders.list; last_id = inside.last_id; last_stamp = inside.last_stamp; applied = inside.applied } in
    let same : book ≡ c.args.self.now = c.self.view_is in
    let running : IsRunning book = subst IsRunning (sym same) c.requires.running in
    let count : c.len.result ≡ length c.in-Ok.gone.items = grind (arith, common_steps, ap length c.deref-2.ensures.value) in
    rw (← same, c.remove_all.ensures.securities) (withdrew book c.args.moment c.args.session c.args.security c.in-Ok.gone.items c.remove_all.new.orders.list c.args.out.now.items c.append_deletions.new.out.items [] c.first_stamp.result c.len.result
    c.in-Ok.ensures.found (rw (← c.deref-2.ensures.value) c.remove_all.ensures.list) (rw (← c.deref.ensures.value) c.in-Ok-append_deletions.ensures.ok) c.first_stamp.ensures count)
