use Rattle.std.proofs.Common.{rules, ◌≡◌, ◌∷◌, [], ℕ, List, Result, Ok, Err, refl}
use Rattle.t7_base.specs.declared.ids.Feed.{Feed}
use Rattle.t7_base.specs.declared.ids.Feed.TheVariants.{LiveA, LiveB, SnapA, SnapB}
use Rattle.t7_lines.specs.declared.tally.Tallies.{Tallies}
use Rattle.t7_lines.specs.Gap.{tally_of}
use Rattle.t7_mbook.specs.Walk.{walk_rest}
use Rattle.t7_outcome.specs.declared.ending.Finish.{Finish}
use Rattle.t7_outcome.specs.declared.ending.Finish.TheVariants.{End}
use Rattle.t7_outcome.specs.declared.ending.Stop.{Stop}
use Rattle.t7_outcome.specs.declared.ending.Stop.TheVariants.{WriteFault}
use Rattle.t7_outcome.proofs.Printing.{printed_first}
use Rattle.t7_follow.specs.Lines.{report_lines, tally_line, tally_lines}
use Rattle.t7_follow.specs.Members.{orders_of, state_of}
use Rattle.t7_follow.proofs.Printed.{cut_as, printed_as, printed_second, printed_third}
use Rattle.t7_follow.proofs.follower.Follower.finish.Goals as goal

-- the lines of two feeds
abbrev pair_lines : Tallies → Feed → Feed → List (List ℕ)
pair_lines tallies first second = tally_line first (tally_of tallies first) ∷ tally_line second (tally_of tallies second) ∷ []

pub returns-in_err-put_report-clause-printed : goal.returns-in_err-put_report-clause-printed
returns-in_err-put_report-clause-printed g c =
    let member = c.args.self.now.member in
    let is : c.put_report.result ≡ Err WriteFault = search rules in
    let ended : c.from_residual.result ≡ Err WriteFault = search rules in
    let state : c.status.result ≡ state_of member = search rules in
    let orders : walk_rest c.orders.result ≡ orders_of member = search rules in
    printed_first _ _ (report_lines (state_of member) (orders_of member)) (tally_lines member.tallies) c.put_report.result WriteFault c.from_residual.result is ended
    (rw (state, orders) at c.put_report.ensures.printed)

pub returns-in_err-put_feeds-clause-printed : goal.returns-in_err-put_feeds-clause-printed
returns-in_err-put_feeds-clause-printed g c =
    let member = c.args.self.now.member in
    let is : c.put_report.result ≡ Ok c.in_ok-put_report.field-0 = search rules in
    let cut : c.put_feeds.result ≡ Err WriteFault = search rules in
    let ended : c.from_residual-in_err-put_feeds.result ≡ Err WriteFault = search rules in
    let state : c.status.result ≡ state_of member = search rules in
    let orders : walk_rest c.orders.result ≡ orders_of member = search rules in
    printed_second _ _ _ (report_lines (state_of member) (orders_of member)) (pair_lines member.tallies LiveA LiveB) (pair_lines member.tallies SnapA SnapB)
    c.put_report.result c.in_ok-put_report.field-0 c.put_feeds.result c.from_residual-in_err-put_feeds.result is cut ended
    (rw (state, orders) at c.put_report.ensures.printed) c.put_feeds.ensures.printed

pub returns-in_err-put_feeds-2-clause-printed : goal.returns-in_err-put_feeds-2-clause-printed
returns-in_err-put_feeds-2-clause-printed g c =
    let member = c.args.self.now.member in
    let is : c.put_report.result ≡ Ok c.in_ok-put_report.field-0 = search rules in
    let then : c.put_feeds.result ≡ Ok c.in_ok-put_feeds.field-0 = search rules in
    let cut : c.put_feeds-2.result ≡ Err WriteFault = search rules in
    let ended : c.from_residual-in_err-put_feeds-2.result ≡ Err WriteFault = search rules in
    let state : c.status.result ≡ state_of member = search rules in
    let orders : walk_rest c.orders.result ≡ orders_of member = search rules in
    printed_third _ _ _ _ (report_lines (state_of member) (orders_of member)) (pair_lines member.tallies LiveA LiveB) (pair_lines member.tallies SnapA SnapB)
    c.put_report.result c.in_ok-put_report.field-0 c.put_feeds.result c.in_ok-put_feeds.field-0 c.from_residual-in_err-put_feeds-2.result is then
    (rw (state, orders) at c.put_report.ensures.printed) c.put_feeds.ensures.printed (cut_as _ _ (pair_lines member.tallies SnapA SnapB) c.put_feeds-2.result c.from_residual-in_err-put_feeds-2.result cut ended c.put_feeds-2.ensures.printed)

pub returns-clause-printed : goal.returns-clause-printed
returns-clause-printed g c =
    let member = c.args.self.now.member in
    let is : c.put_report.result ≡ Ok c.in_ok-put_report.field-0 = search rules in
    let then : c.put_feeds.result ≡ Ok c.in_ok-put_feeds.field-0 = search rules in
    let last : c.put_feeds-2.result ≡ Ok c.in_ok-put_feeds-2.field-0 = search rules in
    let state : c.status.result ≡ state_of member = search rules in
    let orders : walk_rest c.orders.result ≡ orders_of member = search rules in
    let end : Result Finish Stop = Ok (End c.self.inside.datagrams) in
    printed_third _ _ _ _ (report_lines (state_of member) (orders_of member)) (pair_lines member.tallies LiveA LiveB) (pair_lines member.tallies SnapA SnapB)
    c.put_report.result c.in_ok-put_report.field-0 c.put_feeds.result c.in_ok-put_feeds.field-0 end is then
    (rw (state, orders) at c.put_report.ensures.printed) c.put_feeds.ensures.printed
    (printed_as _ _ (pair_lines member.tallies SnapA SnapB) c.put_feeds-2.result c.in_ok-put_feeds-2.field-0 end (End c.self.inside.datagrams) last refl c.put_feeds-2.ensures.printed)
