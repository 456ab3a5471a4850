use Rattle.std.proofs.Common.{rules, ◌≡◌, ◌∷◌, [], Ok, Err}
use Rattle.t7_lines.specs.Gap.{tally_of}
use Rattle.t7_outcome.specs.declared.ending.Stop.TheVariants.{WriteFault}
use Rattle.t7_outcome.proofs.Printing.{printed_both, printed_first}
use Rattle.t7_follow.specs.Lines.{tally_line}
use Rattle.t7_follow.proofs.follower.Follower.put_feeds.Goals as goal

pub returns-in_err-put_tally-clause-printed : goal.returns-in_err-put_tally-clause-printed
returns-in_err-put_tally-clause-printed g c =
    let tallies = c.args.self.now.member.tallies in
    let is : c.put_tally.result ≡ Err WriteFault = search rules in
    let ended : c.from_residual.result ≡ Err WriteFault = search rules in
    let tally : c.tally.result ≡ tally_of tallies c.args.first = search rules in
    printed_first _ _ (tally_line c.args.first (tally_of tallies c.args.first) ∷ []) (tally_line c.args.second (tally_of tallies c.args.second) ∷ [])
    c.put_tally.result WriteFault c.from_residual.result is ended (rw tally at c.put_tally.ensures.printed)

pub returns-clause-printed : goal.returns-clause-printed
returns-clause-printed g c =
    let tallies = c.args.self.now.member.tallies in
    let is : c.put_tally.result ≡ Ok c.in_ok-put_tally.field-0 = search rules in
    let tally : c.tally.result ≡ tally_of tallies c.args.first = search rules in
    let other : c.tally-2.result ≡ tally_of tallies c.args.second = search rules in
    printed_both _ _ _ (tally_line c.args.first (tally_of tallies c.args.first) ∷ []) (tally_line c.args.second (tally_of tallies c.args.second) ∷ [])
    c.put_tally.result _ c.put_tally-2.result is (rw tally at c.put_tally.ensures.printed) (rw other at c.put_tally-2.ensures.printed)
