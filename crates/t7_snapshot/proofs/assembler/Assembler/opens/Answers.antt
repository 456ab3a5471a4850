use Rattle.std.proofs.Common.{ap, sym, ◌∙◌, option_map}
use Rattle.t7_eobi.specs.Datagrams.{snaps_of}
use Rattle.t7_snapshot.proofs.Bounds.{product_below}
use Rattle.t7_snapshot.proofs.Held.{some_one}
use Rattle.t7_snapshot.proofs.assembler.Assembler.opens.Goals as goal

pub returns-clause-kept : goal.returns-clause-kept
returns-clause-kept c = (c.progress.ensures _ (ap (λ o. option_map (snaps_of c.args.self.now.terms.layouts) o) c.in_ok-_bytes.ensures.held)).opens

pub returns-clause-below : goal.returns-clause-below
returns-clause-below c = λ m more is. product_below c.items_are_in_their_ranges.ensures.snap c.args.self.now.terms c.in_ok-_bytes._bytes.now m more c.in_ok-_bytes.ensures.sound
    (some_one (sym (ap (λ o. option_map (snaps_of c.args.self.now.terms.layouts) o) c.in_ok-_bytes.ensures.held) ∙ is))
