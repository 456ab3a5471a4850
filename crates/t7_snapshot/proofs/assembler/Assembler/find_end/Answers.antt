use Rattle.std.proofs.Common.{refl, subst, sym, ◌∙◌}
use Rattle.t7_eobi.specs.Datagrams.{snaps_left}
use Rattle.t7_snapshot.specs.Reading.{stops_at, goes_on}
use Rattle.t7_snapshot.specs.Reading.{Reads, fresh}
use Rattle.t7_snapshot.specs.Store.{seen}
use Rattle.t7_snapshot.proofs.Onward.{reads_to, reads_back}
use Rattle.t7_snapshot.proofs.Search.{completes_back, completes_misread, completes_none}
use Rattle.t7_snapshot.proofs.assembler.Assembler.find_end.Goals as goal

pub returns-in-Some-done-clause-end : goal.returns-in-Some-done-clause-end
returns-in-Some-done-clause-end c = c.loop-snaps.invariant.to _ _ (stops_at (snaps_left c.in-Some.snaps) c.read_all.new.self c.in-Some.ensures.held c.if-not-read_all.ensures.fits (sym c.done.ensures ∙ c.in-Some-done.is) refl)

pub loop-snaps-preserved : goal.loop-snaps-preserved
loop-snaps-preserved c = record {
  to = λ m q rest. c.loop-snaps.invariant.to m q (goes_on (snaps_left c.in-Some.snaps) c.read_all.new.self c.in-Some.ensures.held c.if-not-read_all.ensures.fits (sym c.done.ensures ∙ c.in_default-done.is) rest);
  back = λ m q whole. completes_back (snaps_left c.in-Some.snaps) c.read_all.new.self c.in-Some.ensures.held c.if-not-read_all.ensures.fits (sym c.done.ensures ∙ c.in_default-done.is) (c.loop-snaps.invariant.back m q whole);
}

pub loop-snaps-init : goal.loop-snaps-init
loop-snaps-init c =
    let reads = subst (λ w. Reads (seen c.args.self.now) (fresh c.args.self.now.terms.listing.securities) c.args.first c.progress-remembered.result.now.next w) (sym c.again-awaited.ensures)
    (c.progress-remembered.ensures c.requires.0 c.requires.1).reads in
    record { to = λ m q rest. reads_to reads rest; back = λ m q whole. reads_back reads whole }

pub returns-then-not-read_all-clause-end : goal.returns-then-not-read_all-clause-end
returns-then-not-read_all-clause-end c = λ m q whole. completes_misread (snaps_left c.in-Some.snaps) c.in-Some.ensures.held c.if-not-read_all.ensures.misfits (c.loop-snaps.invariant.back m q whole)

pub returns-clause-end : goal.returns-clause-end
returns-clause-end c = λ m q whole. completes_none c.in_default.ensures.held (c.loop-snaps.invariant.back m q whole)
