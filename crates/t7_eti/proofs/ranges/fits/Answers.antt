use Rattle.std.proofs.Common.{rules}
use Rattle.t7_eti.specs.Ranges.{fits}
use Rattle.t7_eti.proofs.RangeFacts.{raw_fits}
use Rattle.t7_eti.proofs.ranges.fits.Goals as goal

pub returns-in-Some : goal.returns-in-Some
unfolding fits
returns-in-Some c = search (rules, raw_fits)

pub returns-in-None : goal.returns-in-None
unfolding fits
returns-in-None c = search (rules, raw_fits)

pub returns-in-Some-signed : goal.returns-in-Some-signed
unfolding fits
returns-in-Some-signed c = search (rules, raw_fits)

pub returns-in-None-signed : goal.returns-in-None-signed
unfolding fits
returns-in-None-signed c = search (rules, raw_fits)

pub returns-in-Raw : goal.returns-in-Raw
unfolding fits
returns-in-Raw c = search (rules, raw_fits)
