use Rattle.t7_greedy.proofs.CutFacts.{cut_greedy, cut_whole, first_run, greedy_whole, only_cut}
use Rattle.t7_greedy.proofs.greedy_cuts_are_one.Goals as goal

pub returns-clause-exists : goal.returns-clause-exists
returns-clause-exists g c = cut_greedy

pub returns-clause-only : goal.returns-clause-only
returns-clause-only g c = only_cut

pub returns-clause-next : goal.returns-clause-next
returns-clause-next g c = first_run

pub returns-clause-whole : goal.returns-clause-whole
returns-clause-whole g c = greedy_whole

pub returns-clause-all : goal.returns-clause-all
returns-clause-all g c = cut_whole
