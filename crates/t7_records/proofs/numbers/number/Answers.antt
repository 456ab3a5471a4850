use Rattle.std.proofs.Common.{rules}
use Rattle.t7_records.specs.Numbers.{number_to}
use Rattle.t7_records.proofs.numbers.number.Goals as goal

pub returns-in-Some-clause-value : goal.returns-in-Some-clause-value
unfolding number_to
returns-in-Some-clause-value c = search rules

pub returns-in-None-clause-value : goal.returns-in-None-clause-value
unfolding number_to
returns-in-None-clause-value c = search rules
