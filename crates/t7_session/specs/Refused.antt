-- The numbers of refused requests.
use Rattle.std.specs.Prelude.{ℕ, Option, None}
use Rattle.t7_session.specs.declared.session.Step.{Step}
use Rattle.t7_session.specs.declared.session.Step.TheVariants.{NotYet, Ask, Refuse}

-- the number that the Reject of a step carries, if it is one and carries one
abbrev pub number_refused : Step → Option ℕ
number_refused NotYet = None
number_refused (Ask request) = None
number_refused (Refuse seq reason) = seq
