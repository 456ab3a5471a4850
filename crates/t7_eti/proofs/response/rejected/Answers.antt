use Rattle.std.proofs.Common.{rules}
use Rattle.t7_layout.specs.Roles.{kind_of}
use Rattle.t7_eti.proofs.RangeFacts.{reject_number}
use Rattle.t7_eti.proofs.NullFacts.{number_width, abs_said}
use Rattle.t7_eti.proofs.response.rejected.Goals as goal

pub said_word-requires-clause-there : goal.said_word-requires-clause-there
unfolding kind_of
said_word-requires-clause-there c = search (rules, reject_number, number_width, abs_said)

pub said_word-requires-clause-kind : goal.said_word-requires-clause-kind
unfolding kind_of
said_word-requires-clause-kind c = search (rules, reject_number, number_width, abs_said)

pub said_word-requires-clause-width : goal.said_word-requires-clause-width
unfolding kind_of
said_word-requires-clause-width c = search (rules, reject_number, number_width, abs_said)
