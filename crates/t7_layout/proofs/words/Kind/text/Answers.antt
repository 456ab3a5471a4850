use Rattle.std.proofs.Common.{rules}
use Rattle.t7_layout.specs.Rows.{kind_text}
use Rattle.t7_layout.proofs.words.Kind.text.Goals as goal

pub returns-in-Unsigned : goal.returns-in-Unsigned
unfolding kind_text
returns-in-Unsigned c = search rules

pub returns-in-Signed : goal.returns-in-Signed
unfolding kind_text
returns-in-Signed c = search rules

pub returns-in-Raw : goal.returns-in-Raw
unfolding kind_text
returns-in-Raw c = search rules
