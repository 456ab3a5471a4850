use Rattle.std.proofs.Common.{sym, arith, ◌∙◌}
use Rattle.std.proofs.lemmas.Bool.Decides.{nat_tests}
use Rattle.t7_base.proofs.ProductFacts.{key_of_security, key_of_session, securities_are, sessions_are}
use Rattle.std.proofs.Common.{rules}
use Rattle.t7_base.specs.ProductFile.{fails_key}
use Rattle.t7_base.proofs.product_file.ProductEntries.fails_key.Goals as goal

pub returns-then-not-is_empty : goal.returns-then-not-is_empty
returns-then-not-is_empty c =
    let rows = c.args.rows.now in
    let sessions = sessions_are _ rows c.args.at (c.self.view_is ∙ c.requires.listed) in
    rw (key_of_security rows c.args.at (omega arith) (sym c.is_security.ensures ∙ c.if-is_security.true), ← sessions) (grind (arith, nat_tests))

pub returns-else-not-is_empty : goal.returns-else-not-is_empty
returns-else-not-is_empty c =
    let rows = c.args.rows.now in
    let sessions = sessions_are _ rows c.args.at (c.self.view_is ∙ c.requires.listed) in
    let securities = securities_are _ rows c.args.at (c.self.view_is ∙ c.requires.listed) in
    rw (key_of_security rows c.args.at (omega arith) (sym c.is_security.ensures ∙ c.if-is_security.true), ← sessions, ← securities) (grind (arith, nat_tests))

pub returns-then-is_empty : goal.returns-then-is_empty
returns-then-is_empty c =
    let rows = c.args.rows.now in
    let securities = securities_are _ rows c.args.at (c.self.view_is ∙ c.requires.listed) in
    rw (key_of_session rows c.args.at (omega arith) (sym c.is_security.ensures ∙ c.if-is_security.false) (sym c.is_session.ensures ∙ c.if-is_session.true), ← securities) (grind (arith, nat_tests))

pub returns-else-is_empty : goal.returns-else-is_empty
returns-else-is_empty c =
    let rows = c.args.rows.now in
    let sessions = sessions_are _ rows c.args.at (c.self.view_is ∙ c.requires.listed) in
    let securities = securities_are _ rows c.args.at (c.self.view_is ∙ c.requires.listed) in
    rw (key_of_session rows c.args.at (omega arith) (sym c.is_security.ensures ∙ c.if-is_security.false) (sym c.is_session.ensures ∙ c.if-is_session.true), ← sessions, ← securities) (grind (arith, nat_tests))

pub returns-then-at-lt4 : goal.returns-then-at-lt4
unfolding fails_key
returns-then-at-lt4 c = search rules

pub returns : goal.returns
unfolding fails_key
returns c = search rules
