use Rattle.std.proofs.Common.{sym, arith, ◌∙◌, refl}
use Rattle.t7_base.proofs.ProductFacts.{duplicate_of_security, duplicate_of_session, securities_are, sessions_are}
use Rattle.std.proofs.Common.{rules}
use Rattle.t7_base.specs.ProductFile.{fails_duplicate}
use Rattle.t7_base.proofs.product_file.ProductEntries.fails_duplicate.Goals as goal

pub returns-then-is_security : goal.returns-then-is_security
returns-then-is_security c =
    let rows = c.args.rows.now in
    let securities = securities_are _ rows c.args.at (c.self.view_is ∙ c.requires.listed) in
    rw (duplicate_of_security rows c.args.at (omega arith) (sym c.is_security.ensures ∙ c.if-is_security.true), ← securities, ← c.security_of.ensures.value, c.contains.ensures.value, c.deref.ensures.value) refl

pub returns : goal.returns
returns c =
    let rows = c.args.rows.now in
    let sessions = sessions_are _ rows c.args.at (c.self.view_is ∙ c.requires.listed) in
    rw (duplicate_of_session rows c.args.at (omega arith) (sym c.is_security.ensures ∙ c.if-is_security.false), ← sessions, ← c.session_of.ensures.value, c.contains-2.ensures.value, c.deref-2.ensures.value) refl

pub returns-then-at-lt4 : goal.returns-then-at-lt4
unfolding fails_duplicate
returns-then-at-lt4 c = search rules
