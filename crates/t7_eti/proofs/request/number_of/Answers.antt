use Rattle.std.proofs.Common.{◌≡◌, ◌≢◌, ◌∙◌, Bool, true, false, None, Some, cond, sym, ap, arith}
use Rattle.t7_eti.specs.Requests.{is_numbered}
use Rattle.t7_eti.proofs.NullFacts.{number_equal, number_never, number_none, number_other, number_some}
use Rattle.std.proofs.Common.{rules}
use Rattle.t7_layout.specs.Roles.{kind_of}
use Rattle.t7_eti.proofs.NullFacts.{numbered_required, number_width}
use Rattle.t7_eti.proofs.request.number_of.Goals as goal

pub returns-then-not-is_numbered-clause-value : goal.returns-then-not-is_numbered-clause-value
returns-then-not-is_numbered-clause-value c =
    let e : is_numbered c.args.m.now.role ≡ false = cc in
    sym (number_never c.args.m.now e)

pub returns-else-number-clause-value : goal.returns-else-number-clause-value
returns-else-number-clause-value c =
    let e : is_numbered c.args.m.now.role ≡ true = cc in
    let other : c.in-Some.number ≢ 4_294_967_295 = omega arith in
    sym (number_some c.args.m.now c.said_word.result c.in-Some.number e c.said_word.ensures c.in-Some.is ∙ ap (λ (b : Bool). cond b None (Some c.in-Some.number)) (number_other c.in-Some.number other))

pub returns-then-number-clause-value : goal.returns-then-number-clause-value
returns-then-number-clause-value c =
    let e : is_numbered c.args.m.now.role ≡ true = cc in
    let same : c.in-Some.number ≡ 4_294_967_295 = omega arith in
    sym (number_some c.args.m.now c.said_word.result c.in-Some.number e c.said_word.ensures c.in-Some.is ∙ ap (λ (b : Bool). cond b None (Some c.in-Some.number)) (number_equal c.in-Some.number same))

pub returns-in-None-clause-value : goal.returns-in-None-clause-value
returns-in-None-clause-value c = sym (number_none c.args.m.now c.said_word.result c.said_word.ensures c.in-None.is)

pub said_word-requires-clause-there : goal.said_word-requires-clause-there
unfolding kind_of
said_word-requires-clause-there c = search (rules, numbered_required, number_width)

pub said_word-requires-clause-kind : goal.said_word-requires-clause-kind
unfolding kind_of
said_word-requires-clause-kind c = search (rules, numbered_required, number_width)

pub said_word-requires-clause-width : goal.said_word-requires-clause-width
unfolding kind_of
said_word-requires-clause-width c = search (rules, numbered_required, number_width)
