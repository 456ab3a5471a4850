use Rattle.std.proofs.Common.{◌≡◌, pos, rules, ◌∙◌, sym, arith}
use Rattle.std.specs.Prelude.{◌≤ℤ◌, Result, Ok, Err, OnOk}
use Rattle.std.specs.Int.{w64}
use mir.Val.{to_z, of_z}
use Rattle.std.specs.declared.alloc.AllocError.{AllocError}
use Rattle.std.proofs.lemmas.Int.{ints, to_z-of_z}
use Rattle.t7_base.specs.ProductLists.{ProductRows}
use Rattle.t7_base.proofs.ProductFacts.{lists_none, passes, security_fits, session_fits, with_security, with_session}
use Rattle.t7_base.proofs.product_file.ProductEntries.push.Goals as goal

on_ok : (r : Result (Unit {0}) AllocError) (a b d : ProductRows) → OnOk r (a ≡ b) → b ≡ d → OnOk r (a ≡ d)
on_ok (Ok x) a b d h e = h ∙ e
on_ok (Err x) a b d h e = tt

pub returns-then-at-lt4 : goal.returns-then-at-lt4
returns-then-at-lt4 c = record { ok = c.requires.listed ∙ lists_none c.args.rows.now c.args.at (omega arith) }

pub push_security-requires-clause-few : goal.push_security-requires-clause-few
push_security-requires-clause-few c =
    let fits = security_fits c.args.rows.now c.args.at (omega arith) (sym c.is_security.ensures ∙ c.if-is_security.true) (passes c.args.rows.now c.args.at c.requires.passes) in
    rw c.requires.listed fits.few

pub push_security-requires-clause-security : goal.push_security-requires-clause-security
push_security-requires-clause-security c =
    let fits = security_fits c.args.rows.now c.args.at (omega arith) (sym c.is_security.ensures ∙ c.if-is_security.true) (passes c.args.rows.now c.args.at c.requires.passes) in
    (rw c.security_of.ensures.value fits.security, c.security_of.ensures.most)

pub push_security-requires-clause-tick : goal.push_security-requires-clause-tick
push_security-requires-clause-tick c =
    let fits = security_fits c.args.rows.now c.args.at (omega arith) (sym c.is_security.ensures ∙ c.if-is_security.true) (passes c.args.rows.now c.args.at c.requires.passes) in
    let least : pos 1 ≤ℤ c.tick_of.result = rw c.tick_of.ensures.value fits.tick in
    (omega (arith, ints), omega (arith, ints))

pub push_security-requires-clause-absent : goal.push_security-requires-clause-absent
push_security-requires-clause-absent c =
    let fits = security_fits c.args.rows.now c.args.at (omega arith) (sym c.is_security.ensures ∙ c.if-is_security.true) (passes c.args.rows.now c.args.at c.requires.passes) in
    rw (c.requires.listed, c.security_of.ensures.value) fits.absent

pub returns-then-is_security : goal.returns-then-is_security
returns-then-is_security c =
    let e = with_security c.args.rows.now c.args.at (omega arith) c.requires.inside (sym c.is_security.ensures ∙ c.if-is_security.true) in
    let back : to_z w64 (of_z w64 c.tick_of.result) ≡ c.tick_of.result = to_z-of_z w64 c.tick_of.result (search rules) in
    record { ok = on_ok c.push_security.result _ _ _ c.push_security.ensures.ok (rw (back, c.requires.listed, c.security_of.ensures.value, c.tick_of.ensures.value) e) }

pub push_session-requires-clause-few : goal.push_session-requires-clause-few
push_session-requires-clause-few c =
    let fits = session_fits c.args.rows.now c.args.at (omega arith) (sym c.is_security.ensures ∙ c.if-is_security.false) (passes c.args.rows.now c.args.at c.requires.passes) in
    rw c.requires.listed fits.few

pub push_session-requires-clause-session : goal.push_session-requires-clause-session
push_session-requires-clause-session c =
    let fits = session_fits c.args.rows.now c.args.at (omega arith) (sym c.is_security.ensures ∙ c.if-is_security.false) (passes c.args.rows.now c.args.at c.requires.passes) in
    (rw c.session_of.ensures.value fits.session, c.session_of.ensures.most)

pub push_session-requires-clause-absent : goal.push_session-requires-clause-absent
push_session-requires-clause-absent c =
    let fits = session_fits c.args.rows.now c.args.at (omega arith) (sym c.is_security.ensures ∙ c.if-is_security.false) (passes c.args.rows.now c.args.at c.requires.passes) in
    rw (c.requires.listed, c.session_of.ensures.value) fits.absent

pub push_session-requires-clause-begun : goal.push_session-requires-clause-begun
push_session-requires-clause-begun c =
    let fits = session_fits c.args.rows.now c.args.at (omega arith) (sym c.is_security.ensures ∙ c.if-is_security.false) (passes c.args.rows.now c.args.at c.requires.passes) in
    rw c.requires.listed fits.begun

pub returns : goal.returns
returns c =
    let security : _ = sym c.is_security.ensures ∙ c.if-is_security.false in
    let fits = session_fits c.args.rows.now c.args.at (omega arith) security (passes c.args.rows.now c.args.at c.requires.passes) in
    let e = with_session c.args.rows.now c.args.at (omega arith) c.requires.inside security fits.is in
    record { ok = on_ok c.push_session.result _ _ _ c.push_session.ensures.ok (rw (c.requires.listed, c.session_of.ensures.value) e) }
