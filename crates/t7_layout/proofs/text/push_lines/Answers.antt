use Rattle.std.proofs.Common.{take}
use Rattle.std.specs.Prelude.{Result, Ok, Err, OnErr}
use Rattle.std.specs.List.{flat_map}
use Rattle.t7_layout.specs.Texts.{line_of}
use Rattle.t7_layout.proofs.TextFacts.{begins_through}
use Rattle.t7_layout.proofs.text.push_lines.Goals as goal

on_err : {A B : Type 0} (P : Type 0) → P → (r : Result A B) → OnErr r P
on_err P p (Ok a) = tt
on_err P p (Err b) = p

pub returns-in_err-push_line-clause-err : goal.returns-in_err-push_line-clause-err
returns-in_err-push_line-clause-err c =
    on_err _ (begins_through c.args.out.now.items c.loop-template.out.items (flat_map line_of (take c.loop-template.template-index c.args.templates.now)) c.push_line.new.out.items c.loop-template.invariant
    c.in_err-push_line.ensures.err) c.from_residual.result
