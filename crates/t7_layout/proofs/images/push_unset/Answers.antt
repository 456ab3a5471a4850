use Rattle.std.proofs.Common.{◌∙◌, SFits, sym, rules}
use Rattle.std.specs.Int.{w128}
use Rattle.std.proofs.lemmas.Int.{to_z-of_z}
use Rattle.t7_layout.specs.Images.{null_bytes}
use Rattle.t7_layout.proofs.ImageFacts.{has_null}
use Rattle.t7_layout.proofs.images.push_unset.Goals as goal

pub push_number-requires-clause-high : goal.push_number-requires-clause-high
push_number-requires-clause-high c =
    rw c.width-width.ensures.value (has_null c.args.field c.in-Some.null c.width-width.ensures.place (sym c.null.ensures ∙ c.in-Some.is)).narrow

pub push_number-requires-clause-held : goal.push_number-requires-clause-held
push_number-requires-clause-held c =
    let fit : SFits w128 c.in-Some.null = search rules in
    rw (c.kind.ensures, c.width-width.ensures.value, to_z-of_z w128 c.in-Some.null fit) (has_null c.args.field c.in-Some.null c.width-width.ensures.place (sym c.null.ensures ∙ c.in-Some.is)).held

pub returns-in-Some : goal.returns-in-Some
unfolding null_bytes
returns-in-Some c = search rules

pub returns-in-None : goal.returns-in-None
unfolding null_bytes
returns-in-None c = search rules
