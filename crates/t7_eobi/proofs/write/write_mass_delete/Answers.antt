use Rattle.std.proofs.Common.{refl, rules}
use Rattle.t7_base.specs.declared.public.Public.TheVariants as public
use Rattle.t7_eobi.specs.Bytes.{IsPublic, public_fields}
use Rattle.t7_fields.proofs.WriteFacts.{alone_at}
use Rattle.t7_eobi.proofs.write.write_mass_delete.Goals as goal

pub say-requires-clause-said : goal.say-requires-clause-said
unfolding public_fields
say-requires-clause-said c =
    let ranged : IsPublic (public.MassDelete c.args.security) = search rules in
    let one = alone_at c.args.table.now c.args.role (public_fields c.args.number (public.MassDelete c.args.security)) 0 _ (c.requires.said ranged) refl in
    search (rules, one)

pub say-requires-2-clause-said : goal.say-requires-2-clause-said
unfolding public_fields
say-requires-2-clause-said c =
    let ranged : IsPublic (public.MassDelete c.args.security) = search rules in
    let one = alone_at c.args.table.now c.args.role (public_fields c.args.number (public.MassDelete c.args.security)) 1 _ (c.requires.said ranged) refl in
    search (rules, one)

pub returns-clause-said : goal.returns-clause-said
unfolding public_fields
returns-clause-said c =
    let all = c.say-2.ensures.said _ _ (c.say.ensures.said _ _ c.begin-size.ensures.said) in
    search (rules, all)
