use Rattle.std.proofs.Common.{◌∙◌, ◌++◌, ap, sym, drop, rules, List, ℕ}
use Rattle.t7_fields.specs.Puts.{blank, put_each, written}
use Rattle.t7_fields.proofs.PutFacts.{blank_carries}
use Rattle.t7_fields.proofs.writer.clear.Goals as goal

pub copy_from_slice-requires : goal.copy_from_slice-requires
copy_from_slice-requires c =
    let size = (blank_carries c.args.template.now c.len-size.ensures.layout).size in
    search (rules, size)

pub returns-clause-bytes : goal.returns-clause-bytes
unfolding written put_each
returns-clause-bytes c =
    let size = (blank_carries c.args.template.now c.len-size.ensures.layout).size in
    search (rules, size)
