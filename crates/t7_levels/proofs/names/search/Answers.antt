use Rattle.std.proofs.Common.{rules}
use Rattle.std.proofs.lemmas.List.Sorted.{answers_always}
use Rattle.t7_levels.proofs.NamedLemmas.{searched}
use Rattle.t7_levels.proofs.names.search.Goals as goal

-- the closure gives an entry's name
pub returns-clause-found : goal.returns-clause-found
returns-clause-found g c =
    let facts = c.binary_search_by_key.ensures in
    let by_key = facts.position (λ entry. entry.0) (answers_always _ _ _ (λ f a r h called. search rules)) in
    (searched g.K.Ord.cmp g.met.K.Ord.total c.args.entries.now c.args.name c.requires _ facts.bound by_key).found

pub returns-clause-absent : goal.returns-clause-absent
returns-clause-absent g c =
    let facts = c.binary_search_by_key.ensures in
    let by_key = facts.position (λ entry. entry.0) (answers_always _ _ _ (λ f a r h called. search rules)) in
    (searched g.K.Ord.cmp g.met.K.Ord.total c.args.entries.now c.args.name c.requires _ facts.bound by_key).absent
