use Rattle.t7_layout.proofs.IndexFacts.{no_ids}
use Rattle.t7_layout.proofs.index.places_of_ids.Goals as goal

pub note_ids-requires-clause-fresh : goal.note_ids-requires-clause-fresh
note_ids-requires-clause-fresh c = rw c.deref_mut.ensures.value (no_ids c.args.templates.now c.args.family c.in_ok-places.places.items c.in_ok-places.ensures.zero c.in_ok-places.ensures.long)
