use Rattle.t7_fields.proofs.SpellFacts.{contains_at, one_each}
use Rattle.t7_fields.proofs.laws.one_record.Goals as goal

pub returns : goal.returns
returns c t r s b l x y = one_each t.fields r s b (λ k f e. (l.places f (contains_at t.fields k f e)).some) x.fields y.fields
