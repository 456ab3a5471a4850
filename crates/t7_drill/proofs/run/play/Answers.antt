-- What is written is what the day's end tells.
use Rattle.std.proofs.Common.{◌∙◌, ap, sym}
use Rattle.t7_entry.specs.Days.{last_of}
use Rattle.t7_outcome.specs.declared.ending.Finish.TheVariants.{End}
use Rattle.t7_drill.specs.Worlds.{World, drilled, new_world}
use Rattle.t7_drill.proofs.ToldFacts.{is_told, wrote_all, wrote_front}
use Rattle.t7_drill.proofs.run.play.Goals as goal

pub returns-in-Ok-put-clause-written : goal.returns-in-Ok-put-clause-written
returns-in-Ok-put-clause-written g c = λ setting seed stands.
    let kit = c.run.new.self in
    let steps = c.days_stay_in_step.ensures in
    let sound = c.is_sound.ensures in
    let told = is_told
    (record {
      steps = record { begin = steps.begin; event = steps.event; beat = steps.beat; snap = steps.snap };
      reported = c.kept_is_reported.ensures;
      said = c.genuine_deliveries_are_sent.ensures.said;
      last = c.last_markets_are_books.ensures;
      books = c.markets_are_books.ensures;
    })
    setting seed c.args.orders kit (record { terms = sound.terms; accepted = sound.accepted; ranged = sound.ranged; few = c.in-Ok.ensures.few })
    (c.in-Ok.ensures.stands (new_world setting seed) stands) in
    wrote_all _ _ (drilled setting seed c.args.orders) kit c.deref.result.now c.messages.result told
    (c.deref.ensures.value ∙ c.in-Ok-tell.ensures) c.messages.ensures
    c.in-Ok-put.ensures.ok

pub returns-clause-written : goal.returns-clause-written
returns-clause-written g c = λ setting seed stands.
    let kit = c.run.new.self in
    let steps = c.days_stay_in_step.ensures in
    let sound = c.is_sound.ensures in
    let told = is_told
    (record {
      steps = record { begin = steps.begin; event = steps.event; beat = steps.beat; snap = steps.snap };
      reported = c.kept_is_reported.ensures;
      said = c.genuine_deliveries_are_sent.ensures.said;
      last = c.last_markets_are_books.ensures;
      books = c.markets_are_books.ensures;
    })
    setting seed c.args.orders kit (record { terms = sound.terms; accepted = sound.accepted; ranged = sound.ranged; few = c.in-Ok.ensures.few })
    (c.in-Ok.ensures.stands (new_world setting seed) stands) in
    wrote_front _ _ (drilled setting seed c.args.orders) kit c.deref.result.now told (c.deref.ensures.value ∙ c.in-Ok-tell.ensures) c.in-Err.ensures.err

pub returns-in-Ok-put-clause-end : goal.returns-in-Ok-put-clause-end
returns-in-Ok-put-clause-end g c = λ setting seed stands.
    let after = c.in-Ok.ensures.stands (new_world setting seed) stands in
    ap (λ m. End m) (c.messages.ensures ∙ ap last_of (sym (ap (λ (x : World). x.day) after.is)))
