-- The drill.
use Rattle.std.proofs.Common.{◌≡◌, ℕ, List, [], ◌∷◌, Option, None, Some, Ok, Err, IfOk, IfErr, refl, sym, ◌∙◌, ap, subst}
use Rattle.t7_base.specs.Listing.{Listing}
use Rattle.t7_base.specs.Outside.{Grew}
use Rattle.t7_base.specs.ProductFile.{ProductFault}
use Rattle.t7_base.proofs.Grown.{grew_as, grew_nothing}
use Rattle.t7_drill.specs.Drilled.{IsRoomy, IsSynced, IsTold, OfDrill, WroteDrill}
use Rattle.t7_drill.specs.Telling.{Told, lines_of}
use Rattle.t7_drill.specs.Worlds.{World, drilled}
use Rattle.t7_entry.specs.Days.{last_of}
use Rattle.t7_entry.specs.State.{Setting}
use Rattle.t7_layout.specs.Layouts.{Layout}
use Rattle.t7_layout.specs.declared.words.TableFault.{TableFault}
use Rattle.t7_outcome.specs.declared.ending.Finish.{Finish}
use Rattle.t7_outcome.specs.declared.ending.Finish.TheVariants.{End}
use Rattle.t7_outcome.specs.declared.ending.Stop.{Stop}
use Rattle.t7_outcome.specs.declared.ending.Stop.TheVariants.{Layout as LayoutStop, Product, WriteFault, Memory}
use Rattle.t7_outcome.specs.Ending.{Ended}
use Rattle.t7_outcome.specs.Outcome.{Ends, Shows, Wrote}
use Rattle.t7_outcome.proofs.Lines.{fronts_all, fronts_none, spelled_shown}
use Rattle.t7_top.specs.Exercise.{drill_setting, exercised, told_day}
use Rattle.t7_top.specs.Moments.{IsReported, OfDrill as at_drill}
use Rattle.t7_top.specs.Refusals.{RefusesProduct, RefusesTable}
use Rattle.t7_top.proofs.Roomy.{drilled_setting, roomy}

-- of a table without a fault, and of such a product, nothing but memory is wanting
pub table_memory : (fault : Option TableFault) (stop : Stop) → fault ≡ None → RefusesTable fault stop → stop ≡ Memory
table_memory fault (LayoutStop found) none is = cc (none, is)
table_memory fault Memory none is = refl
table_memory fault stop none is = absurd is

pub product_memory : (fault : Option ProductFault) (stop : Stop) → fault ≡ None → RefusesProduct fault stop → stop ≡ Memory
product_memory fault (Product row why) none is = cc (none, is)
product_memory fault Memory none is = refl
product_memory fault stop none is = absurd is

-- what is due of a day that is told
told_ends : (world : World) (ended : Ended) → IfOk ended (λ finish. finish ≡ End (last_of world.day)) → IfErr ended OfDrill → Ends (told_day world) ended
told_ends world (Ok finish) is of = ap (λ (f : Finish). let ended : Ended = Ok f in Some ended) (sym is)
told_ends world (Err WriteFault) is of = tt
told_ends world (Err Memory) is of = tt
told_ends world (Err stop) is of = absurd of

told_wrote : (world : World) (ended : Ended) (w : List ℕ) → IfErr ended OfDrill → ((told : Told) → IsTold world told → IsSynced told) → WroteDrill world ended w
    → Wrote IsReported (told_day world) ended w
told_wrote world (Ok finish) w of synced wrote =
    (lines_of wrote.0, spelled_shown IsReported (at_drill world) (lines_of wrote.0) (wrote.0, wrote.1, synced wrote.0 wrote.1, refl), wrote.2)
told_wrote world (Err WriteFault) w of synced wrote = (
  lines_of wrote.0,
  fronts_all IsReported (Shows (at_drill world) ∷ []) (lines_of wrote.0)
      (spelled_shown IsReported (at_drill world) (lines_of wrote.0) (wrote.0, wrote.1, synced wrote.0 wrote.1, refl)),
  wrote.2,
)
told_wrote world (Err Memory) w of synced wrote = ([], [], fronts_none IsReported (Shows (at_drill world) ∷ []), ([], refl), wrote)
told_wrote world (Err stop) w of synced wrote = absurd of

-- the member of a drill shows the last message, and has the exchange's orders
drills_synced : (seed orders : ℕ) (told : Told) → IsTold (drilled drill_setting seed orders) told → IsSynced told
drills_synced seed orders told is = is.synced (is.fits (subst IsRoomy (sym (drilled_setting drill_setting seed orders)) roomy))

-- where memory is wanting for the table or the product, nothing is written
pub memory_end : (seed orders : ℕ) (stop : Stop) → stop ≡ Memory → Ends (exercised seed orders) (Err stop)
memory_end seed orders stop is = rw is tt

pub memory_text : (seed orders : ℕ) (stop : Stop) (p : Option (List ℕ)) → stop ≡ Memory → Grew p p (Wrote IsReported (exercised seed orders) (Err stop))
memory_text seed orders stop p is =
    rw is (grew_nothing p (Wrote IsReported (exercised seed orders) (Err Memory))
    ([], [], fronts_none IsReported (Shows (at_drill (drilled drill_setting seed orders)) ∷ []), ([], refl), refl))

pub memory_only : (stop : Stop) → stop ≡ Memory → OfDrill stop
memory_only stop is = rw is tt

-- a table and a product make a setting
pub settings : (layouts other : List Layout) (listing like : Listing) → layouts ≡ other → listing ≡ like
    → (let setting : Setting = record { layouts = layouts; listing = listing } in setting) ≡ record { layouts = other; listing = like }
settings layouts other listing like same is =
    ap (λ (l : List Layout). let setting : Setting = record { layouts = l; listing = listing } in setting) same
    ∙ ap (λ (l : Listing). let setting : Setting = record { layouts = other; listing = l } in setting) is

-- else the day is told
pub day_end : (setting : Setting) (seed orders : ℕ) (ended : Ended) → setting ≡ drill_setting
    → IfOk ended (λ finish. finish ≡ End (last_of (drilled setting seed orders).day)) → IfErr ended OfDrill → Ends (exercised seed orders) ended
day_end setting seed orders ended same is of = subst (λ (s : Setting). Ends (told_day (drilled s seed orders)) ended) same (told_ends (drilled setting seed orders) ended is of)

pub day_text : (setting : Setting) (seed orders : ℕ) (ended : Ended) (p q : Option (List ℕ)) → setting ≡ drill_setting → IfErr ended OfDrill
    → Grew p q (WroteDrill (drilled setting seed orders) ended) → Grew p q (Wrote IsReported (exercised seed orders) ended)
day_text setting seed orders ended p q same of wrote =
    let here : Grew p q (WroteDrill (drilled drill_setting seed orders) ended) = subst (λ (s : Setting). Grew p q (WroteDrill (drilled s seed orders) ended)) same wrote in
    grew_as p q (WroteDrill (drilled drill_setting seed orders) ended) (Wrote IsReported (exercised seed orders) ended) here
    (λ w one. told_wrote (drilled drill_setting seed orders) ended w of (drills_synced seed orders) one)
