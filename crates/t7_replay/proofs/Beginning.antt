-- Before the first line.
use Rattle.std.proofs.Common.{◌≡◌, false, List, [], None, length, refl, sym, ◌∙◌, ap, subst, arith}
use Rattle.t7_base.specs.declared.ids.Channel.{Channel}
use Rattle.t7_base.specs.declared.ids.Channel.TheVariants.{Live, Snap}
use Rattle.t7_book.specs.Acts.{Act}
use Rattle.t7_entry.specs.Days.{Day, new_day}
use Rattle.t7_entry.specs.State.{start}
use Rattle.t7_acts.specs.InStep.{setting_of}
use Rattle.t7_acts.specs.Left.{left_of}
use Rattle.t7_layout.specs.Lookups.{IsTable}
use Rattle.t7_feed.specs.Arrivals.{AreTerms, Terms}
use Rattle.t7_feed.specs.Sending.{sent_on}
use Rattle.t7_member.specs.Keeping.{Keeps}
use Rattle.t7_replay.specs.Kits.{Kit, Stands, terms_of}
use Rattle.t7_replay.specs.World.{new_world}
use Rattle.t7_replay.proofs.Entering.{same_day}

-- the program stands in the world before the first line
pub stands_new : (terms : Terms) (kit : Kit) → ((terms : Terms) (channel : Channel) → sent_on terms [] channel ≡ []) → ((terms : Terms) → left_of terms [] ≡ [])
    → kit.day ≡ new_day (setting_of terms) → kit.lives ≡ [] → kit.snaps ≡ [] → kit.caller ≡ None → kit.moment ≡ 0 → kit.raw ≡ false → kit.row ≡ 0 → kit.layouts ≡ terms.layouts → kit.listing ≡ terms.listing
    → kit.image.terms ≡ terms → ((acts : List Act) → Keeps kit.image.terms acts kit.image []) → AreTerms (record { layouts = kit.day.setting.layouts; listing = kit.day.setting.listing }) → Stands terms new_world kit
stands_new terms kit sent left day lives snaps caller moment raw row layouts listing same keeps are = record {
  day = day ∙ same_day (setting_of terms) start _ _ _ _ _ _ _ _ (sym (ap length (sent terms Live))) refl (sym (left terms)) refl;
  lives = lives ∙ sym (sent terms Live);
  snaps = snaps ∙ sym (sent terms Snap);
  caller = caller;
  moment = moment;
  raw = raw;
  row = row;
  layouts = layouts;
  listing = listing;
  commands = refl;
  numbered = ap length (sent terms Snap);
  few_beats = omega arith;
  few_snaps = omega arith;
  few_made = omega arith;
  few_lines = omega arith;
  genuine = λ not. tt;
  keeps = λ acts those. subst (λ (t : Terms). Keeps t acts kit.image []) same (keeps acts);
  table = subst (λ (d : Day). IsTable d.setting.layouts) day are.table;
  said = tt;
  sound = tt;
  paired = λ conn none. refl;
}

-- the terms of a program that stands in a world
pub terms_are : (terms : Terms) (kit : Kit) → Stands terms new_world kit → terms_of kit ≡ terms
terms_are terms kit stands = ap (λ (d : Day). let t : Terms = record { layouts = d.setting.layouts; listing = d.setting.listing } in t) stands.day

pub stands_own : (terms : Terms) (kit : Kit) → Stands terms new_world kit → Stands (terms_of kit) new_world kit
stands_own terms kit stands = subst (λ (t : Terms). Stands t new_world kit) (sym (terms_are terms kit stands)) stands
