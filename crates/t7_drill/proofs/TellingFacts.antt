-- Lines behind lines.
use Rattle.std.proofs.Common.{◌≡◌, List, [], ◌∷◌, ◌++◌, ℕ, sym, ap, ◌∙◌, append_assoc}
use Rattle.t7_base.specs.declared.ids.Feed.{Feed}
use Rattle.t7_lines.specs.declared.tally.Tally.{Tally}
use Rattle.t7_lines.specs.Gap.{tally_of}
use Rattle.t7_member.specs.Keeping.{Image}
use Rattle.t7_outcome.specs.Outcome.{text_of}
use Rattle.t7_outcome.proofs.Lines.{text_of-append}
use Rattle.t7_drill.specs.Kits.{Kit}
use Rattle.t7_drill.specs.Telling.{tally_line}

-- lines were put behind lines
pub lines_behind : (text mid end : List ℕ) (xs ys : List (List ℕ)) → mid ≡ text ++ text_of xs → end ≡ mid ++ text_of ys → end ≡ text ++ text_of (xs ++ ys)
lines_behind text mid end xs ys first later =
    later ∙ ap (λ (l : List ℕ). l ++ text_of ys) first ∙ append_assoc text (text_of xs) (text_of ys)
    ∙ ap (λ (l : List ℕ). text ++ l) (sym (text_of-append xs ys))

-- the line of a feed was put
pub tally_said : (before after : List ℕ) (feed : Feed) (t : Tally) (image : Image) (kit : Kit) → after ≡ before ++ text_of (tally_line feed t ∷ [])
    → t ≡ tally_of image.tallies feed → image ≡ kit.image → after ≡ before ++ text_of (tally_line feed (tally_of kit.image.tallies feed) ∷ [])
tally_said before after feed t image kit put is same =
    put ∙ ap (λ (y : Tally). before ++ text_of (tally_line feed y ∷ [])) (is ∙ ap (λ (m : Image). tally_of m.tallies feed) same)
