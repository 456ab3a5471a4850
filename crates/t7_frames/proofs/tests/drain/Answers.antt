use Rattle.std.proofs.Common.{◌≡◌, ◌++◌, [], ◌∷◌, map, drop, sym, ap, ◌∙◌, rules}
use Rattle.std.proofs.lemmas.List.{map-append}
use Rattle.std.specs.List.{concat}
use Rattle.t7_frames.specs.Lists.{lists}
use Rattle.t7_frames.specs.Frames.{IsFrame, body_len}
use Rattle.t7_frames.proofs.Fronts.{whole-front, concat-push, each-push}
use Rattle.t7_frames.proofs.tests.drain.Goals as goal

pub loop-frame-preserved : goal.loop-frame-preserved
loop-frame-preserved c =
    let front = whole-front c.loop-frame.buf c.in-Whole.frame.now (sym c.in-Whole.ensures.frame) in
    let pushed : lists c.push.new.self ≡ lists c.loop-frame.frames ++ c.in-Whole.frame.now ∷ [] =
    let items : c.in_ok-to_vec.field-0.items ≡ c.in-Whole.frame.now = search rules in
    let was : c.push.new.self.items ≡ c.loop-frame.frames.items ++ c.in_ok-to_vec.field-0 ∷ [] = c.in_ok-push.ensures.items in
    ap (map (λ f. f.items)) was ∙ map-append (λ f. f.items) c.loop-frame.frames.items (c.in_ok-to_vec.field-0 ∷ []) ∙ ap (λ x. lists c.loop-frame.frames ++ x ∷ []) items
    in
    record {
      bytes = ap (λ f. concat f ++ c.skip.new.self) pushed ∙ concat-push (lists c.loop-frame.frames) c.in-Whole.frame.now c.skip.new.self ∙ ap (λ r. concat (lists c.loop-frame.frames) ++ r) (ap (λ r. c.in-Whole.frame.now ++ r) (c.skip.ensures ∙ ap (λ b. drop (body_len b) b) c.front.follows.holds-at-none) ∙ front.split) ∙ c.loop-frame.invariant.bytes;
      each = λ h. rw pushed (each-push IsFrame _ _ (c.loop-frame.invariant.each h) front.is_frame);
    }
