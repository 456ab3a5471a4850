use Rattle.std.proofs.Common.{◌≡◌, ◌+◌, ◌≤◌, length, max, ap, ◌∙◌, arith, length-append}
use Rattle.t7_frames.specs.Frames.{body_len}
use Rattle.t7_frames.proofs.Fronts.{front_of-gathered, body_len-same, begun-after}
use Rattle.t7_frames.proofs.buffer.gather_frame.Goals as goal
use Rattle.t7_frames.proofs.buffer.gather_frame.Goals.{else-len-ge-SHORTEST-via-then-len-ge-SHORTEST+else-len-le-LONGEST, else-len-ge-SHORTEST-via-else-len-ge-SHORTEST}

pub returns-then-len-le-LONGEST-clause-inside : goal.returns-then-len-le-LONGEST-clause-inside
returns-then-len-le-LONGEST-clause-inside c =
    let first = c.gather.ensures in
    let next = c.gather-then-len-le-LONGEST.ensures in
    let old = c.requires in
    let g1 = c.gather.new.gathered.items in
    let g2 = c.gather-then-len-le-LONGEST.new.gathered.items in
    let len : c.spelled-len.result ≡ body_len g1 = c.spelled-len.ensures ∙ ap body_len c.deref.ensures.value in
    let four : 4 ≤ length g1 = omega arith in
    let sum1 : length g1 + length c.gather.new.ring.items ≡ length c.args.gathered.now.items + length c.args.ring.now.items = omega (arith, simp length-append at (ap length first.bytes)) in
    let sum2 : length g2 + length c.gather-then-len-le-LONGEST.new.ring.items ≡ length g1 + length c.gather.new.ring.items = omega (arith, simp length-append at (ap length next.bytes)) in
    let same : body_len g2 ≡ body_len g1 = body_len-same _ _ _ _ next.bytes (omega arith) four in
    record {
      capacity = next.room.1 ∙ first.room.1 ∙ old.capacity;
      room = omega arith;
      held = omega arith;
      few = omega arith;
      begun = λ _. begun-after g2 _ c.args.gathered.now.items _ (max 4 c.spelled-len.result) (next.bytes ∙ first.bytes) (omega arith) old.begun (omega arith) (omega arith);
    }

pub returns-then-len-le-LONGEST-clause-front : goal.returns-then-len-le-LONGEST-clause-front
returns-then-len-le-LONGEST-clause-front c =
    let first = c.gather.ensures in
    let next = c.gather-then-len-le-LONGEST.ensures in
    let g1 = c.gather.new.gathered.items in
    let g2 = c.gather-then-len-le-LONGEST.new.gathered.items in
    let len : c.spelled-len.result ≡ body_len g1 = c.spelled-len.ensures ∙ ap body_len c.deref.ensures.value in
    let four : 4 ≤ length g1 = omega arith in
    let sum2 : length g2 + length c.gather-then-len-le-LONGEST.new.ring.items ≡ length g1 + length c.gather.new.ring.items = omega (arith, simp length-append at (ap length next.bytes)) in
    let same : body_len g2 ≡ body_len g1 = body_len-same _ _ _ _ next.bytes (omega arith) four in
    front_of-gathered _ _ _ (next.bytes ∙ first.bytes) (omega arith) (λ some low high. omega arith)

pub returns-else-len-ge-SHORTEST-clause-inside : goal.returns-else-len-ge-SHORTEST-clause-inside
returns-else-len-ge-SHORTEST-clause-inside c =
    let first = c.gather.ensures in
    let old = c.requires in
    let g1 = c.gather.new.gathered.items in
    let four : 4 ≤ length g1 = omega arith in
    let sum1 : length g1 + length c.gather.new.ring.items ≡ length c.args.gathered.now.items + length c.args.ring.now.items = omega (arith, simp length-append at (ap length first.bytes)) in
    let same : 4 ≤ length c.args.gathered.now.items → body_len g1 ≡ body_len c.args.gathered.now.items = λ h. body_len-same _ _ _ _ first.bytes four h in
    record {
      capacity = first.room.1 ∙ old.capacity;
      room = omega arith;
      held = omega arith;
      few = omega arith;
      begun = λ _. begun-after g1 _ c.args.gathered.now.items _ 4 first.bytes four old.begun (omega arith) (omega arith);
    }

pub returns-else-len-ge-SHORTEST-clause-front : goal.returns-else-len-ge-SHORTEST-clause-front
returns-else-len-ge-SHORTEST-clause-front c =
    let first = c.gather.ensures in
    let g1 = c.gather.new.gathered.items in
    let len : c.spelled-len.result ≡ body_len g1 = c.spelled-len.ensures ∙ ap body_len c.deref.ensures.value in
    let four : 4 ≤ length g1 = omega arith in
    front_of-gathered _ _ _ first.bytes four (λ some low high.
    elim c.else-len-ge-SHORTEST.branch [
      | else-len-ge-SHORTEST-via-then-len-ge-SHORTEST+else-len-le-LONGEST w ↦ omega arith
      | else-len-ge-SHORTEST-via-else-len-ge-SHORTEST w ↦ omega arith
    ])
