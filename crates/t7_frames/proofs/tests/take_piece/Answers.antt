use Rattle.std.proofs.Common.{◌≡◌, ◌++◌, ◌+◌, List, ℕ, take, drop, sym, ap, ◌∙◌, arith}
use Rattle.std.proofs.lemmas.List.{append_assoc, take_rest}
use Rattle.std.proofs.lemmas.Grind.{common_steps}
use Rattle.std.proofs.Math.Seq.{take-add}
use Rattle.std.specs.List.{concat}
use Rattle.t7_frames.specs.Lists.{lists}
use Rattle.t7_frames.proofs.tests.take_piece.Goals as goal

-- the bytes fed so far, after one feed more
fed_more : (before held : List ℕ) (start piece : List ℕ) (at n : ℕ) (all : List ℕ)
    → before ++ held ≡ start ++ take at piece → all ≡ before ++ (held ++ take n (drop at piece)) → all ≡ start ++ take (at + n) piece
fed_more before held start piece at n all is now =
    now ∙ sym (append_assoc before held (take n (drop at piece))) ∙ ap (λ r. r ++ take n (drop at piece)) is
    ∙ append_assoc start (take at piece) (take n (drop at piece)) ∙ ap (λ r. start ++ r) (sym (take-add at n piece))

pub loop-at-preserved : goal.loop-at-preserved
loop-at-preserved c =
    let at = c.loop-at.at in
    let n = c.feed-count.result in
    let piece = c.args.piece.now in
    let fed : c.feed-count.new.self ≡ c.loop-at.buf ++ take n (drop at piece) = c.feed-count.ensures.bytes ∙ ap (λ r. c.loop-at.buf ++ take n r) (take_rest piece at) in
    record {
      within = grind (arith, common_steps);
      bytes = fed_more (concat (lists c.loop-at.frames)) c.loop-at.buf (concat (lists c.args.frames.now) ++ c.args.buf.now) piece at n _ c.loop-at.invariant.bytes (c.in_ok-drain.ensures.bytes ∙ ap (λ r. concat (lists c.loop-at.frames) ++ r) fed);
      each = λ h. c.in_ok-drain.ensures.each (c.loop-at.invariant.each h);
      ends = c.in_ok-drain.ensures.ok;
    }
