use Rattle.std.proofs.Common.{◌≡◌, ◌-◌, length, take, drop, rules, arith, length-drop}
use Rattle.std.proofs.lemmas.List.{take_all}
use Rattle.t7_fields.specs.Spelling.{length_width, template_id}
use Rattle.t7_client.proofs.hearing.template_id.Goals as goal

pub returns : goal.returns
unfolding template_id length_width
returns c = let frame = c.args.frame.now in let count : length (drop 4 frame) ≡ length frame - 4 = length-drop 4 frame in let whole : take (length frame - 4) (drop 4 frame) ≡ drop 4 frame = take_all (length frame - 4) (drop 4 frame) (omega arith) in search (rules, whole)
