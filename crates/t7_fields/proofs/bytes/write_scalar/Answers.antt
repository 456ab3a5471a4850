use Rattle.std.proofs.Common.{◌∙◌, ℕ, List, ap, sym, rules}
use Rattle.t7_layout.specs.declared.words.Kind.TheVariants.{Signed}
use Rattle.t7_layout.proofs.BytesFacts.{long_complement, word_complement}
use Rattle.t7_fields.specs.Spelling.{IsHeld, complement, number_bytes}
use Rattle.t7_fields.specs.Puts.{patch}
use Rattle.t7_fields.specs.Writing.{IsSized, meaning, number_width, scalar_bytes}
use Rattle.t7_fields.proofs.bytes.write_scalar.Goals as goal

pub write_bytes-requires : goal.write_bytes-requires
unfolding number_width
write_bytes-requires c = search rules

pub write_bytes-requires-in-Half : goal.write_bytes-requires-in-Half
unfolding number_width
write_bytes-requires-in-Half c = search rules

pub write_bytes-requires-in-Word : goal.write_bytes-requires-in-Word
unfolding number_width
write_bytes-requires-in-Word c = search rules

pub write_bytes-requires-in-Long : goal.write_bytes-requires-in-Long
unfolding number_width
write_bytes-requires-in-Long c = search rules

pub write_bytes-requires-in-SignedWord : goal.write_bytes-requires-in-SignedWord
unfolding number_width
write_bytes-requires-in-SignedWord c = search rules

pub write_bytes-requires-in-Signed : goal.write_bytes-requires-in-Signed
unfolding number_width
write_bytes-requires-in-Signed c = search rules

pub write_bytes-requires-in-Raw : goal.write_bytes-requires-in-Raw
unfolding number_width
write_bytes-requires-in-Raw c = search rules

pub returns-in-Byte-clause-bytes : goal.returns-in-Byte-clause-bytes
unfolding scalar_bytes number_bytes complement number_width meaning
returns-in-Byte-clause-bytes c = search rules

pub returns-in-Byte-clause-sized : goal.returns-in-Byte-clause-sized
unfolding IsSized IsHeld
returns-in-Byte-clause-sized c = search rules

pub returns-in-Half-clause-bytes : goal.returns-in-Half-clause-bytes
unfolding scalar_bytes number_bytes complement number_width meaning
returns-in-Half-clause-bytes c = search rules

pub returns-in-Half-clause-sized : goal.returns-in-Half-clause-sized
unfolding IsSized IsHeld
returns-in-Half-clause-sized c = search rules

pub returns-in-Word-clause-bytes : goal.returns-in-Word-clause-bytes
unfolding scalar_bytes number_bytes complement number_width meaning
returns-in-Word-clause-bytes c = search rules

pub returns-in-Word-clause-sized : goal.returns-in-Word-clause-sized
unfolding IsSized IsHeld
returns-in-Word-clause-sized c = search rules

pub returns-in-Long-clause-bytes : goal.returns-in-Long-clause-bytes
unfolding scalar_bytes number_bytes complement number_width meaning
returns-in-Long-clause-bytes c = search rules

pub returns-in-Long-clause-sized : goal.returns-in-Long-clause-sized
unfolding IsSized IsHeld
returns-in-Long-clause-sized c = search rules

pub returns-in-SignedWord-clause-bytes : goal.returns-in-SignedWord-clause-bytes
unfolding IsHeld scalar_bytes number_bytes number_width meaning
returns-in-SignedWord-clause-bytes c =
    let held : IsHeld Signed 4 c.in-SignedWord.n = search rules in
    let same = word_complement c.in-SignedWord.n held in
    search (rules, same)

pub returns-in-SignedWord-clause-sized : goal.returns-in-SignedWord-clause-sized
unfolding IsSized IsHeld
returns-in-SignedWord-clause-sized c = search rules

pub returns-in-Signed-clause-bytes : goal.returns-in-Signed-clause-bytes
unfolding IsHeld scalar_bytes number_bytes number_width meaning
returns-in-Signed-clause-bytes c =
    let held : IsHeld Signed 8 c.in-Signed.n = search rules in
    let same = long_complement c.in-Signed.n held in
    search (rules, same)

pub returns-in-Signed-clause-sized : goal.returns-in-Signed-clause-sized
unfolding IsSized IsHeld
returns-in-Signed-clause-sized c = search rules

pub returns-in-Raw-clause-bytes : goal.returns-in-Raw-clause-bytes
unfolding scalar_bytes
returns-in-Raw-clause-bytes c =
    c.write_bytes-in-Raw.ensures.bytes ∙ ap (λ (b : List ℕ). patch c.args.at b c.args.out.now) (c.to_be_bytes.ensures ∙ sym (ap scalar_bytes c.in-Raw.is))

pub returns-in-Raw-clause-sized : goal.returns-in-Raw-clause-sized
unfolding IsSized IsHeld
returns-in-Raw-clause-sized c = search rules
