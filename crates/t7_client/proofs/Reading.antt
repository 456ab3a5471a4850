-- The frames that are responses.
use Rattle.std.proofs.Common.{◌≡◌, ℕ, Bool, true, false, List, Some, None, length, nat_le, refl, arith}
use Rattle.std.specs.Result.{result_ok}
use Rattle.std.proofs.lemmas.Bool.Decides.{nat_tests}
use Rattle.t7_layout.specs.declared.words.Family.TheVariants.{Eti}
use Rattle.t7_layout.specs.Layouts.{Layout}
use Rattle.t7_layout.specs.Lookups.{find_template}
use Rattle.t7_fields.specs.Spelling.{Fits, body_length, length_width, template_id}
use Rattle.t7_frames.specs.Frames.{IsFrame, body_len}
use Rattle.t7_eti.specs.Responses.{response_in}
use Rattle.t7_client.specs.Hearing.{response_by, response_under}

-- a frame that its template does not fit is shorter than it, and so no response
pub unfit_none : (layouts : List Layout) (frame : List ℕ) (t : Layout) → IsFrame frame → t.family ≡ Eti → (Fits t frame → ⊥) → response_under layouts frame t ≡ None
unfolding body_length length_width body_len
unfit_none layouts frame t is family unfit = by (nat_le t.size (length frame)) refl
  where
    by : (b : Bool) → nat_le t.size (length frame) ≡ b → response_under layouts frame t ≡ None
    by true e = absurd (unfit (record { room = grind (arith, nat_tests); said = rw family is.spelled }))
    by false e = rw e refl

-- a frame that it fits is what is read of it
pub fit_read : (layouts : List Layout) (frame : List ℕ) (t : Layout) → Fits t frame
    → response_under layouts frame t ≡ result_ok (response_in layouts (record { layout = t; bytes = frame }))
fit_read layouts frame t fits = let e : nat_le t.size (length frame) ≡ true = grind (arith, nat_tests) in rw e refl

-- what a frame is goes by the template that its id finds
pub under_found : (layouts : List Layout) (frame : List ℕ) (t : Layout) (id : ℕ) → id ≡ template_id Eti frame → Some t ≡ find_template layouts Eti id
    → response_by layouts frame ≡ response_under layouts frame t
under_found layouts frame t id same found = rw (← same, ← found) refl
