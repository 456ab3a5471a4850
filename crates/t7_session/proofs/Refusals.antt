-- What the tests on a frame's form make of it.
use Rattle.std.proofs.Common.{◌≡◌, ℕ, true, List, Some, Result, Err, length, nat_lt, inl, inr, refl, sym, ap, ◌∙◌}
use Rattle.std.proofs.lemmas.Bool.{cases_lt, lt-ltb, le-ltb}
use Rattle.t7_layout.specs.declared.roles.Role.{Role}
use Rattle.t7_layout.specs.declared.words.Family.TheVariants.{Eti}
use Rattle.t7_layout.specs.Layouts.{Layout}
use Rattle.t7_layout.specs.Lookups.{role_of_layout}
use Rattle.t7_fields.specs.Messages.{Message}
use Rattle.t7_fields.specs.Spelling.{Fits, Seen, body_length, length_width}
use Rattle.t7_frames.specs.Frames.{IsFrame, body_len}
use Rattle.t7_eti.specs.declared.nulls.FieldFault.{FieldFault}
use Rattle.t7_eti.specs.declared.reason.Reason.TheVariants.{BadLength}
use Rattle.t7_eti.specs.declared.request.Request.{Request}
use Rattle.t7_eti.specs.Requests.{number_in, number_of, request_in, request_of}
use Rattle.t7_session.specs.Asked.{asked_as, or_null, unnumbered}

-- a frame that its template does not fit is shorter than it
pub short_frame : (t : Layout) (b : List ℕ) → IsFrame b → t.family ≡ Eti → (Fits t b → ⊥) → nat_lt (length b) t.size ≡ true
unfolding body_length length_width body_len
short_frame t b is family short =
    elim (cases_lt (length b) t.size) [
      | inl low ↦ lt-ltb (length b) t.size low
      | inr room ↦ absurd (short (record { room = room; said = rw family is.spelled }))
    ]

-- and is refused for its length
pub asked_as-short : (layouts : List Layout) (t : Layout) (role : Role) (b : List ℕ) → IsFrame b → t.family ≡ Eti → (Fits t b → ⊥)
    → asked_as layouts b t role ≡ Err (unnumbered BadLength)
asked_as-short layouts t role b is family short = rw (short_frame t b is family short) refl

request_in-role : (layouts : List Layout) (t : Layout) (role : Role) (b : List ℕ) → role_of_layout t ≡ Some role
    → request_in layouts (record { layout = t; bytes = b }) ≡ request_of (record { layouts = layouts; role = role; bytes = b })
unfolding request_in
request_in-role layouts t role b is = rw is refl

-- the number of a message under its template
pub number_in-role : (layouts : List Layout) (t : Layout) (role : Role) (b : List ℕ) → role_of_layout t ≡ Some role
    → number_in layouts (record { layout = t; bytes = b }) ≡ number_of (record { layouts = layouts; role = role; bytes = b })
unfolding number_in
number_in-role layouts t role b is = rw is refl

-- a frame that fits asks what its message says
pub asked_as-fits : (layouts : List Layout) (t : Layout) (role : Role) (b : List ℕ) (v : Seen) (r : Result Request FieldFault)
    → Fits t b → role_of_layout t ≡ Some role → v ≡ record { layout = t; bytes = b } → r ≡ request_in layouts v
    → asked_as layouts b t role ≡ or_null (record { layouts = layouts; role = role; bytes = b }) r
asked_as-fits layouts t role b v r fits is seen reads =
    let m : Message = record { layouts = layouts; role = role; bytes = b } in
    let said : request_of m ≡ r = sym (reads ∙ ap (request_in layouts) seen ∙ request_in-role layouts t role b is) in
    rw (le-ltb (length b) t.size fits.room) (ap (or_null m) said)
