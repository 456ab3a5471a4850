-- What is told grows with each call.
use Rattle.std.proofs.Common.{◌≡◌, List, [], ◌∷◌, ℕ, Option, Some, None, refl, ap}
use Rattle.std.proofs.lemmas.List.{map-append}
use Rattle.t7_base.specs.Outside.{Grew}
use Rattle.t7_base.specs.declared.ids.Feed.{Feed}
use Rattle.t7_memory.specs.declared.kinds.Asking.{Asking}
use Rattle.t7_memory.specs.declared.kinds.Sending.{Sending}
use Rattle.t7_memory.specs.declared.kinds.Binding.{Binding}
use Rattle.t7_memory.specs.Notes.{Note, asked_by, bound_by, cast_by, more, calls_by, sent_by}

-- what is told grew by one thing
pub more_grew : {A : Type 0} (a : Option (List A)) (last : A) → Grew a (more a last) (λ added. added ≡ last ∷ [])
more_grew None last = tt
more_grew (Some first) last = (last ∷ [], refl, refl)

-- what a note more says is told too
said_more : {K A : Type 0} (by : K → List ℕ → A) (a : Option (List (Note K))) (note : Note K) → calls_by by (more a note) ≡ more (calls_by by a) (by note.kind note.bytes)
said_more by None note = refl
said_more {A = A} by (Some first) note = ap (λ (l : List A). let o : Option (List A) = Some l in o) (map-append (λ n. by n.kind n.bytes) first (note ∷ []))

pub asked_more : (a : Option (List (Note Asking))) (note : Note Asking)
    → calls_by asked_by (more a note) ≡ more (calls_by asked_by a) (asked_by note.kind note.bytes)
asked_more a note = said_more asked_by a note

pub sent_more : (a : Option (List (Note Sending))) (note : Note Sending)
    → calls_by sent_by (more a note) ≡ more (calls_by sent_by a) (sent_by note.kind note.bytes)
sent_more a note = said_more sent_by a note

pub bound_more : (a : Option (List (Note Binding))) (note : Note Binding)
    → calls_by bound_by (more a note) ≡ more (calls_by bound_by a) (bound_by note.kind note.bytes)
bound_more a note = said_more bound_by a note

pub cast_more : (a : Option (List (Note Feed))) (note : Note Feed) → calls_by cast_by (more a note) ≡ more (calls_by cast_by a) (cast_by note.kind note.bytes)
cast_more a note = said_more cast_by a note
