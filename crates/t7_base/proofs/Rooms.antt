-- Calls of the objects in memory, one after another, that their room takes.
use Rattle.std.proofs.Common.{◌≡◌, ◌≢◌, ℕ, suc, ◌+◌, ◌-◌, ◌^◌, ◌≤◌, inl, inr, ◌∙◌, min, List, [], ◌∷◌, ◌++◌, Option, Some, None, Bool, true, false, refl, ap, subst, sym, arith, append_assoc, length, length-append, get_or}
use Rattle.std.specs.Prelude.{All, Contains, is_none, ◌==◌}
use Rattle.std.specs.List.{concat}
use Rattle.std.proofs.lemmas.Bool.Decides.{nat_tests}
use Rattle.std.proofs.lemmas.List.{append-nil}
use Rattle.std.proofs.lemmas.List.Folds.{Any-from_list_any}
use Rattle.t7_base.specs.Memory.{FilesState, HasRoomFor, NoPutFails, NoTakeFails, PassesRoom, PutFails, SinkState, TakeFails, after_put, after_puts, after_take, after_takes, is_next_failing, more, up}
use Rattle.t7_base.specs.Outside.{file_of}
use Rattle.t7_base.proofs.Calls.{has_room, put_done}

-- nothing more
more_nothing : {A : Type 0} (told : Option (List A)) → more told [] ≡ told
more_nothing None = refl
more_nothing {A = A} (Some before) = ap (λ (l : List A). let o : Option (List A) = Some l in o) (append-nil before)

-- more behind more
more_more : {A : Type 0} (told : Option (List A)) (first second : List A) → more (more told first) second ≡ more told (first ++ second)
more_more None first second = refl
more_more {A = A} (Some before) first second = ap (λ (l : List A). let o : Option (List A) = Some l in o) (append_assoc before first second)

-- the next call is none of those that fail
goes : (made : ℕ) (failing : List ℕ) → (Contains failing (up made) → ⊥) → is_next_failing made failing ≡ false
goes made failing none = by (is_next_failing made failing) refl
  where
    by : (b : Bool) → is_next_failing made failing ≡ b → b ≡ false
    by false is = refl
    by true is =
        let found = Any-from_list_any (λ (number : ℕ). number == up made) failing is in
        let same : found.1 ≡ up made = grind (arith, nat_tests, found.4) in
        absurd (none (found.0, found.2, subst (λ (x : ℕ). get_or failing found.0 x ≡ x) same found.3))

-- what room for a piece and others says of the piece, and leaves for the others
record Takes (calls bytes made : ℕ) (failing piece : List ℕ) (pieces : List (List ℕ)) : Type 0 where
  pub within : PassesRoom calls bytes (length piece) → ⊥
  pub none : Contains failing (up made) → ⊥
  pub rest : HasRoomFor (calls - 1) (bytes - length piece) (up made) failing pieces

later_number : (made at most : ℕ) → min (min (made + 1) most + at + 1) most ≡ min (made + suc at + 1) most
later_number made at most = omega arith

takes : (calls bytes made : ℕ) (failing piece : List ℕ) (pieces : List (List ℕ)) → HasRoomFor calls bytes made failing (piece ∷ pieces) → Takes calls bytes made failing piece pieces
takes calls bytes made failing piece pieces room =
    let total : length (piece ++ concat pieces) ≤ bytes = room.enough_bytes in
    let both : length piece + length (concat pieces) ≤ bytes = omega (arith, length-append piece (concat pieces)) in
    let one : length pieces + 1 ≤ calls = omega (arith, room.enough_calls) in
    let first : min (made + 0 + 1) (2 ^ 64 - 1) ≡ up made = omega arith in
    record {
      within = λ passes. elim passes [ inl e ↦ omega (arith, e, one) | inr e ↦ omega (arith, e, both) ];
      none = λ found. room.none_failing 0 (omega arith) (subst (λ (n : ℕ). Contains failing n) (sym first) found);
      rest = record {
        enough_calls = omega arith;
        enough_bytes = omega arith;
        none_failing = λ at below found. room.none_failing (suc at) (omega arith) (subst (λ (n : ℕ). Contains failing n) (later_number made at (2 ^ 64 - 1)) found);
      };
    }

-- a sink after a put that its room takes
after_first : SinkState → List ℕ → SinkState
after_first sink piece = record sink { written = more sink.written piece; calls = sink.calls - 1; bytes = sink.bytes - length piece; made = up sink.made }

first_put : (sink : SinkState) (piece : List ℕ) (pieces : List (List ℕ)) → Takes sink.calls sink.bytes sink.made sink.failing piece pieces → after_put sink piece ≡ after_first sink piece
unfolding after_first
first_put sink piece pieces takes =
    let room = has_room sink.calls sink.bytes (length piece) takes.within in
    put_done sink piece room (goes sink.made sink.failing takes.none)

later_puts : (sink : SinkState) (piece : List ℕ) (pieces : List (List ℕ)) → Takes sink.calls sink.bytes sink.made sink.failing piece pieces
    → let next = after_first sink piece in HasRoomFor next.calls next.bytes next.made next.failing pieces
unfolding after_first
later_puts sink piece pieces takes = takes.rest

pub puts_never_fail : (sink : SinkState) (pieces : List (List ℕ)) → HasRoomFor sink.calls sink.bytes sink.made sink.failing pieces → NoPutFails sink pieces
puts_never_fail sink [] room = tt
puts_never_fail sink (piece ∷ pieces) room =
    let t = takes sink.calls sink.bytes sink.made sink.failing piece pieces room in
    let rest = puts_never_fail (after_first sink piece) pieces (later_puts sink piece pieces t) in
    let goes : PutFails sink (length piece) → ⊥ = λ fails. elim fails [ inl e ↦ t.within e | inr e ↦ t.none e ] in
    (goes, subst (λ (s : SinkState). NoPutFails s pieces) (sym (first_put sink piece pieces t)) rest)

pub puts_told : (sink : SinkState) (pieces : List (List ℕ)) → HasRoomFor sink.calls sink.bytes sink.made sink.failing pieces → (after_puts sink pieces).written ≡ more sink.written (concat pieces)
unfolding after_first
puts_told sink [] room = sym (more_nothing sink.written)
puts_told sink (piece ∷ pieces) room =
    let t = takes sink.calls sink.bytes sink.made sink.failing piece pieces room in
    ap (λ (s : SinkState). (after_puts s pieces).written) (first_put sink piece pieces t)
    ∙ puts_told (after_first sink piece) pieces (later_puts sink piece pieces t)
    ∙ more_more sink.written piece (concat pieces)

pub puts_count : (sink : SinkState) (pieces : List (List ℕ)) → HasRoomFor sink.calls sink.bytes sink.made sink.failing pieces → (after_puts sink pieces).faults ≡ sink.faults
unfolding after_first
puts_count sink [] room = refl
puts_count sink (piece ∷ pieces) room =
    let t = takes sink.calls sink.bytes sink.made sink.failing piece pieces room in
    ap (λ (s : SinkState). (after_puts s pieces).faults) (first_put sink piece pieces t)
    ∙ puts_count (after_first sink piece) pieces (later_puts sink piece pieces t)

-- files after a take that their room takes, of a file that there is
after_next : FilesState → List ℕ → FilesState
after_next files name = record files {
  asked = record { pieces = more files.asked.pieces (name ∷ []); calls = files.asked.calls - 1; bytes = files.asked.bytes - length name };
  made = up files.made;
}

there : {A : Type 0} (found : Option A) → found ≢ None → is_none found ≡ false
there (Some a) some = refl
there None some = absurd (some refl)

abbrev There : FilesState → List ℕ → Type 0
There files name = file_of name files.held ≢ None

first_take : (files : FilesState) (name : List ℕ) (names : List (List ℕ)) → Takes files.asked.calls files.asked.bytes files.made files.failing name names → There files name
    → after_take files name ≡ after_next files name
unfolding after_next after_take
first_take files name names takes is =
    let room = has_room files.asked.calls files.asked.bytes (length name) takes.within in
    rw (room, goes files.made files.failing takes.none, there (file_of name files.held) is) refl

later_takes : (files : FilesState) (name : List ℕ) (names : List (List ℕ)) → Takes files.asked.calls files.asked.bytes files.made files.failing name names
    → let next = after_next files name in HasRoomFor next.asked.calls next.asked.bytes next.made next.failing names
unfolding after_next
later_takes files name names takes = takes.rest

later_there : (files : FilesState) (name : List ℕ) (names : List (List ℕ)) → All (There files) (name ∷ names) → All (There (after_next files name)) names
unfolding after_next
later_there files name names all = λ k d below. all (suc k) d (omega arith)

pub takes_never_fail : (files : FilesState) (names : List (List ℕ)) → HasRoomFor files.asked.calls files.asked.bytes files.made files.failing names → All (There files) names
    → NoTakeFails files names
takes_never_fail files [] room all = tt
takes_never_fail files (name ∷ names) room all =
    let t = takes files.asked.calls files.asked.bytes files.made files.failing name names room in
    let is : There files name = all 0 [] (omega arith) in
    let rest = takes_never_fail (after_next files name) names (later_takes files name names t) (later_there files name names all) in
    let goes : TakeFails files name → ⊥ = λ fails. elim fails [ inl e ↦ t.within e | inr (inl e) ↦ t.none e | inr (inr e) ↦ is e ] in
    (goes, subst (λ (f : FilesState). NoTakeFails f names) (sym (first_take files name names t is)) rest)

pub takes_told : (files : FilesState) (names : List (List ℕ)) → HasRoomFor files.asked.calls files.asked.bytes files.made files.failing names → All (There files) names
    → (after_takes files names).asked.pieces ≡ more files.asked.pieces names
unfolding after_next
takes_told files [] room all = sym (more_nothing files.asked.pieces)
takes_told files (name ∷ names) room all =
    let t = takes files.asked.calls files.asked.bytes files.made files.failing name names room in
    let is : There files name = all 0 [] (omega arith) in
    ap (λ (f : FilesState). (after_takes f names).asked.pieces) (first_take files name names t is)
    ∙ takes_told (after_next files name) names (later_takes files name names t) (later_there files name names all)
    ∙ more_more files.asked.pieces (name ∷ []) names

pub takes_count : (files : FilesState) (names : List (List ℕ)) → HasRoomFor files.asked.calls files.asked.bytes files.made files.failing names → All (There files) names
    → (after_takes files names).faults ≡ files.faults
unfolding after_next
takes_count files [] room all = refl
takes_count files (name ∷ names) room all =
    let t = takes files.asked.calls files.asked.bytes files.made files.failing name names room in
    let is : There files name = all 0 [] (omega arith) in
    ap (λ (f : FilesState). (after_takes f names).faults) (first_take files name names t is)
    ∙ takes_count (after_next files name) names (later_takes files name names t) (later_there files name names all)
