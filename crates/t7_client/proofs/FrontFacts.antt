-- What a client gathers is a front of what is stored, where the responses that it reads are entries of that.
use Rattle.std.proofs.Common.{◌≡◌, ℕ, zero, suc, ◌+◌, ◌≤◌, ◌==◌, Bool, true, false, cond, List, [], ◌∷◌, ◌++◌, length, take, Option, Some, None, refl, sym, ◌∙◌, ap, subst, arith, nat_le}
use Rattle.std.specs.Prelude.{slice_get, option_map}
use Rattle.std.specs.Option.{option_map_or}
use Rattle.std.proofs.lemmas.Bool.Decides.{nat_tests}
use Rattle.std.proofs.lemmas.List.{take-append-le}
use Rattle.t7_base.specs.Outside.{Begins}
use Rattle.t7_layout.specs.Layouts.{Layout}
use Rattle.t7_frames.specs.Frames.{Front, bad_length, front_of, not_yet, whole}
use Rattle.t7_eti.specs.declared.response.Kept.{Kept}
use Rattle.t7_eti.specs.declared.response.Response.{Response}
use Rattle.t7_eti.specs.declared.response.Response.TheVariants as response
use Rattle.t7_recover.specs.Entries.{AreEntries, IsEntry}
use Rattle.t7_recover.specs.Gathering.{gathered_with}
use Rattle.t7_client.specs.declared.machine.Answer.{Answer}
use Rattle.t7_client.specs.Fronts.{FrontsAreGathered, known_by, last_known, said_in}
use Rattle.t7_client.specs.Hearing.{after_first, first_as, heard, heard_as, heard_behind, heard_by, response_by, split_with, treating}
use Rattle.t7_client.specs.Recovering.{Recovery, after, asking, asking_again, gathering, holds_known, is_due, is_recovered}
use Rattle.t7_client.proofs.Treating.{after_layouts}

-- what stands at the place behind a front begins what comes after it
begins_next : (gathered stored : List Kept) (what : Kept) → Begins gathered stored → slice_get stored (length gathered) ≡ Some what → Begins (gathered ++ what ∷ []) stored
begins_next gathered stored what front at = by_rest gathered stored what front.0 front.1 at
  where
    by_rest : (gathered stored : List Kept) (what : Kept) (rest : List Kept) → gathered ++ rest ≡ stored → slice_get stored (length gathered) ≡ Some what
        → Begins (gathered ++ what ∷ []) stored
    by_rest [] stored what [] is at = absurd (let none : slice_get stored 0 ≡ None = ap (λ (l : List Kept). slice_get l 0) (sym is) in cc)
    by_rest [] stored what (next ∷ rest) is at =
        let first : slice_get stored 0 ≡ Some next = ap (λ (l : List Kept). slice_get l 0) (sym is) in
        let same : next ≡ what = cc in
        (rest, ap (λ (k : Kept). k ∷ rest) (sym same) ∙ is)
    by_rest (one ∷ gathered) [] what rest is at = absurd (cc)
    by_rest (one ∷ gathered) (other ∷ stored) what rest is at =
        let tails : gathered ++ rest ≡ stored = cc in
        let heads : one ≡ other = cc in
        let later : Begins (gathered ++ what ∷ []) stored = by_rest gathered stored what rest tails (grind (arith)) in
        (later.0, ap (λ (l : List Kept). one ∷ l) later.1 ∙ ap (λ (k : Kept). k ∷ stored) heads)

-- asking again leaves the list, and how many responses are known
again_same : (client : Recovery) (answer : Option Answer) → (asking_again client answer).gathered ≡ client.gathered
again_same client None = refl
again_same client (Some answer) = by (is_due (length client.gathered) answer)
  where
    by : (b : Bool) → (cond b (asking (record client { answer = Some (record answer { asked = true }) })) client).gathered ≡ client.gathered
    by true = refl
    by false = refl

again_known : (client : Recovery) (answer : Option Answer) → client.answer ≡ answer → known_by (asking_again client answer) ≡ known_by client
again_known client None is = refl
again_known client (Some answer) is = by (is_due (length client.gathered) answer)
  where
    by : (b : Bool) → known_by (cond b (asking (record client { answer = Some (record answer { asked = true }) })) client) ≡ known_by client
    by true = ap (option_map (λ (a : Answer). a.known)) (sym is)
    by false = refl

-- a recoverable response that is an entry leaves a front
front_gathering : (stored : List Kept) (client : Recovery) (number n : ℕ) (what : Kept) → number ≡ n + 1 → slice_get stored n ≡ Some what → Begins client.gathered stored
    → Begins (gathering client number what).gathered stored
front_gathering stored client number n what number_is at front = by (number == length client.gathered + 1) refl
  where
    more : Recovery
    more = record client { gathered = client.gathered ++ what ∷ [] }

    by : (b : Bool) → (number == length client.gathered + 1) ≡ b
        → Begins (cond b (asking_again (record client { gathered = cond b (client.gathered ++ what ∷ []) client.gathered }) client.answer) client).gathered stored
    by true is =
        let place : n ≡ length client.gathered = grind (arith, nat_tests) in
        let P : List Kept → Type 0 = λ l. Begins l stored in
        let A : ℕ → Type 0 = λ k. slice_get stored k ≡ Some what in
        subst P (sym (again_same more client.answer)) (begins_next client.gathered stored what front (subst A place at))
    by false is = front

front_after : (stored : List Kept) (client : Recovery) (said : Response) → IsEntry stored said → Begins client.gathered stored → Begins (after client said).gathered stored
front_after stored client (response.Logon seq heart) entry front = front
front_after stored client (response.Logout seq) entry front = front
front_after stored client response.Beat entry front = front
front_after stored client (response.Reject seq reason) entry front = front
front_after stored client (response.Resent seq count last known) entry front =
    let noted : Option Answer = Some (record { last = last; known = known; asked = false }) in
    let P : List Kept → Type 0 = λ l. Begins l stored in
    subst P (sym (again_same (record client { answer = noted }) noted)) front
front_after stored client (response.Kept number what) entry front = front_gathering stored client number entry.0 what entry.1 entry.2 front

-- how many responses the last answer says are kept
known_gathering : (client : Recovery) (number : ℕ) (what : Kept) → known_by (gathering client number what) ≡ known_by client
known_gathering client number what = by (number == length client.gathered + 1)
  where
    by : (b : Bool) → known_by (cond b (asking_again (record client { gathered = gathered_with client.gathered number what }) client.answer) client) ≡ known_by client
    by true = again_known (record client { gathered = gathered_with client.gathered number what }) client.answer refl
    by false = refl

known_after : (client : Recovery) (said : Response) (more : List Response) → last_known (said ∷ more) (known_by client) ≡ last_known more (known_by (after client said))
known_after client (response.Logon seq heart) more = refl
known_after client (response.Logout seq) more = refl
known_after client response.Beat more = refl
known_after client (response.Reject seq reason) more = refl
known_after client (response.Resent seq count last known) more =
    let noted : Option Answer = Some (record { last = last; known = known; asked = false }) in
    ap (last_known more) (sym (again_known (record client { answer = noted }) noted refl))
known_after client (response.Kept number what) more = ap (last_known more) (sym (known_gathering client number what))

-- frames, one after another
front_by : (stored : List Kept) (rest : List ℕ) (frames : List (List ℕ)) (client : Recovery) → AreEntries stored (said_in client.layouts frames) → Begins client.gathered stored
    → Begins (heard_by rest frames client).client.gathered stored
front_by stored rest [] client entries front = by (front_of rest)
  where
    by : (f : Front) → Begins (heard_behind rest client f).client.gathered stored
    by (whole frame) = front
    by not_yet = front
    by (bad_length len) = front
front_by stored rest (frame ∷ frames) client entries front = by (response_by client.layouts frame) (λ said. front_by stored rest frames (treating client frame said)) entries
  where
    by : (o : Option Response)
        → ((said : Response) → AreEntries stored (said_in (treating client frame said).layouts frames) → Begins (treating client frame said).gathered stored
        → Begins (heard_by rest frames (treating client frame said)).client.gathered stored)
        → AreEntries stored (option_map_or (λ (said : Response). said ∷ said_in client.layouts frames) o [])
        → Begins (heard_as frame (heard_by rest frames) client o).client.gathered stored
    by None go those = front
    by (Some said) go those =
        let P : List Layout → Type 0 = λ l. AreEntries stored (said_in l frames) in
        go said (subst P (sym (after_layouts client said)) those.1) (front_after stored client said those.0 front)

-- the first few of them
first_by : (stored : List Kept) (n : ℕ) (frames : List (List ℕ)) (client : Recovery) → AreEntries stored (said_in client.layouts frames) → Begins client.gathered stored
    → Begins (after_first n frames client).gathered stored
first_by stored zero frames client entries front = front
first_by stored (suc n) [] client entries front = front
first_by stored (suc n) (frame ∷ frames) client entries front = by (response_by client.layouts frame) (λ said. first_by stored n frames (treating client frame said)) entries
  where
    by : (o : Option Response)
        → ((said : Response) → AreEntries stored (said_in (treating client frame said).layouts frames) → Begins (treating client frame said).gathered stored
        → Begins (after_first n frames (treating client frame said)).gathered stored)
        → AreEntries stored (option_map_or (λ (said : Response). said ∷ said_in client.layouts frames) o [])
        → Begins (first_as frame (after_first n frames) client o).gathered stored
    by None go those = front
    by (Some said) go those =
        let P : List Layout → Type 0 = λ l. AreEntries stored (said_in l frames) in
        go said (subst P (sym (after_layouts client said)) those.1) (front_after stored client said those.0 front)

known_by_frames : (rest : List ℕ) (frames : List (List ℕ)) (client : Recovery) → known_by (heard_by rest frames client).client ≡ last_known (said_in client.layouts frames) (known_by client)
known_by_frames rest [] client = by (front_of rest)
  where
    by : (f : Front) → known_by (heard_behind rest client f).client ≡ known_by client
    by (whole frame) = refl
    by not_yet = refl
    by (bad_length len) = refl
known_by_frames rest (frame ∷ frames) client = by (response_by client.layouts frame) (λ said. known_by_frames rest frames (treating client frame said))
  where
    by : (o : Option Response)
        → ((said : Response) → known_by (heard_by rest frames (treating client frame said)).client ≡ last_known (said_in (treating client frame said).layouts frames) (known_by (treating client frame said)))
        → known_by (heard_as frame (heard_by rest frames) client o).client ≡ last_known (option_map_or (λ (said : Response). said ∷ said_in client.layouts frames) o []) (known_by client)
    by None go = refl
    by (Some said) go =
        go said ∙ ap (λ (l : List Layout). last_known (said_in l frames) (known_by (after client said))) (after_layouts client said)
        ∙ sym (known_after client said (said_in client.layouts frames))

-- a client that is recovered has all that its last answer says are kept
whole_of : (stored : List Kept) (client : Recovery) (known : ℕ) → Begins client.gathered stored → known_by client ≡ Some known → is_recovered client ≡ true
    → (known ≤ length client.gathered) × (take known client.gathered ≡ take known stored)
whole_of stored client known front known_is recovered = by client.answer known_is recovered
  where
    by : (o : Option Answer) → option_map (λ (a : Answer). a.known) o ≡ Some known → holds_known (length client.gathered) o ≡ true
        → (known ≤ length client.gathered) × (take known client.gathered ≡ take known stored)
    by None is holds = absurd (let e : None ≡ Some known = is in cc)
    by (Some answer) is holds =
        let same : answer.known ≡ known = cc is in
        let holds_same : nat_le known (length client.gathered) ≡ true = subst (λ n. nat_le n (length client.gathered) ≡ true) same holds in
        let enough : known ≤ length client.gathered = grind (arith, nat_tests) in
        (enough, sym (take-append-le known client.gathered front.0 enough) ∙ ap (take known) front.1)

pub fronts_are_gathered : FrontsAreGathered
fronts_are_gathered stored client bytes front entries =
    let split = split_with client bytes in
    let bare : Recovery = record client { rest = [] } in
    let whole_front : Begins (heard client bytes).client.gathered stored = front_by stored split.rest split.frames bare entries front in
    record {
      front = whole_front;
      first = λ n. first_by stored n split.frames bare entries front;
      answer = known_by_frames split.rest split.frames bare;
      whole = λ known is recovered. whole_of stored (heard client bytes).client known whole_front is recovered;
    }
