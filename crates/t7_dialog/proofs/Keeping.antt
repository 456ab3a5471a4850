-- A client that reads responses in step keeps up with them.
use Rattle.std.proofs.Common.{◌≡◌, ℕ, ◌+◌, ◌≤◌, ◌==◌, Bool, true, false, cond, List, [], ◌∷◌, ◌++◌, length, map, Option, Some, None, option_map, refl, sym, ap, ◌∙◌, subst, arith, length-append, eqb-true, eq-eqb}
use Rattle.std.proofs.lemmas.Bool.Decides.{nat_tests}
use Rattle.std.specs.Option.{option_map_or}
use Rattle.t7_eti.specs.declared.response.Kept.{Kept}
use Rattle.t7_eti.specs.declared.response.Response.{Response}
use Rattle.t7_eti.specs.declared.response.Response.TheVariants as response
use Rattle.t7_eti.specs.Saying.{read_again}
use Rattle.t7_frames.specs.Frames.{Front, bad_length, front_of, not_yet, whole}
use Rattle.t7_layout.specs.Layouts.{Layout}
use Rattle.t7_client.specs.declared.machine.Answer.{Answer}
use Rattle.t7_client.specs.Fronts.{known_by, said_in}
use Rattle.t7_client.specs.Hearing.{heard_as, heard_behind, heard_by, response_by, treating}
use Rattle.t7_client.specs.Recovering.{Recovery, after, asking, asking_again, gathering, holds_known, is_due, is_recovered}
use Rattle.t7_client.proofs.Treating.{after_layouts}
use Rattle.t7_dialog.specs.Reaching.{AreInStep, IsInStep, IsNumbered, KeepsUp, Reached, answered, count_of, numbered_to, passed, reached_by, reached_with, unanswered}
use Rattle.t7_dialog.proofs.Reaching.{up_next, up_other}

-- a client keeps up
abbrev pub KeepsUpAs : Reached → Recovery → Type 0
KeepsUpAs reached client = KeepsUp reached (known_by client) (length client.gathered)

-- asking again leaves the list, and how many responses are known
same_list : (client : Recovery) (answer : Option Answer) → (asking_again client answer).gathered ≡ client.gathered
same_list client None = refl
same_list client (Some answer) = by (is_due (length client.gathered) answer)
  where
    by : (b : Bool) → (cond b (asking (record client { answer = Some (record answer { asked = true }) })) client).gathered ≡ client.gathered
    by true = refl
    by false = refl

same_known : (client : Recovery) (answer : Option Answer) → client.answer ≡ answer → known_by (asking_again client answer) ≡ known_by client
same_known client None is = refl
same_known client (Some answer) is = by (is_due (length client.gathered) answer)
  where
    by : (b : Bool) → known_by (cond b (asking (record client { answer = Some (record answer { asked = true }) })) client) ≡ known_by client
    by true = ap (option_map (λ (a : Answer). a.known)) (sym is)
    by false = refl

keeps_again : (reached : Reached) (client : Recovery) (answer : Option Answer) → client.answer ≡ answer → KeepsUpAs reached client → KeepsUpAs reached (asking_again client answer)
keeps_again reached client answer is keeps =
    subst (λ (l : List Kept). KeepsUp reached (known_by (asking_again client answer)) (length l)) (sym (same_list client answer))
    (subst (λ (k : Option ℕ). KeepsUp reached k (length client.gathered)) (sym (same_known client answer is)) keeps)

-- each response
keeps_gathering : (reached : Reached) (client : Recovery) (number : ℕ) (what : Kept) → IsNumbered reached number → KeepsUpAs reached client
    → KeepsUpAs (numbered_to reached number) (gathering client number what)
keeps_gathering reached client number what is keeps = by (number == length client.gathered + 1) refl
  where
    more : Recovery
    more = record client { gathered = client.gathered ++ what ∷ [] }

    by : (b : Bool) → (number == length client.gathered + 1) ≡ b
        → KeepsUpAs (numbered_to reached number) (cond b (asking_again (record client { gathered = cond b (client.gathered ++ what ∷ []) client.gathered }) client.answer) client)
    by true test =
        let next : number ≡ length client.gathered + 1 = eqb-true number (length client.gathered + 1) test in
        keeps_again (numbered_to reached number) more client.answer refl
        (subst (KeepsUp (numbered_to reached number) (known_by client)) (sym (length-append client.gathered (what ∷ [])))
        (up_next reached (known_by client) (length client.gathered) number next is keeps))
    by false test =
        up_other reached (known_by client) (length client.gathered) number
        (λ same. let yes : (number == length client.gathered + 1) ≡ true = eq-eqb number (length client.gathered + 1) same in let no : true ≡ false = sym yes ∙ test in cc no) is keeps

keeps_after : (reached : Reached) (client : Recovery) (said : Response) → IsInStep reached said → KeepsUpAs reached client → KeepsUpAs (reached_with reached said) (after client said)
keeps_after reached client (response.Logon seq heart) is keeps = keeps
keeps_after reached client (response.Logout seq) is keeps = keeps
keeps_after reached client response.Beat is keeps = keeps
keeps_after reached client (response.Reject seq reason) is keeps = keeps
keeps_after reached client (response.Resent seq count last known) is keeps =
    let noted : Option Answer = Some (record { last = last; known = known; asked = false }) in
    keeps_again (answered known) (record client { answer = noted }) noted refl refl
keeps_after reached client (response.Kept number what) is keeps = keeps_gathering reached client number what is keeps

-- frames, one after another
pub keeps_by : (reached : Reached) (rest : List ℕ) (frames : List (List ℕ)) (client : Recovery) → AreInStep reached (said_in client.layouts frames) → KeepsUpAs reached client
    → KeepsUpAs (reached_by reached (said_in client.layouts frames)) (heard_by rest frames client).client
keeps_by reached rest [] client are keeps = by (front_of rest)
  where
    by : (f : Front) → KeepsUpAs reached (heard_behind rest client f).client
    by (whole frame) = keeps
    by not_yet = keeps
    by (bad_length len) = keeps
keeps_by reached rest (frame ∷ frames) client are keeps = by (response_by client.layouts frame) (λ r said. keeps_by r rest frames (treating client frame said)) are
  where
    by : (o : Option Response)
        → ((r : Reached) (said : Response) → AreInStep r (said_in (treating client frame said).layouts frames) → KeepsUpAs r (treating client frame said)
        → KeepsUpAs (reached_by r (said_in (treating client frame said).layouts frames)) (heard_by rest frames (treating client frame said)).client)
        → AreInStep reached (option_map_or (λ (said : Response). said ∷ said_in client.layouts frames) o [])
        → KeepsUpAs (reached_by reached (option_map_or (λ (said : Response). said ∷ said_in client.layouts frames) o [])) (heard_as frame (heard_by rest frames) client o).client
    by None go those = keeps
    by (Some said) go those =
        let r = reached_with reached said in
        subst (λ (l : List Layout). KeepsUpAs (reached_by r (said_in l frames)) (heard_by rest frames (treating client frame said)).client) (after_layouts client said)
        (go r said (subst (λ (l : List Layout). AreInStep r (said_in l frames)) (sym (after_layouts client said)) those.1) (keeps_after reached client said those.0 keeps))

-- responses that are read again come to the same
again_with : (layouts : List Layout) (reached : Reached) (said : Response) → reached_with reached (read_again layouts said) ≡ reached_with reached said
unfolding read_again
again_with layouts reached (response.Kept number what) = refl
again_with layouts reached (response.Logon seq heart) = refl
again_with layouts reached (response.Logout seq) = refl
again_with layouts reached response.Beat = refl
again_with layouts reached (response.Reject None reason) = refl
again_with layouts reached (response.Reject (Some seq) reason) = refl
again_with layouts reached (response.Resent seq count last known) = refl

again_step : (layouts : List Layout) (reached : Reached) (said : Response) → IsInStep reached said → IsInStep reached (read_again layouts said)
unfolding read_again
again_step layouts reached (response.Kept number what) is = is
again_step layouts reached (response.Logon seq heart) is = tt
again_step layouts reached (response.Logout seq) is = tt
again_step layouts reached response.Beat is = tt
again_step layouts reached (response.Reject None reason) is = tt
again_step layouts reached (response.Reject (Some seq) reason) is = tt
again_step layouts reached (response.Resent seq count last known) is = tt

pub again_steps : (layouts : List Layout) (reached : Reached) (said : List Response) → AreInStep reached said → AreInStep reached (map (read_again layouts) said)
again_steps layouts reached [] are = tt
again_steps layouts reached (s ∷ said) are = (
  again_step layouts reached s are.0,
  subst (λ (r : Reached). AreInStep r (map (read_again layouts) said)) (sym (again_with layouts reached s)) (again_steps layouts (reached_with reached s) said are.1),
)

pub again_reached : (layouts : List Layout) (reached : Reached) (said : List Response) → reached_by reached (map (read_again layouts) said) ≡ reached_by reached said
again_reached layouts reached [] = refl
again_reached layouts reached (s ∷ said) =
    ap (λ (r : Reached). reached_by r (map (read_again layouts) said)) (again_with layouts reached s) ∙ again_reached layouts (reached_with reached s) said

-- a client that is recovered has all that was told of
pub recovered_has : (reached : Reached) (client : Recovery) → KeepsUpAs reached client → is_recovered client ≡ true → (n : ℕ) × (count_of reached ≡ Some n) × (n ≤ length client.gathered)
recovered_has reached client keeps recovered = by client.answer reached keeps recovered
  where
    by : (o : Option Answer) (r : Reached) → KeepsUp r (option_map (λ (a : Answer). a.known) o) (length client.gathered) → holds_known (length client.gathered) o ≡ true
        → (n : ℕ) × (count_of r ≡ Some n) × (n ≤ length client.gathered)
    by None r up holds = absurd (cc)
    by (Some answer) unanswered up holds = absurd (let no : Some answer.known ≡ None = up in cc)
    by (Some answer) (answered stored) up holds =
        let same : answer.known ≡ stored = cc up in
        let enough : answer.known ≤ length client.gathered = grind (arith, nat_tests) in
        (stored, refl, omega (arith, same, enough))
    by (Some answer) (passed number) up holds =
        let known : Some answer.known ≡ Some up.0 = up.1 in
        let same : answer.known ≡ up.0 = cc known in
        let enough : answer.known ≤ length client.gathered = grind (arith, nat_tests) in
        (number, refl, up.2 (omega (arith, same, enough)))
