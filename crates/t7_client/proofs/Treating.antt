-- What a response leaves of a client, and the frames behind it.
use Rattle.std.proofs.Common.{◌≡◌, ℕ, suc, ◌+◌, ◌*◌, ◌^◌, ◌<◌, ◌≤◌, ◌==◌, ◌⊎◌, Bool, true, false, not, ◌&&◌, cond, List, [], ◌∷◌, ◌++◌, length, drop, nat_lt, nat_le, Option, Some, None, refl, sym, ap, ◌∙◌, subst, inl, inr, arith}
use Rattle.std.proofs.lemmas.List.{length-append}
use Rattle.t7_layout.specs.Layouts.{Layout}
use Rattle.t7_frames.specs.Frames.{Front, IsWhole, bad_length, body_len, front_of, not_yet, whole}
use Rattle.t7_frames.specs.Split.{BeginsWith, Split, split_of}
use Rattle.t7_frames.proofs.Fronts.{bad-stays}
use Rattle.t7_eti.specs.declared.response.Kept.{Kept}
use Rattle.t7_eti.specs.declared.response.Response.{Response}
use Rattle.t7_eti.specs.declared.response.Response.TheVariants as response
use Rattle.t7_recover.specs.Gathering.{gathered_with}
use Rattle.t7_client.specs.declared.hearing.Told.TheVariants.{Said, Misfit}
use Rattle.t7_client.specs.declared.machine.Answer.{Answer}
use Rattle.t7_client.specs.Going.{Treats, taken}
use Rattle.t7_client.specs.Hearing.{Continues, StopsWithin, after_first, first_as, heard, heard_as, heard_behind, heard_by, response_by, split_with, treating}
use Rattle.t7_client.specs.Recovering.{Recovery, after, answering, asking, asking_again, cut, gathering, is_due}
use Rattle.t7_client.specs.Sound.{IsSound, asks, owed}
use Rattle.t7_client.specs.Told.{told_as, told_at}

-- what a response leaves as it is
record AfterKeeps (old new : Recovery) : Type 0 where
  layouts : new.layouts ≡ old.layouts
  session : new.session ≡ old.session
  dialed : new.dialed ≡ old.dialed
  treated : new.treated ≡ old.treated
  rest : new.rest ≡ old.rest
  made : new.made ≡ old.made

keeps_all : (client : Recovery) → AfterKeeps client client
keeps_all client = record { layouts = refl; session = refl; dialed = refl; treated = refl; rest = refl; made = refl }

keeps_chosen : (b : Bool) (old x y : Recovery) → AfterKeeps old x → AfterKeeps old y → AfterKeeps old (cond b x y)
keeps_chosen true old x y p q = p
keeps_chosen false old x y p q = q

keeps_again : (client : Recovery) (answer : Option Answer) → AfterKeeps client (asking_again client answer)
keeps_again client None = keeps_all client
keeps_again client (Some answer) =
    keeps_chosen (is_due (length client.gathered) answer) client (asking (record client { answer = Some (record answer { asked = true }) })) client
    (record { layouts = refl; session = refl; dialed = refl; treated = refl; rest = refl; made = refl }) (keeps_all client)

keeps_gathering : (client : Recovery) (number : ℕ) (what : Kept) → AfterKeeps client (gathering client number what)
keeps_gathering client number what =
    let more : Recovery = record client { gathered = gathered_with client.gathered number what } in
    let again : AfterKeeps more (asking_again more client.answer) = keeps_again more client.answer in
    keeps_chosen (number == length client.gathered + 1) client (asking_again more client.answer) client
    (record { layouts = again.layouts; session = again.session; dialed = again.dialed; treated = again.treated; rest = again.rest; made = again.made }) (keeps_all client)

after_keeps : (client : Recovery) (said : Response) → AfterKeeps client (after client said)
after_keeps client (response.Logon seq heart) = record { layouts = refl; session = refl; dialed = refl; treated = refl; rest = refl; made = refl }
after_keeps client (response.Logout seq) = record { layouts = refl; session = refl; dialed = refl; treated = refl; rest = refl; made = refl }
after_keeps client response.Beat = keeps_all client
after_keeps client (response.Reject seq reason) = record { layouts = refl; session = refl; dialed = refl; treated = refl; rest = refl; made = refl }
after_keeps client (response.Resent seq count last known) =
    let noted : Option Answer = Some (record { last = last; known = known; asked = false }) in
    let again : AfterKeeps (record client { answer = noted }) (asking_again (record client { answer = noted }) noted) = keeps_again (record client { answer = noted }) noted in
    record { layouts = again.layouts; session = again.session; dialed = again.dialed; treated = again.treated; rest = again.rest; made = again.made }
after_keeps client (response.Kept number what) = keeps_gathering client number what

-- the untreated bytes play no part
chosen_rest : (b : Bool) (x y : Recovery) (rest : List ℕ) → cond b (record x { rest = rest }) (record y { rest = rest }) ≡ record (cond b x y) { rest = rest }
chosen_rest true x y rest = refl
chosen_rest false x y rest = refl

again_rest : (client : Recovery) (answer : Option Answer) (rest : List ℕ) → asking_again (record client { rest = rest }) answer ≡ record (asking_again client answer) { rest = rest }
again_rest client None rest = refl
again_rest client (Some answer) rest = chosen_rest (is_due (length client.gathered) answer) (asking (record client { answer = Some (record answer { asked = true }) })) client rest

gathering_rest : (client : Recovery) (number : ℕ) (what : Kept) (rest : List ℕ) → gathering (record client { rest = rest }) number what ≡ record (gathering client number what) { rest = rest }
gathering_rest client number what rest =
    let more : Recovery = record client { gathered = gathered_with client.gathered number what } in
    ap (λ (x : Recovery). cond (number == length client.gathered + 1) x (record client { rest = rest })) (again_rest more client.answer rest)
    ∙ chosen_rest (number == length client.gathered + 1) (asking_again more client.answer) client rest

after_rest : (client : Recovery) (said : Response) (rest : List ℕ) → after (record client { rest = rest }) said ≡ record (after client said) { rest = rest }
after_rest client (response.Logon seq heart) rest = refl
after_rest client (response.Logout seq) rest = refl
after_rest client response.Beat rest = refl
after_rest client (response.Reject seq reason) rest = refl
after_rest client (response.Resent seq count last known) rest =
    let noted : Option Answer = Some (record { last = last; known = known; asked = false }) in again_rest (record client { answer = noted }) noted rest
after_rest client (response.Kept number what) rest = gathering_rest client number what rest

-- how many requests were and may be made
abbrev spent : Recovery → ℕ
spent client = client.next + owed client.answer

spent_chosen : (b : Bool) (x y : Recovery) (n : ℕ) → (b ≡ true → spent x ≤ n) → spent y ≤ n → spent (cond b x y) ≤ n
spent_chosen true x y n p q = p refl
spent_chosen false x y n p q = q

due_owes : (count : ℕ) (answer : Answer) → is_due count answer ≡ true → owed (Some answer) ≡ 1
due_owes count answer due = by answer.asked due
  where
    by : (b : Bool) → (not b && (nat_lt answer.last answer.known && nat_le answer.last count)) ≡ true → cond b 0 1 ≡ suc 0
    by true is = cc is
    by false is = refl

spent_again : (client : Recovery) (answer : Option Answer) → client.answer ≡ answer → spent (asking_again client answer) ≤ spent client
spent_again client None is = omega arith
spent_again client (Some answer) is =
    spent_chosen (is_due (length client.gathered) answer) (asking (record client { answer = Some (record answer { asked = true }) })) client (spent client)
    (λ due. let one = ap owed is ∙ due_owes (length client.gathered) answer due in omega (arith, one)) (omega arith)

spent_gathering : (client : Recovery) (number : ℕ) (what : Kept) → spent (gathering client number what) ≤ spent client
spent_gathering client number what =
    let more : Recovery = record client { gathered = gathered_with client.gathered number what } in
    spent_chosen (number == length client.gathered + 1) (asking_again more client.answer) client (spent client) (λ _. spent_again more client.answer refl) (omega arith)

spent_answering : (client : Recovery) (answer : Answer) → spent (answering client answer) ≤ client.next + 1
spent_answering client answer =
    let noted : Recovery = record client { answer = Some answer } in
    let again = spent_again noted (Some answer) refl in
    let few : owed (Some answer) ≤ 1 = at_most answer.asked in
    omega (arith, again, few)
  where
    at_most : (b : Bool) → cond b 0 1 ≤ 1
    at_most true = omega arith
    at_most false = omega arith

spent_after : (client : Recovery) (said : Response) (count : ℕ) → (asks said ≡ true → 16 ≤ count) → 16 * spent (after client said) ≤ 16 * spent client + count
spent_after client (response.Logon seq heart) count long = let l = long refl in omega (arith, l)
spent_after client (response.Logout seq) count long = omega arith
spent_after client response.Beat count long = omega arith
spent_after client (response.Reject seq reason) count long = omega arith
spent_after client (response.Resent seq n last known) count long =
    let l = long refl in let s = spent_answering client (record { last = last; known = known; asked = false }) in omega (arith, l, s)
spent_after client (response.Kept number what) count long = let s = spent_gathering client number what in omega (arith, s)

-- what stands at the front, by what it says
pub told_front : (layouts : List Layout) (front : Front) (said : Response) (count : ℕ) → Said said count ≡ told_at layouts front
    → (frame : List ℕ) × (front ≡ whole frame) × (response_by layouts frame ≡ Some said) × (count ≡ length frame)
told_front layouts not_yet said count is = cc is
told_front layouts (bad_length len) said count is = cc is
told_front layouts (whole frame) said count is = by (response_by layouts frame) refl is
  where
    by : (o : Option Response) → response_by layouts frame ≡ o → Said said count ≡ told_as (length frame) o
        → (frame' : List ℕ) × (whole frame ≡ whole frame') × (response_by layouts frame' ≡ Some said) × (count ≡ length frame')
    by None e t = cc t
    by (Some other) e t =
        let same : said ≡ other = cc t in
        let same_count : count ≡ length frame = cc t in
        (frame, refl, e ∙ ap Some (sym same), same_count)

-- the bytes of a client, of which the first are a frame
module _ (old : Recovery) (frame : List ℕ) (said : Response) (more : List ℕ) (begins : BeginsWith old.rest more frame) (is : response_by old.layouts frame ≡ Some said) where
  abbrev front : Recovery
  front = record old { rest = [] }

  abbrev next : Recovery
  next = taken (after old said) (length frame)

  rest_is : next.rest ≡ drop (body_len old.rest) old.rest
  rest_is = let keeps = after_keeps old said in rw keeps.rest refl

  -- the frame is treated
  treated_is : treating front frame said ≡ record next { rest = [] }
  treated_is =
      let keeps = after_keeps old said in
      ap (λ (x : Recovery). record x { treated = old.treated + length frame }) (after_rest old said [])
      ∙ ap (λ n. record (after old said) { rest = []; treated = n + length frame }) (sym keeps.treated)

  split_is : ((split_with old more).frames ≡ frame ∷ (split_with next more).frames) × ((split_with old more).rest ≡ (split_with next more).rest)
  split_is = rw rest_is (begins.frames, begins.rest)

  -- the bytes are heard as those behind it
  heard_on : heard old more ≡ heard next more
  heard_on =
      let rest : List ℕ = (split_with next more).rest in
      let frames : List (List ℕ) = (split_with next more).frames in
      ap (λ (fs : List (List ℕ)). heard_by (split_with old more).rest fs front) split_is.0
      ∙ ap (λ (r : List ℕ). heard_by r (frame ∷ frames) front) split_is.1
      ∙ ap (heard_as frame (heard_by rest frames) front) is
      ∙ ap (heard_by rest frames) treated_is

  -- the first frames are this one and those behind it
  first_on : (n : ℕ) → after_first (suc n) (split_with old more).frames front ≡ after_first n (split_with next more).frames (record next { rest = [] })
  first_on n =
      let frames : List (List ℕ) = (split_with next more).frames in
      ap (λ (fs : List (List ℕ)). after_first (suc n) fs front) split_is.0
      ∙ ap (first_as frame (after_first n frames) front) is
      ∙ ap (after_first n frames) treated_is

  stops_on : (end : Recovery) → StopsWithin next more end → StopsWithin old more end
  stops_on end (n, e) = (suc n, e ∙ ap cut (sym (first_on n)))

  continues : length frame + length (drop (body_len old.rest) old.rest) ≡ length old.rest → Continues old more next more
  continues count =
      let keeps = after_keeps old said in
      let rest = ap length rest_is in
      let treated = keeps.treated in
      record {
        heard = heard_on;
        stops = stops_on;
        stays = record { layouts = keeps.layouts; session = keeps.session; dialed = keeps.dialed; made = keeps.made };
        count = omega (arith, rest, count, treated);
      }

  -- where memory is wanting in between, the frame counts as treated or not
  stops_there : (end : Recovery) → (cut end ≡ cut old) ⊎ (cut end ≡ cut (after old said)) → StopsWithin old more (cut end)
  stops_there end (inl e) = (0, e)
  stops_there end (inr e) = (suc 0, e ∙ sym (ap cut (first_on 0)))

-- where memory is wanting while the front frame is treated
pub stops_short : ((bytes more frame : List ℕ) → front_of bytes ≡ whole frame → BeginsWith bytes more frame) → (old : Recovery) (said : Response) (count : ℕ)
    → Said said count ≡ told_at old.layouts (front_of old.rest) → (end : Recovery) → (cut end ≡ cut old) ⊎ (cut end ≡ cut (after old said))
    → (more : List ℕ) → StopsWithin old more (cut end)
stops_short law old said count told end which more =
    let there = told_front old.layouts (front_of old.rest) said count told in
    stops_there old there.0 said more (law old.rest more there.0 there.1) there.2 end which

-- the bytes of the front frame and of those behind it
counted : (rest frame : List ℕ) → frame ++ drop (body_len rest) rest ≡ rest → length frame + length (drop (body_len rest) rest) ≡ length rest
counted rest frame is = sym (length-append frame (drop (body_len rest) rest)) ∙ ap length is

-- the front frame is treated, and all holds that always does
pub treats : ((bytes more frame : List ℕ) → front_of bytes ≡ whole frame → BeginsWith bytes more frame) → (old : Recovery) (said : Response) (count : ℕ)
    → Said said count ≡ told_at old.layouts (front_of old.rest) → (asks said ≡ true → 16 ≤ count) → IsSound old → Treats old (taken (after old said) count)
treats law old said count told long sound =
    let there = told_front old.layouts (front_of old.rest) said count told in
    let frame = there.0 in
    let same : count ≡ length frame = there.3 in
    let P : ℕ → Type 0 = λ n. Treats old (taken (after old said) n) in
    subst P (sym same) (
    let begins = law old.rest [] frame there.1 in
    let bytes = counted old.rest frame begins.first in
    let keeps = after_keeps old said in
    let rest : length (drop (body_len (after old said).rest) (after old said).rest) ≡ length (drop (body_len old.rest) old.rest) = rw keeps.rest refl in
    let least = begins.is_frame.least in
    let fewer : length (taken (after old said) (length frame)).rest < length old.rest = omega (arith, bytes, rest, least) in
    let spends = spent_after old said (length frame) (λ asked. subst (λ n. 16 ≤ n) same (long asked)) in
    record {
      sound = record {
        least = rw keeps.session sound.least;
        most = rw keeps.session sound.most;
        numbers = omega (arith, spends, sound.numbers, keeps.made, keeps.treated);
        made = rw keeps.made sound.made;
        few = omega (arith, sound.few, keeps.treated, rest, bytes);
      };
      goes = λ more. continues old frame said more (law old.rest more frame there.1) there.2 bytes;
      fewer = fewer;
    })

-- how many bytes are treated then, and what stands in front before they are taken off
pub treats_few : ((bytes more frame : List ℕ) → front_of bytes ≡ whole frame → BeginsWith bytes more frame) → (old : Recovery) (said : Response) (count : ℕ)
    → Said said count ≡ told_at old.layouts (front_of old.rest) → IsSound old → (after old said).treated + count ≤ 2 ^ 35
treats_few law old said count told sound =
    let there = told_front old.layouts (front_of old.rest) said count told in
    let bytes = counted old.rest there.0 (law old.rest [] there.0 there.1).first in
    let keeps = after_keeps old said in
    let count_is = there.3 in
    let treated = keeps.treated in
    let few = sound.few in
    omega arith

pub treats_dialed : (old : Recovery) (said : Response) → (after old said).dialed ≡ old.dialed
treats_dialed old said = (after_keeps old said).dialed

pub treats_session : (old : Recovery) (said : Response) → (after old said).session ≡ old.session
treats_session old said = (after_keeps old said).session

pub treats_whole : (old : Recovery) (said : Response) (count : ℕ) → Said said count ≡ told_at old.layouts (front_of old.rest) → IsWhole (front_of (after old said).rest)
treats_whole old said count told =
    let there = told_front old.layouts (front_of old.rest) said count told in
    let keeps = after_keeps old said in
    rw (keeps.rest, there.1) tt

-- what stands at the front, where it is no response
told_misfit : (layouts : List Layout) (front : Front) → Misfit ≡ told_at layouts front
    → ((frame : List ℕ) × (front ≡ whole frame) × (response_by layouts frame ≡ None)) ⊎ ((len : ℕ) × (front ≡ bad_length len))
told_misfit layouts not_yet is = cc is
told_misfit layouts (bad_length len) is = inr (len, refl)
told_misfit layouts (whole frame) is = by (response_by layouts frame) refl is
  where
    by : (o : Option Response) → response_by layouts frame ≡ o → Misfit ≡ told_as (length frame) o
        → ((frame' : List ℕ) × (whole frame ≡ whole frame') × (response_by layouts frame' ≡ None)) ⊎ ((len : ℕ) × (whole frame ≡ bad_length len))
    by None e t = inl (frame, refl, e)
    by (Some other) e t = cc t

-- the bytes that the client has are no response at their front, so the place of the misfit is there
pub misfits : ((bytes more frame : List ℕ) → front_of bytes ≡ whole frame → BeginsWith bytes more frame)
    → ((bytes more : List ℕ) (len : ℕ) → front_of bytes ≡ bad_length len → split_of (bytes ++ more) ≡ record { frames = []; rest = bytes ++ more })
    → (old : Recovery) → Misfit ≡ told_at old.layouts (front_of old.rest) → (more : List ℕ)
    → heard old more ≡ record { client = record old { rest = [] }; misfit = Some old.treated }
misfits law bad old told more =
    elim (told_misfit old.layouts (front_of old.rest) told) [
      | inl whole_there ↦
          let frame = whole_there.0 in
          let begins = law old.rest more frame whole_there.1 in
          let front : Recovery = record old { rest = [] } in
          ap (λ (fs : List (List ℕ)). heard_by (split_with old more).rest fs front) begins.frames
          ∙ ap (heard_as frame (heard_by (split_with old more).rest (split_of (drop (body_len old.rest) old.rest ++ more)).frames) front) whole_there.2
      | inr bad_there ↦
          let front : Recovery = record old { rest = [] } in
          ap (λ (s : Split). heard_by s.rest s.frames front) (bad old.rest more bad_there.0 bad_there.1)
          ∙ ap (heard_behind (old.rest ++ more) front) (bad-stays old.rest more bad_there.0 bad_there.1)
    ]

pub after_layouts : (client : Recovery) (said : Response) → (after client said).layouts ≡ client.layouts
after_layouts client said = (after_keeps client said).layouts
