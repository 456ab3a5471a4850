-- What a client makes of what comes down.
use Rattle.std.proofs.Common.{◌≡◌, ℕ, List, [], ◌∷◌, ◌++◌, map, Option, Some, None, refl, sym, ap, ◌∙◌, subst, append_assoc}
use Rattle.std.specs.List.{AllByRecursion, concat}
use Rattle.std.specs.Option.{option_map_or}
use Rattle.t7_eti.specs.declared.response.Kept.{Kept}
use Rattle.t7_eti.specs.declared.response.Response.{Response}
use Rattle.t7_eti.specs.declared.response.Response.TheVariants as response
use Rattle.t7_eti.specs.Saying.{read_again, response_bytes}
use Rattle.t7_frames.specs.Frames.{Front, IsFrame, bad_length, front_of, not_yet, whole}
use Rattle.t7_layout.specs.Layouts.{Layout}
use Rattle.t7_layout.specs.Lookups.{IsTable}
use Rattle.t7_recover.specs.Entries.{AreEntries, IsEntry}
use Rattle.t7_client.specs.Fronts.{FrontsAreGathered, known_by, last_known, said_in}
use Rattle.t7_client.specs.Hearing.{heard_as, heard_behind, heard_by, response_by, split_with, treating}
use Rattle.t7_client.specs.Recovering.{Recovery}
use Rattle.t7_dialog.specs.Coming.{WhatComesIsGathered}
use Rattle.t7_dialog.specs.Reaching.{AreInStep, Reached, reached_by}
use Rattle.t7_dialog.specs.Saying.{AreSaid}
use Rattle.t7_dialog.proofs.Keeping.{KeepsUpAs, again_reached, again_steps, keeps_by}
use Rattle.t7_dialog.proofs.Parting.{halves, parts}
use Rattle.t7_dialog.proofs.Reaching.{step_first}
use Rattle.t7_dialog.proofs.Reading.{says}

-- a response that is read again says the same of entries and of answers
again_entry : (layouts : List Layout) (stored : List Kept) (said : Response) → IsEntry stored said → IsEntry stored (read_again layouts said)
unfolding read_again
again_entry layouts stored (response.Kept number what) entry = entry
again_entry layouts stored (response.Logon seq heart) entry = tt
again_entry layouts stored (response.Logout seq) entry = tt
again_entry layouts stored response.Beat entry = tt
again_entry layouts stored (response.Reject None reason) entry = tt
again_entry layouts stored (response.Reject (Some seq) reason) entry = tt
again_entry layouts stored (response.Resent seq count last known) entry = tt

again_entries : (layouts : List Layout) (stored : List Kept) (said : List Response) → AreEntries stored said → AreEntries stored (map (read_again layouts) said)
again_entries layouts stored [] are = tt
again_entries layouts stored (s ∷ said) are = (again_entry layouts stored s are.0, again_entries layouts stored said are.1)

again_known : (layouts : List Layout) (said : List Response) (known : Option ℕ) → last_known (map (read_again layouts) said) known ≡ last_known said known
unfolding read_again
again_known layouts [] known = refl
again_known layouts (response.Kept number what ∷ said) known = again_known layouts said known
again_known layouts (response.Logon seq heart ∷ said) known = again_known layouts said known
again_known layouts (response.Logout seq ∷ said) known = again_known layouts said known
again_known layouts (response.Beat ∷ said) known = again_known layouts said known
again_known layouts (response.Reject None reason ∷ said) known = again_known layouts said known
again_known layouts (response.Reject (Some seq) reason ∷ said) known = again_known layouts said known
again_known layouts (response.Resent seq count last now ∷ said) known = again_known layouts said (Some now)

-- frames of responses are read as them
frames_said : (layouts : List Layout) (said : List Response) → IsTable layouts → AreSaid layouts said → AllByRecursion IsFrame (map (response_bytes layouts) said)
frames_said layouts [] table are = tt
frames_said layouts (s ∷ said) table are = ((says layouts s table are.0).frame, frames_said layouts said table are.1)

pub read_said : (layouts : List Layout) (said : List Response) → IsTable layouts → AreSaid layouts said → said_in layouts (map (response_bytes layouts) said) ≡ map (read_again layouts) said
read_said layouts [] table are = refl
read_said layouts (s ∷ said) table are =
    ap (λ (o : Option Response). option_map_or (λ (r : Response). r ∷ said_in layouts (map (response_bytes layouts) said)) o []) (says layouts s table are.0).heard
    ∙ ap (λ (l : List Response). read_again layouts s ∷ l) (read_said layouts said table are.1)

pub said_first : (layouts : List Layout) (xs ys : List Response) → AreSaid layouts (xs ++ ys) → AreSaid layouts xs × AreSaid layouts ys
said_first layouts [] ys are = (tt, are)
said_first layouts (x ∷ xs) ys are = let more = said_first layouts xs ys are.1 in ((are.0, more.0), more.1)

pub entries_first : (stored : List Kept) (xs ys : List Response) → AreEntries stored (xs ++ ys) → AreEntries stored xs × AreEntries stored ys
entries_first stored [] ys are = (tt, are)
entries_first stored (x ∷ xs) ys are = let more = entries_first stored xs ys are.1 in ((are.0, more.0), more.1)

-- what stands behind the frames is what was not treated, where all of them are responses
heard_rest : (rest : List ℕ) (frames : List (List ℕ)) (client : Recovery) → (heard_by rest frames client).misfit ≡ None → (heard_by rest frames client).client.rest ≡ rest
heard_rest rest [] client fine = by (front_of rest) fine
  where
    by : (f : Front) → (heard_behind rest client f).misfit ≡ None → (heard_behind rest client f).client.rest ≡ rest
    by (whole frame) is = refl
    by not_yet is = refl
    by (bad_length len) is = absurd (cc)
heard_rest rest (frame ∷ frames) client fine = by (response_by client.layouts frame) (λ said. heard_rest rest frames (treating client frame said)) fine
  where
    by : (o : Option Response)
        → ((said : Response) → (heard_by rest frames (treating client frame said)).misfit ≡ None → (heard_by rest frames (treating client frame said)).client.rest ≡ rest)
        → (heard_as frame (heard_by rest frames) client o).misfit ≡ None → (heard_as frame (heard_by rest frames) client o).client.rest ≡ rest
    by None go is = absurd (cc)
    by (Some said) go is = go said is

pub what_comes : FrontsAreGathered → WhatComesIsGathered
what_comes law layouts stored client bytes coming left table same whole_is entries are front =
    let split = split_with client bytes in
    let all : (client.rest ++ bytes) ++ coming ≡ concat (map (response_bytes layouts) left) = append_assoc client.rest bytes coming ∙ whole_is in
    let apart_of = parts (map (response_bytes layouts) left) (client.rest ++ bytes) coming (frames_said layouts left table are) all in
    let both = halves (response_bytes layouts) left split.frames apart_of.later apart_of.whole in
    let read = both.first in
    let said : said_in client.layouts split.frames ≡ map (read_again layouts) read =
    ap (λ (l : List Layout). said_in l split.frames) same ∙ ap (said_in layouts) (sym both.ones)
    ∙ read_said layouts read table (said_first layouts read both.later (subst (AreSaid layouts) both.whole are)).0 in
    let those = again_entries layouts stored read (entries_first stored read both.later (subst (AreEntries stored) both.whole entries)).0 in
    let gathers = law stored client bytes front (subst (AreEntries stored) (sym said) those) in
    record {
      read = read;
      later = both.later;
      parts = both.whole;
      front = gathers.front;
      known = gathers.answer ∙ ap (λ (l : List Response). last_known l (known_by client)) said ∙ again_known layouts read (known_by client);
      keeps_up = λ reached steps up.
          let those = (step_first reached read both.later (subst (AreInStep reached) both.whole steps)).0 in
          let bare : Recovery = record client { rest = [] } in
          subst (λ (r : Reached). KeepsUpAs r (heard_by split.rest split.frames bare).client) (ap (reached_by reached) said ∙ again_reached layouts reached read)
          (keeps_by reached split.rest split.frames bare (subst (AreInStep reached) (sym said) (again_steps layouts reached read those)) up);
      rest = λ fine. ap (λ (l : List ℕ). l ++ coming) (heard_rest split.rest split.frames (record client { rest = [] }) fine) ∙ apart_of.rest ∙ ap concat (sym both.others);
    }
