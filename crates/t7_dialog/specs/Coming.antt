-- What a client makes of the responses that come down, and what it asks in turn.
use Rattle.std.specs.Prelude.{◌≡◌, ℕ, ◌≤◌, ◌<◌, ◌^◌, ◌-◌, List, [], ◌∷◌, ◌++◌, None, length, map}
use Rattle.std.specs.List.{concat}
use Rattle.t7_base.specs.Outside.{Begins}
use Rattle.t7_layout.specs.Layouts.{Layout}
use Rattle.t7_layout.specs.Lookups.{IsTable}
use Rattle.t7_eti.specs.declared.request.Request.{Request}
use Rattle.t7_eti.specs.declared.request.Request.TheVariants as request
use Rattle.t7_eti.specs.declared.response.Kept.{Kept}
use Rattle.t7_eti.specs.declared.response.Response.{Response}
use Rattle.t7_eti.specs.Saying.{request_bytes}
use Rattle.t7_recover.specs.Entries.{AreEntries}
use Rattle.t7_client.specs.Fronts.{known_by, last_known}
use Rattle.t7_client.specs.Hearing.{heard}
use Rattle.t7_client.specs.Recovering.{Recovery}
use Rattle.t7_dialog.specs.Reaching.{AreInStep, KeepsUp, Reached, reached_by}
use Rattle.t7_dialog.specs.Saying.{AreSaid, bytes_of}

-- The bytes that come, and those behind them, are these responses; of which so many were read and the others are still to come. The client's list is a front of
-- the stored one, and it has read how many responses are kept by the last answer among them; and it keeps up with what it read where that is in step.
pub record Comes (layouts : List Layout) (stored : List Kept) (client : Recovery) (bytes coming : List ℕ) (left : List Response) : Type 0 where
  pub read : List Response
  pub later : List Response
  pub parts : left ≡ read ++ later
  pub front : Begins (heard client bytes).client.gathered stored
  pub known : known_by (heard client bytes).client ≡ last_known read (known_by client)
  pub rest : (heard client bytes).misfit ≡ None → (heard client bytes).client.rest ++ coming ≡ bytes_of layouts later
  pub keeps_up : (reached : Reached) → AreInStep reached left → KeepsUp reached (known_by client) (length client.gathered)
      → KeepsUp (reached_by reached read) (known_by (heard client bytes).client) (length (heard client bytes).client.gathered)

-- what comes down of responses that are entries of a stored list
abbrev pub WhatComesIsGathered : Type 0
WhatComesIsGathered = (layouts : List Layout) (stored : List Kept) (client : Recovery) (bytes coming : List ℕ) (left : List Response) → IsTable layouts → client.layouts ≡ layouts
    → client.rest ++ (bytes ++ coming) ≡ bytes_of layouts left → AreEntries stored left → AreSaid layouts left → Begins client.gathered stored
    → Comes layouts stored client bytes coming left

-- a request for the responses behind some of a client's list, with a number below its next one
abbrev pub IsResend : ℕ → ℕ → Request → Type 0
IsResend next count (request.Resend seq after upto) = (seq < next) × (after ≤ count) × (upto ≡ 2 ^ 128 - 1)
IsResend next count other = ⊥

-- each of these is one
abbrev pub AreResends : ℕ → ℕ → List Request → Type 0
AreResends next count [] = Unit {0}
AreResends next count (asked ∷ more) = IsResend next count asked × AreResends next count more

-- A client that has become another one has queued requests for responses and nothing else, and has gathered no fewer.
pub record Queues (old new : Recovery) : Type 0 where
  pub asked : List Request
  pub queue : new.queue ≡ old.queue ++ concat (map (request_bytes old.layouts) asked)
  pub each : AreResends new.next (length new.gathered) asked
  pub numbers : old.next ≤ new.next
  pub grown : length old.gathered ≤ length new.gathered
  pub layouts : new.layouts ≡ old.layouts
  pub session : new.session ≡ old.session
  pub dialed : new.dialed ≡ old.dialed
  pub made : new.made ≡ old.made

-- so does each client that hears bytes
abbrev pub ClientsAsk : Type 0
ClientsAsk = (client : Recovery) (bytes : List ℕ) → Queues client (heard client bytes).client
