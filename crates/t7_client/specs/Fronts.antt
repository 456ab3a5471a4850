-- What a client gathers, where the responses that come down are ones of a list that is stored for its session.
use Rattle.std.specs.Prelude.{◌≡◌, ℕ, ◌≤◌, true, List, [], ◌∷◌, Option, Some, length, take, option_map}
use Rattle.std.specs.Option.{option_map_or}
use Rattle.t7_base.specs.Outside.{Begins}
use Rattle.t7_layout.specs.Layouts.{Layout}
use Rattle.t7_eti.specs.declared.response.Kept.{Kept}
use Rattle.t7_eti.specs.declared.response.Response.{Response}
use Rattle.t7_eti.specs.declared.response.Response.TheVariants as response
use Rattle.t7_recover.specs.Entries.{AreEntries}
use Rattle.t7_client.specs.declared.machine.Answer.{Answer}
use Rattle.t7_client.specs.Recovering.{Recovery, is_recovered}
use Rattle.t7_client.specs.Hearing.{after_first, heard, response_by, split_with}

-- the responses that frames are, up to the first that is none
abbrev pub said_in : List Layout → List (List ℕ) → List Response
said_in layouts [] = []
said_in layouts (frame ∷ frames) = option_map_or (λ said. said ∷ said_in layouts frames) (response_by layouts frame) []

-- the responses that bytes make whole behind those that the client has
abbrev pub said_with : Recovery → List ℕ → List Response
said_with client bytes = said_in client.layouts (split_with client bytes).frames

-- how many responses are kept by the last answer among these, and before them by this one
abbrev pub last_known : List Response → Option ℕ → Option ℕ
last_known [] known = known
last_known (response.Resent seq count last known ∷ more) before = last_known more (Some known)
last_known (other ∷ more) known = last_known more known

-- how many are kept by the last answer that the client read
abbrev pub known_by : Recovery → Option ℕ
known_by client = option_map (λ (a : Answer). a.known) client.answer

-- For a list that is stored, of which the client has a front, and bytes that say entries of it alone: the client's list stays a front of it, also
-- behind the first few frames; and where the client is then recovered, its list has all that the last answer says are kept.
pub record GathersAFront (stored : List Kept) (client : Recovery) (bytes : List ℕ) : Type 0 where
  pub front : Begins (heard client bytes).client.gathered stored
  pub first : (n : ℕ) → Begins (after_first n (split_with client bytes).frames (record client { rest = [] })).gathered stored
  pub answer : known_by (heard client bytes).client ≡ last_known (said_with client bytes) (known_by client)
  pub whole : (known : ℕ) → known_by (heard client bytes).client ≡ Some known → is_recovered (heard client bytes).client ≡ true
      → (known ≤ length (heard client bytes).client.gathered) × (take known (heard client bytes).client.gathered ≡ take known stored)

-- so it is for each
abbrev pub FrontsAreGathered : Type 0
FrontsAreGathered = (stored : List Kept) (client : Recovery) (bytes : List ℕ) → Begins client.gathered stored → AreEntries stored (said_with client bytes)
    → GathersAFront stored client bytes
