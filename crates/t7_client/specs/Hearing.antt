-- What a client makes of the bytes that come down: they are split into frames, each of which is to be a response.
use Rattle.std.specs.Prelude.{◌≡◌, ℕ, zero, suc, ◌+◌, List, [], ◌∷◌, ◌++◌, length, nat_le, Option, None, Some, if◌then◌else◌}
use Rattle.std.specs.Option.{option_and_then}
use Rattle.std.specs.Result.{result_ok}
use Rattle.t7_layout.specs.declared.words.Family.TheVariants.{Eti}
use Rattle.t7_layout.specs.Layouts.{Layout}
use Rattle.t7_layout.specs.Lookups.{find_template}
use Rattle.t7_fields.specs.Spelling.{template_id}
use Rattle.t7_frames.specs.Frames.{Front, bad_length, front_of}
use Rattle.t7_frames.specs.Split.{Split, split_of}
use Rattle.t7_eti.specs.declared.response.Response.{Response}
use Rattle.t7_eti.specs.Responses.{response_in}
use Rattle.t7_client.specs.declared.fault.ClientFault.{ClientFault}
use Rattle.t7_client.specs.declared.fault.ClientFault.TheVariants.{Misfit, Memory}
use Rattle.t7_client.specs.Recovering.{Recovery, after, cut}

-- the response that a frame is under a template: none where it is shorter, its template is no response's or a field is at fault
abbrev pub response_under : List Layout → List ℕ → Layout → Option Response
response_under layouts frame t = if nat_le t.size (length frame) then result_ok (response_in layouts (record { layout = t; bytes = frame })) else None

-- the response that a frame is, by the template that its TemplateID names
abbrev pub response_by : List Layout → List ℕ → Option Response
response_by layouts frame = option_and_then (response_under layouts frame) (find_template layouts Eti (template_id Eti frame))

-- a frame is treated that is a response
abbrev pub treating : Recovery → List ℕ → Response → Recovery
treating client frame said = record (after client said) { treated = client.treated + length frame }

-- the client that bytes leave, and the place since the dial of what is no response, where there is any
pub record Heard : Type 0 where
  pub client : Recovery
  pub misfit : Option ℕ

-- behind the frames: a length that no frame has is no response, and other bytes may become one
abbrev pub heard_behind : List ℕ → Recovery → Front → Heard
heard_behind rest client (bad_length len) = record { client = client; misfit = Some client.treated }
heard_behind rest client front = record { client = record client { rest = rest }; misfit = None }

-- a frame and what is heard behind it, where it is a response
abbrev pub heard_as : List ℕ → (Recovery → Heard) → Recovery → Option Response → Heard
heard_as frame go client None = record { client = client; misfit = Some client.treated }
heard_as frame go client (Some said) = go (treating client frame said)

-- frames, one after another, and what stands behind them
abbrev pub heard_by : List ℕ → List (List ℕ) → Recovery → Heard
heard_by rest [] client = heard_behind rest client (front_of rest)
heard_by rest (frame ∷ frames) client = heard_as frame (heard_by rest frames) client (response_by client.layouts frame)

-- the untreated bytes and these ones behind them
abbrev pub split_with : Recovery → List ℕ → Split
split_with client bytes = split_of (client.rest ++ bytes)

-- bytes come down
abbrev pub heard : Recovery → List ℕ → Heard
heard client bytes = heard_by (split_with client bytes).rest (split_with client bytes).frames (record client { rest = [] })

-- a frame is treated and so are those behind it, where it is a response
abbrev pub first_as : List ℕ → (Recovery → Recovery) → Recovery → Option Response → Recovery
first_as frame go client None = client
first_as frame go client (Some said) = go (treating client frame said)

-- the first so many frames are treated, as far as they are responses
abbrev pub after_first : ℕ → List (List ℕ) → Recovery → Recovery
after_first zero frames client = client
after_first (suc n) [] client = client
after_first (suc n) (frame ∷ frames) client = first_as frame (after_first n frames) client (response_by client.layouts frame)

-- the client was cut behind some of the frames that the bytes make whole, of which each is a response
abbrev pub StopsWithin : Recovery → List ℕ → Recovery → Type 0
StopsWithin old bytes new = (n : ℕ) × (new ≡ cut (after_first n (split_with old bytes).frames (record old { rest = [] })))

-- the bytes end the connection: at a place that is no response, behind all frames before it, or where memory is wanting
abbrev pub StopsBy : Recovery → List ℕ → ClientFault → Recovery → Type 0
StopsBy old bytes (Misfit place) new = ((heard old bytes).misfit ≡ Some place) × (new ≡ cut (heard old bytes).client)
StopsBy old bytes Memory new = StopsWithin old bytes new

-- what responses leave as it is
pub record Stays (old new : Recovery) : Type 0 where
  pub layouts : new.layouts ≡ old.layouts
  pub session : new.session ≡ old.session
  pub dialed : new.dialed ≡ old.dialed
  pub made : new.made ≡ old.made

-- The one client and the bytes that come to it leave and stop what the other does with other bytes.
pub record Continues (old : Recovery) (bytes : List ℕ) (new : Recovery) (left : List ℕ) : Type 0 where
  pub heard : heard old bytes ≡ heard new left
  pub stops : (end : Recovery) → StopsWithin new left end → StopsWithin old bytes end
  pub stays : Stays old new
  pub count : new.treated + length new.rest + length left ≡ old.treated + length old.rest + length bytes
