-- The client of a replay with the connection that it dialed, and what comes to it.
use Rattle.std.specs.Prelude.{◌≡◌, ℕ, ◌<◌, ◌≤◌, ◌+◌, ◌^◌, ◌==◌, nat_lt, ◌&&◌, ◌||◌, Bool, true, false, List, [], ◌++◌, ◌∷◌}
use Rattle.std.specs.Prelude.{Option, Some, None, option_map, is_some, drop, length, take, unwrap_or, if◌then◌else◌}
use Rattle.std.specs.Option.{option_map_or}
use Rattle.t7_layout.specs.Layouts.{Layout}
use Rattle.t7_eti.specs.declared.response.Response.{Response}
use Rattle.t7_eti.specs.Saying.{response_bytes}
use Rattle.t7_client.specs.Recovering.{Recovery, cut, dialed, new_recovery}
use Rattle.t7_client.specs.Hearing.{Heard, heard}
use Rattle.t7_client.specs.Sound.{IsSound}
use Rattle.t7_dialog.specs.Saying.{said_on}
use Rattle.t7_entry.specs.State.{Doing, Reply, closes, sends}

-- a client with the session that its first DIAL names, and the connection that it dialed last
pub record Calling : Type 0 where
  pub client : Recovery
  pub session : ℕ
  pub conn : ℕ
  -- the exchange has not closed it
  pub lasts : Bool
  -- the bytes that were sent on it and have not come to the client
  pub coming : List ℕ

-- the client of a session that has not dialed: it has gathered nothing
abbrev pub new_calling : List Layout → ℕ → Calling
new_calling layouts session = record { client = new_recovery layouts session; session = session; conn = 0; lasts = false; coming = [] }

-- the client of a session, which may be there already
abbrev pub client_for : List Layout → ℕ → Option Calling → Calling
client_for layouts session caller = unwrap_or caller (new_calling layouts session)

-- a client dials on a connection
abbrev pub dials : ℕ → Calling → Calling
dials conn calling = record calling { client = dialed calling.client; conn = conn; lasts = true; coming = [] }

-- a client is cut: what was sent and has not come is lost
abbrev pub hangs_up : Calling → Calling
hangs_up calling = record calling { client = cut calling.client; coming = [] }

-- the client is on a connection: it dialed, and since then neither was it cut nor has the exchange closed the connection
abbrev pub is_on_line : Calling → Bool
is_on_line calling = calling.client.dialed && calling.lasts

-- it is on this one
abbrev pub is_on : ℕ → Calling → Bool
is_on conn calling = is_on_line calling && (calling.conn == conn)

-- there is a client, and it is on a connection
abbrev pub any_on_line : Option Calling → Bool
any_on_line caller = option_map_or is_on_line caller false

-- there is a client, and it is on this one
abbrev pub any_on : Option Calling → ℕ → Bool
any_on caller conn = option_map_or (is_on conn) caller false

-- there is no client of another session
abbrev pub is_for : ℕ → Option Calling → Bool
is_for session None = true
is_for session (Some calling) = calling.session == session

-- the client is cut that is on this connection, if one is
abbrev pub cut_on : Option Calling → ℕ → Option Calling
cut_on caller conn = if any_on caller conn then option_map hangs_up caller else caller

-- a frame goes out on a connection: on the client's it is on its way to the client
abbrev pub with_frame : ℕ → List ℕ → Calling → Calling
with_frame conn frame calling = if is_on conn calling then record calling { coming = calling.coming ++ frame } else calling

-- the exchange closes a connection: the client's ends behind what was sent on it
abbrev pub with_close : ℕ → Calling → Calling
with_close conn calling = if is_on conn calling then record calling { lasts = false } else calling

-- a reply goes out
abbrev pub told : List Layout → Reply → Calling → Calling
told layouts (sends conn r) = with_frame conn (response_bytes layouts r)
told layouts (closes conn) = with_close conn

-- replies go out, one after another
abbrev pub told_all : List Layout → List Reply → Option Calling → Option Calling
told_all layouts [] caller = caller
told_all layouts (reply ∷ replies) caller = told_all layouts replies (option_map (told layouts reply) caller)

-- what is said to the client among what was done: the responses that go out on the connection that it is on
abbrev pub said_to : Option Calling → List Doing → List Response
said_to None doings = []
said_to (Some calling) doings = if is_on_line calling then said_on calling.conn doings else []

-- the next so many of the bytes that the client has queued are sent
abbrev pub sent_up : ℕ → Calling → Calling
sent_up count calling = record calling { client = record calling.client { queue = drop count calling.client.queue } }

-- what was heard is treated; at a place that is no response the client is cut
abbrev pub heard_so : Calling → Heard → Calling
heard_so calling now = if is_some now.misfit then hangs_up (record calling { client = now.client }) else record calling { client = now.client }

-- the next so many of the bytes that were sent on the client's connection come to it
abbrev pub came_down : ℕ → Calling → Calling
came_down count calling =
    if calling.client.dialed then heard_so (record calling { coming = drop count calling.coming }) (heard calling.client (take count calling.coming))
    else calling

-- how many orders the client has queued since it dialed
abbrev pub made_by : Option Calling → ℕ
made_by caller = option_map_or (λ calling. calling.client.made) caller 0

-- what is noted beside a client: whether it dialed and was not cut since, and how many bytes came to it since it dialed
pub record IsNoted (client : Recovery) (on : Bool) (count : ℕ) : Type 0 where
  pub dialed : client.dialed ≡ on
  pub came : client.treated + length client.rest ≡ count
  pub few : count ≤ 2 ^ 35

-- so many bytes were handed out of those that the client has queued, if there are so many
abbrev pub HandsUp : ℕ → Calling → Calling → Option (List ℕ) → Type 0
HandsUp count old new None = (nat_lt (length old.client.queue) count ≡ true) × (new ≡ old)
HandsUp count old new (Some bytes) = (nat_lt (length old.client.queue) count ≡ false) × (bytes ≡ take count old.client.queue) × (new ≡ sent_up count old)

-- so many bytes can't come to the client: they are not there, or more than 2^35 would come since its dial
abbrev pub is_too_much : ℕ → Calling → Bool
is_too_much count calling = nat_lt (length calling.coming) count || nat_lt (2 ^ 35) (calling.client.treated + length calling.client.rest + count)

-- what always holds of a client: that of its machine, and its list is no longer than one in memory
pub record IsSoundCalling (calling : Calling) : Type 0 where
  pub sound : IsSound calling.client
  pub few : length calling.client.gathered < 2 ^ 64

-- the same where there is one
abbrev pub IsSoundCaller : Option Calling → Type 0
IsSoundCaller None = Unit {0}
IsSoundCaller (Some calling) = IsSoundCalling calling
