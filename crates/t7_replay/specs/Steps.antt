-- What the lines of a script do, and what a script comes to.
use Rattle.std.specs.Prelude.{ℕ, nat_lt, Bool, true, false, ◌&&◌, ◌||◌, ℤ, pos}
use Rattle.std.specs.Prelude.{List, [], ◌∷◌, ◌++◌, Option, Some, None, Result, Ok, Err, codes, drop, length, map, take, unwrap_or, if◌then◌else◌}
use Rattle.t7_base.specs.declared.ids.Channel.TheVariants.{Live, Snap}
use Rattle.t7_base.specs.declared.ids.Feed.{Feed}
use Rattle.t7_book.specs.Acts.{Accepts, Act, Beats, Snaps}
use Rattle.t7_book.specs.Trace.{trace}
use Rattle.t7_client.specs.Recovering.{making}
use Rattle.t7_eobi.specs.Faults.{fault_of}
use Rattle.t7_eti.specs.declared.request.Request.{Request}
use Rattle.t7_eti.specs.declared.request.Request.TheVariants as request
use Rattle.t7_eti.specs.Saying.{side_number}
use Rattle.t7_entry.specs.ByNumber.{contains_key}
use Rattle.t7_entry.specs.State.{State}
use Rattle.t7_entry.specs.Days.{replies_in}
use Rattle.t7_entry.specs.Events as entry
use Rattle.t7_acts.specs.InStep.{setting_of}
use Rattle.t7_feed.specs.Arrivals.{Terms, channel_of, reading_of}
use Rattle.t7_feed.specs.Sending.{at_number, sent_on}
use Rattle.t7_outcome.specs.declared.ending.Finish.TheVariants.{End}
use Rattle.t7_outcome.specs.declared.ending.ScriptWhy.TheVariants as why
use Rattle.t7_outcome.specs.declared.ending.Stop.{Stop}
use Rattle.t7_outcome.specs.declared.ending.Stop.TheVariants.{Memory, Script, WriteFault}
use Rattle.t7_outcome.specs.Outcome.{Outcome, Shows, ends, says}
use Rattle.t7_outcome.specs.Steps.{Goes, LineStep, Stops, stepped}
use Rattle.t7_script.specs.declared.event.Event.{Event}
use Rattle.t7_script.specs.declared.event.Event.TheVariants as event
use Rattle.t7_script.specs.declared.event.LineRefusal.{LineRefusal}
use Rattle.t7_script.specs.declared.event.LineRefusal.TheVariants as refusal
use Rattle.t7_script.specs.Events.{event_of}
use Rattle.t7_replay.specs.Calling.{Calling, any_on, any_on_line, came_down, client_for, cut_on, dials, is_for, is_on_line, is_too_much, said_to, sent_up, told_all}
use Rattle.t7_replay.specs.Lines.{bad_lines, day_full_line, replies_lines, sent_lines, under}
use Rattle.t7_replay.specs.Reports.{AtList, AtShow, Gathering, Moment, Showing}
use Rattle.t7_replay.specs.World.{World, on_next_line}

-- a line can't be done: a connection is open and must not be, or the other way round
abbrev pub connection_fault : World → LineStep World Moment
connection_fault world = Stops (Script world.row why.Connection)

-- the client is not in the state that the event wants
abbrev pub client_fault : World → LineStep World Moment
client_fault world = Stops (Script world.row why.Client)

-- so many bytes are not there
abbrev pub bytes_fault : World → LineStep World Moment
bytes_fault world = Stops (Script world.row why.Bytes)

-- what the exchange did once an event has led to this: the commands that it accepted are new acts
abbrev pub acts_after : World → State → List Act
acts_after world state = world.acts ++ map Accepts (drop (length world.state.core.accepted) state.core.accepted)

-- the world after what an event did at the exchange, of whose replies those on the client's connection are on their way to the client
abbrev pub after_entry : Terms → World → entry.Result → World
after_entry terms world result =
    record world {
      state = result.state;
      acts = acts_after world result.state;
      caller = told_all terms.layouts (replies_in result.doings) world.caller;
      said = world.said ++ said_to world.caller result.doings;
    }

-- what an event at the exchange prints: the replies in their order, and under RAW the live datagrams that the new commands send
abbrev pub entry_lines : Terms → World → entry.Result → List (List ℕ)
entry_lines terms world result =
    replies_lines terms.layouts world.raw (replies_in result.doings)
    ++ under world.raw (sent_lines (codes "LIVE") (sent_on terms world.acts Live) (sent_on terms (acts_after world result.state) Live))

-- what was done at the exchange
abbrev pub entered_as : Terms → World → entry.Result → LineStep World Moment
entered_as terms world result = Goes (after_entry terms world result) (says (entry_lines terms world result))

-- an event happens at the exchange
abbrev pub entered : Terms → World → entry.Event → LineStep World Moment
entered terms world event = entered_as terms world (entry.happens (setting_of terms) world.state event)

-- OPEN: a connection opens, which may not be open
abbrev pub opening : Terms → World → ℕ → Bool → LineStep World Moment
opening terms world conn true = connection_fault world
opening terms world conn false = entered terms world (entry.Opened conn)

-- something happens on a connection, which has to be open
abbrev pub on_open : Terms → World → entry.Event → Bool → LineStep World Moment
on_open terms world event true = entered terms world event
on_open terms world event false = connection_fault world

-- IN: bytes come on a connection that is not the client's
abbrev pub coming_in : Terms → World → ℕ → List ℕ → LineStep World Moment
coming_in terms world conn bytes =
    if any_on world.caller conn then connection_fault world
    else on_open terms world (entry.Bytes conn bytes world.moment) (contains_key world.state.inputs conn)

-- CUT: a connection closes, and where it is the client's, the client is cut
abbrev pub cutting : Terms → World → ℕ → LineStep World Moment
cutting terms world conn = on_open terms (record world { caller = cut_on world.caller conn }) (entry.Closed conn) (contains_key world.state.inputs conn)

-- CLEAR: a security is cleared, unless 200,000 commands were accepted
abbrev pub clearing : Terms → World → ℤ → LineStep World Moment
clearing terms world security =
    if nat_lt (length world.state.core.accepted) 200_000 then entered terms world (entry.Clear security world.moment)
    else Goes world (says (day_full_line ∷ []))

-- BEAT: the exchange sends a heartbeat
abbrev pub beating : Terms → World → LineStep World Moment
beating terms world =
    let acts = world.acts ++ Beats ∷ [] in
    Goes (record world { acts = acts }) (says (under world.raw (sent_lines (codes "LIVE") (sent_on terms world.acts Live) (sent_on terms acts Live))))

-- SNAP: the exchange sends the next snapshot datagram
abbrev pub snapping : Terms → World → LineStep World Moment
snapping terms world =
    let acts = world.acts ++ Snaps ∷ [] in
    Goes (record world { acts = acts }) (says (under world.raw (sent_lines (codes "SNAP") (sent_on terms world.acts Snap) (sent_on terms acts Snap))))

-- bytes are delivered to the member on a feed, which says where they are no datagram of it
abbrev pub delivered : Terms → World → Feed → List ℕ → LineStep World Moment
delivered terms world feed bytes =
    Goes (record world { came = record { feed = feed; bytes = bytes } ∷ world.came }) (says (bad_lines (fault_of (reading_of terms feed) bytes)))

-- LA, LB, SA and SB: a datagram that was sent is delivered
abbrev pub delivering : Terms → World → Feed → Option (List ℕ) → LineStep World Moment
delivering terms world feed (Some bytes) = delivered terms world feed bytes
delivering terms world feed None = Stops (Script world.row why.Datagram)

-- DIAL: a connection opens, and the client of a session dials on it, while it is on no other
abbrev pub dialing : Terms → World → ℕ → ℕ → LineStep World Moment
dialing terms world conn session =
    if contains_key world.state.inputs conn || any_on_line world.caller then connection_fault world
    else if is_for session world.caller then
    entered terms (record world { caller = Some (dials conn (client_for terms.layouts session world.caller)); said = [] }) (entry.Opened conn)
    else client_fault world

-- ORDER: the client queues a request for a new order, while it is logged on
abbrev pub ordering : World → (ℕ → Request) → Option Calling → LineStep World Moment
ordering world order None = client_fault world
ordering world order (Some calling) =
    if calling.client.logged_on then Goes (record world { caller = Some (record calling { client = making calling.client (order calling.client.next) }) }) []
    else client_fault world

-- UP: of the client's queued bytes the next so many come to the exchange
abbrev pub sending : Terms → World → Calling → ℕ → LineStep World Moment
sending terms world calling count =
    if nat_lt (length calling.client.queue) count then bytes_fault world
    else entered terms (record world { caller = Some (sent_up count calling) }) (entry.Bytes calling.conn (take count calling.client.queue) world.moment)

-- so many as are named, or all of them, on the client's connection, which has to be open
abbrev pub going_up : Terms → World → Option ℕ → Option Calling → LineStep World Moment
going_up terms world count None = connection_fault world
going_up terms world count (Some calling) =
    if is_on_line calling && contains_key world.state.inputs calling.conn then sending terms world calling (unwrap_or count (length calling.client.queue))
    else connection_fault world

-- DOWN: of the bytes that were sent on the client's connection the next so many come to the client, at most 2^35 since its dial
abbrev pub receiving : World → Calling → ℕ → LineStep World Moment
receiving world calling count =
    if is_too_much count calling then bytes_fault world
    else Goes (record world { caller = Some (came_down count calling) }) []

-- so many as are named, or all of them
abbrev pub going_down : World → Option ℕ → Option Calling → LineStep World Moment
going_down world count None = client_fault world
going_down world count (Some calling) = receiving world calling (unwrap_or count (length calling.coming))

-- what a report of the client is about now
abbrev pub gathering_of : Terms → World → Calling → Gathering
gathering_of terms world calling = record { listing = terms.listing; acts = world.acts; said = world.said; calling = calling }

-- LIST: the client's report
abbrev pub reporting : Terms → World → Option Calling → LineStep World Moment
reporting terms world None = client_fault world
reporting terms world (Some calling) = Goes world (Shows (AtList (gathering_of terms world calling)) ∷ [])

-- what a report of the member is about now
abbrev pub moment_of : Terms → World → Showing
moment_of terms world = record { terms = terms; acts = world.acts; came = world.came; forged = world.forged }

-- the events: what each does in a world
abbrev pub done_by : Terms → World → Event → LineStep World Moment
done_by terms world event.Raw = Goes (record world { raw = true }) []
done_by terms world (event.Opens conn) = opening terms world conn (contains_key world.state.inputs conn)
done_by terms world (event.Input conn bytes) = coming_in terms world conn bytes
done_by terms world (event.Cut conn) = cutting terms world conn
done_by terms world (event.Tick moment) = entered terms (record world { moment = moment }) (entry.Tick moment)
done_by terms world (event.Clear security) = clearing terms world security
done_by terms world event.Beat = beating terms world
done_by terms world event.Snap = snapping terms world
done_by terms world (event.Deliver feed number) = delivering terms world feed (at_number (sent_on terms world.acts (channel_of feed)) number)
done_by terms world (event.Forge feed bytes) = delivered terms (record world { forged = true }) feed bytes
done_by terms world event.Show = Goes world (Shows (AtShow (moment_of terms world)) ∷ [])
done_by terms world (event.Dial conn session) = dialing terms world conn session
done_by terms world (event.Order security side price quantity client) =
    ordering world (λ number. request.New number security (side_number side) price (pos quantity) client) world.caller
done_by terms world (event.Up count) = going_up terms world count world.caller
done_by terms world (event.Down count) = going_down world count world.caller
done_by terms world event.List = reporting terms world world.caller

-- why a line stops that is no event: the first test that it fails
abbrev pub stop_of : ℕ → LineRefusal → Stop
stop_of row refusal.Event = Script row why.Event
stop_of row refusal.Number = Script row why.Number
stop_of row refusal.Memory = Memory

-- what is read of a line is done, or stops the script
abbrev pub read_as : Terms → World → Result Event LineRefusal → LineStep World Moment
read_as terms world (Ok event) = done_by terms world event
read_as terms world (Err why) = Stops (stop_of world.row why)

-- what a line does: its event, which is read by the product and the moment of the last TICK
abbrev pub done_read : Terms → World → List ℕ → LineStep World Moment
done_read terms world line = read_as terms world (event_of (record { listing = terms.listing; moment = world.moment }) line)

-- what the line does whose number is the world's row; there may be 200,000 lines
abbrev pub done_at : Terms → World → List ℕ → LineStep World Moment
done_at terms world line = if nat_lt 200_000 world.row then Stops (Script world.row why.Long) else done_read terms world line

-- what the next line does; lines are numbered from 1
abbrev pub step_at : Terms → World → List ℕ → LineStep World Moment
step_at terms world line = done_at terms (on_next_line world) line

-- what lines come to: each does what it says, and after the last one `END n` is due, n the number of live messages
abbrev pub played : Terms → World → List (List ℕ) → Outcome Moment
played terms world [] = ends (Ok (End (length (trace terms.listing world.state.core.accepted))))
played terms world (line ∷ lines) = stepped (step_at terms world line) (λ after. played terms after lines)

-- the stops that a script can bring
abbrev pub OfPlay : Stop → Type 0
OfPlay (Script row why) = Unit {0}
OfPlay WriteFault = Unit {0}
OfPlay Memory = Unit {0}
OfPlay _ = ⊥
