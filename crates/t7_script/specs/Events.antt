-- The events of a script with their cells, and the event of a line.
use Rattle.std.specs.Prelude.{◌≡◌, ◌⊎◌, ℕ, if◌then◌else◌, ℤ, List, [], ◌∷◌, Option, Some, None, option_map, Result, Ok, Err, codes}
use Rattle.std.specs.Option.{option_or}
use Rattle.std.specs.Str.{bytes_eq}
use Rattle.t7_base.specs.Listing.{Listing}
use Rattle.t7_base.specs.declared.ids.Side.{Side}
use Rattle.t7_base.specs.declared.ids.Feed.TheVariants.{LiveA, LiveB, SnapA, SnapB}
use Rattle.t7_script.specs.declared.event.Event.{Event}
use Rattle.t7_script.specs.declared.event.Event.TheVariants as event
use Rattle.t7_script.specs.declared.event.LineRefusal.{LineRefusal}
use Rattle.t7_script.specs.declared.event.LineRefusal.TheVariants as refusal
use Rattle.t7_script.specs.declared.words.Word.{Word}
use Rattle.t7_script.specs.declared.words.Word.TheVariants as word
use Rattle.t7_script.specs.Cells.{OrderCells, cells_of, client, connection, byte_count, feed, forged, moment, number, one_of, order_of, piece, price, quantity, security, session, side, two_of}

-- what a line is read by: the product, and the moment of the last TICK
pub record Setting : Type 0 where
  pub listing : Listing
  pub moment : ℕ

-- the words of what the exchange does
abbrev pub exchange_word : List ℕ → Option Word
exchange_word cell =
    if bytes_eq cell (codes "RAW") then Some word.Raw
    else if bytes_eq cell (codes "OPEN") then Some word.Open
    else if bytes_eq cell (codes "IN") then Some word.In
    else if bytes_eq cell (codes "CUT") then Some word.Cut
    else if bytes_eq cell (codes "TICK") then Some word.Tick
    else if bytes_eq cell (codes "SNAP") then Some word.Snap
    else if bytes_eq cell (codes "BEAT") then Some word.Beat
    else if bytes_eq cell (codes "CLEAR") then Some word.Clear
    else None

-- the words of what the member does: a feed's word delivers a datagram on it
abbrev pub member_word : List ℕ → Option Word
member_word cell =
    if bytes_eq cell (codes "FORGE") then Some word.Forge
    else if bytes_eq cell (codes "SHOW") then Some word.Show
    else option_map word.Deliver (feed cell)

-- the words of what the client does
abbrev pub client_word : List ℕ → Option Word
client_word cell =
    if bytes_eq cell (codes "DIAL") then Some word.Dial
    else if bytes_eq cell (codes "ORDER") then Some word.Order
    else if bytes_eq cell (codes "UP") then Some word.Up
    else if bytes_eq cell (codes "DOWN") then Some word.Down
    else if bytes_eq cell (codes "LIST") then Some word.List
    else None

-- the word that a cell is
abbrev pub word_of : List ℕ → Option Word
word_of cell = option_or (exchange_word cell) (option_or (member_word cell) (client_word cell))

-- an event that has no cells behind its word
abbrev pub alone : Event → List (List ℕ) → Result Event LineRefusal
alone event [] = Ok event
alone event (cell ∷ cells) = Err refusal.Event

-- an event of cells, one of which may not be of its form
abbrev pub or_number : Option Event → Result Event LineRefusal
or_number None = Err refusal.Number
or_number (Some event) = Ok event

-- an event of cells, of which there may be too few or too many
abbrev pub with_cells : {A : Type 0} → Option A → (A → Option Event) → Result Event LineRefusal
with_cells None read = Err refusal.Event
with_cells (Some cells) read = or_number (read cells)

-- an event of two things, where there are both
abbrev pub both : {A B : Type 0} → (A → B → Event) → Option A → Option B → Option Event
both make (Some a) (Some b) = Some (make a b)
both make (Some a) None = None
both make None other = None

-- an order, where each of its cells is of its form
abbrev pub ordered : Option ℤ → Option Side → Option ℤ → Option ℕ → Option ℕ → Option Event
ordered (Some security) (Some side) (Some price) (Some quantity) (Some client) = Some (event.Order security side price quantity client)
ordered _ _ _ _ _ = None

-- the order that five cells are
abbrev pub order_event : Listing → OrderCells → Option Event
order_event listing cells =
    ordered (security listing.securities cells.security) (side cells.side) (price cells.price) (quantity cells.quantity) (client cells.client)

-- The events with their cells: the event of a word and the cells behind it, or the first test that fails: their number is wrong, or one isn't of its form.
abbrev pub event_with : Setting → Word → List (List ℕ) → Result Event LineRefusal
event_with setting word.Raw cells = alone event.Raw cells
event_with setting word.Open cells = with_cells (one_of cells) (λ c. option_map event.Opens (connection c))
event_with setting word.In cells = with_cells (two_of cells) (λ p. both event.Input (connection p.0) (piece p.1))
event_with setting word.Cut cells = with_cells (one_of cells) (λ c. option_map event.Cut (connection c))
event_with setting word.Tick cells = with_cells (one_of cells) (λ c. option_map event.Tick (moment setting.moment c))
event_with setting word.Snap cells = alone event.Snap cells
event_with setting word.Beat cells = alone event.Beat cells
event_with setting word.Clear cells = with_cells (one_of cells) (λ c. option_map event.Clear (security setting.listing.securities c))
event_with setting (word.Deliver on) cells = with_cells (one_of cells) (λ c. option_map (event.Deliver on) (number c))
event_with setting word.Forge cells = with_cells (two_of cells) (λ p. both event.Forge (feed p.0) (forged p.1))
event_with setting word.Dial cells = with_cells (two_of cells) (λ p. both event.Dial (connection p.0) (session setting.listing.sessions p.1))
event_with setting word.Order cells = with_cells (order_of cells) (order_event setting.listing)
event_with setting word.Up cells = with_cells (one_of cells) (λ c. option_map event.Up (byte_count c))
event_with setting word.Down cells = with_cells (one_of cells) (λ c. option_map event.Down (byte_count c))
event_with setting word.Show cells = alone event.Show cells
event_with setting word.List cells = alone event.List cells

-- the event of a word, where the first cell is one
abbrev pub event_by : Setting → Option Word → List (List ℕ) → Result Event LineRefusal
event_by setting None cells = Err refusal.Event
event_by setting (Some word) cells = event_with setting word cells

-- the event of cells
abbrev pub event_in : Setting → List (List ℕ) → Result Event LineRefusal
event_in setting [] = Err refusal.Event
event_in setting (first ∷ cells) = event_by setting (word_of first) cells

-- the event of a line, or the first test that it fails
abbrev pub event_of : Setting → List ℕ → Result Event LineRefusal
event_of setting line = event_in setting (cells_of line)

-- what is read: what the line says, or want of memory
abbrev pub IsRead : Result Event LineRefusal → Result Event LineRefusal → Type 0
IsRead said result = (result ≡ Err refusal.Memory) ⊎ (result ≡ said)
