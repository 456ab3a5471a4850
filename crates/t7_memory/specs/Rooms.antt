-- The room of an object in memory, and which of its calls fail.
use Rattle.std.specs.Prelude.{◌≡◌, ℕ, ◌+◌, ◌-◌, ◌^◌, ◌<◌, ◌⊎◌, min, List, Contains}
use Rattle.t7_memory.specs.declared.room.Going.{Going}
use Rattle.t7_memory.specs.declared.room.Going.TheVariants.{Past, Fails, Goes}

-- the room of an object: the calls and bytes that it can still note, the calls that can fail and were made, the numbers of those that fail, and its count of faults
pub record RoomState : Type 0 where
  pub calls : ℕ
  pub bytes : ℕ
  pub made : ℕ
  pub failing : List ℕ
  pub faults : ℕ

-- a count that rose by one, up to the greatest u64
abbrev pub up : ℕ → ℕ
up n = min (n + 1) (2 ^ 64 - 1)

-- a call with so many bytes passes the room
abbrev pub PassesRoom : RoomState → ℕ → Type 0
PassesRoom room count = (room.calls ≡ 0) ⊎ (room.bytes < count)

-- the next call that can fail is one of those that do
abbrev pub IsNextFailing : RoomState → Type 0
IsNextFailing room = Contains room.failing (up room.made)

-- why a call with so many bytes fails
abbrev pub CallFails : RoomState → ℕ → Type 0
CallFails room count = PassesRoom room count ⊎ IsNextFailing room

-- the room after a call that passed it
abbrev pub passed : RoomState → RoomState
passed room = record room { made = up room.made; faults = up room.faults }

-- the room after a call that noted so many bytes
abbrev pub used : RoomState → ℕ → RoomState
used room count = record room { calls = room.calls - 1; bytes = room.bytes - count; made = up room.made }

-- the room after a call that failed within it and noted so many bytes
abbrev pub failed : RoomState → ℕ → RoomState
failed room count = record room { calls = room.calls - 1; bytes = room.bytes - count; made = up room.made; faults = up room.faults }

-- How a call with so many bytes goes, before it takes room: it passes the room, and fails; or else it is one of those that fail; or else it goes. Each is counted, and
-- so is each fault.
abbrev pub IsGoing : Going → RoomState → ℕ → RoomState → Type 0
IsGoing Past room count new = PassesRoom room count × (new ≡ passed room)
IsGoing Fails room count new = (PassesRoom room count → ⊥) × IsNextFailing room × (new ≡ passed room)
IsGoing Goes room count new = (PassesRoom room count → ⊥) × (IsNextFailing room → ⊥) × (new ≡ record room { made = up room.made })
