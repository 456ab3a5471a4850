-- What a command comes to, and how far a run may fall short of it.
use Rattle.std.specs.Prelude.{◌≡◌, ℕ, List, [], ◌∷◌, ◌++◌, length, Option, None, Some, Result, Ok, Err, nat_lt, if◌then◌else◌}
use Rattle.std.specs.List.{flat_map}
use Rattle.std.specs.Option.{option_map}
use Rattle.t7_base.specs.Outside.{Begins, file_of}
use Rattle.t7_outcome.specs.declared.ending.Status.{Status}
use Rattle.t7_outcome.specs.declared.ending.Status.TheVariants as status
use Rattle.t7_outcome.specs.declared.ending.Stop.{Stop}
use Rattle.t7_outcome.specs.declared.ending.Stop.TheVariants.{ReadFault, WriteFault, NetFault, TooLong, Memory}
use Rattle.t7_outcome.specs.Ending.{Ended, status_of, last_lines}

-- files by their names
abbrev pub FileSet : Type 0
FileSet = List (List ℕ × List ℕ)

-- what a run was given from outside
pub record Given : Type 0 where
  pub files : FileSet

-- P of what a run was given, where the files tell what they hold
abbrev pub Where : Option FileSet → (Given → Type 0) → Type 0
Where None P = Unit {0}
Where (Some held) P = P (record { files = held })

-- lines, each with its line feed
abbrev pub text_of : List (List ℕ) → List ℕ
text_of lines = flat_map (λ line. line ++ 10 ∷ []) lines

-- A part of what a command prints: a line, or the report of a moment. Which lines such a report may have is said by a relation that
-- the definitions below are given as Shown.
pub data Part (Moment : Type 0) : Type 0 where
  Says : (line : List ℕ) → Part Moment
  Shows : (moment : Moment) → Part Moment

-- The lines are those of the parts, one after another: each line that is said, and for each report some lines that it may have.
abbrev pub Spelled : {Moment : Type 0} → (Moment → List (List ℕ) → Type 0) → List (Part Moment) → List (List ℕ) → Type 0
Spelled Shown [] lines = lines ≡ []
Spelled Shown (Says line ∷ parts) lines = (later : _) × (lines ≡ line ∷ later) × Spelled Shown parts later
Spelled Shown (Shows moment ∷ parts) lines = (report later : _) × Shown moment report × (lines ≡ report ++ later) × Spelled Shown parts later

-- The lines are those of the first of these parts.
pub record Fronts {Moment : Type 0} (Shown : Moment → List (List ℕ) → Type 0) (parts : List (Part Moment)) (lines : List (List ℕ)) : Type 0 where
  pub done : List (Part Moment)
  pub first : Begins done parts
  pub spelled : Spelled Shown done lines

-- What was written is whole lines, at the front of those that the parts spell.
abbrev pub WroteLines : {Moment : Type 0} → (Moment → List (List ℕ) → Type 0) → List (Part Moment) → List ℕ → Type 0
WroteLines Shown parts written = (lines done : _) × Fronts Shown parts lines × Begins done lines × (written ≡ text_of done)

-- The text is such whole lines, and the last line of that end.
abbrev pub LinesThen : {Moment : Type 0} → (Moment → List (List ℕ) → Type 0) → List (Part Moment) → Ended → List ℕ → Type 0
LinesThen Shown parts ended text = (lines done : _) × Fronts Shown parts lines × Begins done lines × (text ≡ text_of (done ++ last_lines ended))

-- what a command comes to where nothing outside fails and memory is found
pub record Outcome (Moment : Type 0) : Type 0 where
  -- the files that it takes, in order
  pub names : List (List ℕ)
  -- what it prints before its last line
  pub parts : List (Part Moment)
  -- how it ends, which gives the answer and the last line; none where what was given doesn't end it yet
  pub end : Option Ended

-- parts that are lines
abbrev pub says : {Moment : Type 0} → List (List ℕ) → List (Part Moment)
says [] = []
says (line ∷ lines) = Says line ∷ says lines

-- it ends at once
abbrev pub ends : {Moment : Type 0} → Ended → Outcome Moment
ends ended = record { names = []; parts = []; end = Some ended }

-- it is stopped at once
abbrev pub stops : {Moment : Type 0} → Stop → Outcome Moment
stops stop = ends (Err stop)

-- these parts come first
abbrev pub saying : {Moment : Type 0} → List (Part Moment) → Outcome Moment → Outcome Moment
saying parts later = record { names = later.names; parts = parts ++ later.parts; end = later.end }

-- the bytes of a file, of which there may be 16 MiB
abbrev pub within : Option (List ℕ) → Result (List ℕ) Stop
within None = Err ReadFault
within (Some bytes) = if nat_lt 16777216 (length bytes) then Err TooLong else Ok bytes

-- the bytes of the file of that name
abbrev pub fetched : List ℕ → FileSet → Result (List ℕ) Stop
fetched name held = within (file_of name held)

-- what a file's bytes come to, where it has them
abbrev pub followed : {Moment : Type 0} → Result (List ℕ) Stop → (List ℕ → Outcome Moment) → Outcome Moment
followed (Err stop) next = stops stop
followed (Ok bytes) next = next bytes

-- the file of that name is asked for first
abbrev pub asking : {Moment : Type 0} → List ℕ → Outcome Moment → Outcome Moment
asking name later = record { names = name ∷ later.names; parts = later.parts; end = later.end }

-- the file of that name is taken, and its bytes say what follows
abbrev pub taking : {Moment : Type 0} → List ℕ → FileSet → (List ℕ → Outcome Moment) → Outcome Moment
taking name held next = asking name (followed (fetched name held) next)

-- How a command ended, before its last line: as its outcome says, but for a fault of the outside and want of memory.
abbrev pub Ends : {Moment : Type 0} → Outcome Moment → Ended → Type 0
Ends plain (Err ReadFault) = Unit {0}
Ends plain (Err WriteFault) = Unit {0}
Ends plain (Err NetFault) = Unit {0}
Ends plain (Err Memory) = Unit {0}
Ends plain ended = plain.end ≡ Some ended

-- What a command wrote before its last line: the lines of its parts, of which a fault or want of memory may cut off the end. A write
-- fault may cut a line; at the others whole lines stand.
abbrev pub Wrote : {Moment : Type 0} → (Moment → List (List ℕ) → Type 0) → Outcome Moment → Ended → List ℕ → Type 0
Wrote Shown plain (Err WriteFault) written = (lines : _) × Fronts Shown plain.parts lines × Begins written (text_of lines)
Wrote Shown plain (Err ReadFault) written = WroteLines Shown plain.parts written
Wrote Shown plain (Err NetFault) written = WroteLines Shown plain.parts written
Wrote Shown plain (Err Memory) written = WroteLines Shown plain.parts written
Wrote Shown plain ended written = (lines : _) × Spelled Shown plain.parts lines × (written ≡ text_of lines)

-- The answer of a run: that of its outcome, but for a fault of the outside and want of memory.
abbrev pub Answers : {Moment : Type 0} → Outcome Moment → Status → Type 0
Answers plain status.ReadFault = Unit {0}
Answers plain status.WriteFault = Unit {0}
Answers plain status.NetFault = Unit {0}
Answers plain status.Memory = Unit {0}
Answers plain answer = option_map status_of plain.end ≡ Some answer

-- the last line of an outcome, where it has one
abbrev pub own_last : Option Ended → List (List ℕ)
own_last None = []
own_last (Some ended) = last_lines ended

-- The text that is due at an answer: the lines of the outcome's parts and its last line, of which a fault or want of memory replaces
-- the end by its own last line.
abbrev pub Due : {Moment : Type 0} → (Moment → List (List ℕ) → Type 0) → Outcome Moment → Status → List ℕ → Type 0
Due Shown plain status.WriteFault text = ⊥
Due Shown plain status.ReadFault text = LinesThen Shown plain.parts (Err ReadFault) text
Due Shown plain status.NetFault text = LinesThen Shown plain.parts (Err NetFault) text
Due Shown plain status.Memory text = LinesThen Shown plain.parts (Err Memory) text
Due Shown plain answer text = (lines : _) × Spelled Shown plain.parts lines × (text ≡ text_of (lines ++ own_last plain.end))

-- What a run wrote: a text that is due, or at a write fault the front of a text that was due.
abbrev pub Printed : {Moment : Type 0} → (Moment → List (List ℕ) → Type 0) → Outcome Moment → Status → List ℕ → Type 0
Printed Shown plain status.WriteFault written = (answer : Status) × (due : List ℕ) × Due Shown plain answer due × Begins written due
Printed Shown plain answer written = Due Shown plain answer written

-- The names that were taken at an answer: the outcome's, of which a fault of the outside and want of memory may cut off the end.
abbrev pub Asked : {Moment : Type 0} → Outcome Moment → Status → List (List ℕ) → Type 0
Asked plain status.ReadFault names = Begins names plain.names
Asked plain status.WriteFault names = Begins names plain.names
Asked plain status.Memory names = Begins names plain.names
Asked plain answer names = names ≡ plain.names

-- The names that were taken at an answer, whatever the files hold: they begin those that the command names, and at Done they are these.
abbrev pub AskedOf : List (List ℕ) → Status → List (List ℕ) → Type 0
AskedOf named status.Done names = names ≡ named
AskedOf named answer names = Begins names named

-- a stop that the taking of a file can bring
abbrev pub OfFetch : Stop → Type 0
OfFetch ReadFault = Unit {0}
OfFetch TooLong = Unit {0}
OfFetch Memory = Unit {0}
OfFetch _ = ⊥

-- The answer at an end: its own, or a write fault where its last line can't be written.
abbrev pub ClosesAs : Ended → Status → Type 0
ClosesAs ended status.WriteFault = Unit {0}
ClosesAs ended answer = answer ≡ status_of ended

-- The last line at an end, of which a write fault cuts off the end.
abbrev pub Closes : Ended → Status → List ℕ → Type 0
Closes ended status.WriteFault added = Begins added (text_of (last_lines ended))
Closes ended answer added = added ≡ text_of (last_lines ended)
