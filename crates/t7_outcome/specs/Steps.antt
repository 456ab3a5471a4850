-- What one line of a script does, and how far its doing may fall short.
use Rattle.std.specs.Prelude.{◌≡◌, ℕ, List, [], Result, Ok, Err}
use Rattle.t7_base.specs.Outside.{Begins}
use Rattle.t7_outcome.specs.declared.ending.Stop.{Stop}
use Rattle.t7_outcome.specs.declared.ending.Stop.TheVariants.{ReadFault, WriteFault, NetFault, Memory}
use Rattle.t7_outcome.specs.Outcome.{Fronts, Outcome, Part, Spelled, WroteLines, saying, stops, text_of}

-- A line goes on in another state and prints, or it stops the run.
pub data LineStep (State Moment : Type 0) : Type 0 where
  Goes : (state : State) (parts : List (Part Moment)) → LineStep State Moment
  Stops : (stop : Stop) → LineStep State Moment

-- what a step comes to, where what follows it in a state is known
abbrev pub stepped : {State Moment : Type 0} → LineStep State Moment → (State → Outcome Moment) → Outcome Moment
stepped (Goes state parts) next = saying parts (next state)
stepped (Stops stop) next = stops stop

-- The step goes on, and the state that it leads to has P.
abbrev pub GoesTo : {State Moment : Type 0} → LineStep State Moment → (State → Type 0) → Type 0
GoesTo (Goes state parts) P = P state
GoesTo (Stops stop) P = ⊥

-- The step was done whole, and the state is now this.
abbrev pub Went : {State Moment : Type 0} → LineStep State Moment → State → Type 0
Went (Goes state parts) now = now ≡ state
Went (Stops stop) now = ⊥

-- Its parts were written.
abbrev pub WentOn : {State Moment : Type 0} → (Moment → List (List ℕ) → Type 0) → LineStep State Moment → List ℕ → Type 0
WentOn Shown (Goes state parts) written = (lines : _) × Spelled Shown parts lines × (written ≡ text_of lines)
WentOn Shown (Stops stop) written = ⊥

-- The stop that a step brought: its own, a fault of the sink, or want of memory.
abbrev pub Stopped : {State Moment : Type 0} → LineStep State Moment → Stop → Type 0
Stopped step WriteFault = Unit {0}
Stopped step Memory = Unit {0}
Stopped step ReadFault = ⊥
Stopped step NetFault = ⊥
Stopped (Goes state parts) stop = ⊥
Stopped (Stops own) stop = stop ≡ own

-- What it wrote before that stop: its parts, of which a fault of the sink or want of memory cut off the end.
abbrev pub StoppedAt : {State Moment : Type 0} → (Moment → List (List ℕ) → Type 0) → LineStep State Moment → Stop → List ℕ → Type 0
StoppedAt Shown (Goes state parts) WriteFault written = (lines : _) × Fronts Shown parts lines × Begins written (text_of lines)
StoppedAt Shown (Goes state parts) Memory written = WroteLines Shown parts written
StoppedAt Shown (Goes state parts) stop written = ⊥
StoppedAt Shown (Stops own) stop written = written ≡ []

-- What one doing of an event wrote, where it prints these lines: them all, or after a fault of the sink or want of memory their front.
abbrev pub Prints : {T : Type 0} → List (List ℕ) → Result T Stop → List ℕ → Type 0
Prints lines (Ok done) written = written ≡ text_of lines
Prints lines (Err WriteFault) written = Begins written (text_of lines)
Prints lines (Err Memory) written = (done : _) × Begins done lines × (written ≡ text_of done)
Prints lines (Err stop) written = ⊥

-- the stops of such a doing
abbrev pub OfPrint : Stop → Type 0
OfPrint WriteFault = Unit {0}
OfPrint Memory = Unit {0}
OfPrint _ = ⊥
