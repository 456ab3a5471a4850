-- The commands and their words.
use Rattle.std.specs.Prelude.{ℕ, ◌==◌, Bool, ◌||◌, List, [], ◌∷◌, Option, None, Some, codes, if◌then◌else◌}
use Rattle.std.specs.Option.{option_and_then, option_map}
use Rattle.std.specs.Str.{bytes_eq}
use Rattle.t7_records.specs.Numbers.{is_decimal_to, value_of}

-- the addresses of the four feeds, in the order of the words
pub record Feeds : Type 0 where
  pub live_a : List ℕ
  pub live_b : List ℕ
  pub snap_a : List ℕ
  pub snap_b : List ℕ

-- what is done with a valid table and a valid product
pub data Job : Type 0 where
  Replay : (script : List ℕ) → Job
  Exchange : (listen : List ℕ) (feeds : Feeds) (count : ℕ) → Job
  Member : (feeds : Feeds) (count : ℕ) → Job
  Gather : (address : List ℕ) (session count : ℕ) → Job

-- a command with its words
pub data Invocation : Type 0 where
  Over : (table product : List ℕ) (job : Job) → Invocation
  Check : (table : List ℕ) → Invocation
  Drill : (seed orders : ℕ) → Invocation
  Help : Invocation
  Version : Invocation

-- the plain decimal number that a word is, where it is at most `most`
abbrev pub number_up_to : ℕ → List ℕ → Option ℕ
number_up_to most word = if is_decimal_to most word then Some (value_of word) else None

-- a number from 1 on
abbrev pub from_one : ℕ → Option ℕ
from_one number = if number == 0 then None else Some number

-- the number from 1 to `most` that a word is
abbrev pub counted_to : ℕ → List ℕ → Option ℕ
counted_to most word = option_and_then from_one (number_up_to most word)

-- a COUNT of events or receipts, from 1 to 1,000,000,000
abbrev pub count_of : List ℕ → Option ℕ
count_of word = counted_to 1_000_000_000 word

-- a word that asks for the commands and the exit statuses
abbrev pub is_help : List ℕ → Bool
is_help word = bytes_eq word (codes "--help") || bytes_eq word (codes "-h") || bytes_eq word (codes "help")

-- the command that a word alone is a form of
abbrev pub lone_command : List ℕ → Option Invocation
lone_command word = if is_help word then Some Help else if bytes_eq word (codes "--version") then Some Version else None

-- a drill, where its SEED is a number of 64 bits and its ORDERS one up to 20,000
abbrev pub drill_of : List ℕ → List ℕ → Option Invocation
drill_of seed orders =
    option_and_then (λ first. option_map (λ number. Drill first number) (number_up_to 20_000 orders)) (number_up_to 18_446_744_073_709_551_615 seed)

-- a gatherer of a SESSION from 1 to 4,000,000,000
abbrev pub gather_of : List ℕ → List ℕ → List ℕ → Option Job
gather_of address session count =
    option_and_then (λ number. option_map (λ events. Gather address number events) (count_of count)) (counted_to 4_000_000_000 session)

-- a member that listens to these feeds
abbrev pub member_of : Feeds → List ℕ → Option Job
member_of feeds count = option_map (λ receipts. Member feeds receipts) (count_of count)

-- an exchange that listens here and sends these feeds
abbrev pub exchange_of : List ℕ → Feeds → List ℕ → Option Job
exchange_of listen feeds count = option_map (λ events. Exchange listen feeds events) (count_of count)

-- what the words behind the names of a table and of a product are a form of
abbrev pub job_of : List ℕ → List (List ℕ) → Option Job
job_of name (script ∷ []) = if bytes_eq name (codes "replay") then Some (Replay script) else None
job_of name (address ∷ session ∷ count ∷ []) = if bytes_eq name (codes "gather") then gather_of address session count else None
job_of name (live_a ∷ live_b ∷ snap_a ∷ snap_b ∷ count ∷ []) =
    let feeds : Feeds = record { live_a = live_a; live_b = live_b; snap_a = snap_a; snap_b = snap_b } in
    if bytes_eq name (codes "member") then member_of feeds count else None
job_of name (listen ∷ live_a ∷ live_b ∷ snap_a ∷ snap_b ∷ count ∷ []) =
    let feeds : Feeds = record { live_a = live_a; live_b = live_b; snap_a = snap_a; snap_b = snap_b } in
    if bytes_eq name (codes "exchange") then exchange_of listen feeds count else None
job_of name _ = None

-- a command with these words behind its name, of which the first two name files
abbrev pub over : List ℕ → List ℕ → List ℕ → List (List ℕ) → Option Invocation
over name table product more = option_map (λ job. Over table product job) (job_of name more)

-- the command that the words are a form of
abbrev pub command_of : List (List ℕ) → Option Invocation
command_of (word ∷ []) = lone_command word
command_of (name ∷ table ∷ []) = if bytes_eq name (codes "check") then Some (Check table) else None
command_of (name ∷ first ∷ second ∷ []) = if bytes_eq name (codes "drill") then drill_of first second else None
command_of (name ∷ table ∷ product ∷ more) = over name table product more
command_of _ = None

-- the words of a job that name a file
abbrev pub scripts_of : Job → List (List ℕ)
scripts_of (Replay script) = script ∷ []
scripts_of job = []

-- the words of a command that name a file, in the order in which the files are read
abbrev pub files_of : Option Invocation → List (List ℕ)
files_of (Some (Over table product job)) = table ∷ product ∷ scripts_of job
files_of (Some (Check table)) = table ∷ []
files_of _ = []
