-- Messages of any kind cut into datagrams, each the longest run of the next messages that fits.
use Rattle.std.specs.Prelude.{◌≡◌, ℕ, ◌+◌, ◌-◌, ◌<◌, ◌≤◌, List, [], ◌∷◌, ◌++◌, nat_le, sum_by, if◌then◌else◌}

-- something stands in a list
abbrev pub IsFilled : {M : Type 0} → List M → Type 0
IsFilled [] = ⊥
IsFilled (x ∷ xs) = Unit {0}

-- A run that is not empty begins the messages, what is left follows it, and it is the longest one that fits in the room: with one message more it would not fit.
pub record IsLongestRun {M : Type 0} (size : M → ℕ) (room : ℕ) (messages run left : List M) : Type 0 where
  pub split : messages ≡ run ++ left
  pub fits : sum_by size run ≤ room
  pub full : (next : M) (others : List M) → left ≡ next ∷ others → room < sum_by size run + size next
  pub filled : IsFilled run

-- datagrams of messages: the first has the longest run of them, the second the longest run of what that leaves, to the last message
abbrev pub IsGreedy : {M : Type 0} → (M → ℕ) → ℕ → List M → List (List M) → Type 0
IsGreedy size room messages [] = messages ≡ []
IsGreedy size room messages (run ∷ runs) = (left : List _) × IsLongestRun size room messages run left × IsGreedy size room left runs

-- each message fits alone
abbrev pub EachFits : {M : Type 0} → (M → ℕ) → ℕ → List M → Type 0
EachFits size room [] = Unit {0}
EachFits size room (x ∷ xs) = (size x ≤ room) × EachFits size room xs

-- the datagrams of the messages that follow, where one has begun with some and has so much room left
abbrev pub cut_from : {M : Type 0} → (M → ℕ) → ℕ → List M → ℕ → List M → List (List M)
cut_from size room begun left [] = begun ∷ []
cut_from size room begun left (x ∷ xs) =
    if nat_le (size x) left then cut_from size room (begun ++ x ∷ []) (left - size x) xs
    else begun ∷ cut_from size room (x ∷ []) (room - size x) xs

-- the greedy datagrams of messages
abbrev pub cut : {M : Type 0} → (M → ℕ) → ℕ → List M → List (List M)
cut size room [] = []
cut size room (x ∷ xs) = cut_from size room (x ∷ []) (room - size x) xs

-- the messages of datagrams, one datagram after another
abbrev pub joined : {M : Type 0} → List (List M) → List M
joined [] = []
joined (run ∷ runs) = run ++ joined runs
