-- What acts leave of the snapshot cycle under way.
use Rattle.std.specs.Prelude.{List, [], ◌∷◌, ◌++◌, drop}
use Rattle.t7_book.specs.Acts.{Act, Accepts, Beats, Snaps, commands_of}
use Rattle.t7_book.specs.declared.command.Command.{Command}
use Rattle.t7_eobi.specs.declared.walks.Snap.{Snap}
use Rattle.t7_feed.specs.Arrivals.{Terms}
use Rattle.t7_feed.specs.Sending.{cycle_now, under_way}

-- The datagrams of the cycle under way that acts leave, by their items, where these commands came before and this was left before them: each Snap takes
-- the first of the cycle under way, or of a new one at the last message so far.
abbrev pub left_from : Terms → List Command → List (List Snap) → List Act → List (List Snap)
left_from terms cs left [] = left
left_from terms cs left (Accepts command ∷ acts) = left_from terms (cs ++ command ∷ []) left acts
left_from terms cs left (Beats ∷ acts) = left_from terms cs left acts
left_from terms cs left (Snaps ∷ acts) = left_from terms cs (drop 1 (under_way left (cycle_now terms cs))) acts

-- the datagrams of the cycle under way that a day's acts leave, none where none is under way
abbrev pub left_of : Terms → List Act → List (List Snap)
left_of terms acts = left_from terms [] [] acts

-- the datagrams that the next Snaps send, from the next one on: what is left of the cycle under way, or a new one at the last message so far
abbrev pub next_snaps : Terms → List Act → List (List Snap)
next_snaps terms acts = under_way (left_of terms acts) (cycle_now terms (commands_of acts))
