-- The front of what is due, where a fault or want of memory cuts off the end.
use Rattle.std.specs.Prelude.{◌≡◌, ℕ, ◌⊎◌, List, [], ◌∷◌, ◌++◌}
use Rattle.t7_base.specs.Outside.{Begins}
use Rattle.t7_net.specs.Links.{Gave, LinkSent}

-- of the last bytes a fault cut off the end
pub record IsCut (due sent : List LinkSent) : Type 0 where
  pub done : List LinkSent
  pub conn : ℕ
  pub bytes : List ℕ
  pub others : List LinkSent
  pub front : List ℕ
  pub begins : Begins front bytes
  pub all : due ≡ done ++ Gave conn bytes ∷ others
  pub some : sent ≡ done ++ Gave conn front ∷ []

-- what was sent is the front of what is due: whole bytes and closes, or the last bytes are cut off
abbrev pub SentFront : List LinkSent → List LinkSent → Type 0
SentFront due sent = Begins sent due ⊎ IsCut due sent
