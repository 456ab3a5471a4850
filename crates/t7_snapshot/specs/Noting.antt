-- The messages that a sender of snapshot cycles notes, and what they make.
use Rattle.std.specs.Prelude.{◌≡◌, ℕ, ◌≤◌, ℤ, List, [], ◌∷◌, length, None}
use Rattle.t7_base.specs.Listing.{Listing}
use Rattle.t7_base.specs.declared.public.Resting.{Resting}
use Rattle.t7_base.specs.declared.public.Public.{Public}
use Rattle.t7_eobi.specs.declared.walks.Snap.{Snap}
use Rattle.t7_mbook.specs.Changes.{after}
use Rattle.t7_mbook.specs.Misfits.{misfit_of}
use Rattle.t7_mbook.specs.State.{MarketState}
use Rattle.t7_snapshot.specs.Sending.{CycleState}

-- the list that messages make of a list of orders, one after another
abbrev pub after_all : List ℤ → List Resting → List Public → List Resting
after_all securities list [] = list
after_all securities list (message ∷ messages) = after_all securities (after securities list message) messages

-- each message fits the list that those before it make
abbrev pub FitInTurn : List ℤ → List Resting → List Public → Type 0
FitInTurn securities list [] = Unit {0}
FitInTurn securities list (message ∷ messages) = (misfit_of securities list message ≡ None) × FitInTurn securities (after securities list message) messages

-- these are the messages that a sender has noted: their count is kept, and the list that they make from the empty list
pub record HasNoted (sender : CycleState) (messages : List Public) : Type 0 where
  pub noted : sender.noted ≡ length messages
  pub image : sender.image ≡ after_all sender.terms.listing.securities [] messages

-- the image is the product's, the messages that wait fit it in turn, and none waits where nothing of a cycle is left to tell
pub record IsCarried (listing : Listing) (image : MarketState) (waiting : List Public) (script : List Snap) (noted : ℕ) : Type 0 where
  pub securities : image.securities ≡ listing.securities
  pub fit : FitInTurn listing.securities image.orders waiting
  pub idle : script ≡ [] → waiting ≡ []
  pub few : noted ≤ 4_000_000_000
