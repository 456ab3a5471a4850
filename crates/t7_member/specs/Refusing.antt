-- How a refusal begins, and how it ends.
use Rattle.std.specs.Prelude.{◌≡◌, ℕ, ◌+◌, ◌≤◌, ◌⊎◌, ℤ, List, [], Some, None}
use Rattle.t7_base.specs.declared.ids.Channel.{Channel}
use Rattle.t7_base.specs.declared.ids.Channel.TheVariants as channel
use Rattle.t7_base.specs.declared.public.Public.{Public}
use Rattle.t7_base.specs.declared.public.Resting.{Resting}
use Rattle.t7_eobi.specs.declared.walks.Live.TheVariants.{Message}
use Rattle.t7_eobi.specs.Datagrams.{lives_of, packet_number}
use Rattle.t7_mbook.specs.Misfits.{misfit_of}
use Rattle.t7_lines.specs.Gap.{kept_at}
use Rattle.t7_feed.specs.Cycles.{Finds, Section, orders_of}
use Rattle.t7_feed.specs.Fitting.{staged, stepped}
use Rattle.t7_feed.specs.Words.{SomeOf}
use Rattle.t7_member.specs.declared.standing.Refusal.{Refusal}
use Rattle.t7_member.specs.Keeping.{Image, packets_of}

-- from number n and this list, the messages of the next numbers fit in turn, up to a number and a list; each is among some
pub data Follows (securities : List ℤ) (Among : ℕ → Public → Type 0) : ℕ → List Resting → ℕ → List Resting → Type 0 where
  here : {n : ℕ} {list : List Resting} → Follows securities Among n list n list
  goes : {n last : ℕ} {list final : List Resting} (mid : List Resting) (said : Public) →
      Follows securities Among n list last mid → Among (last + 1) said → stepped securities mid said ≡ Some final → Follows securities Among n list (last + 1) final

-- the next message, the refused one, misfits the list that they give
pub record Causes (securities : List ℤ) (Among : ℕ → Public → Type 0) (n : ℕ) (list : List Resting) (q : Refusal) : Type 0 where
  pub last : ℕ
  pub final : List Resting
  pub said : Public
  pub follows : Follows securities Among n list last final
  pub number : q.number ≡ last + 1
  pub among : Among q.number said
  pub why : misfit_of securities final said ≡ Some q.why

-- a message that was kept before, or is carried by a live datagram
abbrev pub IsAtHand : Image → Channel → List ℕ → ℕ → Public → Type 0
IsAtHand old channel.Live bytes k said = (kept_at old.kept k ≡ Some said) ⊎ SomeOf (λ live. live ≡ Message k said) (lives_of old.terms.layouts bytes)
IsAtHand old channel.Snap bytes k said = kept_at old.kept k ≡ Some said

-- the member adopts a whole cycle at m, in which the snapshot datagram stands, with these orders
pub record Adopts (old new : Image) (bytes : List ℕ) (m : ℕ) (list : List Resting) : Type 0 where
  pub parts : List Section
  pub finds : Finds old.terms.listing.securities (packets_of new) (packet_number old.terms.layouts bytes) m parts
  pub fits : staged old.terms.listing.securities (orders_of parts) [] ≡ Some list

-- where a datagram begins: at the base and the list, or on the snapshot channel at a cycle that is adopted
abbrev pub BeginsAt : Image → Image → Channel → List ℕ → ℕ → List Resting → Type 0
BeginsAt old new channel.Live bytes n list = (old.base ≡ Some n) × (list ≡ old.list)
BeginsAt old new channel.Snap bytes n list = Adopts old new bytes n list

-- a refusal begins with a datagram: from where that begins, the next messages that are at hand fit in turn, and the refused one misfits
pub record Begins (old new : Image) (channel : Channel) (bytes : List ℕ) (q : Refusal) : Type 0 where
  pub n : ℕ
  pub list : List Resting
  pub start : BeginsAt old new channel bytes n list
  pub causes : Causes old.terms.listing.securities (IsAtHand old channel bytes) n list q

-- a refusal stays with a datagram, or a cycle at its number or above is adopted
abbrev pub StaysOrEnds : Image → Image → Channel → List ℕ → Refusal → Type 0
StaysOrEnds old new channel.Live bytes q = (new.base ≡ None) × (new.refused ≡ Some q)
StaysOrEnds old new channel.Snap bytes q = ((new.base ≡ None) × (new.refused ≡ Some q)) ⊎ ((m : ℕ) × (list : List Resting) × Adopts old new bytes m list × (q.number ≤ m))
