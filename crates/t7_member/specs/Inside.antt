-- What a member's parts have in common.
use Rattle.std.specs.Prelude.{◌≡◌, ℕ, ◌<◌, [], Some, None}
use Rattle.t7_base.specs.Listing.{IsListing}
use Rattle.t7_member.specs.declared.member.Member.TheInside.{Inside}
use Rattle.t7_member.specs.Keeping.{Image}
use Rattle.t7_member.specs.Standing.{base_of, refusal_of}

-- a member as contracts see it
abbrev pub image_of : Inside → Image
image_of m = record {
  terms = record { layouts = m.table.now; listing = m.product.now };
  base = base_of m.standing;
  list = m.book.orders;
  kept = m.gap.kept;
  ring = m.assembler.ring;
  highest = m.gap.highest;
  highest_packet = m.assembler.highest;
  known = m.known;
  refused = refusal_of m.standing;
  tallies = m.gap.tallies;
  bad = m.bad;
}

-- its parts are of one table and one product; no number is the greatest of 32 bits, which the feed never has; without a base its book is empty
pub record IsMember (m : Inside) : Type 0 where
  pub listing : IsListing m.product.now
  pub terms : m.assembler.terms ≡ record { layouts = m.table.now; listing = m.product.now }
  pub top : m.gap.highest < 4294967295
  pub window : m.gap.window ≡ m.product.now.window
  pub securities : m.book.securities ≡ m.product.now.securities
  pub room : (n : ℕ) → base_of m.standing ≡ Some n → n < 4294967295
  pub empty : base_of m.standing ≡ None → m.book.orders ≡ []
