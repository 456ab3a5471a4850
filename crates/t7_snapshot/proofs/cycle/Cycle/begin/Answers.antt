use Rattle.std.proofs.Common.{◌≡◌, ◌-◌, ◌≤◌, [], List, length, vec_capacity, sym, ap, ◌∙◌, subst}
use Rattle.std.specs.List.{All, IsDistinct}
use Rattle.std.specs.Ordering.{int_eq}
use Rattle.t7_eobi.specs.Bytes.{IsSecurity}
use Rattle.t7_base.specs.declared.public.Public.{Public}
use Rattle.t7_feed.specs.Cycles.{cycle_of}
use Rattle.t7_eobi.specs.Sizes.{snap_size}
use Rattle.t7_feed.specs.Sending.{parts_of}
use Rattle.t7_greedy.specs.Cuts.{cut}
use Rattle.t7_packets.specs.Packing.{room_in}
use Rattle.t7_snapshot.specs.Noting.{after_all}
use Rattle.t7_snapshot.specs.Sending.{CycleState}
use Rattle.t7_snapshot.proofs.Fills.{are_securities, cut_none}
use Rattle.t7_snapshot.proofs.Noted.{sender}
use Rattle.t7_snapshot.proofs.cycle.Cycle.begin.Goals as goal

pub begin-requires-clause-few : goal.begin-requires-clause-few
begin-requires-clause-few c = subst (λ zs. length zs ≤ 1000) (sym c.securities-securities.ensures.value) c.securities-securities.ensures.listing.securities.1

pub begin-requires-clause-distinct : goal.begin-requires-clause-distinct
begin-requires-clause-distinct c = subst (λ zs. IsDistinct int_eq zs) (sym c.securities-securities.ensures.value) c.securities-securities.ensures.listing.each_once

pub begin-requires-clause-ranged : goal.begin-requires-clause-ranged
begin-requires-clause-ranged c = subst (λ zs. All IsSecurity zs) (sym c.securities-securities.ensures.value) (are_securities c.self.inside.product.now c.securities-securities.ensures.listing)

pub returns : goal.returns
returns c =
    let e = c.self.inside in
    let table = e.table.now in
    let listing = e.product.now in
    let size = snap_size table in
    let room = room_in table listing.datagram in
    let none : e.script ≡ [] = cut_none size room e.script (ap (λ (s : CycleState). s.left) c.self.view_is ∙ c.requires) in
    let image : e.image.orders ≡ after_all listing.securities e.image.orders e.waiting.items =
    ap (λ (w : List Public). after_all listing.securities e.image.orders w) (sym (c.self.invariant.idle none))
    in
    let left = c.begin.ensures ∙ (λ i. cycle_of e.noted (parts_of (c.securities-securities.ensures.value i) (image i))) in
    rw (← c.self.view_is)
    (ap (λ l. sender (record { layouts = table; listing = listing }) (cut size room l) e.noted (after_all listing.securities e.image.orders e.waiting.items) (vec_capacity e.waiting - length e.waiting.items)) left)
