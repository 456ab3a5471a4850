use Rattle.std.proofs.Common.{◌+◌, ◌-◌, List, length, vec_capacity, sym, ap, ◌∙◌, subst}
use Rattle.t7_base.specs.declared.public.Public.{Public}
use Rattle.t7_eobi.specs.Sizes.{snap_size}
use Rattle.t7_greedy.specs.Cuts.{cut}
use Rattle.t7_mbook.specs.Changes.{after}
use Rattle.t7_mbook.specs.Misfits.{misfit_of}
use Rattle.t7_packets.specs.Packing.{room_in}
use Rattle.t7_snapshot.specs.Noting.{IsCarried, after_all}
use Rattle.t7_snapshot.specs.Sending.{CycleState}
use Rattle.t7_snapshot.proofs.Noted.{after_push, all_told, carried_later, carried_now, noted_push, sender, untold}
use Rattle.t7_snapshot.proofs.cycle.Cycle.note.Goals as goal

pub returns-then-is_told-clause-messages : goal.returns-then-is_told-clause-messages
returns-then-is_told-clause-messages c = λ messages has.
    let e = c.self.inside in
    let securities = e.product.now.securities in
    let none = c.self.invariant.idle (all_told c.is_told.result e.script c.is_told.ensures c.if-is_told.true) in
    noted_push c.args.self.now _ messages c.args.message.now (ap (λ (s : CycleState). s.noted + 1) c.self.view_is) (ap (λ (s : CycleState). s.terms.listing.securities) c.self.view_is)
    (carried_now securities e.image c.carry.new.image e.waiting.items c.args.message.now none c.self.invariant.securities c.carry.ensures
    ∙ ap (λ (s : CycleState). after s.terms.listing.securities s.image c.args.message.now) c.self.view_is) has

pub invariant_of-self-else-is_told : goal.invariant_of-self-else-is_told
invariant_of-self-else-is_told c =
    let e = c.self.inside in
    let fits = ap (λ (s : CycleState). misfit_of s.terms.listing.securities s.image c.args.message.now) c.self.view_is ∙ c.requires.fits in
    subst (λ (w : List Public). IsCarried e.product.now e.image w e.script (e.noted + 1)) (sym c.push_reserved.ensures.items)
    (carried_later e.product.now e.image e.waiting.items c.args.message.now e.script e.noted c.self.invariant (untold c.is_told.result e.script c.is_told.ensures c.if-is_told.false)
    (rw (← c.self.view_is) at c.requires.few) fits)

pub returns-else-is_told-clause-noted : goal.returns-else-is_told-clause-noted
returns-else-is_told-clause-noted c =
    let e = c.self.inside in
    let table = e.table.now in
    let listing = e.product.now in
    let image = ap (λ (w : List Public). after_all listing.securities e.image.orders w) c.push_reserved.ensures.items ∙ after_push listing.securities e.image.orders e.waiting.items c.args.message.now in
    let waiting = c.push_reserved.new.self in
    rw (← c.self.view_is)
    (ap (λ l. sender (record { layouts = table; listing = listing }) (cut (snap_size table) (room_in table listing.datagram) e.script) (e.noted + 1) l (vec_capacity waiting - length waiting.items)) image)

pub returns-else-is_told-clause-messages : goal.returns-else-is_told-clause-messages
returns-else-is_told-clause-messages c = λ messages has.
    let e = c.self.inside in
    let listing = e.product.now in
    let image = ap (λ (w : List Public). after_all listing.securities e.image.orders w) c.push_reserved.ensures.items ∙ after_push listing.securities e.image.orders e.waiting.items c.args.message.now in
    noted_push c.args.self.now _ messages c.args.message.now (ap (λ (s : CycleState). s.noted + 1) c.self.view_is) (ap (λ (s : CycleState). s.terms.listing.securities) c.self.view_is)
    (image ∙ ap (λ (s : CycleState). after s.terms.listing.securities s.image c.args.message.now) c.self.view_is) has
