use Rattle.std.proofs.Common.{refl}
use Rattle.t7_snapshot.proofs.Held.{takes_same, takes_new}
use Rattle.t7_snapshot.proofs.Onward.{remembers_same, remembers_new, ring_same, ring_new}
use Rattle.t7_snapshot.proofs.assembler.Assembler.put.Goals as goal

pub invariant_of-self : goal.invariant_of-self
invariant_of-self c = rw c.max-self-inside.ensures (record {
  ring = ring_same _ _ c.args.number _ c.requires.room c.self.invariant.ring;
  remembered = remembers_same _ _ c.args.number _ c.args.bytes.now _ c.self.invariant.ring c.requires.some (λ new. (let e = c.if-not-is_new.ensures.1 (rw (← c.self.view_is) new) in absurd (cc e))) c.self.invariant.remembered;
})

pub returns-then-not-is_new : goal.returns-then-not-is_new
returns-then-not-is_new c = rw (← c.self.view_is, c.max-self-inside.ensures)
    (takes_same _ _ c.args.number _ c.args.bytes.now c.self.invariant.ring c.requires.some (λ new. (let e = c.if-not-is_new.ensures.1 (rw (← c.self.view_is) new) in absurd (cc e))))

pub invariant_of-self-2 : goal.invariant_of-self-2
invariant_of-self-2 c =
    let new = rw (← c.self.view_is) at (c.if-not-is_new.ensures.0 refl) in
    rw (c.max-self-inside-2.ensures, c.keep.ensures, c.packets.ensures.value, c.new.ensures, c.securities-securities.ensures.value) (record {
      ring = ring_new _ _ c.args.number _ c.args.bytes.now c.self.invariant.ring c.requires.some c.requires.room new (rw (← c.self.view_is) at c.requires.sound);
      remembered = remembers_new _ _ c.args.number _ c.args.bytes.now _ c.args.opens _ c.self.invariant.ring c.requires.some new (rw (← c.self.view_is) at c.requires.opens) (rw (← c.self.view_is) at c.back_of-back.ensures) c.self.invariant.remembered;
    })

pub returns : goal.returns
returns c = rw (← c.self.view_is, c.max-self-inside-2.ensures, c.keep.ensures, c.packets.ensures.value)
    (takes_new _ _ c.args.number _ c.args.bytes.now c.self.invariant.ring c.requires.some (rw (← c.self.view_is) at (c.if-not-is_new.ensures.0 refl)))
