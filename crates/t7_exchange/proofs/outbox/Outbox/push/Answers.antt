use Rattle.std.proofs.Common.{◌≡◌, ◌<◌, ◌+◌, ◌≤◌, ◌-◌, [], ◌∷◌, ◌++◌, List, length, sym, ap, ◌∙◌, subst, arith}
use Rattle.std.specs.declared.alloc.Global.{Global}
use Rattle.std.specs.declared.vec.Vec.{Vec}
use Rattle.std.specs.VecDeque.{deque_capacity, deque_len}
use Rattle.std.proofs.lemmas.Bool.{eqb-false}
use Rattle.std.proofs.lemmas.List.{map-append}
use Rattle.t7_base.specs.declared.public.Public.{Public}
use Rattle.t7_exchange.specs.Outbox.{IsOutbox, Outbox, left_of, lists_of, pushed}
use Rattle.t7_exchange.proofs.OutboxFacts.{left_more, no_list, told_some, pushed_well}
use Rattle.t7_exchange.proofs.outbox.Outbox.push.Goals as goal

pub invariant_of-self : goal.invariant_of-self
invariant_of-self c =
    let inside = c.self.inside in
    let queue = inside.queue in
    let now = c.push_back_reserved.new.self in
    let ms = c.args.messages.items in
    let messages : Vec Public Global → List Public = λ v. v.items in
    let out : Outbox = record { untold = left_of inside.begun (lists_of queue.items); last = inside.last; live = inside.live; beats = inside.beats; cycle = inside.cycle; snaps = inside.snaps; spare = deque_capacity queue - deque_len queue } in
    let spare = deque_capacity now - deque_len now in
    let last : c.args.self.now.last ≡ inside.last = sym (ap (λ (o : Outbox). o.last) c.self.view_is) in
    let long : c.len.result ≡ length ms = omega (arith, c.len.ensures, c.args.messages.ok) in
    let filled = eqb-false _ _ (sym c.is_empty.ensures ∙ c.if-not-is_empty.true) in
    let some : 0 < length ms = omega (arith, filled, c.len.ensures, c.args.messages.ok) in
    let few : out.last + length ms ≤ 800_000 = omega (arith, c.requires.few, last, c.args.messages.ok) in
    let well = pushed_well out inside.next ms spare c.self.invariant.0 c.requires.writable few in
    let lists : lists_of now.items ≡ lists_of queue.items ++ ms ∷ [] = ap lists_of c.push_back_reserved.ensures.items ∙ map-append messages queue.items (c.args.messages ∷ []) in
    let left : left_of inside.begun (lists_of now.items) ≡ (pushed out ms spare).untold =
    ap (left_of inside.begun) lists ∙ left_more inside.begun (lists_of queue.items) ms (λ e. c.self.invariant.1 (no_list queue.items messages e))
    ∙ ap (λ (l : List (List Public)). left_of inside.begun (lists_of queue.items) ++ l) (sym (told_some ms some))
    in
    let is : pushed out ms spare ≡ record { untold = left_of inside.begun (lists_of now.items); last = inside.last + c.len.result; live = inside.live; beats = inside.beats; cycle = inside.cycle; snaps = inside.snaps; spare = spare } =
    λ i. record { untold = sym left i; last = inside.last + sym long i; live = inside.live; beats = inside.beats; cycle = inside.cycle; snaps = inside.snaps; spare = spare }
    in
    (subst (λ (o : Outbox). IsOutbox o inside.next) is well, λ none. absurd (not_none queue.items c.args.messages (sym c.push_back_reserved.ensures.items ∙ none)))
  where
    not_none : {X : Type 0} (xs : List X) (x : X) → xs ++ x ∷ [] ≡ [] → ⊥
    not_none [] x e = cc
    not_none (y ∷ xs) x e = cc
