use Rattle.std.proofs.Common.{◌≡◌, ◌+◌, ◌-◌, ◌<◌, ◌≤◌, List, length, sym, ap, ◌∙◌, subst, arith, refl}
use Rattle.std.specs.declared.alloc.Global.{Global}
use Rattle.std.specs.declared.vec.Vec.{Vec}
use Rattle.std.specs.VecDeque.{deque_capacity, deque_len}
use Rattle.t7_base.specs.declared.public.Public.{Public}
use Rattle.t7_exchange.specs.Outbox.{IsOutbox, Outbox, first_in, left_of, lists_of, passed}
use Rattle.t7_exchange.proofs.OutboxFacts.{no_first, pass_all, pass_some, passed_well, place_within}
use Rattle.t7_exchange.proofs.WireFacts.{map-drop_one}
use Rattle.t7_exchange.proofs.outbox.Outbox.pass.Goals as goal

pub overflow_add-self-then-used-count : goal.overflow_add-self-then-used-count
overflow_add-self-then-used-count c =
    let same = ap (λ (o : Outbox). length (first_in o.untold)) c.self.view_is in
    let count = ap length c.waiting-count.ensures in
    let within = place_within c.self.inside.begun c.args.used c.self.inside.queue.items (omega (arith, c.if-used-count.true, count, same)) in
    omega (arith, within)

pub invariant_of-self : goal.invariant_of-self
invariant_of-self c =
    let inside = c.self.inside in
    let queue = inside.queue in
    let lists = lists_of queue.items in
    let used = c.args.used in
    let spare = deque_capacity queue - deque_len queue in
    let out : Outbox = record { untold = left_of inside.begun lists; last = inside.last; live = inside.live; beats = inside.beats; cycle = inside.cycle; snaps = inside.snaps; spare = spare } in
    let same : length (first_in c.args.self.now.untold) ≡ length (first_in out.untold) = sym (ap (λ (o : Outbox). length (first_in o.untold)) c.self.view_is) in
    let count : length c.waiting-count.result.now ≡ length (first_in c.args.self.now.untold) = ap length c.waiting-count.ensures in
    let less : used < length (first_in out.untold) = omega (arith, c.if-used-count.true, count, same) in
    let well = passed_well out inside.next used spare c.self.invariant.0 c.requires.some (omega arith) in
    let is : passed out used spare ≡ record { untold = left_of (inside.begun + used) lists; last = inside.last; live = inside.live + 1; beats = inside.beats; cycle = inside.cycle; snaps = inside.snaps; spare = spare } =
    λ i. record { untold = sym (pass_some inside.begun used lists less) i; last = inside.last; live = inside.live + 1; beats = inside.beats; cycle = inside.cycle; snaps = inside.snaps; spare = spare }
    in
    (subst (λ (o : Outbox). IsOutbox o (inside.next + used)) is well, λ none. let no = no_first inside.begun queue.items none in absurd (omega (arith, no, less)))

pub returns-then-used-count : goal.returns-then-used-count
returns-then-used-count c =
    let inside = c.self.inside in
    let queue = inside.queue in
    let lists = lists_of queue.items in
    let used = c.args.used in
    let spare = deque_capacity queue - deque_len queue in
    let out : Outbox = record { untold = left_of inside.begun lists; last = inside.last; live = inside.live; beats = inside.beats; cycle = inside.cycle; snaps = inside.snaps; spare = spare } in
    let same : length (first_in c.args.self.now.untold) ≡ length (first_in out.untold) = sym (ap (λ (o : Outbox). length (first_in o.untold)) c.self.view_is) in
    let count : length c.waiting-count.result.now ≡ length (first_in c.args.self.now.untold) = ap length c.waiting-count.ensures in
    let less : used < length (first_in out.untold) = omega (arith, c.if-used-count.true, count, same) in
    let is : passed out used spare ≡ record { untold = left_of (inside.begun + used) lists; last = inside.last; live = inside.live + 1; beats = inside.beats; cycle = inside.cycle; snaps = inside.snaps; spare = spare } =
    λ i. record { untold = sym (pass_some inside.begun used lists less) i; last = inside.last; live = inside.live + 1; beats = inside.beats; cycle = inside.cycle; snaps = inside.snaps; spare = spare }
    in
    sym is ∙ ap (λ (o : Outbox). passed o used spare) c.self.view_is

pub invariant_of-self-2 : goal.invariant_of-self-2
invariant_of-self-2 c =
    let inside = c.self.inside in
    let queue = inside.queue in
    let now = c.pop_front.new.self in
    let lists = lists_of queue.items in
    let used = c.args.used in
    let spare = deque_capacity now - deque_len now in
    let messages : Vec Public Global → List Public = λ v. v.items in
    let out : Outbox = record { untold = left_of inside.begun lists; last = inside.last; live = inside.live; beats = inside.beats; cycle = inside.cycle; snaps = inside.snaps; spare = deque_capacity queue - deque_len queue } in
    let same : length (first_in c.args.self.now.untold) ≡ length (first_in out.untold) = sym (ap (λ (o : Outbox). length (first_in o.untold)) c.self.view_is) in
    let count : length c.waiting-count.result.now ≡ length (first_in c.args.self.now.untold) = ap length c.waiting-count.ensures in
    let all : length (first_in out.untold) ≤ used = omega (arith, c.if-used-count.false, count, same) in
    let within : used ≤ length (first_in out.untold) = omega (arith, c.requires.within, same) in
    let well = passed_well out inside.next used spare c.self.invariant.0 c.requires.some within in
    let left : left_of 0 (lists_of now.items) ≡ (passed out used spare).untold =
    ap (left_of 0) (ap lists_of c.pop_front.ensures.rest ∙ map-drop_one messages queue.items) ∙ pass_all inside.begun used lists all
    in
    let is : passed out used spare ≡ record { untold = left_of 0 (lists_of now.items); last = inside.last; live = inside.live + 1; beats = inside.beats; cycle = inside.cycle; snaps = inside.snaps; spare = spare } =
    λ i. record { untold = sym left i; last = inside.last; live = inside.live + 1; beats = inside.beats; cycle = inside.cycle; snaps = inside.snaps; spare = spare }
    in
    (subst (λ (o : Outbox). IsOutbox o (inside.next + used)) is well, λ none. refl)
