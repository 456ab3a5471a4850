-- What an outbox has inside.
use Rattle.std.specs.Prelude.{◌≡◌, ◌-◌, []}
use Rattle.std.specs.VecDeque.{deque_capacity, deque_len}
use Rattle.t7_exchange.specs.declared.outbox.Outbox.TheInside.{Inside}
use Rattle.t7_exchange.specs.Outbox.{IsOutbox, Outbox, left_of, lists_of}

-- what it is
abbrev pub outbox_in : Inside → Outbox
outbox_in a = record {
  untold = left_of a.begun (lists_of a.queue.items);
  last = a.last;
  live = a.live;
  beats = a.beats;
  cycle = a.cycle;
  snaps = a.snaps;
  spare = deque_capacity a.queue - deque_len a.queue;
}

-- its numbers fit, and nothing of the first command is sent where there is none
abbrev pub IsOutboxInside : Inside → Type 0
IsOutboxInside a = IsOutbox (outbox_in a) a.next × (a.queue.items ≡ [] → a.begun ≡ 0)
