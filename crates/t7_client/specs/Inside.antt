-- A client's parts as contracts see them.
use Rattle.std.specs.Prelude.{if◌then◌else◌, []}
use Rattle.t7_client.specs.declared.machine.Machine.TheInside.{Inside}
use Rattle.t7_client.specs.Recovering.{Recovery}

-- the bytes that are held count only while the connection lasts
abbrev pub recovery_of : Inside → Recovery
recovery_of m = record {
  layouts = m.table.now;
  session = m.session;
  gathered = m.gathered;
  dialed = m.dialed;
  treated = m.treated;
  rest = if m.dialed then m.frames else [];
  queue = m.queue.items;
  next = m.next;
  made = m.made;
  logged_on = m.logged_on;
  answer = m.answer;
  rejected = m.rejected;
}
