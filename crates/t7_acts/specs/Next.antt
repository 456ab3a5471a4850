-- What comes next after acts: the numbers, and the datagrams of further commands.
use Rattle.std.specs.Prelude.{ℕ, ◌+◌, List, length, map}
use Rattle.t7_base.specs.declared.ids.Channel.{Channel}
use Rattle.t7_base.specs.declared.ids.Channel.TheVariants as channel
use Rattle.t7_book.specs.Acts.{Act, commands_of}
use Rattle.t7_book.specs.declared.command.Command.{Command}
use Rattle.t7_book.specs.Orders.{BookState, empty_book, roster_of}
use Rattle.t7_book.specs.Trace.{book_left}
use Rattle.t7_entry.specs.Days.{due_from, told_by}
use Rattle.t7_feed.specs.Arrivals.{Terms}
use Rattle.t7_feed.specs.Sending.{last_of, sent_on}
use Rattle.t7_packets.specs.Packing.{Datagram, datagram_bytes}

-- the number of the next datagram of a channel
abbrev pub next_datagram : Terms → List Act → Channel → ℕ
next_datagram terms acts channel = length (sent_on terms acts channel) + 1

-- the number of the next live message
abbrev pub next_message : Terms → List Act → ℕ
next_message terms acts = last_of terms.listing (commands_of acts) + 1

-- the book that the commands of acts leave
abbrev pub book_behind : Terms → List Act → BookState
book_behind terms acts = book_left (empty_book (roster_of terms.listing)) (commands_of acts)

-- the live datagrams that further commands send after acts
abbrev pub datagrams_of : Terms → List Act → List Command → List Datagram
datagrams_of terms acts cs =
    due_from terms.layouts terms.listing.datagram (next_datagram terms acts channel.Live) (next_message terms acts) (told_by (book_behind terms acts) cs)

-- live datagrams of the product as bytes
abbrev pub live_bytes : Terms → List Datagram → List (List ℕ)
live_bytes terms ds = map (datagram_bytes terms.layouts terms.listing.segment) ds
