-- A datagram of the first messages, message by message.
use Rattle.std.proofs.Common.{◌≡◌, ◌∙◌, ℕ, ◌+◌, ◌-◌, ◌<◌, ◌≤◌, List, [], ◌∷◌, ◌++◌, length, take, drop, zero, suc, get_or, sum_by, map, sym, ap, subst, arith, append_assoc, length-append}
use Rattle.std.proofs.Math.Seq.{take-append-add, take-append_seam, drop-append_seam}
use Rattle.std.proofs.lemmas.List.{append-nil, drop-drop, length-take-le, map-append, take_more}
use Rattle.std.proofs.lemmas.List.Folds.{concat-append}
use Rattle.std.proofs.lemmas.List.Sums.{sum_by_push}
use Rattle.std.specs.List.{concat}
use Rattle.t7_base.specs.declared.public.Public.{Public}
use Rattle.t7_layout.specs.declared.roles.Role.TheVariants as role
use Rattle.t7_layout.specs.Layouts.{Layout}
use Rattle.t7_eobi.specs.declared.walks.Live.{Live}
use Rattle.t7_eobi.specs.declared.walks.Live.TheVariants.{Message, Beat}
use Rattle.t7_eobi.specs.Bytes.{beat_bytes, header_bytes, public_bytes}
use Rattle.t7_eobi.specs.Said.{ReadsLive, SaysHeader, SaysLive, SayLives}
use Rattle.t7_greedy.specs.Cuts.{IsLongestRun}
use Rattle.t7_greedy.proofs.CutFacts.{taken_run}
use Rattle.t7_eobi.specs.Sizes.{message_size, role_size}
use Rattle.t7_packets.specs.Packing.{datagram_bytes, item_bytes, numbered, of_messages, room_in}

-- one message more takes the next number
pub numbered_push : (first : ℕ) (xs : List Public) (x : Public) → numbered first (xs ++ x ∷ []) ≡ numbered first xs ++ Message (first + length xs) x ∷ []
numbered_push first [] x = (let same : first ≡ first + 0 = omega arith in ap (λ n. Message n x ∷ []) same)
numbered_push first (y ∷ xs) x =
    let same : first + 1 + length xs ≡ first + length (y ∷ xs) = omega arith in
    ap (λ zs. Message first y ∷ zs) (numbered_push (first + 1) xs x ∙ ap (λ n. numbered (first + 1) xs ++ Message n x ∷ []) same)

-- messages that say items, and one more
pub say_push : (layouts : List Layout) (items : List Live) (messages : List (List ℕ)) (item : Live) (message : List ℕ)
    → SayLives layouts items messages → SaysLive layouts item message → SayLives layouts (items ++ item ∷ []) (messages ++ message ∷ [])
say_push layouts [] [] item message say says = (says, tt)
say_push layouts [] (m ∷ messages) item message say says = absurd say
say_push layouts (i ∷ items) [] item message say says = absurd say
say_push layouts (i ∷ items) (m ∷ messages) item message say says = (say.0, say_push layouts items messages item message say.1 says)

-- the bytes of a datagram with one message more
pub datagram_push : (layouts : List Layout) (segment number first : ℕ) (run : List Public) (message : Public)
    → datagram_bytes layouts segment (of_messages number first (run ++ message ∷ []))
    ≡ datagram_bytes layouts segment (of_messages number first run) ++ public_bytes layouts (first + length run) message
datagram_push layouts segment number first run message =
    let bytes = item_bytes layouts in
    let last = public_bytes layouts (first + length run) message in
    let parts : concat (map bytes (numbered first run ++ Message (first + length run) message ∷ [])) ≡ concat (map bytes (numbered first run)) ++ last =
    ap concat (map-append bytes (numbered first run) (Message (first + length run) message ∷ []))
    ∙ concat-append (map bytes (numbered first run)) (last ∷ [])
    ∙ ap (λ bs. concat (map bytes (numbered first run)) ++ bs) (append-nil last) in
    ap (λ items. header_bytes layouts segment number ++ concat (map bytes items)) (numbered_push first run message)
    ∙ ap (λ bs. header_bytes layouts segment number ++ bs) parts
    ∙ sym (append_assoc (header_bytes layouts segment number) (concat (map bytes (numbered first run))) last)

-- so many bytes of a buffer hold a datagram of the run, and what stood behind them stands there still
pub record IsBegun (layouts : List Layout) (segment number first : ℕ) (run : List Public) (len : ℕ) (before out : List ℕ) : Type 0 where
  pub size : len ≡ role_size layouts role.PacketHeader + sum_by (message_size layouts) run
  pub count : len ≡ length (datagram_bytes layouts segment (of_messages number first run))
  pub bytes : out ≡ datagram_bytes layouts segment (of_messages number first run) ++ drop len before
  pub says : SayLives layouts (numbered first run) (map (item_bytes layouts) (numbered first run))

-- the header alone is a datagram of no message
pub begun_header : (layouts : List Layout) (segment number first len : ℕ) (before out : List ℕ) → len ≡ role_size layouts role.PacketHeader
    → len ≡ length (header_bytes layouts segment number) → out ≡ header_bytes layouts segment number ++ drop len before → IsBegun layouts segment number first [] len before out
begun_header layouts segment number first len before out size count bytes =
    let whole = sym (append-nil (header_bytes layouts segment number)) in
    record {
      size = omega (arith, size);
      count = count ∙ ap length whole;
      bytes = bytes ∙ ap (λ bs. bs ++ drop len before) whole;
      says = tt;
    }

-- bytes that are written behind others
pub written_behind : (datagram more before out new : List ℕ) (len size : ℕ) → len ≡ length datagram → out ≡ datagram ++ drop len before
    → new ≡ take len out ++ (more ++ drop (len + size) out) → new ≡ (datagram ++ more) ++ drop (len + size) before
written_behind datagram more before out new len size count bytes is =
    let front : take len out ≡ datagram = ap (λ bs. take len bs) bytes ∙ ap (λ n. take n (datagram ++ drop len before)) count ∙ take-append_seam datagram (drop len before) in
    let behind : drop len out ≡ drop len before = ap (λ bs. drop len bs) bytes ∙ ap (λ n. drop n (datagram ++ drop len before)) count ∙ drop-append_seam datagram (drop len before) in
    let rest : drop (len + size) out ≡ drop (len + size) before = sym (drop-drop size len out) ∙ ap (λ bs. drop size bs) behind ∙ drop-drop size len before in
    is ∙ ap (λ bs. bs ++ (more ++ drop (len + size) out)) front ∙ ap (λ bs. datagram ++ (more ++ bs)) rest ∙ sym (append_assoc datagram more (drop (len + size) before))

-- one message more is written
pub begun_push : (layouts : List Layout) (segment number first : ℕ) (run : List Public) (len : ℕ) (before out new : List ℕ) (message : Public) (size at : ℕ)
    → IsBegun layouts segment number first run len before out → at ≡ first + length run → size ≡ message_size layouts message
    → size ≡ length (public_bytes layouts at message) → SaysLive layouts (Message at message) (public_bytes layouts at message)
    → new ≡ take len out ++ (public_bytes layouts at message ++ drop (len + size) out)
    → IsBegun layouts segment number first (run ++ message ∷ []) (len + size) before new
begun_push layouts segment number first run len before out new message size at b at_is sized counted says written =
    by (subst (λ n. size ≡ length (public_bytes layouts n message)) at_is counted)
    (subst (λ n. SaysLive layouts (Message n message) (public_bytes layouts n message)) at_is says)
    (subst (λ n. new ≡ take len out ++ (public_bytes layouts n message ++ drop (len + size) out)) at_is written)
  where
    by : size ≡ length (public_bytes layouts (first + length run) message) → SaysLive layouts (Message (first + length run) message) (public_bytes layouts (first + length run) message)
        → new ≡ take len out ++ (public_bytes layouts (first + length run) message ++ drop (len + size) out)
        → IsBegun layouts segment number first (run ++ message ∷ []) (len + size) before new
    by counted says written =
        let more = datagram_push layouts segment number first run message in
        let last = public_bytes layouts (first + length run) message in
        let sums : sum_by (message_size layouts) (run ++ message ∷ []) ≡ sum_by (message_size layouts) run + message_size layouts message = sum_by_push (message_size layouts) run message in
        let whole : length (datagram_bytes layouts segment (of_messages number first run) ++ last) ≡ length (datagram_bytes layouts segment (of_messages number first run)) + length last =
        length-append (datagram_bytes layouts segment (of_messages number first run)) last in
        let longer : len + size ≡ length (datagram_bytes layouts segment (of_messages number first run) ++ last) = omega (arith, b.count, whole, counted) in
        let items = numbered_push first run message in
        let parts = map-append (item_bytes layouts) (numbered first run) (Message (first + length run) message ∷ []) in
        record {
          size = omega (arith, b.size, sums, sized);
          count = longer ∙ ap length (sym more);
          bytes = written_behind (datagram_bytes layouts segment (of_messages number first run)) last before out new len size b.count b.bytes written
              ∙ ap (λ bs. bs ++ drop (len + size) before) (sym more);
          says = rw items (rw parts (say_push layouts (numbered first run) (map (item_bytes layouts) (numbered first run)) (Message (first + length run) message) last b.says says));
        }

-- the first messages are written, and the next of the list
pub begun_next : (layouts : List Layout) (segment number first : ℕ) (messages : List Public) (i : ℕ) (message : Public) (len : ℕ) (before out new : List ℕ) (size at : ℕ)
    → message ≡ get_or messages i message → i < length messages → IsBegun layouts segment number first (take i messages) len before out → at ≡ first + i → size ≡ message_size layouts message
    → size ≡ length (public_bytes layouts at message) → SaysLive layouts (Message at message) (public_bytes layouts at message)
    → new ≡ take len out ++ (public_bytes layouts at message ++ drop (len + size) out)
    → IsBegun layouts segment number first (take (i + 1) messages) (len + size) before new
begun_next layouts segment number first messages i message len before out new size at is below b at_is sized counted says written =
    let count : at ≡ first + length (take i messages) = (let l = length-take-le i messages (omega arith) in omega (arith, at_is, l)) in
    let longer : take i messages ++ message ∷ [] ≡ take (i + 1) messages = ap (λ m. take i messages ++ m ∷ []) is ∙ sym (take_more messages i message below) in
    subst (λ run. IsBegun layouts segment number first run (len + size) before new) longer
    (begun_push layouts segment number first (take i messages) len before out new message size at b count sized counted says written)

-- a header and messages that say items are read as a datagram of these
abbrev pub ReadsAgain : Type 0
ReadsAgain = (layouts : List Layout) (segment count : ℕ) (items : List Live) (header : List ℕ) (messages : List (List ℕ)) → SaysHeader layouts segment count header → SayLives layouts items messages
    → length (header ++ concat messages) ≤ 1472 → ReadsLive layouts segment count items (header ++ concat messages)

-- a datagram that has begun is read as what it has
pub begun_reads : ReadsAgain → (layouts : List Layout) (segment number first : ℕ) (run : List Public) (len : ℕ) (before out : List ℕ)
    → SaysHeader layouts segment number (header_bytes layouts segment number) → IsBegun layouts segment number first run len before out → len ≤ 1472
    → ReadsLive layouts segment number (numbered first run) (take len out)
begun_reads again layouts segment number first run len before out says_header b most =
    let datagram = datagram_bytes layouts segment (of_messages number first run) in
    let whole : take len out ≡ datagram = ap (λ bs. take len bs) b.bytes ∙ ap (λ n. take n (datagram ++ drop len before)) b.count ∙ take-append_seam datagram (drop len before) in
    let short : length datagram ≤ 1472 = omega (arith, b.count, most) in
    subst (λ bs. ReadsLive layouts segment number (numbered first run) bs) (sym whole)
    (again layouts segment number (numbered first run) (header_bytes layouts segment number) (map (item_bytes layouts) (numbered first run)) says_header b.says short)

-- where a message doesn't fit, one stands before it
pub some_before : (layouts : List Layout) (segment limit number first : ℕ) (messages : List Public) (used len size : ℕ) (before out : List ℕ)
    → IsBegun layouts segment number first (take used messages) len before out → role_size layouts role.PacketHeader ≤ 128 → size ≤ 128 → 256 ≤ limit → limit - len < size → 1 ≤ used
some_before layouts segment limit number first messages zero len size before out b header short least over = (let l = b.size in absurd (omega arith))
some_before layouts segment limit number first messages (suc used) len size before out b header short least over = omega arith

-- where the next message doesn't fit, those before it are the longest run
pub longest_before : (layouts : List Layout) (segment limit number first : ℕ) (messages : List Public) (used len size : ℕ) (message : Public) (before out : List ℕ)
    → IsBegun layouts segment number first (take used messages) len before out → role_size layouts role.PacketHeader ≤ 128 → size ≤ 128 → 256 ≤ limit → len ≤ limit → limit - len < size
    → size ≡ message_size layouts message → message ≡ get_or messages used message → used < length messages
    → IsLongestRun (message_size layouts) (room_in layouts limit) messages (take used messages) (drop used messages)
longest_before layouts segment limit number first messages used len size message before out b header short least fits over sized is below =
    let l = b.size in
    taken_run (message_size layouts) (room_in layouts limit) messages used message (some_before layouts segment limit number first messages used len size before out b header short least over)
    (omega arith) (omega arith) (λ more. (let same : message_size layouts (get_or messages used message) ≡ size = ap (message_size layouts) (sym is) ∙ sym sized in omega arith))

-- two parts that are written one behind the other
pub written_pair : (front part header body more after : List ℕ) (i k : ℕ) → front ≡ header → part ≡ body ++ more → i ≡ length header → k ≡ length body
    → take (i + k) (front ++ (part ++ after)) ≡ header ++ body
written_pair front part header body more after i k front_is part_is i_is k_is =
    let behind : take k ((body ++ more) ++ after) ≡ body =
    ap (λ n. take n ((body ++ more) ++ after)) k_is ∙ ap (λ bs. take (length body) bs) (append_assoc body more after) ∙ take-append_seam body (more ++ after) in
    ap (λ bs. take (i + k) (bs ++ (part ++ after))) front_is
    ∙ ap (λ bs. take (i + k) (header ++ (bs ++ after))) part_is
    ∙ ap (λ n. take (n + k) (header ++ ((body ++ more) ++ after))) i_is
    ∙ take-append-add header ((body ++ more) ++ after) k
    ∙ ap (λ bs. header ++ bs) behind

-- a header and a heartbeat behind it are read as that heartbeat
pub beat_reads : ReadsAgain → (layouts : List Layout) (segment number last : ℕ) (whole front part rest more after : List ℕ) (i k : ℕ)
    → SaysHeader layouts segment number (header_bytes layouts segment number) → SaysLive layouts (Beat last) (beat_bytes layouts last)
    → whole ≡ header_bytes layouts segment number ++ rest → front ≡ take i whole → i ≡ length (header_bytes layouts segment number) → i ≤ 128
    → part ≡ beat_bytes layouts last ++ more → k ≡ length (beat_bytes layouts last) → k ≤ 128
    → ReadsLive layouts segment number (Beat last ∷ []) (take (i + k) (front ++ (part ++ after)))
beat_reads again layouts segment number last whole front part rest more after i k says_header says whole_is front_is i_is i_short part_is k_is k_short =
    let header = header_bytes layouts segment number in
    let beat = beat_bytes layouts last in
    let begins : front ≡ header = front_is ∙ ap (λ bs. take i bs) whole_is ∙ ap (λ n. take n (header ++ rest)) i_is ∙ take-append_seam header rest in
    let alone : beat ++ [] ≡ beat = append-nil beat in
    let short : length (header ++ (beat ++ [])) ≤ 1472 = rw alone (let l = length-append header beat in omega (arith, l, i_is, i_short, k_is, k_short)) in
    let bytes : take (i + k) (front ++ (part ++ after)) ≡ header ++ (beat ++ []) = written_pair front part header beat more after i k begins part_is i_is k_is ∙ ap (λ bs. header ++ bs) (sym alone) in
    subst (λ bs. ReadsLive layouts segment number (Beat last ∷ []) bs) (sym bytes) (again layouts segment number (Beat last ∷ []) header (beat ∷ []) says_header (says, tt) short)
