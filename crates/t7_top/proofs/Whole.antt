-- A command whose files are whole comes to an end.
use Rattle.std.proofs.Common.{◌≡◌, ◌⊎◌, ℕ, List, [], ◌∷◌, Bool, true, false, Option, None, Some, IsSomeAnd, IsOk, Result, Ok, Err, length, ◌==◌, if◌then◌else◌, reverse, refl, sym, ◌∙◌, ap, subst, inl, inr}
use Rattle.std.specs.Option.{option_map}
use Rattle.t7_base.specs.Outside.{Rose}
use Rattle.t7_base.specs.ProductFile.{ProductFault, fault_of as product_fault_of, product_of}
use Rattle.t7_client.specs.Hearing.{heard}
use Rattle.t7_client.specs.Recovering.{Recovery, is_recovered}
use Rattle.t7_entry.specs.Days.{last_of}
use Rattle.t7_eti.specs.declared.reason.Reason.{Reason}
use Rattle.t7_feed.specs.Arrivals.{Terms}
use Rattle.t7_follow.specs.Following.{finished, followed, watching}
use Rattle.t7_gather.specs.Clauses.{conn_of}
use Rattle.t7_gather.specs.Gathering.{client_of, end_by}
use Rattle.t7_gather.specs.Turns.{News, Nothing, Piece, Shut, closed_end, cut_at, end_behind, is_too_long, misfit_end, news_on, recovered_end, rejected_end, turn_behind, turn_by, turn_heard, turn_of, turns}
use Rattle.t7_layout.specs.Faults.{fault_of}
use Rattle.t7_layout.specs.Tables.{table_of}
use Rattle.t7_layout.specs.declared.words.TableFault.{TableFault}
use Rattle.t7_net.specs.declared.line.LineItem.{LineItem}
use Rattle.t7_net.specs.declared.link.LinkItem.{LinkItem}
use Rattle.t7_outcome.specs.declared.ending.Finish.TheVariants.{End, Text}
use Rattle.t7_outcome.specs.declared.ending.Status.{Status}
use Rattle.t7_outcome.specs.declared.ending.Status.TheVariants as status
use Rattle.t7_outcome.specs.declared.ending.Stop.{Stop}
use Rattle.t7_outcome.specs.declared.ending.Stop.TheVariants.{Peer, TooLong}
use Rattle.t7_outcome.specs.Ending.{Ended, status_of}
use Rattle.t7_outcome.specs.Outcome.{Answers, Outcome, Given, FileSet, Where, fetched, followed as file_followed}
use Rattle.t7_outcome.specs.Steps.{LineStep, Goes, GoesTo, Stops, stepped}
use Rattle.t7_records.specs.Records.{records_of}
use Rattle.t7_replay.specs.Reports as script
use Rattle.t7_replay.specs.Script.{lines_of}
use Rattle.t7_replay.specs.Steps.{played, step_at}
use Rattle.t7_replay.specs.World.{World, new_world}
use Rattle.t7_serve.specs.Served.{done_by, end_of, ends_too_long, takings}
use Rattle.t7_top.specs.Check.{check_lines}
use Rattle.t7_top.specs.Exercise.{exercised}
use Rattle.t7_top.specs.Jobs.{dialed_on, script_played, started, terms_of, over_product, over_table}
use Rattle.t7_top.specs.Moments.{Moment}
use Rattle.t7_top.specs.Network.{Network, Intake, Took, no_intake}
use Rattle.t7_top.specs.Outcomes.{outcome_of}
use Rattle.t7_top.specs.Refusals.{checked, checked_product}
use Rattle.t7_top.specs.Whole.{AreWhole, EachGoes, EndsJob, EndsWhole, IsComplete, IsWholeJob, IsWholeScript, IsWholeTable}
use Rattle.t7_top.specs.Words.{Invocation, Over, Check, Drill, Help, Version, Feeds, Job, Replay, Exchange, Member, Gather}
use Rattle.t7_top.proofs.Intake.{took_as}

-- the script comes to its end
played_well : (terms : Terms) (world : World) (lines : List (List ℕ)) → EachGoes terms world lines → IsSomeAnd (played terms world lines).end IsOk
played_well terms world [] each = refl
played_well terms world (line ∷ lines) each =
    of_step (step_at terms world line) (λ after. played terms after lines) each (λ after goes. played_well terms after lines goes)
  where
    of_step : (step : LineStep World script.Moment) (next : World → Outcome script.Moment) → GoesTo step (λ after. EachGoes terms after lines)
        → ((after : World) → EachGoes terms after lines → IsSomeAnd (next after).end IsOk) → IsSomeAnd (stepped step next).end IsOk
    of_step (Goes after parts) next goes well = well after goes
    of_step (Stops stop) next goes well = absurd goes

-- the end of a whole table's command is that of what follows it
behind_table : (table : List ℕ) (g : Given) (whole : IsWholeTable table g.files) (next : List ℕ → Outcome Moment)
    → (file_followed (fetched table g.files) (λ rows. checked (fault_of (records_of rows)) (next rows))).end ≡ (next whole.rows).end
behind_table table g whole next =
    ap (λ (r : Result (List ℕ) Stop). (file_followed r (λ rows. checked (fault_of (records_of rows)) (next rows))).end) whole.read
    ∙ ap (λ (f : Option TableFault). (checked f (next whole.rows)).end) whole.valid

job_end : (table product : List ℕ) (job : Job) (taken : Intake) (g : Given) (whole : AreWhole table product job g.files)
    → (over_table table product job taken g).end
    ≡ (started (terms_of (table_of (records_of whole.tables.rows)) (product_of (records_of whole.products.items))) job taken g).end
job_end table product job taken g whole =
    behind_table table g whole.tables (λ rows. over_product (table_of (records_of rows)) product job taken g)
    ∙ ap (λ (r : Result (List ℕ) Stop). (file_followed r (λ items. checked_product (product_fault_of (records_of items))
    (started (terms_of (table_of (records_of whole.tables.rows)) (product_of (records_of items))) job taken g))).end) whole.products.read
    ∙ ap (λ (f : Option ProductFault). (checked_product f
    (started (terms_of (table_of (records_of whole.tables.rows)) (product_of (records_of whole.products.items))) job taken g)).end) whole.products.valid

own_answer : (end : Option Ended) (answer : Status) → IsSomeAnd end IsOk → option_map status_of end ≡ Some answer → answer ≡ status.Done
own_answer None answer well is = absurd well
own_answer (Some (Ok finish)) answer well is = cc
own_answer (Some (Err stop)) answer well is = cc

-- how `exchange` ends
exchange_end : (terms : Terms) (listen : List ℕ) (feeds : Feeds) (count : ℕ) (taken : Intake) (answer : Status)
    → option_map status_of (end_of terms count (takings taken.events taken.moments)) ≡ Some answer → EndsJob (Exchange listen feeds count) answer
exchange_end terms listen feeds count taken answer is =
    by_end (ends_too_long terms (takings taken.events taken.moments)) (length (takings taken.events taken.moments) == count)
    (Ok (End (last_of (done_by terms (takings taken.events taken.moments)).venue.day))) refl is
  where
    by_end : (long all : Bool) (done : Ended) → status_of done ≡ status.Done → option_map status_of (if long then Some (Err TooLong) else if all then Some done else None) ≡ Some answer
        → EndsJob (Exchange listen feeds count) answer
    by_end true all done finishes is =
        let same : status.TooLong ≡ answer = cc in subst (λ (s : Status). EndsJob (Exchange listen feeds count) s) same tt
    by_end false true done finishes is =
        let same : status.Done ≡ answer = cc in subst (λ (s : Status). EndsJob (Exchange listen feeds count) s) same tt
    by_end false false done finishes is = let no : ⊥ = cc in absurd no

-- the ends that an event brings to a gatherer
abbrev EndsByEvents : Option Ended → Type 0
EndsByEvents None = Unit {0}
EndsByEvents (Some (Ok finish)) = Unit {0}
EndsByEvents (Some (Err TooLong)) = Unit {0}
EndsByEvents (Some (Err (Peer why))) = Unit {0}
EndsByEvents (Some (Err stop)) = ⊥

closed_ends : (closed : Bool) → EndsByEvents (closed_end closed)
closed_ends true = tt
closed_ends false = tt

recovered_ends : (client : Recovery) (later : Option Ended) → EndsByEvents later → EndsByEvents (recovered_end client later)
recovered_ends client later ends = by_list (is_recovered client)
  where
    by_list : (all : Bool) → EndsByEvents (if all then Some (Ok (End (length client.gathered))) else later)
    by_list true = tt
    by_list false = ends

rejected_ends : (reason : Option Reason) (later : Option Ended) → EndsByEvents later → EndsByEvents (rejected_end reason later)
rejected_ends None later ends = ends
rejected_ends (Some reason) later ends = tt

misfit_ends : (misfit : Option ℕ) (later : Option Ended) → EndsByEvents later → EndsByEvents (misfit_end misfit later)
misfit_ends None later ends = ends
misfit_ends (Some place) later ends = tt

behind_ends : (misfit : Option ℕ) (client : Recovery) (closed : Bool) → EndsByEvents (end_behind misfit client closed)
behind_ends misfit client closed =
    misfit_ends misfit (rejected_end client.rejected (recovered_end client (closed_end closed)))
    (rejected_ends client.rejected (recovered_end client (closed_end closed)) (recovered_ends client (closed_end closed) (closed_ends closed)))

turn_ends : (news : News) (client : Recovery) → EndsByEvents (turn_by news client).ended
turn_ends (Piece bytes) client = by_room (is_too_long client bytes)
  where
    by_room : (long : Bool) → EndsByEvents (if long then record { client = client; sent = []; ended = Some (Err TooLong) } else turn_heard (heard client bytes)).ended
    by_room true = tt
    by_room false = behind_ends (heard client bytes).misfit (cut_at (heard client bytes).misfit (heard client bytes).client) false
turn_ends Shut client = behind_ends None client true
turn_ends Nothing client = behind_ends None client false

turns_end : (conn : ℕ) (client : Recovery) (events : List LinkItem) → EndsByEvents (turns conn client events).ended
turns_end conn client [] = tt
turns_end conn client (event ∷ before) = behind (turns conn client before).ended (turns_end conn client before)
  where
    behind : (ended : Option Ended) → EndsByEvents (turns conn client before).ended
        → EndsByEvents (turn_behind (turns conn client before) ended (turn_of conn event (turns conn client before).client)).ended
    behind None earlier = turn_ends (news_on conn event) (turns conn client before).client
    behind (Some ended) earlier = earlier

-- how `gather` ends
gather_end : (address : List ℕ) (session count : ℕ) (found : Option Ended) (all : Bool) (client : Recovery) (answer : Status) → EndsByEvents found
    → option_map status_of (end_by found all client) ≡ Some answer → EndsJob (Gather address session count) answer
gather_end address session count None true client answer ends is =
    let same : status.Unfinished ≡ answer = cc in subst (λ (s : Status). EndsJob (Gather address session count) s) same tt
gather_end address session count None false client answer ends is = let no : ⊥ = cc in absurd no
gather_end address session count (Some (Ok finish)) all client answer ends is =
    let same : status.Done ≡ answer = cc in subst (λ (s : Status). EndsJob (Gather address session count) s) same tt
gather_end address session count (Some (Err TooLong)) all client answer ends is =
    let same : status.TooLong ≡ answer = cc in subst (λ (s : Status). EndsJob (Gather address session count) s) same tt
gather_end address session count (Some (Err (Peer why))) all client answer ends is =
    let same : status.Peer ≡ answer = cc in subst (λ (s : Status). EndsJob (Gather address session count) s) same tt
gather_end address session count (Some (Err stop)) all client answer ends is = absurd ends

dialed_end : (terms : Terms) (address : List ℕ) (session count : ℕ) (conn : Option ℕ) (events : List LinkItem) (answer : Status)
    → option_map status_of (dialed_on terms session count conn events).end ≡ Some answer → EndsJob (Gather address session count) answer
dialed_end terms address session count None events answer is = let no : ⊥ = cc in absurd no
dialed_end terms address session count (Some conn) events answer is =
    let turn = turns conn (client_of terms.layouts session) events in
    gather_end address session count turn.ended (length events == count) turn.client answer (turns_end conn (client_of terms.layouts session) events) is

-- how `member` ends
member_end : (terms : Terms) (feeds : Feeds) (count : ℕ) (receipts : List LineItem) (answer : Status)
    → option_map status_of (followed terms count receipts).end ≡ Some answer → EndsJob (Member feeds count) answer
member_end terms feeds count receipts answer is = by_end (length receipts == count) is
  where
    by_end : (all : Bool) → option_map status_of (if all then finished terms receipts else record { names = []; parts = watching terms receipts; end = None }).end ≡ Some answer
        → EndsJob (Member feeds count) answer
    by_end true is =
        let same : status.Done ≡ answer = cc in subst (λ (s : Status). EndsJob (Member feeds count) s) same tt
    by_end false is = let no : ⊥ = cc in absurd no

-- how `replay` ends over a script that is whole
script_end : (terms : Terms) (name : List ℕ) (g : Given) (taken : Intake) (whole : IsWholeScript terms name g.files) (answer : Status)
    → option_map status_of (started terms (Replay name) taken g).end ≡ Some answer → EndsJob (Replay name) answer
script_end terms name g taken whole answer is =
    subst (λ (s : Status). EndsJob (Replay name) s)
    (sym (own_answer (played terms new_world (lines_of whole.bytes)).end answer (played_well terms new_world (lines_of whole.bytes) whole.passes)
    (sym (ap (λ (r : Result (List ℕ) Stop). option_map status_of (file_followed r (script_played terms)).end) whole.read) ∙ is))) tt

started_end : (terms : Terms) (job : Job) (taken : Intake) (g : Given) (answer : Status) → IsWholeJob terms job g.files
    → option_map status_of (started terms job taken g).end ≡ Some answer → EndsJob job answer
started_end terms (Replay name) taken g answer whole is = script_end terms name g taken whole answer is
started_end terms (Exchange listen feeds count) taken g answer whole is = exchange_end terms listen feeds count taken answer is
started_end terms (Member feeds count) taken g answer whole is = member_end terms feeds count (reverse taken.receipts) answer is
started_end terms (Gather address session count) taken g answer whole is =
    dialed_end terms address session count (conn_of taken.dials) (reverse taken.events) answer is

job_well : (table product : List ℕ) (job : Job) (taken : Intake) (g : Given) (answer : Status) → AreWhole table product job g.files
    → option_map status_of (over_table table product job taken g).end ≡ Some answer → EndsJob job answer
job_well table product job taken g answer whole is =
    started_end (terms_of (table_of (records_of whole.tables.rows)) (product_of (records_of whole.products.items))) job taken g answer whole.rest
    (sym (ap (option_map status_of) (job_end table product job taken g whole)) ∙ is)

-- the others
check_well : (table : List ℕ) (g : Given) (answer : Status) → IsWholeTable table g.files → option_map status_of (outcome_of (Some (Check table)) no_intake g).end ≡ Some answer
    → answer ≡ status.Done
check_well table g answer whole is =
    own_answer (check_lines (table_of (records_of whole.rows))).end answer refl
    (sym (ap (option_map status_of) (behind_table table g whole (λ rows. check_lines (table_of (records_of rows))))) ∙ is)

drill_well : (seed orders : ℕ) (answer : Status) → option_map status_of (exercised seed orders).end ≡ Some answer → answer ≡ status.Done
drill_well seed orders answer is = own_answer (exercised seed orders).end answer refl is

own_well : (command : Option Invocation) (taken : Intake) (g : Given) (answer : Status) → IsComplete command g
    → option_map status_of (outcome_of command taken g).end ≡ Some answer → EndsWhole command answer
own_well None taken g answer whole is = absurd whole
own_well (Some (Over table product job)) taken g answer whole is = job_well table product job taken g answer whole is
own_well (Some (Check table)) taken g answer whole is = inl (check_well table g answer whole is)
own_well (Some (Drill seed orders)) taken g answer whole is = inl (drill_well seed orders answer is)
own_well (Some Help) taken g answer whole is = inl (own_answer (Some (Ok Text)) answer refl is)
own_well (Some Version) taken g answer whole is = inl (own_answer (Some (Ok Text)) answer refl is)

wants_memory : (command : Option Invocation) (g : Given) → IsComplete command g → EndsWhole command status.Memory
wants_memory None g whole = absurd whole
wants_memory (Some (Over table product job)) g whole = tt
wants_memory (Some (Check table)) g whole = inr refl
wants_memory (Some (Drill seed orders)) g whole = inr refl
wants_memory (Some Help) g whole = inr refl
wants_memory (Some Version) g whole = inr refl

by_answer : (command : Option Invocation) (taken : Intake) (g : Given) (answer : Status) (a b c d e f h k : ℕ) → Answers (outcome_of command taken g) answer
    → (answer ≡ status.ReadFault → Rose a b) → (answer ≡ status.WriteFault → Rose c d) → (answer ≡ status.NetFault → Rose e f ⊎ Rose h k)
    → IsComplete command g → ¬ Rose a b → ¬ Rose c d → ¬ Rose e f → ¬ Rose h k → EndsWhole command answer
by_answer command taken g status.ReadFault a b c d e f h k answers read write net whole no_read no_write no_link no_lines = absurd (no_read (read refl))
by_answer command taken g status.WriteFault a b c d e f h k answers read write net whole no_read no_write no_link no_lines = absurd (no_write (write refl))
by_answer command taken g status.NetFault a b c d e f h k answers read write net whole no_read no_write no_link no_lines = absurd (either (net refl))
  where
    either : Rose e f ⊎ Rose h k → ⊥
    either (inl rose) = no_link rose
    either (inr rose) = no_lines rose
by_answer command taken g status.Memory a b c d e f h k answers read write net whole no_read no_write no_link no_lines = wants_memory command g whole
by_answer command taken g answer a b c d e f h k answers read write net whole no_read no_write no_link no_lines = own_well command taken g answer whole answers

-- such a command comes to an end where no count rose
pub told_complete : (o : Option FileSet) (command : Option Invocation) (old new : Network) (answer : Status) (a b c d e f h k : ℕ)
    → Took command old new (λ taken. Where o (λ g. Answers (outcome_of command taken g) answer))
    → (answer ≡ status.ReadFault → Rose a b) → (answer ≡ status.WriteFault → Rose c d) → (answer ≡ status.NetFault → Rose e f ⊎ Rose h k)
    → Where o (λ g. IsComplete command g → ¬ Rose a b → ¬ Rose c d → ¬ Rose e f → ¬ Rose h k → Took command old new (λ taken. EndsWhole command answer))
told_complete None command old new answer a b c d e f h k answers read write net = tt
told_complete (Some held) command old new answer a b c d e f h k answers read write net =
    λ whole no_read no_write no_link no_lines.
    let g : Given = record { files = held } in
    took_as command old new (λ taken. Answers (outcome_of command taken g) answer) (λ taken. EndsWhole command answer) answers
    (λ taken own. by_answer command taken g answer a b c d e f h k own read write net whole no_read no_write no_link no_lines)
