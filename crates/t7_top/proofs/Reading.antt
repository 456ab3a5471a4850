-- A command takes its files one after another: it is stopped at one of them, or goes on behind it.
use Rattle.std.proofs.Common.{◌≡◌, ◌≢◌, ◌≤◌, ℕ, List, [], ◌∷◌, ◌++◌, Option, None, Some, IfSome, Result, Ok, Err, refl, sym, ◌∙◌, ap, subst, arith}
use Rattle.t7_base.specs.Listing.{Listing}
use Rattle.t7_base.specs.Outside.{Begins, Grew, Rose}
use Rattle.t7_base.specs.ProductFile.{ProductFault, fault_of as product_fault_of, product_of}
use Rattle.t7_base.proofs.Grown.{grew_as, grew_nothing, grew_then}
use Rattle.t7_layout.specs.Faults.{fault_of}
use Rattle.t7_layout.specs.Layouts.{Layout}
use Rattle.t7_layout.specs.Tables.{table_of}
use Rattle.t7_layout.specs.declared.words.TableFault.{TableFault}
use Rattle.t7_outcome.specs.declared.ending.Status.{Status}
use Rattle.t7_outcome.specs.declared.ending.Status.TheVariants as status
use Rattle.t7_outcome.specs.declared.ending.Stop.{Stop}
use Rattle.t7_outcome.specs.declared.ending.Stop.TheVariants.{Layout as LayoutStop, Product, ReadFault, WriteFault, NetFault, Memory}
use Rattle.t7_outcome.specs.Ending.{Ended, status_of}
use Rattle.t7_outcome.specs.Outcome.{Outcome, Part, FileSet, Given, Where, Asked, AskedOf, Ends, Fronts, Spelled, Wrote, WroteLines, fetched, followed, taking, text_of}
use Rattle.t7_outcome.specs.Performing.{TookFiles, WroteSink}
use Rattle.t7_outcome.proofs.Lines.{fronts_none}
use Rattle.t7_outcome.proofs.Taking.{took_none}
use Rattle.t7_records.specs.Records.{records_of}
use Rattle.t7_top.specs.Moments.{Moment, IsReported}
use Rattle.t7_top.specs.Refusals.{RefusesProduct, RefusesTable, checked, checked_product}

abbrev pub Read : Option FileSet → List ℕ → List ℕ → Type 0
Read o name bytes = IfSome o (λ h. fetched name h ≡ Ok bytes)

-- what holds where a file was read, where it is told what was given
pub where_read : (o : Option FileSet) (name bytes : List ℕ) (P : Given → Type 0) → Read o name bytes
    → ((h : FileSet) → fetched name h ≡ Ok bytes → P (record { files = h })) → Where o P
where_read None name bytes P read holds = tt
where_read (Some h) name bytes P read holds = holds h read

grew_none : (o : Option FileSet) (p : Option (List ℕ)) (P : Given → List ℕ → Type 0) → Where o (λ g. P g []) → Where o (λ g. Grew p p (P g))
grew_none None p P none = tt
grew_none (Some h) p P none = grew_nothing p (P (record { files = h })) none

-- it was stopped before anything was written
sink_stopped : (o : Option FileSet) (p : Option (List ℕ)) (plain : Given → Outcome Moment) (stop : Stop) (n : ℕ) → stop ≢ WriteFault
    → Where o (λ g. Ends (plain g) (Err stop)) → Where o (λ g. Wrote IsReported (plain g) (Err stop) [])
    → WroteSink IsReported plain (Err stop) o p p n n
sink_stopped o p plain stop n uncut ends wrote = record {
  end = ends;
  wrote = grew_none o p (λ g. Wrote IsReported (plain g) (Err stop)) wrote;
  count = omega arith;
  fault = λ is. absurd (uncut cc);
}

pub none_written : (plain : Outcome Moment) → Wrote IsReported plain (Err Memory) []
none_written plain = ([], [], fronts_none IsReported plain.parts, ([], refl), refl)

-- a refused table
pub table_ends : (plain later : Outcome Moment) (fault : Option TableFault) (stop : Stop) → plain.end ≡ (checked fault later).end → RefusesTable fault stop → Ends plain (Err stop)
table_ends plain later fault (LayoutStop found) same is = same ∙ ap (λ (f : Option TableFault). (checked f later).end) is
table_ends plain later fault Memory same is = tt
table_ends plain later fault stop same is = absurd is

pub table_wrote : (plain later : Outcome Moment) (fault : Option TableFault) (stop : Stop) → plain.parts ≡ (checked fault later).parts → RefusesTable fault stop
    → Wrote IsReported plain (Err stop) []
table_wrote plain later fault (LayoutStop found) same is =
    ([], subst (λ (l : List (Part Moment)). Spelled IsReported l []) (sym (same ∙ ap (λ (f : Option TableFault). (checked f later).parts) is)) refl, refl)
table_wrote plain later fault Memory same is = none_written plain
table_wrote plain later fault stop same is = absurd is

table_uncut : (fault : Option TableFault) (stop : Stop) → RefusesTable fault stop → stop ≢ WriteFault
table_uncut fault (LayoutStop found) is = λ e. cc
table_uncut fault Memory is = λ e. cc
table_uncut fault stop is = absurd is

pub table_refused : (o : Option FileSet) (p : Option (List ℕ)) (table rows : List ℕ) (later : List Layout → Given → Outcome Moment) (stop : Stop) (n : ℕ)
    → Read o table rows → RefusesTable (fault_of (records_of rows)) stop
    → WroteSink IsReported (λ g. taking table g.files (λ found. checked (fault_of (records_of found)) (later (table_of (records_of found)) g))) (Err stop) o p p n n
table_refused o p table rows later stop n read is =
    let plain : Given → Outcome Moment = λ (g : Given). taking table g.files (λ found. checked (fault_of (records_of found)) (later (table_of (records_of found)) g)) in
    let after : Given → Outcome Moment = λ (g : Given). later (table_of (records_of rows)) g in
    sink_stopped o p plain stop n (table_uncut (fault_of (records_of rows)) stop is)
    (where_read o table rows (λ g. Ends (plain g) (Err stop)) read
    (λ h whole. let g : Given = record { files = h } in
    table_ends (plain g) (after g) (fault_of (records_of rows)) stop
    (ap (λ (r : Result (List ℕ) Stop). (followed r (λ found. checked (fault_of (records_of found)) (later (table_of (records_of found)) g))).end) whole) is))
    (where_read o table rows (λ g. Wrote IsReported (plain g) (Err stop) []) read
    (λ h whole. let g : Given = record { files = h } in
    table_wrote (plain g) (after g) (fault_of (records_of rows)) stop
    (ap (λ (r : Result (List ℕ) Stop). (followed r (λ found. checked (fault_of (records_of found)) (later (table_of (records_of found)) g))).parts) whole) is))

-- a refused product file
pub product_ends : (plain later : Outcome Moment) (fault : Option ProductFault) (stop : Stop) → plain.end ≡ (checked_product fault later).end → RefusesProduct fault stop
    → Ends plain (Err stop)
product_ends plain later fault (Product row why) same is = same ∙ ap (λ (f : Option ProductFault). (checked_product f later).end) is
product_ends plain later fault Memory same is = tt
product_ends plain later fault stop same is = absurd is

pub product_wrote : (plain later : Outcome Moment) (fault : Option ProductFault) (stop : Stop) → plain.parts ≡ (checked_product fault later).parts → RefusesProduct fault stop
    → Wrote IsReported plain (Err stop) []
product_wrote plain later fault (Product row why) same is =
    ([], subst (λ (l : List (Part Moment)). Spelled IsReported l []) (sym (same ∙ ap (λ (f : Option ProductFault). (checked_product f later).parts) is)) refl, refl)
product_wrote plain later fault Memory same is = none_written plain
product_wrote plain later fault stop same is = absurd is

product_uncut : (fault : Option ProductFault) (stop : Stop) → RefusesProduct fault stop → stop ≢ WriteFault
product_uncut fault (Product row why) is = λ e. cc
product_uncut fault Memory is = λ e. cc
product_uncut fault stop is = absurd is

pub product_refused : (o : Option FileSet) (p : Option (List ℕ)) (product items : List ℕ) (later : Listing → Given → Outcome Moment) (stop : Stop) (n : ℕ)
    → Read o product items → RefusesProduct (product_fault_of (records_of items)) stop
    → WroteSink IsReported (λ g. taking product g.files (λ found. checked_product (product_fault_of (records_of found)) (later (product_of (records_of found)) g))) (Err stop) o p p n n
product_refused o p product items later stop n read is =
    let plain : Given → Outcome Moment = λ (g : Given). taking product g.files (λ found. checked_product (product_fault_of (records_of found)) (later (product_of (records_of found)) g)) in
    let after : Given → Outcome Moment = λ (g : Given). later (product_of (records_of items)) g in
    sink_stopped o p plain stop n (product_uncut (product_fault_of (records_of items)) stop is)
    (where_read o product items (λ g. Ends (plain g) (Err stop)) read
    (λ h whole. let g : Given = record { files = h } in
    product_ends (plain g) (after g) (product_fault_of (records_of items)) stop
    (ap (λ (r : Result (List ℕ) Stop). (followed r (λ found. checked_product (product_fault_of (records_of found)) (later (product_of (records_of found)) g))).end) whole) is))
    (where_read o product items (λ g. Wrote IsReported (plain g) (Err stop) []) read
    (λ h whole. let g : Given = record { files = h } in
    product_wrote (plain g) (after g) (product_fault_of (records_of items)) stop
    (ap (λ (r : Result (List ℕ) Stop). (followed r (λ found. checked_product (product_fault_of (records_of found)) (later (product_of (records_of found)) g))).parts) whole) is))

-- the names behind a file that is whole
pub table_names : (o : Option FileSet) (table rows : List ℕ) (layouts : List Layout) (later : List Layout → Given → Outcome Moment) → layouts ≡ table_of (records_of rows)
    → Read o table rows → fault_of (records_of rows) ≡ None
    → Where o (λ g. (taking table g.files (λ found. checked (fault_of (records_of found)) (later (table_of (records_of found)) g))).names ≡ table ∷ (later layouts g).names)
table_names o table rows layouts later same read valid =
    where_read o table rows
    (λ g. (taking table g.files (λ found. checked (fault_of (records_of found)) (later (table_of (records_of found)) g))).names ≡ table ∷ (later layouts g).names) read
    (λ h whole. let g : Given = record { files = h } in
    ap (λ (r : Result (List ℕ) Stop). table ∷ (followed r (λ found. checked (fault_of (records_of found)) (later (table_of (records_of found)) g))).names) whole
    ∙ ap (λ (f : Option TableFault). table ∷ (checked f (later (table_of (records_of rows)) g)).names) valid
    ∙ ap (λ (l : List Layout). table ∷ (later l g).names) (sym same))

pub product_names : (o : Option FileSet) (product items : List ℕ) (listing : Listing) (later : Listing → Given → Outcome Moment) → listing ≡ product_of (records_of items)
    → Read o product items → product_fault_of (records_of items) ≡ None
    → Where o (λ g. (taking product g.files (λ found. checked_product (product_fault_of (records_of found)) (later (product_of (records_of found)) g))).names ≡ product ∷ (later listing g).names)
product_names o product items listing later same read valid =
    where_read o product items
    (λ g. (taking product g.files (λ found. checked_product (product_fault_of (records_of found)) (later (product_of (records_of found)) g))).names ≡ product ∷ (later listing g).names) read
    (λ h whole. let g : Given = record { files = h } in
    ap (λ (r : Result (List ℕ) Stop). product ∷ (followed r (λ found. checked_product (product_fault_of (records_of found)) (later (product_of (records_of found)) g))).names) whole
    ∙ ap (λ (f : Option ProductFault). product ∷ (checked_product f (later (product_of (records_of items)) g)).names) valid
    ∙ ap (λ (l : Listing). product ∷ (later l g).names) (sym same))

-- a file was taken before those of the rest of the command
begins_more : (name : List ℕ) (names all : List (List ℕ)) → Begins names all → Begins (name ∷ names) (name ∷ all)
begins_more name names all front = (front.0, ap (λ (l : List (List ℕ)). name ∷ l) front.1)

asked_more : (plain next : Outcome Moment) (name : List ℕ) (answer : Status) (xs names : List (List ℕ)) → plain.names ≡ name ∷ next.names → xs ≡ name ∷ []
    → Asked next answer names → Asked plain answer (xs ++ names)
asked_more plain next name answer xs names is one asked =
    subst (λ (l : List (List ℕ)). Asked plain answer (l ++ names)) (sym one) (by_answer answer asked)
  where
    front : Begins names next.names → Begins (name ∷ names) plain.names
    front asked = subst (λ (l : List (List ℕ)). Begins (name ∷ names) l) (sym is) (begins_more name names next.names asked)

    by_answer : (answer : Status) → Asked next answer names → Asked plain answer (name ∷ names)
    by_answer status.ReadFault asked = front asked
    by_answer status.WriteFault asked = front asked
    by_answer status.Memory asked = front asked
    by_answer answer asked = ap (λ (l : List (List ℕ)). name ∷ l) asked ∙ sym is

asked_of_more : (name : List ℕ) (named : List (List ℕ)) (answer : Status) (xs names : List (List ℕ)) → xs ≡ name ∷ [] → AskedOf named answer names
    → AskedOf (name ∷ named) answer (xs ++ names)
asked_of_more name named answer xs names one asked =
    subst (λ (l : List (List ℕ)). AskedOf (name ∷ named) answer (l ++ names)) (sym one) (by_answer answer asked)
  where
    by_answer : (answer : Status) → AskedOf named answer names → AskedOf (name ∷ named) answer (name ∷ names)
    by_answer status.Done asked = ap (λ (l : List (List ℕ)). name ∷ l) asked
    by_answer answer asked = begins_more name names named asked

rose_before : (m n k : ℕ) → m ≤ n → Rose n k → Rose m k
rose_before m n k below rose = omega arith

pub files_more : (o : Option FileSet) (plain next : Given → Outcome Moment) (name : List ℕ) (named : List (List ℕ)) (ended : Ended) (a b c : Option (List (List ℕ))) (m n k : ℕ)
    → Where o (λ g. (plain g).names ≡ name ∷ (next g).names) → Grew a b (λ ns. ns ≡ name ∷ []) → m ≤ n
    → TookFiles next named ended o b c n k → TookFiles plain (name ∷ named) ended o a c m k
files_more o plain next name named ended a b c m n k is one below rest = record {
  took = took_more o is rest.took;
  asked = grew_then a b c (λ ns. ns ≡ name ∷ []) (AskedOf named (status_of ended)) (AskedOf (name ∷ named) (status_of ended)) one rest.asked
      (λ xs ys first later. asked_of_more name named (status_of ended) xs ys first later);
  count = let more : n ≤ k = rest.count in omega arith;
  fault = λ read. rose_before m n k below (rest.fault read);
}
  where
    took_more : (o : Option FileSet) → Where o (λ g. (plain g).names ≡ name ∷ (next g).names) → Where o (λ g. Grew b c (Asked (next g) (status_of ended)))
        → Where o (λ g. Grew a c (Asked (plain g) (status_of ended)))
    took_more None is took = tt
    took_more (Some h) is took =
        let g : Given = record { files = h } in
        grew_then a b c (λ ns. ns ≡ name ∷ []) (Asked (next g) (status_of ended)) (Asked (plain g) (status_of ended)) one took
        (λ xs ys first later. asked_more (plain g) (next g) name (status_of ended) xs ys is first later)

-- What the sink got where a file was read: that of what follows it, when the outcome behind the file is this.
pub sink_behind : (o : Option FileSet) (plain next : Given → Outcome Moment) (ended : Ended) (p q : Option (List ℕ)) (n m : ℕ)
    → Where o (λ g. ((plain g).end ≡ (next g).end) × ((plain g).parts ≡ (next g).parts))
    → WroteSink IsReported next ended o p q n m → WroteSink IsReported plain ended o p q n m
sink_behind o plain next ended p q n m is sink = record { end = ends_behind o is sink.end; wrote = wrote_behind o is sink.wrote; count = sink.count; fault = sink.fault }
  where
    ends_same : (a b : Outcome Moment) (ended : Ended) → a.end ≡ b.end → Ends b ended → Ends a ended
    ends_same a b (Err ReadFault) same ends = tt
    ends_same a b (Err WriteFault) same ends = tt
    ends_same a b (Err NetFault) same ends = tt
    ends_same a b (Err Memory) same ends = tt
    ends_same a b ended same ends = same ∙ ends

    wrote_same : (a b : Outcome Moment) (ended : Ended) (w : List ℕ) → a.parts ≡ b.parts → Wrote IsReported b ended w → Wrote IsReported a ended w
    wrote_same a b (Err WriteFault) w same wrote = subst (λ (l : List (Part Moment)). (lines : _) × Fronts IsReported l lines × Begins w (text_of lines)) (sym same) wrote
    wrote_same a b (Err ReadFault) w same wrote = subst (λ (l : List (Part Moment)). WroteLines IsReported l w) (sym same) wrote
    wrote_same a b (Err NetFault) w same wrote = subst (λ (l : List (Part Moment)). WroteLines IsReported l w) (sym same) wrote
    wrote_same a b (Err Memory) w same wrote = subst (λ (l : List (Part Moment)). WroteLines IsReported l w) (sym same) wrote
    wrote_same a b ended w same wrote = subst (λ (l : List (Part Moment)). (lines : _) × Spelled IsReported l lines × (w ≡ text_of lines)) (sym same) wrote

    ends_behind : (o : Option FileSet) → Where o (λ g. ((plain g).end ≡ (next g).end) × ((plain g).parts ≡ (next g).parts)) → Where o (λ g. Ends (next g) ended)
        → Where o (λ g. Ends (plain g) ended)
    ends_behind None is ends = tt
    ends_behind (Some h) is ends = let g : Given = record { files = h } in ends_same (plain g) (next g) ended is.0 ends

    wrote_behind : (o : Option FileSet) → Where o (λ g. ((plain g).end ≡ (next g).end) × ((plain g).parts ≡ (next g).parts))
        → Where o (λ g. Grew p q (Wrote IsReported (next g) ended)) → Where o (λ g. Grew p q (Wrote IsReported (plain g) ended))
    wrote_behind None is wrote = tt
    wrote_behind (Some h) is wrote =
        let g : Given = record { files = h } in
        grew_as p q (Wrote IsReported (next g) ended) (Wrote IsReported (plain g) ended) wrote (λ w one. wrote_same (plain g) (next g) ended w is.1 one)

-- behind a table that is whole
pub sink_behind_table : (o : Option FileSet) (table rows : List ℕ) (layouts : List Layout) (later : List Layout → Given → Outcome Moment) (ended : Ended) (p q : Option (List ℕ)) (n m : ℕ)
    → layouts ≡ table_of (records_of rows) → Read o table rows → fault_of (records_of rows) ≡ None → WroteSink IsReported (later layouts) ended o p q n m
    → WroteSink IsReported (λ g. taking table g.files (λ found. checked (fault_of (records_of found)) (later (table_of (records_of found)) g))) ended o p q n m
sink_behind_table o table rows layouts later ended p q n m same read valid sink =
    sink_behind o plain (later layouts) ended p q n m
    (where_read o table rows (λ g. ((plain g).end ≡ (later layouts g).end) × ((plain g).parts ≡ (later layouts g).parts)) read
    (λ h whole. (behind (λ (x : Outcome Moment). x.end) (record { files = h }) whole, behind (λ (x : Outcome Moment). x.parts) (record { files = h }) whole))) sink
  where
    plain : Given → Outcome Moment
    plain g = taking table g.files (λ found. checked (fault_of (records_of found)) (later (table_of (records_of found)) g))

    behind : {B : Type 0} (field : Outcome Moment → B) (g : Given) → fetched table g.files ≡ Ok rows
        → field (followed (fetched table g.files) (λ found. checked (fault_of (records_of found)) (later (table_of (records_of found)) g))) ≡ field (later layouts g)
    behind field g whole =
        ap (λ (r : Result (List ℕ) Stop). field (followed r (λ found. checked (fault_of (records_of found)) (later (table_of (records_of found)) g)))) whole
        ∙ ap (λ (f : Option TableFault). field (checked f (later (table_of (records_of rows)) g))) valid
        ∙ ap (λ (l : List Layout). field (later l g)) (sym same)

-- behind a product file that is whole
pub sink_behind_product : (o : Option FileSet) (product items : List ℕ) (listing : Listing) (later : Listing → Given → Outcome Moment) (ended : Ended) (p q : Option (List ℕ)) (n m : ℕ)
    → listing ≡ product_of (records_of items) → Read o product items → product_fault_of (records_of items) ≡ None → WroteSink IsReported (later listing) ended o p q n m
    → WroteSink IsReported (λ g. taking product g.files (λ found. checked_product (product_fault_of (records_of found)) (later (product_of (records_of found)) g))) ended o p q n m
sink_behind_product o product items listing later ended p q n m same read valid sink =
    sink_behind o plain (later listing) ended p q n m
    (where_read o product items (λ g. ((plain g).end ≡ (later listing g).end) × ((plain g).parts ≡ (later listing g).parts)) read
    (λ h whole. (behind (λ (x : Outcome Moment). x.end) (record { files = h }) whole, behind (λ (x : Outcome Moment). x.parts) (record { files = h }) whole))) sink
  where
    plain : Given → Outcome Moment
    plain g = taking product g.files (λ found. checked_product (product_fault_of (records_of found)) (later (product_of (records_of found)) g))

    behind : {B : Type 0} (field : Outcome Moment → B) (g : Given) → fetched product g.files ≡ Ok items
        → field (followed (fetched product g.files) (λ found. checked_product (product_fault_of (records_of found)) (later (product_of (records_of found)) g))) ≡ field (later listing g)
    behind field g whole =
        ap (λ (r : Result (List ℕ) Stop). field (followed r (λ found. checked_product (product_fault_of (records_of found)) (later (product_of (records_of found)) g)))) whole
        ∙ ap (λ (f : Option ProductFault). field (checked_product f (later (product_of (records_of items)) g))) valid
        ∙ ap (λ (l : Listing). field (later l g)) (sym same)

-- What the sink got where the outcome is the same whatever the files hold.
pub sink_plain : (o : Option FileSet) (plain : Outcome Moment) (ended : Ended) (p q : Option (List ℕ)) (n m : ℕ) → Ends plain ended → Grew p q (Wrote IsReported plain ended)
    → n ≤ m → (ended ≡ Err WriteFault → Rose n m) → WroteSink IsReported (λ g. plain) ended o p q n m
sink_plain o plain ended p q n m ends wrote below fault = record { end = held o (Ends plain ended) ends; wrote = held o (Grew p q (Wrote IsReported plain ended)) wrote; count = below; fault = fault }
  where
    held : (o : Option FileSet) (P : Type 0) → P → Where o (λ g. P)
    held None P p = tt
    held (Some h) P p = p

none_asked : (answer : Status) → AskedOf [] answer []
none_asked status.Done = refl
none_asked answer = ([], refl)

-- a command that asks for no file
pub files_none : (o : Option FileSet) (a : Option (List (List ℕ))) (plain : Given → Outcome Moment) (ended : Ended) (n : ℕ) → ((g : Given) → (plain g).names ≡ []) → ended ≢ Err ReadFault
    → TookFiles plain [] ended o a a n n
files_none o a plain ended n none read = record {
  took = took_none o a plain (status_of ended) none;
  asked = grew_nothing a (AskedOf [] (status_of ended)) (none_asked (status_of ended));
  count = omega arith;
  fault = λ is. absurd (read is);
}
