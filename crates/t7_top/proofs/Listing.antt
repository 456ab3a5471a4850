-- The text of a layout table is the lines of its templates.
use Rattle.std.proofs.Common.{◌≡◌, ◌≤◌, ℕ, List, [], ◌∷◌, ◌++◌, Option, None, Some, Result, Ok, Err, IfOk, IfErr, OnOk, length, map, refl, sym, ◌∙◌, ap, subst, append_assoc}
use Rattle.std.specs.Fmt.{decimal}
use Rattle.t7_base.specs.Outside.{Begins, Grew, Rose}
use Rattle.t7_base.proofs.Grown.{grew_as, grew_nothing}
use Rattle.t7_layout.specs.Faults.{fault_of}
use Rattle.t7_layout.specs.Tables.{table_of}
use Rattle.t7_layout.specs.declared.words.TableFault.{TableFault}
use Rattle.t7_layout.specs.Layouts.{Layout}
use Rattle.t7_layout.specs.Rows.{family_text}
use Rattle.t7_layout.specs.Texts.{line_of, table_text}
use Rattle.t7_outcome.specs.declared.ending.Finish.{Finish}
use Rattle.t7_outcome.specs.declared.ending.Finish.TheVariants.{End}
use Rattle.t7_outcome.specs.declared.ending.Stop.{Stop}
use Rattle.t7_outcome.specs.declared.ending.Stop.TheVariants.{WriteFault, Memory}
use Rattle.t7_outcome.specs.Ending.{Ended}
use Rattle.t7_outcome.specs.Outcome.{Ends, Given, FileSet, Outcome, Wrote, asking, followed, says, text_of}
use Rattle.t7_outcome.specs.Performing.{WroteSink}
use Rattle.t7_outcome.specs.Steps.{OfPrint}
use Rattle.t7_outcome.proofs.Lines.{fronts_all, spelled_says}
use Rattle.t7_records.specs.Records.{records_of}
use Rattle.t7_top.specs.Moments.{Moment, IsReported}
use Rattle.t7_top.specs.Check.{check_run, check_lines, template_line}
use Rattle.t7_top.specs.Refusals.{checked}
use Rattle.t7_top.proofs.Reading.{Read, none_written, where_read}

pieces : (f i n z e : List ℕ) → f ++ 32 ∷ i ++ 32 ∷ n ++ 32 ∷ z ++ e ≡ (f ++ 32 ∷ [] ++ i ++ 32 ∷ [] ++ n ++ 32 ∷ [] ++ z) ++ e
pieces f i n z e = simp append_assoc refl

line_is : (t : Layout) → line_of t ≡ template_line t ++ 10 ∷ []
unfolding line_of
line_is t = pieces (family_text t.family) (decimal t.id) t.name (decimal t.size) (10 ∷ [])

listing_text : (layouts : List Layout) → table_text layouts ≡ text_of (map template_line layouts)
unfolding table_text
listing_text [] = refl
listing_text (t ∷ layouts) =
    ap (λ (l : List ℕ). l ++ table_text layouts) (line_is t) ∙ ap (λ (l : List ℕ). (template_line t ++ 10 ∷ []) ++ l) (listing_text layouts)

-- What `check` comes to where the table was read and is valid.
listed_is : (table rows : List ℕ) (layouts : List Layout) (g : Given) (found : Result (List ℕ) Stop) → layouts ≡ table_of (records_of rows) → fault_of (records_of rows) ≡ None → found ≡ Ok rows
    → asking table (followed found (λ bytes. checked (fault_of (records_of bytes)) (check_lines (table_of (records_of bytes)))))
    ≡ asking table (check_lines layouts)
listed_is table rows layouts g found same valid whole =
    ap (λ (r : Result (List ℕ) Stop). asking table
    (followed r (λ bytes. checked (fault_of (records_of bytes)) (check_lines (table_of (records_of bytes)))))) whole
    ∙ ap (λ (f : Option TableFault). asking table (checked f (check_lines (table_of (records_of rows))))) valid
    ∙ ap (λ (l : List Layout). asking table (check_lines l)) (sym same)

-- What the sink got of `check` behind a valid table, by what the printing says.
module _ (o : Option FileSet) (p q : Option (List ℕ)) (table rows : List ℕ) (layouts : List Layout) (n m : ℕ) where
  sink_listed : (ended : Ended) → layouts ≡ table_of (records_of rows) → Read o table rows → fault_of (records_of rows) ≡ None
      → Ends (asking table (check_lines layouts)) ended → Grew p q (Wrote IsReported (asking table (check_lines layouts)) ended) → n ≤ m → (ended ≡ Err WriteFault → Rose n m)
      → WroteSink IsReported (check_run table) ended o p q n m
  sink_listed ended same read valid ends wrote below fault = record {
    end = where_read o table rows (λ g. Ends (check_run table g) ended) read
        (λ h whole. subst (λ (x : Outcome Moment). Ends x ended) (sym (listed_is table rows layouts (record { files = h }) _ same valid whole)) ends);
    wrote = where_read o table rows (λ g. Grew p q (Wrote IsReported (check_run table g) ended)) read
        (λ h whole. subst (λ (x : Outcome Moment). Grew p q (Wrote IsReported x ended)) (sym (listed_is table rows layouts (record { files = h }) _ same valid whole)) wrote);
    count = below;
    fault = fault;
  }

  listed_ends : (ended : Ended) → IfOk ended (λ finish. finish ≡ End (length layouts)) → IfErr ended OfPrint → Ends (asking table (check_lines layouts)) ended
  listed_ends (Ok finish) is of = ap (λ (f : Finish). let ended : Ended = Ok f in Some ended) (sym is)
  listed_ends (Err WriteFault) is of = tt
  listed_ends (Err Memory) is of = tt
  listed_ends (Err stop) is of = absurd of

  listed_wrote : (ended : Ended) → OnOk ended (Grew p q (λ w. w ≡ table_text layouts)) → (ended ≡ Err WriteFault → Grew p q (λ w. Begins w (table_text layouts)))
      → (ended ≡ Err Memory → q ≡ p) → IfErr ended OfPrint → Grew p q (Wrote IsReported (asking table (check_lines layouts)) ended)
  listed_wrote (Ok finish) whole cut nothing of =
      grew_as p q (λ w. w ≡ table_text layouts) (Wrote IsReported (asking table (check_lines layouts)) (Ok finish)) whole
      (λ w is. (map template_line layouts, spelled_says IsReported (map template_line layouts), is ∙ listing_text layouts))
  listed_wrote (Err WriteFault) whole cut nothing of =
      grew_as p q (λ w. Begins w (table_text layouts)) (Wrote IsReported (asking table (check_lines layouts)) (Err WriteFault)) (cut refl)
      (λ w front. (
        map template_line layouts,
        fronts_all IsReported (says (map template_line layouts)) (map template_line layouts) (spelled_says IsReported (map template_line layouts)),
        subst (λ (l : List ℕ). Begins w l) (listing_text layouts) front,
      ))
  listed_wrote (Err Memory) whole cut nothing of =
      subst (λ (r : Option (List ℕ)). Grew p r (Wrote IsReported (asking table (check_lines layouts)) (Err Memory))) (sym (nothing refl))
      (grew_nothing p (Wrote IsReported (asking table (check_lines layouts)) (Err Memory)) (none_written (asking table (check_lines layouts))))
  listed_wrote (Err stop) whole cut nothing of = absurd of

  pub listed_sink : (ended : Ended) → layouts ≡ table_of (records_of rows) → Read o table rows → fault_of (records_of rows) ≡ None
      → IfOk ended (λ finish. finish ≡ End (length layouts)) → OnOk ended (Grew p q (λ w. w ≡ table_text layouts))
      → (ended ≡ Err WriteFault → Grew p q (λ w. Begins w (table_text layouts))) → (ended ≡ Err Memory → q ≡ p) → IfErr ended OfPrint → n ≤ m
      → (ended ≡ Err WriteFault → Rose n m) → WroteSink IsReported (check_run table) ended o p q n m
  listed_sink ended same read valid finish whole cut nothing of below rose =
      sink_listed ended same read valid (listed_ends ended finish of) (listed_wrote ended whole cut nothing of) below rose
