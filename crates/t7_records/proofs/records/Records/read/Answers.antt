use Rattle.std.proofs.Common.{Bor, List, ℕ, ◌≡◌, ◌∙◌, sym, refl, rules, inl, inr, true, map, Some, ◌∷◌, [], length, ◌+◌, arith}
use Rattle.std.specs.Result.{is_ok}
use Rattle.std.proofs.lemmas.List.{map-append}
use Rattle.csv.specs.Reading.{Reached, default_config, strip_bom}
use Rattle.csv.specs.Records.{fields_of}
use Rattle.csv.specs.declared.parser.State.TheVariants as st
use Rattle.csv.proofs.ReadFacts.{rows-end, rows-more}
use Rattle.t7_records.specs.Records.{records_of}
use Rattle.t7_records.proofs.ReadFacts.{are_records}
use Rattle.t7_records.proofs.records.Records.read.Goals as goal

pub loop-row-init : goal.loop-row-init
unfolding Reached
loop-row-init c =
    let fr = c.from_reader-rdr.ensures in
    let h = c.has_headers.ensures in
    let f = c.flexible.ensures in
    let start = c.into_iter-row-iterator.ensures.into_iter_gives ∙ refl in
    let rdr = c.into_byte_records-row-items.ensures.rdr in
    let left = c.into_byte_records-row-items.ensures.left in
    rw (start, rdr, c.new-rows.ensures.items) (record {
      untrimmed = rw (f, h) at fr.trim ∙ c.new.ensures.trim;
      ready = inr (inr (rw (f, h) at fr.has_headers, fr.headers));
      left = left;
      config = rw (f, h) at fr.config ∙ c.new.ensures.config;
      flexible = rw f at fr.flexible;
      so_far = (strip_bom c.args.bytes.now, fr.source, (sym fr.state, refl));
    })

pub loop-row-preserved : goal.loop-row-preserved
loop-row-preserved c =
    let inv = c.loop-row.invariant in
    let step = rw (c.in-Some.is, c.in-Ok.is) at (c.next.ensures.steps inv.left inv.untrimmed) in
    let s = step.0 inv.ready in
    let good : is_ok c.push.result ≡ true = search rules in
    let items = rw good at c.push.ensures.items in
    let so_far = inv.so_far in
    let m = rows-more (λ (s : Bor (List ℕ)). Some s.now) c.loop-row.row-iterator.rdr c.next.new.self.rdr (fields_of c.in-Ok.row) default_config st.StartRecord (strip_bom c.args.bytes.now) so_far.0 (map fields_of c.loop-row.rows.items) inv.config so_far.1 so_far.2 s.0 in
    record {
      untrimmed = s.0.3 ∙ inv.untrimmed;
      ready = inl s.1;
      left = s.2;
      config = s.0.2 ∙ inv.config;
      flexible = step.3 ∙ inv.flexible;
      so_far = (m.0, m.1, rw (items, map-append fields_of c.loop-row.rows.items (c.in-Ok.row ∷ [])) m.2);
    }

pub returns : goal.returns
unfolding records_of
returns c =
    let inv = c.loop-row.invariant in
    let s = rw c.in-None.is at ((c.next.ensures.steps inv.left inv.untrimmed).0 inv.ready) in
    are_records default_config (length (strip_bom c.args.bytes.now) + 1) st.StartRecord (strip_bom c.args.bytes.now) (map fields_of c.loop-row.rows.items) refl (omega arith)
    (c.loop-row.row-iterator.rdr.state, inv.so_far.0, inv.so_far.2, rows-end (λ (s : Bor (List ℕ)). Some s.now) c.loop-row.row-iterator.rdr c.next.new.self.rdr [] default_config inv.so_far.0 inv.config inv.so_far.1 s)
