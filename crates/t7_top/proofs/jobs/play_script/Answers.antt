use Rattle.std.proofs.Common.{rules, ◌≡◌, Err, arith}
use Rattle.t7_outcome.specs.Ending.{status_of}
use Rattle.t7_outcome.proofs.Taking.{sink_missed}
use Rattle.t7_top.specs.Jobs.{script_played, terms_of}
use Rattle.t7_top.specs.Moments.{IsReported}
use Rattle.t7_top.proofs.Reading.{Read}
use Rattle.t7_top.proofs.Replaying.{script_sink, script_took}
use Rattle.t7_top.proofs.jobs.play_script.Goals as goal

pub returns-in_err-fetch-clause-sink : goal.returns-in_err-fetch-clause-sink
returns-in_err-fetch-clause-sink g c =
    let is : c.from_residual.result ≡ Err c.in_err-fetch.field-0.0 = search rules in
    rw is (sink_missed IsReported _ _ c.args.script.now (λ given. script_played (terms_of c.args.table.now c.args.product.now))
    c.in_err-fetch.field-0.0 _ c.in_err-fetch.ensures.no_other (λ long. search rules))

pub returns-clause-files : goal.returns-clause-files
returns-clause-files g c = record {
  took = script_took _ _ _ (terms_of c.args.table.now c.args.product.now) c.args.script.now _ (status_of c.play.result) c.in_ok-fetch.ensures.ok c.fetch.ensures.asked;
  asked = search rules;
  count = omega arith;
  fault = search rules;
}

pub returns-clause-sink : goal.returns-clause-sink
returns-clause-sink g c =
    let is : c.deref.result.now ≡ c.fetch.new.into.items = search rules in
    let read : Read (g.F.Files.held c.args.files.now) c.args.script.now c.deref.result.now = rw is c.in_ok-fetch.ensures.ok in
    script_sink _ _ _ (terms_of c.args.table.now c.args.product.now) c.args.script.now c.deref.result.now c.play.result _ _ read
    c.play.ensures.end c.play.ensures.written c.play.ensures.count c.play.ensures.write_fault
