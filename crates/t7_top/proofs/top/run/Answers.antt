use Rattle.std.proofs.Common.{rules, ◌≡◌, ◌≢◌, Err, map, string_bytes}
use Rattle.t7_outcome.specs.declared.ending.Status.TheVariants as status
use Rattle.t7_outcome.specs.declared.ending.Stop.TheVariants.{WriteFault}
use Rattle.t7_outcome.proofs.Closing.{told_asked}
use Rattle.t7_top.specs.Network.{no_intake}
use Rattle.t7_top.specs.Outcomes.{outcome_of}
use Rattle.t7_top.specs.Words.{command_of}
use Rattle.t7_top.proofs.Performing.{answered, printed, printed_cut}
use Rattle.t7_top.proofs.Whole.{told_complete}
use Rattle.t7_top.proofs.top.run.Goals as goal

pub returns-then-eq-clause-answer : goal.returns-then-eq-clause-answer
returns-then-eq-clause-answer g c =
    answered (command_of (map string_bytes c.args.words.now)) _ _ c.perform-ended.result _ _ _ _ _ c.perform-ended.ensures.sink status.WriteFault tt

pub returns-then-eq-clause-headline : goal.returns-then-eq-clause-headline
returns-then-eq-clause-headline g c =
    let is : c.perform-ended.result ≡ Err WriteFault = search rules in
    printed_cut (command_of (map string_bytes c.args.words.now)) _ _ c.perform-ended.result _ _ _ _ _ c.perform-ended.ensures.sink is

pub returns-clause-answer : goal.returns-clause-answer
returns-clause-answer g c =
    answered (command_of (map string_bytes c.args.words.now)) _ _ c.perform-ended.result _ _ _ _ _ c.perform-ended.ensures.sink c.close.result c.close.ensures.answer

pub returns-clause-headline : goal.returns-clause-headline
returns-clause-headline g c =
    let uncut : c.perform-ended.result ≢ Err WriteFault = search rules in
    printed (command_of (map string_bytes c.args.words.now)) _ _ c.perform-ended.result _ _ _ _ _ c.perform-ended.ensures.sink _ c.close.result uncut
    c.close.ensures.written c.close.ensures.answer

pub returns-clause-took : goal.returns-clause-took
returns-clause-took g c =
    told_asked _ _ _ (outcome_of (command_of (map string_bytes c.args.words.now)) no_intake) c.perform-ended.result c.close.result
    c.close.ensures.answer c.perform-ended.ensures.files.took

pub returns-clause-network : goal.returns-clause-network
returns-clause-network g c =
    (c.perform-ended.result, c.close.ensures.answer, c.perform-ended.ensures.network, c.perform-ended.ensures.sent)

pub returns-clause-complete : goal.returns-clause-complete
returns-clause-complete g c =
    let answers = answered (command_of (map string_bytes c.args.words.now)) _ _ c.perform-ended.result _ _ _ _ _ c.perform-ended.ensures.sink c.close.result
    c.close.ensures.answer in
    told_complete _ (command_of (map string_bytes c.args.words.now)) _ _ c.close.result _ _ _ _ _ _ _ _ answers (search rules) (search rules) (search rules)
