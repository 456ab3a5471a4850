use Rattle.std.proofs.Common.{◌≡◌, refl, ap, reverse, []}
use Rattle.t7_feed.specs.Arrivals.{Terms}
use Rattle.t7_follow.specs.Clauses.{OfFollow}
use Rattle.t7_gather.specs.Clauses.{OfGather}
use Rattle.t7_serve.specs.Clauses.{OfServe}
use Rattle.t7_top.specs.Jobs.{started, terms_of}
use Rattle.t7_top.specs.Meaning.{feeds_meant, job_meant}
use Rattle.t7_top.specs.Network.{no_intake}
use Rattle.t7_top.specs.Words as words
use Rattle.t7_top.proofs.Following.{followed_names}
use Rattle.t7_top.proofs.Performing.{job_files, no_read}
use Rattle.t7_top.proofs.Reading.{files_none}
use Rattle.t7_top.proofs.Working.{exchange_sent, exchange_sink, follower_sink, gatherer_sent, gatherer_sink}
use Rattle.t7_top.proofs.jobs.work.Goals as goal

pub returns-in-Exchange-clause-files : goal.returns-in-Exchange-clause-files
returns-in-Exchange-clause-files g c =
    let terms : Terms = terms_of c.args.table.now c.args.product.now in
    let job : words.Job = words.Exchange c.in-Exchange.listen.now (feeds_meant c.in-Exchange.feeds) c.in-Exchange.count in
    let is : job_meant c.args.job.now ≡ job = ap job_meant c.in-Exchange.is in
    job_files _ job is terms c.serve.result _ _ _ _ _
    (files_none _ _ (started terms job no_intake) c.serve.result _ (λ given. refl) (no_read OfServe c.serve.result (λ none. none) c.serve.ensures.only))

pub returns-in-Exchange-clause-sink : goal.returns-in-Exchange-clause-sink
returns-in-Exchange-clause-sink g c =
    let terms : Terms = terms_of c.args.table.now c.args.product.now in
    let feeds : words.Feeds = feeds_meant c.in-Exchange.feeds in
    let job : words.Job = words.Exchange c.in-Exchange.listen.now feeds c.in-Exchange.count in
    let is : job_meant c.args.job.now ≡ job = ap job_meant c.in-Exchange.is in
    exchange_sink _ terms c.serve.result _ _ _ c.in-Exchange.listen.now feeds c.in-Exchange.count _ _ is c.serve.ensures.end c.serve.ensures.only

pub returns-in-Exchange-clause-sent : goal.returns-in-Exchange-clause-sent
returns-in-Exchange-clause-sent g c =
    let terms : Terms = terms_of c.args.table.now c.args.product.now in
    let feeds : words.Feeds = feeds_meant c.in-Exchange.feeds in
    let job : words.Job = words.Exchange c.in-Exchange.listen.now feeds c.in-Exchange.count in
    let is : job_meant c.args.job.now ≡ job = ap job_meant c.in-Exchange.is in
    exchange_sent _ terms c.serve.result (g.F.Files.held c.args.files.now) _ _ c.in-Exchange.listen.now feeds c.in-Exchange.count is
    c.serve.ensures.sent c.serve.ensures.cast

pub returns-in-Member-clause-files : goal.returns-in-Member-clause-files
returns-in-Member-clause-files g c =
    let terms : Terms = terms_of c.args.table.now c.args.product.now in
    let job : words.Job = words.Member (feeds_meant c.in-Member.feeds) c.in-Member.count in
    let is : job_meant c.args.job.now ≡ job = ap job_meant c.in-Member.is in
    job_files _ job is terms c.follow.result _ _ _ _ _
    (files_none _ _ (started terms job no_intake) c.follow.result _ (λ given. followed_names terms c.in-Member.count (reverse []))
    (no_read OfFollow c.follow.result (λ none. none) c.follow.ensures.only))

pub returns-in-Member-clause-sink : goal.returns-in-Member-clause-sink
returns-in-Member-clause-sink g c =
    let terms : Terms = terms_of c.args.table.now c.args.product.now in
    let feeds : words.Feeds = feeds_meant c.in-Member.feeds in
    let job : words.Job = words.Member feeds c.in-Member.count in
    let is : job_meant c.args.job.now ≡ job = ap job_meant c.in-Member.is in
    follower_sink _ terms c.follow.result _ _ _ feeds c.in-Member.count _ _ _ _ is c.follow.ensures.end c.follow.ensures.written
    c.follow.ensures.sink_count c.follow.ensures.write_fault

pub returns-in-Gather-clause-files : goal.returns-in-Gather-clause-files
returns-in-Gather-clause-files g c =
    let terms : Terms = terms_of c.args.table.now c.args.product.now in
    let job : words.Job = words.Gather c.in-Gather.address.now c.in-Gather.session c.in-Gather.count in
    let is : job_meant c.args.job.now ≡ job = ap job_meant c.in-Gather.is in
    job_files _ job is terms c.gather.result _ _ _ _ _
    (files_none _ _ (started terms job no_intake) c.gather.result _ (λ given. refl) (no_read OfGather c.gather.result (λ none. none) c.gather.ensures.only))

pub returns-in-Gather-clause-sink : goal.returns-in-Gather-clause-sink
returns-in-Gather-clause-sink g c =
    let terms : Terms = terms_of c.args.table.now c.args.product.now in
    let job : words.Job = words.Gather c.in-Gather.address.now c.in-Gather.session c.in-Gather.count in
    let is : job_meant c.args.job.now ≡ job = ap job_meant c.in-Gather.is in
    gatherer_sink _ terms c.gather.result _ _ _ c.in-Gather.address.now c.in-Gather.session c.in-Gather.count _ _ is c.gather.ensures.undialed _ _
    c.gather.ensures.sink_count c.gather.ensures.write_fault c.gather.ensures.end c.gather.ensures.written

pub returns-in-Gather-clause-sent : goal.returns-in-Gather-clause-sent
returns-in-Gather-clause-sent g c =
    let terms : Terms = terms_of c.args.table.now c.args.product.now in
    let job : words.Job = words.Gather c.in-Gather.address.now c.in-Gather.session c.in-Gather.count in
    let is : job_meant c.args.job.now ≡ job = ap job_meant c.in-Gather.is in
    gatherer_sent _ terms c.gather.result (g.F.Files.held c.args.files.now) _ _ c.in-Gather.address.now c.in-Gather.session c.in-Gather.count
    (g.S.Sink.written c.args.sink.now) (g.S.Sink.written c.gather.new.sink) is c.gather.ensures.undialed c.gather.ensures.taken c.gather.ensures.sent
