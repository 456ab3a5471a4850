use Rattle.t7_eobi.proofs.SayingFacts.{snap_done, snap_says}
use Rattle.t7_eobi.proofs.write.write_snap.Goals as goal

pub returns-clause-length : goal.returns-clause-length
returns-clause-length c = (snap_done c.args.table.now c.args.snap.now c.put_snap.result c.args.out.now c.put_snap.new.out c.templates-templates.ensures.table c.put_snap.ensures.ranged c.put_snap.ensures.size c.requires.room c.put_snap.ensures.same_length c.put_snap.ensures.said).length_is

pub returns-clause-some : goal.returns-clause-some
returns-clause-some c = (snap_done c.args.table.now c.args.snap.now c.put_snap.result c.args.out.now c.put_snap.new.out c.templates-templates.ensures.table c.put_snap.ensures.ranged c.put_snap.ensures.size c.requires.room c.put_snap.ensures.same_length c.put_snap.ensures.said).some

pub returns-clause-short : goal.returns-clause-short
returns-clause-short c = (snap_done c.args.table.now c.args.snap.now c.put_snap.result c.args.out.now c.put_snap.new.out c.templates-templates.ensures.table c.put_snap.ensures.ranged c.put_snap.ensures.size c.requires.room c.put_snap.ensures.same_length c.put_snap.ensures.said).short

pub returns-clause-bytes : goal.returns-clause-bytes
returns-clause-bytes c = (snap_done c.args.table.now c.args.snap.now c.put_snap.result c.args.out.now c.put_snap.new.out c.templates-templates.ensures.table c.put_snap.ensures.ranged c.put_snap.ensures.size c.requires.room c.put_snap.ensures.same_length c.put_snap.ensures.said).bytes

pub returns-clause-says : goal.returns-clause-says
returns-clause-says c = snap_says c.args.table.now c.args.snap.now c.templates-templates.ensures.table c.put_snap.ensures.ranged
