use Rattle.t7_eobi.proofs.SayingFacts.{public_done, public_says}
use Rattle.t7_eobi.proofs.write.write_public.Goals as goal

pub returns-clause-length : goal.returns-clause-length
returns-clause-length c = (public_done c.args.table.now c.args.number c.args.message.now c.put_public.result c.args.out.now c.put_public.new.out c.templates-templates.ensures.table c.requires.number c.put_public.ensures.ranged c.put_public.ensures.size c.requires.room c.put_public.ensures.same_length c.put_public.ensures.said).length_is

pub returns-clause-some : goal.returns-clause-some
returns-clause-some c = (public_done c.args.table.now c.args.number c.args.message.now c.put_public.result c.args.out.now c.put_public.new.out c.templates-templates.ensures.table c.requires.number c.put_public.ensures.ranged c.put_public.ensures.size c.requires.room c.put_public.ensures.same_length c.put_public.ensures.said).some

pub returns-clause-short : goal.returns-clause-short
returns-clause-short c = (public_done c.args.table.now c.args.number c.args.message.now c.put_public.result c.args.out.now c.put_public.new.out c.templates-templates.ensures.table c.requires.number c.put_public.ensures.ranged c.put_public.ensures.size c.requires.room c.put_public.ensures.same_length c.put_public.ensures.said).short

pub returns-clause-bytes : goal.returns-clause-bytes
returns-clause-bytes c = (public_done c.args.table.now c.args.number c.args.message.now c.put_public.result c.args.out.now c.put_public.new.out c.templates-templates.ensures.table c.requires.number c.put_public.ensures.ranged c.put_public.ensures.size c.requires.room c.put_public.ensures.same_length c.put_public.ensures.said).bytes

pub returns-clause-says : goal.returns-clause-says
returns-clause-says c = public_says c.args.table.now c.args.number c.args.message.now c.templates-templates.ensures.table c.requires.number c.put_public.ensures.ranged
