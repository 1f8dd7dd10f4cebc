use Rattle.rv_chain.proofs.FilesLemmas.{have_one_fault}
use Rattle.rv_chain.proofs.law.files_have_one_fault.Goals as goal

pub returns : goal.returns
returns c = have_one_fault c.one_object.ensures (record {
  one_linked = c.one_program.ensures;
  for_memory = c.refused_has_no_program.ensures;
  for_one = c.refused_for_one_reason.ensures;
  placed = c.objects_keep_it.ensures.rows;
  even = c.objects_keep_it.ensures.runs;
})
