use Rattle.rv_chain.proofs.SourcesLemmas.{have_one_fault}
use Rattle.rv_chain.proofs.law.sources_have_one_fault.Goals as goal

pub returns : goal.returns
returns c = have_one_fault (record {
  one_reading = c.one_reading.ensures;
  one_fault = c.one_fault.ensures;
  not_both = c.not_both.ensures;
  shown = c.names_are_shown.ensures;
  one_assembled = c.one_object_of_statements.ensures;
  never_long = c.objects_are_not_too_long.ensures;
  once = c.statements_have_one_fault.ensures;
}) (record {
  one_linked = c.one_program.ensures;
  for_memory = c.refused_has_no_program.ensures;
  for_one = c.refused_for_one_reason.ensures;
  placed = c.objects_keep_it.ensures.rows;
  even = c.objects_keep_it.ensures.runs;
})
