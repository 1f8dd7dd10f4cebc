use Rattle.rv_chain.proofs.AgreedLemmas.{agreed}
use Rattle.rv_chain.proofs.law.builds_as_it_links.Goals as goal

pub returns : goal.returns
returns c = agreed (record {
  sources = record {
    one_reading = c.one_reading.ensures;
    one_fault = c.one_fault.ensures;
    not_both = c.not_both.ensures;
    shown = c.names_are_shown.ensures;
    one_assembled = c.one_object_of_statements.ensures;
    never_long = c.objects_are_not_too_long.ensures;
    once = c.statements_have_one_fault.ensures;
  };
  linking = record {
    one_linked = c.one_program.ensures;
    for_memory = c.refused_has_no_program.ensures;
    for_one = c.refused_for_one_reason.ensures;
    placed = c.objects_keep_it.ensures.rows;
    even = c.objects_keep_it.ensures.runs;
  };
  filed = c.objects_have_files.ensures;
  sound = c.written_object_is_read.ensures.fault;
  held = c.written_object_is_read.ensures.object;
  one_held = c.one_object.ensures;
})
