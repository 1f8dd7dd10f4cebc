use Rattle.std.proofs.Common.{rules, []}
use Rattle.rv_object_writer.proofs.strings.StringTable.new.Goals as goal

pub returns : goal.returns
returns c = c.in_ok-put.ensures [] (record {
  all = c.new.ensures.items;
  found = λ name. search rules;
})
