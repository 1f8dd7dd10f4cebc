use Rattle.std.proofs.Common.{◌≡◌, map, take, ◌≤◌, length}
use Rattle.rv_pseudo.specs.Templates as is
use Rattle.rv_pseudo.proofs.template.all_plain.Given as goal

abbrev pub invariant-loop-inst : goal.invariant-loop-inst
invariant-loop-inst l = record {
  made : l.templates.items ≡ map is.plain (take l.inst-index l.inst-items);
  count : length l.templates.items ≡ l.inst-index;
  few : length l.inst-items ≤ 8;
  all : l.inst-items ≡ l.fn.sequence.items;
}
