use Rattle.std.proofs.Common.{◌≡◌, IsTrue, [], map, take, length}
use Rattle.std.specs.List.{list_all}
use Rattle.rv_statement.specs.View.{statement_of}
use Rattle.rv_statement.specs.Records.{recorded, has_its_part, has_its_whole}
use Rattle.rv_statement.proofs.statements.whole_records.Given as goal

-- the records so far say the first statements
abbrev pub invariant-loop-index : goal.invariant-loop-index
invariant-loop-index l = record {
  said : map (recorded [] l.whole) l.records.items ≡ take l.index (map statement_of l.whole);
  inside : IsTrue (list_all (has_its_part 0) l.records.items);
  kept : IsTrue (list_all (has_its_whole (length l.whole)) l.records.items);
  each : length l.records.items ≡ l.index;
}
