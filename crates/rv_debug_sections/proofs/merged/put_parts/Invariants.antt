use Rattle.std.proofs.Common.{◌≡◌, ◌++◌, length, take, drop, map}
use Rattle.std.specs.Prelude.{option_map}
use Rattle.rv_debug_laws.specs.Carried.{merged_part_of, with_parts}
use Rattle.rv_debug_sections.specs.Views.{all_merged, plain_part, plain_source}
use Rattle.rv_debug_sections.proofs.merged.put_parts.Given as goal

abbrev pub invariant-loop-index : goal.invariant-loop-index
invariant-loop-index l =
    let parts = map plain_part l.source.parts.now in
    record {
      same_length : length l.merged.items ≡ length l.initial.merged.items;
      left : drop l.index l.merged.items ≡ drop l.index l.initial.merged.items;
      grown : with_parts (plain_source l.source) parts (all_merged l.initial.merged.items)
          ≡ option_map (λ others. all_merged (take l.index l.merged.items) ++ others)
          (with_parts (plain_source l.source) (drop l.index parts) (all_merged (drop l.index l.merged.items)));
    }
