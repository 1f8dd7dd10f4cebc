use Rattle.std.proofs.Common.{◌≡◌, ◌+◌, ◌<◌, ◌^◌, length, drop}
use Rattle.rv_debug_laws.specs.CarriedFile.{merged_contents, merged_names, with_headers}
use Rattle.rv_debug_sections.specs.Views.{all_merged}
use Rattle.rv_debug_sections.proofs.headers.put_headers.Given as goal

abbrev pub invariant-loop-section : goal.invariant-loop-section
invariant-loop-section l =
    let left = all_merged (drop l.section-index l.merged) in
    record {
      headers : with_headers l.first l.first_name (all_merged l.merged) l.initial.headers.items ≡ with_headers l.place l.name left l.headers.items;
      contents : l.place + length (merged_contents left) < 2 ^ 64;
      names : l.name + length (merged_names left) < 2 ^ 32;
    }
