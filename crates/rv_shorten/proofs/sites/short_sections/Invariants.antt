use Rattle.std.proofs.Common.{◌≡◌, ◌+◌, ◌≤◌, ◌++◌, length, map, drop}
use Rattle.rv_object_types.specs.Sections.{section_of}
use Rattle.rv_cut_laws.specs.Cutting.{AllCut, cut_sections}
use Rattle.rv_shorten.specs.Sections.{moves_in_all, short_section_of, whole_section_of}
use Rattle.rv_cut_laws.specs.Walk.{object_moves, passed_all}
use Rattle.rv_shorten.proofs.sites.short_sections.Given as goal

abbrev pub invariant-loop-section : goal.invariant-loop-section
invariant-loop-section l =
    let ss = map section_of (drop l.section-index l.sections) in
    let rest = object_moves ss (drop l.at l.sites) (drop l.at l.kept) in
    let all = object_moves (map section_of l.sections) l.sites l.kept in
    record {
      whole : map whole_section_of l.left.items ++ ss ≡ map section_of l.sections;
      made : moves_in_all l.left.items ++ rest ≡ all;
      left : map short_section_of l.left.items ++ cut_sections rest ss ≡ cut_sections all (map section_of l.sections);
      cuts : AllCut ss rest;
      passed : l.at + passed_all ss (drop l.at l.sites) ≡ passed_all (map section_of l.sections) l.sites;
      low : l.at ≤ length l.sites;
    }
