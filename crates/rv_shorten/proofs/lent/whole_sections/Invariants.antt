use Rattle.std.proofs.Common.{◌≡◌, ◌++◌, map, drop}
use Rattle.rv_object_types.specs.Sections.{section_of}
use Rattle.rv_shorten.specs.Sections.{moves_in_all, short_section_of, whole_section_of}
use Rattle.rv_cut_laws.proofs.UncutLemmas.{none_in}
use Rattle.rv_shorten.proofs.lent.whole_sections.Given as goal

abbrev pub invariant-loop-section : goal.invariant-loop-section
invariant-loop-section l =
    record {
      whole : map whole_section_of l.left.items ++ map section_of (drop l.section-index l.sections) ≡ map section_of l.sections;
      same : map short_section_of l.left.items ++ map section_of (drop l.section-index l.sections) ≡ map section_of l.sections;
      none : moves_in_all l.left.items ++ none_in (drop l.section-index l.sections) ≡ none_in l.sections;
    }
