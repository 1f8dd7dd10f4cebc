-- What is left so far, with what comes, is all that is left.
use Rattle.std.proofs.Common.{◌≡◌, ◌++◌, map, drop}
use Rattle.rv_object_types.specs.Sections.{section_of}
use Rattle.rv_link_laws.specs.Without.{without_sections}
use Rattle.rv_collect.specs.Drops.{drops_in}
use Rattle.rv_collect.proofs.left.left_sections.Given as goal

abbrev pub invariant-loop-index : goal.invariant-loop-index
invariant-loop-index l =
    map section_of l.left.items ++ without_sections (drops_in (map section_of l.sections) l.marks) l.index (map section_of (drop l.index l.sections))
    ≡ without_sections (drops_in (map section_of l.sections) l.marks) 0 (map section_of l.sections)
