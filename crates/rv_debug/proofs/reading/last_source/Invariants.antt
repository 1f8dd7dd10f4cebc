use Rattle.std.proofs.Common.{◌≡◌, None, map, drop}
use Rattle.std.specs.Option.{option_copied}
use Rattle.rv_object_types.specs.Sections.{section_of}
use Rattle.rv_debug_laws.specs.SourceNames.{last_source}
use Rattle.rv_debug.proofs.reading.last_source.Given as goal

-- the last of the rest, behind the one found
abbrev pub invariant-loop-section : goal.invariant-loop-section
invariant-loop-section l =
    last_source (option_copied l.found) (map section_of (drop l.section-index l.sections)) ≡ last_source None (map section_of l.sections)
