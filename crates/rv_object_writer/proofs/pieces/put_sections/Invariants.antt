use Rattle.std.proofs.Common.{◌≡◌, ◌++◌, ◌<◌, ◌^◌, map, drop, take, All}
use Rattle.rv_object_laws.specs.Object.{size_of}
use Rattle.rv_object_types.specs.Sections.{section_of}
use Rattle.rv_object_file_laws.specs.Written.{section_piece}
use Rattle.rv_object_writer.specs.Pieces.{piece_of}
use Rattle.rv_object_writer.proofs.pieces.put_sections.Given as goal

abbrev pub invariant-loop-section : goal.invariant-loop-section
invariant-loop-section l =
    (map piece_of l.pieces.items ++ map section_piece (map section_of (drop l.section-index l.sections))
    ≡ map piece_of l.fn.pieces.items ++ map section_piece (map section_of l.sections))
    × All (λ s. size_of (section_of s).contents < 2 ^ 64) (take l.section-index l.sections)
