use Rattle.std.proofs.Common.{◌≡◌, ◌++◌, ℕ, suc, map, drop, take, All}
use Rattle.std.specs.List.{AllByRecursion}
use Rattle.rv_object_types.specs.Sections.{section_of}
use Rattle.rv_object_file_laws.specs.Known.{IsRelocation}
use Rattle.rv_object_file_laws.specs.Written.{rela_pieces}
use Rattle.rv_object_writer.specs.Pieces.{rela_piece}
use Rattle.rv_object_writer.proofs.tables.rela_tables.Given as goal

abbrev pub invariant-loop-i : goal.invariant-loop-i
invariant-loop-i l =
    ((symtab : ℕ) → map (rela_piece symtab) l.tables.items ++ rela_pieces symtab (suc l.i) (map section_of (drop l.i l.sections))
    ≡ rela_pieces symtab 1 (map section_of l.sections))
    × All (λ s. AllByRecursion IsRelocation (section_of s).relocations) (take l.i l.sections)
