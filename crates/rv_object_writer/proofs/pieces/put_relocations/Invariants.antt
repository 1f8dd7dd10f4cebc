use Rattle.std.proofs.Common.{◌≡◌, ◌++◌, map, drop}
use Rattle.rv_object_writer.specs.Pieces.{piece_of, rela_piece}
use Rattle.rv_object_writer.proofs.pieces.put_relocations.Given as goal

abbrev pub invariant-loop-table : goal.invariant-loop-table
invariant-loop-table l =
    map piece_of l.pieces.items ++ map (rela_piece l.symtab) (drop l.table-index l.tables)
    ≡ map piece_of l.fn.pieces.items ++ map (rela_piece l.symtab) l.tables
