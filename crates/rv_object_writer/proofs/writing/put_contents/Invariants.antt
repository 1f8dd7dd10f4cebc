use Rattle.std.proofs.Common.{◌≡◌, ◌++◌, length, map, drop}
use Rattle.rv_object_file_laws.specs.Written.{contents_from}
use Rattle.rv_object_writer.specs.Pieces.{piece_of}
use Rattle.rv_object_writer.proofs.writing.put_contents.Given as goal

abbrev pub invariant-loop-piece : goal.invariant-loop-piece
invariant-loop-piece l =
    l.out ++ contents_from (length l.out) (map piece_of (drop l.piece-index l.pieces))
    ≡ l.fn.out ++ contents_from (length l.fn.out) (map piece_of l.pieces)
