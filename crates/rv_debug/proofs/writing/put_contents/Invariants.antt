use Rattle.std.proofs.Common.{◌≡◌, ◌++◌, drop, map}
use Rattle.rv_debug.specs.Views.{piece_bytes, piece_of}
use Rattle.rv_debug.proofs.writing.put_contents.Given as goal

abbrev pub invariant-loop-piece : goal.invariant-loop-piece
invariant-loop-piece l = l.out ++ piece_bytes (map piece_of (drop l.piece-index l.pieces)) ≡ l.initial.out ++ piece_bytes (map piece_of l.pieces)
