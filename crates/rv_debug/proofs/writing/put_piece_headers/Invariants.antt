use Rattle.std.proofs.Common.{◌≡◌, ◌+◌, ◌<◌, ◌^◌, ◌++◌, length, drop, flat_map, map}
use Rattle.rv_elf_laws.specs.Records.{section_header_bytes}
use Rattle.rv_debug_laws.specs.File.{headers_from}
use Rattle.rv_debug.specs.Views.{piece_bytes, piece_of}
use Rattle.rv_debug.proofs.writing.put_piece_headers.Given as goal

abbrev pub invariant-loop-piece : goal.invariant-loop-piece
invariant-loop-piece l = record {
  written : l.out ++ flat_map section_header_bytes (headers_from l.place (map piece_of (drop l.piece-index l.pieces)))
      ≡ l.initial.out ++ flat_map section_header_bytes (headers_from l.first (map piece_of l.pieces));
  room : l.place + length (piece_bytes (map piece_of (drop l.piece-index l.pieces))) < 2 ^ 64;
}
