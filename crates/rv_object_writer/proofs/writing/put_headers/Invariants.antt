use Rattle.std.proofs.Common.{◌≡◌, ◌++◌, ℕ, List, map, drop}
use Rattle.std.specs.Prelude.{flat_map}
use Rattle.rv_elf_laws.specs.Fields.{file_header_size}
use Rattle.rv_elf_laws.specs.Records.{section_header_bytes}
use Rattle.rv_object_file_laws.specs.Written.{strings_of, headers_from, headers_offset}
use Rattle.rv_object_writer.specs.Pieces.{piece_of}
use Rattle.rv_object_writer.specs.Strings.{IsStringTable}
use Rattle.rv_object_writer.proofs.writing.put_headers.Given as goal

abbrev pub invariant-loop-piece : goal.invariant-loop-piece
invariant-loop-piece l = record {
  written : (ns : List (List ℕ)) → IsStringTable (strings_of ns) l.names
      → l.out ++ flat_map section_header_bytes (headers_from ns l.at (map piece_of (drop l.piece-index l.pieces)))
      ≡ l.fn.out ++ flat_map section_header_bytes (headers_from ns file_header_size (map piece_of l.pieces));
  end : headers_offset l.at (map piece_of (drop l.piece-index l.pieces)) ≡ headers_offset file_header_size (map piece_of l.pieces);
}
