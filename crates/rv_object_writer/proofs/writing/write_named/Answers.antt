use Rattle.std.proofs.Common.{◌≡◌, ◌+◌, ◌++◌, ◌∷◌, [], ◌∙◌, List, ℕ, ap, map, flat_map, replicate, codes}
use Rattle.rv_elf_laws.specs.Fields.{file_header_size, section_header_size}
use Rattle.rv_elf_laws.specs.Numbers.{sht_strtab}
use Rattle.rv_elf_laws.specs.Records.{file_header_bytes, section_header_bytes}
use Rattle.rv_object_laws.specs.Object.{Object}
use Rattle.rv_object_types.specs.View.{object_of}
use Rattle.rv_object_file_laws.specs.Written.{contents_from, headers_from, strings_of, last_index, first_pieces, table_piece, section_names, pieces as file_pieces}
use Rattle.rv_object_writer.specs.Pieces.{piece_of, header_by}
use Rattle.rv_object_writer.proofs.writing.write_named.Goals as goal

pub returns : goal.returns
returns c =
    let o : Object = object_of c.args.object.now in
    let ns : List (List ℕ) = section_names o in
    let last : c.args.tables.now.symtab + 2 ≡ last_index o = ap (λ n. n + 2) c.requires.tables.index in
    let ps : map piece_of c.as_slice.result.now ≡ file_pieces o =
    ap (map piece_of) c.as_slice.ensures.value ∙ c.in_ok-pieces.ensures
    ∙ ap (λ b. first_pieces o ++ table_piece (codes ".shstrtab") sht_strtab b 0 0 1 0 ∷ []) (c.bytes-strings.ensures (strings_of ns) c.requires.names) in
    c.in_ok-file.ensures ns c.requires.names
    ∙ (λ i. file_header_bytes (header_by o.rvc (last i) (ps i))
    ++ (contents_from file_header_size (ps i)
    ++ (replicate section_header_size 0 ++ flat_map section_header_bytes (headers_from ns file_header_size (ps i)))))
