use Rattle.std.proofs.Common.{◌≡◌, ◌+◌, ◌++◌, ◌∙◌, [], ◌∷◌, map, codes, ap}
use Rattle.std.proofs.lemmas.List.{map_push}
use Rattle.rv_elf_laws.specs.Fields.{symbol_size}
use Rattle.rv_elf_laws.specs.Numbers.{sht_strtab, sht_symtab}
use Rattle.rv_object_laws.specs.Object.{Object}
use Rattle.rv_object_types.specs.Parts.{symbol_of}
use Rattle.rv_object_types.specs.Sections.{section_of}
use Rattle.rv_object_types.specs.View.{object_of}
use Rattle.rv_object_file_laws.specs.Written.{section_piece, table_piece, row_pieces, symtab_index, rela_pieces, locals}
use Rattle.rv_object_writer.specs.Pieces.{piece_of, rela_piece}
use Rattle.rv_object_writer.proofs.StepsLemmas.{five}
use Rattle.rv_object_writer.proofs.pieces.first_pieces.Goals as goal

pub returns-clause-pieces : goal.returns-clause-pieces
returns-clause-pieces c =
    let o : Object = object_of c.args.object.now in
    let has = c.requires.tables in
    let sections : map piece_of c.put_sections.new.pieces.items ≡ map section_piece o.sections =
    c.in_ok-put_sections.ensures.added ∙ ap (λ l. map piece_of l ++ map section_piece (map section_of c.as_slice.result.now)) c.new-pieces.ensures.items
    ∙ ap (λ l. map section_piece (map section_of l)) c.as_slice.ensures.value in
    let relas : map (rela_piece c.args.tables.now.symtab) c.as_slice-2.result.now ≡ rela_pieces (symtab_index o) 1 o.sections =
    ap (map (rela_piece c.args.tables.now.symtab)) c.as_slice-2.ensures.value ∙ has.pieces ∙ ap (λ n. rela_pieces n 1 o.sections) has.index in
    let symtab : piece_of c.symbols_section.result ≡ table_piece (codes ".symtab") sht_symtab c.args.tables.now.symbols.items (symtab_index o + 1) (1 + locals o.symbols) 8 symbol_size =
    c.symbols_section.ensures ∙ (λ i. table_piece (codes ".symtab") sht_symtab (c.as_slice-5.ensures.value i) (has.index i + 1)
    (1 + (c.from-locals.ensures ∙ c.locals.ensures.count ∙ ap (λ l. locals (map symbol_of l)) c.as_slice-4.ensures.value) i) 8 symbol_size) in
    let strtab = c.table.ensures ∙ ap (λ l. table_piece (codes ".strtab") sht_strtab l 0 0 1 0) (c.as_slice-6.ensures.value ∙ has.all_names) in
    five _ _ _ _ _ sections (c.in_ok-put_relocations.ensures ∙ ap (λ l. map piece_of c.put_sections.new.pieces.items ++ l) relas) (c.in_ok-put_rows.ensures ∙ ap (λ l. map piece_of c.put_relocations.new.pieces.items ++ row_pieces l) c.as_slice-3.ensures.value)
    (ap (map piece_of) c.in_ok-push.ensures.items ∙ map_push piece_of c.put_rows.new.pieces.items c.symbols_section.result
    ∙ ap (λ p. map piece_of c.put_rows.new.pieces.items ++ p ∷ []) (symtab ∙ ap (λ l. table_piece (codes ".symtab") sht_symtab l (symtab_index o + 1) (1 + locals o.symbols) 8 symbol_size) has.all_symbols))
    (ap (map piece_of) c.in_ok-push-2.ensures.items ∙ map_push piece_of c.push.new.self.items c.table.result
    ∙ ap (λ p. map piece_of c.push.new.self.items ++ p ∷ []) strtab)
