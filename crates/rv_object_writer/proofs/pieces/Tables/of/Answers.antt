use Rattle.std.proofs.Common.{◌≡◌, ◌+◌, ◌∙◌, ◌++◌, replicate, ap, map, flat_map, subst, List}
use Rattle.std.specs.List.{AllByRecursion}
use Rattle.rv_elf_laws.specs.Fields.{symbol_size}
use Rattle.rv_elf_laws.specs.Records.{symbol_bytes}
use Rattle.rv_object_laws.specs.Object.{Object, Symbol}
use Rattle.rv_object_types.specs.Parts.{symbol_of}
use Rattle.rv_object_types.specs.Sections.{section_of}
use Rattle.rv_object_types.specs.View.{object_of}
use Rattle.rv_object_types.specs.declared.section.Section.{Section as DeclaredSection}
use Rattle.rv_object_types.specs.declared.symbol.Symbol.{Symbol as DeclaredSymbol}
use Rattle.rv_object_file_laws.specs.Known.{IsRelocation, IsSymbol}
use Rattle.rv_object_file_laws.specs.Written.{rela_pieces, symbol_names, strings_of, symbol_record, symbols_bytes, last_index}
use Rattle.rv_object_writer.specs.Strings.{IsStringTable}
use Rattle.rv_object_writer.proofs.pieces.Tables.of.Goals as goal

pub returns-clause-tables : goal.returns-clause-tables
returns-clause-tables c =
    let o : Object = object_of c.args.object.now in
    let symtab = c.symtab_index-symtab.result in
    let names = c.in_ok-names.names in
    let table : IsStringTable (strings_of (symbol_names o)) names =
    subst (λ (l : List DeclaredSymbol). IsStringTable (strings_of (map (λ (s : Symbol). s.name) (map symbol_of l))) names) c.as_slice-3.ensures.value c.in_ok-names.ensures in
    let last : symtab + 2 ≡ last_index o = ap (λ n. n + 2) c.symtab_index-symtab.ensures.at in
    record {
      index = c.symtab_index-symtab.ensures.at;
      pieces = c.in_ok-relocations.ensures.tables symtab ∙ ap (λ l. rela_pieces symtab 1 (map section_of l)) c.as_slice.ensures.value;
      all_symbols =
          c.in_ok-symbols.ensures.written (symbol_names o) table
          ∙ ap (λ l. replicate symbol_size 0 ++ flat_map (λ (s : Symbol). symbol_bytes (symbol_record (symbol_names o) (symtab + 2) s)) (map symbol_of l)) c.as_slice-4.ensures.value
          ∙ ap (λ n. symbols_bytes n o) last;
      all_names = c.into_bytes.ensures (strings_of (symbol_names o)) table;
    }

pub returns-clause-known : goal.returns-clause-known
returns-clause-known c = record {
  fields = subst (λ (l : List DeclaredSection). AllByRecursion (λ s. AllByRecursion IsRelocation s.relocations) (map section_of l)) c.as_slice.ensures.value
      c.in_ok-relocations.ensures.known;
  all_symbols = subst (λ (l : List DeclaredSymbol). AllByRecursion IsSymbol (map symbol_of l)) c.as_slice-4.ensures.value c.in_ok-symbols.ensures.known;
}
