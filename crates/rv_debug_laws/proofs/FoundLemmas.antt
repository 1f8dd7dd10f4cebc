-- A reader finds in a file with debug information what was written.

use Rattle.std.proofs.Common.{◌≡◌, ◌∙◌, ℕ, ◌+◌, ◌<◌, ◌≤◌, ◌^◌, List, [], ◌++◌, length, take, drop, map, replicate, flat_map, Some, refl, ap, sym, subst, append-nil, arith}
use Rattle.std.specs.List.{AllByRecursion}
use Rattle.std.proofs.lemmas.List.{length-append}
use Rattle.rv_elf_laws.specs.ReadBack.{FitsSectionHeader}
use Rattle.rv_elf_laws.specs.Records.{section_header_bytes}
use Rattle.rv_elf_laws.specs.Sections.{indexed_contents, names_section, section_headers, string_at, symbols_in}
use Rattle.rv_map_laws.specs.Map.{Map}
use Rattle.rv_debug_laws.specs.declared.line_row.SourceFile.{SourceFile}
use Rattle.rv_debug_laws.specs.DebugFile.{HasDebug, IsDebugFile, line_tables, source_tables}
use Rattle.rv_debug_laws.specs.File.{UnloadedPiece, all_headers, file_with, gap_behind, pieces_of, section_names, section_strings, table_place}
use Rattle.rv_debug_laws.specs.Symbols.{Names, named_symbol, name_strings, string_table, symbol_table}
use Rattle.rv_debug_laws.specs.Units.{abbreviations}
use Rattle.rv_debug_laws.proofs.GrownLemmas.{shstrndx_is}
use Rattle.rv_debug_laws.proofs.ImageLemmas.{is_long, same_image, same_soundness}
use Rattle.rv_debug_laws.proofs.LinesLemmas.{tables_added}
use Rattle.rv_debug_laws.proofs.SectionsLemmas.{FitsPiece, found, headed, headers_are, headers_fit, region_fits, room, stand}
use Rattle.rv_debug_laws.proofs.SymbolsLemmas.{few_names, length-table, symbols_found}

-- the headers' names are the sections'
names_read : (exe : List ℕ) (m : Map) (names : Names) (directory : List ℕ) (sources : List SourceFile) (file : List ℕ)
    (h : IsDebugFile exe m names directory sources file) →
    map (λ x. string_at section_strings x.sh_name)
    (all_headers exe m h.at (pieces_of (length names.labels) (symbol_table m names) (string_table names) h.debug))
    ≡ map (λ name. Some name) section_names
names_read exe m names directory sources file h = refl

module _ (exe : List ℕ) (m : Map) (names : Names) (directory : List ℕ) (sources : List SourceFile) (file : List ℕ)
    (h : IsDebugFile exe m names directory sources file) where
  abbrev pieces : List UnloadedPiece
  pieces = pieces_of (length names.labels) (symbol_table m names) (string_table names) h.debug

  abbrev whole : List ℕ
  whole = file_with exe m h.at (pieces_of (length names.labels) (symbol_table m names) (string_table names) h.debug)

  abbrev behind : List ℕ
  behind = replicate (gap_behind exe) 0
      ++ (flat_map section_header_bytes (all_headers exe m h.at pieces) ++ flat_map (λ (p : UnloadedPiece). p.bytes) pieces)

  long : 64 ≤ length exe
  long = is_long exe h.opens

  small : table_place exe < 2 ^ 40
  small = let short = h.fits.executable in omega (arith, short)

  few : 1 + length names.labels < 2 ^ 32
  few =
      let short = h.fits.strings in
      omega (arith, short, few_names names.labels, length-append (name_strings names.labels) (name_strings names.globals))

  plain : (name kind : ℕ) (bytes : List ℕ) → name < 2 ^ 32 → kind < 2 ^ 32 →
      FitsPiece (record { name = name; kind = kind; link = 0; info = 0; alignment = 1; entry_size = 0; bytes = bytes })
  plain name kind bytes a b = record {
    name = a;
    kind = b;
    link = omega arith;
    info = omega arith;
    alignment = omega arith;
    entry_size = omega arith;
  }

  pieces_fit : AllByRecursion FitsPiece pieces
  pieces_fit = (
    record {
      name = omega arith;
      kind = omega arith;
      link = omega arith;
      info = few;
      alignment = omega arith;
      entry_size = omega arith;
    },
    (
      plain 34 3 (string_table names) (omega arith) (omega arith),
      (
        plain 42 3 section_strings (omega arith) (omega arith),
        (
          plain 52 1 h.debug.lines (omega arith) (omega arith),
          (
            plain 64 1 h.debug.info (omega arith) (omega arith),
            (plain 76 1 abbreviations (omega arith) (omega arith), (plain 90 1 h.debug.ranges (omega arith) (omega arith), tt)),
          ),
        ),
      ),
    ),
  )

  fits : AllByRecursion FitsSectionHeader (all_headers exe m h.at pieces)
  fits =
      let symbols = length-table m names h.fits.strings in
      let strings = h.fits.strings in
      let lines = h.fits.lines in
      let info = h.fits.info in
      let ranges = h.fits.ranges in
      let start = small in (
        record {
          sh_name = omega arith;
          sh_type = omega arith;
          sh_flags = omega arith;
          sh_addr = omega arith;
          sh_offset = omega arith;
          sh_size = omega arith;
          sh_link = omega arith;
          sh_info = omega arith;
          sh_addralign = omega arith;
          sh_entsize = omega arith;
        },
        (
          region_fits 1 1 6 h.at.text m.text (omega arith) (omega arith) (omega arith) h.fits.text.1 h.fits.text.0,
          (
            region_fits 7 1 2 h.at.rodata m.rodata (omega arith) (omega arith) (omega arith) h.fits.rodata.1 h.fits.rodata.0,
            (
              region_fits 15 1 3 h.at.data m.data (omega arith) (omega arith) (omega arith) h.fits.data.1 h.fits.data.0,
              (
                region_fits 21 8 3 0 m.bss (omega arith) (omega arith) (omega arith) (omega arith) h.fits.bss,
                headers_fit (table_place exe + 768) pieces pieces_fit (omega (arith, symbols, strings, lines, info, ranges, start)),
              ),
            ),
          ),
        ),
      )

  low : table_place exe < 2 ^ 64
  low = omega (arith, small)

  called : indexed_contents whole (names_section whole) ≡ section_strings
  called =
      ap (indexed_contents whole) (shstrndx_is exe behind (table_place exe) 12 7 long (omega arith))
      ∙ found whole 7 _ _ (headed exe m h.at pieces long low refl fits).1.1.1.1.1.1.1.0 refl (stand exe m h.at pieces long low refl fits).1.1.0

  symbols : indexed_contents whole 5 ≡ symbol_table m names
  symbols = found whole 5 _ _ (headed exe m h.at pieces long low refl fits).1.1.1.1.1.0 refl (stand exe m h.at pieces long low refl fits).0

  strings : indexed_contents whole 6 ≡ string_table names
  strings = found whole 6 _ _ (headed exe m h.at pieces long low refl fits).1.1.1.1.1.1.0 refl (stand exe m h.at pieces long low refl fits).1.0

  lines : indexed_contents whole 8 ≡ h.debug.lines
  lines = found whole 8 _ _ (headed exe m h.at pieces long low refl fits).1.1.1.1.1.1.1.1.0 refl (stand exe m h.at pieces long low refl fits).1.1.1.0

  info : indexed_contents whole 9 ≡ h.debug.info
  info = found whole 9 _ _ (headed exe m h.at pieces long low refl fits).1.1.1.1.1.1.1.1.1.0 refl (stand exe m h.at pieces long low refl fits).1.1.1.1.0

  abbrevs : indexed_contents whole 10 ≡ abbreviations
  abbrevs = found whole 10 _ _ (headed exe m h.at pieces long low refl fits).1.1.1.1.1.1.1.1.1.1.0 refl (stand exe m h.at pieces long low refl fits).1.1.1.1.1.0

  ranges : indexed_contents whole 11 ≡ h.debug.ranges
  ranges = found whole 11 _ _ (headed exe m h.at pieces long low refl fits).1.1.1.1.1.1.1.1.1.1.1.0 refl (stand exe m h.at pieces long low refl fits).1.1.1.1.1.1.0

  tables : line_tables (length (source_tables m 1 sources)) (indexed_contents whole 8) ≡ source_tables m 1 sources
  tables =
      let added = tables_added m directory 1 sources (record { lines = []; info = []; ranges = [] }) h.debug h.units in
      ap (line_tables (length (source_tables m 1 sources))) (lines ∙ added.written ∙ sym (append-nil added.added)) ∙ added.tables []

  found_there : HasDebug exe m names directory sources whole
  found_there =
      let inside : table_place exe + 768 ≤ length whole = room exe m h.at pieces long low refl fits in
      let headers : section_headers whole ≡ all_headers exe m h.at pieces = headers_are exe m h.at pieces long low refl fits in
      record {
        behind = behind;
        front = refl;
        sound = same_soundness exe behind (table_place exe) 12 7 h.opens h.grows low (omega arith) (omega arith) (omega arith) inside;
        image = same_image exe behind (table_place exe) 12 7 h.opens h.grows low (omega arith) (omega arith) (omega arith) inside;
        called = (λ i. map (λ x. string_at (called i) x.sh_name) (headers i)) ∙ names_read exe m names directory sources file h;
        at = h.at;
        stored = h.stored;
        loaded = ap (take 5) headers;
        symbols = (λ i. map (named_symbol (strings i)) (drop 1 (symbols_in (symbols i)))) ∙ symbols_found m names h.fits.strings h.fits.labelled h.fits.globals;
        tables = tables;
        debug = h.debug;
        units = h.units;
        lines = lines;
        info = info;
        abbrevs = abbrevs;
        ranges = ranges;
      }

  pub debug_found : HasDebug exe m names directory sources file
  debug_found = subst (λ f. HasDebug exe m names directory sources f) (sym h.is) found_there
