-- The parts of a file, one after another.

use Rattle.std.proofs.Common.{◌≡◌, ◌∙◌, ℕ, ◌+◌, ◌*◌, ◌<◌, ◌^◌, true, List, [], ◌∷◌, ◌++◌, length, take, drop, map, flat_map, replicate, None, refl, ap, sym, append_assoc, arith}
use Rattle.std.proofs.lemmas.Grind.{flat_map-append}
use Rattle.std.proofs.lemmas.List.{length-append, length-map}
use Rattle.rv_list_laws.proofs.ElementsLemmas.{append_some_more}
use Rattle.rv_elf_laws.specs.Fields.{bytes_of, e_shoff, e_shentsize, e_shnum, e_shstrndx}
use Rattle.rv_elf_laws.specs.FirstFault.{first_true, open_tests}
use Rattle.rv_elf_laws.specs.declared.section_header.SectionHeader.{SectionHeader}
use Rattle.rv_elf_laws.specs.Records.{section_header_bytes}
use Rattle.rv_map_laws.specs.Limits.{AreRegions}
use Rattle.rv_map_laws.specs.Map.{Map}
use Rattle.rv_debug_laws.specs.declared.line_row.SourceFile.{SourceFile}
use Rattle.rv_debug_laws.specs.DebugFile.{AreStored, IsDebugFile}
use Rattle.rv_debug_laws.specs.File.{Places, UnloadedPiece, all_headers, file_with, gap_behind, headers_from, loaded_headers, null_header, piece_header, pieces_of, section_strings, table_place, with_table}
use Rattle.rv_debug_laws.specs.Stored.{can_grow}
use Rattle.rv_debug_laws.specs.Symbols.{KnownName, Names, name_strings, string_table}
use Rattle.rv_debug_laws.proofs.SymbolsLemmas.{few_names}
use Rattle.rv_labels.specs.declared.known.KnownName.{KnownName as DeclaredName}
use Rattle.rv_labels.specs.Known.{known_of as name_view}
use Rattle.rv_debug.specs.declared.piece.Piece.{Piece as DeclaredPiece}
use Rattle.rv_debug.specs.declared.writing.StoredPlaces.{StoredPlaces}
use Rattle.rv_debug.specs.declared.writing.Tables.{Tables}
use Rattle.rv_debug_laws.specs.Units.{abbreviations}
use Rattle.rv_debug.specs.Views.{AreBounded, AreShort, AreTables, piece_bytes, debug_of, front_with, piece_of, places_of}

-- the executable with its new header
pub front_joined : (exe : List ℕ) → front_with exe (table_place exe) ++ drop 64 exe ≡ with_table exe
front_joined exe =
    let last : List ℕ = bytes_of e_shentsize 64 ++ (bytes_of e_shnum 12 ++ bytes_of e_shstrndx 7) in
    append_assoc (take 40 exe) (bytes_of e_shoff (table_place exe) ++ (take 10 (drop 48 exe) ++ last)) (drop 64 exe)
    ∙ ap (λ l. take 40 exe ++ (bytes_of e_shoff (table_place exe) ++ l)) (append_assoc (take 10 (drop 48 exe)) last (drop 64 exe))

pub wrote_executable : (exe old i1 i2 i3 rest : List ℕ) (table gap : ℕ) → table ≡ table_place exe → rest ≡ drop 64 exe →
    i1 ≡ old ++ front_with exe table → i2 ≡ i1 ++ rest → i3 ≡ i2 ++ replicate gap 0 →
    i3 ≡ old ++ (with_table exe ++ replicate gap 0)
wrote_executable exe old i1 i2 i3 rest table gap at behind one two three =
    let front : i2 ≡ old ++ with_table exe =
    two ∙ ap (λ l. i1 ++ l) behind ∙ ap (λ l. l ++ drop 64 exe) (one ∙ ap (λ n. old ++ front_with exe n) at)
    ∙ append_assoc old (front_with exe (table_place exe)) (drop 64 exe) ∙ ap (λ l. old ++ l) (front_joined exe) in
    three ∙ ap (λ l. l ++ replicate gap 0) front ∙ append_assoc old (with_table exe) (replicate gap 0)

-- all section headers
pub wrote_headers : (exe : List ℕ) (m : Map) (at : Places) (pieces : List UnloadedPiece) (old i1 i2 : List ℕ) (place : ℕ) →
    place ≡ table_place exe + 64 * 12 →
    i1 ≡ old ++ flat_map section_header_bytes (null_header ∷ loaded_headers m at) →
    i2 ≡ i1 ++ flat_map section_header_bytes (headers_from place pieces) →
    i2 ≡ old ++ flat_map section_header_bytes (all_headers exe m at pieces)
wrote_headers exe m at pieces old i1 i2 place is one two =
    let front : List SectionHeader = null_header ∷ loaded_headers m at in
    let behind : List SectionHeader = headers_from (table_place exe + 64 * 12) pieces in
    two ∙ ap (λ n. i1 ++ flat_map section_header_bytes (headers_from n pieces)) is
    ∙ ap (λ l. l ++ flat_map section_header_bytes behind) one
    ∙ append_assoc old (flat_map section_header_bytes front) (flat_map section_header_bytes behind)
    ∙ ap (λ l. old ++ l) (sym (flat_map-append section_header_bytes front behind))

-- the parts one after another
pub wrote_parts : (exe : List ℕ) (m : Map) (at : Places) (pieces : List UnloadedPiece) (old i1 i2 i3 : List ℕ) →
    i1 ≡ old ++ (with_table exe ++ replicate (gap_behind exe) 0) →
    i2 ≡ i1 ++ flat_map section_header_bytes (all_headers exe m at pieces) →
    i3 ≡ i2 ++ piece_bytes pieces →
    i3 ≡ old ++ file_with exe m at pieces
wrote_parts exe m at pieces old i1 i2 i3 one two three =
    let W : List ℕ = with_table exe in
    let Z : List ℕ = replicate (gap_behind exe) 0 in
    let H : List ℕ = flat_map section_header_bytes (all_headers exe m at pieces) in
    let B : List ℕ = piece_bytes pieces in
    three ∙ ap (λ l. l ++ B) (two ∙ ap (λ l. l ++ H) one)
    ∙ append_assoc (old ++ (W ++ Z)) H B ∙ append_assoc old (W ++ Z) (H ++ B) ∙ ap (λ l. old ++ l) (append_assoc W Z (H ++ B))

-- the contents of sections are short
seven : (a b c d e f g : List ℕ) →
    length (a ++ (b ++ (c ++ (d ++ (e ++ (f ++ (g ++ []))))))) ≡ length a + (length b + (length c + (length d + (length e + (length f + length g)))))
seven a b c d e f g =
    omega (
      arith,
      length-append a (b ++ (c ++ (d ++ (e ++ (f ++ (g ++ [])))))),
      length-append b (c ++ (d ++ (e ++ (f ++ (g ++ []))))),
      length-append c (d ++ (e ++ (f ++ (g ++ [])))),
      length-append d (e ++ (f ++ (g ++ []))),
      length-append e (f ++ (g ++ [])),
      length-append f (g ++ []),
      length-append g [],
    )

pub pieces_fit : (t : Tables) (pieces : List UnloadedPiece) → AreShort t →
    pieces ≡ pieces_of t.locals t.symbols.items t.strings.items (debug_of t.debug) → length (piece_bytes pieces) < 2 ^ 63
pieces_fit t pieces short is =
    let S : List ℕ = t.symbols.items in
    let N : List ℕ = t.strings.items in
    let d = t.debug in
    let sum = seven S N section_strings d.lines.items d.info.items abbreviations d.ranges.items in
    let names : length section_strings ≡ 105 = refl in
    let forms : length abbreviations ≡ 18 = refl in
    let whole : length (piece_bytes pieces)
    ≡ length (S ++ (N ++ (section_strings ++ (d.lines.items ++ (d.info.items ++ (abbreviations ++ (d.ranges.items ++ []))))))) =
    ap (λ ps. length (piece_bytes ps)) is in
    let symbols = short.symbols in
    let strings = short.strings in
    let lines = short.lines in
    let info = short.info in
    let ranges = short.ranges in
    omega (arith, whole, sum, names, forms, symbols, strings, lines, info, ranges)

-- numbers of 64 bits
pub known_of : (m : Map) (at : Places) → AreRegions m → at.text < 2 ^ 64 → at.rodata < 2 ^ 64 → at.data < 2 ^ 64 → AreBounded m at
known_of m at (text, rodata, variables, zeros) first second third = record {
  text = (text, first);
  rodata = (rodata, second);
  «data» = (variables, third);
  bss = zeros;
}

-- a section's contents more
pub contents_more : (out new whole : List ℕ) (ps : List DeclaredPiece) (i : ℕ) (p : DeclaredPiece) → drop i ps ≡ p ∷ drop (i + 1) ps →
    new ≡ out ++ p.bytes.now → out ++ piece_bytes (map piece_of (drop i ps)) ≡ whole →
    new ++ piece_bytes (map piece_of (drop (i + 1) ps)) ≡ whole
contents_more out new whole ps i p here added before =
    append_some_more out new p.bytes.now (piece_bytes (map piece_of (drop (i + 1) ps))) (piece_bytes (map piece_of (drop i ps))) whole added
    (ap (λ l. piece_bytes (map piece_of l)) here) before

-- a section's header more
pub header_more : (place : ℕ) (out new whole : List ℕ) (ps : List DeclaredPiece) (i : ℕ) (p : DeclaredPiece) → drop i ps ≡ p ∷ drop (i + 1) ps →
    new ≡ out ++ section_header_bytes (piece_header place (piece_of p)) →
    out ++ flat_map section_header_bytes (headers_from place (map piece_of (drop i ps))) ≡ whole →
    new ++ flat_map section_header_bytes (headers_from (place + length p.bytes.now) (map piece_of (drop (i + 1) ps))) ≡ whole
header_more place out new whole ps i p here added before =
    append_some_more out new (section_header_bytes (piece_header place (piece_of p)))
    (flat_map section_header_bytes (headers_from (place + length p.bytes.now) (map piece_of (drop (i + 1) ps))))
    (flat_map section_header_bytes (headers_from place (map piece_of (drop i ps)))) whole added
    (ap (λ l. flat_map section_header_bytes (headers_from place (map piece_of l))) here) before

pub room_more : (place : ℕ) (ps : List DeclaredPiece) (i : ℕ) (p : DeclaredPiece) → drop i ps ≡ p ∷ drop (i + 1) ps →
    place + length (piece_bytes (map piece_of (drop i ps))) < 2 ^ 64 →
    place + length p.bytes.now + length (piece_bytes (map piece_of (drop (i + 1) ps))) < 2 ^ 64
room_more place ps i p here room =
    let all : length (piece_bytes (map piece_of (drop i ps))) ≡ length p.bytes.now + length (piece_bytes (map piece_of (drop (i + 1) ps))) =
    ap (λ l. length (piece_bytes (map piece_of l))) here ∙ length-append p.bytes.now (piece_bytes (map piece_of (drop (i + 1) ps))) in
    omega (arith, room, all)

-- the whole file
pub debug_file : (exe : List ℕ) (m : Map) (names : Names) (directory : List ℕ) (sources : List SourceFile) (file : List ℕ)
    (places : StoredPlaces) (tables : Tables) → AreStored exe m (places_of places) → AreBounded m (places_of places) → first_true (open_tests exe) ≡ None →
    can_grow exe ≡ true → length exe < 2 ^ 32 → AreTables m names directory sources tables →
    file ≡ file_with exe m (places_of places) (pieces_of tables.locals tables.symbols.items tables.strings.items (debug_of tables.debug)) →
    IsDebugFile exe m names directory sources file
debug_file exe m names directory sources file places tables stored known opens grows short are is = record {
  at = places_of places;
  debug = debug_of tables.debug;
  opens = opens;
  grows = grows;
  stored = stored;
  units = are.units;
  fits = record {
    executable = short;
    strings = let strings = are.short.strings in omega (arith, strings, ap length are.strings);
    lines = are.short.lines;
    info = are.short.info;
    ranges = are.short.ranges;
    text = known.text;
    rodata = known.rodata;
    «data» = known.data;
    bss = known.bss;
    labelled = are.labelled;
    globals = are.known;
  };
  is = is
      ∙ (λ i. file_with exe m (places_of places) (pieces_of (are.locals i) (are.symbols i) (are.strings i) (debug_of tables.debug)));
}

-- there are fewer labels than bytes of names
pub few_labels : (labels globals : List DeclaredName) (strings : List ℕ) → strings ≡ string_table (record { labels = map name_view labels; globals = map name_view globals }) →
    length strings < 2 ^ 32 → 1 + length labels < 2 ^ 32
few_labels labels globals strings is short =
    let plain : List KnownName = map name_view labels in
    let others : List KnownName = map name_view globals in
    let size : length strings ≡ 1 + length (name_strings plain ++ name_strings others) = ap length is ∙ one (name_strings plain ++ name_strings others) in
    omega (
      arith,
      short,
      size,
      length-append (name_strings plain) (name_strings others),
      few_names plain,
      length-map labels name_view,
    )
  where
    one : (xs : List ℕ) → length (0 ∷ xs) ≡ 1 + length xs
    one xs = omega arith
