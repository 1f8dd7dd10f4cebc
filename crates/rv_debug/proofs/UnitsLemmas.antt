-- The units of sources, one after another.

use Rattle.std.proofs.Common.{◌≡◌, ◌∙◌, ℕ, suc, ◌+◌, ◌<◌, ◌≤◌, List, [], ◌∷◌, ◌++◌, length, get_or, take, drop, replicate, refl, ap, sym, subst, append_assoc, arith}
use Rattle.std.specs.List.{AllByRecursion}
use Rattle.std.specs.Int.{w16, w32, to_le_bytes}
use Rattle.std.proofs.lemmas.List.{drop-take, drop_more, length-append, length-take-le, take-append-drop, take-take, take_more}
use Rattle.rv_list_laws.proofs.EachLemmas.{each_append, each_weaker}
use Rattle.rv_map_laws.specs.declared.map.Region.{Region}
use Rattle.rv_map_laws.specs.declared.map.Row.{Row}
use Rattle.rv_map_laws.specs.Map.{Map}
use Rattle.rv_debug_laws.specs.declared.line_row.LineRow.{LineRow}
use Rattle.rv_debug_laws.specs.declared.line_row.SourceFile.{SourceFile}
use Rattle.rv_debug.specs.Table.{IsUnitOf}
use Rattle.rv_debug_laws.specs.Code.{code_of, code_extent}
use Rattle.rv_debug_laws.specs.Units.{AddUnits, AddsCode, DebugBytes, address_ranges, assembly_language, code_pair, entry_numbers, info_unit, no_debug, unit_entry}
use Rattle.rv_debug.specs.Refused.{HasLongUnit, IsLongUnit}
use Rattle.rv_debug.proofs.ChainLemmas.{added_five, added_six}

-- an entry
pub wrote_info : (old i1 i2 i3 i4 i5 i6 i7 i8 S A : List ℕ) (size lines_at : ℕ) (code : Region) (path directory : List ℕ) →
    size ≡ 33 + length path + length directory → S ≡ to_le_bytes w32 size → A ≡ to_le_bytes w16 assembly_language →
    i1 ≡ old ++ S → i2 ≡ i1 ++ (5 ∷ 0 ∷ 1 ∷ 8 ∷ 0 ∷ 0 ∷ 0 ∷ 0 ∷ []) → i3 ≡ i2 ++ entry_numbers lines_at code →
    i4 ≡ i3 ++ path → i5 ≡ i4 ++ 0 ∷ [] → i6 ≡ i5 ++ directory → i7 ≡ i6 ++ 0 ∷ [] → i8 ≡ i7 ++ A →
    i8 ≡ old ++ info_unit lines_at code path directory
wrote_info old i1 i2 i3 i4 i5 i6 i7 i8 S A size lines_at code path directory sized is_size is_language one two three four five six seven eight =
    let P : List ℕ = path ++ 0 ∷ [] in
    let D : List ℕ = directory ++ 0 ∷ [] in
    let L : List ℕ = to_le_bytes w16 assembly_language in
    let begun : i1 ≡ old ++ to_le_bytes w32 size = one ∙ ap (λ l. old ++ l) is_size in
    let named : i5 ≡ i3 ++ P = five ∙ ap (λ l. l ++ 0 ∷ []) four ∙ append_assoc i3 path (0 ∷ []) in
    let placed : i7 ≡ i5 ++ D = seven ∙ ap (λ l. l ++ 0 ∷ []) six ∙ append_assoc i5 directory (0 ∷ []) in
    let ended : i8 ≡ i7 ++ to_le_bytes w16 assembly_language = eight ∙ ap (λ l. i7 ++ l) is_language in
    let all : i8 ≡ old ++ (to_le_bytes w32 size ++ ((5 ∷ 0 ∷ 1 ∷ 8 ∷ 0 ∷ 0 ∷ 0 ∷ 0 ∷ []) ++ (entry_numbers lines_at code ++ (P ++ (D ++ L))))) =
    added_six old i1 i2 i3 i5 i7 i8 (to_le_bytes w32 size) (5 ∷ 0 ∷ 1 ∷ 8 ∷ 0 ∷ 0 ∷ 0 ∷ 0 ∷ []) (entry_numbers lines_at code) P D L
    begun two three named placed ended in
    let body : List ℕ = 5 ∷ 0 ∷ 1 ∷ 8 ∷ 0 ∷ 0 ∷ 0 ∷ 0 ∷ unit_entry lines_at code path directory in
    let long : size ≡ length body =
    omega (
      arith,
      sized,
      length-append (entry_numbers lines_at code) (P ++ (D ++ L)),
      length-append P (D ++ L),
      length-append D L,
      length-append path (0 ∷ []),
      length-append directory (0 ∷ []),
    ) in
    all ∙ ap (λ n. old ++ (to_le_bytes w32 n ++ body)) long

-- the numbers of an entry
pub wrote_numbers : (old i1 i2 i3 L : List ℕ) (lines_at : ℕ) (code : Region) → L ≡ to_le_bytes w32 lines_at →
    i1 ≡ old ++ 1 ∷ [] → i2 ≡ i1 ++ L → i3 ≡ i2 ++ code_pair code → i3 ≡ old ++ entry_numbers lines_at code
wrote_numbers old i1 i2 i3 L lines_at code is one two three =
    let P : List ℕ = code_pair code in
    three ∙ ap (λ l. l ++ P) (two ∙ ap (λ l. l ++ L) one) ∙ append_assoc (old ++ 1 ∷ []) L P ∙ append_assoc old (1 ∷ []) (L ++ P)
    ∙ ap (λ l. old ++ (1 ∷ (l ++ P))) is

-- the addresses of a unit
pub wrote_ranges : (old i1 i2 i3 i4 i5 I : List ℕ) (info_at : ℕ) (code : Region) → I ≡ to_le_bytes w32 info_at →
    i1 ≡ old ++ (44 ∷ 0 ∷ 0 ∷ 0 ∷ 2 ∷ 0 ∷ []) → i2 ≡ i1 ++ I →
    i3 ≡ i2 ++ (8 ∷ 0 ∷ 0 ∷ 0 ∷ 0 ∷ 0 ∷ []) → i4 ≡ i3 ++ code_pair code → i5 ≡ i4 ++ replicate 16 0 →
    i5 ≡ old ++ address_ranges info_at code
wrote_ranges old i1 i2 i3 i4 i5 I info_at code is one two three four five =
    added_five old i1 i2 i3 i4 i5 (44 ∷ 0 ∷ 0 ∷ 0 ∷ 2 ∷ 0 ∷ []) (to_le_bytes w32 info_at) (8 ∷ 0 ∷ 0 ∷ 0 ∷ 0 ∷ 0 ∷ []) (code_pair code) (replicate 16 0)
    one (two ∙ ap (λ l. i1 ++ l) is) three four five

-- a source with code
pub adds_code : (directory : List ℕ) (source : SourceFile) (code : List LineRow) (before after : DebugBytes) (unit : List ℕ) →
    0 < length code → IsUnitOf unit directory (source ∷ source ∷ []) code →
    after.lines ≡ before.lines ++ unit →
    after.info ≡ before.info ++ info_unit (length before.lines) (code_extent code) source.path.now directory →
    after.ranges ≡ before.ranges ++ address_ranges (length before.info) (code_extent code) →
    AddsCode directory source code before after
adds_code directory source [] before after unit some is lines info ranges = absurd (omega (arith, some))
adds_code directory source (row ∷ rows) before after unit some (program, is_unit, table) lines info ranges = record {
  unit = unit;
  program = program;
  is_unit = is_unit;
  table = table;
  lines = lines;
  info = info;
  ranges = ranges;
}

pub adds_line_unit : (directory : List ℕ) (source : SourceFile) (code : List LineRow) (before after : DebugBytes) (unit shown : List ℕ) (extent : Region) →
    0 < length code → IsUnitOf unit directory (source ∷ source ∷ []) code → shown ≡ unit → extent ≡ code_extent code →
    after.lines ≡ before.lines ++ shown →
    after.info ≡ before.info ++ info_unit (length before.lines) extent source.path.now directory →
    after.ranges ≡ before.ranges ++ address_ranges (length before.info) extent →
    AddsCode directory source code before after
adds_line_unit directory source code before after unit shown extent some is same spans lines info ranges =
    adds_code directory source code before after unit some is (lines ∙ ap (λ u. before.lines ++ u) same)
    (info ∙ ap (λ e. before.info ++ info_unit (length before.lines) e source.path.now directory) spans)
    (ranges ∙ ap (λ e. before.ranges ++ address_ranges (length before.info) e) spans)

-- a source without code
pub adds_none : (directory : List ℕ) (source : SourceFile) (code : List LineRow) (before : DebugBytes) → length code ≡ 0 →
    AddsCode directory source code before before
adds_none directory source [] before none = refl
adds_none directory source (row ∷ rows) before none = absurd (omega (arith, none))

-- a source behind others
pub units_more : (m : Map) (directory : List ℕ) (number : ℕ) (sources : List SourceFile) (source : SourceFile) (before middle after : DebugBytes) →
    AddUnits m directory number sources before middle → AddsCode directory source (code_of m.text (number + length sources) m.rows) middle after →
    AddUnits m directory number (sources ++ source ∷ []) before after
units_more m directory number [] source before middle after same adds =
    let here : number + 0 ≡ number = omega arith in
    let first : AddsCode directory source (code_of m.text number m.rows) middle after =
    subst (λ n. AddsCode directory source (code_of m.text n m.rows) middle after) here adds in
    (after, subst (λ b. AddsCode directory source (code_of m.text number m.rows) b after) same first, refl)
units_more m directory number (other ∷ sources) source before middle after (next, first, more) adds =
    let there : number + suc (length sources) ≡ suc number + length sources = omega arith in (
      next,
      first,
      units_more m directory (suc number) sources source next middle after more
          (subst (λ n. AddsCode directory source (code_of m.text n m.rows) middle after) there adds),
    )

-- rows of the files so far
pub files_more : (number first count : ℕ) (rows rest : List Row) → rest ≡ drop first rows → AllByRecursion (λ row. row.file < number) (take first rows) →
    AllByRecursion (λ row. row.file ≤ number) (take count rest) → AllByRecursion (λ row. row.file ≤ number) (take (first + count) rows)
files_more number first count rows rest same earlier own =
    let P : Row → Type 0 = λ row. row.file ≤ number in
    let both : take (first + count) rows ≡ take first rows ++ take count rest =
    sym (take-append-drop first (take (first + count) rows))
    ∙ (λ k. take-take first (first + count) rows (omega arith) k ++ drop-take first count rows k)
    ∙ ap (λ l. take first rows ++ take count l) (sym same) in
    subst (AllByRecursion P) (sym both)
    (each_append P (take first rows) (take count rest)
    (each_weaker (λ row. row.file < number) P (λ row h. omega (arith, h)) (take first rows) earlier) own)

-- they are below the next number
pub files_next : (number : ℕ) (rows : List Row) → AllByRecursion (λ row. row.file ≤ number) rows → AllByRecursion (λ row. row.file < number + 1) rows
files_next number rows h = each_weaker (λ row. row.file ≤ number) (λ row. row.file < number + 1) (λ row k. omega (arith, k)) rows h

-- ---- steps of the loop over sources

-- the number of a source by its index
numbered : (m : Map) (sources : List SourceFile) (i : ℕ) → i < length sources →
    code_of m.text (i + 1) m.rows ≡ code_of m.text (1 + length (take i sources)) m.rows
numbered m sources i below =
    let all : i ≤ length sources = omega (arith, below) in
    let n : i + 1 ≡ 1 + length (take i sources) = omega (arith, length-take-le i sources all) in
    ap (λ k. code_of m.text k m.rows) n

pub units_next : (m : Map) (directory : List ℕ) (sources : List SourceFile) (i : ℕ) (d : SourceFile) (code : List LineRow) (before after : DebugBytes) →
    i < length sources → AddUnits m directory 1 (take i sources) no_debug before → code ≡ code_of m.text (i + 1) m.rows →
    AddsCode directory (get_or sources i d) code before after → AddUnits m directory 1 (take (i + 1) sources) no_debug after
units_next m directory sources i d code before after below so_far is adds =
    let source : SourceFile = get_or sources i d in
    subst (λ l. AddUnits m directory 1 l no_debug after) (sym (take_more sources i d below))
    (units_more m directory 1 (take i sources) (get_or sources i d) no_debug before after so_far
    (subst (λ c. AddsCode directory (get_or sources i d) c before after) (is ∙ numbered m sources i below) adds))

pub has_long : (m : Map) (directory : List ℕ) (sources : List SourceFile) (i : ℕ) (d : SourceFile) (code : List LineRow) (debug : DebugBytes) →
    i < length sources → AddUnits m directory 1 (take i sources) no_debug debug → code ≡ code_of m.text (i + 1) m.rows →
    IsLongUnit directory (get_or sources i d) code debug → HasLongUnit m directory sources
has_long m directory sources i d code debug below units is long = record {
  first = take i sources;
  source = get_or sources i d;
  rest = drop (i + 1) sources;
  debug = debug;
  whole = sym (take-append-drop i sources) ∙ ap (λ l. take i sources ++ l) (drop_more sources i d below);
  units = units;
  long = subst (λ c. IsLongUnit directory (get_or sources i d) c debug) (is ∙ numbered m sources i below) long;
}
