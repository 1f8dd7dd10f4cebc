-- The memory of a linked program's image realizes its sources: any number of sections, code and data.

use Rattle.std.proofs.Common.{◌≡◌, ℕ, suc, ◌+◌, ◌-◌, ◌%◌, ◌^◌, ◌<◌, ◌≤◌, Bool, true, false, List, [], ◌∷◌, ◌++◌, length, refl, sym, ap, ◌∙◌, subst, arith, map, Option, Some, None, is_some, length-append, ◌⊎◌, inl, inr}
use Rattle.std.proofs.Math.Nat.{le_trans}
use Rattle.std.proofs.lemmas.Bool.Decides.{nat_tests}
use Rattle.std.proofs.lemmas.Bool.{cases_lt, and_parts, and_from, eqb-true}
use Rattle.std.proofs.lemmas.List.{length-replicate}
use Rattle.std.specs.Prelude.{◌&&◌, ◌||◌, ◌==◌, not, nat_lt, if◌then◌else◌, slice_index, slice_index_or, flat_map, option_map, option_and_then, bytes_eq, codes, IsTrue, max}
use Rattle.std.specs.List.{AllByRecursion, find, list_any}
use Rattle.rv_list_laws.proofs.EachLemmas.{each_append, each_map, each_pair}
use Rattle.rv_list_laws.proofs.TruthLemmas.{one_case_of_four, or_three}
use Rattle.rv_list_laws.proofs.FindLemmas.{none_found}
use Rattle.rv_size_laws.specs.Alignment.{aligned}
use Rattle.rv_isa_laws.specs.Bytes.{little_endian}
use Rattle.rv_isa.specs.declared.instruction.Inst.{Inst}
use Rattle.rv_isa.specs.Ranges.{IsValid}
use Rattle.rv_isa_laws.specs.Memory.{Mem, Read, Write, Execute}
use Rattle.rv_isa_laws.specs.Word.{form, word, Spells}
use Rattle.rv_parcel.specs.declared.form.Compressed.{Compressed}
use Rattle.rv_parcel.specs.Parcel.{parcel, StandsFor}
use Rattle.rv_isa_laws.specs.Reader.{Reader}
use Rattle.rv_isa_laws.specs.Run.{NoInstruction, Got, fetch}
use Rattle.rv_board_laws.proofs.PlatformLemmas.{zero_index}
use Rattle.rv_statement_laws.specs.Statement.{StatementKind, Label, Numbered, Instruction, Directs, Statement, Expression, Directive, Sets, Values, Strings, Zeros}
use Rattle.rv_statement_laws.specs.declared.directive.Binding.{Binding}
use Rattle.rv_pseudo_laws.specs.Code.{Part}
use Rattle.rv_unit_laws.specs.Bindings.{is_global, is_weak}
use Rattle.rv_unit_laws.specs.Contributions.{Contribution, Nothing, Bytes, Alignment, contribution}
use Rattle.rv_unit_laws.specs.Options.{Options}
use Rattle.rv_unit_laws.specs.Sections.{Section, is_nobits, goes_to_text, goes_to_rodata, goes_to_data, goes_to_bss}
use Rattle.rv_unit_laws.specs.Tables.{Tables, tables, alignments_of}
use Rattle.rv_map_laws.specs.Map.{Map}
use Rattle.rv_map_laws.specs.declared.map.Row.{Row}
use Rattle.rv_map_laws.specs.declared.map.Region.{Region}
use Rattle.rv_map_laws.specs.declared.map.SectionId.{SectionId}
use Rattle.rv_collect_laws.specs.Graph.{is_dropped}
use Rattle.rv_image_laws.specs.Linked.{Linked}
use Rattle.rv_image_laws.specs.Free.{highest, free_until}
use Rattle.rv_image_laws.proofs.FreeLemmas.{free_low}
use Rattle.rv_image_laws.specs.Executable.{linked_image}
use Rattle.rv_isa_laws.specs.Platform.{stack_start, stack_end}
use Rattle.rv_image_laws.specs.Memory.{segment_at, mem_of}
use Rattle.rv_source_laws.specs.Located.{located, left, without_address}
use Rattle.rv_source_laws.specs.Exports.{names_where}
use Rattle.rv_source_laws.specs.Program.{MaybeMapped, Mapped, Program, Export, export, exports_at, exports_where, candidates, chosen, program, number, seated, mapped_of, address_of, tables_in}
use Rattle.rv_source_laws.specs.Resolves.{is_label, run_start}
use Rattle.rv_source_laws.specs.Lines.{parts, form_at, Line, Lie, expansion}
use Rattle.rv_source_laws.specs.Fits.{IsRowOf, CodeFits, IsPaddingIn, ContributionFits, SizeFits, InputSection, input_section, input_sections, input_sections_of_file, input_sections_of, greatest, Holds, Stand, layout_end}
use Rattle.rv_source_laws.specs.Start.{is_within, is_in, right_at, first_byte, byte_of, spelled, spelled_contribution}
use Rattle.rv_source_laws.specs.SourceRun.{Starts, Gap, Outside, starts_or_inside, place, found}
use Rattle.rv_source_laws.proofs.HeldLemmas.{ContributionHeld, DirectiveHeld, IsHeld, Held}
use Rattle.rv_source_laws.proofs.LeftLemmas.{held_left, all_left}
use Rattle.rv_chain_laws.specs.PlatformRun.{lies_at}
use Rattle.rv_chain_laws.specs.Realizes.{StandsIn, HoldsLines, Realizes}
use Rattle.rv_chain_laws.specs.Contents.{IsEncoded, AreEncoded, IsWritten, contents, IsLinked}
use Rattle.rv_chain_laws.specs.Headline.{RunsAgree}
use Rattle.rv_runs_theorems.proofs.WordsLemmas.{HasBytes, fetch-parcel, fetch-zeros, fetch-word, bytes_behind, may_all, Runs}
use Rattle.rv_runs_theorems.proofs.SimulationLemmas.{agreement_of_image}
use Rattle.rv_runs_theorems.proofs.RegionsLemmas.{within_parts, bytes_front, Sized, LiesIn, Misses, AllIn, IsAligned, IsBlank, gap_blank, byte_at, byte_zero, above, end_above, lie_blocks, held_blocks, zero_blocks, length_blocks}
use Rattle.rv_runs_theorems.proofs.HeldLemmas.{held_of}
use Rattle.rv_runs_theorems.proofs.HomesLemmas.{sections_of, sections_in, IsSeated, IsAtHome, seats, homes, to_blocks, from_blocks}
use Rattle.rv_runs_theorems.proofs.AlignmentsLemmas.{even_files}
use Rattle.rv_runs_theorems.proofs.LaidOutLemmas.{AreRegions, apart, lies-are, rights-are, text_held, rodata_held, data_held, bss_held, stack_zero, text_off_stack}
use Rattle.rv_runs_theorems.proofs.AscendingLemmas.{true_false}

-- ---- the lines of a statement

abbrev pub instructions_of : List Line → List Inst
instructions_of ls = map (λ (l : Line). l.instruction) ls

-- the bytes of a line are its word, or a parcel that stands for its instruction
abbrev pub IsSpelled : Line → List ℕ → Type 0
IsSpelled l bytes =
    ((l.bytes ≡ 4) × (bytes ≡ little_endian 4 (word (form l.instruction))))
    ⊎ ((l.bytes ≡ 2) × ((q : ℕ) × StandsFor q l.instruction × (bytes ≡ little_endian 2 q)))

pub line_spelled : (named : Option Compressed) (l : Line) (bytes : List ℕ) → IsEncoded named l bytes → IsSpelled l bytes
line_spelled (Some c) l bytes (two, line, is, same) = inr (two, (parcel c, record { form = c; spells = record { line = line; sum = refl }; same = is }, same))
line_spelled None l bytes (inl word_of) = inl word_of
line_spelled None l bytes (inr (two, (q, short, same))) = inr (two, (q, record { form = short.form; spells = short.spells; same = short.same }, same))

pub line_length : (l : Line) (bytes : List ℕ) → IsSpelled l bytes → length bytes ≡ l.bytes
line_length l bytes (inl (four, same)) = ap (λ b. length b) same ∙ sym four
line_length l bytes (inr (two, (q, stands, same))) = ap (λ b. length b) same ∙ sym two

-- a statement has as many bytes as its lines
pub lines_length : (named : Option Compressed) (ls : List Line) (a stop : ℕ) (bytes : List ℕ) → Lie a ls stop → AreEncoded named ls bytes → a + length bytes ≡ stop
lines_length named [] a stop bytes lie none = let e : length bytes ≡ 0 = ap (λ b. length b) none in omega arith
lines_length named (l ∷ ls) a stop bytes (at, lie) (front, (rest, joined, one, more)) =
    let here : length front ≡ l.bytes = line_length l front (line_spelled named l front one) in
    let next : a + l.bytes + length rest ≡ stop = lines_length named ls (a + l.bytes) stop rest lie more in
    let whole : length bytes ≡ length front + length rest = ap (λ b. length b) joined ∙ length-append front rest in
    omega arith

module _ (reader : Reader Spells StandsFor) (m : Mem) (stop : ℕ) (room : stop < 2 ^ 64) where
  line_stands : (l : Line) (bytes : List ℕ) → IsValid l.instruction → IsSpelled l bytes → HasBytes m l.address bytes → Runs m l.address stop → l.address + l.bytes ≤ stop → StandsIn reader m l
  line_stands l bytes valid (inl (four, same)) h runs fits =
      let got : fetch reader m l.address ≡ Got l.instruction 4 = fetch-word reader m l.address l.instruction valid (omega arith) (may_all m 4 l.address (λ x low up. runs x low (omega arith)) (omega arith)) (subst (HasBytes m l.address) same h) in
      (got ∙ ap (λ n. Got l.instruction n) (sym four), valid)
  line_stands l bytes valid (inr (two, (q, stands, same))) h runs fits =
      let got : fetch reader m l.address ≡ Got l.instruction 2 = fetch-parcel reader m l.address l.instruction q stands (omega arith) (may_all m 2 l.address (λ x low up. runs x low (omega arith)) (omega arith)) (subst (HasBytes m l.address) same h) in
      (got ∙ ap (λ n. Got l.instruction n) (sym two), valid)

  lines_stand : (named : Option Compressed) (ls : List Line) (a : ℕ) (bytes : List ℕ) → Lie a ls (a + length bytes) → AreEncoded named ls bytes → AllByRecursion IsValid (instructions_of ls) → HasBytes m a bytes → Runs m a stop → a + length bytes ≤ stop → AllByRecursion (StandsIn reader m) ls
  lines_stand named [] a bytes lie e valid h runs fits = tt
  lines_stand named (l ∷ ls) a bytes (at, lie) (front, (rest, joined, one, more)) (v, vs) h runs fits =
      let spelled : IsSpelled l front = line_spelled named l front one in
      let here : length front ≡ l.bytes = line_length l front spelled in
      let whole : length bytes ≡ length front + length rest = ap (λ b. length b) joined ∙ length-append front rest in
      let both : HasBytes m a (front ++ rest) = subst (HasBytes m a) joined h in
      let ends : a + length bytes ≡ a + l.bytes + length rest = omega arith in (
        line_stands l front v spelled (subst (λ x. HasBytes m x front) (sym at) (bytes_front m a front rest both)) (subst (λ x. Runs m x stop) (sym at) runs) (omega arith),
        lines_stand named ls (a + l.bytes) rest (subst (Lie (a + l.bytes) ls) ends lie) more vs
            (subst (λ n. HasBytes m (a + n) rest) here (bytes_behind m a front rest both)) (λ x low up. runs x (omega arith) up) (omega arith),
      )

  holds_written : (p : Program) (s : Mapped) (bytes : List ℕ) → IsWritten p s bytes → HasBytes m s.row.address bytes → Runs m s.row.address stop → s.row.address + s.row.bytes ≤ stop → SizeFits p s → IsRowOf (expansion p s) s.row → HoldsLines reader m p s
  holds_written p s bytes written h runs fits size row =
      let a = s.row.address in
      let lines = written.lines in
      let ends : a + length bytes ≡ a + s.row.bytes = lines_length (form_at p s) lines a (a + s.row.bytes) bytes written.are_lines.1 written.encoded in
      let valid : AllByRecursion IsValid (instructions_of lines) = (subst (λ o. IsRowOf o s.row) written.are_lines.0 row).0 in
      record {
        lines = lines;
        are_lines = written.are_lines;
        stand = lines_stand (form_at p s) lines a bytes (subst (Lie a lines) (sym ends) written.are_lines.1) written.encoded valid h runs (omega arith);
        below = omega arith;
        fits = size;
        row = row;
      }

-- ---- what the sizes of rows say

no_bytes : (b : Bool) (r : Row) → IsRowOf (if b then Some [] else None) r → 0 ≡ r.bytes
no_bytes true r (valid, n, lo, hi, even) = let e : r.instructions ≡ 0 = n in omega arith
no_bytes false r h = absurd h

padding_code : (b : Bool) (p : Program) (s : Mapped) (d : Directive) → b ≡ true → IsPaddingIn b p s d → IsRowOf (expansion p s) s.row
padding_code true p s d e h = h.0
padding_code false p s d e h = absurd (cc)

module _ (p : Program) (file ordinal section offset line : ℕ) (home : Section) (options : Options) (placed : Bool) (row : Row) where
  abbrev at : StatementKind → Mapped
  at says = record { located = record { file = file; ordinal = ordinal; section = section; offset = offset; home = home; options = options; line = line; kind = says; placed = placed }; row = row }

  -- a row outside of executable sections has the bytes that its statement spells
  contribution_data : (d : Directive) (c : Contribution) → contribution d ≡ c → ContributionFits p (at (Directs d)) d c → Sized (spelled p) (at (Directs d))
  contribution_data d Nothing e fits = absurd fits
  contribution_data d (Bytes contents) e fits = sym fits.1
  contribution_data d (Alignment form value) e fits =
      ap (λ (c : Contribution). length (spelled_contribution (number p (at (Directs d))) c row.bytes)) e ∙ length-replicate {A = ℕ} row.bytes 0

  directive_data : (d : Directive) → SizeFits p (at (Directs d)) → Sized (spelled p) (at (Directs d))
  directive_data (Sets name expression) fits = no_bytes true row fits
  directive_data d fits = contribution_data d (contribution d) refl fits

  statement_data : (says : StatementKind) → SizeFits p (at says) → IsHeld home says → home.executable ≡ false → Sized (spelled p) (at says)
  statement_data (Label name) fits held e = no_bytes true row fits
  statement_data (Numbered number) fits held e = no_bytes true row fits
  statement_data (Instruction mnemonic operands) fits held e = true_false home.executable held.0 e
  statement_data (Directs directive) fits held e = directive_data directive fits

  -- a row in an executable section has its statement's instructions
  parts_code : (says : StatementKind) (found : Option (List Part)) → CodeFits p (at says) found → IsRowOf (expansion p (at says)) row
  parts_code says None fits = absurd fits
  parts_code says (Some ps) fits = fits.row

  contribution_code : (d : Directive) (c : Contribution) → ContributionFits p (at (Directs d)) d c → ContributionHeld home c → home.executable ≡ true
      → IsRowOf (expansion p (at (Directs d))) row
  contribution_code d Nothing fits held e = absurd fits
  contribution_code d (Bytes contents) fits held e = true_false home.executable e held.0
  contribution_code d (Alignment form value) fits held e = padding_code home.executable p (at (Directs d)) d e fits

  directive_code : (d : Directive) → SizeFits p (at (Directs d)) → DirectiveHeld home d → home.executable ≡ true → IsRowOf (expansion p (at (Directs d))) row
  directive_code (Sets name expression) fits held e = fits
  directive_code d fits held e = contribution_code d (contribution d) fits held e

  statement_code : (says : StatementKind) → SizeFits p (at says) → IsHeld home says → home.executable ≡ true → IsRowOf (expansion p (at says)) row
  statement_code (Label name) fits held e = fits
  statement_code (Numbered number) fits held e = fits
  statement_code (Instruction mnemonic operands) fits held e = parts_code (Instruction mnemonic operands) (parts p (at (Instruction mnemonic operands))) fits
  statement_code (Directs directive) fits held e = directive_code directive fits held e

  -- a row without bytes in the file has zeros
  contribution_zeros : (v : Expression → ℕ) (c : Contribution) → ContributionHeld home c → is_nobits home ≡ true → (n : ℕ) → slice_index (spelled_contribution v c row.bytes) n ≡ 0
  contribution_zeros v Nothing held e n = refl
  contribution_zeros v (Bytes (Values width values)) held e n = true_false (is_nobits home) e held.1
  contribution_zeros v (Bytes (Strings ended strings)) held e n = true_false (is_nobits home) e held.1
  contribution_zeros v (Bytes (Zeros count)) held e n = zero_index (v count) n
  contribution_zeros v (Alignment form value) held e n = zero_index row.bytes n

  statement_zeros : (says : StatementKind) → IsHeld home says → is_nobits home ≡ true → (n : ℕ) → slice_index (spelled p (at says)) n ≡ 0
  statement_zeros (Label name) held e n = refl
  statement_zeros (Numbered number) held e n = refl
  statement_zeros (Instruction mnemonic operands) held e n = refl
  statement_zeros (Directs directive) held e n = contribution_zeros (number p (at (Directs directive))) (contribution directive) held e n

-- ---- the region of a section

no_code_more : (l x n b : Bool) → (l && not x && not n && b) ≡ true → x ≡ false
no_code_more true false n b e = refl
no_code_more true true n b e = absurd (cc)
no_code_more false x n b e = absurd (cc)

no_stored : (l x n : Bool) → (l && not x && n) ≡ true → n ≡ true
no_stored true false n e = e
no_stored true true n e = absurd (cc)
no_stored false x n e = absurd (cc)

one_or_more : (b : Bool) (g : ℕ) → 1 ≤ max (if b then 2 else 1) g
one_or_more true g = omega arith
one_or_more false g = omega arith

aligned_file : (goes : Section → Bool) (drops : List SectionId) (t : Tables) (mapped : List Mapped) (file index : ℕ) (sections : List Section) → AllByRecursion IsAligned (input_sections_of_file goes drops t mapped file index sections)
aligned_file goes drops t mapped file index [] = tt
aligned_file goes drops t mapped file index (section ∷ sections) = go (goes (without_address (is_dropped drops file index) section)) (aligned_file goes drops t mapped file (suc index) sections)
  where
    go : (b : Bool) → AllByRecursion IsAligned (input_sections_of_file goes drops t mapped file (suc index) sections)
        → AllByRecursion IsAligned (if b then input_section t section mapped file index ∷ input_sections_of_file goes drops t mapped file (suc index) sections else input_sections_of_file goes drops t mapped file (suc index) sections)
    go true rest = (one_or_more (goes_to_text section) (slice_index_or (alignments_of t) index 1), rest)
    go false rest = rest

aligned_files : (goes : Section → Bool) (drops : List SectionId) (mapped : List Mapped) (file : ℕ) (files : List (List Statement)) → AllByRecursion IsAligned (input_sections_of goes drops mapped file files)
aligned_files goes drops mapped file [] = tt
aligned_files goes drops mapped file (ss ∷ files) =
    each_append IsAligned (input_sections_of_file goes drops (tables ss) mapped file 0 (sections_of ss)) (input_sections_of goes drops mapped (suc file) files)
    (aligned_file goes drops (tables ss) mapped file 0 (sections_of ss)) (aligned_files goes drops mapped (suc file) files)

some_alignment : (bs : List InputSection) → 1 ≤ greatest bs
some_alignment [] = omega arith
some_alignment (b ∷ bs) = let e = some_alignment bs in omega arith

-- ---- tests of places

starts_when : (t g : Bool) (o : Option Mapped) (s : Mapped) → (if t then (if g then Gap else starts_or_inside o) else Outside) ≡ Starts s → (t ≡ true) × (o ≡ Some s)
starts_when true true o s e = absurd (cc)
starts_when true false (Some k) s e = (refl, cc)
starts_when true false None s e = absurd (cc)
starts_when false g o s e = absurd (cc)

gap_when : (t g : Bool) (o : Option Mapped) → (if t then (if g then Gap else starts_or_inside o) else Outside) ≡ Gap → (t ≡ true) × (g ≡ true)
gap_when true true o e = (refl, refl)
gap_when true false (Some k) e = absurd (cc)
gap_when true false None e = absurd (cc)
gap_when false g o e = absurd (cc)

outside_when : (t g : Bool) (o : Option Mapped) → (if t then (if g then Gap else starts_or_inside o) else Outside) ≡ Outside → t ≡ false
outside_when true true o e = absurd (cc)
outside_when true false (Some s) e = absurd (cc)
outside_when true false None e = absurd (cc)
outside_when false g o e = refl

-- what is found passes the test, and has what all have
pub all_found : {X : Type 0} (P : X → Type 0) (test : X → Bool) (xs : List X) (x : X) → find test xs ≡ Some x → AllByRecursion P xs → P x × (test x ≡ true)
all_found P test [] x e ps = absurd (cc)
all_found P test (y ∷ ys) x e (p, ps) = go (test y) refl (λ f. all_found P test ys x f ps)
  where
    go : (b : Bool) → test y ≡ b → (find test ys ≡ Some x → P x × (test x ≡ true)) → P x × (test x ≡ true)
    go true t ih =
        let f : Some y ≡ Some x = subst (λ b. (if b then Some y else find test ys) ≡ Some x) t e in
        let same : y ≡ x = cc in
        (subst P same p, subst (λ z. test z ≡ true) same t)
    go false t ih = ih (subst (λ b. (if b then Some y else find test ys) ≡ Some x) t e)

-- no address lies both before an end and from there on
past : {A : Type 0} (a b c x : ℕ) → is_within a b x ≡ true → b ≤ c → c ≤ x → A
past a b c x inside le high = let parts = within_parts a b x inside in absurd (omega arith)

-- what holds of the statements that have a row
abbrev Seated : (Mapped → Type 0) → MaybeMapped → Type 0
Seated P e = (r : Row) → e.row ≡ Some r → P (record { located = e.located; row = r })

seated_all : (P : Mapped → Type 0) (statements : List MaybeMapped) → AllByRecursion P (mapped_of statements) → AllByRecursion (Seated P) statements
seated_all P [] h = tt
seated_all P (e ∷ es) h = go e.row refl h (λ hs. seated_all P es hs)
  where
    go : (o : Option Row) → e.row ≡ o → AllByRecursion P (seated e.located o ++ mapped_of es) → (AllByRecursion P (mapped_of es) → AllByRecursion (Seated P) es) → Seated P e × AllByRecursion (Seated P) es
    go None none hs more = (λ r some. absurd (cc), more hs)
    go (Some row) is (q, qs) more = (λ r some. (let same : row ≡ r = cc in subst (λ x. P (record { located = e.located; row = x })) same q), more qs)

-- ---- definitions for all files

-- what holds of all statements holds of those that define names
all_exports : (P : MaybeMapped → Type 0) (e : MaybeMapped) (names : List (List ℕ)) → P e → AllByRecursion (λ (x : Export). P x.statement) (map (export e) names)
all_exports P e [] h = tt
all_exports P e (name ∷ names) h = (h, all_exports P e names h)

all_where : (P : MaybeMapped → Type 0) (test : Binding → Bool) (p : Program) (statements : List MaybeMapped) → AllByRecursion P statements → AllByRecursion (λ (x : Export). P x.statement) (flat_map (exports_at test p) statements)
all_where P test p [] h = tt
all_where P test p (e ∷ es) (h, hs) =
    each_append (λ (x : Export). P x.statement) (exports_at test p e) (flat_map (exports_at test p) es)
    (all_exports P e (names_where test (tables_in p e.located.file) e.located) h) (all_where P test p es hs)

pub all_candidates : (P : MaybeMapped → Type 0) (p : Program) → AllByRecursion P p.statements → AllByRecursion (λ (x : Export). P x.statement) (candidates p)
all_candidates P p h =
    each_append (λ (x : Export). P x.statement) (exports_where is_global p) (exports_where is_weak p)
    (all_where P is_global p p.statements h) (all_where P is_weak p p.statements h)

-- ---- a linked program

module _ (sources : List (List Statement)) (a : ℕ) (relax gc : Bool) (l : Linked) (h : IsLinked sources a relax gc l) where
  abbrev p : Program
  p = program sources l.map

  abbrev m : Mem
  m = mem_of (linked_image l)

  abbrev map_of : Map
  map_of = l.map

  abbrev sections : ℕ → List Section
  sections = sections_in sources

  abbrev region : (Section → Bool) → List InputSection
  region goes = input_sections goes sources map_of

  at_home : AllByRecursion (IsAtHome map_of.drops sections) p.mapped
  at_home = homes map_of.drops sources map_of.rows

  -- each statement fits its row, and stands in a section that can hold it
  abbrev Fitting : Mapped → Type 0
  Fitting s = SizeFits p s × Held s.located

  fitting : AllByRecursion Fitting p.mapped
  fitting =
      each_pair (SizeFits p) (λ s. Held s.located) p.mapped h.fits.sizes
      (each_map (IsSeated Held) (λ s. Held s.located) p.mapped (λ s seat. seat.0) (seats Held (left map_of.drops sources) map_of.rows (all_left Held Held map_of.drops (located sources) (held_left map_of.drops) (held_of 1 sources h.fits.good))))

  is_aligned : (goes : Section → Bool) → AllByRecursion IsAligned (region goes)
  is_aligned goes = aligned_files goes map_of.drops p.mapped 1 sources

  data_sized : (goes : Section → Bool) → ((s : Section) → goes s ≡ true → s.executable ≡ false) → AllIn (Sized (spelled p)) (region goes)
  data_sized goes none = to_blocks map_of.drops p.mapped sources goes (Sized (spelled p)) at_home
      (each_map Fitting (λ s. goes s.located.home ≡ true → Sized (spelled p) s) p.mapped
      (λ s fits good. statement_data p s.located.file s.located.ordinal s.located.section s.located.offset s.located.line s.located.home s.located.options s.located.placed s.row s.located.kind fits.0 fits.1 (none s.located.home good)) fitting)

  not_rodata : (s : Section) → goes_to_rodata s ≡ true → s.executable ≡ false
  not_rodata s e = no_code_more s.loaded s.executable (is_nobits s) (not s.writable) e

  not_data : (s : Section) → goes_to_data s ≡ true → s.executable ≡ false
  not_data s e = no_code_more s.loaded s.executable (is_nobits s) s.writable e

  abbrev code : Mapped → List ℕ
  code = h.code

  written_sized : (s : Mapped) → IsWritten p s (code s) → Sized code s
  written_sized s written =
      let ends : s.row.address + length (code s) ≡ s.row.address + s.row.bytes = lines_length (form_at p s) written.lines s.row.address (s.row.address + s.row.bytes) (code s) written.are_lines.1 written.encoded in
      omega arith

  code_sized : AllIn (Sized code) (region goes_to_text)
  code_sized = to_blocks map_of.drops p.mapped sources goes_to_text (Sized code) at_home
      (each_map (λ s. IsTrue s.located.home.executable → IsWritten p s (code s)) (λ s. goes_to_text s.located.home ≡ true → Sized code s) p.mapped
      (λ s w good. written_sized s (w (and_parts s.located.home.loaded s.located.home.executable good).1)) h.written)

  -- each region holds its sections from its start on
  text_holds : Holds map_of.text a (region goes_to_text)
  text_holds = h.fits.text

  rodata_holds : Holds map_of.rodata (aligned 4096 map_of.text.end) (region goes_to_rodata)
  rodata_holds = h.fits.rodata

  data_holds : Holds map_of.data (aligned 4096 map_of.rodata.end) (region goes_to_data)
  data_holds = h.fits.data

  bss_holds : Holds map_of.bss (aligned (greatest (region goes_to_bss)) map_of.data.end) (region goes_to_bss)
  bss_holds = h.fits.bss

  text_is : l.text ≡ contents code map_of.text.start (region goes_to_text)
  text_is = h.text

  rodata_is : l.rodata ≡ contents (spelled p) map_of.rodata.start (region goes_to_rodata)
  rodata_is = h.rodata

  data_is : l.data ≡ contents (spelled p) map_of.data.start (region goes_to_data)
  data_is = h.data

  filled : (start place stop : ℕ) (bytes : Mapped → List ℕ) (bs : List InputSection) (stored : List ℕ) → start ≡ place → stop ≡ layout_end place bs → stored ≡ contents bytes start bs → AllIn (Sized bytes) bs → AllByRecursion IsAligned bs → start + length stored ≡ stop
  filled start place stop bytes bs stored at ends is sized up =
      ap (λ x. start + length x) is ∙ length_blocks bytes bs start sized up ∙ ap (λ x. layout_end x bs) at ∙ sym ends

  pub are_regions : AreRegions l
  are_regions = record {
    text = filled map_of.text.start a map_of.text.end code (region goes_to_text) l.text text_holds.0 text_holds.2 text_is code_sized (is_aligned goes_to_text);
    rodata = filled map_of.rodata.start (aligned 4096 map_of.text.end) map_of.rodata.end (spelled p) (region goes_to_rodata) l.rodata rodata_holds.0 rodata_holds.2 rodata_is (data_sized goes_to_rodata not_rodata) (is_aligned goes_to_rodata);
    «data» = filled map_of.data.start (aligned 4096 map_of.rodata.end) map_of.data.end (spelled p) (region goes_to_data) l.data data_holds.0 data_holds.2 data_is (data_sized goes_to_data not_data) (is_aligned goes_to_data);
    rodata_after = subst (λ x. map_of.text.end ≤ x) (sym rodata_holds.0) (above 4096 map_of.text.end (omega arith));
    data_after = subst (λ x. map_of.rodata.end ≤ x) (sym data_holds.0) (above 4096 map_of.rodata.end (omega arith));
    bss_after = subst (λ x. map_of.data.end ≤ x) (sym bss_holds.0) (above (greatest (region goes_to_bss)) map_of.data.end (some_alignment (region goes_to_bss)));
    bss_ends = subst (λ x. map_of.bss.start ≤ x) (sym bss_holds.2) (subst (λ x. x ≤ layout_end (aligned (greatest (region goes_to_bss)) map_of.data.end) (region goes_to_bss)) (sym bss_holds.0) (end_above (region goes_to_bss) (aligned (greatest (region goes_to_bss)) map_of.data.end) (is_aligned goes_to_bss)));
    below = subst (λ x. map_of.bss.end ≤ free_until x) (sym text_holds.0) h.below;
  }

  module _ (reader : Reader Spells StandsFor) where
    -- where the statements of each region stand, and that memory holds their bytes
    abbrev In : (Section → Bool) → (Mapped → Type 0) → Mapped → Type 0
    In goes P s = goes s.located.home ≡ true → P s

    same_end : (n k : ℕ) → n ≡ k → k ≤ n
    same_end n k e = omega arith

    lies : (goes : Section → Bool) (start place stop : ℕ) → start ≡ place → Stand place (region goes) → stop ≡ layout_end place (region goes) → AllByRecursion (In goes (LiesIn start stop)) p.mapped
    lies goes start place stop at stand ends =
        from_blocks map_of.drops p.mapped sources goes (LiesIn start stop) at_home
        (lie_blocks (region goes) place start stop (is_aligned goes) stand (same_end place start (sym at)) (same_end stop (layout_end place (region goes)) ends))

    held : (goes : Section → Bool) (bytes : Mapped → List ℕ) (start place : ℕ) (stored : List ℕ) → start ≡ place → Stand place (region goes) → stored ≡ contents bytes start (region goes) → AllIn (Sized bytes) (region goes) → HasBytes m start stored
        → AllByRecursion (In goes (λ s. HasBytes m s.row.address (bytes s))) p.mapped
    held goes bytes start place stored at stand is sized has =
        from_blocks map_of.drops p.mapped sources goes (λ s. HasBytes m s.row.address (bytes s)) at_home
        (held_blocks bytes m (region goes) start sized (is_aligned goes) (subst (λ x. Stand x (region goes)) (sym at) stand) (subst (HasBytes m start) is has))

    abbrev Whole : Mapped → Type 0
    Whole s =
        IsAtHome map_of.drops sections s × (Fitting s × ((IsTrue s.located.home.executable → IsWritten p s (code s))
        × (In goes_to_text (LiesIn map_of.text.start map_of.text.end) s × (In goes_to_text (λ s. HasBytes m s.row.address (code s)) s
        × (In goes_to_rodata (LiesIn map_of.rodata.start map_of.rodata.end) s × (In goes_to_rodata (λ s. HasBytes m s.row.address (spelled p s)) s
        × (In goes_to_data (LiesIn map_of.data.start map_of.data.end) s × (In goes_to_data (λ s. HasBytes m s.row.address (spelled p s)) s
        × In goes_to_bss (LiesIn map_of.bss.start map_of.bss.end) s))))))))

    whole : AllByRecursion Whole p.mapped
    whole =
        each_pair (IsAtHome map_of.drops sections) _ p.mapped at_home
        (each_pair Fitting _ p.mapped fitting
        (each_pair (λ s. IsTrue s.located.home.executable → IsWritten p s (code s)) _ p.mapped h.written
        (each_pair (In goes_to_text (LiesIn map_of.text.start map_of.text.end)) _ p.mapped (lies goes_to_text map_of.text.start a map_of.text.end text_holds.0 text_holds.1 text_holds.2)
        (each_pair (In goes_to_text (λ s. HasBytes m s.row.address (code s))) _ p.mapped (held goes_to_text code map_of.text.start a l.text text_holds.0 text_holds.1 text_is code_sized (text_held l are_regions))
        (each_pair (In goes_to_rodata (LiesIn map_of.rodata.start map_of.rodata.end)) _ p.mapped (lies goes_to_rodata map_of.rodata.start (aligned 4096 map_of.text.end) map_of.rodata.end rodata_holds.0 rodata_holds.1 rodata_holds.2)
        (each_pair (In goes_to_rodata (λ s. HasBytes m s.row.address (spelled p s))) _ p.mapped (held goes_to_rodata (spelled p) map_of.rodata.start (aligned 4096 map_of.text.end) l.rodata rodata_holds.0 rodata_holds.1 rodata_is (data_sized goes_to_rodata not_rodata) (rodata_held l are_regions))
        (each_pair (In goes_to_data (LiesIn map_of.data.start map_of.data.end)) _ p.mapped (lies goes_to_data map_of.data.start (aligned 4096 map_of.rodata.end) map_of.data.end data_holds.0 data_holds.1 data_holds.2)
        (each_pair (In goes_to_data (λ s. HasBytes m s.row.address (spelled p s))) (In goes_to_bss (LiesIn map_of.bss.start map_of.bss.end)) p.mapped (held goes_to_data (spelled p) map_of.data.start (aligned 4096 map_of.rodata.end) l.data data_holds.0 data_holds.1 data_is (data_sized goes_to_data not_data) (data_held l are_regions))
        (lies goes_to_bss map_of.bss.start (aligned (greatest (region goes_to_bss)) map_of.data.end) map_of.bss.end bss_holds.0 bss_holds.1 bss_holds.2)))))))))

    -- the ends of the regions in their order
    text_room : map_of.text.end ≤ highest
    text_room =
        let r = are_regions in
        let e1 = r.rodata_after in
        let e2 = r.rodata in
        let e3 = r.data_after in
        let e4 = r.data in
        let e5 = r.bss_after in
        let e6 = r.bss_ends in
        let e7 : map_of.bss.end ≤ highest = le_trans r.below (free_low map_of.text.start) in
        omega arith

    rodata_past : map_of.text.end ≤ map_of.rodata.start
    rodata_past = are_regions.rodata_after

    data_past : map_of.text.end ≤ map_of.data.start
    data_past =
        let r = are_regions in
        let e1 = r.rodata_after in
        let e2 = r.rodata in
        let e3 = r.data_after in
        omega arith

    bss_past : map_of.text.end ≤ map_of.bss.start
    bss_past =
        let r = are_regions in
        let e1 = data_past in
        let e2 = r.data in
        let e3 = r.bss_after in
        omega arith

    -- a statement of code stands in the text, with the bytes of its instructions
    abbrev pub StandsInText : Mapped → Type 0
    StandsInText s =
        LiesIn map_of.text.start map_of.text.end s
        × (HasBytes m s.row.address (code s) × (IsWritten p s (code s) × IsRowOf (expansion p s) s.row))

    stands : (s : Mapped) → Whole s → s.located.home.executable ≡ true → StandsInText s
    stands s (home, (fits, (written, (tl, (th, (rl, (rh, (dl, (dh, bl))))))))) runs =
        let good = and_from s.located.home.loaded s.located.home.executable home.1 runs in (
          tl good,
          (
            th good,
            (
              written runs,
              statement_code p s.located.file s.located.ordinal s.located.section s.located.offset s.located.line s.located.home s.located.options s.located.placed s.row s.located.kind fits.0 fits.1 runs,
            ),
          ),
        )

    pub code_stands : AllByRecursion (λ s. s.located.home.executable ≡ true → StandsInText s) p.mapped
    code_stands = each_map Whole (λ s. s.located.home.executable ≡ true → StandsInText s) p.mapped stands whole

    -- every other statement stands behind the text
    behind : (s : Mapped) → Whole s → s.located.home.executable ≡ false → map_of.text.end ≤ s.row.address
    behind s (home, (fits, (written, (tl, (th, (rl, (rh, (dl, (dh, bl))))))))) other =
        elim (one_case_of_four s.located.home.loaded s.located.home.executable (is_nobits s.located.home) s.located.home.writable home.1) [
          | inl good ↦ true_false s.located.home.executable (and_parts s.located.home.loaded s.located.home.executable good).1 other
          | inr more ↦ elim more [
            | inl good ↦ (let low = (rl good).0 in let e = rodata_past in omega arith)
            | inr more ↦ elim more [
              | inl good ↦ (let low = (dl good).0 in let e = data_past in omega arith)
              | inr good ↦ (let low = (bl good).0 in let e = bss_past in omega arith)
            ]
          ]
        ]

    pub data_stands : AllByRecursion (λ s. s.located.home.executable ≡ false → map_of.text.end ≤ s.row.address) p.mapped
    data_stands = each_map Whole (λ s. s.located.home.executable ≡ false → map_of.text.end ≤ s.row.address) p.mapped behind whole

    text_runs : (x : ℕ) → map_of.text.start ≤ x → Runs m x map_of.text.end
    text_runs x low y l' u =
        let low' : map_of.text.start ≤ y = omega arith in
        let inside : is_within map_of.text.start map_of.text.end y ≡ true = grind (arith, nat_tests) in
        rights-are l are_regions y Execute ∙ inside

    -- a row of the text holds its lines
    row_holds : (s : Mapped) → Whole s → is_in map_of.text s.row.address ≡ true → HoldsLines reader m p s
    row_holds s (home, (fits, (written, (tl, (th, (rl, (rh, (dl, (dh, bl))))))))) inside =
        elim (one_case_of_four s.located.home.loaded s.located.home.executable (is_nobits s.located.home) s.located.home.writable home.1) [
          | inl good ↦
              let x = (and_parts s.located.home.loaded s.located.home.executable good).1 in
              let lie = tl good in
              holds_written reader m map_of.text.end (let e = text_room in omega arith) p s (code s) (written x) (th good) (text_runs s.row.address lie.0) lie.1 fits.0
              (statement_code p s.located.file s.located.ordinal s.located.section s.located.offset s.located.line s.located.home s.located.options s.located.placed s.row s.located.kind fits.0 fits.1 x)
          | inr other ↦ elim other [
            | inl good ↦ past map_of.text.start map_of.text.end map_of.rodata.start s.row.address inside rodata_past (rl good).0
            | inr other ↦ elim other [
              | inl good ↦ past map_of.text.start map_of.text.end map_of.data.start s.row.address inside data_past (dl good).0
              | inr good ↦ past map_of.text.start map_of.text.end map_of.bss.start s.row.address inside bss_past (bl good).0
            ]
          ]
        ]

    -- a byte that its row spells
    spelled_at : (s : Mapped) (x : ℕ) → Sized (spelled p) s → HasBytes m s.row.address (spelled p s) → is_within s.row.address (s.row.address + s.row.bytes) x ≡ true → m.byte x ≡ slice_index (spelled p s) (x - s.row.address)
    spelled_at s x sized has inside =
        let parts = within_parts s.row.address (s.row.address + s.row.bytes) x inside in
        let at : s.row.address + (x - s.row.address) ≡ x = omega arith in
        let short : x - s.row.address < s.row.bytes = omega arith in
        ap (λ y. m.byte y) (sym at) ∙ byte_at m (spelled p s) s.row.address (x - s.row.address) has (subst (λ n. x - s.row.address < n) (sym sized) short)

    -- text cannot be read
    unreadable : (x : ℕ) → is_in map_of.text x ≡ true → right_at map_of x Read ≡ false
    unreadable x inside =
        let parts = within_parts map_of.text.start map_of.text.end x inside in
        let r = are_regions in
        let e1 = rodata_past in
        let e2 = data_past in
        let f1 : is_within map_of.rodata.start map_of.rodata.end x ≡ false = apart map_of.text.start map_of.text.end map_of.rodata.start map_of.rodata.end x e1 inside in
        let f2 : is_within map_of.data.start map_of.bss.end x ≡ false = apart map_of.text.start map_of.text.end map_of.data.start map_of.bss.end x e2 inside in
        let f3 : is_within stack_start stack_end x ≡ false = text_off_stack l are_regions x inside in
        ap (λ b. b || is_within map_of.data.start map_of.bss.end x || is_within stack_start stack_end x) f1 ∙ ap (λ b. false || b || is_within stack_start stack_end x) f2 ∙ ap (λ b. false || false || b) f3

    unwritten : (x : ℕ) → is_in map_of.text x ≡ true → right_at map_of x Write ≡ false
    unwritten x inside =
        let e2 = data_past in
        let f2 : is_within map_of.data.start map_of.bss.end x ≡ false = apart map_of.text.start map_of.text.end map_of.data.start map_of.bss.end x e2 inside in
        let f3 : is_within stack_start stack_end x ≡ false = text_off_stack l are_regions x inside in
        ap (λ b. b || is_within stack_start stack_end x) f2 ∙ ap (λ b. false || b) f3

    wider : (low high a' b' x : ℕ) → low ≤ a' → b' ≤ high → is_within a' b' x ≡ true → is_within low high x ≡ true
    wider low high a' b' x lo hi inside =
        let parts = within_parts a' b' x inside in
        grind (arith, nat_tests)

    -- after the data there are zeros up to the end of bss
    bss_zero : (x : ℕ) → map_of.data.end ≤ x → x < map_of.bss.end → m.byte x ≡ 0
    bss_zero x low high =
        let e1 = are_regions.bss_after in
        let e2 = are_regions.bss_ends in
        byte_zero m (map_of.bss.end - map_of.data.end) map_of.data.end x (bss_held l are_regions) low (omega arith)

    -- a row over a byte that can be read spells it
    row_spells : (s : Mapped) (x : ℕ) → Whole s → right_at map_of x Read ≡ true → is_within s.row.address (s.row.address + s.row.bytes) x ≡ true → m.byte x ≡ slice_index (spelled p s) (x - s.row.address)
    row_spells s x (home, (fits, (written, (tl, (th, (rl, (rh, (dl, (dh, bl))))))))) readable inside =
        let st = s.located in
        elim (one_case_of_four s.located.home.loaded s.located.home.executable (is_nobits s.located.home) s.located.home.writable home.1) [
          | inl good ↦ true_false (right_at map_of x Read) readable (unreadable x (wider map_of.text.start map_of.text.end s.row.address (s.row.address + s.row.bytes) x (tl good).0 (tl good).1 inside))
          | inr other ↦ elim other [
            | inl good ↦ spelled_at s x (statement_data p s.located.file s.located.ordinal s.located.section s.located.offset s.located.line s.located.home s.located.options s.located.placed s.row s.located.kind fits.0 fits.1 (not_rodata s.located.home good)) (rh good) inside
            | inr other ↦ elim other [
              | inl good ↦ spelled_at s x (statement_data p s.located.file s.located.ordinal s.located.section s.located.offset s.located.line s.located.home s.located.options s.located.placed s.row s.located.kind fits.0 fits.1 (not_data s.located.home good)) (dh good) inside
              | inr good ↦
                  let parts = within_parts map_of.bss.start map_of.bss.end x (wider map_of.bss.start map_of.bss.end s.row.address (s.row.address + s.row.bytes) x (bl good).0 (bl good).1 inside) in
                  let e1 = are_regions.bss_after in
                  bss_zero x (omega arith) parts.1
                  ∙ sym (statement_zeros p s.located.file s.located.ordinal s.located.section s.located.offset s.located.line s.located.home s.located.options s.located.placed s.row s.located.kind fits.1 (no_stored s.located.home.loaded s.located.home.executable (is_nobits s.located.home) good) (x - s.row.address))
            ]
          ]
        ]

    missed : (goes : Section → Bool) (x : ℕ) → AllByRecursion (Misses x) p.mapped → AllIn (Misses x) (region goes)
    missed goes x none = to_blocks map_of.drops p.mapped sources goes (Misses x) at_home (each_map (Misses x) (In goes (Misses x)) p.mapped (λ s e good. e) none)

    -- no row lies over a byte that can be read: it is zero
    region_zero : (goes : Section → Bool) (start place stop x : ℕ) (stored : List ℕ) → start ≡ place → Stand place (region goes) → stop ≡ layout_end place (region goes) → stored ≡ contents (spelled p) start (region goes) → AllIn (Sized (spelled p)) (region goes) → HasBytes m start stored
        → AllByRecursion (Misses x) p.mapped → start ≤ x → x < stop → m.byte x ≡ 0
    region_zero goes start place stop x stored at stand ends is sized has none low high =
        zero_blocks (spelled p) m (region goes) start x sized (is_aligned goes) (subst (λ y. Stand y (region goes)) (sym at) stand) (subst (HasBytes m start) is has) (missed goes x none) low
        (subst (λ y. x < y) (ends ∙ ap (λ y. layout_end y (region goes)) (sym at)) high)

    none_zero : (x : ℕ) → AllByRecursion (Misses x) p.mapped → right_at map_of x Read ≡ true → m.byte x ≡ 0
    none_zero x none readable =
        elim (or_three (is_in map_of.rodata x) (is_within map_of.data.start map_of.bss.end x) (is_within stack_start stack_end x) readable) [
          | inl inside ↦
              let parts = within_parts map_of.rodata.start map_of.rodata.end x inside in
              region_zero goes_to_rodata map_of.rodata.start (aligned 4096 map_of.text.end) map_of.rodata.end x l.rodata rodata_holds.0 rodata_holds.1 rodata_holds.2 rodata_is (data_sized goes_to_rodata not_rodata) (rodata_held l are_regions) none parts.0 parts.1
          | inr other ↦ elim other [
            | inl inside ↦
                let parts = within_parts map_of.data.start map_of.bss.end x inside in
                elim (cases_lt x map_of.data.end) [
                  | inl low ↦ region_zero goes_to_data map_of.data.start (aligned 4096 map_of.rodata.end) map_of.data.end x l.data data_holds.0 data_holds.1 data_holds.2 data_is (data_sized goes_to_data not_data) (data_held l are_regions) none parts.0 low
                  | inr high ↦ bss_zero x high parts.1
                ]
            | inr inside ↦ (let parts = within_parts stack_start stack_end x inside in stack_zero l are_regions x parts.0 parts.1)
          ]
        ]

    -- each byte that can be read is what the data statements spell, and zero everywhere else
    bytes_are : (x : ℕ) → right_at map_of x Read ≡ true → m.byte x ≡ first_byte p x
    bytes_are x readable = go (find over p.mapped) refl
      where
        over : Mapped → Bool
        over s = is_within s.row.address (s.row.address + s.row.bytes) x

        go : (o : Option Mapped) → find over p.mapped ≡ o → m.byte x ≡ byte_of p o x
        go (Some s) e = (let found = all_found Whole over p.mapped s e whole in row_spells s x found.0 readable found.1)
        go None e = none_zero x (none_found over p.mapped e) readable

    rows_hold : (pc : ℕ) (s : Mapped) → place p pc ≡ Starts s → HoldsLines reader m p s
    rows_hold pc s e =
        let starts = starts_when (is_in map_of.text pc) (list_any (λ gap. is_in gap pc) map_of.gaps) (found p.mapped pc) s e in
        let there = all_found Whole (λ (k : Mapped). nat_lt 0 k.row.bytes && (k.row.address == pc)) p.mapped s starts.1 whole in
        let here : s.row.address ≡ pc = eqb-true s.row.address pc (and_parts (nat_lt 0 s.row.bytes) (s.row.address == pc) there.1).1 in
        row_holds s there.0 (subst (λ x. is_in map_of.text x ≡ true) (sym here) starts.0)

    gaps_blank : (pc : ℕ) → pc % 2 ≡ 0 → place p pc ≡ Gap → IsBlank m map_of.text.start map_of.text.end pc
    gaps_blank pc even e =
        let inside : list_any (λ (gap : Region). is_in gap pc) map_of.gaps ≡ true = (gap_when (is_in map_of.text pc) (list_any (λ gap. is_in gap pc) map_of.gaps) (found p.mapped pc) e).1 in
        let bs = region goes_to_text in
        let there : IsBlank m a (layout_end a bs) pc =
        gap_blank code m bs a pc code_sized (is_aligned goes_to_text) (even_files map_of.drops p.mapped 1 sources) text_holds.1
        (subst (λ x. HasBytes m x (contents code x bs)) text_holds.0 (subst (HasBytes m map_of.text.start) text_is (text_held l are_regions))) even
        (subst (λ gaps. list_any (λ (gap : Region). is_in gap pc) gaps ≡ true) h.fits.gaps inside) in
        subst (λ x. IsBlank m x map_of.text.end pc) (sym text_holds.0) (subst (λ x. IsBlank m a x pc) (sym text_holds.2) there)

    gaps_spell : (pc : ℕ) → pc % 2 ≡ 0 → place p pc ≡ Gap → fetch reader m pc ≡ NoInstruction
    gaps_spell pc even e =
        let blank = gaps_blank pc even e in
        let low = blank.starts in
        let high = blank.room in
        let room = text_room in
        let runs = text_runs pc low in
        fetch-zeros reader m pc (omega arith) (may_all m 2 pc (λ x from up. runs x from (omega arith)) (omega arith)) blank.first blank.second

    pub realizes_linked : Realizes reader m p
    realizes_linked = record {
      rows = λ pc s u e. rows_hold pc s e;
      gaps = λ pc u even e. gaps_spell pc even e;
      outside = λ pc u e. outside_when (is_in map_of.text pc) (list_any (λ gap. is_in gap pc) map_of.gaps) (found p.mapped pc) e;
      rights = λ x u right. rights-are l are_regions x right;
      bytes = λ x u readable. bytes_are x readable;
      fixed = λ x u inside. unwritten x inside;
    }

    -- where its segments lie
    pub lies_linked : (x : ℕ) → is_some (segment_at (linked_image l).segments x) ≡ lies_at map_of x
    lies_linked = lies-are l are_regions

    -- the entry is the place of a label in the text
    lies_in_text : AllByRecursion (In goes_to_text (LiesIn map_of.text.start map_of.text.end)) p.mapped
    lies_in_text = lies goes_to_text map_of.text.start a map_of.text.end text_holds.0 text_holds.1 text_holds.2

    abbrev IsInText : MaybeMapped → Type 0
    IsInText = Seated (In goes_to_text (LiesIn map_of.text.start map_of.text.end))

    entry_of : (o : Option Export) → chosen p (codes "_start") ≡ o → option_and_then run_start o ≡ Some map_of.entry → map_of.entry ≤ map_of.text.end
    entry_of None e there = absurd (cc)
    entry_of (Some x) e there = begins (is_label x.statement.located.kind && goes_to_text x.statement.located.home) refl there
      where
        found : IsInText x.statement
        found = (all_found (λ (y : Export). IsInText y.statement) (λ (y : Export). bytes_eq y.name (codes "_start")) (candidates p) x e (all_candidates IsInText p (seated_all _ p.statements lies_in_text))).0

        at_row : (o : Option Row) → x.statement.row ≡ o → goes_to_text x.statement.located.home ≡ true → option_map (λ (r : Row). r.address) o ≡ Some map_of.entry → map_of.entry ≤ map_of.text.end
        at_row None none goes same = absurd (cc)
        at_row (Some r) some goes same =
            let lie = found r some goes in
            let here : r.address ≡ map_of.entry = cc in
            omega arith

        begins : (b : Bool) → (is_label x.statement.located.kind && goes_to_text x.statement.located.home) ≡ b → (if b then address_of x.statement else None) ≡ Some map_of.entry → map_of.entry ≤ map_of.text.end
        begins true good same = at_row x.statement.row refl (and_parts (is_label x.statement.located.kind) (goes_to_text x.statement.located.home) good).1 same
        begins false good same = absurd (cc)

    pub entry_low : map_of.entry < 2 ^ 64
    entry_low =
        let low = entry_of (chosen p (codes "_start")) refl h.resolves.entry in
        let room = text_room in
        omega arith

-- a linked program runs as its sources do, for every input and every limit
pub linked_agrees : (a : ℕ) (sources : List (List Statement)) (relax gc : Bool) (l : Linked) → IsLinked sources a relax gc l → RunsAgree sources l.map (linked_image l)
linked_agrees a sources relax gc l h reader input bytes n =
    agreement_of_image sources l.map (mem_of (linked_image l)) l.map.entry (λ r. realizes_linked sources a relax gc l h r) refl (entry_low sources a relax gc l h reader) h.resolves.even reader input n
