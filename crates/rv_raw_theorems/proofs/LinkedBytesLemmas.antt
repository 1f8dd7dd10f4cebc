-- What is linked of a raw listing's statements has the bytes of its instructions, and begins where its entry stands.

use Rattle.std.proofs.Common.{◌≡◌, ℕ, suc, ◌+◌, ◌-◌, ◌%◌, Bool, true, false, List, [], ◌∷◌, ◌++◌, map, length, Option, Some, None, option_and_then, refl, sym, ◌∙◌, ap, subst, arith}
use Rattle.std.specs.Prelude.{⊤, IsTrue, ◌&&◌, ◌==◌, if◌then◌else◌, codes, flat_map, filter, bytes_eq}
use Rattle.std.specs.List.{AllByRecursion}
use Rattle.std.proofs.lemmas.List.{append-nil, length-append}
use Rattle.rv_isa_laws.specs.Bytes.{zeros}
use Rattle.rv_size_laws.specs.Alignment.{aligned}
use Rattle.rv_size_laws.specs.Branches.{IsLeastGood}
use Rattle.rv_map_laws.specs.declared.map.Row.{Row}
use Rattle.rv_collect_laws.specs.Graph.{is_dropped}
use Rattle.rv_statement_laws.specs.Statement.{StatementKind, Statement}
use Rattle.rv_unit_laws.specs.Bindings.{bindings_of}
use Rattle.rv_unit_laws.specs.Sections.{Section, goes_to_text, text_section}
use Rattle.rv_unit_laws.specs.Tables.{Tables, opened_of, tables}
use Rattle.rv_image_laws.specs.Linked.{Linked}
use Rattle.rv_source_laws.specs.Located.{without_address, left, has_row}
use Rattle.rv_source_laws.specs.Program.{MaybeMapped, Mapped, Program, Export, program, mapped_statements, mapped_of, address_of, candidates, chosen}
use Rattle.rv_source_laws.specs.Lines.{form_at}
use Rattle.rv_source_laws.specs.Fits.{identity_of_row, identity_of, InputSection, mapped_in, input_section, input_sections, input_sections_of_file, Follow, Stand}
use Rattle.rv_source_laws.specs.Resolves.{is_label, run_start}
use Rattle.rv_source_laws.specs.Sized.{statements_in, HaveSizes}
use Rattle.rv_source_laws.specs.Sizes.{items_of}
use Rattle.rv_chain_laws.specs.Contents.{IsWritten, contents, IsLinked}
use Rattle.rv_runs_theorems.proofs.ContentsLemmas.{all_found, all_candidates, lines_length}
use Rattle.rv_raw_theorems.proofs.WrittenCodesLemmas.{code_kind}
use Rattle.rv_raw_theorems.proofs.StatementPlacesLemmas.{source_of, Turns, raw_tables, tables_are, place, whole, located_are, home_of, left_is, IsHome, whole_home, all_statements, seats, site, sites, heads, statements_are, mapped_are, count_rows, rows_are, all_inside, IsFound, all_are_found}
use Rattle.rv_raw_theorems.proofs.StepsLemmas.{Step, A_code, The_entry, kind_of, bytes_at, IsSpoken, kinds_of, all_placed, told, at_seat, IsFullStep, step_written}
use Rattle.rv_raw_theorems.proofs.BranchesLemmas.{AreFull, all_full}

-- ---- the section is not dropped

run_home : (x : Export) (home : Section) (a : ℕ) → x.statement.located.home ≡ home → run_start x ≡ Some a → goes_to_text home ≡ true
run_home x home a is e = go (is_label x.statement.located.kind) (goes_to_text x.statement.located.home) (ap goes_to_text is) e
  where
    go : (label goes : Bool) → goes ≡ goes_to_text home → (if label && goes then address_of x.statement else None) ≡ Some a → goes_to_text home ≡ true
    go true true same f = sym same
    go true false same f = absurd (cc)
    go false goes same f = absurd (cc)

kept_home : (dropped : Bool) → goes_to_text (without_address dropped text_section) ≡ true → dropped ≡ false
kept_home true e = absurd (cc)
kept_home false e = refl

-- what a run begins at is a statement's
begun : (o : Option Export) (a : ℕ) → option_and_then run_start o ≡ Some a → (x : Export) × ((o ≡ Some x) × (run_start x ≡ Some a))
begun None a e = absurd (cc)
begun (Some x) a e = (x, (refl, e))

-- ---- where the entry is

-- a label is at an address
abbrev IsAt : ℕ → MaybeMapped → Type 0
IsAt a e = is_label e.located.kind ≡ true → address_of e ≡ Some a

run_label : (x : Export) (a target : ℕ) → IsAt target x.statement → run_start x ≡ Some a → a ≡ target
run_label x a target at e = go (is_label x.statement.located.kind) (goes_to_text x.statement.located.home) at e
  where
    go : (label goes : Bool) → (label ≡ true → address_of x.statement ≡ Some target) → (if label && goes then address_of x.statement else None) ≡ Some a → a ≡ target
    go true true there f = let g : address_of x.statement ≡ Some target = there refl in cc
    go true false there f = absurd (cc)
    go false goes there f = absurd (cc)

-- an instruction
abbrev pub IsInstruction : Step → Type 0
IsInstruction (A_code code) = ⊤
IsInstruction The_entry = ⊥

no_label : (step : Step) → IsInstruction step → is_label (kind_of step) ≡ false
no_label (A_code code) h = ap is_label (code_kind code).1.1
no_label The_entry h = absurd h

unlabelled : (b : Bool) {A : Type 0} → b ≡ false → b ≡ true → A
unlabelled true e f = absurd (cc)
unlabelled false e f = absurd (cc)

none_at : (a n line : ℕ) (steps : List Step) (rows : List Row) → AllByRecursion IsInstruction steps → AllByRecursion (IsAt a) (seats n line (kinds_of steps) rows)
none_at a n line [] rows h = tt
none_at a n line (s ∷ ss) [] h = tt
none_at a n line (s ∷ ss) (r ∷ rs) h = (λ e. unlabelled (is_label (kind_of s)) (no_label s h.0) e, none_at a (suc n) (line + 1) ss rs h.1)

-- the rows have the bytes
abbrev AreLong : List Step → List Row → Type 0
AreLong [] rows = ⊤
AreLong (s ∷ ss) [] = ⊤
AreLong (s ∷ ss) (r ∷ rs) = (length (bytes_at s) ≡ r.bytes) × AreLong ss rs

entry_at : (target a n line : ℕ) (before after : List Step) (rows : List Row) → AllByRecursion IsInstruction before → AllByRecursion IsInstruction after
    → AreLong (before ++ The_entry ∷ after) rows → Follow a rows → target ≡ a + length (flat_map bytes_at before)
    → AllByRecursion (IsAt target) (seats n line (kinds_of (before ++ The_entry ∷ after)) rows)
entry_at target a n line [] after [] earlier later long follow is = tt
entry_at target a n line [] after (r ∷ rs) earlier later long follow is =
    let here : r.address ≡ target = (let there = follow.0 in omega (arith, is, there)) in
    (λ e. ap Some here, none_at target (suc n) (line + 1) after rs later)
entry_at target a n line (s ∷ ss) after [] earlier later long follow is = tt
entry_at target a n line (s ∷ ss) after (r ∷ rs) earlier later long follow is =
    let joined : length (flat_map bytes_at (s ∷ ss)) ≡ length (bytes_at s) + length (flat_map bytes_at ss) = length-append (bytes_at s) (flat_map bytes_at ss) in
    let size = long.0 in
    let next : target ≡ a + r.bytes + length (flat_map bytes_at ss) = omega (arith, is, joined, size) in (
      λ e. unlabelled (is_label (kind_of s)) (no_label s earlier.0) e,
      entry_at target (a + r.bytes) (suc n) (line + 1) ss after rs earlier.1 later long.1 follow.1 next,
    )

-- ---- one section

aligned_even : (n : ℕ) → n % 4096 ≡ 0 → aligned 2 n - n ≡ 0
aligned_even n e = omega (arith, e)

aligned_here : (n : ℕ) → n % 4096 ≡ 0 → aligned 2 n ≡ n
aligned_here n e = omega (arith, e)

-- the section of the source, where it is kept
one_section : (t : Tables) (mapped : List Mapped) (dropped : Bool) → dropped ≡ false
    → (if goes_to_text (without_address dropped text_section) then input_section t text_section mapped 1 0 ∷ [] else []) ≡ input_section t text_section mapped 1 0 ∷ []
one_section t mapped true e = absurd (cc)
one_section t mapped false e = refl

-- ---- one file

seats_file : (n line : ℕ) (ks : List StatementKind) (rows : List Row) → filter (λ (e : MaybeMapped). e.located.file == 1) (seats n line ks rows) ≡ seats n line ks rows
seats_file n line [] rows = refl
seats_file n line (k ∷ ks) [] = refl
seats_file n line (k ∷ ks) (r ∷ rs) = ap (λ xs. record { located = place text_section n line k; row = Some r } ∷ xs) (seats_file (suc n) (line + 1) ks rs)

one_file : (n line : ℕ) (ks : List StatementKind) (rows : List Row) → filter (λ (e : MaybeMapped). e.located.file == 1) (heads (seats n line ks rows)) ≡ heads (seats n line ks rows)
one_file n line ks rows = ap heads (seats_file n line ks rows)

-- ---- a linked program

module _ (before after : List Step) (earlier : AllByRecursion IsInstruction before) (later : AllByRecursion IsInstruction after) (spoken : AllByRecursion IsSpoken (before ++ The_entry ∷ after))
    (start : ℕ) (relax gc : Bool) (l : Linked) (low : start % 4096 ≡ 0) where
  abbrev steps : List Step
  steps = before ++ The_entry ∷ after

  abbrev ks : List StatementKind
  ks = kinds_of steps

  abbrev sources : List (List Statement)
  sources = source_of ks ∷ []

  module _ (h : IsLinked sources start relax gc l) where
    abbrev p : Program
    p = program sources l.map

    abbrev rows : List Row
    rows = l.map.rows

    turns : Turns (bindings_of (source_of ks)) (tables (source_of ks))
    turns = tables_are ks (all_placed steps)

    -- its section is kept
    kept : is_dropped l.map.drops 1 0 ≡ false
    kept =
        let start_at = begun (chosen p (codes "_start")) l.map.entry h.resolves.entry in
        let x = start_at.0 in
        let homes : AllByRecursion (λ (e : MaybeMapped). IsHome (home_of l.map.drops) e.located) p.statements =
        subst (λ ss. AllByRecursion (λ (e : MaybeMapped). IsHome (home_of l.map.drops) e.located) (mapped_statements ss rows)) (sym (left_is l.map.drops ks (all_placed steps)))
        (all_statements (IsHome (home_of l.map.drops)) (whole (home_of l.map.drops) ks) rows (whole_home (home_of l.map.drops) ks)) in
        let home = all_found (λ (y : Export). IsHome (home_of l.map.drops) y.statement.located) (λ (y : Export). bytes_eq y.name (codes "_start")) (candidates p) x start_at.1.0
        (all_candidates (λ (e : MaybeMapped). IsHome (home_of l.map.drops) e.located) p homes) in
        kept_home (is_dropped l.map.drops 1 0) (run_home x (home_of l.map.drops) l.map.entry home.0 start_at.1.1)

    left_whole : left l.map.drops sources ≡ whole text_section ks
    left_whole = left_is l.map.drops ks (all_placed steps) ∙ ap (λ b. whole (without_address b text_section) ks) kept

    count : length rows ≡ length ks
    count = count_rows ks rows (subst (λ ss. map identity_of_row rows ≡ map identity_of (filter has_row ss)) left_whole h.fits.rows)

    statements : p.statements ≡ heads (seats 4 4 ks rows)
    statements = ap (λ ss. mapped_statements ss rows) left_whole ∙ statements_are ks rows count

    mapped : p.mapped ≡ sites 4 4 ks rows
    mapped = ap mapped_of statements ∙ mapped_are 4 4 ks rows

    -- ---- the bytes of each statement

    least : AreFull (bindings_of (source_of ks)) turns.0 (whole text_section ks) steps rows
    least =
        let sized = h.sized.0 in
        let all_in : statements_in p 1 ≡ heads (seats 4 4 ks rows) = ap (filter (λ (e : MaybeMapped). e.located.file == 1)) statements ∙ one_file 4 4 ks rows in
        all_full (bindings_of (source_of ks)) turns.0 p steps rows sized.sizes count spoken
        (subst (λ es. HaveSizes p es sized.sizes) all_in sized.has)
        (subst (λ t. IsLeastGood (items_of t (whole text_section ks) (whole text_section ks) sized.sizes) sized.sizes) turns.1
        (subst (λ ss. IsLeastGood (items_of (tables (source_of ks)) ss ss sized.sizes) sized.sizes) (located_are ks (all_placed steps)) sized.least))

    abbrev IsCode : Mapped → Type 0
    IsCode s = IsTrue s.located.home.executable → IsWritten p s (h.code s)

    abbrev There : Mapped → Type 0
    There = IsFound 4 (heads (seats 4 4 ks rows))

    one_written : (n line : ℕ) (step : Step) (r : Row) → IsCode (site n line (kind_of step) r) → There (site n line (kind_of step) r) → IsFullStep step r.bytes → IsSpoken step → h.code (site n line (kind_of step) r) ≡ bytes_at step
    one_written n line step r written there full says =
        step_written p n line step r (h.code (site n line (kind_of step) r)) (written refl)
        (told ks l.map turns n line (kind_of step) r (at_seat ks l.map turns (heads (seats 4 4 ks rows)) n line (kind_of step) r statements there)) says full

    texts_from : (n line : ℕ) (ss : List Step) (rs : List Row) → length rs ≡ length (kinds_of ss) → AllByRecursion IsCode (sites n line (kinds_of ss) rs) → AllByRecursion There (sites n line (kinds_of ss) rs)
        → AreFull (bindings_of (source_of ks)) turns.0 (whole text_section ks) ss rs → AllByRecursion IsSpoken ss
        → (flat_map h.code (sites n line (kinds_of ss) rs) ≡ flat_map bytes_at ss) × AreLong ss rs
    texts_from n line [] rs e written there full says = (refl, tt)
    texts_from n line (s ∷ ss) [] e written there full says = absurd (omega (arith, e))
    texts_from n line (s ∷ ss) (r ∷ rs) e written there full says =
        let here = one_written n line s r written.0 there.0 full.0 says.0 in
        let more = texts_from (suc n) (line + 1) ss rs (omega (arith, e)) written.1 there.1 full.1 says.1 in
        let k = site n line (kind_of s) r in
        let w = written.0 refl in
        let size : r.address + length (h.code k) ≡ r.address + r.bytes = lines_length (form_at p k) w.lines r.address (r.address + r.bytes) (h.code k) w.are_lines.1 w.encoded in
        let same : length (h.code k) ≡ length (bytes_at s) = ap length here in
        let long : length (bytes_at s) ≡ r.bytes = omega (arith, size, same) in (
          ap (λ x. x ++ flat_map h.code (sites (suc n) (line + 1) (kinds_of ss) rs)) here ∙ ap (λ x. bytes_at s ++ x) more.0,
          (long, more.1),
        )

    texts : (flat_map h.code (sites 4 4 ks rows) ≡ flat_map bytes_at steps) × AreLong steps rows
    texts = texts_from 4 4 steps rows count (subst (AllByRecursion IsCode) mapped h.written) (all_are_found ks rows) least spoken

    -- ---- the text

    abbrev section : InputSection
    section = record { alignment = 2; mapped = sites 4 4 ks rows }

    sections : input_sections goes_to_text sources l.map ≡ section ∷ []
    sections =
        append-nil (input_sections_of_file goes_to_text l.map.drops (tables (source_of ks)) p.mapped 1 0 (opened_of (tables (source_of ks))).sections)
        ∙ ap (λ t. input_sections_of_file goes_to_text l.map.drops t p.mapped 1 0 (opened_of t).sections) turns.1
        ∙ one_section (raw_tables (bindings_of (source_of ks)) turns.0) p.mapped (is_dropped l.map.drops 1 0) kept
        ∙ ap (λ xs. record { alignment = 2; mapped = mapped_in xs 1 0 } ∷ []) mapped
        ∙ ap (λ xs. record { alignment = 2; mapped = xs } ∷ []) (all_inside 4 4 ks rows)

    pub text_is : l.text ≡ flat_map bytes_at steps
    text_is =
        h.text ∙ ap (λ a. contents h.code a (input_sections goes_to_text sources l.map)) h.fits.text.0
        ∙ ap (contents h.code start) sections
        ∙ ap (λ n. zeros n ++ (flat_map h.code (sites 4 4 ks rows) ++ [])) (aligned_even start low)
        ∙ append-nil (flat_map h.code (sites 4 4 ks rows)) ∙ texts.0

    -- ---- the entry

    pub entry_is : l.map.entry ≡ start + length (flat_map bytes_at before)
    entry_is =
        let target = start + length (flat_map bytes_at before) in
        let standing : Stand start (section ∷ []) = subst (Stand start) sections h.fits.text.1 in
        let follow : Follow start rows =
        subst (λ a. Follow a rows) (aligned_here start low) (subst (Follow (aligned 2 start)) (rows_are 4 4 ks rows count) standing.0) in
        let all_at : AllByRecursion (IsAt target) p.statements =
        subst (AllByRecursion (IsAt target)) (sym statements)
        (λ e. unlabelled false refl e, (λ e. unlabelled false refl e, (λ e. unlabelled false refl e, entry_at target start 4 4 before after rows earlier later texts.1 follow refl))) in
        let start_at = begun (chosen p (codes "_start")) l.map.entry h.resolves.entry in
        let x = start_at.0 in
        let found = all_found (λ (y : Export). IsAt target y.statement) (λ (y : Export). bytes_eq y.name (codes "_start")) (candidates p) x start_at.1.0
        (all_candidates (IsAt target) p all_at) in
        run_label x l.map.entry target found.0 start_at.1.1
