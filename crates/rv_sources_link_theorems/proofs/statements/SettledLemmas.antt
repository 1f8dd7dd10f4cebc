-- The statements of a section: where their rows stand, and that those without a row have no bytes.

use Rattle.std.proofs.Common.{◌≡◌, ℕ, suc, ◌+◌, Bool, true, false, List, [], ◌∷◌, ◌++◌, length, length-append, refl, sym, ap, ◌∙◌, subst, arith, map, Some, None}
use Rattle.std.proofs.lemmas.List.{append_assoc}
use Rattle.std.proofs.lemmas.Bool.{eqb-true, eq-eqb}
use Rattle.std.proofs.lemmas.List.Sums.{sum_by-cons}
use Rattle.std.specs.Prelude.{⊤, ◌&&◌, ◌==◌, if◌then◌else◌, flat_map}
use Rattle.std.specs.List.{AllByRecursion, slice_get}
use Rattle.rv_statement_laws.specs.declared.mnemonic.Mnemonic.{Mnemonic}
use Rattle.rv_statement_laws.specs.Statement.{StatementKind, Label, Numbered, Instruction, Directs, Statement, Operand, Enters, Opens, Binds, Sets, Chooses, Ignored, Aligns, Emits}
use Rattle.rv_unit_laws.specs.Sections.{Section, text_section}
use Rattle.rv_unit_laws.specs.Tables.{Tables, at_start, after, tables, opened_of}
use Rattle.rv_source_laws.specs.Located.{Located, located_from, is_placed, masked, has_row}
use Rattle.rv_source_laws.specs.Program.{Mapped}
use Rattle.rv_source_laws.specs.Fits.{Follow, size}
use Rattle.rv_source_laws.proofs.HeldLemmas.{IsHeld, Held, all_held}
use Rattle.rv_source_laws.proofs.HomesLemmas.{IsHomeIn, homes_from}
use Rattle.rv_source_laws.proofs.LeftLemmas.{is_held_left}
use Rattle.rv_map_laws.specs.declared.map.Row.{Row as MapRow}
use Rattle.rv_assemble_laws.specs.Refusals.{statements_fault}
use Rattle.rv_assemble_laws.specs.LaidStatements.{LaidStatement, LaidPart, part_bytes, laid_in, end_of}
use Rattle.rv_assemble_laws.proofs.FaultlessLemmas.{no_first_fault}
use Rattle.rv_link_laws.specs.Inputs.{Starts}
use Rattle.rv_assemble_laws.proofs.LaidStatementsLemmas.{of_located}
use Rattle.rv_sources_link_theorems.proofs.fields.PatchesLemmas.{written_from}
use Rattle.rv_sources_link_theorems.proofs.statements.StatementsLemmas.{row_in, mapped_at, mapped_from}
use Rattle.rv_sources_link_theorems.proofs.sections.MaskedLemmas.{source_sections, no_section_masked, masked_at, all_masked, none_masked}
use Rattle.rv_sources_link_theorems.proofs.moves.ShrunkLemmas.{shrunk_templates, parts_of, parts, Tile}

-- ---- a statement

-- a statement without a place has no bytes
unplaced_by : (t : Tables) (k : ℕ) (kind : StatementKind) → is_placed t k kind ≡ false → (all : Tables) (z : LaidStatement) → shrunk_templates all z kind ≡ []
unplaced_by t k (Label name) e all z = absurd (cc)
unplaced_by t k (Numbered number) e all z = absurd (cc)
unplaced_by t k (Instruction mnemonic operands) e all z = absurd (cc)
unplaced_by t k (Directs (Sets name x)) e all z = refl
unplaced_by t k (Directs (Emits contents)) e all z = absurd (cc)
unplaced_by t k (Directs (Aligns form x)) e all z = absurd (cc)
unplaced_by t k (Directs _) e all z = refl

abbrev pub IsBare : Located → Type 0
IsBare l = l.placed ≡ false → (all : Tables) (z : LaidStatement) → shrunk_templates all z l.kind ≡ []

bare_from : (file k : ℕ) (t : Tables) (ss : List Statement) → AllByRecursion IsBare (located_from file k t ss)
bare_from file k t [] = tt
bare_from file k t (s ∷ ss) = (unplaced_by t k s.kind, bare_from file (suc k) (after t k s.kind) ss)

-- which statements may have a place
abbrev pub IsPlacedKind : StatementKind → Type 0
IsPlacedKind (Directs (Enters section)) = ⊥
IsPlacedKind (Directs (Opens name flags kind)) = ⊥
IsPlacedKind (Directs (Binds binding names)) = ⊥
IsPlacedKind (Directs (Chooses choice)) = ⊥
IsPlacedKind (Directs Ignored) = ⊥
IsPlacedKind _ = ⊤

placed_by : (t : Tables) (k : ℕ) (kind : StatementKind) → is_placed t k kind ≡ true → IsPlacedKind kind
placed_by t k (Directs (Enters section)) e = absurd (cc)
placed_by t k (Directs (Opens name flags kind)) e = absurd (cc)
placed_by t k (Directs (Binds binding names)) e = absurd (cc)
placed_by t k (Directs (Chooses choice)) e = absurd (cc)
placed_by t k (Directs Ignored) e = absurd (cc)
placed_by t k (Directs (Sets name x)) e = tt
placed_by t k (Directs _) e = tt
placed_by t k (Label name) e = tt
placed_by t k (Numbered number) e = tt
placed_by t k (Instruction mnemonic operands) e = tt

abbrev pub IsKind : Located → Type 0
IsKind l = l.placed ≡ true → IsPlacedKind l.kind

kinds_from : (file k : ℕ) (t : Tables) (ss : List Statement) → AllByRecursion IsKind (located_from file k t ss)
kinds_from file k t [] = tt
kinds_from file k t (s ∷ ss) = (placed_by t k s.kind, kinds_from file (suc k) (after t k s.kind) ss)

-- a label has a place
abbrev pub IsLabelled : Located → Type 0
IsLabelled l = (name : List ℕ) → l.kind ≡ Label name → l.placed ≡ true

label_by : (t : Tables) (k : ℕ) (kind : StatementKind) (name : List ℕ) → kind ≡ Label name → is_placed t k kind ≡ true
label_by t k kind name e = ap (is_placed t k) e

labelled_from : (file k : ℕ) (t : Tables) (ss : List Statement) → AllByRecursion IsLabelled (located_from file k t ss)
labelled_from file k t [] = tt
labelled_from file k t (s ∷ ss) = (label_by t k s.kind, labelled_from file (suc k) (after t k s.kind) ss)

-- so has an instruction
abbrev pub IsInstructed : Located → Type 0
IsInstructed l = (m : Mnemonic) (os : List Operand) → l.kind ≡ Instruction m os → l.placed ≡ true

instruction_by : (t : Tables) (k : ℕ) (kind : StatementKind) (m : Mnemonic) (os : List Operand) → kind ≡ Instruction m os → is_placed t k kind ≡ true
instruction_by t k kind m os e = ap (is_placed t k) e

instructed_from : (file k : ℕ) (t : Tables) (ss : List Statement) → AllByRecursion IsInstructed (located_from file k t ss)
instructed_from file k t [] = tt
instructed_from file k t (s ∷ ss) = (instruction_by t k s.kind, instructed_from file (suc k) (after t k s.kind) ss)

-- what holds of each statement of a source without faults
pub record IsSettled (sections : List Section) (s : LaidStatement) : Type 0 where
  pub home : slice_get sections s.located.section ≡ Some s.located.home
  pub held : IsHeld s.located.home s.located.kind
  pub bare : IsBare s.located
  pub labelled : IsLabelled s.located
  pub kind : IsKind s.located
  pub instructed : IsInstructed s.located

settled_by : (sections : List Section) (laid : List LaidStatement) → AllByRecursion (λ s. IsHomeIn (λ f. sections) s.located) laid → AllByRecursion (λ s. Held s.located) laid
    → AllByRecursion (λ s. IsBare s.located) laid → AllByRecursion (λ s. IsLabelled s.located) laid → AllByRecursion (λ s. IsKind s.located) laid
    → AllByRecursion (λ s. IsInstructed s.located) laid → AllByRecursion (IsSettled sections) laid
settled_by sections [] h k b l q i = tt
settled_by sections (s ∷ ss) (h, hs) (k, ks) (b, bs) (l, ls) (q, qs) (i, is) =
    (record { home = h; held = k; bare = b; labelled = l; kind = q; instructed = i }, settled_by sections ss hs ks bs ls qs is)

pub settled_left : (ss : List Statement) (laid : List LaidStatement) (dropped : ℕ → Bool) → statements_fault ss ≡ None → map (λ s. s.located) laid ≡ map (masked dropped) (located_from 1 1 (at_start ss) ss)
    → AllByRecursion (IsSettled (source_sections dropped ss)) laid
settled_left ss laid dropped good is =
    let whole = (opened_of (tables ss)).sections in
    let sections = source_sections dropped ss in
    let all : (P Q : Located → Type 0) → ((l : Located) → P l → Q (masked dropped l)) → AllByRecursion P (located_from 1 1 (at_start ss) ss) → AllByRecursion (λ s. Q s.located) laid =
    λ P Q f h. of_located Q laid (subst (λ l. AllByRecursion Q l) (sym is) (all_masked P Q dropped f (located_from 1 1 (at_start ss) ss) h)) in
    settled_by sections laid
    (all (IsHomeIn (λ f. whole)) (IsHomeIn (λ f. sections)) (λ l h. masked_at dropped l.section whole l.home h) (homes_from (λ f. whole) 1 1 (at_start ss) ss refl (text_section, refl)))
    (all Held Held (λ l h. is_held_left (dropped l.section) l.home l.kind h) (all_held ss (no_first_fault ss good)))
    (all IsBare IsBare (λ l h. h) (bare_from 1 1 (at_start ss) ss)) (all IsLabelled IsLabelled (λ l h. h) (labelled_from 1 1 (at_start ss) ss)) (all IsKind IsKind (λ l h. h) (kinds_from 1 1 (at_start ss) ss))
    (all IsInstructed IsInstructed (λ l h. h) (instructed_from 1 1 (at_start ss) ss))

-- where nothing is dropped
pub settled : (ss : List Statement) (laid : List LaidStatement) → statements_fault ss ≡ None → map (λ s. s.located) laid ≡ located_from 1 1 (at_start ss) ss
    → AllByRecursion (IsSettled (opened_of (tables ss)).sections) laid
settled ss laid good is =
    subst (λ sections. AllByRecursion (IsSettled sections) laid) (no_section_masked 0 (opened_of (tables ss)).sections)
    (settled_left ss laid (λ index. false) good (is ∙ sym (none_masked (located_from 1 1 (at_start ss) ss))))

-- ---- the statements of a section

-- a statement of the section of an index
pub record IsLaidIn (index : ℕ) (section : Section) (s : LaidStatement) : Type 0 where
  pub stands : s.located.section ≡ index
  pub home : s.located.home ≡ section
  pub held : IsHeld section s.located.kind
  pub bare : IsBare s.located
  pub kind : IsKind s.located
  pub instructed : IsInstructed s.located

statement_in : (sections : List Section) (index : ℕ) (section : Section) (s : LaidStatement) → slice_get sections index ≡ Some section → s.located.section ≡ index → IsSettled sections s → IsLaidIn index section s
statement_in sections index section s at stands h =
    let both : Some s.located.home ≡ Some section = sym h.home ∙ ap (slice_get sections) stands ∙ at in
    let same : s.located.home ≡ section = cc in
    record { stands = stands; home = same; held = subst (λ x. IsHeld x s.located.kind) same h.held; bare = h.bare; kind = h.kind; instructed = h.instructed }

pub laid_are_in : (sections : List Section) (index : ℕ) (section : Section) (laid : List LaidStatement) → slice_get sections index ≡ Some section
    → AllByRecursion (IsSettled sections) laid → AllByRecursion (IsLaidIn index section) (laid_in index laid)
laid_are_in sections index section [] at h = tt
laid_are_in sections index section (s ∷ ss) at (h, hs) = go (s.located.section == index) refl (laid_are_in sections index section ss at hs)
  where
    go : (b : Bool) → (s.located.section == index) ≡ b → AllByRecursion (IsLaidIn index section) (laid_in index ss)
        → AllByRecursion (IsLaidIn index section) (if b then s ∷ laid_in index ss else laid_in index ss)
    go true e ih = (statement_in sections index section s at (eqb-true s.located.section index e) h, ih)
    go false e ih = ih

-- ---- rows and bytes

no_row : (s : LaidStatement) (section : Section) (t : Tables) → s.located.home ≡ section → section.loaded ≡ true → IsBare s.located → has_row s.located ≡ false → parts_of t s ≡ []
no_row s section t home loaded bare none = go s.located.placed refl (ap (λ x. s.located.placed && x.loaded) (sym home) ∙ none)
  where
    go : (b : Bool) → s.located.placed ≡ b → (s.located.placed && section.loaded) ≡ false → parts_of t s ≡ []
    go true e f =
        let g : true ≡ false = sym loaded ∙ ap (λ x. x && section.loaded) (sym e) ∙ f in absurd (cc)
    go false e f = ap (map (λ x. record { ordinal = s.located.ordinal; template = x })) (bare e t s)

pub written_join : (w : ℕ → LaidPart → List ℕ) (offset : ℕ) (xs ys : List LaidPart)
    → written_from w offset (xs ++ ys) ≡ written_from w offset xs ++ written_from w (offset + length (flat_map part_bytes xs)) ys
written_join w offset [] ys = ap (λ n. written_from w n ys) (let e : offset ≡ offset + 0 = omega arith in e)
written_join w offset (x ∷ xs) ys =
    let next = offset + length (part_bytes x) in
    let long : length (part_bytes x ++ flat_map part_bytes xs) ≡ length (part_bytes x) + length (flat_map part_bytes xs) = length-append (part_bytes x) (flat_map part_bytes xs) in
    ap (λ l. w offset x ++ l) (written_join w next xs ys)
    ∙ ap (λ n. w offset x ++ (written_from w next xs ++ written_from w n ys))
    (let e : next + length (flat_map part_bytes xs) ≡ offset + length (part_bytes x ++ flat_map part_bytes xs) = omega (arith, long) in e)
    ∙ sym (append_assoc (w offset x) (written_from w next xs) (written_from w (offset + length (flat_map part_bytes (x ∷ xs))) ys))

module _ (starts : Starts) (file : ℕ) (t : Tables) (index : ℕ) (section : Section) (loaded : section.loaded ≡ true) where
  abbrev rows : List LaidStatement → List MapRow
  rows laid = map (λ s. s.row) (mapped_from starts file laid)

  bytes_none : (s : LaidStatement) → IsLaidIn index section s → s.bytes ≡ length (flat_map part_bytes (parts_of t s)) → has_row s.located ≡ false → s.bytes ≡ 0
  bytes_none s is bytes none = bytes ∙ ap (λ l. length (flat_map part_bytes l)) (no_row s section t is.home loaded is.bare none)

  pub follows : (offset : ℕ) (laid : List LaidStatement) → AllByRecursion (IsLaidIn index section) laid → Tile t offset laid → Follow (starts file index + offset) (rows laid)
  follows offset [] h tile = tt
  follows offset (s ∷ ss) (h, hs) (at, bytes, tile) = go (has_row s.located) refl (follows (offset + s.bytes) ss hs tile)
    where
      go : (b : Bool) → has_row s.located ≡ b → Follow (starts file index + (offset + s.bytes)) (rows ss)
          → Follow (starts file index + offset) (map (λ s. s.row) (if b then mapped_at starts file s ∷ mapped_from starts file ss else mapped_from starts file ss))
      go true e ih = (
        ap (λ j. starts file j + s.offset) h.stands ∙ ap (λ n. starts file index + n) at,
        subst (λ n. Follow n (rows ss)) (let f : starts file index + (offset + s.bytes) ≡ starts file index + offset + s.bytes = omega arith in f) ih,
      )
      go false e ih =
          let none = bytes_none s h bytes e in
          subst (λ n. Follow n (rows ss)) (let f : starts file index + (offset + s.bytes) ≡ starts file index + offset = omega (arith, none) in f) ih

  pub sized : (offset : ℕ) (laid : List LaidStatement) → AllByRecursion (IsLaidIn index section) laid → Tile t offset laid → offset + size (rows laid) ≡ end_of offset laid
  sized offset [] h tile = omega arith
  sized offset (s ∷ ss) (h, hs) (at, bytes, tile) = go (has_row s.located) refl (sized (offset + s.bytes) ss hs tile)
    where
      go : (b : Bool) → has_row s.located ≡ b → offset + s.bytes + size (rows ss) ≡ end_of (offset + s.bytes) ss
          → offset + size (map (λ s. s.row) (if b then mapped_at starts file s ∷ mapped_from starts file ss else mapped_from starts file ss)) ≡ end_of (offset + s.bytes) ss
      go true e ih =
          let c : size (row_in starts file s ∷ rows ss) ≡ s.bytes + size (rows ss) = sum_by-cons (λ r. r.bytes) (row_in starts file s) (rows ss) in
          ap (λ n. offset + n) c ∙ (let f : offset + (s.bytes + size (rows ss)) ≡ offset + s.bytes + size (rows ss) = omega arith in f) ∙ ih
      go false e ih =
          let none = bytes_none s h bytes e in
          (let f : offset + size (rows ss) ≡ offset + s.bytes + size (rows ss) = omega (arith, none) in f) ∙ ih

  -- the bytes of the statements that have rows are those of all statements' parts
  pub bytes_are : (bytes : Mapped → List ℕ) (w : ℕ → LaidPart → List ℕ) (offset : ℕ) (laid : List LaidStatement) → AllByRecursion (IsLaidIn index section) laid → Tile t offset laid
      → AllByRecursion (λ s. has_row s.located ≡ true → bytes (mapped_at starts file s) ≡ written_from w s.offset (parts_of t s)) laid
      → flat_map bytes (mapped_from starts file laid) ≡ written_from w offset (parts t laid)
  bytes_are bytes w offset [] h tile e = refl
  bytes_are bytes w offset (s ∷ ss) (h, hs) (at, size, tile) (e, es) = go (has_row s.located) refl (bytes_are bytes w (offset + s.bytes) ss hs tile es)
    where
      own : List LaidPart
      own = parts_of t s

      rest : List ℕ
      rest = flat_map bytes (mapped_from starts file ss)

      go : (b : Bool) → has_row s.located ≡ b → rest ≡ written_from w (offset + s.bytes) (parts t ss)
          → flat_map bytes (if b then mapped_at starts file s ∷ mapped_from starts file ss else mapped_from starts file ss) ≡ written_from w offset (own ++ parts t ss)
      go true f ih =
          ap (λ l. l ++ rest) (e f) ∙ ap (λ n. written_from w n own ++ rest) at ∙ ap (λ l. written_from w offset own ++ l) ih
          ∙ ap (λ n. written_from w offset own ++ written_from w (offset + n) (parts t ss)) size
          ∙ sym (written_join w offset own (parts t ss))
      go false f ih =
          let none = bytes_none s h size f in
          ih ∙ ap (λ n. written_from w n (parts t ss)) (let g : offset + s.bytes ≡ offset = omega (arith, none) in g)
          ∙ ap (λ l. written_from w offset (l ++ parts t ss)) (sym (no_row s section t h.home loaded h.bare f))

-- ---- all of a file

-- what holds of the statements of each section holds of all
pub of_sections : (sections : List Section) (P : LaidStatement → Type 0) (rest : List LaidStatement) → AllByRecursion (IsSettled sections) rest
    → ((j : ℕ) (s : Section) → slice_get sections j ≡ Some s → AllByRecursion P (laid_in j rest)) → AllByRecursion P rest
of_sections sections P [] h each = tt
of_sections sections P (z ∷ rest) (h, hs) each =
    (first (z.located.section == z.located.section) (eq-eqb z.located.section z.located.section refl) (each z.located.section z.located.home h.home), of_sections sections P rest hs (λ j s at. later j (z.located.section == j) (each j s at)))
  where
    first : (b : Bool) → b ≡ true → AllByRecursion P (if b then z ∷ laid_in z.located.section rest else laid_in z.located.section rest) → P z
    first true e (one, more) = one
    first false e more = absurd (cc)

    later : (j : ℕ) (b : Bool) → AllByRecursion P (if b then z ∷ laid_in j rest else laid_in j rest) → AllByRecursion P (laid_in j rest)
    later j true (one, more) = more
    later j false more = more
