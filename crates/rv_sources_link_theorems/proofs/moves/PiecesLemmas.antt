-- The sections of text of objects beside those of their sources in the linked program, before anything is taken out.

use Rattle.std.proofs.Common.{◌≡◌, ℕ, ◌+◌, ◌-◌, Bool, true, false, List, [], ◌∷◌, ◌++◌, map, refl, sym, ap, ◌∙◌, arith}
use Rattle.std.proofs.lemmas.Bool.{and_parts, eq-eqb}
use Rattle.std.proofs.lemmas.List.Sums.{sum_by-cons}
use Rattle.std.specs.Prelude.{⊤, ◌&&◌, ◌==◌, IsTrue, if◌then◌else◌}
use Rattle.std.specs.List.{AllByRecursion}
use Rattle.rv_list_laws.proofs.EachLemmas.{each_append}
use Rattle.rv_unit_laws.specs.Sections.{Section as SourceSection, goes_to_text as source_text}
use Rattle.rv_unit_laws.specs.Tables.{Tables}
use Rattle.rv_source_laws.specs.Located.{Located, has_row}
use Rattle.rv_source_laws.specs.Program.{Mapped, Program, tables_in, form as program_form}
use Rattle.rv_source_laws.specs.Fits as source
use Rattle.rv_source_laws.specs.Sized.{statement_size}
use Rattle.rv_source_laws.specs.Shortened as line
use Rattle.rv_source_laws.specs.Shortened.{is_call_statement, Placed, full_size, full_length, placed_from, text_from, HaveBytes}
use Rattle.rv_object_laws.specs.Object.{size_of}
use Rattle.rv_link_laws.specs.CallSites.{start_padding, base_in}
use Rattle.rv_link_laws.specs.Inputs.{Starts, InputSection, begins_at}
use Rattle.rv_link_laws.specs.Shortened.{Sizes}
use Rattle.rv_assemble_laws.specs.LaidStatements.{LaidStatement, expression_value, laid_in, end_of}
use Rattle.rv_sources_link_theorems.proofs.sections.AssembledLemmas.{Tile}
use Rattle.rv_sources_link_theorems.proofs.calls.FinalsLemmas.{IsFinal}
use Rattle.rv_sources_link_theorems.proofs.statements.SettledLemmas.{IsLaidIn}
use Rattle.rv_sources_link_theorems.proofs.statements.StatementsLemmas.{renumbered, mapped_at, mapped_from}

module _ (p : Program) (starts : Starts) (at : ℕ → List LaidStatement) (sizes : ℕ → ℕ → Sizes) where
  abbrev pub own : InputSection → List LaidStatement
  own i = laid_in i.index (at i.file)

  -- a section of text of an object, and that of its source
  pub record IsPiece (i : InputSection) (b : source.InputSection) : Type 0 where
    pub t : Tables
    pub tables : tables_in p i.file ≡ t
    pub s : SourceSection
    pub text : source_text s ≡ true
    pub final : LaidStatement → LaidStatement
    pub stays : (z : LaidStatement) → (final z).located ≡ z.located
    pub alignment : begins_at i.section ≡ b.alignment
    pub mapped : b.mapped ≡ mapped_from starts i.file (map final (own i))
    pub tile : Tile t 0 (own i)
    pub size : size_of i.section.contents ≡ end_of 0 (own i)
    pub inside : AllByRecursion (IsLaidIn i.index s) (own i)
    pub finals : AllByRecursion (λ z. IsFinal t (sizes i.file) z (final z)) (own i)

  abbrev pub ArePieces : List InputSection → List source.InputSection → Type 0
  ArePieces [] [] = ⊤
  ArePieces [] (b ∷ bs) = ⊥
  ArePieces (i ∷ is) [] = ⊥
  ArePieces (i ∷ is) (b ∷ bs) = IsPiece i b × ArePieces is bs

  pub pieces_join : (is js : List InputSection) (bs cs : List source.InputSection) → ArePieces is bs → ArePieces js cs → ArePieces (is ++ js) (bs ++ cs)
  pieces_join [] js [] cs h k = k
  pieces_join [] js (b ∷ bs) cs h k = absurd h
  pieces_join (i ∷ is) js [] cs h k = absurd h
  pieces_join (i ∷ is) js (b ∷ bs) cs (h, hs) k = (h, pieces_join is js bs cs hs k)

  -- ---- its statements in the line

  module _ (file : ℕ) (t : Tables) (same : tables_in p file ≡ t) (final : LaidStatement → LaidStatement) (stays : (z : LaidStatement) → (final z).located ≡ z.located) where
    abbrev pub placed_at : ℕ → LaidStatement → Placed
    placed_at first z = record { site = mapped_at starts file (final z); offset = first + z.offset }

    abbrev pub line_of : ℕ → List LaidStatement → List Placed
    line_of first [] = []
    line_of first (z ∷ zs) = if has_row z.located then placed_at first z ∷ line_of first zs else line_of first zs

    -- the rows of those that have one
    abbrev mapped_rows : List LaidStatement → List Mapped
    mapped_rows [] = []
    mapped_rows (z ∷ zs) = if has_row z.located then mapped_at starts file (final z) ∷ mapped_rows zs else mapped_rows zs

    rows_stay : (zs : List LaidStatement) → mapped_from starts file (map final zs) ≡ mapped_rows zs
    rows_stay [] = refl
    rows_stay (z ∷ zs) =
        ap (λ (l : Located). if has_row l then mapped_at starts file (final z) ∷ mapped_from starts file (map final zs) else mapped_from starts file (map final zs)) (stays z)
        ∙ ap (λ l. if has_row z.located then mapped_at starts file (final z) ∷ l else l) (rows_stay zs)

    module _ (index : ℕ) (s : SourceSection) (text : source_text s ≡ true) (its : ℕ → Sizes) where
      full_is : (z : LaidStatement) → IsFinal t its z (final z) → has_row z.located ≡ true → full_size p (mapped_at starts file (final z)) ≡ z.bytes
      full_is z h e =
          ap (λ (l : Located). statement_size l.home.executable (λ x. program_form p (renumbered file l) x) l.kind (final z).bytes) (stays z)
          ∙ ap (λ u. statement_size z.located.home.executable (λ x. expression_value u z.located x) z.located.kind (final z).bytes) same
          ∙ sym (h.placed (and_parts z.located.placed z.located.home.loaded e).0)

      none_is : (z : LaidStatement) → IsFinal t its z (final z) → z.located.home ≡ s → has_row z.located ≡ false → z.bytes ≡ 0
      none_is z h home e = go z.located.placed refl
        where
          loaded : s.loaded ≡ true
          loaded = (and_parts s.loaded s.executable text).0

          go : (b : Bool) → z.located.placed ≡ b → z.bytes ≡ 0
          go false f = h.unplaced f
          go true f =
              let g : true ≡ false = sym loaded ∙ ap (λ y. y.loaded) (sym home) ∙ ap (λ b. b && z.located.home.loaded) (sym f) ∙ e in absurd (cc)

      pub placed_is : (first o : ℕ) (zs : List LaidStatement) → Tile t o zs → AllByRecursion (IsLaidIn index s) zs → AllByRecursion (λ z. IsFinal t its z (final z)) zs
          → placed_from p (first + o) (mapped_from starts file (map final zs)) ≡ line_of first zs
      placed_is first o zs tile inside h = ap (placed_from p (first + o)) (rows_stay zs) ∙ go o zs tile inside h
        where
          go : (o : ℕ) (zs : List LaidStatement) → Tile t o zs → AllByRecursion (IsLaidIn index s) zs → AllByRecursion (λ z. IsFinal t its z (final z)) zs
              → placed_from p (first + o) (mapped_rows zs) ≡ line_of first zs
          go o [] tile inside h = refl
          go o (z ∷ zs) (off, bytes, tile) (i, is) (h, hs) = by (has_row z.located) refl (go (o + z.bytes) zs tile is hs)
            where
              by : (b : Bool) → has_row z.located ≡ b → placed_from p (first + (o + z.bytes)) (mapped_rows zs) ≡ line_of first zs
                  → placed_from p (first + o) (if b then mapped_at starts file (final z) ∷ mapped_rows zs else mapped_rows zs)
                  ≡ (if b then placed_at first z ∷ line_of first zs else line_of first zs)
              by true e ih =
                  let put : ℕ → Placed = λ n. record { site = mapped_at starts file (final z); offset = n } in
                  ap (λ n. put (first + n) ∷ placed_from p (first + o + full_size p (mapped_at starts file (final z))) (mapped_rows zs)) (sym off)
                  ∙ ap (λ n. put (first + z.offset) ∷ placed_from p (first + o + n) (mapped_rows zs)) (full_is z h e)
                  ∙ ap (λ n. put (first + z.offset) ∷ placed_from p n (mapped_rows zs)) (let f : first + o + z.bytes ≡ first + (o + z.bytes) = omega arith in f)
                  ∙ ap (λ l. put (first + z.offset) ∷ l) ih
              by false e ih =
                  let none = none_is z h i.home e in
                  ap (λ n. placed_from p n (mapped_rows zs)) (let f : first + o ≡ first + (o + z.bytes) = omega (arith, none) in f) ∙ ih

      pub length_is : (o : ℕ) (zs : List LaidStatement) → Tile t o zs → AllByRecursion (IsLaidIn index s) zs → AllByRecursion (λ z. IsFinal t its z (final z)) zs
          → o + full_length p (mapped_from starts file (map final zs)) ≡ end_of o zs
      length_is o zs tile inside h = ap (λ l. o + full_length p l) (rows_stay zs) ∙ go o zs tile inside h
        where
          go : (o : ℕ) (zs : List LaidStatement) → Tile t o zs → AllByRecursion (IsLaidIn index s) zs → AllByRecursion (λ z. IsFinal t its z (final z)) zs
              → o + full_length p (mapped_rows zs) ≡ end_of o zs
          go o [] tile inside h = omega arith
          go o (z ∷ zs) (off, bytes, tile) (i, is) (h, hs) = by (has_row z.located) refl (go (o + z.bytes) zs tile is hs)
            where
              by : (b : Bool) → has_row z.located ≡ b → o + z.bytes + full_length p (mapped_rows zs) ≡ end_of (o + z.bytes) zs
                  → o + full_length p (if b then mapped_at starts file (final z) ∷ mapped_rows zs else mapped_rows zs) ≡ end_of (o + z.bytes) zs
              by true e ih =
                  let one = full_is z h e in
                  let sum : full_length p (mapped_at starts file (final z) ∷ mapped_rows zs) ≡ full_size p (mapped_at starts file (final z)) + full_length p (mapped_rows zs) =
                  sum_by-cons (λ s. full_size p s) (mapped_at starts file (final z)) (mapped_rows zs) in
                  ap (λ n. o + n) sum ∙ ap (λ n. o + (n + full_length p (mapped_rows zs))) one
                  ∙ (let f : o + (z.bytes + full_length p (mapped_rows zs)) ≡ o + z.bytes + full_length p (mapped_rows zs) = omega arith in f) ∙ ih
              by false e ih =
                  let none = none_is z h i.home e in
                  (let f : o + full_length p (mapped_rows zs) ≡ o + z.bytes + full_length p (mapped_rows zs) = omega (arith, none) in f) ∙ ih

      -- the bytes that are left of its calls
      pub bytes_are : (size : ℕ → ℕ) (first : ℕ) → ((n : ℕ) → its index n ≡ size (first + n)) → (zs : List LaidStatement) → AllByRecursion (IsLaidIn index s) zs
          → AllByRecursion (λ z. IsFinal t its z (final z)) zs → HaveBytes size (line_of first zs)
      bytes_are size first as_size [] inside h = tt
      bytes_are size first as_size (z ∷ zs) (i, is) (h, hs) = go (has_row z.located) (bytes_are size first as_size zs is hs)
        where
          own_bytes : IsTrue (is_call_statement (final z).located.kind) → (final z).bytes ≡ size (first + z.offset)
          own_bytes e =
              h.call (ap source_text i.home ∙ text) (ap (λ (l : Located). is_call_statement l.kind) (sym (stays z)) ∙ e) ∙ ap (λ n. its n z.offset) i.stands ∙ as_size z.offset

          go : (b : Bool) → HaveBytes size (line_of first zs) → HaveBytes size (if b then placed_at first z ∷ line_of first zs else line_of first zs)
          go true ih = (own_bytes, ih)
          go false ih = ih

  -- ---- all of the line

  abbrev pub line_at : (first : ℕ) (i : InputSection) (b : source.InputSection) → IsPiece i b → List Placed
  line_at first i b h = line_of i.file h.t h.tables h.final h.stays first (own i)

  pub piece_placed : (first : ℕ) (i : InputSection) (b : source.InputSection) (h : IsPiece i b) → placed_from p first b.mapped ≡ line_at first i b h
  piece_placed first i b h =
      ap (placed_from p first) h.mapped ∙ ap (λ n. placed_from p n (mapped_from starts i.file (map h.final (own i)))) (let e : first ≡ first + 0 = omega arith in e)
      ∙ placed_is i.file h.t h.tables h.final h.stays i.index h.s h.text (sizes i.file) first 0 (own i) h.tile h.inside h.finals

  pub piece_length : (i : InputSection) (b : source.InputSection) (h : IsPiece i b) → full_length p b.mapped ≡ size_of i.section.contents
  piece_length i b h =
      ap (full_length p) h.mapped ∙ (let n = full_length p (mapped_from starts i.file (map h.final (own i))) in let e : n ≡ 0 + n = omega arith in e)
      ∙ length_is i.file h.t h.tables h.final h.stays i.index h.s h.text (sizes i.file) 0 (own i) h.tile h.inside h.finals ∙ sym h.size

  pub piece_start : (i : InputSection) (b : source.InputSection) → IsPiece i b → line.start_padding b ≡ start_padding i.section
  piece_start i b h = ap (λ n. n - 2) (sym h.alignment)

  abbrev pub lines : (off : ℕ) (is : List InputSection) (bs : List source.InputSection) → ArePieces is bs → List Placed
  lines off [] [] h = []
  lines off [] (b ∷ bs) h = absurd h
  lines off (i ∷ is) [] h = absurd h
  lines off (i ∷ is) (b ∷ bs) (h, hs) =
      let first = off + start_padding i.section in line_at first i b h ++ lines (first + size_of i.section.contents) is bs hs

  pub text_is : (off : ℕ) (is : List InputSection) (bs : List source.InputSection) (h : ArePieces is bs) → text_from p off bs ≡ lines off is bs h
  text_is off [] [] h = refl
  text_is off [] (b ∷ bs) h = absurd h
  text_is off (i ∷ is) [] h = absurd h
  text_is off (i ∷ is) (b ∷ bs) (h, hs) =
      let first = off + start_padding i.section in
      ap (λ n. placed_from p (off + n) b.mapped ++ text_from p (off + n + full_length p b.mapped) bs) (piece_start i b h)
      ∙ ap (λ l. l ++ text_from p (first + full_length p b.mapped) bs) (piece_placed first i b h)
      ∙ ap (λ n. line_at first i b h ++ text_from p (first + n) bs) (piece_length i b h)
      ∙ ap (λ l. line_at first i b h ++ l) (text_is (first + size_of i.section.contents) is bs hs)

  -- ---- where each begins

  abbrev pub is_same : InputSection → InputSection → Bool
  is_same i j = (i.file == j.file) && (i.index == j.index)

  abbrev pub Apart : List InputSection → Type 0
  Apart [] = ⊤
  Apart (i ∷ is) = AllByRecursion (λ j. is_same i j ≡ false) is × Apart is

  -- a size of calls by the whole line
  abbrev IsByLine : (ℕ → ℕ) → ℕ → List InputSection → Type 0
  IsByLine size off is = AllByRecursion (λ i. (n : ℕ) → sizes i.file i.index n ≡ size (off + base_in is i.file i.index + n)) is

  later_line : (size : ℕ → ℕ) (off : ℕ) (i : InputSection) (all is : List InputSection) → AllByRecursion (λ j. is_same i j ≡ false) is
      → AllByRecursion (λ j. (n : ℕ) → sizes j.file j.index n ≡ size (off + base_in (i ∷ all) j.file j.index + n)) is
      → AllByRecursion (λ j. (n : ℕ) → sizes j.file j.index n ≡ size (off + start_padding i.section + size_of i.section.contents + base_in all j.file j.index + n)) is
  later_line size off i all [] a h = tt
  later_line size off i all (j ∷ is) (a, as') (h, hs) = (
    (λ n.
        h n ∙ ap (λ b. size (off + (start_padding i.section + (if b then 0 else size_of i.section.contents + base_in all j.file j.index)) + n)) a
        ∙ ap size (let x = start_padding i.section in let y = size_of i.section.contents in let w = base_in all j.file j.index in let e : off + (x + (y + w)) + n ≡ off + x + y + w + n = omega arith in e)),
    later_line size off i all is as' hs,
  )

  both_same : (a b : ℕ) → ((a == a) && (b == b)) ≡ true
  both_same a b = ap (λ x. x && (b == b)) (eq-eqb a a refl) ∙ eq-eqb b b refl

  pub have_bytes : (size : ℕ → ℕ) (off : ℕ) (is : List InputSection) (bs : List source.InputSection) (h : ArePieces is bs) → Apart is → IsByLine size off is → HaveBytes size (lines off is bs h)
  have_bytes size off [] [] h a q = tt
  have_bytes size off [] (b ∷ bs) h a q = absurd h
  have_bytes size off (i ∷ is) [] h a q = absurd h
  have_bytes size off (i ∷ is) (b ∷ bs) (h, hs) (a, as') (q, qs) =
      let first = off + start_padding i.section in
      let here : (n : ℕ) → sizes i.file i.index n ≡ size (first + n) = λ n.
      q n ∙ ap (λ b. size (off + (start_padding i.section + (if b then 0 else size_of i.section.contents + base_in is i.file i.index)) + n)) (both_same i.file i.index)
      ∙ ap size (let x = start_padding i.section in let e : off + (x + 0) + n ≡ off + x + n = omega arith in e) in
      each_append (λ x. IsTrue (is_call_statement x.site.located.kind) → x.site.row.bytes ≡ size x.offset) (line_at first i b h) (lines (first + size_of i.section.contents) is bs hs)
      (bytes_are i.file h.t h.tables h.final h.stays i.index h.s h.text (sizes i.file) size first here (own i) h.inside h.finals)
      (have_bytes size (first + size_of i.section.contents) is bs hs as' (later_line size off i is is a qs))
