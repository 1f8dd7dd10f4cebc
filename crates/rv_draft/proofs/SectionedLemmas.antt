-- The sections of a source, with the laid statements of its statements.

use Rattle.std.proofs.Common.{◌≡◌, ℕ, suc, ◌+◌, ◌<◌, ◌==◌, Bool, true, false, List, [], ◌∷◌, ◌++◌, length, map, Some, refl, sym, ap, ◌∙◌, subst, append-nil}
use Rattle.std.specs.Prelude.{flat_map, not, ◌&&◌, slice_get, slice_index_or, if◌then◌else◌}
use Rattle.std.specs.List.{AllByRecursion}
use Rattle.std.proofs.lemmas.Bool.{eqb-true, eq-eqb, and_parts}
use Rattle.std.proofs.lemmas.Nat.{pow_pos}
use Rattle.rv_list_laws.proofs.EachLemmas.{each_append}
use Rattle.rv_statement_laws.specs.Statement.{Statement}
use Rattle.rv_unit_laws.specs.Sections.{Section, is_nobits, goes_to_text}
use Rattle.rv_unit_laws.specs.Tables.{Tables, after, tables, opened_of, alignments_of}
use Rattle.rv_unit_laws.proofs.GrownLemmas.{grown_all}
use Rattle.rv_source_laws.specs.Located.{Located, located_now, located_from}
use Rattle.rv_source_laws.proofs.HomesLemmas.{IsHomeIn}
use Rattle.rv_assemble_laws.specs.Templates.{IsTemplate}
use Rattle.rv_assemble_laws.specs.LaidStatements.{LaidStatement, LaidPart, expression_value, part_bytes, parts, parts_of, laid_in, Tile, end_of, HasSize}
use Rattle.rv_assemble_laws.specs.Fields.{fields_at, fields}
use Rattle.rv_assemble_laws.proofs.FilledLemmas.{bytes_append}
use Rattle.rv_unit.specs.declared.item.Item.{Item}
use Rattle.rv_draft.specs.Code.{bytes_of_codes, section_code}
use Rattle.rv_draft.specs.Coded.{AreCoded}
use Rattle.rv_draft.specs.DataParts.{is_filled, data_parts, open_fields, data_bytes}
use Rattle.rv_draft.specs.Items.{IsItem, AreItems, grown}
use Rattle.rv_instruction.specs.declared.encoded.Coded.{Coded as CodedPart}
use Rattle.rv_draft.specs.Seated.{laid_of, first_code, other_codes, laid_from}
use Rattle.rv_draft.specs.Draft.{item_of}
use Rattle.rv_draft.proofs.EvensLemmas.{code_long}
use Rattle.rv_draft.proofs.FittedLemmas.{Fit, code_at}
use Rattle.rv_assemble_laws.proofs.LeastAllLemmas.{Agree}

-- ---- the statements of laid statements, and their items

pub all_located : (k : ℕ) (t : Tables) (before last : ℕ → ℕ) (ss : List Statement) (is : List Item) (codes : List (List CodedPart)) → AreItems k t before ss is last
    → map (λ (s : LaidStatement). s.located) (laid_from (located_from 1 k t ss) is codes) ≡ located_from 1 k t ss
all_located k t before last [] [] codes h = refl
all_located k t before last [] (x ∷ is) codes h = absurd h
all_located k t before last (s ∷ ss) [] codes h = absurd h
all_located k t before last (s ∷ ss) (x ∷ is) codes h = ap (λ l. located_now 1 k t s ∷ l) (all_located (suc k) (after t k s.kind) (grown before x) last ss is (other_codes codes) h.1)

one_item : (s : Located) (before : ℕ → ℕ) (x : Item) (coded : List CodedPart) → IsItem s before x → item_of (laid_of s x coded) ≡ x
one_item s before x coded h =
    ap (λ n. record { section = n; offset = x.offset; bytes = x.bytes; line = s.line; shown = s.placed && s.home.loaded; instructions = x.instructions }) (sym h.section)
    ∙ ap (λ n. record { section = x.section; offset = x.offset; bytes = x.bytes; line = n; shown = s.placed && s.home.loaded; instructions = x.instructions }) (sym h.line)
    ∙ ap (λ b. record { section = x.section; offset = x.offset; bytes = x.bytes; line = x.line; shown = b; instructions = x.instructions }) (sym h.shown)

pub all_items : (k : ℕ) (t : Tables) (before last : ℕ → ℕ) (ss : List Statement) (is : List Item) (codes : List (List CodedPart)) → AreItems k t before ss is last
    → map item_of (laid_from (located_from 1 k t ss) is codes) ≡ is
all_items k t before last [] [] codes h = refl
all_items k t before last [] (x ∷ is) codes h = absurd h
all_items k t before last (s ∷ ss) [] codes h = absurd h
all_items k t before last (s ∷ ss) (x ∷ is) codes h =
    ap (λ y. y ∷ map item_of (laid_from (located_from 1 (suc k) (after t k s.kind) ss) is (other_codes codes))) (one_item (located_now 1 k t s) before x (first_code codes) h.0)
    ∙ ap (λ l. x ∷ l) (all_items (suc k) (after t k s.kind) (grown before x) last ss is (other_codes codes) h.1)

-- ---- the data of laid statements, which their code leaves as it is

data_step : (t : Tables) (section : ℕ) (b : Bool) (l : Located) (x : Item) (coded : List CodedPart) (rest others : List LaidStatement)
    → flat_map part_bytes (flat_map (data_parts t) rest) ≡ flat_map part_bytes (flat_map (data_parts t) others)
    → flat_map part_bytes (flat_map (data_parts t) (if b then laid_of l x coded ∷ rest else rest)) ≡ flat_map part_bytes (flat_map (data_parts t) (if b then laid_of l x [] ∷ others else others))
data_step t section true l x coded rest others h =
    let own = data_parts t (laid_of l x []) in
    bytes_append own (flat_map (data_parts t) rest) ∙ ap (λ m. flat_map part_bytes own ++ m) h ∙ sym (bytes_append own (flat_map (data_parts t) others))
data_step t section false l x coded rest others h = h

pub data_as : (t : Tables) (section : ℕ) (ls : List Located) (is : List Item) (codes : List (List CodedPart)) → data_bytes t section (laid_from ls is codes) ≡ data_bytes t section (laid_from ls is [])
data_as t section [] is codes = refl
data_as t section (l ∷ ls) [] codes = refl
data_as t section (l ∷ ls) (x ∷ is) codes =
    data_step t section (l.section == section) l x (first_code codes) (laid_in section (laid_from ls is (other_codes codes))) (laid_in section (laid_from ls is [])) (data_as t section ls is (other_codes codes))

-- what holds of the statements holds of their laid statements
pub all_laid : (P : Located → Type 0) (laid : List LaidStatement) → AllByRecursion P (map (λ (s : LaidStatement). s.located) laid) → AllByRecursion (λ (s : LaidStatement). P s.located) laid
all_laid P [] h = tt
all_laid P (s ∷ ss) h = (h.0, all_laid P ss h.1)

-- ---- the statements of a section follow one another

module _ (all : Tables) (j : ℕ) where
  abbrev Own : LaidStatement → Type 0
  Own s = s.bytes ≡ length (flat_map part_bytes (parts_of all s))

  abbrev Follows : ℕ → ℕ → List LaidStatement → Type 0
  Follows from stop laid = Tile all from laid × (end_of from laid ≡ stop)

  step : (b : Bool) (s : LaidStatement) (rest : List LaidStatement) (from stop : ℕ) → (b ≡ true → s.offset ≡ from) → Own s → Follows (if b then from + s.bytes else from) stop rest
      → Follows from stop (if b then s ∷ rest else rest)
  step true s rest from stop at own h = ((at refl, own, h.0), h.1)
  step false s rest from stop at own h = h

  swapped : (a b : ℕ) (c : Bool) → (a == b) ≡ c → (b == a) ≡ c
  swapped a b true e = eq-eqb b a (sym (eqb-true a b e))
  swapped a b false e = go (b == a) refl
    where
      go : (x : Bool) → (b == a) ≡ x → (b == a) ≡ false
      go true f = let g : (a == b) ≡ true = eq-eqb a b (sym (eqb-true b a f)) in absurd (cc)
      go false f = f

  pub tiles : (k : ℕ) (t : Tables) (before last : ℕ → ℕ) (ss : List Statement) (is : List Item) (codes : List (List CodedPart)) → AreItems k t before ss is last → AllByRecursion Own (laid_from (located_from 1 k t ss) is codes)
      → Follows (before j) (last j) (laid_in j (laid_from (located_from 1 k t ss) is codes))
  tiles k t before last [] [] codes h own = (tt, sym (h j))
  tiles k t before last [] (x ∷ is) codes h own = absurd h
  tiles k t before last (s ∷ ss) [] codes h own = absurd h
  tiles k t before last (s ∷ ss) (x ∷ is) codes h own =
      let l = located_now 1 k t s in
      let left = laid_in j (laid_from (located_from 1 (suc k) (after t k s.kind) ss) is (other_codes codes)) in
      let rest = tiles (suc k) (after t k s.kind) (grown before x) last ss is (other_codes codes) h.1 own.1 in
      let same : (j == x.section) ≡ (l.section == j) = ap (λ n. j == n) h.0.section ∙ sym (swapped j l.section (j == l.section) refl) in
      step (l.section == j) (laid_of l x (first_code codes)) left (before j) (last j)
      (λ e. h.0.offset ∙ ap before (eqb-true l.section j e)) own.0
      (subst (λ b. Follows (if b then before j + x.bytes else before j) (last j) left) same rest)

-- ---- the bytes of a section

-- the laid statements of a section stand in it
pub record IsOf (t : Tables) (j : ℕ) (home : Section) (s : LaidStatement) : Type 0 where
  pub fit : Fit t s
  pub index : s.located.section ≡ j
  pub here : s.located.home ≡ home

pub all_of : (t : Tables) (file : ℕ → List Section) (j : ℕ) (home : Section) (laid : List LaidStatement) → ((n : ℕ) → file n ≡ (opened_of t).sections) → slice_get (opened_of t).sections j ≡ Some home
    → AllByRecursion (Fit t) laid → AllByRecursion (λ (s : LaidStatement). IsHomeIn file s.located) laid → AllByRecursion (IsOf t j home) (laid_in j laid)
all_of t file j home [] same at fits homes = tt
all_of t file j home (s ∷ ss) same at fits homes = go (s.located.section == j) refl (all_of t file j home ss same at fits.1 homes.1)
  where
    one : (a b : Section) → Some a ≡ Some b → a ≡ b
    one a b e = cc

    go : (b : Bool) → (s.located.section == j) ≡ b → AllByRecursion (IsOf t j home) (laid_in j ss) → AllByRecursion (IsOf t j home) (if b then s ∷ laid_in j ss else laid_in j ss)
    go true e rest =
        let index : s.located.section ≡ j = eqb-true s.located.section j e in
        let here = one s.located.home home (sym homes.0 ∙ ap (λ l. slice_get l s.located.section) (same s.located.file) ∙ ap (slice_get (opened_of t).sections) index ∙ at) in
        (record { fit = fits.0; index = index; here = here }, rest)
    go false e rest = rest

-- the code of a section
code_in_step : (t : Tables) (j : ℕ) (b c : Bool) (s : LaidStatement) (rest : List ℕ) (laid : List LaidStatement) → b ≡ c → rest ≡ flat_map (code_at t) laid → (if b then code_at t s else []) ++ rest ≡ flat_map (code_at t) (if c then s ∷ laid else laid)
code_in_step t j true c s rest laid e h = ap (λ l. code_at t s ++ l) h ∙ ap (λ d. flat_map (code_at t) (if d then s ∷ laid else laid)) e
code_in_step t j false c s rest laid e h = h ∙ ap (λ d. flat_map (code_at t) (if d then s ∷ laid else laid)) e

pub code_in : (t : Tables) (j k : ℕ) (u : Tables) (before last : ℕ → ℕ) (ss : List Statement) (is : List Item) (codes : List (List CodedPart)) → AreItems k u before ss is last → AreCoded t (located_from 1 k u ss) codes
    → section_code t j (located_from 1 k u ss) codes ≡ flat_map (code_at t) (laid_in j (laid_from (located_from 1 k u ss) is codes))
code_in t j k u before last [] is codes items coded = refl
code_in t j k u before last (s ∷ ss) [] codes items coded = absurd items
code_in t j k u before last (s ∷ ss) (x ∷ is) [] items coded = absurd coded
code_in t j k u before last (s ∷ ss) (x ∷ is) (c ∷ codes) items coded =
    let l = located_now 1 k u s in
    code_in_step t j (j == l.section) (l.section == j) (laid_of l x c) (section_code t j (located_from 1 (suc k) (after u k s.kind) ss) codes) (laid_in j (laid_from (located_from 1 (suc k) (after u k s.kind) ss) is codes))
    (swapped t j l.section j (l.section == j) refl) (code_in t j (suc k) (after u k s.kind) (grown before x) last ss is codes items.1 coded.1)

module _ (t : Tables) (j : ℕ) (home : Section) where
  abbrev Of : LaidStatement → Type 0
  Of s = IsOf t j home s

  -- in code
  coded : (laid : List LaidStatement) → home.executable ≡ true → AllByRecursion Of laid → flat_map (code_at t) laid ≡ flat_map part_bytes (parts t laid)
  coded [] e h = refl
  coded (s ∷ ss) e h =
      ap (λ l. l ++ flat_map (code_at t) ss) (sym (h.0.fit.code (ap (λ (g : Section). g.executable) h.0.here ∙ e)))
      ∙ ap (λ l. flat_map part_bytes (parts_of t s) ++ l) (coded ss e h.1)
      ∙ sym (bytes_append (parts_of t s) (parts t ss))

  no_code : (laid : List LaidStatement) → home.executable ≡ false → AllByRecursion Of laid → flat_map (code_at t) laid ≡ []
  no_code [] e h = refl
  no_code (s ∷ ss) e h =
      ap (λ l. l ++ flat_map (code_at t) ss) (h.0.fit.other (ap (λ (g : Section). g.executable) h.0.here ∙ e)) ∙ no_code ss e h.1

  empty_code : (laid : List LaidStatement) → is_nobits home ≡ true → AllByRecursion Of laid → flat_map (code_at t) laid ≡ []
  empty_code [] e h = refl
  empty_code (s ∷ ss) e h =
      ap (λ l. l ++ flat_map (code_at t) ss) (h.0.fit.empty (ap is_nobits h.0.here ∙ e)) ∙ empty_code ss e h.1

  -- in data
  filled : (laid : List LaidStatement) → is_filled home ≡ true → AllByRecursion Of laid → flat_map (data_parts t) laid ≡ parts t laid
  filled [] e h = refl
  filled (s ∷ ss) e h =
      ap (λ l. l ++ flat_map (data_parts t) ss) (h.0.fit.filled (ap is_filled h.0.here ∙ e)) ∙ ap (λ l. parts_of t s ++ l) (filled ss e h.1)

  unfilled : (laid : List LaidStatement) → is_filled home ≡ false → AllByRecursion Of laid → flat_map (data_parts t) laid ≡ []
  unfilled [] e h = refl
  unfilled (s ∷ ss) e h =
      ap (λ l. l ++ flat_map (data_parts t) ss) (h.0.fit.unfilled (ap is_filled h.0.here ∙ e)) ∙ unfilled ss e h.1

  not_filled : (b n : Bool) → b ≡ true → (not b && n) ≡ false
  not_filled b n e = ap (λ c. not c && n) e

  bytes_by : (b n : Bool) (laid : List LaidStatement) → home.executable ≡ b → is_nobits home ≡ n → AllByRecursion Of laid
      → flat_map (code_at t) laid ++ flat_map part_bytes (flat_map (data_parts t) laid) ≡ (if n then [] else flat_map part_bytes (parts t laid))
  bytes_by true true laid e f h =
      ap (λ l. l ++ flat_map part_bytes (flat_map (data_parts t) laid)) (empty_code laid f h)
      ∙ ap (λ ps. flat_map part_bytes ps) (unfilled laid (not_filled home.executable (not (is_nobits home)) e) h)
  bytes_by true false laid e f h =
      ap (λ ps. flat_map (code_at t) laid ++ flat_map part_bytes ps) (unfilled laid (not_filled home.executable (not (is_nobits home)) e) h)
      ∙ append-nil (flat_map (code_at t) laid) ∙ coded laid e h
  bytes_by false true laid e f h =
      ap (λ l. l ++ flat_map part_bytes (flat_map (data_parts t) laid)) (no_code laid e h)
      ∙ ap (λ ps. flat_map part_bytes ps) (unfilled laid (ap (λ c. not c && not (is_nobits home)) e ∙ ap not f) h)
  bytes_by false false laid e f h =
      ap (λ l. l ++ flat_map part_bytes (flat_map (data_parts t) laid)) (no_code laid e h)
      ∙ ap (λ ps. flat_map part_bytes ps) (filled laid (ap (λ c. not c && not (is_nobits home)) e ∙ ap not f) h)

  pub section_bytes : (laid : List LaidStatement) → AllByRecursion Of laid
      → flat_map (code_at t) laid ++ flat_map part_bytes (flat_map (data_parts t) laid) ≡ (if is_nobits home then [] else flat_map part_bytes (parts t laid))
  section_bytes laid h = bytes_by home.executable (is_nobits home) laid refl refl h

  -- no code stands in a section without bytes
  pub code_bytes : (laid : List LaidStatement) → AllByRecursion Of laid → goes_to_text home ≡ true → is_nobits home ≡ true → flat_map part_bytes (parts t laid) ≡ []
  code_bytes laid h e f = sym (coded laid (and_parts home.loaded home.executable e).1 h) ∙ empty_code laid f h

  pub all_sizes : (laid : List LaidStatement) → AllByRecursion Of laid
      → AllByRecursion (λ (s : LaidStatement). s.located.placed ≡ true → HasSize (expression_value t s.located) s (slice_index_or (alignments_of t) j 1) s.located.kind) laid
  all_sizes [] h = tt
  all_sizes (s ∷ ss) h =
      ((λ e. subst (λ n. HasSize (expression_value t s.located) s (slice_index_or (alignments_of t) n 1) s.located.kind) h.0.index (h.0.fit.size e)), all_sizes ss h.1)

  pub section_templates : (laid : List LaidStatement) → AllByRecursion Of laid → AllByRecursion (λ (p : LaidPart). IsTemplate p.template) (parts t laid)
  section_templates [] h = tt
  section_templates (s ∷ ss) h = each_append (λ (p : LaidPart). IsTemplate p.template) (parts_of t s) (parts t ss) h.0.fit.templates (section_templates ss h.1)

-- ---- the open fields

pub all_fields : (t : Tables) (laid : List LaidStatement) → AllByRecursion (Fit t) laid → flat_map (open_fields t) laid ≡ fields t laid
all_fields t [] h = refl
all_fields t (s ∷ ss) h = ap (λ l. l ++ flat_map (open_fields t) ss) h.0.fields ∙ ap (λ l. fields_at t s ++ l) (all_fields t ss h.1)

-- ---- the lengths of code

pub agree : (all : Tables) (k : ℕ) (t : Tables) (before last : ℕ → ℕ) (ss : List Statement) (is : List Item) (codes : List (List CodedPart)) → AreItems k t before ss is last
    → AreCoded all (located_from 1 k t ss) codes → AllByRecursion (Fit all) (laid_from (located_from 1 k t ss) is codes)
    → Agree (located_from 1 k t ss) (bytes_of_codes all (located_from 1 k t ss) codes) (map (λ (s : LaidStatement). s.bytes) (laid_from (located_from 1 k t ss) is codes))
agree all k t before last [] [] [] items coded fits = tt
agree all k t before last [] [] (c ∷ codes) items coded fits = absurd coded
agree all k t before last [] (x ∷ is) codes items coded fits = absurd items
agree all k t before last (s ∷ ss) [] codes items coded fits = absurd items
agree all k t before last (s ∷ ss) (x ∷ is) [] items coded fits = absurd coded
agree all k t before last (s ∷ ss) (x ∷ is) (c ∷ codes) items coded fits = (
  λ e. sym (fits.0.bytes ∙ ap length (fits.0.code e) ∙ code_long all (located_now 1 k t s) c),
  agree all (suc k) (after t k s.kind) (grown before x) last ss is codes items.1 coded.1 fits.1,
)

-- each section asks to begin at a multiple of one or more
pub asks_some : (ss : List Statement) (j : ℕ) → 0 < slice_index_or (alignments_of (tables ss)) j 1
asks_some ss j = let (power, is) = grown_all ss 1 ss j in subst (λ n. 0 < n) (sym is) (pow_pos power)
