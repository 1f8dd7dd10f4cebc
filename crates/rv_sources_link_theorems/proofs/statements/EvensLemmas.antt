-- Statements of text stand at even offsets.

use Rattle.std.proofs.Common.{◌≡◌, ℕ, ◌+◌, ◌%◌, Bool, true, false, List, [], ◌∷◌, length, refl, sym, ap, ◌∙◌, arith, Some}
use Rattle.std.proofs.lemmas.Bool.{and_parts}
use Rattle.std.specs.Prelude.{◌&&◌, flat_map, map}
use Rattle.std.specs.List.{AllByRecursion, slice_get}
use Rattle.rv_expression_laws.specs.Values.{Value}
use Rattle.rv_statement_laws.specs.Statement.{StatementKind, Label, Numbered, Instruction, Directs, Statement, Expression, Enters, Opens, Binds, Sets, Chooses, Ignored, Aligns, Emits}
use Rattle.rv_pseudo_laws.specs.Filled.{are_closed}
use Rattle.rv_unit_laws.specs.Sections.{Section as SourceSection, goes_to_text}
use Rattle.rv_unit_laws.specs.Tables.{Tables, tables, alignment_of}
use Rattle.rv_source_laws.proofs.HeldLemmas.{IsHeld}
use Rattle.rv_object_laws.specs.Object.{Object}
use Rattle.rv_assemble_laws.specs.LaidStatements.{LaidStatement, expression_value, laid_part, part_bytes, laid_in}
use Rattle.rv_sources_link_theorems.proofs.sections.MaskedLemmas.{source_sections}
use Rattle.rv_sources_link_theorems.proofs.statements.SettledLemmas.{IsSettled, settled_left, of_sections, IsLaidIn, laid_are_in}
use Rattle.rv_sources_link_theorems.proofs.statements.OrderedLemmas.{its_section}
use Rattle.rv_sources_link_theorems.proofs.statements.CodingLemmas.{all_few}
use Rattle.rv_sources_link_theorems.proofs.moves.ShrunkLemmas.{IsPaddedIn, parts_of, Tile, HasShrunkSize, IsSectionOf, IsObjectOf}

abbrev pub IsEven : LaidStatement → Type 0
IsEven s = goes_to_text s.located.home ≡ true → s.offset % 2 ≡ 0

-- ---- a statement

none_even : (n : ℕ) → n ≡ 0 → n % 2 ≡ 0
none_even n e = ap (λ n. n % 2) e

-- a statement of code with a place has an even count of bytes
pub even_by : (s : LaidStatement) (section : SourceSection) (multiple : ℕ) (v : Expression → Value) (kind : StatementKind) → IsHeld section kind → section.executable ≡ true → s.located.home ≡ section
    → HasShrunkSize v s multiple kind → s.bytes % 2 ≡ 0
even_by s section multiple v (Label name) held code home size = none_even s.bytes size.0
even_by s section multiple v (Numbered number) held code home size = none_even s.bytes size.0
even_by s section multiple v (Instruction mnemonic operands) held code home size =
    ap (λ n. n % 2) size.size ∙ (all_few _ (s.located.options.rvc && are_closed size.ps) size.ps s.coded size.coded_as).2
even_by s section multiple v (Directs (Emits contents)) held code home size = let e : true ≡ false = sym code ∙ held.0 in absurd (cc)
even_by s section multiple v (Directs (Aligns form e)) held code home (x, y, z) = go s.located.home.executable (ap (λ x. x.executable) home ∙ code) z
  where
    go : (b : Bool) → b ≡ true → IsPaddedIn b s (alignment_of v (Aligns form e)) → s.bytes % 2 ≡ 0
    go true e (n, even, k) = even
    go false e h = absurd (cc)
even_by s section multiple v (Directs (Enters opened)) held code home size = none_even s.bytes size.0
even_by s section multiple v (Directs (Opens name flags kind)) held code home size = none_even s.bytes size.0
even_by s section multiple v (Directs (Binds binding names)) held code home size = none_even s.bytes size.0
even_by s section multiple v (Directs (Sets name e)) held code home size = none_even s.bytes size.0
even_by s section multiple v (Directs (Chooses choice)) held code home size = none_even s.bytes size.0
even_by s section multiple v (Directs Ignored) held code home size = none_even s.bytes size.0

-- ---- a section

module _ (t : Tables) (index : ℕ) (section : SourceSection) (multiple : ℕ) where
  abbrev Sized : LaidStatement → Type 0
  Sized s = s.located.placed ≡ true → HasShrunkSize (expression_value t s.located) s multiple s.located.kind

  bytes_even : (s : LaidStatement) → section.executable ≡ true → IsLaidIn index section s → s.bytes ≡ length (flat_map part_bytes (parts_of t s)) → Sized s → s.bytes % 2 ≡ 0
  bytes_even s code is bytes size = go s.located.placed refl
    where
      go : (b : Bool) → s.located.placed ≡ b → s.bytes % 2 ≡ 0
      go true e = even_by s section multiple (expression_value t s.located) s.located.kind is.held code is.home (size e)
      go false e =
          none_even s.bytes (bytes ∙ ap (λ l. length (flat_map part_bytes (map (laid_part s.located.ordinal) l))) (is.bare e t s))

  in_code : (offset : ℕ) (laid : List LaidStatement) → section.executable ≡ true → offset % 2 ≡ 0 → AllByRecursion (IsLaidIn index section) laid → Tile t offset laid → AllByRecursion Sized laid
      → AllByRecursion IsEven laid
  in_code offset [] code even h tile sizes = tt
  in_code offset (s ∷ ss) code even (h, hs) (at, bytes, tile) (size, sizes) =
      let own = bytes_even s code h bytes size in (
        (λ text. ap (λ n. n % 2) at ∙ even),
        in_code (offset + s.bytes) ss code (omega (arith, even, own)) hs tile sizes,
      )

  aside : (laid : List LaidStatement) → goes_to_text section ≡ false → AllByRecursion (IsLaidIn index section) laid → AllByRecursion IsEven laid
  aside [] none h = tt
  aside (s ∷ ss) none (h, hs) = (
    (λ text. let e : true ≡ false = sym text ∙ ap goes_to_text h.home ∙ none in absurd (cc)),
    aside ss none hs,
  )

-- ---- a file

module _ (ss : List Statement) (o : Object) (is : IsObjectOf ss o) where
  abbrev sections : List SourceSection
  sections = source_sections is.dropped ss

  all_settled : AllByRecursion (IsSettled sections) is.laid
  all_settled = settled_left ss is.laid is.dropped is.good is.located

  section_even : (index : ℕ) (section : SourceSection) → slice_get sections index ≡ Some section → AllByRecursion IsEven (laid_in index is.laid)
  section_even index section at = go (goes_to_text section) refl
    where
      here : AllByRecursion (IsLaidIn index section) (laid_in index is.laid)
      here = laid_are_in sections index section is.laid at all_settled

      go : (b : Bool) → goes_to_text section ≡ b → AllByRecursion IsEven (laid_in index is.laid)
      go true text =
          let (x, there, found) = its_section (IsSectionOf (tables ss) is.laid is.number o.symbols) is.laid index sections o.sections section is.sections at in
          in_code (tables ss) index section x.alignment 0 (laid_in index is.laid) ((and_parts section.loaded section.executable text).1) refl here found.tile (found.sizes ((and_parts section.loaded section.executable text).0))
      go false none = aside (tables ss) index section 1 (laid_in index is.laid) none here

  pub evens : AllByRecursion IsEven is.laid
  evens = of_sections sections IsEven is.laid all_settled section_even
