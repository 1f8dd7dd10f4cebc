-- The sections and the statements of an object of a source, one by the other.

use Rattle.std.proofs.Common.{◌≡◌, ℕ, ◌+◌, ◌≤◌, List, [], ◌∷◌, sym, ap, ◌∙◌, arith, Some}
use Rattle.std.specs.List.{AllByRecursion, slice_get}
use Rattle.rv_statement_laws.specs.Statement.{Statement}
use Rattle.rv_unit_laws.specs.Sections.{Section as SourceSection}
use Rattle.rv_unit_laws.specs.Tables.{Tables, tables, longest_section}
use Rattle.rv_object_laws.specs.Object.{Section, Object}
use Rattle.rv_assemble_laws.specs.LaidStatements.{LaidStatement, laid_in, end_of}
use Rattle.rv_sources_link_theorems.proofs.sections.MaskedLemmas.{source_sections}
use Rattle.rv_sources_link_theorems.proofs.sections.AssembledLemmas.{Tile, IsSectionOf, IsAssembled}
use Rattle.rv_sources_link_theorems.proofs.moves.MovedLemmas.{IsBound}
use Rattle.rv_sources_link_theorems.proofs.statements.OrderedLemmas.{its_section}
use Rattle.rv_sources_link_theorems.proofs.statements.SettledLemmas.{IsSettled, settled_left, of_sections, IsLaidIn, laid_are_in}

-- a statement lies in its section
pub offsets_low : (t : Tables) (o : ℕ) (zs : List LaidStatement) → Tile t o zs → (o ≤ end_of o zs) × AllByRecursion (λ (z : LaidStatement). z.offset ≤ end_of o zs) zs
offsets_low t o [] tile = (omega arith, tt)
offsets_low t o (z ∷ zs) (off, bytes, tile) =
    let (low, rest) = offsets_low t (o + z.bytes) zs tile in
    (omega (arith, low), (omega (arith, low, off), rest))

-- ---- a file

module _ (ss : List Statement) (o : Object) (is : IsAssembled ss o) where
  abbrev t : Tables
  t = tables ss

  abbrev sections : List SourceSection
  sections = source_sections is.dropped ss

  pub all_settled : AllByRecursion (IsSettled sections) is.laid
  all_settled = settled_left ss is.laid is.dropped is.good is.located

  pub section_of : (j : ℕ) (s : SourceSection) → slice_get sections j ≡ Some s → (x : Section) × (slice_get o.sections j ≡ Some x) × IsSectionOf t is.laid is.number o.symbols j s (laid_in j is.laid) x
  section_of j s at = its_section (IsSectionOf t is.laid is.number o.symbols) is.laid j sections o.sections s is.sections at

  -- those of a section, with what is known of where they stand
  pub with_home : (P Q : LaidStatement → Type 0) (j : ℕ) (s : SourceSection) → slice_get sections j ≡ Some s → ((z : LaidStatement) → z.located.section ≡ j → z.located.home ≡ s → P z → Q z)
      → AllByRecursion P (laid_in j is.laid) → AllByRecursion Q (laid_in j is.laid)
  with_home P Q j s at step h = go (laid_in j is.laid) (laid_are_in sections j s is.laid at all_settled) h
    where
      go : (zs : List LaidStatement) → AllByRecursion (λ z. IsLaidIn j s z) zs → AllByRecursion P zs → AllByRecursion Q zs
      go [] i k = tt
      go (z ∷ zs) (i, is') (k, ks) = (step z i.stands i.home k, go zs is' ks)

  pub bounds : AllByRecursion IsBound is.laid
  bounds = of_sections sections IsBound is.laid all_settled by
    where
      by : (j : ℕ) (s : SourceSection) → slice_get sections j ≡ Some s → AllByRecursion IsBound (laid_in j is.laid)
      by j s at =
          let (x, there, h) = section_of j s at in
          with_home (λ z. z.offset ≤ end_of 0 (laid_in j is.laid)) IsBound j s at
          (λ z stands home low code. let short = h.short (ap (λ y. y.executable) (sym home) ∙ code) in let n = longest_section in let e : z.offset ≤ n = omega (arith, low, short) in e)
          (offsets_low t 0 (laid_in j is.laid) h.tile).1
