-- A run of objects begins in the section in which that of their sources begins.

use Rattle.std.proofs.Common.{◌≡◌, ℕ, ◌+◌, ◌%◌, Bool, true, false, List, [], ◌∷◌, refl, sym, ap, ◌∙◌, arith, Option, Some, None}
use Rattle.std.proofs.lemmas.Bool.{and_parts, eq-eqb}
use Rattle.std.specs.Prelude.{◌&&◌, ◌==◌, if◌then◌else◌, option_and_then, bytes_eq}
use Rattle.std.specs.List.{AllByRecursion, slice_get}
use Rattle.rv_list_laws.proofs.FindLemmas.{each_find}
use Rattle.rv_map_laws.specs.declared.map.SectionId.{SectionId}
use Rattle.rv_expression_laws.specs.Values.{Meaning, Known, InSection as InData, Open as OpenAddress, Refused, add}
use Rattle.rv_statement_laws.specs.Statement.{StatementKind, Label, Numbered, Instruction, Directs, Statement, Enters, Sets}
use Rattle.rv_unit_laws.specs.Sections.{Section as SourceSection, goes_to_text}
use Rattle.rv_unit_laws.specs.Tables.{Tables, Assignment, tables, assigned_ever, is_location, opened_of}
use Rattle.rv_source_laws.specs.Exports.{defined_name}
use Rattle.rv_source_laws.specs.Program as source
use Rattle.rv_source_laws.specs.Resolves.{is_label}
use Rattle.rv_source_laws.specs.Collected.{home_of, entry_home, is_in}
use Rattle.rv_object_laws.specs.declared.symbol.Definition.TheVariants.{InSection}
use Rattle.rv_object_laws.specs.Object.{Section, Object}
use Rattle.rv_link_laws.specs.Names as objects
use Rattle.rv_link_laws.specs.Names.{Place, is_in_text, can_begin, place_in}
use Rattle.rv_link_laws.specs.Collects.{run_place, lies_in}
use Rattle.rv_assemble_laws.specs.LaidStatements.{LaidStatement, expression_value, laid_in, HasSize}
use Rattle.rv_assemble_laws.specs.Symbols.{laid_at, after_found, assigned_definition, statement_definition}
use Rattle.rv_assemble_laws.specs.IsObjectOf.{IsInData, StandsInData, IsObjectOf}
use Rattle.rv_sources_link_theorems.proofs.calls.UncutLemmas.{uncut, sections_same}
use Rattle.rv_sources_link_theorems.proofs.collected.HereLemmas.{seen}
use Rattle.rv_sources_link_theorems.proofs.collected.MeantLemmas.{place_home}
use Rattle.rv_sources_link_theorems.proofs.fields.RangesLemmas.{even_bytes}
use Rattle.rv_sources_link_theorems.proofs.names.PairLemmas.{IsAlike, IsPair}
use Rattle.rv_sources_link_theorems.proofs.sections.AssembledLemmas.{Tile, IsSectionOf}
use Rattle.rv_sources_link_theorems.proofs.statements.EvensLemmas.{IsEven}
use Rattle.rv_sources_link_theorems.proofs.statements.OrderedLemmas.{its_section}
use Rattle.rv_sources_link_theorems.proofs.statements.SettledLemmas.{IsSettled, settled, of_sections, IsLaidIn, laid_are_in}
use Rattle.rv_sources_link_theorems.proofs.statements.StatementsLemmas.{renumbered}

pub lies_home : (T : SectionId) (p : Option Place) → lies_in T p ≡ is_in T (place_home p)
lies_home T None = refl
lies_home T (Some p) = refl

-- a definition of the sources and that of the objects begin a run in the same section, or neither does
abbrev pub BeginsAlike : source.Export → objects.Export → Type 0
BeginsAlike x e = entry_home x ≡ place_home (run_place e)

pub begins_at : (T : SectionId) (x : Option source.Export) (e : Option objects.Export) → IsAlike BeginsAlike x e
    → lies_in T (option_and_then run_place e) ≡ is_in T (option_and_then entry_home x)
begins_at T None None h = refl
begins_at T None (Some e) h = absurd h
begins_at T (Some x) None h = absurd h
begins_at T (Some x) (Some e) h = lies_home T (run_place e) ∙ ap (is_in T) (sym h)

-- ---- a file

module _ (ss : List Statement) (o : Object) (is : IsObjectOf ss o) where
  abbrev t : Tables
  t = tables ss

  abbrev sections : List SourceSection
  sections = (opened_of (tables ss)).sections

  all_settled : AllByRecursion (IsSettled sections) is.laid
  all_settled = settled ss is.laid is.good is.located

  section_of : (j : ℕ) (s : SourceSection) → slice_get sections j ≡ Some s
      → (x : Section) × (slice_get o.sections j ≡ Some x) × IsSectionOf t is.laid is.number o.symbols j s (laid_in j is.laid) x
  section_of j s at =
      its_section (IsSectionOf t is.laid is.number o.symbols) is.laid j sections o.sections s
      (sections_same t is.laid (uncut ss o is) is.number o.symbols 0 sections o.sections is.sections) at

  -- ---- statements of text stand at even offsets

  in_code : (j : ℕ) (s : SourceSection) (code : s.executable ≡ true) (multiple offset : ℕ) (zs : List LaidStatement) → offset % 2 ≡ 0 → AllByRecursion (IsLaidIn j s) zs → Tile t offset zs
      → AllByRecursion (λ z. z.located.placed ≡ true → HasSize (expression_value t z.located) z multiple z.located.kind) zs → AllByRecursion IsEven zs
  in_code j s code multiple offset [] even h tile sizes = tt
  in_code j s code multiple offset (z ∷ zs) even (h, hs) (at, bytes, tile) (size, sizes) =
      let own = even_bytes t is.number j s code multiple z h bytes size in (
        (λ text. ap (λ n. n % 2) at ∙ even),
        in_code j s code multiple (offset + z.bytes) zs (omega (arith, even, own)) hs tile sizes,
      )

  aside : (j : ℕ) (s : SourceSection) (zs : List LaidStatement) → goes_to_text s ≡ false → AllByRecursion (IsLaidIn j s) zs → AllByRecursion IsEven zs
  aside j s [] none h = tt
  aside j s (z ∷ zs) none (h, hs) = ((λ text. let e : true ≡ false = sym text ∙ ap goes_to_text h.home ∙ none in absurd (cc)), aside j s zs none hs)

  section_even : (j : ℕ) (s : SourceSection) → slice_get sections j ≡ Some s → AllByRecursion IsEven (laid_in j is.laid)
  section_even j s at = go (goes_to_text s) refl
    where
      here : AllByRecursion (IsLaidIn j s) (laid_in j is.laid)
      here = laid_are_in sections j s is.laid at all_settled

      go : (b : Bool) → goes_to_text s ≡ b → AllByRecursion IsEven (laid_in j is.laid)
      go true text =
          let (x, there, h) = section_of j s at in
          in_code j s ((and_parts s.loaded s.executable text).1) x.alignment 0 (laid_in j is.laid) refl here h.tile h.sizes
      go false none = aside j s (laid_in j is.laid) none here

  evens : AllByRecursion IsEven is.laid
  evens = of_sections sections IsEven is.laid all_settled section_even

  -- ---- a definition

  text_is : (z : LaidStatement) → IsSettled sections z → is_in_text (slice_get o.sections z.located.section) ≡ goes_to_text z.located.home
  text_is z here =
      let found = section_of z.located.section z.located.home here.home in
      ap is_in_text found.1 ∙ ap (λ b. b && found.0.executable) found.2.loaded ∙ ap (λ b. z.located.home.loaded && b) found.2.executable

  -- a place that `.set` gives is in no text
  found_aside : (a : Option LaidStatement) (ordinal plus : ℕ) → laid_at is.laid ordinal ≡ a → IsInData a → can_begin o (after_found a plus) ≡ false
  found_aside None ordinal plus e h = refl
  found_aside (Some z) ordinal plus e (aside, placed) =
      let here = each_find (IsSettled sections) (λ z. z.located.ordinal == ordinal) is.laid all_settled z e in
      ap (λ b. b && (add z.offset plus % 2 == 0)) (text_is z here ∙ ap (λ b. z.located.home.loaded && b) aside ∙ never z.located.home.loaded)
    where
      never : (b : Bool) → (b && false) ≡ false
      never true = refl
      never false = refl

  assigned_aside : (name : List ℕ) → can_begin o (assigned_definition is.laid (assigned_ever t.assignments name)) ≡ false
  assigned_aside name = go (assigned_ever t.assignments name) refl
    where
      by : (a : Assignment) (m : Meaning) → (is_location (record a { meaning = m }) ≡ true → IsInData (laid_at is.laid a.ordinal))
          → can_begin o (assigned_definition is.laid (Some (record a { meaning = m }))) ≡ false
      by a (Known n) h = refl
      by a (InData section offset) h = found_aside (laid_at is.laid a.ordinal) a.ordinal a.plus refl (h refl)
      by a OpenAddress h = refl
      by a (Refused code) h = refl

      go : (a : Option Assignment) → assigned_ever t.assignments name ≡ a → can_begin o (assigned_definition is.laid a) ≡ false
      go None e = refl
      go (Some a) e = by a a.meaning (each_find (StandsInData is.laid) (λ s. bytes_eq s.name name) t.assignments is.places a e)

  label_begins : (z : LaidStatement) → IsSettled sections z → IsEven z → can_begin o (InSection z.located.section z.offset) ≡ goes_to_text z.located.home
  label_begins z here even = ap (λ b. b && (z.offset % 2 == 0)) (text_is z here) ∙ go (goes_to_text z.located.home) refl
    where
      go : (b : Bool) → goes_to_text z.located.home ≡ b → (b && (z.offset % 2 == 0)) ≡ b
      go true e = eq-eqb (z.offset % 2) 0 (even e)
      go false e = refl

  module _ (f : ℕ) where
    either : (b : Bool) (z : LaidStatement) → (if b then Some (home_of (renumbered f z.located)) else None) ≡ place_home (if b then place_in f (InSection z.located.section z.offset) else None)
    either true z = refl
    either false z = refl

    kind_alike : (z : LaidStatement) (kind : StatementKind) (name : List ℕ) → IsSettled sections z → IsEven z → defined_name t z.located.ordinal kind ≡ name ∷ []
        → let d = statement_definition t is.laid z kind in
        (if is_label kind && goes_to_text z.located.home then Some (home_of (renumbered f z.located)) else None) ≡ place_home (if can_begin o d then place_in f d else None)
    kind_alike z (Label n) name here even e =
        either (goes_to_text z.located.home) z
        ∙ ap (λ b. place_home (if b then place_in f (InSection z.located.section z.offset) else None)) (sym (label_begins z here even))
    kind_alike z (Directs (Sets n x)) name here even e =
        let d = assigned_definition is.laid (assigned_ever t.assignments n) in
        ap (λ b. place_home (if b then place_in f d else None)) (sym (assigned_aside n))
    kind_alike z (Directs (Enters section)) name here even e = absurd (cc)
    kind_alike z (Directs _) name here even e = absurd (cc)
    kind_alike z (Numbered number) name here even e = absurd (cc)
    kind_alike z (Instruction mnemonic operands) name here even e = absurd (cc)

    abbrev Alike : LaidStatement → Type 0
    Alike z = IsPair BeginsAlike t is.laid (seen f) f o z

    alike_from : (zs : List LaidStatement) → AllByRecursion (IsSettled sections) zs → AllByRecursion IsEven zs → AllByRecursion Alike zs
    alike_from [] h v = tt
    alike_from (z ∷ zs) (h, hs) (v, vs) = ((λ name index e shared. kind_alike z z.located.kind name h v e), alike_from zs hs vs)

    pub begins_alike : AllByRecursion Alike is.laid
    begins_alike = alike_from is.laid all_settled evens
