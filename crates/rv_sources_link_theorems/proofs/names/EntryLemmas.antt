-- A run of the objects' program begins where that of the sources begins.

use Rattle.std.proofs.Common.{◌≡◌, ℕ, ◌%◌, Bool, true, false, List, [], ◌∷◌, refl, sym, ap, ◌∙◌, Option, Some, None}
use Rattle.std.proofs.lemmas.Bool.{eq-eqb}
use Rattle.std.specs.Prelude.{◌&&◌, ◌==◌, if◌then◌else◌, option_and_then, bytes_eq}
use Rattle.std.specs.List.{AllByRecursion, slice_get}
use Rattle.rv_list_laws.proofs.FindLemmas.{each_find}
use Rattle.rv_expression_laws.specs.Values.{Meaning, Known, InSection as InData, Open as OpenAddress, Refused, add}
use Rattle.rv_statement_laws.specs.Statement.{StatementKind, Label, Numbered, Instruction, Directs, Statement, Enters, Sets}
use Rattle.rv_unit_laws.specs.Sections.{Section as SourceSection, goes_to_text}
use Rattle.rv_unit_laws.specs.Tables.{Tables, Assignment, tables, assigned_ever, is_location}
use Rattle.rv_source_laws.specs.Exports.{defined_name}
use Rattle.rv_source_laws.specs.Program as source
use Rattle.rv_source_laws.specs.Program.{Program, address_of}
use Rattle.rv_source_laws.specs.Resolves.{is_label, run_start}
use Rattle.rv_object_laws.specs.declared.symbol.Definition.TheVariants.{InSection}
use Rattle.rv_object_laws.specs.Object.{Object}
use Rattle.rv_link_laws.specs.Inputs.{Starts}
use Rattle.rv_link_laws.specs.Names as objects
use Rattle.rv_link_laws.specs.Names.{defined_address, is_in_text, can_begin}
use Rattle.rv_assemble_laws.specs.LaidStatements.{LaidStatement}
use Rattle.rv_assemble_laws.specs.Symbols.{laid_at, after_found, assigned_definition, statement_definition}
use Rattle.rv_assemble_laws.specs.IsObjectOf.{IsInData, StandsInData}
use Rattle.rv_sources_link_theorems.proofs.sections.MaskedLemmas.{source_sections}
use Rattle.rv_sources_link_theorems.proofs.statements.StatementsLemmas.{statement_at}
use Rattle.rv_sources_link_theorems.proofs.statements.SettledLemmas.{IsSettled, settled_left}
use Rattle.rv_sources_link_theorems.proofs.names.PairLemmas.{IsAlike, IsPair}
use Rattle.rv_sources_link_theorems.proofs.statements.OrderedLemmas.{its_section}
use Rattle.rv_sources_link_theorems.proofs.sections.FilesLemmas.{IsFile}
use Rattle.rv_sources_link_theorems.proofs.names.GlobalsLemmas.{IsLow, label_address}
use Rattle.rv_sources_link_theorems.proofs.statements.EvensLemmas.{IsEven, evens}
use Rattle.rv_sources_link_theorems.proofs.moves.ShrunkLemmas.{IsSectionOf, IsObjectOf}

-- a definition of the sources begins a run where that of the objects does, or neither does
abbrev pub StartsAlike : Starts → source.Export → objects.Export → Type 0
StartsAlike starts x e = run_start x ≡ objects.run_start starts e

pub entry_alike : (starts : Starts) (a : Option source.Export) (b : Option objects.Export) → IsAlike (StartsAlike starts) a b
    → option_and_then run_start a ≡ option_and_then (objects.run_start starts) b
entry_alike starts None None h = refl
entry_alike starts None (Some e) h = absurd h
entry_alike starts (Some x) None h = absurd h
entry_alike starts (Some x) (Some e) h = h

-- ---- a file

module _ (p : Program) (starts : Starts) (file : ℕ) (ss : List Statement) (o : Object) (is : IsObjectOf ss o) (f : IsFile p starts file ss is.laid) where
  abbrev t : Tables
  t = tables ss

  abbrev sections : List SourceSection
  sections = source_sections is.dropped ss

  text_is : (s : LaidStatement) → IsSettled sections s → is_in_text (slice_get o.sections s.located.section) ≡ goes_to_text s.located.home
  text_is s here =
      let found = its_section (IsSectionOf t is.laid is.number o.symbols) is.laid s.located.section sections o.sections s.located.home is.sections here.home in
      ap is_in_text found.1 ∙ ap (λ b. b && found.0.executable) found.2.loaded ∙ ap (λ b. s.located.home.loaded && b) found.2.executable

  -- a place that `.set` gives is in no text
  found_aside : (a : Option LaidStatement) (ordinal plus : ℕ) → laid_at is.laid ordinal ≡ a → IsInData a → can_begin o (after_found a plus) ≡ false
  found_aside None ordinal plus e h = refl
  found_aside (Some s) ordinal plus e (aside, placed) =
      let here = each_find (IsSettled sections) (λ s. s.located.ordinal == ordinal) is.laid (settled_left ss is.laid is.dropped is.good is.located) s e in
      ap (λ b. b && (add s.offset plus % 2 == 0)) (text_is s here ∙ ap (λ b. s.located.home.loaded && b) aside ∙ never s.located.home.loaded)
    where
      never : (b : Bool) → (b && false) ≡ false
      never true = refl
      never false = refl

  assigned_aside : (name : List ℕ) → can_begin o (assigned_definition is.laid (assigned_ever t.assignments name)) ≡ false
  assigned_aside name = go (assigned_ever t.assignments name) refl
    where
      by : (a : Assignment) (m : Meaning) → (is_location (record a { meaning = m }) ≡ true → IsInData (laid_at is.laid a.ordinal))
          → can_begin o (assigned_definition is.laid (Some (record a { meaning = m }))) ≡ false
      by a (Known n) h = refl
      by a (InData section offset) h = found_aside (laid_at is.laid a.ordinal) a.ordinal a.plus refl (h refl)
      by a OpenAddress h = refl
      by a (Refused code) h = refl

      go : (a : Option Assignment) → assigned_ever t.assignments name ≡ a → can_begin o (assigned_definition is.laid a) ≡ false
      go None e = refl
      go (Some a) e = by a a.meaning (each_find (StandsInData is.laid) (λ s. bytes_eq s.name name) t.assignments is.places a e)

  -- ---- a statement

  label_begins : (s : LaidStatement) → IsSettled sections s → IsEven s → can_begin o (InSection s.located.section s.offset) ≡ goes_to_text s.located.home
  label_begins s here even = ap (λ b. b && (s.offset % 2 == 0)) (text_is s here) ∙ go (goes_to_text s.located.home) refl
    where
      go : (b : Bool) → goes_to_text s.located.home ≡ b → (b && (s.offset % 2 == 0)) ≡ b
      go true e = eq-eqb (s.offset % 2) 0 (even e)
      go false e = refl

  kind_alike : (s : LaidStatement) (kind : StatementKind) (name : List ℕ) → IsSettled sections s → IsLow starts file s → IsEven s
      → ((n : List ℕ) → kind ≡ Label n → s.located.placed ≡ true) → defined_name t s.located.ordinal kind ≡ name ∷ []
      → let d = statement_definition t is.laid s kind in
      (if is_label kind && goes_to_text s.located.home then address_of (statement_at starts file s) else None)
      ≡ (if can_begin o d then defined_address (starts file) o d else None)
  kind_alike s (Label n) name here low even placed e =
      ap (λ a. if goes_to_text s.located.home then a else None) (sym (label_address p starts file ss o is f s here (placed n refl) low))
      ∙ ap (λ b. if b then defined_address (starts file) o (InSection s.located.section s.offset) else None) (sym (label_begins s here even))
  kind_alike s (Directs (Sets n x)) name here low even placed e =
      ap (λ b. if b then defined_address (starts file) o (assigned_definition is.laid (assigned_ever t.assignments n)) else None) (sym (assigned_aside n))
  kind_alike s (Directs (Enters section)) name here low even placed e = absurd (cc)
  kind_alike s (Directs _) name here low even placed e = absurd (cc)
  kind_alike s (Numbered number) name here low even placed e = absurd (cc)
  kind_alike s (Instruction mnemonic operands) name here low even placed e = absurd (cc)

  abbrev Alike : LaidStatement → Type 0
  Alike s = IsPair (StartsAlike starts) t is.laid (statement_at starts file) file o s

  alike_from : (rest : List LaidStatement) → AllByRecursion (IsSettled sections) rest → AllByRecursion (IsLow starts file) rest → AllByRecursion IsEven rest → AllByRecursion Alike rest
  alike_from [] h l v = tt
  alike_from (s ∷ rest) (h, hs) (l, ls) (v, vs) =
      ((λ name index e shared. kind_alike s s.located.kind name h l v h.labelled e), alike_from rest hs ls vs)

  pub starts_alike : AllByRecursion (IsLow starts file) is.laid → AllByRecursion Alike is.laid
  starts_alike low = alike_from is.laid (settled_left ss is.laid is.dropped is.good is.located) low (evens ss o is)
