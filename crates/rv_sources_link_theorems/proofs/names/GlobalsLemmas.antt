-- The definitions of the objects for all files have the addresses of those of the sources.

use Rattle.std.proofs.Common.{◌≡◌, ℕ, ◌+◌, ◌%◌, ◌<◌, Bool, true, false, List, [], ◌∷◌, refl, sym, ap, ◌∙◌, arith, Option, Some, None}
use Rattle.std.specs.Prelude.{◌^◌, ◌&&◌, if◌then◌else◌, option_map, option_and_then, bytes_eq}
use Rattle.std.specs.List.{AllByRecursion}
use Rattle.rv_list_laws.proofs.FindLemmas.{each_find}
use Rattle.rv_expression_laws.specs.Values.{Meaning, Known, InSection as InData, Open as OpenAddress, Refused, add}
use Rattle.rv_statement_laws.specs.Statement.{StatementKind, Label, Numbered, Instruction, Directs, Statement, Enters, Sets}
use Rattle.rv_unit_laws.specs.Sections.{Section as SourceSection}
use Rattle.rv_unit_laws.specs.Tables.{Tables, Assignment, tables, assigned_ever, is_location}
use Rattle.rv_map_laws.specs.Limits.{IsRow}
use Rattle.rv_source_laws.specs.Located.{has_row}
use Rattle.rv_source_laws.specs.Exports.{defined_name}
use Rattle.rv_source_laws.specs.Program as source
use Rattle.rv_source_laws.specs.Program.{Program, tables_in, address_of, home_address}
use Rattle.rv_source_laws.specs.Resolves as resolves
use Rattle.rv_source_laws.specs.Resolves.{set_address, export_address}
use Rattle.rv_object_laws.specs.declared.symbol.Definition.TheVariants.{InSection}
use Rattle.rv_object_laws.specs.Object.{Object}
use Rattle.rv_link_laws.specs.Inputs.{Starts}
use Rattle.rv_link_laws.specs.Names as objects
use Rattle.rv_link_laws.specs.Names.{defined_address, offset_address}
use Rattle.rv_assemble_laws.specs.LaidStatements.{LaidStatement}
use Rattle.rv_assemble_laws.specs.Symbols.{laid_at, after_found, assigned_definition, statement_definition}
use Rattle.rv_assemble_laws.specs.IsObjectOf.{IsInData, StandsInData}
use Rattle.rv_sources_link_theorems.proofs.sections.MaskedLemmas.{source_sections}
use Rattle.rv_sources_link_theorems.proofs.statements.StatementsLemmas.{row_in, rows_from, statement_at, row_address}
use Rattle.rv_sources_link_theorems.proofs.statements.SettledLemmas.{IsSettled, settled_left}
use Rattle.rv_sources_link_theorems.proofs.names.KnownLemmas.{still, own_agrees}
use Rattle.rv_sources_link_theorems.proofs.names.PairLemmas.{IsPair}
use Rattle.rv_sources_link_theorems.proofs.statements.OrderedLemmas.{its_section}
use Rattle.rv_sources_link_theorems.proofs.sections.FilesLemmas.{plain_of, IsFile}
use Rattle.rv_sources_link_theorems.proofs.moves.ShrunkLemmas.{IsSectionOf, IsObjectOf}

-- a definition of the sources has the name and the address of that of the objects, or neither has an address
abbrev pub AddressAlike : Program → Starts → source.Export → objects.Export → Type 0
AddressAlike p starts x e = (x.name ≡ e.symbol.name) × (export_address p x ≡ objects.export_address starts e)

-- an address in the map is a number below 2 ^ 64
abbrev pub IsLow : Starts → ℕ → LaidStatement → Type 0
IsLow starts file s = has_row s.located ≡ true → starts file s.located.section + s.offset < 2 ^ 64

pub low_rows : (starts : Starts) (file : ℕ) (laid : List LaidStatement) → AllByRecursion IsRow (rows_from starts file laid) → AllByRecursion (IsLow starts file) laid
low_rows starts file [] h = tt
low_rows starts file (s ∷ ss) h = (first (has_row s.located) h, low_rows starts file ss (rest (has_row s.located) h))
  where
    first : (b : Bool) → AllByRecursion IsRow (if b then row_in starts file s ∷ rows_from starts file ss else rows_from starts file ss) → b ≡ true → starts file s.located.section + s.offset < 2 ^ 64
    first true (q, qs) e = q.3
    first false qs e = absurd (cc)

    rest : (b : Bool) → AllByRecursion IsRow (if b then row_in starts file s ∷ rows_from starts file ss else rows_from starts file ss) → AllByRecursion IsRow (rows_from starts file ss)
    rest true (q, qs) = qs
    rest false qs = qs

-- ---- a file

module _ (p : Program) (starts : Starts) (file : ℕ) (ss : List Statement) (o : Object) (is : IsObjectOf ss o) (f : IsFile p starts file ss is.laid) where
  abbrev t : Tables
  t = tables ss

  abbrev sections : List SourceSection
  sections = source_sections is.dropped ss

  all_settled : AllByRecursion (IsSettled sections) is.laid
  all_settled = settled_left ss is.laid is.dropped is.good is.located

  -- a label
  pub label_address : (s : LaidStatement) → IsSettled sections s → s.located.placed ≡ true → IsLow starts file s
      → defined_address (starts file) o (InSection s.located.section s.offset) ≡ address_of (statement_at starts file s)
  label_address s here placed low =
      let start = starts file s.located.section in
      let found = its_section (IsSectionOf t is.laid is.number o.symbols) is.laid s.located.section sections o.sections s.located.home is.sections here.home in
      let x = found.0 in
      ap (offset_address start s.offset) found.1
      ∙ ap (λ n. if x.loaded then Some ((start + n) % 2 ^ 64) else None) (still x (plain_of ss o is s.located.section x found.1) start s.offset)
      ∙ ap (λ b. if b then Some ((start + s.offset) % 2 ^ 64) else None) found.2.loaded
      ∙ go s.located.home.loaded (λ e. low (ap (λ b. b && s.located.home.loaded) placed ∙ e))
      ∙ ap (λ b. option_map (λ r. r.address) (if b && s.located.home.loaded then Some (row_in starts file s) else None)) (sym placed)
    where
      go : (b : Bool) → (b ≡ true → starts file s.located.section + s.offset < 2 ^ 64)
          → (if b then Some ((starts file s.located.section + s.offset) % 2 ^ 64) else None) ≡ option_map (λ r. r.address) (if true && b then Some (row_in starts file s) else None)
      go true h = ap Some (let e = h refl in let n = starts file s.located.section + s.offset in let g : n % 2 ^ 64 ≡ n = omega (arith, e) in g)
      go false h = refl

  -- what `.set` gives
  found_address : (a : Assignment) (found : Option LaidStatement) → laid_at is.laid a.ordinal ≡ found → IsInData found
      → defined_address (starts file) o (after_found found a.plus) ≡ home_address p.statements file (record { ordinal = a.ordinal; plus = a.plus })
  found_address a None e h = ap (option_map (λ n. add n a.plus)) (sym (f.address a.ordinal ∙ ap (option_and_then (row_address starts file)) e))
  found_address a (Some s) e (aside, placed) =
      own_agrees p.statements starts file t is.laid is.number o sections is.sections all_settled (plain_of ss o is) f.address s
      (record { ordinal = a.ordinal; plus = a.plus }) e placed

  assigned_address : (a : Assignment) → StandsInData is.laid a → defined_address (starts file) o (assigned_definition is.laid (Some a)) ≡ set_address p.statements file (Some a)
  assigned_address a h = go a.meaning h
    where
      go : (m : Meaning) → (is_location (record a { meaning = m }) ≡ true → IsInData (laid_at is.laid a.ordinal))
          → defined_address (starts file) o (assigned_definition is.laid (Some (record a { meaning = m }))) ≡ set_address p.statements file (Some (record a { meaning = m }))
      go (Known n) h = refl
      go (InData section offset) h = found_address a (laid_at is.laid a.ordinal) refl (h refl)
      go OpenAddress h = refl
      go (Refused code) h = refl

  last_address : (name : List ℕ) → defined_address (starts file) o (assigned_definition is.laid (assigned_ever t.assignments name)) ≡ set_address p.statements file (assigned_ever t.assignments name)
  last_address name = go (assigned_ever t.assignments name) refl
    where
      go : (a : Option Assignment) → assigned_ever t.assignments name ≡ a → defined_address (starts file) o (assigned_definition is.laid a) ≡ set_address p.statements file a
      go None e = refl
      go (Some a) e = assigned_address a (each_find (StandsInData is.laid) (λ s. bytes_eq s.name name) t.assignments is.places a e)

  -- ---- a statement

  kind_address : (s : LaidStatement) (kind : StatementKind) (name : List ℕ) → IsSettled sections s → IsLow starts file s → ((n : List ℕ) → kind ≡ Label n → s.located.placed ≡ true)
      → defined_name t s.located.ordinal kind ≡ name ∷ []
      → resolves.defined_address (tables_in p file) p.statements (statement_at starts file s) kind ≡ defined_address (starts file) o (statement_definition t is.laid s kind)
  kind_address s (Label n) name here low placed e = sym (label_address s here (placed n refl) low)
  kind_address s (Directs (Sets n x)) name here low placed e =
      ap (λ (u : Tables). set_address p.statements file (assigned_ever u.assignments n)) f.tables ∙ sym (last_address n)
  kind_address s (Directs (Enters section)) name here low placed e = absurd (cc)
  kind_address s (Directs _) name here low placed e = absurd (cc)
  kind_address s (Numbered number) name here low placed e = absurd (cc)
  kind_address s (Instruction mnemonic operands) name here low placed e = absurd (cc)

  abbrev Alike : LaidStatement → Type 0
  Alike s = IsPair (AddressAlike p starts) t is.laid (statement_at starts file) file o s

  alike_from : (rest : List LaidStatement) → AllByRecursion (IsSettled sections) rest → AllByRecursion (IsLow starts file) rest → AllByRecursion Alike rest
  alike_from [] h l = tt
  alike_from (s ∷ rest) (h, hs) (l, ls) = ((λ name index e shared. (refl, kind_address s s.located.kind name h l h.labelled e)), alike_from rest hs ls)

  pub addresses_alike : AllByRecursion (IsLow starts file) is.laid → AllByRecursion Alike is.laid
  addresses_alike low = alike_from is.laid all_settled low
