-- What the open fields of a file's code need of the whole file.

use Rattle.std.proofs.Common.{◌≡◌, ℕ, zero, suc, ◌+◌, ◌-◌, true, List, [], ◌∷◌, ◌++◌, sym, ap, ◌∙◌, subst, arith, map, Option, Some, None}
use Rattle.std.specs.Prelude.{⊤, Bool, if◌then◌else◌, ℤ, pos, false, unwrap_or, slice_index_or}
use Rattle.std.specs.List.{AllByRecursion, slice_get}
use Rattle.rv_expression_laws.specs.Expression.{Primary}
use Rattle.rv_statement_laws.specs.Statement.{Statement}
use Rattle.rv_unit_laws.specs.Tables.{Tables, Definition, definition, tables, at_start}
use Rattle.rv_expression_laws.specs.Codes.{lowest}
use Rattle.rv_unit_laws.specs.Faults.{StatementFault, first_unit_fault}
use Rattle.rv_source_laws.specs.Located.{Located, masked, located_from}
use Rattle.rv_source_laws.specs.Program.{Program, tables_in}
use Rattle.rv_source_laws.specs.Lines.{statement_section}
use Rattle.rv_source_laws.specs.Fits.{mapped_in}
use Rattle.rv_source_laws.proofs.HeldLemmas.{no_lowest, no_fault}
use Rattle.rv_object_laws.specs.Object.{Progbits, Section, Object}
use Rattle.rv_link_laws.specs.Inputs.{Starts, InputSection, inputs_from}
use Rattle.rv_link_laws.specs.Names.{Outer, object_at, no_object}
use Rattle.rv_link_laws.specs.Values.{value, IsRelocated}
use Rattle.rv_assemble_laws.specs.Templates.{Open}
use Rattle.rv_assemble_laws.specs.LaidStatements.{LaidStatement, laid_in}
use Rattle.rv_assemble_laws.specs.Symbols.{laid_at}
use Rattle.rv_assemble_laws.specs.InstructionFaults.{is_label}
use Rattle.rv_assemble_laws.specs.Refusals.{code_fault, code_fault_from, code_faults_at, else_fault, statements_fault}
use Rattle.rv_assemble_laws.specs.IsObjectOf.{Numbering, relocation_at}
use Rattle.rv_assemble_laws.proofs.LaidStatementsLemmas.{of_located}
use Rattle.rv_sources_link_theorems.proofs.statements.StatementsLemmas.{mapped_from, laid_section}
use Rattle.rv_sources_link_theorems.proofs.sections.MaskedLemmas.{all_masked}
use Rattle.rv_sources_link_theorems.proofs.names.LabelsLemmas.{labels_stand}
use Rattle.rv_sources_link_theorems.proofs.names.KnownLemmas.{outer_in}
use Rattle.rv_sources_link_theorems.proofs.names.PairLemmas.{AreGiven}
use Rattle.rv_sources_link_theorems.proofs.names.GlobalsLemmas.{IsLow}
use Rattle.rv_sources_link_theorems.proofs.moves.ShrunkLemmas.{AreObjectsOf}

-- ---- what the fields of code take

-- at the offsets of a section
abbrev pub AreWorths : Program → List Object → Starts → ℕ → Object → Numbering → (ℕ → ℕ → Open → ℤ) → Type 0
AreWorths p os starts file o number worths =
    (j : ℕ) (x : Section) → slice_get o.sections j ≡ Some x → (offset : ℕ) (f : Open)
    → worths j offset f ≡ unwrap_or (value (outer_in p os) starts os (record { file = file; object = o; index = j; section = x }) (relocation_at number offset f)) (pos 0)

abbrev no_section : Section
no_section = record { name = []; loaded = false; executable = false; writable = false; contents = Progbits []; alignment = 1; relocations = [] }

-- how the symbols of each file are numbered
abbrev pub numbers_by : (sources : List (List Statement)) (os : List Object) → AreObjectsOf sources os → ℕ → Numbering
numbers_by [] [] h i = λ ordinal q. 0
numbers_by [] (o ∷ os) h i = absurd h
numbers_by (ss ∷ sources) [] h i = absurd h
numbers_by (ss ∷ sources) (o ∷ os) (is, h) zero = is.number
numbers_by (ss ∷ sources) (o ∷ os) (is, h) (suc i) = numbers_by sources os h i

-- what the fields of all files take: files are numbered from 1
abbrev pub worths_of : Outer → Starts → List Object → (ℕ → Numbering) → ℕ → ℕ → ℕ → Open → ℤ
worths_of outer starts os numbers file section offset f =
    unwrap_or
    (value outer starts os
    (record { file = file; object = object_at os file; index = section; section = unwrap_or (slice_get (object_at os file).sections section) no_section })
    (relocation_at (numbers (file - 1)) offset f))
    (pos 0)

-- the object of a file, and how its symbols are numbered
pub record IsObjectAt (all : List Object) (numbers : ℕ → Numbering) (file : ℕ) (o : Object) (number : Numbering) : Type 0 where
  pub object : object_at all file ≡ o
  pub numbered : numbers (file - 1) ≡ number

abbrev pub AreObjectsAt : List Object → (ℕ → Numbering) → ℕ → (sources : List (List Statement)) (os : List Object) → AreObjectsOf sources os → Type 0
AreObjectsAt all numbers file [] [] h = ⊤
AreObjectsAt all numbers file [] (o ∷ os) h = absurd h
AreObjectsAt all numbers file (ss ∷ sources) [] h = absurd h
AreObjectsAt all numbers file (ss ∷ sources) (o ∷ os) (is, h) =
    IsObjectAt all numbers file o is.number × AreObjectsAt all numbers (suc file) sources os h

objects_from : (all : List Object) (numbers : ℕ → Numbering) (file : ℕ) (sources : List (List Statement)) (os : List Object) (h : AreObjectsOf sources os)
    → ((i : ℕ) → slice_index_or all (file + i - 1) no_object ≡ slice_index_or os i no_object)
    → ((i : ℕ) → numbers (file + i - 1) ≡ numbers_by sources os h i) → AreObjectsAt all numbers file sources os h
objects_from all numbers file [] [] h f g = tt
objects_from all numbers file [] (o ∷ os) h f g = absurd h
objects_from all numbers file (ss ∷ sources) [] h f g = absurd h
objects_from all numbers file (ss ∷ sources) (o ∷ os) (is, h) f g = (
  record {
    object = ap (λ n. slice_index_or all (n - 1) no_object) (let e : file ≡ file + 0 = omega arith in e) ∙ f 0;
    numbered = ap (λ n. numbers (n - 1)) (let e : file ≡ file + 0 = omega arith in e) ∙ g 0;
  },
  objects_from all numbers (suc file) sources os h
      (λ i. ap (λ n. slice_index_or all (n - 1) no_object) (let e : suc file + i ≡ file + suc i = omega arith in e) ∙ f (suc i))
      (λ i. ap (λ n. numbers (n - 1)) (let e : suc file + i ≡ file + suc i = omega arith in e) ∙ g (suc i)),
)

pub objects_at : (sources : List (List Statement)) (os : List Object) (h : AreObjectsOf sources os) → AreObjectsAt os (numbers_by sources os h) 1 sources os h
objects_at sources os h =
    objects_from os (numbers_by sources os h) 1 sources os h
    (λ i. ap (λ n. slice_index_or os n no_object) (let e : 1 + i - 1 ≡ i = omega arith in e))
    (λ i. ap (λ n. numbers_by sources os h n) (let e : 1 + i - 1 ≡ i = omega arith in e))

pub worths_are : (p : Program) (os : List Object) (starts : Starts) (numbers : ℕ → Numbering) (file : ℕ) (o : Object) (number : Numbering) → IsObjectAt os numbers file o number
    → AreWorths p os starts file o number (worths_of (outer_in p os) starts os numbers file)
worths_are p os starts numbers file o number is j x at offset f =
    ap (λ y. unwrap_or (value (outer_in p os) starts os
    (record { file = file; object = y; index = j; section = unwrap_or (slice_get y.sections j) no_section }) (relocation_at (numbers (file - 1)) offset f)) (pos 0)) is.object
    ∙ ap (λ y. unwrap_or (value (outer_in p os) starts os
    (record { file = file; object = o; index = j; section = unwrap_or y no_section }) (relocation_at (numbers (file - 1)) offset f)) (pos 0)) at
    ∙ ap (λ n. unwrap_or (value (outer_in p os) starts os (record { file = file; object = o; index = j; section = x }) (relocation_at n offset f)) (pos 0)) is.numbered

-- ---- code without faults

abbrev pub IsSound : Tables → Located → Type 0
IsSound t l = code_faults_at t l ≡ []

sound_from : (t : Tables) (ls : List Located) → code_fault_from t ls ≡ None → AllByRecursion (IsSound t) ls
sound_from t [] e = tt
sound_from t (l ∷ ls) e =
    let parts = no_fault l.line (lowest (code_faults_at t l)) (code_fault_from t ls) e in
    (no_lowest (code_faults_at t l) parts.0, sound_from t ls parts.1)

no_second : (f other : Option StatementFault) → else_fault f other ≡ None → other ≡ None
no_second None other e = e
no_second (Some f) other e = absurd (cc)

front_of : (P : Located → Type 0) (xs ys : List Located) → AllByRecursion P (xs ++ ys) → AllByRecursion P xs
front_of P [] ys h = tt
front_of P (x ∷ xs) ys (h, hs) = (h, front_of P xs ys hs)

pub sound : (ss : List Statement) (laid : List LaidStatement) (dropped : ℕ → Bool) → statements_fault ss ≡ None → map (λ s. s.located) laid ≡ map (masked dropped) (located_from 1 1 (at_start ss) ss)
    → AllByRecursion (λ z. IsSound (tables ss) z.located) laid
sound ss laid dropped good is =
    of_located (IsSound (tables ss)) laid
    (subst (λ l. AllByRecursion (IsSound (tables ss)) l) (sym is)
    (all_masked (IsSound (tables ss)) (IsSound (tables ss)) dropped (λ l h. h) (located_from 1 1 (at_start ss) ss)
    (front_of (IsSound (tables ss)) (located_from 1 1 (at_start ss) ss) []
    (sound_from (tables ss) (located_from 1 1 (at_start ss) ss ++ []) (no_second (first_unit_fault ss) (code_fault ss) good)))))

-- a label stands where its statement stands
abbrev pub StandsAlone : Tables → Type 0
StandsAlone t = (ordinal : ℕ) (q : Primary) (d : Definition) → is_label t ordinal q ≡ true → definition t ordinal q ≡ Some d → d.plus ≡ 0

pub labels : (ss : List Statement) → StandsAlone (tables ss)
labels ss = labels_stand ss

-- ---- a file

pub record IsWhole (p : Program) (os : List Object) (starts : Starts) (file : ℕ) (laid : List LaidStatement) (number : Numbering) (o : Object) (worths : ℕ → ℕ → Open → ℤ) : Type 0 where
  pub object : object_at os file ≡ o
  pub mapped : (j : ℕ) → mapped_in p.mapped file j ≡ mapped_from starts file (laid_in j laid)
  pub low : AllByRecursion (IsLow starts file) laid
  pub sound : AllByRecursion (λ z. IsSound (tables_in p file) z.located) laid
  pub labels : StandsAlone (tables_in p file)
  pub given : AreGiven p os
  pub worth : AreWorths p os starts file o number worths
  pub stands : (n : ℕ) → statement_section p file n ≡ laid_section starts (laid_at laid n)
  pub itself : AllByRecursion (λ z. laid_at laid z.located.ordinal ≡ Some z) laid
  -- all fields of loaded sections are filled
  pub relocated : (j : ℕ) (x : Section) → slice_get o.sections j ≡ Some x → x.loaded ≡ true
      → AllByRecursion (IsRelocated (outer_in p os) starts os (record { file = file; object = o; index = j; section = x })) x.relocations

-- those of the sections of an object that go somewhere, from an index on
pub relocated_at : (goes : Section → Bool) (Q : InputSection → Type 0) (file : ℕ) (o : Object) (index : ℕ) (xs : List Section) → AllByRecursion Q (inputs_from goes file o index xs)
    → (j : ℕ) (x : Section) → slice_get xs j ≡ Some x → goes x ≡ true → Q (record { file = file; object = o; index = index + j; section = x })
relocated_at goes Q file o index [] h j x e l = absurd (cc)
relocated_at goes Q file o index (y ∷ ys) h zero x e l =
    let same : y ≡ x = cc in
    let here : index ≡ index + 0 = omega arith in
    subst (λ z. Q (record { file = file; object = o; index = index + 0; section = z })) same
    (subst (λ n. Q (record { file = file; object = o; index = n; section = y })) here (first (goes y) (ap goes same ∙ l) h))
  where
    first : (b : Bool) → b ≡ true
        → AllByRecursion Q (if b then record { file = file; object = o; index = index; section = y } ∷ inputs_from goes file o (suc index) ys else inputs_from goes file o (suc index) ys)
        → Q (record { file = file; object = o; index = index; section = y })
    first true f (q, qs) = q
    first false f qs = absurd (cc)
relocated_at goes Q file o index (y ∷ ys) h (suc j) x e l =
    subst (λ n. Q (record { file = file; object = o; index = n; section = x })) (let f : suc index + j ≡ index + suc j = omega arith in f)
    (relocated_at goes Q file o (suc index) ys (rest (goes y) h) j x e l)
  where
    rest : (b : Bool)
        → AllByRecursion Q (if b then record { file = file; object = o; index = index; section = y } ∷ inputs_from goes file o (suc index) ys else inputs_from goes file o (suc index) ys)
        → AllByRecursion Q (inputs_from goes file o (suc index) ys)
    rest true (q, qs) = qs
    rest false qs = qs
