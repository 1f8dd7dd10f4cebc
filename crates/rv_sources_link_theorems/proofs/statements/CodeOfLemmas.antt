-- The code of a statement of the sources: the bytes that its laid statement writes.

use Rattle.std.proofs.Common.{◌≡◌, ℕ, zero, suc, ◌+◌, ◌-◌, ◌≤◌, Bool, false, List, [], ◌∷◌, refl, sym, ap, ◌∙◌, subst, arith, map, Option, Some, None}
use Rattle.std.proofs.lemmas.Bool.{eq-eqb, ne_eqb}
use Rattle.std.specs.Prelude.{⊤, if◌then◌else◌}
use Rattle.std.specs.List.{AllByRecursion}
use Rattle.rv_list_laws.proofs.EachLemmas.{each_map}
use Rattle.rv_statement_laws.specs.Statement.{Statement}
use Rattle.rv_unit_laws.specs.Tables.{Tables, at_start, after}
use Rattle.rv_source_laws.specs.Located.{masked, located_now, located_from}
use Rattle.rv_source_laws.specs.Program.{Mapped}
use Rattle.rv_object_laws.specs.Object.{Object}
use Rattle.rv_link_laws.specs.Inputs.{Starts}
use Rattle.rv_assemble_laws.specs.LaidStatements.{LaidStatement}
use Rattle.rv_assemble_laws.specs.Symbols.{laid_at}
use Rattle.rv_sources_link_theorems.proofs.sections.MaskedLemmas.{none_masked}
use Rattle.rv_sources_link_theorems.proofs.statements.StatementsLemmas.{mapped_at, laid_by}
use Rattle.rv_sources_link_theorems.proofs.moves.ShrunkLemmas.{AreObjectsOf}

-- ---- each statement of a file is found by its ordinal

abbrev pub IsFound : ℕ → List LaidStatement → LaidStatement → Type 0
IsFound least laid z = (least ≤ z.located.ordinal) × (laid_at laid z.located.ordinal ≡ Some z)

pub found_left : (k : ℕ) (t : Tables) (ss : List Statement) (dropped : ℕ → Bool) (laid : List LaidStatement) → map (λ s. s.located) laid ≡ map (masked dropped) (located_from 1 k t ss) → AllByRecursion (IsFound k laid) laid
found_left k t ss dropped [] e = tt
found_left k t [] dropped (s ∷ laid) e = absurd (cc)
found_left k t (x ∷ ss) dropped (s ∷ laid) e = (
  (omega (arith, own), ap (λ b. if b then Some s else laid_at laid s.located.ordinal) (eq-eqb s.located.ordinal s.located.ordinal refl)),
  each_map (IsFound (suc k) laid) (IsFound k (s ∷ laid)) laid later (found_left (suc k) (after t k x.kind) ss dropped laid (let rest : map (λ s. s.located) laid ≡ map (masked dropped) (located_from 1 (suc k) (after t k x.kind) ss) = cc in rest)),
)
  where
    own : s.located.ordinal ≡ k
    own = let now : s.located ≡ masked dropped (located_now 1 k t x) = cc in ap (λ l. l.ordinal) now

    later : (z : LaidStatement) → IsFound (suc k) laid z → IsFound k (s ∷ laid) z
    later z (least, found) = (
      omega (arith, least),
      ap (λ b. if b then Some s else laid_at laid z.located.ordinal) (ne_eqb s.located.ordinal z.located.ordinal (λ same. omega (arith, least, own, same))) ∙ found,
    )

-- where nothing is dropped
pub found_from : (k : ℕ) (t : Tables) (ss : List Statement) (laid : List LaidStatement) → map (λ s. s.located) laid ≡ located_from 1 k t ss → AllByRecursion (IsFound k laid) laid
found_from k t ss laid e = found_left k t ss (λ index. false) laid (e ∙ sym (none_masked (located_from 1 k t ss)))

module _ (starts : Starts) (says : ℕ → LaidStatement → List ℕ) where
  found_by : (sources : List (List Statement)) (os : List Object) (h : AreObjectsOf sources os) (i : ℕ)
      → AllByRecursion (IsFound 0 (laid_by starts sources os h i)) (laid_by starts sources os h i)
  found_by [] [] h i = tt
  found_by [] (o ∷ os) h i = absurd h
  found_by (ss ∷ sources) [] h i = absurd h
  found_by (ss ∷ sources) (o ∷ os) (is, h) zero =
      each_map (IsFound 1 is.laid) (IsFound 0 is.laid) is.laid (λ z f. (omega arith, f.1)) (found_left 1 (at_start ss) ss is.dropped is.laid is.located)
  found_by (ss ∷ sources) (o ∷ os) (is, h) (suc i) = found_by sources os h i

  -- ---- a function that gives each laid statement's code for its statement

  abbrev pub IsCodeOf : (Mapped → List ℕ) → ℕ → LaidStatement → Type 0
  IsCodeOf code file z = code (mapped_at starts file z) ≡ says file z

  abbrev pub AreCodesOf : (Mapped → List ℕ) → ℕ → (sources : List (List Statement)) (os : List Object) → AreObjectsOf sources os → Type 0
  AreCodesOf code file [] [] h = ⊤
  AreCodesOf code file [] (o ∷ os) h = absurd h
  AreCodesOf code file (ss ∷ sources) [] h = absurd h
  AreCodesOf code file (ss ∷ sources) (o ∷ os) (is, h) = AllByRecursion (IsCodeOf code file) is.laid × AreCodesOf code (suc file) sources os h

  codes_from : (code : Mapped → List ℕ) (file : ℕ) (sources : List (List Statement)) (os : List Object) (h : AreObjectsOf sources os)
      → ((i : ℕ) → AllByRecursion (IsCodeOf code (file + i)) (laid_by starts sources os h i)) → AreCodesOf code file sources os h
  codes_from code file [] [] h f = tt
  codes_from code file [] (o ∷ os) h f = absurd h
  codes_from code file (ss ∷ sources) [] h f = absurd h
  codes_from code file (ss ∷ sources) (o ∷ os) (is, h) f = (
    subst (λ n. AllByRecursion (IsCodeOf code n) is.laid) (let e : file + 0 ≡ file = omega arith in e) (f 0),
    codes_from code (suc file) sources os h (λ i. subst (λ n. AllByRecursion (IsCodeOf code n) (laid_by starts sources os h i)) (let e : file + suc i ≡ suc file + i = omega arith in e) (f (suc i))),
  )

  module _ (sources : List (List Statement)) (os : List Object) (h : AreObjectsOf sources os) where
    abbrev code_found : ℕ → Option LaidStatement → List ℕ
    code_found file None = []
    code_found file (Some z) = says file z

    -- files are numbered from 1
    abbrev pub code_of : Mapped → List ℕ
    code_of m = code_found m.located.file (laid_at (laid_by starts sources os h (m.located.file - 1)) m.located.ordinal)

    pub codes : AreCodesOf code_of 1 sources os h
    codes =
        codes_from code_of 1 sources os h
        (λ i. each_map (IsFound 0 (laid_by starts sources os h i)) (IsCodeOf code_of (1 + i)) (laid_by starts sources os h i)
        (λ z found. ap (λ n. code_found (1 + i) (laid_at (laid_by starts sources os h n) z.located.ordinal)) (let e : 1 + i - 1 ≡ i = omega arith in e) ∙ ap (code_found (1 + i)) found.1)
        (found_by sources os h i))
