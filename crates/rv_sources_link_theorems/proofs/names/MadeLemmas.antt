-- The objects of sources, none of which moves any more, with their statements: what the law of names takes of them.

use Rattle.std.proofs.Common.{◌≡◌, ℕ, suc, Bool, List, [], ◌∷◌, refl, sym, ap, subst, arith, map}
use Rattle.std.specs.List.{AllByRecursion}
use Rattle.rv_list_laws.proofs.EachLemmas.{each_split}
use Rattle.rv_statement_laws.specs.Statement.{Statement}
use Rattle.rv_unit_laws.specs.Tables.{Tables, tables, at_start, after}
use Rattle.rv_map_laws.specs.Limits.{IsRow}
use Rattle.rv_source_laws.specs.Located.{Located, masked, located_now, located_from}
use Rattle.rv_source_laws.specs.Program as source
use Rattle.rv_source_laws.specs.Program.{Program}
use Rattle.rv_object_laws.specs.Object.{Object}
use Rattle.rv_link_laws.specs.Inputs.{Starts}
use Rattle.rv_link_laws.specs.Names as objects
use Rattle.rv_assemble_laws.specs.LaidStatements.{LaidStatement}
use Rattle.rv_sources_link_theorems.proofs.names.GlobalsLemmas.{IsLow, low_rows}
use Rattle.rv_sources_link_theorems.proofs.names.PairLemmas.{Rise, IsPair, AreMade}
use Rattle.rv_sources_link_theorems.proofs.sections.FilesLemmas.{IsFile, AreFiles}
use Rattle.rv_sources_link_theorems.proofs.statements.StatementsLemmas.{rows_from, statement_at, all_statements, all_rows}
use Rattle.rv_sources_link_theorems.proofs.moves.ShrunkLemmas.{IsObjectOf, AreObjectsOf}

pub rises : (k : ℕ) (t : Tables) (ss : List Statement) (dropped : ℕ → Bool) (laid : List LaidStatement) → map (λ s. s.located) laid ≡ map (masked dropped) (located_from 1 k t ss) → Rise k laid
rises k t ss dropped [] e = tt
rises k t [] dropped (s ∷ laid) e = absurd (cc)
rises k t (x ∷ ss) dropped (s ∷ laid) e =
    let now : s.located ≡ masked dropped (located_now 1 k t x) = cc in
    let own : s.located.ordinal ≡ k = ap (λ (l : Located). l.ordinal) now in
    let rest : map (λ s. s.located) laid ≡ map (masked dropped) (located_from 1 (suc k) (after t k x.kind) ss) = cc in
    (omega (arith, own), subst (λ n. Rise (suc n) laid) (sym own) (rises (suc k) (after t k x.kind) ss dropped laid rest))

module _ (R : source.Export → objects.Export → Type 0) (p : Program) (starts : Starts) where
  -- the pairs of a file whose rows stand below 2 ^ 64
  abbrev pub PairsOf : Type 0
  PairsOf =
      (file : ℕ) (ss : List Statement) (o : Object) (is : IsObjectOf ss o) → IsFile p starts file ss is.laid → AllByRecursion (IsLow starts file) is.laid
      → AllByRecursion (IsPair R (tables ss) is.laid (statement_at starts file) file o) is.laid

  pub all_made : PairsOf → (file : ℕ) (srcs : List (List Statement)) (os : List Object) (h : AreObjectsOf srcs os)
      → AreFiles p starts file srcs os h → AllByRecursion IsRow (all_rows starts file srcs os h) → AreMade R p file os (all_statements starts file srcs os h)
  all_made pairs file [] [] h f r = refl
  all_made pairs file [] (o ∷ os) h f r = absurd h
  all_made pairs file (ss ∷ srcs) [] h f r = absurd h
  all_made pairs file (ss ∷ srcs) (o ∷ os) (is, h) (f, fs) r =
      let rows = each_split IsRow (rows_from starts file is.laid) (all_rows starts (suc file) srcs os h) r in (
        map (statement_at starts file) is.laid,
        all_statements starts (suc file) srcs os h,
        refl,
        record {
          t = tables ss;
          laid = is.laid;
          seen = statement_at starts file;
          tables = f.tables;
          own_are = refl;
          located = λ z. refl;
          rise = rises 1 (at_start ss) ss is.dropped is.laid is.located;
          exported_are = is.exported_are;
          pairs = pairs file ss o is f (low_rows starts file is.laid rows.0);
        },
        all_made pairs (suc file) srcs os h fs rows.1,
      )
