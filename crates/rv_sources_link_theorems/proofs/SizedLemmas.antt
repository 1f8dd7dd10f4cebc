-- The rows of a linked program have the sizes that the assembler found, but its calls and its alignments in code: those sizes are the least.

use Rattle.std.proofs.Common.{◌≡◌, ℕ, suc, ◌+◌, ◌≤◌, ◌<◌, Bool, true, false, List, [], ◌∷◌, ◌++◌, map, refl, sym, ap, ◌∙◌, subst, arith, Some, None}
use Rattle.std.proofs.lemmas.List.{append-nil}
use Rattle.std.proofs.lemmas.Bool.{and_parts, eq-eqb, ne_eqb}
use Rattle.std.specs.Prelude.{◌==◌, if◌then◌else◌, filter, slice_index_or}
use Rattle.std.specs.List.{AllByRecursion}
use Rattle.rv_statement_laws.specs.Statement.{Statement}
use Rattle.rv_unit_laws.specs.Tables.{Tables, tables}
use Rattle.rv_map_laws.specs.declared.map.Row.{Row as MapRow}
use Rattle.rv_source_laws.specs.Located.{Located, has_row}
use Rattle.rv_source_laws.specs.Program.{MaybeMapped, Program, tables_in}
use Rattle.rv_source_laws.specs.Sized.{statement_size, HasSizeBy, HaveSizes, statements_in, AreFilesSized}
use Rattle.rv_object_laws.specs.Object.{Object}
use Rattle.rv_link_laws.specs.Inputs.{Starts}
use Rattle.rv_link_laws.specs.Shortened.{Sizes}
use Rattle.rv_assemble_laws.specs.LaidStatements.{LaidStatement, expression_value}
use Rattle.rv_sources_link_theorems.proofs.sections.KeptLemmas.{AreKept}
use Rattle.rv_sources_link_theorems.proofs.calls.FinalsLemmas.{IsFinal, AreFinal}
use Rattle.rv_sources_link_theorems.proofs.moves.ShrunkLemmas as shrunk
use Rattle.rv_sources_link_theorems.proofs.statements.StatementsLemmas.{renumbered, row_in, statement_at, all_statements}

module _ (starts : Starts) where
  -- ---- the statements of a file

  abbrev pub in_file : ℕ → List MaybeMapped → List MaybeMapped
  in_file f es = filter (λ e. e.located.file == f) es

  own_kept : (file : ℕ) (laid : List LaidStatement) (more : List MaybeMapped) → in_file file (map (statement_at starts file) laid ++ more) ≡ map (statement_at starts file) laid ++ in_file file more
  own_kept file [] more = refl
  own_kept file (s ∷ ss) more =
      let rest = in_file file (map (statement_at starts file) ss ++ more) in
      ap (λ b. if b then statement_at starts file s ∷ rest else rest) (eq-eqb file file refl) ∙ ap (λ (l : List MaybeMapped). statement_at starts file s ∷ l) (own_kept file ss more)

  others_dropped : (file f : ℕ) → (file == f) ≡ false → (laid : List LaidStatement) (more : List MaybeMapped) → in_file f (map (statement_at starts file) laid ++ more) ≡ in_file f more
  others_dropped file f e [] more = refl
  others_dropped file f e (s ∷ ss) more =
      let rest = in_file f (map (statement_at starts file) ss ++ more) in
      ap (λ b. if b then statement_at starts file s ∷ rest else rest) e ∙ others_dropped file f e ss more

  none_before : (file f : ℕ) → f < file → (sources : List (List Statement)) (ws : List Object) (k : shrunk.AreObjectsOf sources ws) → in_file f (all_statements starts file sources ws k) ≡ []
  none_before file f less [] [] k = refl
  none_before file f less [] (w ∷ ws) k = absurd k
  none_before file f less (ss ∷ sources) [] k = absurd k
  none_before file f less (ss ∷ sources) (w ∷ ws) (is, k) =
      others_dropped file f (ne_eqb file f (λ e. omega (arith, less, e))) is.laid (all_statements starts (suc file) sources ws k)
      ∙ none_before (suc file) f (omega (arith, less)) sources ws k

  -- ---- their sizes

  module _ (p : Program) where
    have : (file : ℕ) (t : Tables) (sizes : ℕ → Sizes) (final : LaidStatement → LaidStatement) → ((z : LaidStatement) → (final z).located ≡ z.located) → tables_in p file ≡ t → (zs : List LaidStatement)
        → AllByRecursion (λ z. IsFinal t sizes z (final z)) zs → HaveSizes p (map (statement_at starts file) (map final zs)) (map (λ (z : LaidStatement). z.bytes) zs)
    have file t sizes final stays same [] h = tt
    have file t sizes final stays same (z ∷ zs) (h, hs) = (
      subst (λ (l : Located). HasSizeBy p (renumbered file l) (if has_row l then Some row else None) z.bytes) (sym (stays z)) (go (has_row z.located) refl),
      have file t sizes final stays same zs hs,
    )
      where
        row : MapRow
        row = row_in starts file (final z)

        go : (b : Bool) → has_row z.located ≡ b → HasSizeBy p (renumbered file z.located) (if b then Some row else None) z.bytes
        go true e =
            h.placed (and_parts z.located.placed z.located.home.loaded e).0
            ∙ ap (λ u. statement_size z.located.home.executable (λ x. expression_value u z.located x) z.located.kind (final z).bytes) (sym same)
        go false e = h.unplaced

    pub sized_from : (sizes : ℕ → ℕ → Sizes) (file : ℕ) (sources : List (List Statement)) (os : List Object) (h : AreKept sources os) (ws : List Object) (k : shrunk.AreObjectsOf sources ws)
        → AreFinal sizes file sources os h ws k
        → ((f : ℕ) → file ≤ f → statements_in p f ≡ in_file f (all_statements starts file sources ws k))
        → ((i : ℕ) → tables_in p (file + i) ≡ tables (slice_index_or sources i [])) → AreFilesSized p file sources
    sized_from sizes file [] [] h ws k c e g = tt
    sized_from sizes file [] (o ∷ os) h ws k c e g = absurd h
    sized_from sizes file (ss ∷ sources) [] h ws k c e g = absurd h
    sized_from sizes file (ss ∷ sources) (o ∷ os) (is, h) [] k c e g = absurd k
    sized_from sizes file (ss ∷ sources) (o ∷ os) (is, h) (w ∷ ws) (js, k) (c, cs) e g =
        let rest = all_statements starts (suc file) sources ws k in
        let same : tables_in p file ≡ tables ss = ap (tables_in p) (let q : file ≡ file + 0 = omega arith in q) ∙ g 0 in
        let own : statements_in p file ≡ map (statement_at starts file) (map c.final is.laid) =
        e file (omega arith) ∙ own_kept file js.laid rest
        ∙ ap (λ l. map (statement_at starts file) js.laid ++ l) (none_before (suc file) file (omega arith) sources ws k) ∙ append-nil (map (statement_at starts file) js.laid)
        ∙ ap (map (statement_at starts file)) c.laid in (
          record {
            sizes = map (λ (z : LaidStatement). z.bytes) is.laid;
            has = subst (λ es. HaveSizes p es (map (λ (z : LaidStatement). z.bytes) is.laid)) (sym own) (have file (tables ss) (sizes file) c.final c.stays same is.laid c.finals);
            least = is.least;
          },
          sized_from sizes (suc file) sources os h ws k cs
              (λ f low. e f (omega (arith, low)) ∙ others_dropped file f (ne_eqb file f (λ q. omega (arith, low, q))) js.laid rest)
              (λ i. ap (tables_in p) (let q : suc file + i ≡ file + suc i = omega arith in q) ∙ g (suc i)),
        )
