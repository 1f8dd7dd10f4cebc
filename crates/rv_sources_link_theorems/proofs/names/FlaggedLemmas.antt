-- The program of the objects is flagged as compressed code where the sources have some.

use Rattle.std.proofs.Common.{◌≡◌, ℕ, suc, List, [], ◌∷◌, refl, sym, ap, ◌∙◌, map}
use Rattle.std.proofs.lemmas.List.Folds.{list_any-append}
use Rattle.std.specs.Prelude.{Bool, true, false, ◌||◌}
use Rattle.std.specs.List.{list_any}
use Rattle.rv_statement_laws.specs.Statement.{Statement}
use Rattle.rv_unit_laws.specs.Tables.{at_start}
use Rattle.rv_source_laws.specs.Located.{located_from, located_of}
use Rattle.rv_source_laws.specs.Compressed.{is_compressed_code}
use Rattle.rv_map_laws.specs.declared.map.SectionId.{SectionId}
use Rattle.rv_object_laws.specs.Object.{Object}
use Rattle.rv_link_laws.specs.Shortened.{Sizes, sizes_by, shortened_from, Relaxes}
use Rattle.rv_link_laws.specs.Without.{without, without_from}
use Rattle.rv_assemble_laws.specs.LaidStatements.{LaidStatement}
use Rattle.rv_sources_link_theorems.specs.Joins.{AreObjectsOf}
use Rattle.rv_sources_link_theorems.proofs.statements.StatementsLemmas.{renumbered, renumbers}

-- the number of a statement's file changes nothing
own : (file : ℕ) (laid : List LaidStatement)
    → list_any is_compressed_code (map (renumbered file) (map (λ s. s.located) laid))
    ≡ list_any (λ s. is_compressed_code s.located) laid
own file [] = refl
own file (s ∷ ss) = ap (λ b. is_compressed_code s.located || b) (own file ss)

pub flagged : (file : ℕ) (sources : List (List Statement)) (os : List Object)
    → AreObjectsOf sources os
    → list_any (λ o. o.rvc) os ≡ list_any is_compressed_code (located_of file sources)
flagged file [] [] h = refl
flagged file [] (o ∷ os) h = absurd h
flagged file (ss ∷ sources) [] h = absurd h
flagged file (ss ∷ sources) (o ∷ os) (is, h) =
    let others = located_of (suc file) sources in
    let here : located_from file 1 (at_start ss) ss
    ≡ map (renumbered file) (map (λ s. s.located) is.laid) =
    renumbers file 1 (at_start ss) ss ∙ ap (map (renumbered file)) (sym is.located) in
    ap (λ b. b || list_any (λ o. o.rvc) os)
    (is.rvc ∙ sym (own file is.laid) ∙ ap (list_any is_compressed_code) (sym here))
    ∙ ap (λ b. list_any is_compressed_code (located_from file 1 (at_start ss) ss) || b)
    (flagged (suc file) sources os h)
    ∙ sym (list_any-append is_compressed_code (located_from file 1 (at_start ss) ss) others)

-- relaxation changes no flag
shortened_flags : (sizes : ℕ → ℕ → Sizes) (file : ℕ) (os : List Object)
    → list_any (λ o. o.rvc) (shortened_from sizes file os) ≡ list_any (λ o. o.rvc) os
shortened_flags sizes file [] = refl
shortened_flags sizes file (o ∷ os) = ap (λ b. o.rvc || b) (shortened_flags sizes (suc file) os)

-- collection changes none either
left_flags : (drops : List SectionId) (file : ℕ) (os : List Object)
    → list_any (λ o. o.rvc) (without_from drops file os) ≡ list_any (λ o. o.rvc) os
left_flags drops file [] = refl
left_flags drops file (o ∷ os) = ap (λ b. o.rvc || b) (left_flags drops (suc file) os)

relaxes_flags : (relax : Bool) (os left : List Object) → Relaxes relax os left
    → list_any (λ o. o.rvc) left ≡ list_any (λ o. o.rvc) os
relaxes_flags false os left e = ap (list_any (λ o. o.rvc)) e
relaxes_flags true os left (kept, greatest, e) =
    ap (list_any (λ o. o.rvc)) e ∙ shortened_flags (sizes_by os kept) 1 os

pub flags_stay : (relax : Bool) (os : List Object) (drops : List SectionId) (left : List Object)
    → Relaxes relax (without drops os) left → list_any (λ o. o.rvc) left ≡ list_any (λ o. o.rvc) os
flags_stay relax os drops left h = relaxes_flags relax (without drops os) left h ∙ left_flags drops 1 os
