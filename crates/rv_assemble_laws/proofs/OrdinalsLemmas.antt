-- The ordinals of a source's statements go up by one.

use Rattle.std.specs.Prelude.{slice_get}
use Rattle.std.proofs.Common.{◌≡◌, ℕ, zero, suc, ◌+◌, List, [], ◌∷◌, map, sym, ap, ◌∙◌, arith, Some}
use Rattle.rv_list_laws.proofs.ElementsLemmas.{cons_parts}
use Rattle.rv_statement_laws.specs.Statement.{Statement}
use Rattle.rv_unit_laws.specs.Tables.{Tables, after}
use Rattle.rv_source_laws.specs.Located.{Located, located_from}
use Rattle.rv_assemble_laws.specs.LaidStatements.{LaidStatement}

pub ordinal_by : (k : ℕ) (t : Tables) (ss : List Statement) (laid : List LaidStatement) → map (λ s. s.located) laid ≡ located_from 1 k t ss → (i : ℕ) (s : LaidStatement) → slice_get laid i ≡ Some s → s.located.ordinal ≡ k + i
ordinal_by k t ss [] e zero s f = absurd (cc)
ordinal_by k t ss [] e (suc i) s f = absurd (cc)
ordinal_by k t [] (x ∷ laid) e i s f = absurd (cc)
ordinal_by k t (y ∷ ss) (x ∷ laid) e zero s f =
    let same : x ≡ s = cc in
    ap (λ (s : LaidStatement). s.located.ordinal) (sym same) ∙ ap (λ (l : Located). l.ordinal) (cons_parts _ _ _ _ e).0 ∙ (let m : k ≡ k + 0 = omega arith in m)
ordinal_by k t (y ∷ ss) (x ∷ laid) e (suc i) s f =
    ordinal_by (suc k) (after t k y.kind) ss laid (cons_parts _ _ _ _ e).1 i s f ∙ (let m : suc k + i ≡ k + suc i = omega arith in m)
