-- In a source without faults no statement has one.

use Rattle.std.proofs.Common.{◌≡◌, ℕ, zero, suc, ◌+◌, List, [], ◌∷◌, take, drop, None, subst, arith}
use Rattle.std.specs.Prelude.{⊤}
use Rattle.rv_statement_laws.specs.Statement.{Statement}
use Rattle.rv_unit_laws.specs.Tables.{Tables, at_start, after, after_all, tables}
use Rattle.rv_expression_laws.specs.Codes.{lowest}
use Rattle.rv_unit_laws.specs.Faults.{faults, first_fault_from, first_unit_fault}
use Rattle.rv_unit_laws.proofs.FewLemmas.{no_fault_from}
use Rattle.rv_unit.specs.Unit.{passed}
use Rattle.rv_source_laws.proofs.HeldLemmas.{no_lowest, no_fault}

-- no statement from an ordinal on has a fault
abbrev pub AreSound : Tables → ℕ → Tables → List Statement → Type 0
AreSound all k t [] = ⊤
AreSound all k t (s ∷ ss) = (faults all t k s.kind ≡ []) × AreSound all (suc k) (after t k s.kind) ss

sound_from : (all : Tables) (k : ℕ) (t : Tables) (ss : List Statement) → first_fault_from all t k ss ≡ None → AreSound all k t ss
sound_from all k t [] e = tt
sound_from all k t (s ∷ ss) e =
    let parts = no_fault s.line (lowest (faults all t k s.kind)) (first_fault_from all (after t k s.kind) (suc k) ss) e in
    (no_lowest (faults all t k s.kind) parts.0, sound_from all (suc k) (after t k s.kind) ss parts.1)

pub sound : (ss : List Statement) → first_unit_fault ss ≡ None → AreSound (tables ss) 1 (at_start ss) ss
sound ss e = sound_from (tables ss) 1 (at_start ss) ss (no_fault_from ss e)

sound_left : (all : Tables) (k : ℕ) (t : Tables) (ss : List Statement) (i : ℕ) (s : Statement) (rest : List Statement) → drop i ss ≡ s ∷ rest → AreSound all k t ss
    → faults all (after_all t k (take i ss)) (i + k) s.kind ≡ []
sound_left all k t [] zero s rest e h = absurd (cc)
sound_left all k t [] (suc i) s rest e h = absurd (cc)
sound_left all k t (x ∷ xs) zero s rest e h =
    let same : x ≡ s = cc in
    subst (λ n. faults all t n s.kind ≡ []) (let f : k ≡ 0 + k = omega arith in f) (subst (λ (y : Statement). faults all t k y.kind ≡ []) same h.0)
sound_left all k t (x ∷ xs) (suc i) s rest e h =
    subst (λ n. faults all (after_all (after t k x.kind) (suc k) (take i xs)) n s.kind ≡ []) (let f : i + suc k ≡ suc i + k = omega arith in f)
    (sound_left all (suc k) (after t k x.kind) xs i s rest e h.1)

-- of the statement at an index of a source
pub sound_at : (ss : List Statement) (i : ℕ) (s : Statement) (rest : List Statement) → drop i ss ≡ s ∷ rest → first_unit_fault ss ≡ None → faults (tables ss) (passed ss i) (i + 1) s.kind ≡ []
sound_at ss i s rest e good = sound_left (tables ss) 1 (at_start ss) ss i s rest e (sound ss good)
