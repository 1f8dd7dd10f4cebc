-- How often instructions were executed, branched and were called, with one event more.

use Rattle.std.proofs.Common.{◌≡◌, ℕ, ◌+◌, ◌≤◌, Bool, true, false, ◌&&◌, List, [], ◌∷◌, ◌++◌, fold, length, arith}
use Rattle.std.proofs.lemmas.List.Sums.{sum_by-append, count_by-le-length}
use Rattle.rv_isa.specs.declared.instruction.Inst.{Inst}
use Rattle.rv_event_laws.specs.Event.{Event}
use Rattle.rv_event_laws.specs.Changes.{with_set}
use Rattle.rv_counts.specs.Totals.{one_if}
use Rattle.rv_counts.specs.Counted.{is_of, has_executed, has_branched, has_called, executions, taken_from, calls_from}

pub one_if-le : (holds : Bool) → one_if holds ≤ 1
one_if-le true = omega arith
one_if-le false = omega arith

-- one event more

pub executions_more : (test : ℕ → Inst → Bool) (past : List Event) (e : Event) → executions test (past ++ (e ∷ [])) ≡ executions test past + one_if (is_of test e && has_executed e)
executions_more test past e =
    let apart = sum_by-append (λ (e : Event). one_if (is_of test e && has_executed e)) past (e ∷ []) in
    omega (arith, apart)

pub taken_more : (test : ℕ → Inst → Bool) (registers : List ℕ) (past : List Event) (e : Event) → taken_from test registers (past ++ (e ∷ [])) ≡ taken_from test registers past + one_if (is_of test e && has_branched (fold (λ registers e. with_set e.set registers) registers past) e)
taken_more test registers [] e = omega arith
taken_more test registers (x ∷ past) e =
    let rest = taken_more test (with_set x.set registers) past e in
    omega (arith, rest)

pub calls_more : (test : ℕ → Inst → Bool) (called : Bool) (past : List Event) (e : Event) → calls_from test called (past ++ (e ∷ [])) ≡ calls_from test called past + one_if (is_of test e && fold (λ called e. has_called e) called past)
calls_more test called [] e = omega arith
calls_more test called (x ∷ past) e =
    let rest = calls_more test (has_called x) past e in
    omega (arith, rest)

-- no more than there are events

pub executions-le : (test : ℕ → Inst → Bool) (seen : List Event) → executions test seen ≤ length seen
executions-le test seen = count_by-le-length (λ (e : Event). is_of test e && has_executed e) seen

pub taken-le : (test : ℕ → Inst → Bool) (registers : List ℕ) (seen : List Event) → taken_from test registers seen ≤ length seen
taken-le test registers [] = omega arith
taken-le test registers (e ∷ seen) =
    omega (arith, taken-le test (with_set e.set registers) seen, one_if-le (is_of test e && has_branched registers e))

pub calls-le : (test : ℕ → Inst → Bool) (called : Bool) (seen : List Event) → calls_from test called seen ≤ length seen
calls-le test called [] = omega arith
calls-le test called (e ∷ seen) =
    omega (arith, calls-le test (has_called e) seen, one_if-le (is_of test e && called))
