-- How many instructions a run takes, step by step.

use Rattle.std.proofs.Common.{◌≡◌, ℕ, zero, suc, ◌-◌, ◌≤◌, false, List, ◌∷◌, ◌++◌, length, Result, ap, ◌∙◌, subst, arith}
use Rattle.rv_isa.specs.declared.instruction.Inst.{Inst}
use Rattle.rv_isa_laws.specs.Word as Word
use Rattle.rv_parcel.specs.Parcel as Parcel
use Rattle.rv_isa_laws.specs.Memory.{Mem}
use Rattle.rv_isa_laws.specs.Hart as laws
use Rattle.rv_isa_laws.specs.Effect.{Next, On, Over}
use Rattle.rv_isa_laws.specs.Reader.{Reader}
use Rattle.rv_isa_laws.specs.Run.{fetch, step, run}
use Rattle.rv_event_laws.specs.Event.{event_of, events, events_after}
use Rattle.rv_machine.specs.declared.hart.Hart.{Hart}
use Rattle.rv_machine.specs.declared.running.Ran.{Ran}
use Rattle.rv_machine.specs.declared.running.RunFault.{RunFault}
use Rattle.rv_machine.specs.Counts.{run_length, left_over, AccordsIn, RunsTo}
use Rattle.rv_machine.specs.Hart.{hart_of}
use Rattle.rv_machine.specs.Streams.{MayFollow}
use Rattle.rv_machine.specs.StreamSteps.{Input, HasRead}
use Rattle.rv_machine.proofs.StreamLemmas.{Continues, joined_by}

one_less : (k r : ℕ) → suc k - suc r ≡ k - r
one_less k r = omega arith

last_one : (k : ℕ) → suc k - 1 ≡ k
last_one k = omega arith

module _ {Spells StandsFor : ℕ → Inst → Type 0} (reader : Reader Spells StandsFor) where
  -- where a step goes on, as many are left after the rest
  pub left-on : (n k : ℕ) (h h' : laws.Hart) (m m' : Mem) → n ≡ suc k → step reader h m ≡ On h' m' → left_over reader n h m ≡ left_over reader k h' m'
  left-on n k h h' m m' is goes =
      rw is (ap (λ (x : Next). suc k - length (event_of (fetch reader m h.pc) h m ∷ events_after x (events reader k))) goes ∙ one_less k (length (events reader k h' m')))

  -- where it ends the run, all but that one
  left-done : (n k : ℕ) (h : laws.Hart) (m : Mem) (e : laws.End) → n ≡ suc k → step reader h m ≡ Over e → left_over reader n h m ≡ k
  left-done n k h m e is over =
      rw is (ap (λ (x : Next). suc k - length (event_of (fetch reader m h.pc) h m ∷ events_after x (events reader k))) over ∙ last_one k)

  -- they are no more than the limit
  taken-most : (n : ℕ) (h : laws.Hart) (m : Mem) → run_length reader n h m ≤ n
  taken-most zero h m = omega arith
  taken-most (suc n) h m =
      let rest : length (events_after (step reader h m) (events reader n)) ≤ n = by (λ h' m'. taken-most n h' m') (step reader h m) in
      omega (arith, rest)
    where
      by : ((h' : laws.Hart) (m' : Mem) → length (events reader n h' m') ≤ n) → (x : Next) → length (events_after x (events reader n)) ≤ n
      by rest (On h' m') = rest h' m'
      by rest (Over e) = omega arith

  -- a run to its limit takes as many as that
  pub took_all : (limit remaining : ℕ) (begin : List ℕ → laws.Hart) (first : Mem) (h : Hart) (m : Mem) (going : Type 0) (read written : List ℕ) → Continues (left_over reader) limit remaining begin first h m going read written →
      remaining ≡ 0 → (rest : List ℕ) → MayFollow going rest → limit ≡ run_length reader limit (begin (read ++ rest)) first
  took_all limit remaining begin first h m going read written so_far none rest may =
      let left : left_over reader remaining (hart_of h rest written) m ≡ left_over reader limit (begin (read ++ rest)) first = so_far rest may in
      let most : run_length reader limit (begin (read ++ rest)) first ≤ limit = taken-most limit (begin (read ++ rest)) first in
      omega (arith, left, most, none)

  -- a run that a step ends takes that one and those before
  pub took : (limit remaining : ℕ) (begin : List ℕ → laws.Hart) (first : Mem) (s t : Input) (h : Hart) (m : Mem) (read more written : List ℕ) (r : HasRead s t more) → Continues (left_over reader) limit remaining begin first h m (s.ended ≡ false) read written →
      (next : ℕ) (e : laws.End) → remaining ≡ suc next → remaining ≤ limit →
      ((rest console : List ℕ) → step reader (hart_of h rest console) m ≡ Over e) →
      (rest : List ℕ) → MayFollow (t.ended ≡ false) rest → limit - next ≡ run_length reader limit (begin ((read ++ more) ++ rest)) first
  took limit remaining begin first s t h m read more written r so_far next e is least over rest may =
      let now : laws.Hart = hart_of h (more ++ rest) written in
      let begun : laws.Hart = begin ((read ++ more) ++ rest) in
      let left : left_over reader remaining now m ≡ left_over reader limit begun first = joined_by (left_over reader) limit remaining begin first s t h m read more written r so_far rest may in
      let done : left_over reader remaining now m ≡ next = left-done remaining next now m e is (over (more ++ rest) written) in
      let most : run_length reader limit begun first ≤ limit = taken-most limit begun first in
      omega (arith, left, done, most, is, least)

-- what a run comes to, from the same hart and memory
pub runs_from : (reader : Reader Word.Spells Parcel.StandsFor) (result : Result Ran RunFault) (written : List ℕ) (state : laws.Hart × Mem) (limit : ℕ) (h k : laws.Hart) (m n : Mem) → h ≡ k → m ≡ n →
    RunsTo result written state reader limit h m → AccordsIn result written (run reader limit k n) (run_length reader limit k n)
runs_from reader result written state limit h k m n hart memory runs =
    subst (λ (x : Mem). AccordsIn result written (run reader limit k x) (run_length reader limit k x)) memory
    (subst (λ (x : laws.Hart). AccordsIn result written (run reader limit x m) (run_length reader limit x m)) hart runs.0)
