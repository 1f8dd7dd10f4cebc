-- A run on the board, one answered instruction after the other.

use Rattle.std.proofs.Common.{◌≡◌, ℕ, suc, ◌-◌, ◌<◌, ◌≤◌, Bool, false, List, [], ◌++◌, refl, sym, ap, ◌∙◌, subst, append_assoc}
use Rattle.std.specs.Prelude.{Ok, Err, IsErrOf}
use Rattle.std.proofs.lemmas.List.{append-nil}
use Rattle.rv_isa_laws.specs.Word.{Spells}
use Rattle.rv_parcel.specs.Parcel.{StandsFor}
use Rattle.rv_isa_laws.specs.Console.{IsFront}
use Rattle.rv_isa_laws.specs.Memory.{Mem}
use Rattle.rv_isa_laws.specs.Hart as laws
use Rattle.rv_isa_laws.specs.Effect.{Next, Over, follow}
use Rattle.rv_isa_laws.specs.Reader.{Reader}
use Rattle.rv_isa_laws.specs.Run.{step, run}
use Rattle.rv_isa_laws.proofs.ConsoleLemmas.{front_of_front}
use Rattle.rv_machine.specs.declared.end.End.{End}
use Rattle.rv_machine.specs.declared.end.End.TheVariants as ends
use Rattle.rv_machine.specs.declared.hart.Hart.{Hart}
use Rattle.rv_machine.specs.declared.running.Ran.{Ran}
use Rattle.rv_machine.specs.declared.running.RunFault.{RunFault}
use Rattle.rv_machine.specs.declared.running.RunFault.TheVariants.{InputFault, OutputFault, OutOfMemory}
use Rattle.rv_machine.specs.Counts.{RunsTo}
use Rattle.rv_machine.specs.End.{law_end}
use Rattle.rv_machine.specs.Hart.{hart_of}
use Rattle.rv_machine.specs.Streams.{MayFollow, FailsBy}
use Rattle.rv_machine.specs.StreamSteps.{Input, HasRead}
use Rattle.rv_machine.proofs.KnownLemmas.{follows_before}
use Rattle.rv_board_laws.specs.Device.{step_on, run_on}
use Rattle.rv_board_laws.specs.Virt.{virt}
use Rattle.rv_board_laws.proofs.BehindLemmas.{outcome_behind, run_from_none, run_on_adds, run_within}
use Rattle.rv_board.specs.declared.answering.Answer.TheVariants.{Went, Ended, Refused}
use Rattle.rv_board.specs.Answers.{AnswersTo}
use Rattle.rv_board.proofs.GoesOnLemmas.{carried, limited}

-- the end that is the limit of the definitions is that of the code
pub limit_only : (e : End) → law_end e ≡ laws.Limit → e ≡ ends.Limit
limit_only (ends.Exited code) is = absurd (cc)
limit_only ends.Limit is = refl
limit_only ends.Breakpoint is = absurd (cc)
limit_only (ends.Illegal a) is = absurd (cc)
limit_only (ends.FetchOutside a) is = absurd (cc)
limit_only (ends.LoadText a) is = absurd (cc)
limit_only (ends.LoadOutside a) is = absurd (cc)
limit_only (ends.StoreText a) is = absurd (cc)
limit_only (ends.StoreOutside a) is = absurd (cc)
limit_only (ends.MisalignedAtomic a) is = absurd (cc)

-- the streams that failed, from an earlier moment at which none had
pub fails_from : (A B : Type 0) (fault : RunFault) (r w r1 w1 r2 w2 : Bool) → r1 ≡ r → w1 ≡ w → FailsBy {A = A} (Err fault) r1 w1 r2 w2 → FailsBy {A = B} (Err fault) r w r2 w2
fails_from A B InputFault r w r1 w1 r2 w2 reads writes f = (f.0, f.1 ∙ writes)
fails_from A B OutputFault r w r1 w1 r2 w2 reads writes f = (f.0 ∙ reads, f.1)
fails_from A B OutOfMemory r w r1 w1 r2 w2 reads writes f = (f.0 ∙ reads, f.1 ∙ writes)

-- a fault that is not want of memory is none in another result
pub never_from : (A B : Type 0) (fault : RunFault) → (IsErrOf {T = A} (Err fault) OutOfMemory → ⊥) → IsErrOf {T = B} (Err fault) OutOfMemory → ⊥
never_from A B InputFault other is = absurd (cc)
never_from A B OutputFault other is = absurd (cc)
never_from A B OutOfMemory other is = other refl

-- whatever may follow what was read so far: what was written, and behind it what the run from here writes, is the run
-- from the start
abbrev pub SoFar : Reader Spells StandsFor → ℕ → ℕ → (List ℕ → laws.Hart) → Mem → Hart → Mem → Type 0 → List ℕ → List ℕ → Type 0
SoFar r limit remaining begin first h m going read written =
    (rest : List ℕ) → MayFollow going rest → outcome_behind written (run_on virt r remaining (hart_of h rest []) m) ≡ run_on virt r limit (begin (read ++ rest)) first

behind_both : (a b : List ℕ) (o : laws.Outcome) → outcome_behind a (outcome_behind b o) ≡ outcome_behind (a ++ b) o
behind_both a b o = ap (λ (c : List ℕ). record o { console = c }) (sym (append_assoc a b o.console))

front_behind : (a b c : List ℕ) → IsFront b c → IsFront (a ++ b) (a ++ c)
front_behind a b c f = record { rest = f.rest; joined = append_assoc a b f.rest ∙ ap (λ (xs : List ℕ). a ++ xs) f.joined }

-- at the start
pub so_far_first : (r : Reader Spells StandsFor) (limit : ℕ) (h : Hart) (m : Mem) (going : Type 0) → SoFar r limit limit (λ input. hart_of h input []) m h m going [] []
so_far_first r limit h m going rest may = refl

-- at the limit
pub so_far_last : (r : Reader Spells StandsFor) (limit remaining : ℕ) (begin : List ℕ → laws.Hart) (first : Mem) (h : Hart) (m : Mem) (going : Type 0) (read written : List ℕ) → SoFar r limit remaining begin first h m going read written → remaining ≡ 0 →
    (rest : List ℕ) → MayFollow going rest → run_on virt r limit (begin (read ++ rest)) first ≡ record { console = written; «end» = laws.Limit }
so_far_last r limit remaining begin first h m going read written so_far none rest may =
    sym (so_far rest may)
    ∙ ap (λ (n : ℕ). outcome_behind written (run_on virt r n (hart_of h rest []) m)) none
    ∙ ap (λ (c : List ℕ). record { console = c; «end» = laws.Limit }) (append-nil written)

module _ (r : Reader Spells StandsFor) (limit remaining : ℕ) (begin : List ℕ → laws.Hart) (first : Mem) (s t : Input) (h0 : Hart) (m0 : Mem) (read read1 written written1 : List ℕ)
    (so_far : SoFar r limit remaining begin first h0 m0 (s.ended ≡ false) read written) (more : HasRead s t read1) where
  whole : (rest : List ℕ) → MayFollow (t.ended ≡ false) rest →
      outcome_behind written (run_on virt r remaining (hart_of h0 (read1 ++ rest) []) m0) ≡ run_on virt r limit (begin ((read ++ read1) ++ rest)) first
  whole rest may =
      so_far (read1 ++ rest) (follows_before s t read1 rest more may)
      ∙ ap (λ (xs : List ℕ). run_on virt r limit (begin xs) first) (sym (append_assoc read read1 rest))

  -- what was written before is a front of all
  written_before : (rest : List ℕ) → MayFollow (t.ended ≡ false) rest → (front : List ℕ) → IsFront front (run_on virt r remaining (hart_of h0 (read1 ++ rest) []) m0).console →
      IsFront (written ++ front) (run_on virt r limit (begin ((read ++ read1) ++ rest)) first).console
  written_before rest may front f =
      subst (λ (o : laws.Outcome). IsFront (written ++ front) o.console) (whole rest may)
      (front_behind written front (run_on virt r remaining (hart_of h0 (read1 ++ rest) []) m0).console f)

  -- a stream failed in a run
  pub run_failed : (fault : RunFault) (rest : List ℕ) → MayFollow (t.ended ≡ false) rest → IsFront written1 (run r remaining (hart_of h0 (read1 ++ rest) []) m0).console →
      IsFront (written ++ written1) (run_on virt r limit (begin ((read ++ read1) ++ rest)) first).console
  run_failed fault rest may f =
      let now = hart_of h0 (read1 ++ rest) [] in
      written_before rest may written1 (front_of_front written1 (run r remaining now m0).console (run_on virt r remaining now m0).console f (run_within virt r remaining now m0))

  module _ (ran : Ran) (h1 : Hart) (m1 : Mem) (runs : (rest : List ℕ) → MayFollow (t.ended ≡ false) rest → RunsTo (Ok ran) written1 (hart_of h1 rest written1, m1) r remaining (hart_of h0 (read1 ++ rest) []) m0) where
    -- a run to the limit
    pub run_to_limit : law_end ran.«end» ≡ laws.Limit → (rest : List ℕ) → MayFollow (t.ended ≡ false) rest →
        run_on virt r limit (begin ((read ++ read1) ++ rest)) first ≡ record { console = written ++ written1; «end» = law_end ran.«end» }
    run_to_limit is rest may =
        sym (whole rest may)
        ∙ ap (outcome_behind written) (limited virt r remaining (hart_of h0 (read1 ++ rest) []) m0 (record { console = written1; «end» = law_end ran.«end» }) (runs rest may).0.0 is)

    module _ (other : law_end ran.«end» ≡ laws.Limit → ⊥) where
      pub goes : (rest : List ℕ) → MayFollow (t.ended ≡ false) rest →
          (0 < ran.count) × (ran.count ≤ remaining) × (step r (hart_of h1 rest written1) m1 ≡ Over (law_end ran.«end»))
          × (run_on virt r remaining (hart_of h0 (read1 ++ rest) []) m0 ≡ run_on virt r (suc (remaining - ran.count)) (hart_of h1 rest written1) m1)
      goes rest may =
          carried virt r remaining ran.count (hart_of h0 (read1 ++ rest) []) (hart_of h1 rest written1) m0 m1 (record { console = written1; «end» = law_end ran.«end» })
          (runs rest may).0.0 other (runs rest may).1 (runs rest may).0.1

      module _ (u : Input) (h2 : Hart) (m2 : Mem) (read2 written2 : List ℕ) (again : HasRead t u read2) where
        there : (rest : List ℕ) → MayFollow (u.ended ≡ false) rest → MayFollow (t.ended ≡ false) (read2 ++ rest)
        there rest may = follows_before t u read2 rest again may

        all_of : (rest : List ℕ) → MayFollow (u.ended ≡ false) rest →
            outcome_behind written (run_on virt r (suc (remaining - ran.count)) (hart_of h1 (read2 ++ rest) written1) m1) ≡ run_on virt r limit (begin (((read ++ read1) ++ read2) ++ rest)) first
        all_of rest may =
            let far = there rest may in
            ap (outcome_behind written) (sym (goes (read2 ++ rest) far).3)
            ∙ whole (read2 ++ rest) far
            ∙ ap (λ (xs : List ℕ). run_on virt r limit (begin xs) first) (sym (append_assoc (read ++ read1) read2 rest))

        -- an instruction that ends the run
        over_by : written2 ≡ [] → (e : laws.End) (rest : List ℕ) → MayFollow (u.ended ≡ false) rest → step_on virt r (hart_of h1 (read2 ++ rest) written1) m1 ≡ Over e →
            run_on virt r limit (begin (((read ++ read1) ++ read2) ++ rest)) first ≡ record { console = (written ++ written1) ++ written2; «end» = e }
        over_by nothing e rest may is =
            let now = hart_of h1 (read2 ++ rest) written1 in
            sym (all_of rest may)
            ∙ ap (λ (x : Next). outcome_behind written (follow x now (run_on virt r (remaining - ran.count)))) is
            ∙ ap (λ (c : List ℕ). record { console = c; «end» = e }) (sym (ap (λ (xs : List ℕ). (written ++ written1) ++ xs) nothing ∙ append-nil (written ++ written1)))

        pub refused : AnswersTo (Ok Refused) read2 written2 (u.ended ≡ false) r (hart_of h1) m1 (hart_of h2) m2 → (rest : List ℕ) → MayFollow (u.ended ≡ false) rest →
            run_on virt r limit (begin (((read ++ read1) ++ read2) ++ rest)) first ≡ record { console = (written ++ written1) ++ written2; «end» = law_end ran.«end» }
        refused a rest may = over_by a.1.0 (law_end ran.«end») rest may (a.1.1 (read2 ++ rest) written1 (law_end ran.«end») (goes (read2 ++ rest) (there rest may)).2)

        pub ended : (e : End) → AnswersTo (Ok (Ended e)) read2 written2 (u.ended ≡ false) r (hart_of h1) m1 (hart_of h2) m2 → (rest : List ℕ) → MayFollow (u.ended ≡ false) rest →
            run_on virt r limit (begin (((read ++ read1) ++ read2) ++ rest)) first ≡ record { console = (written ++ written1) ++ written2; «end» = law_end e }
        ended e a rest may = over_by a.1.0 (law_end e) rest may (a.1.1 (read2 ++ rest) written1 (law_end ran.«end») (goes (read2 ++ rest) (there rest may)).2)

        -- a stream failed in an answer
        pub answer_failed : written2 ≡ [] → (rest : List ℕ) → MayFollow (u.ended ≡ false) rest →
            IsFront ((written ++ written1) ++ written2) (run_on virt r limit (begin (((read ++ read1) ++ read2) ++ rest)) first).console
        answer_failed nothing rest may =
            let now = hart_of h1 (read2 ++ rest) written1 in
            let n = suc (remaining - ran.count) in
            let f : IsFront (written ++ written1) (written ++ (run_on virt r n now m1).console) = front_behind written written1 (run_on virt r n now m1).console (run_on_adds virt r n now m1) in
            let g : IsFront (written ++ written1) (run_on virt r limit (begin (((read ++ read1) ++ read2) ++ rest)) first).console = subst (λ (o : laws.Outcome). IsFront (written ++ written1) o.console) (all_of rest may) f in
            subst (λ (xs : List ℕ). IsFront xs (run_on virt r limit (begin (((read ++ read1) ++ read2) ++ rest)) first).console) (sym (ap (λ (xs : List ℕ). (written ++ written1) ++ xs) nothing ∙ append-nil (written ++ written1))) g

        -- an answer behind which the run goes on
        pub went : AnswersTo (Ok Went) read2 written2 (u.ended ≡ false) r (hart_of h1) m1 (hart_of h2) m2 →
            SoFar r limit (remaining - ran.count) begin first h2 m2 (u.ended ≡ false) ((read ++ read1) ++ read2) ((written ++ written1) ++ written2)
        went a rest may =
            let now = hart_of h1 (read2 ++ rest) written1 in
            let left = remaining - ran.count in
            let on = a rest written1 (law_end ran.«end») may (goes (read2 ++ rest) (there rest may)).2 in
            let next = hart_of h2 rest (written1 ++ written2) in
            ap (λ (c : List ℕ). outcome_behind c (run_on virt r left (hart_of h2 rest []) m2)) (append_assoc written written1 written2)
            ∙ sym (behind_both written (written1 ++ written2) (run_on virt r left (hart_of h2 rest []) m2))
            ∙ ap (outcome_behind written) (sym (run_from_none virt r left next m2))
            ∙ ap (λ (x : Next). outcome_behind written (follow x now (run_on virt r left))) (sym on)
            ∙ all_of rest may
