-- A run with devices, from where the run without them ended.

use Rattle.std.proofs.Common.{◌≡◌, ◌⊎◌, inl, inr, ℕ, zero, suc, ◌-◌, ◌%◌, ◌<◌, ◌≤◌, Bool, true, false, ◌||◌, ◌&&◌, ◌∷◌, length, refl, sym, ap, ◌∙◌, subst, arith}
use Rattle.std.specs.Prelude.{◌==◌, if◌then◌else◌}
use Rattle.rv_isa.specs.declared.instruction.Inst.{Inst}
use Rattle.rv_isa_laws.specs.Memory.{Mem, Read, Write, Execute, may, some_has}
use Rattle.rv_isa_laws.specs.Hart.{Hart, End, Limit, LoadText, LoadOutside, StoreText, StoreOutside, Outcome, register, stop}
use Rattle.rv_isa_laws.specs.Effect.{Effect, Goes, Loads, Stores, Reserves, Conditional, Updates, Calls, Breaks, Next, On, Over, apply, environment_call, follow}
use Rattle.rv_isa_laws.specs.Meaning.{effect}
use Rattle.rv_isa_laws.specs.Reader.{Reader}
use Rattle.rv_isa_laws.specs.Run.{Fetched, NoRight, NoInstruction, Got, fetch, done, step, run}
use Rattle.rv_event_laws.specs.Event.{event_of, events, events_after}
use Rattle.rv_machine.specs.Counts.{run_length}
use Rattle.rv_machine.specs.LastState.{last_state}
use Rattle.rv_machine.proofs.RunLemmas.{run-on, run-over, last-on, last-over}
use Rattle.rv_board_laws.specs.Device.{Device, run_on}
use Rattle.rv_board_laws.proofs.BesideLemmas.{on_step}

-- no step ends by the limit
abbrev NoLimit : Next → Type 0
NoLimit (Over Limit) = ⊥
NoLimit _ = Unit {0}

no_limit_if : (t : Bool) (x y : Next) → NoLimit x → NoLimit y → NoLimit (if t then x else y)
no_limit_if true x y f g = f
no_limit_if false x y f g = g

no_load : (t : Bool) (a : ℕ) → NoLimit (Over (if t then LoadText a else LoadOutside a))
no_load true a = tt
no_load false a = tt

no_store : (t : Bool) (a : ℕ) → NoLimit (Over (if t then StoreText a else StoreOutside a))
no_store true a = tt
no_store false a = tt

no_limit_call : (h : Hart) (m : Mem) → NoLimit (environment_call h m)
no_limit_call h m =
    no_limit_if (register h 17 == 63) _ _
    (no_limit_if (register h 10 == 0) _ _
    (no_limit_if (may m (register h 11) (register h 12) Write) _ _ tt tt)
    tt)
    (no_limit_if (register h 17 == 64) _ _
    (no_limit_if ((register h 10 == 1) || (register h 10 == 2)) _ _
    (no_limit_if (may m (register h 11) (register h 12) Read) _ _ tt tt)
    tt)
    (no_limit_if (register h 17 == 93) _ _ tt tt))

no_limit_apply : (e : Effect) (m : Mem) → NoLimit (apply e m)
no_limit_apply (Goes next) m = tt
no_limit_apply (Loads a n next) m = no_limit_if (may m a n Read) _ _ tt (no_load (some_has m a n Execute) a)
no_limit_apply (Stores a n v next) m = no_limit_if (may m a n Write) _ _ tt (no_store (some_has m a n Execute) a)
no_limit_apply (Reserves a n next) m = no_limit_if (a % n == 0) _ _ (no_limit_if (may m a n Read) _ _ tt (no_load (some_has m a n Execute) a)) tt
no_limit_apply (Conditional a n v reserved next) m = no_limit_if (a % n == 0) _ _ (no_limit_if (may m a n Write) _ _ tt (no_store (some_has m a n Execute) a)) tt
no_limit_apply (Updates a n new next) m = no_limit_if (a % n == 0) _ _ (no_limit_if (may m a n Read && may m a n Write) _ _ tt (no_store (some_has m a n Execute) a)) tt
no_limit_apply (Calls next) m = no_limit_call next m
no_limit_apply Breaks m = tt

no_limit_done : (f : Fetched) (h : Hart) (m : Mem) → NoLimit (done f h m)
no_limit_done NoRight h m = tt
no_limit_done NoInstruction h m = tt
no_limit_done (Got i bytes) h m = no_limit_apply (effect i bytes h) m

module _ {Spells StandsFor : ℕ → Inst → Type 0} (d : ℕ → Device) (reader : Reader Spells StandsFor) where
  -- how a run ended: at its limit, where the run with devices is; or by a step, from where that run goes on
  abbrev AtLimit : ℕ → Hart → Mem → Hart × Mem → Type 0
  AtLimit n h m s = (run reader n h m ≡ stop s.0 Limit) × (run_on d reader n h m ≡ stop s.0 Limit)

  abbrev ByStep : ℕ → Hart → Mem → Hart × Mem → ℕ → Type 0
  ByStep n h m s k = (e : End) × (run reader n h m ≡ stop s.0 e) × (0 < k) × (k ≤ n) × (step reader s.0 s.1 ≡ Over e)
      × (run_on d reader n h m ≡ run_on d reader (suc (n - k)) s.0 s.1)

  on_once : (n : ℕ) (h g : Hart) (m p : Mem) → step reader h m ≡ On g p → run_on d reader (suc n) h m ≡ run_on d reader n g p
  on_once n h g m p is = ap (λ (x : Next). follow x h (run_on d reader n)) (on_step d reader h m g p is)

  length_on : (n : ℕ) (h g : Hart) (m p : Mem) → step reader h m ≡ On g p → run_length reader (suc n) h m ≡ suc (run_length reader n g p)
  length_on n h g m p is = ap (λ (x : Next). length (event_of (fetch reader m h.pc) h m ∷ events_after x (events reader n))) is

  length_over : (n : ℕ) (h : Hart) (m : Mem) (e : End) → step reader h m ≡ Over e → run_length reader (suc n) h m ≡ 1
  length_over n h m e is = ap (λ (x : Next). length (event_of (fetch reader m h.pc) h m ∷ events_after x (events reader n))) is

  one_of : (n k : ℕ) → k ≡ 1 → suc n ≡ suc (suc n - k)
  one_of n k is = omega (arith, is)

  one_more : (n k l : ℕ) → l ≡ suc k → suc (n - k) ≡ suc (suc n - l)
  one_more n k l is = omega (arith, is)

  over_case : (n : ℕ) (h : Hart) (m : Mem) (e : End) → step reader h m ≡ Over e → ByStep (suc n) h m (last_state reader (suc n) h m) (run_length reader (suc n) h m)
  over_case n h m e is =
      let last : last_state reader (suc n) h m ≡ (h, m) = last-over reader (suc n) n h m e refl is in
      let count = length_over n h m e is in (
        e,
        run-over reader (suc n) n h m e refl is ∙ ap (λ (s : Hart × Mem). stop s.0 e) (sym last),
        omega (arith, count),
        omega (arith, count),
        ap (λ (s : Hart × Mem). step reader s.0 s.1) last ∙ is,
        ap (λ (j : ℕ). run_on d reader j h m) (one_of n _ count)
            ∙ ap (λ (s : Hart × Mem). run_on d reader (suc (suc n - run_length reader (suc n) h m)) s.0 s.1) (sym last),
      )

  pub tied : (n : ℕ) (h : Hart) (m : Mem) → AtLimit n h m (last_state reader n h m) ⊎ ByStep n h m (last_state reader n h m) (run_length reader n h m)
  tied zero h m = inl (refl, refl)
  tied (suc n) h m = by (tied n) (step reader h m) refl
    where
      by : ((g : Hart) (p : Mem) → AtLimit n g p (last_state reader n g p) ⊎ ByStep n g p (last_state reader n g p) (run_length reader n g p)) →
          (x : Next) → step reader h m ≡ x → AtLimit (suc n) h m (last_state reader (suc n) h m) ⊎ ByStep (suc n) h m (last_state reader (suc n) h m) (run_length reader (suc n) h m)
      by rest (Over e) is = inr (over_case n h m e is)
      by rest (On g p) is =
          let went = run-on reader (suc n) n h g m p refl is in
          let last = last-on reader (suc n) n h g m p refl is in
          let count = length_on n h g m p is in
          let on = on_once n h g m p is in
          elim (rest g p) [
            | inl a ↦ inl (went ∙ a.0 ∙ ap (λ (s : Hart × Mem). stop s.0 Limit) (sym last), on ∙ a.1 ∙ ap (λ (s : Hart × Mem). stop s.0 Limit) (sym last))
            | inr b ↦ inr (
              b.0,
              went ∙ b.1 ∙ ap (λ (s : Hart × Mem). stop s.0 b.0) (sym last),
              omega (arith, count, b.2),
              omega (arith, count, b.3),
              ap (λ (s : Hart × Mem). step reader s.0 s.1) last ∙ b.4,
              on ∙ b.5 ∙ ap (λ (j : ℕ). run_on d reader j (last_state reader n g p).0 (last_state reader n g p).1) (one_more n _ _ count)
                  ∙ ap (λ (s : Hart × Mem). run_on d reader (suc (suc n - run_length reader (suc n) h m)) s.0 s.1) (sym last),
            )
          ]

  -- a run that a step ended in this state after so many instructions
  pub carried : (n k : ℕ) (h g : Hart) (m p : Mem) (o : Outcome) → run reader n h m ≡ o → (o.«end» ≡ Limit → ⊥) → last_state reader n h m ≡ (g, p) → k ≡ run_length reader n h m →
      (0 < k) × (k ≤ n) × (step reader g p ≡ Over o.«end») × (run_on d reader n h m ≡ run_on d reader (suc (n - k)) g p)
  carried n k h g m p o is other last count = elim (tied n h m) [
    | inl a ↦ absurd (other (ap (λ (x : Outcome). x.«end») (sym is ∙ a.0)))
    | inr b ↦
        let same : b.0 ≡ o.«end» = ap (λ (x : Outcome). x.«end») (sym b.1 ∙ is) in (
          rw count b.2,
          rw count b.3,
          ap (λ (s : Hart × Mem). step reader s.0 s.1) (sym last) ∙ b.4 ∙ ap (λ (e : End). Over e) same,
          b.5 ∙ ap (λ (j : ℕ). run_on d reader (suc (n - j)) (last_state reader n h m).0 (last_state reader n h m).1) (sym count)
              ∙ ap (λ (s : Hart × Mem). run_on d reader (suc (n - k)) s.0 s.1) last,
        )
  ]

  -- a run that came to its limit
  pub limited : (n : ℕ) (h : Hart) (m : Mem) (o : Outcome) → run reader n h m ≡ o → o.«end» ≡ Limit → run_on d reader n h m ≡ o
  limited n h m o is end = elim (tied n h m) [
    | inl a ↦ a.1 ∙ sym a.0 ∙ is
    | inr b ↦
        let same : b.0 ≡ Limit = ap (λ (x : Outcome). x.«end») (sym b.1 ∙ is) ∙ end in
        let s = last_state reader n h m in
        absurd (subst NoLimit (b.4 ∙ ap (λ (e : End). Over e) same) (no_limit_done (fetch reader s.1 s.0.pc) s.0 s.1))
  ]
