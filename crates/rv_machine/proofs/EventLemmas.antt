-- The events of a run, step by step.

use Rattle.std.proofs.Common.{◌≡◌, ℕ, suc, false, List, [], ◌∷◌, ◌++◌, sym, ap, ◌∙◌, subst, append_assoc}
use Rattle.rv_isa.specs.declared.instruction.Inst.{Inst}
use Rattle.rv_isa_laws.specs.Memory.{Mem}
use Rattle.rv_isa_laws.specs.Hart as laws
use Rattle.rv_isa_laws.specs.Effect.{Next, On, Over}
use Rattle.rv_isa_laws.specs.Reader.{Reader}
use Rattle.rv_isa_laws.specs.Run.{fetch, step, run}
use Rattle.rv_isa_laws.specs.Console.{IsFront}
use Rattle.rv_machine.proofs.StreamLemmas.{Continues, front_so_far}
use Rattle.rv_machine.specs.declared.hart.Hart.{Hart}
use Rattle.rv_event_laws.specs.Event.{Event, event_of, events, events_after}
use Rattle.rv_machine.specs.Hart.{hart_of}
use Rattle.rv_machine.specs.Streams.{MayFollow}
use Rattle.rv_machine.specs.StreamSteps.{Input, HasRead}
use Rattle.rv_machine.specs.Watching.{Begins}
use Rattle.rv_machine.proofs.KnownLemmas.{follows_before}

-- the events so far and those of what is left are all, whatever may follow what was read
abbrev pub Telling : {Spells StandsFor : ℕ → Inst → Type 0} → Reader Spells StandsFor → List Event → ℕ → ℕ → (List ℕ → laws.Hart) → Mem → Hart → Mem → Type 0 → List ℕ → List ℕ → Type 0
Telling reader told limit remaining begin first h m going read written =
    (rest : List ℕ) → MayFollow going rest → told ++ events reader remaining (hart_of h rest written) m ≡ events reader limit (begin (read ++ rest)) first

module _ {Spells StandsFor : ℕ → Inst → Type 0} (reader : Reader Spells StandsFor) where
  events-on : (n k : ℕ) (h h' : laws.Hart) (m m' : Mem) → n ≡ suc k → step reader h m ≡ On h' m' →
      events reader n h m ≡ event_of (fetch reader m h.pc) h m ∷ events reader k h' m'
  events-on n k h h' m m' remaining goes =
      rw remaining (ap (λ (x : Next). event_of (fetch reader m h.pc) h m ∷ events_after x (events reader k)) goes)

  events-over : (n k : ℕ) (h : laws.Hart) (m : Mem) (e : laws.End) → n ≡ suc k → step reader h m ≡ Over e →
      events reader n h m ≡ event_of (fetch reader m h.pc) h m ∷ []
  events-over n k h m e remaining over =
      rw remaining (ap (λ (x : Next). event_of (fetch reader m h.pc) h m ∷ events_after x (events reader k)) over)

  module _ (told : List Event) (limit remaining : ℕ) (begin : List ℕ → laws.Hart) (first : Mem) (s t : Input) (h : Hart) (m : Mem) (read more written : List ℕ) (r : HasRead s t more) (so_far : Telling reader told limit remaining begin first h m (s.ended ≡ false) read written) where
    told_by : (rest : List ℕ) → MayFollow (t.ended ≡ false) rest → told ++ events reader remaining (hart_of h (more ++ rest) written) m ≡ events reader limit (begin ((read ++ more) ++ rest)) first
    told_by rest may = so_far (more ++ rest) (follows_before s t more rest r may) ∙ ap (λ (xs : List ℕ). events reader limit (begin xs) first) (sym (append_assoc read more rest))

    -- a step that goes on
    pub told_on : (put : List ℕ) (next : ℕ) (e : Event) (h' : Hart) (m' : Mem) → remaining ≡ suc next →
        ((rest : List ℕ) → MayFollow (t.ended ≡ false) rest → e ≡ event_of (fetch reader m h.pc) (hart_of h (more ++ rest) written) m) →
        ((rest console : List ℕ) → MayFollow (t.ended ≡ false) rest → step reader (hart_of h (more ++ rest) console) m ≡ On (hart_of h' rest (console ++ put)) m') →
        Telling reader (told ++ (e ∷ [])) limit next begin first h' m' (t.ended ≡ false) (read ++ more) (written ++ put)
    told_on put next e h' m' is event steps rest may =
        let now : laws.Hart = hart_of h (more ++ rest) written in
        let others : List Event = events reader next (hart_of h' rest (written ++ put)) m' in
        append_assoc told (e ∷ []) others
        ∙ ap (λ (x : Event). told ++ (x ∷ others)) (event rest may)
        ∙ ap (λ (xs : List Event). told ++ xs) (sym (events-on remaining next now (hart_of h' rest (written ++ put)) m m' is (steps rest written may)))
        ∙ told_by rest may

    -- a step that ends the run
    pub told_over : (next : ℕ) (e : Event) (over : laws.End) → remaining ≡ suc next →
        ((rest : List ℕ) → MayFollow (t.ended ≡ false) rest → e ≡ event_of (fetch reader m h.pc) (hart_of h (more ++ rest) written) m) →
        ((rest console : List ℕ) → step reader (hart_of h rest console) m ≡ Over over) →
        (rest : List ℕ) → MayFollow (t.ended ≡ false) rest → events reader limit (begin ((read ++ more) ++ rest)) first ≡ told ++ (e ∷ [])
    told_over next e over is event ends rest may =
        sym (told_by rest may)
        ∙ ap (λ (xs : List Event). told ++ xs) (events-over remaining next (hart_of h (more ++ rest) written) m over is (ends (more ++ rest) written))
        ∙ ap (λ (x : Event). told ++ (x ∷ [])) (sym (event rest may))

    -- the events so far come first
    pub told_front : (rest : List ℕ) → MayFollow (t.ended ≡ false) rest → Begins told (events reader limit (begin ((read ++ more) ++ rest)) first)
    told_front rest may = record { rest = events reader remaining (hart_of h (more ++ rest) written) m; joined = told_by rest may }

-- what was written and told so far comes first, where nothing more is known
pub fronts : {Spells StandsFor : ℕ → Inst → Type 0} (reader : Reader Spells StandsFor) (told : List Event) (limit remaining : ℕ) (begin : List ℕ → laws.Hart) (first : Mem) (h : Hart) (m : Mem) (going : Type 0) (read written : List ℕ) →
    Continues (run reader) limit remaining begin first h m going read written → Telling reader told limit remaining begin first h m going read written →
    (rest : List ℕ) → MayFollow going rest → IsFront written (run reader limit (begin (read ++ rest)) first).console × Begins told (events reader limit (begin (read ++ rest)) first)
fronts reader told limit remaining begin first h m going read written runs tells rest may = (
  front_so_far reader limit remaining begin first h m going read written runs rest may,
  record { rest = events reader remaining (hart_of h rest written) m; joined = tells rest may },
)

-- a watcher that has seen these has seen one more
pub seen_more : {S : Type 0} (has_seen : S → List Event → Type 0) (a b k c : S) (told : List Event) (e : Event) →
    ((past : List Event) → has_seen a past → has_seen b (past ++ told)) →
    ((past : List Event) → has_seen b past → has_seen k past) →
    ((past : List Event) → has_seen k past → has_seen c (past ++ (e ∷ []))) →
    (past : List Event) → has_seen a past → has_seen c (past ++ (told ++ (e ∷ [])))
seen_more has_seen a b k c told e far kept more past seen =
    subst (λ (xs : List Event). has_seen c xs) (append_assoc past told (e ∷ [])) (more (past ++ told) (kept (past ++ told) (far past seen)))
