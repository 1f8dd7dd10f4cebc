-- The lines of a statement one after another: what they come to, and that a run of the machine over them comes to the same.

use Rattle.std.proofs.Common.{◌≡◌, ℕ, zero, suc, ◌+◌, ◌^◌, ◌<◌, ◌≤◌, Bool, true, false, Option, Some, None, List, [], ◌∷◌, length, refl, ap, ◌∙◌, arith}
use Rattle.std.specs.Prelude.{◌==◌, if◌then◌else◌}
use Rattle.std.specs.List.{AllByRecursion}
use Rattle.std.proofs.lemmas.Bool.{eqb-true}
use Rattle.rv_isa.specs.declared.instruction.Inst.{Inst}
use Rattle.rv_isa_laws.specs.Memory.{Mem, Right, Execute, may}
use Rattle.rv_isa_laws.specs.Hart.{Hart, Outcome, Limit, stop}
use Rattle.rv_isa_laws.specs.Effect.{Effect, Goes, Loads, Stores, Reserves, Conditional, Updates, Calls, Breaks, Next, On, Over, follow}
use Rattle.rv_isa_laws.specs.Meaning.{effect}
use Rattle.rv_isa_laws.specs.Kept.{GoesOn, Kept, InRange}
use Rattle.rv_isa_laws.proofs.EffectLawsLemmas.{effect_keeps}
use Rattle.rv_isa_laws.specs.Reader.{Reader}
use Rattle.rv_isa_laws.specs.Run.{NoRight, Got, spelled, length_at, fetch}
use Rattle.rv_board_laws.specs.Device.{Device, apply_on, done_on, step_on, run_on}
use Rattle.rv_source_laws.specs.Lines.{Line}
use Rattle.rv_chain_laws.specs.Realizes.{StandsIn}
use Rattle.rv_chain_laws.specs.Walks.{Walked, once, more, then_walk, walk}
use Rattle.rv_runs_theorems.proofs.EvenLemmas.{IsEven, effect_even}
use Rattle.rv_runs_theorems.proofs.FetchLemmas.{Text, fetched, even_bytes}
use Rattle.rv_runs_theorems.proofs.OnwardLemmas.{both_goes}

one_more : (t : Bool) (w : Walked) (e : Effect) → 1 ≤ (if t then more w else once e).count
one_more true w e = omega arith
one_more false w e = omega arith

one_then : (e : Effect) (next : ℕ) (go : Hart → Walked) → 1 ≤ (then_walk e next go).count
one_then (Goes g) next go = one_more (g.pc == next) (go g) (Goes g)
one_then (Loads a n k) next go = omega arith
one_then (Stores a n v k) next go = omega arith
one_then (Reserves a n k) next go = omega arith
one_then (Conditional a n v reserved k) next go = omega arith
one_then (Updates a n new k) next go = omega arith
one_then (Calls k) next go = omega arith
one_then Breaks next go = omega arith

-- a walk runs one line or more
pub walk_one : (l : Line) (ls : List Line) (h : Hart) → 1 ≤ (walk l ls h).count
walk_one l [] h = omega arith
walk_one l (k ∷ ls) h = one_then (effect l.instruction l.bytes h) k.address (walk k ls)

short_spelled : (n : ℕ) (o : Option Inst) (i : Inst) (b : ℕ) → n ≤ 4 → spelled n o ≡ Got i b → b ≤ 4
short_spelled n None i b short e = absurd (cc)
short_spelled n (Some j) i b short e = let same : n ≡ b = cc in omega arith

short_if : (t : Bool) (n : ℕ) (o : Option Inst) (i : Inst) (b : ℕ) → n ≤ 4 → (if t then spelled n o else NoRight) ≡ Got i b → b ≤ 4
short_if true n o i b short e = short_spelled n o i b short e
short_if false n o i b short e = absurd (cc)

short_length : (t : Bool) → (if t then 4 else 2) ≤ 4
short_length true = omega arith
short_length false = omega arith

module _ {Spells StandsFor : ℕ → Inst → Type 0} (reader : Reader Spells StandsFor) (m : Mem) where
  short_bytes : (a : ℕ) (i : Inst) (b : ℕ) → fetch reader m a ≡ Got i b → b ≤ 4
  short_bytes a i b e = short_if (may m a (length_at m a) Execute) (length_at m a) _ i b (short_length _) e

  -- lines that stand in memory have at most four bytes each
  pub short_lines : (ls : List Line) → AllByRecursion (StandsIn reader m) ls → AllByRecursion (λ l. l.bytes ≤ 4) ls
  short_lines [] stand = tt
  short_lines (l ∷ ls) stand = (short_bytes l.address l.instruction l.bytes stand.0.0, short_lines ls stand.1)

-- the hart goes on with the console that it has and as many registers in range, to an even address below 2 ^ 64
pub record Steady (h g : Hart) : Type 0 where
  pub console : g.console ≡ h.console
  pub pc : g.pc < 2 ^ 64
  pub even : IsEven g
  pub whole : length g.registers ≡ length h.registers
  pub inside : InRange h → InRange g

steady_from : (h k g : Hart) → Steady h k → Steady k g → Steady h g
steady_from h k g r s = record { console = s.console ∙ r.console; pc = s.pc; even = s.even; whole = s.whole ∙ r.whole; inside = λ all. s.inside (r.inside all) }

follow_same : (x : Next) (g h : Hart) (go : Hart → Mem → Outcome) → g.console ≡ h.console → follow x g go ≡ follow x h go
follow_same (On k m) g h go e = refl
follow_same (Over f) g h go e = ap (λ c. record { console = c; «end» = f }) e

module _ {Spells StandsFor : ℕ → Inst → Type 0} (reader : Reader Spells StandsFor) (has : ℕ → Right → Bool) (first : Mem) (rights : (a : ℕ) → a < 2 ^ 64 → first.has a Execute ≡ has a Execute) where
  line_steady : (l : Line) (h : Hart) → StandsIn reader first l → IsEven h → GoesOn (Steady h) (effect l.instruction l.bytes h)
  line_steady l h stands e =
      both_goes (Kept h) IsEven (Steady h) (λ g k even. record { console = k.console; pc = k.pc; even = even; whole = k.count; inside = k.below }) (effect l.instruction l.bytes h)
      (effect_keeps l.instruction l.bytes h)
      (effect_even l.instruction l.bytes h stands.1 (even_bytes reader first l.address l.instruction l.bytes stands.0) e)

  steady_goes : (t : Bool) (g h : Hart) (go : Hart → Walked) → Steady h g → GoesOn (Steady g) (go g).effect → GoesOn (Steady h) (if t then more (go g) else once (Goes g)).effect
  steady_goes true g h go s rest = both_goes (Steady g) (Steady g) (Steady h) (λ k a b. steady_from h g k s a) (go g).effect rest rest
  steady_goes false g h go s rest = s

  steady_then : (e : Effect) (next : ℕ) (go : Hart → Walked) (h : Hart) → GoesOn (Steady h) e → ((g : Hart) → IsEven g → GoesOn (Steady g) (go g).effect) → GoesOn (Steady h) (then_walk e next go).effect
  steady_then (Goes g) next go h s rest = steady_goes (g.pc == next) g h go s (rest g s.even)
  steady_then (Loads a n k) next go h s rest = s
  steady_then (Stores a n v k) next go h s rest = s
  steady_then (Reserves a n k) next go h s rest = s
  steady_then (Conditional a n v reserved k) next go h s rest = s
  steady_then (Updates a n new k) next go h s rest = s
  steady_then (Calls k) next go h s rest = s
  steady_then Breaks next go h s rest = s

  pub walk_steady : (ls : List Line) (l : Line) (h : Hart) → AllByRecursion (StandsIn reader first) (l ∷ ls) → IsEven h → GoesOn (Steady h) (walk l ls h).effect
  walk_steady [] l h stand e = line_steady l h stand.0 e
  walk_steady (k ∷ ls) l h stand e =
      steady_then (effect l.instruction l.bytes h) k.address (walk k ls) h (line_steady l h stand.0 e) (λ g even. walk_steady ls k g stand.1 even)

  module _ (d : ℕ → Device) (m : Mem) (text : Text has first m) where
    line_step : (l : Line) (h : Hart) → StandsIn reader first l → h.pc ≡ l.address → step_on d reader h m ≡ apply_on d (effect l.instruction l.bytes h) m
    line_step l h stands e =
        ap (λ a. done_on d (fetch reader m a) h m) e ∙ ap (λ f. done_on d f h m) (fetched reader has first rights m text l.address (Got l.instruction l.bytes) (λ e. cc) stands.0)

    -- the machine runs the lines and comes to the effect of the last
    abbrev Runs : Walked → Hart → Type 0
    Runs w h = (n : ℕ) → run_on d reader (w.count + n) h m ≡ follow (apply_on d w.effect m) h (run_on d reader n)

    once_runs : (e : Effect) (h : Hart) → step_on d reader h m ≡ apply_on d e m → Runs (once e) h
    once_runs e h s n =
        let one : 1 + n ≡ suc n = omega arith in
        ap (λ k. run_on d reader k h m) one ∙ ap (λ x. follow x h (run_on d reader n)) s

    goes_runs : (t : Bool) (g h : Hart) (go : Hart → Walked) → step_on d reader h m ≡ On g m → g.console ≡ h.console → (t ≡ true → Runs (go g) g) → Runs (if t then more (go g) else once (Goes g)) h
    goes_runs true g h go s e rest n =
        let one : suc (go g).count + n ≡ suc ((go g).count + n) = omega arith in
        ap (λ k. run_on d reader k h m) one
        ∙ ap (λ x. follow x h (run_on d reader ((go g).count + n))) s
        ∙ rest refl n
        ∙ follow_same (apply_on d (go g).effect m) g h (run_on d reader n) e
    goes_runs false g h go s e rest n = once_runs (Goes g) h s n

    then_runs : (e : Effect) (next : ℕ) (go : Hart → Walked) (h : Hart) → step_on d reader h m ≡ apply_on d e m → GoesOn (Steady h) e → ((g : Hart) → g.pc ≡ next → IsEven g → Runs (go g) g) → Runs (then_walk e next go) h
    then_runs (Goes g) next go h s steady rest n = goes_runs (g.pc == next) g h go s steady.console (λ t. rest g (eqb-true g.pc next t) steady.even) n
    then_runs (Loads a k f) next go h s steady rest n = once_runs (Loads a k f) h s n
    then_runs (Stores a k v f) next go h s steady rest n = once_runs (Stores a k v f) h s n
    then_runs (Reserves a k f) next go h s steady rest n = once_runs (Reserves a k f) h s n
    then_runs (Conditional a k v reserved f) next go h s steady rest n = once_runs (Conditional a k v reserved f) h s n
    then_runs (Updates a k new f) next go h s steady rest n = once_runs (Updates a k new f) h s n
    then_runs (Calls f) next go h s steady rest n = once_runs (Calls f) h s n
    then_runs Breaks next go h s steady rest n = once_runs Breaks h s n

    pub walk_runs : (ls : List Line) (l : Line) (h : Hart) → AllByRecursion (StandsIn reader first) (l ∷ ls) → h.pc ≡ l.address → IsEven h → Runs (walk l ls h) h
    walk_runs [] l h stand pc e = once_runs (effect l.instruction l.bytes h) h (line_step l h stand.0 pc)
    walk_runs (k ∷ ls) l h stand pc e =
        then_runs (effect l.instruction l.bytes h) k.address (walk k ls) h (line_step l h stand.0 pc) (line_steady l h stand.0 e)
        (λ g at even. walk_runs ls k g stand.1 at even)

    -- with fewer instructions left than lines to run, the limit is met among them
    abbrev Limits : Walked → Hart → Type 0
    Limits w h = (n : ℕ) → n < w.count → run_on d reader n h m ≡ stop h Limit

    once_limits : (e : Effect) (h : Hart) → Limits (once e) h
    once_limits e h zero below = refl
    once_limits e h (suc n) below = absurd (omega arith)

    goes_limits : (t : Bool) (g h : Hart) (go : Hart → Walked) → step_on d reader h m ≡ On g m → g.console ≡ h.console → (t ≡ true → Limits (go g) g) → Limits (if t then more (go g) else once (Goes g)) h
    goes_limits t g h go s e rest zero below = refl
    goes_limits true g h go s e rest (suc n) below =
        ap (λ x. follow x h (run_on d reader n)) s ∙ rest refl n (omega arith) ∙ ap (λ c. record { console = c; «end» = Limit }) e
    goes_limits false g h go s e rest (suc n) below = absurd (omega arith)

    then_limits : (e : Effect) (next : ℕ) (go : Hart → Walked) (h : Hart) → step_on d reader h m ≡ apply_on d e m → GoesOn (Steady h) e → ((g : Hart) → g.pc ≡ next → IsEven g → Limits (go g) g) → Limits (then_walk e next go) h
    then_limits (Goes g) next go h s steady rest = goes_limits (g.pc == next) g h go s steady.console (λ t. rest g (eqb-true g.pc next t) steady.even)
    then_limits (Loads a k f) next go h s steady rest = once_limits (Loads a k f) h
    then_limits (Stores a k v f) next go h s steady rest = once_limits (Stores a k v f) h
    then_limits (Reserves a k f) next go h s steady rest = once_limits (Reserves a k f) h
    then_limits (Conditional a k v reserved f) next go h s steady rest = once_limits (Conditional a k v reserved f) h
    then_limits (Updates a k new f) next go h s steady rest = once_limits (Updates a k new f) h
    then_limits (Calls f) next go h s steady rest = once_limits (Calls f) h
    then_limits Breaks next go h s steady rest = once_limits Breaks h

    pub walk_limits : (ls : List Line) (l : Line) (h : Hart) → AllByRecursion (StandsIn reader first) (l ∷ ls) → h.pc ≡ l.address → IsEven h → Limits (walk l ls h) h
    walk_limits [] l h stand pc e = once_limits (effect l.instruction l.bytes h) h
    walk_limits (k ∷ ls) l h stand pc e =
        then_limits (effect l.instruction l.bytes h) k.address (walk k ls) h (line_step l h stand.0 pc) (line_steady l h stand.0 e)
        (λ g at even. walk_limits ls k g stand.1 at even)
