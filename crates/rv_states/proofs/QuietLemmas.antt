-- What a step makes of a hart has nothing to do with what was written.

use Rattle.std.proofs.Common.{◌≡◌, ◌≢◌, ℕ, zero, suc, ◌+◌, ◌%◌, ◌≤◌, Bool, true, false, ◌||◌, ◌&&◌, ◌∷◌, length, refl, sym, ap, ◌∙◌, zero-add, arith}
use Rattle.std.specs.Prelude.{◌==◌, if◌then◌else◌}
use Rattle.rv_isa.specs.declared.instruction.Inst.{Inst}
use Rattle.rv_isa.specs.declared.instruction.Atomic.{Atomic as AtomicOperands}
use Rattle.rv_isa.specs.declared.instruction.Format.{Format}
use Rattle.rv_isa.specs.declared.instruction.Format.TheVariants.{Registers, Immediate, Shift, Upper, Load, Store, Branch, Jal, Jalr, LoadReserved, Atomic, Fence, Ecall, Ebreak}
use Rattle.rv_isa.specs.declared.operation.AtomicOperation.{AtomicOperation}
use Rattle.rv_isa.specs.declared.operation.AtomicOperation.TheVariants.{Sc}
use Rattle.rv_isa.specs.Operations.{format_of}
use Rattle.rv_isa_laws.specs.Memory.{Mem, Read, Write, may}
use Rattle.rv_isa_laws.specs.Hart.{Hart, End, Limit, register}
use Rattle.rv_isa_laws.specs.Effect.{Next, On, Over, apply, follow, environment_call}
use Rattle.rv_isa_laws.specs.Meaning.{address_of, load_width, store_width, atomic_width, atomic_effect, format_effect}
use Rattle.rv_isa_laws.specs.Reader.{Reader}
use Rattle.rv_isa_laws.specs.Run.{Fetched, Got, NoRight, NoInstruction, fetch, done, step, run}
use Rattle.rv_event_laws.specs.Event.{Event, event_of, events, events_after}
use Rattle.rv_machine.specs.LastState.{last_state, left_by}
use Rattle.rv_states.specs.Replayed.{quiet, quiet_state}

abbrev quiet_next : Next → Next
quiet_next (On h m) = On (quiet h) m
quiet_next (Over e) = Over e

either : (b : Bool) (x y x' y' : Next) → quiet_next x ≡ quiet_next x' → quiet_next y ≡ quiet_next y' → quiet_next (if b then x else y) ≡ quiet_next (if b then x' else y')
either true x y x' y' f g = f
either false x y x' y' f g = g

call_quiet : (h : Hart) (pc : ℕ) (m : Mem) → quiet_next (environment_call (record h { pc = pc }) m) ≡ quiet_next (environment_call (record (quiet h) { pc = pc }) m)
call_quiet h pc m =
    either (register h 17 == 63) _ _ _ _
    (either (register h 10 == 0) _ _ _ _
    (either (may m (register h 11) (register h 12) Write) _ _ _ _ refl refl)
    refl)
    (either (register h 17 == 64) _ _ _ _
    (either ((register h 10 == 1) || (register h 10 == 2)) _ _ _ _
    (either (may m (register h 11) (register h 12) Read) _ _ _ _ refl refl)
    refl)
    (either (register h 17 == 93) _ _ _ _ refl refl))

atomic_quiet : (operation : AtomicOperation) (double : Bool) (x : AtomicOperands) (bytes : ℕ) (h : Hart) (m : Mem) →
    quiet_next (apply (atomic_effect operation double x bytes h) m) ≡ quiet_next (apply (atomic_effect operation double x bytes (quiet h)) m)
atomic_quiet Sc double x bytes h m =
    let a = register h x.rs1 in
    let n = atomic_width double in
    either (a % n == 0) _ _ _ _ (either (may m a n Write) _ _ _ _ refl refl) refl
atomic_quiet _ false x bytes h m =
    let a = register h x.rs1 in
    either (a % 4 == 0) _ _ _ _ (either (may m a 4 Read && may m a 4 Write) _ _ _ _ refl refl) refl
atomic_quiet _ true x bytes h m =
    let a = register h x.rs1 in
    either (a % 8 == 0) _ _ _ _ (either (may m a 8 Read && may m a 8 Write) _ _ _ _ refl refl) refl

format_quiet : (f : Format) (bytes : ℕ) (h : Hart) (m : Mem) → quiet_next (apply (format_effect f bytes h) m) ≡ quiet_next (apply (format_effect f bytes (quiet h)) m)
format_quiet (Registers operation x) bytes h m = refl
format_quiet (Immediate operation x) bytes h m = refl
format_quiet (Shift operation x) bytes h m = refl
format_quiet (Upper operation x) bytes h m = refl
format_quiet (Load operation x) bytes h m = either (may m (address_of h x.rs1 x.immediate) (load_width operation) Read) _ _ _ _ refl refl
format_quiet (Store operation x) bytes h m = either (may m (address_of h x.rs1 x.immediate) (store_width operation) Write) _ _ _ _ refl refl
format_quiet (Branch operation x) bytes h m = refl
format_quiet (Jal x) bytes h m = refl
format_quiet (Jalr x) bytes h m = refl
format_quiet (LoadReserved double x) bytes h m =
    let a = register h x.rs1 in
    let n = atomic_width double in
    either (a % n == 0) _ _ _ _ (either (may m a n Read) _ _ _ _ refl refl) refl
format_quiet (Atomic operation double x) bytes h m = atomic_quiet operation double x bytes h m
format_quiet (Fence x) bytes h m = refl
format_quiet Ecall bytes h m = call_quiet h _ m
format_quiet Ebreak bytes h m = refl

done_quiet : (f : Fetched) (h : Hart) (m : Mem) → quiet_next (done f h m) ≡ quiet_next (done f (quiet h) m)
done_quiet NoRight h m = refl
done_quiet NoInstruction h m = refl
done_quiet (Got i bytes) h m = format_quiet (format_of i) bytes h m

module _ {Spells StandsFor : ℕ → Inst → Type 0} (reader : Reader Spells StandsFor) where
  step_quiet : (h : Hart) (m : Mem) → quiet_next (step reader h m) ≡ quiet_next (step reader (quiet h) m)
  step_quiet h m = done_quiet (fetch reader m h.pc) h m

  after_quiet : (n : ℕ) (h : Hart) (m : Mem) (x y : Next) → quiet_next x ≡ quiet_next y →
      ((g : Hart) (p : Mem) → quiet_state (last_state reader n g p) ≡ quiet_state (last_state reader n (quiet g) p)) →
      quiet_state (left_by x h m (last_state reader n)) ≡ quiet_state (left_by y (quiet h) m (last_state reader n))
  after_quiet n h m (On g p) (On g' p') same later =
      let hart : quiet g ≡ quiet g' = cc in
      let memory : p ≡ p' = cc in
      later g p ∙ ap (λ (k : Hart). quiet_state (last_state reader n k p)) hart
      ∙ ap (λ (q : Mem). quiet_state (last_state reader n (quiet g') q)) memory ∙ sym (later g' p')
  after_quiet n h m (On g p) (Over e) same later = absurd (cc)
  after_quiet n h m (Over e) (On g p) same later = absurd (cc)
  after_quiet n h m (Over e) (Over e') same later = refl

  -- nor has the state after any number of steps
  pub last_quiet : (n : ℕ) (h : Hart) (m : Mem) → quiet_state (last_state reader n h m) ≡ quiet_state (last_state reader n (quiet h) m)
  last_quiet zero h m = refl
  last_quiet (suc n) h m = after_quiet n h m (step reader h m) (step reader (quiet h) m) (step_quiet h m) (last_quiet n)

  -- a run that has ended stays where it is
  stays : (k : ℕ) (h : Hart) (m : Mem) (e : End) → step reader h m ≡ Over e → last_state reader k h m ≡ (h, m)
  stays zero h m e is = refl
  stays (suc k) h m e is = ap (λ (y : Next). left_by y h m (last_state reader k)) is

  more_after : (n k : ℕ) (h : Hart) (m : Mem) (x : Next) → step reader h m ≡ x →
      ((g : Hart) (p : Mem) → last_state reader (n + k) g p ≡ last_state reader k (last_state reader n g p).0 (last_state reader n g p).1) →
      left_by x h m (last_state reader (n + k)) ≡ last_state reader k (left_by x h m (last_state reader n)).0 (left_by x h m (last_state reader n)).1
  more_after n k h m (On g p) is later = later g p
  more_after n k h m (Over e) is later = sym (stays k h m e is)

  -- so many steps more
  pub last_more : (n k : ℕ) (h : Hart) (m : Mem) → last_state reader (n + k) h m ≡ last_state reader k (last_state reader n h m).0 (last_state reader n h m).1
  last_more zero k h m = ap (λ (j : ℕ). last_state reader j h m) (zero-add k)
  last_more (suc n) k h m =
      let next : suc n + k ≡ suc (n + k) = omega arith in
      ap (λ (j : ℕ). last_state reader j h m) next ∙ more_after n k h m (step reader h m) refl (last_more n k)

  short_after : (k : ℕ) (x : Next) (e : Event) → ((g : Hart) (p : Mem) → length (events reader k g p) ≤ k) → length (e ∷ events_after x (events reader k)) ≤ suc k
  short_after k (On g p) e later = omega (arith, later g p)
  short_after k (Over _) e later = omega arith

  -- no more events than steps
  pub events_short : (k : ℕ) (h : Hart) (m : Mem) → length (events reader k h m) ≤ k
  events_short zero h m = omega arith
  events_short (suc k) h m = short_after k (step reader h m) (event_of (fetch reader m h.pc) h m) (events_short k)

  over_after : (k j : ℕ) (h : Hart) (m : Mem) (x : Next) (e : Event) → step reader h m ≡ x → (follow x h (run reader k)).«end» ≢ Limit → length (e ∷ events_after x (events reader k)) ≤ j →
      ((i : ℕ) (g : Hart) (p : Mem) → (run reader k g p).«end» ≢ Limit → length (events reader k g p) ≤ i → last_state reader i g p ≡ last_state reader k g p) →
      last_state reader j h m ≡ left_by x h m (last_state reader k)
  over_after k zero h m x e is ends long later = absurd (omega (arith, long))
  over_after k (suc j) h m (On g p) e is ends long later =
      ap (λ (y : Next). left_by y h m (last_state reader j)) is ∙ later j g p ends (omega (arith, long))
  over_after k (suc j) h m (Over _) e is ends long later = ap (λ (y : Next). left_by y h m (last_state reader j)) is

  -- a run that has ended stays as it is behind its last event
  pub last_over : (k j : ℕ) (h : Hart) (m : Mem) → (run reader k h m).«end» ≢ Limit → length (events reader k h m) ≤ j → last_state reader j h m ≡ last_state reader k h m
  last_over zero j h m ends long = absurd (ends refl)
  last_over (suc k) j h m ends long = over_after k j h m (step reader h m) (event_of (fetch reader m h.pc) h m) refl ends long (λ i g p. last_over k i g p)
