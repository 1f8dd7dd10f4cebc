-- What stood on the console before a run changes nothing of it: the run writes behind.

use Rattle.std.proofs.Common.{◌≡◌, ℕ, zero, suc, ◌%◌, Bool, true, false, ◌||◌, ◌&&◌, List, [], ◌∷◌, ◌++◌, refl, sym, ap, ◌∙◌, subst, append_assoc}
use Rattle.std.specs.Prelude.{if◌then◌else◌, ◌==◌, ◌^◌}
use Rattle.std.proofs.lemmas.List.{append-nil}
use Rattle.rv_isa.specs.declared.instruction.Inst.{Inst}
use Rattle.rv_isa.specs.declared.instruction.Atomic.{Atomic as AtomicOperands}
use Rattle.rv_isa.specs.declared.instruction.Format.{Format}
use Rattle.rv_isa.specs.declared.instruction.Format.TheVariants.{Registers, Immediate, Shift, Upper, Load, Store, Branch, Jal, Jalr, LoadReserved, Atomic, Fence, Ecall, Ebreak}
use Rattle.rv_isa.specs.declared.operation.AtomicOperation.{AtomicOperation}
use Rattle.rv_isa.specs.declared.operation.AtomicOperation.TheVariants.{Sc}
use Rattle.rv_isa.specs.Operations.{format_of}
use Rattle.rv_isa_laws.specs.Console.{IsFront}
use Rattle.rv_isa_laws.specs.Memory.{Mem, Read, Write, may, bytes_at}
use Rattle.rv_isa_laws.specs.Hart.{Hart, Outcome, register}
use Rattle.rv_isa_laws.specs.Effect.{Effect, Goes, Loads, Stores, Reserves, Conditional, Updates, Calls, Breaks, Next, On, Over, answer, environment_call, reads, writes, follow}
use Rattle.rv_isa_laws.specs.Meaning.{atomic_effect, format_effect, effect}
use Rattle.rv_isa_laws.specs.Reader.{Reader}
use Rattle.rv_isa_laws.specs.Run.{Fetched, NoRight, NoInstruction, Got, fetch, step, run}
use Rattle.rv_isa_laws.proofs.ConsoleLemmas.{front_self}
use Rattle.rv_board_laws.specs.Device.{Device, Plain, Serial, Constant, Power, is_latched, received, loaded, sent, low_bytes, stored, apply_on, done_on, step_on, run_on}
use Rattle.rv_board_laws.proofs.BesideLemmas.{on_step}

-- with more on the console before: a hart, what an instruction asks, what follows a step, an outcome
abbrev pub behind : List ℕ → Hart → Hart
behind c h = record h { console = c ++ h.console }

abbrev effect_behind : List ℕ → Effect → Effect
effect_behind c (Goes next) = Goes (behind c next)
effect_behind c (Loads a n next) = Loads a n (λ v. behind c (next v))
effect_behind c (Stores a n v next) = Stores a n v (behind c next)
effect_behind c (Reserves a n next) = Reserves a n (λ v. behind c (next v))
effect_behind c (Conditional a n v reserved next) = Conditional a n v reserved (behind c next)
effect_behind c (Updates a n new next) = Updates a n new (λ v. behind c (next v))
effect_behind c (Calls next) = Calls (behind c next)
effect_behind c Breaks = Breaks

abbrev next_behind : List ℕ → Next → Next
next_behind c (On g m) = On (behind c g) m
next_behind c (Over e) = Over e

abbrev pub outcome_behind : List ℕ → Outcome → Outcome
outcome_behind c o = record o { console = c ++ o.console }

atomic_asks : (c : List ℕ) (operation : AtomicOperation) (double : Bool) (x : AtomicOperands) (bytes : ℕ) (h : Hart) → atomic_effect operation double x bytes (behind c h) ≡ effect_behind c (atomic_effect operation double x bytes h)
atomic_asks c Sc double x bytes h = refl
atomic_asks c _ false x bytes h = refl
atomic_asks c _ true x bytes h = refl

format_asks : (c : List ℕ) (f : Format) (bytes : ℕ) (h : Hart) → format_effect f bytes (behind c h) ≡ effect_behind c (format_effect f bytes h)
format_asks c (Registers operation x) bytes h = refl
format_asks c (Immediate operation x) bytes h = refl
format_asks c (Shift operation x) bytes h = refl
format_asks c (Upper operation x) bytes h = refl
format_asks c (Load operation x) bytes h = refl
format_asks c (Store operation x) bytes h = refl
format_asks c (Branch operation x) bytes h = refl
format_asks c (Jal x) bytes h = refl
format_asks c (Jalr x) bytes h = refl
format_asks c (LoadReserved double x) bytes h = refl
format_asks c (Atomic operation double x) bytes h = atomic_asks c operation double x bytes h
format_asks c (Fence x) bytes h = refl
format_asks c Ecall bytes h = refl
format_asks c Ebreak bytes h = refl

either : (c : List ℕ) (t : Bool) (x y x' y' : Next) → x ≡ next_behind c x' → y ≡ next_behind c y' → (if t then x else y) ≡ next_behind c (if t then x' else y')
either c true x y x' y' e k = e
either c false x y x' y' e k = k

writes_behind : (c : List ℕ) (h : Hart) (m : Mem) → writes (behind c h) m ≡ next_behind c (writes h m)
writes_behind c h m =
    either c ((register h 10 == 1) || (register h 10 == 2)) _ _ _ _
    (either c (may m (register h 11) (register h 12) Read) _ _ _ _
    (ap (λ (bytes : List ℕ). On (answer (record h { console = bytes }) (register h 12)) m) (append_assoc c h.console (bytes_at m (register h 11) (register h 12))))
    refl)
    refl

reads_behind : (c : List ℕ) (h : Hart) (m : Mem) → reads (behind c h) m ≡ next_behind c (reads h m)
reads_behind c h m =
    either c (register h 10 == 0) _ _ _ _
    (either c (may m (register h 11) (register h 12) Write) _ _ _ _ refl refl)
    refl

calls_behind : (c : List ℕ) (h : Hart) (m : Mem) → environment_call (behind c h) m ≡ next_behind c (environment_call h m)
calls_behind c h m =
    either c (register h 17 == 63) _ _ _ _ (reads_behind c h m)
    (either c (register h 17 == 64) _ _ _ _ (writes_behind c h m)
    (either c (register h 17 == 93) _ _ _ _ refl refl))

received_behind : (c input : List ℕ) (m : Mem) (a n : ℕ) (next : ℕ → Hart) → received input m a n (λ v. behind c (next v)) ≡ next_behind c (received input m a n next)
received_behind c [] m a n next = refl
received_behind c (b ∷ rest) m a n next = refl

loaded_behind : (c : List ℕ) (d : Device) (m : Mem) (a n : ℕ) (next : ℕ → Hart) → loaded d m a n (λ v. behind c (next v)) ≡ next_behind c (loaded d m a n next)
loaded_behind c Plain m a n next = refl
loaded_behind c Serial m a n next = either c (is_latched m a) _ _ _ _ refl (received_behind c (next 0).input m a n next)
loaded_behind c (Constant v) m a n next = refl
loaded_behind c Power m a n next = refl

sent_behind : (c : List ℕ) (t : Bool) (next : Hart) (v : ℕ) → (if t then behind c next else sent (behind c next) v) ≡ behind c (if t then next else sent next v)
sent_behind c true next v = refl
sent_behind c false next v = ap (λ (bytes : List ℕ). record next { console = bytes }) (append_assoc c next.console (v % 256 ∷ []))

stored_behind : (c : List ℕ) (d : Device) (m : Mem) (a n v : ℕ) (next : Hart) → stored d m a n v (behind c next) ≡ next_behind c (stored d m a n v next)
stored_behind c Plain m a n v next = refl
stored_behind c Serial m a n v next = ap (λ (h : Hart). On h m) (sent_behind c (is_latched m a) next v)
stored_behind c (Constant k) m a n v next = refl
stored_behind c Power m a n v next =
    let w : ℕ = low_bytes n v in
    either c (w % 2 ^ 16 == 0x5555) _ _ _ _ refl (either c (w % 2 ^ 16 == 0x3333) _ _ _ _ refl refl)

apply_behind : (c : List ℕ) (d : ℕ → Device) (e : Effect) (m : Mem) → apply_on d (effect_behind c e) m ≡ next_behind c (apply_on d e m)
apply_behind c d (Goes next) m = refl
apply_behind c d (Loads a n next) m = either c (may m a n Read) _ _ _ _ refl (loaded_behind c (d a) m a n next)
apply_behind c d (Stores a n v next) m = either c (may m a n Write) _ _ _ _ refl (stored_behind c (d a) m a n v next)
apply_behind c d (Reserves a n next) m = either c (a % n == 0) _ _ _ _ (either c (may m a n Read) _ _ _ _ refl refl) refl
apply_behind c d (Conditional a n v reserved next) m = either c (a % n == 0) _ _ _ _ (either c (may m a n Write) _ _ _ _ refl refl) refl
apply_behind c d (Updates a n new next) m = either c (a % n == 0) _ _ _ _ (either c (may m a n Read && may m a n Write) _ _ _ _ refl refl) refl
apply_behind c d (Calls next) m = calls_behind c next m
apply_behind c d Breaks m = refl

done_behind : (c : List ℕ) (d : ℕ → Device) (f : Fetched) (h : Hart) (m : Mem) → done_on d f (behind c h) m ≡ next_behind c (done_on d f h m)
done_behind c d NoRight h m = refl
done_behind c d NoInstruction h m = refl
done_behind c d (Got i bytes) h m =
    ap (λ (e : Effect). apply_on d e m) (format_asks c (format_of i) bytes h) ∙ apply_behind c d (effect i bytes h) m

follow_behind : (c : List ℕ) (x : Next) (h : Hart) (go : Hart → Mem → Outcome) → ((g : Hart) (m : Mem) → go (behind c g) m ≡ outcome_behind c (go g m)) → follow (next_behind c x) (behind c h) go ≡ outcome_behind c (follow x h go)
follow_behind c (On g m) h go all = all g m
follow_behind c (Over e) h go all = refl

pub run_behind : {Spells StandsFor : ℕ → Inst → Type 0} (d : ℕ → Device) (reader : Reader Spells StandsFor) (c : List ℕ) (n : ℕ) (h : Hart) (m : Mem) → run_on d reader n (behind c h) m ≡ outcome_behind c (run_on d reader n h m)
run_behind d reader c zero h m = refl
run_behind d reader c (suc n) h m =
    ap (λ (x : Next). follow x (behind c h) (run_on d reader n)) (done_behind c d (fetch reader m h.pc) h m)
    ∙ follow_behind c (step_on d reader h m) h (run_on d reader n) (run_behind d reader c n)

-- the same from a console at which nothing stood
pub run_from_none : {Spells StandsFor : ℕ → Inst → Type 0} (d : ℕ → Device) (reader : Reader Spells StandsFor) (n : ℕ) (h : Hart) (m : Mem) → run_on d reader n h m ≡ outcome_behind h.console (run_on d reader n (record h { console = [] }) m)
run_from_none d reader n h m =
    ap (λ (c : List ℕ). run_on d reader n (record h { console = c }) m) (sym (append-nil h.console))
    ∙ run_behind d reader h.console n (record h { console = [] }) m

-- the console of a run begins with the console of the hart
pub run_on_adds : {Spells StandsFor : ℕ → Inst → Type 0} (d : ℕ → Device) (reader : Reader Spells StandsFor) (n : ℕ) (h : Hart) (m : Mem) → IsFront h.console (run_on d reader n h m).console
run_on_adds d reader n h m = record {
  rest = (run_on d reader n (record h { console = [] }) m).console;
  joined = sym (ap (λ (o : Outcome). o.console) (run_from_none d reader n h m));
}

-- a run with devices writes what the run without them does, and may go on
pub run_within : {Spells StandsFor : ℕ → Inst → Type 0} (d : ℕ → Device) (reader : Reader Spells StandsFor) (n : ℕ) (h : Hart) (m : Mem) → IsFront (run reader n h m).console (run_on d reader n h m).console
run_within d reader zero h m = front_self h.console
run_within d reader (suc n) h m = by (run_within d reader n) (step reader h m) refl
  where
    by : ((g : Hart) (k : Mem) → IsFront (run reader n g k).console (run_on d reader n g k).console) → (x : Next) → step reader h m ≡ x → IsFront (follow x h (run reader n)).console (run_on d reader (suc n) h m).console
    by rest (On g k) is =
        subst (λ (x : Next). IsFront (run reader n g k).console (follow x h (run_on d reader n)).console) (sym (on_step d reader h m g k is)) (rest g k)
    by rest (Over e) is = run_on_adds d reader (suc n) h m
