-- A run with devices beside the run without them.

use Rattle.std.proofs.Common.{◌≡◌, ℕ, zero, suc, Bool, true, false, refl, ap, ◌∙◌}
use Rattle.std.specs.Prelude.{if◌then◌else◌}
use Rattle.rv_isa.specs.declared.instruction.Inst.{Inst}
use Rattle.rv_isa_laws.specs.Memory.{Mem, Read, Write, may, number_at, with_number}
use Rattle.rv_isa_laws.specs.Hart.{Hart, End}
use Rattle.rv_isa_laws.specs.Effect.{Effect, Goes, Loads, Stores, Reserves, Conditional, Updates, Calls, Breaks, Next, On, Over, apply, follow, load_refusal, store_refusal}
use Rattle.rv_isa_laws.specs.Meaning.{effect}
use Rattle.rv_isa_laws.specs.Reader.{Reader}
use Rattle.rv_isa_laws.specs.Run.{Fetched, NoRight, NoInstruction, Got, fetch, done, step, run}
use Rattle.rv_board_laws.specs.Device.{Device, Plain, loaded, stored, apply_on, done_on, step_on, run_on}

-- where nothing stands anywhere, it is the run without devices
pub plain_apply : (e : Effect) (m : Mem) → apply_on (λ a. Plain) e m ≡ apply e m
plain_apply (Goes next) m = refl
plain_apply (Loads a n next) m = refl
plain_apply (Stores a n v next) m = refl
plain_apply (Reserves a n next) m = refl
plain_apply (Conditional a n v reserved next) m = refl
plain_apply (Updates a n new next) m = refl
plain_apply (Calls next) m = refl
plain_apply Breaks m = refl

plain_done : (f : Fetched) (h : Hart) (m : Mem) → done_on (λ a. Plain) f h m ≡ done f h m
plain_done NoRight h m = refl
plain_done NoInstruction h m = refl
plain_done (Got i bytes) h m = plain_apply (effect i bytes h) m

pub plain_step : {Spells StandsFor : ℕ → Inst → Type 0} (reader : Reader Spells StandsFor) (h : Hart) (m : Mem) → step_on (λ a. Plain) reader h m ≡ step reader h m
plain_step reader h m = plain_done (fetch reader m h.pc) h m

plain_follow : {Spells StandsFor : ℕ → Inst → Type 0} (reader : Reader Spells StandsFor) (n : ℕ) (x : Next) (h : Hart) → ((g : Hart) (m : Mem) → run_on (λ a. Plain) reader n g m ≡ run reader n g m) →
    follow x h (run_on (λ a. Plain) reader n) ≡ follow x h (run reader n)
plain_follow reader n (On g m) h e = e g m
plain_follow reader n (Over k) h e = refl

pub plain_run : {Spells StandsFor : ℕ → Inst → Type 0} (reader : Reader Spells StandsFor) (n : ℕ) (h : Hart) (m : Mem) → run_on (λ a. Plain) reader n h m ≡ run reader n h m
plain_run reader zero h m = refl
plain_run reader (suc n) h m =
    ap (λ next. follow next h (run_on (λ a. Plain) reader n)) (plain_step reader h m)
    ∙ plain_follow reader n (step reader h m) h (plain_run reader n)

-- what memory allows goes on alike
allowed : (t : Bool) (x y : Next) (e : End) (g : Hart) (n : Mem) → (if t then x else Over e) ≡ On g n → (if t then x else y) ≡ On g n
allowed true x y e g n is = is
allowed false x y e g n is = absurd (cc)

on_apply : (d : ℕ → Device) (e : Effect) (m : Mem) (g : Hart) (n : Mem) → apply e m ≡ On g n → apply_on d e m ≡ On g n
on_apply d (Goes next) m g n is = is
on_apply d (Loads a w next) m g n is = allowed (may m a w Read) (On (next (number_at m a w)) m) (loaded (d a) m a w next) (load_refusal m a w) g n is
on_apply d (Stores a w v next) m g n is = allowed (may m a w Write) (On next (with_number m a w v)) (stored (d a) m a w v next) (store_refusal m a w) g n is
on_apply d (Reserves a w next) m g n is = is
on_apply d (Conditional a w v reserved next) m g n is = is
on_apply d (Updates a w new next) m g n is = is
on_apply d (Calls next) m g n is = is
on_apply d Breaks m g n is = is

on_done : (d : ℕ → Device) (f : Fetched) (h : Hart) (m : Mem) (g : Hart) (n : Mem) → done f h m ≡ On g n → done_on d f h m ≡ On g n
on_done d NoRight h m g n is = is
on_done d NoInstruction h m g n is = is
on_done d (Got i bytes) h m g n is = on_apply d (effect i bytes h) m g n is

-- a step that goes on without devices goes on so with them
pub on_step : {Spells StandsFor : ℕ → Inst → Type 0} (d : ℕ → Device) (reader : Reader Spells StandsFor) (h : Hart) (m : Mem) (g : Hart) (n : Mem) → step reader h m ≡ On g n → step_on d reader h m ≡ On g n
on_step d reader h m g n is = on_done d (fetch reader m h.pc) h m g n is
