-- Devices: what stands where memory gives no right, and the run of a machine that has them. The steps
-- are those of `run`, but that a device answers the loads and stores that memory refuses.

use Rattle.std.specs.Prelude.{ℕ, zero, suc, ◌+◌, ◌*◌, ◌/◌, ◌%◌, ◌^◌, ◌==◌, Bool, ◌&&◌, if◌then◌else◌, List, [], ◌∷◌, ◌++◌}
use Rattle.rv_isa.specs.declared.instruction.Inst.{Inst}
use Rattle.rv_isa_laws.specs.Memory.{Mem, Read, Write, may, number_at, with_number}
use Rattle.rv_isa_laws.specs.Hart.{Hart, Exited, Illegal, FetchOutside, Limit, Outcome, stop}
use Rattle.rv_isa_laws.specs.Effect.{Effect, Loads, Stores, Next, On, Over, apply, follow, load_refusal, store_refusal}
use Rattle.rv_isa_laws.specs.Meaning.{effect}
use Rattle.rv_isa_laws.specs.Reader.{Reader}
use Rattle.rv_isa_laws.specs.Run.{Fetched, NoRight, NoInstruction, Got, fetch}

-- what stands at an address
pub data Device : Type 0 where
  -- nothing
  Plain : Device
  -- the data of a 16550, whose line control stands three bytes on and whose line status five
  Serial : Device
  -- a register that cannot be changed
  Constant : (value : ℕ) → Device
  -- what ends the run: QEMU's test device
  Power : Device

-- the low bytes of a number
abbrev pub low_bytes : (bytes number : ℕ) → ℕ
low_bytes n v = v % 2 ^ (8 * n)

-- bit 7 of the line control: the divisor's low byte stands in place of the data (16550, "Line
-- Control Register")
abbrev pub is_latched : Mem → ℕ → Bool
is_latched m a = may m (a + 3) 1 Read && (number_at m (a + 3) 1 / 128 % 2 == 1)

-- the line status without bit 0: no data is ready (16550, "Line Status Register")
abbrev pub with_no_data : Mem → ℕ → Mem
with_no_data m a = if may m (a + 5) 1 Write then with_number m (a + 5) 1 0x60 else m

-- the first byte of the input is taken; where none is left it is 0, and the line status says so
-- from then on
abbrev pub received : List ℕ → Mem → ℕ → ℕ → (ℕ → Hart) → Next
received [] m a n next = On (next (low_bytes n 0)) (with_no_data m a)
received (b ∷ rest) m a n next = On (record (next (low_bytes n b)) { input = rest }) m

-- n bytes at a are loaded
abbrev pub loaded : Device → Mem → ℕ → ℕ → (ℕ → Hart) → Next
loaded Plain m a n next = Over (load_refusal m a n)
loaded Serial m a n next =
    if is_latched m a then On (next (low_bytes n 0)) m else received (next 0).input m a n next
loaded (Constant v) m a n next = On (next (low_bytes n v)) m
loaded Power m a n next = On (next (low_bytes n 0)) m

-- the low byte is sent (16550, "Transmitter Holding Register")
abbrev pub sent : Hart → ℕ → Hart
sent h v = record h { console = h.console ++ (v % 256 ∷ []) }

-- what the test device makes of a number: 5555h ends with 0, N * 65536 + 3333h with N modulo 256,
-- as an exit does (QEMU, hw/misc/sifive_test.c: FINISHER_PASS and FINISHER_FAIL)
abbrev pub finished : ℕ → Mem → Hart → Next
finished v m next =
    if v % 2 ^ 16 == 0x5555 then Over (Exited 0)
    else if v % 2 ^ 16 == 0x3333 then Over (Exited (v / 2 ^ 16 % 256))
    else On next m

-- the low n bytes of v are stored at a
abbrev pub stored : Device → Mem → ℕ → ℕ → ℕ → Hart → Next
stored Plain m a n v next = Over (store_refusal m a n)
stored Serial m a n v next = On (if is_latched m a then next else sent next v) m
stored (Constant c) m a n v next = On next m
stored Power m a n v next = finished (low_bytes n v) m next

-- what comes of an effect: that of `apply`, but for loads and stores that memory refuses
abbrev pub apply_on : (ℕ → Device) → Effect → Mem → Next
apply_on d (Loads a n next) m =
    if may m a n Read then On (next (number_at m a n)) m else loaded (d a) m a n next
apply_on d (Stores a n v next) m =
    if may m a n Write then On next (with_number m a n v) else stored (d a) m a n v next
apply_on d e m = apply e m

-- the run with it: `done`, `step` and `run` with `apply_on` in place of `apply`
abbrev pub done_on : (ℕ → Device) → Fetched → Hart → Mem → Next
done_on d NoRight h m = Over (FetchOutside h.pc)
done_on d NoInstruction h m = Over (Illegal h.pc)
done_on d (Got i bytes) h m = apply_on d (effect i bytes h) m

abbrev pub step_on : {Spells StandsFor : ℕ → Inst → Type 0} → (ℕ → Device) →
    Reader Spells StandsFor → Hart → Mem → Next
step_on d reader h m = done_on d (fetch reader m h.pc) h m

abbrev pub run_on : {Spells StandsFor : ℕ → Inst → Type 0} → (ℕ → Device) →
    Reader Spells StandsFor → ℕ → Hart → Mem → Outcome
run_on d reader zero h m = stop h Limit
run_on d reader (suc n) h m = follow (step_on d reader h m) h (run_on d reader n)
