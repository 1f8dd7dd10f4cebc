-- The run of a machine: the limit is tested, an instruction fetched and done, and so on (ISA, 1.5).

use Rattle.std.specs.Prelude.{ℕ, zero, suc, ◌%◌, ◌^◌, ◌==◌, if◌then◌else◌, List, Option, Some, None}
use Rattle.rv_isa.specs.declared.instruction.Inst.{Inst}
use Rattle.rv_isa_laws.specs.Memory.{Mem, Execute, may, number_at}
use Rattle.rv_isa_laws.specs.Hart.{Hart, Limit, Illegal, FetchOutside, Outcome, start, stop}
use Rattle.rv_isa_laws.specs.Effect.{Next, Over, apply, follow}
use Rattle.rv_isa_laws.specs.Meaning.{effect}
use Rattle.rv_isa_laws.specs.Reader.{Reader}

-- what stands at an address: bytes that may not be executed, bytes that spell nothing, or an
-- instruction and its length
pub data Fetched : Type 0 where
  NoRight : Fetched
  NoInstruction : Fetched
  Got : (instruction : Inst) (bytes : ℕ) → Fetched

abbrev pub spelled : ℕ → Option Inst → Fetched
spelled bytes None = NoInstruction
spelled bytes (Some i) = Got i bytes

-- bytes that begin with the low bits 11 are a word, others a parcel (ISA, 1.5)
abbrev pub length_at : Mem → ℕ → ℕ
length_at m a = if m.byte (a % 2 ^ 64) % 4 == 3 then 4 else 2

abbrev pub fetch : {Spells StandsFor : ℕ → Inst → Type 0} → Reader Spells StandsFor → Mem → ℕ →
    Fetched
fetch reader m a =
    let bytes = length_at m a in
    if may m a bytes Execute
    then spelled bytes
    (if bytes == 4 then reader.word (number_at m a 4) else reader.parcel (number_at m a 2))
    else NoRight

-- what is fetched is done by its meaning; at nothing that can be done the run ends
abbrev pub done : Fetched → Hart → Mem → Next
done NoRight h m = Over (FetchOutside h.pc)
done NoInstruction h m = Over (Illegal h.pc)
done (Got i bytes) h m = apply (effect i bytes h) m

abbrev pub step : {Spells StandsFor : ℕ → Inst → Type 0} → Reader Spells StandsFor → Hart → Mem →
    Next
step reader h m = done (fetch reader m h.pc) h m

-- at most n steps from here
abbrev pub run : {Spells StandsFor : ℕ → Inst → Type 0} → Reader Spells StandsFor → ℕ → Hart →
    Mem → Outcome
run reader zero h m = stop h Limit
run reader (suc n) h m = follow (step reader h m) h (run reader n)

-- at most n steps over this memory, from its entry
abbrev pub machine_run : {Spells StandsFor : ℕ → Inst → Type 0} → Reader Spells StandsFor → Mem →
    ℕ → List ℕ → ℕ → Outcome
machine_run reader m entry input n = run reader n (start entry input) m
