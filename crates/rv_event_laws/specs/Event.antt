-- What a step tells, over the definitions of effects alone: what it reads, writes and sets, what a
-- call takes and puts, and how the step ends the run (ISA, 1.5).

use Rattle.std.specs.Prelude.{ℕ, zero, suc, ◌-◌, ◌*◌, ◌%◌, ◌^◌, ◌==◌, if◌then◌else◌, List, [], ◌∷◌, length, take, drop, Option, Some, None}
use Rattle.rv_isa.specs.declared.instruction.Inst.{Inst}
use Rattle.rv_isa.specs.declared.instruction.Format.{Format}
use Rattle.rv_isa.specs.declared.instruction.Format.TheVariants.{Registers, Immediate, Shift, Upper, Load, Store, Branch, Jal, Jalr, LoadReserved, Atomic, Fence, Ecall, Ebreak}
use Rattle.rv_isa.specs.Operations.{format_of}
use Rattle.rv_isa_laws.specs.Memory.{Mem, number_at}
use Rattle.rv_isa_laws.specs.Hart.{Hart, End, register}
use Rattle.rv_isa_laws.specs.Effect.{Effect, Loads, Stores, Reserves, Conditional, Updates, Breaks, Next, On, Over}
use Rattle.rv_isa_laws.specs.Meaning.{effect}
use Rattle.rv_isa_laws.specs.Reader.{Reader}
use Rattle.rv_isa_laws.specs.Run.{Fetched, NoRight, NoInstruction, Got, fetch, done, step}
use Rattle.rv_event_laws.specs.declared.access.Access.{Access}
use Rattle.rv_event_laws.specs.declared.access.Setting.{Setting}

pub record Event : Type 0 where
  pub pc : ℕ
  -- what stands there: an instruction and its length in bytes, or why there is none
  pub fetched : Fetched
  -- the bytes read and the bytes written, as numbers; the register set, and its new value
  pub read : Option Access
  pub stored : Option Access
  pub set : Option Setting
  -- the input that a call takes, and the bytes that it puts onto the console
  pub taken : List ℕ
  pub put : List ℕ
  -- how the run ends, where this step ends it
  pub «end» : Option End

abbrev pub access : (address bytes number : ℕ) → Access
access a n number = record { address = a; bytes = n; number = number }

-- the bytes that an effect reads, where it goes on (ISA, 2.6, 8.2 and 8.4)
abbrev pub read_by : Effect → Mem → Option Access
read_by (Loads a n next) m = Some (access a n (number_at m a n))
read_by (Reserves a n next) m = Some (access a n (number_at m a n))
read_by (Updates a n new next) m = Some (access a n (number_at m a n))
read_by _ m = None

-- the bytes that it writes, the low ones of a number; an sc that is not reserved writes none (ISA,
-- 2.6, 8.2 and 8.4)
abbrev pub stored_by : Effect → Mem → Option Access
stored_by (Stores a n v next) m = Some (access a n (v % 2 ^ (8 * n)))
stored_by (Conditional a n v reserved next) m =
    if reserved then Some (access a n (v % 2 ^ (8 * n))) else None
stored_by (Updates a n new next) m = Some (access a n (new (number_at m a n) % 2 ^ (8 * n)))
stored_by _ m = None

-- the register that an instruction sets, a call its a0; 0 where it sets none, since x0 takes no
-- value (ISA, 2.1 to 2.8)
abbrev pub destination : Format → ℕ
destination (Registers operation x) = x.rd
destination (Immediate operation x) = x.rd
destination (Shift operation x) = x.rd
destination (Upper operation x) = x.rd
destination (Load operation x) = x.rd
destination (Store operation x) = 0
destination (Branch operation x) = 0
destination (Jal x) = x.rd
destination (Jalr x) = x.rd
destination (LoadReserved double x) = x.rd
destination (Atomic operation double x) = x.rd
destination (Fence x) = 0
destination Ecall = 10
destination Ebreak = 0

abbrev pub set_to : ℕ → ℕ → Option Setting
set_to r value = if r == 0 then None else Some (record { register = r; value = value })

-- what is asked by what was fetched, and the register that it sets
abbrev pub asks : Fetched → Hart → Effect
asks (Got i bytes) h = effect i bytes h
asks NoRight h = Breaks
asks NoInstruction h = Breaks

abbrev pub sets : Fetched → ℕ
sets (Got i bytes) = destination (format_of i)
sets NoRight = 0
sets NoInstruction = 0

-- what a step tells that comes to this; an end changes nothing
abbrev pub tells : Fetched → Hart → Mem → Next → Event
tells f h m (On h' m') =
    record {
      pc = h.pc;
      fetched = f;
      read = read_by (asks f h) m;
      stored = stored_by (asks f h) m;
      set = set_to (sets f) (register h' (sets f));
      taken = take (length h.input - length h'.input) h.input;
      put = drop (length h.console) h'.console;
      «end» = None;
    }
tells f h m (Over e) =
    record {
      pc = h.pc;
      fetched = f;
      read = None;
      stored = None;
      set = None;
      taken = [];
      put = [];
      «end» = Some e;
    }

abbrev pub event_of : Fetched → Hart → Mem → Event
event_of f h m = tells f h m (done f h m)

-- the events of what follows a step; none after an end
abbrev pub events_after : Next → (Hart → Mem → List Event) → List Event
events_after (On h m) rest = rest h m
events_after (Over e) rest = []

-- the events of at most n steps from here, which are the steps of `run` (ISA, 1.5)
abbrev pub events : {Spells StandsFor : ℕ → Inst → Type 0} → Reader Spells StandsFor → ℕ → Hart →
    Mem → List Event
events reader zero h m = []
events reader (suc n) h m =
    event_of (fetch reader m h.pc) h m ∷ events_after (step reader h m) (events reader n)
