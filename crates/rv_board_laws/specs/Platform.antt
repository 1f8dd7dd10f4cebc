-- Platforms: what a program finds beside its own memory, and the run of an image on one.

use Rattle.std.specs.Prelude.{◌≡◌, ℕ, ◌^◌, ◌<◌, Bool, false, if◌then◌else◌, is_some, List, [], None, set, replicate}
use Rattle.rv_isa.specs.declared.instruction.Inst.{Inst}
use Rattle.rv_isa_laws.specs.Hart.{Hart, Outcome}
use Rattle.rv_isa_laws.specs.Memory.{Mem, Execute}
use Rattle.rv_isa_laws.specs.Platform.{stack_end}
use Rattle.rv_isa_laws.specs.Reader.{Reader}
use Rattle.rv_image_laws.specs.Image.{Image}
use Rattle.rv_image_laws.specs.Memory.{segment_at, in_stack, mem_of}
use Rattle.rv_board_laws.specs.Device.{Device, Plain, run_on}

pub record Platform : Type 0 where
  -- what stands at an address, for loads and stores that memory refuses
  pub device : ℕ → Device
  -- the memory where a program has none of its own: a stack, RAM, registers of devices
  pub beside : Mem
  -- sp at the start
  pub top : ℕ

-- sp is a number of 64 bits, and nothing beside a program can be executed
pub record IsPlatform (q : Platform) : Type 0 where
  pub top : q.top < 2 ^ 64
  pub unexecuted : (a : ℕ) → a < 2 ^ 64 → q.beside.has a Execute ≡ false

-- the platform of a run without a board: the stack, with sp at its end, and no device
abbrev pub stack_alone : Platform
stack_alone = record {
  device = λ a. Plain;
  beside = record { byte = λ a. 0; has = in_stack };
  top = stack_end;
}

-- a program's memory where the program lies, and the platform's everywhere else
abbrev pub with_beside : (ℕ → Bool) → Mem → Platform → Mem
with_beside lies own q = record {
  byte = λ a. if lies a then own.byte a else q.beside.byte a;
  has = λ a right. if lies a then own.has a right else q.beside.has a right;
}

-- the memory of an image: its own is that of its segments
abbrev pub memory_on : Platform → Image → Mem
memory_on q image =
    with_beside (λ a. is_some (segment_at image.segments a)) (mem_of image) q

-- the hart at the start: registers 0 but sp
abbrev pub start_on : Platform → ℕ → List ℕ → Hart
start_on q entry input =
    record {
      registers = set (replicate 32 0) 2 q.top;
      pc = entry;
      reservation = None;
      input = input;
      console = [];
    }

-- at most n steps of an image on a platform
abbrev pub machine_run_on : {Spells StandsFor : ℕ → Inst → Type 0} → Platform →
    Reader Spells StandsFor → Image → List ℕ → ℕ → Outcome
machine_run_on q reader image input n =
    run_on q.device reader n (start_on q image.entry input) (memory_on q image)
