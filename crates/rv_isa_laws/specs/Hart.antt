-- A hart between two instructions, and how a run ends.

use Rattle.std.specs.Prelude.{ℕ, ◌+◌, ◌%◌, ◌^◌, ◌==◌, if◌then◌else◌, List, [], Option, None, slice_index, set, replicate}
use Rattle.rv_isa_laws.specs.Platform.{stack_end}

-- the latest lr or sc, where it was an lr: its address and its width in bytes (ISA, 8.2)
pub record Reservation : Type 0 where
  pub address : ℕ
  pub bytes : ℕ

pub record Hart : Type 0 where
  -- x0 to x31, each below 2 ^ 64; what stands at 0 is never read and never changed
  pub registers : List ℕ
  pub pc : ℕ
  pub reservation : Option Reservation
  -- the input that is left, and what has been written
  pub input : List ℕ
  pub console : List ℕ

-- how a run ends; an address is the pc, or the first address of the access
pub data End : Type 0 where
  Exited : (code : ℕ) → End
  Limit : End
  Breakpoint : End
  Illegal : (address : ℕ) → End
  FetchOutside : (address : ℕ) → End
  LoadText : (address : ℕ) → End
  LoadOutside : (address : ℕ) → End
  StoreText : (address : ℕ) → End
  StoreOutside : (address : ℕ) → End
  MisalignedAtomic : (address : ℕ) → End
  -- a jump to the inside of a statement: an end of source runs alone
  Astray : End

pub record Outcome : Type 0 where
  pub console : List ℕ
  pub «end» : End

-- register r; x0 is 0 (ISA, 2.1)
abbrev pub register : Hart → ℕ → ℕ
register h r = if r == 0 then 0 else slice_index h.registers r

-- register r set; x0 takes no value (ISA, 2.1)
abbrev pub with_register : Hart → ℕ → ℕ → Hart
with_register h r value =
    record h { registers = if r == 0 then h.registers else set h.registers r value }

-- the hart where the next instruction stands: this many bytes on
abbrev pub advanced : Hart → ℕ → Hart
advanced h bytes = record h { pc = (h.pc + bytes) % 2 ^ 64 }

-- the hart at the start: registers 0 but sp, which is the stack's end
abbrev pub start : ℕ → List ℕ → Hart
start entry input =
    record {
      registers = set (replicate 32 0) 2 stack_end;
      pc = entry;
      reservation = None;
      input = input;
      console = [];
    }

abbrev pub stop : Hart → End → Outcome
stop h e = record { console = h.console; «end» = e }
