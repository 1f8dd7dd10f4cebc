-- What an instruction asks of the memory, and what comes of it. Rights are looked at here alone.

use Rattle.std.specs.Prelude.{ℕ, ◌-◌, ◌%◌, ◌^◌, Bool, ◌&&◌, ◌||◌, ◌==◌, if◌then◌else◌, min, ◌++◌, length, take, drop}
use Rattle.rv_isa_laws.specs.Memory.{Mem, Read, Write, Execute, may, some_has, bytes_at, with_bytes, number_at, with_number}
use Rattle.rv_isa_laws.specs.Hart.{Hart, End, Exited, Breakpoint, LoadText, LoadOutside, StoreText, StoreOutside, MisalignedAtomic, Outcome, register, with_register, stop}

pub data Effect : Type 0 where
  -- the hart goes on
  Goes : (next : Hart) → Effect
  -- the number read goes into the hart
  Loads : (address bytes : ℕ) (next : ℕ → Hart) → Effect
  Stores : (address bytes value : ℕ) (next : Hart) → Effect
  -- lr (ISA, 8.2)
  Reserves : (address bytes : ℕ) (next : ℕ → Hart) → Effect
  -- sc, which stores only where it is reserved (ISA, 8.2)
  Conditional : (address bytes value : ℕ) (reserved : Bool) (next : Hart) → Effect
  -- an atomic operation: the old number goes into the hart, the new one into memory (ISA, 8.4)
  Updates : (address bytes : ℕ) (new : ℕ → ℕ) (next : ℕ → Hart) → Effect
  -- ecall and ebreak (ISA, 2.8)
  Calls : (next : Hart) → Effect
  Breaks : Effect

-- what follows a step
pub data Next : Type 0 where
  On : (hart : Hart) (memory : Mem) → Next
  Over : («end» : End) → Next

-- what a call of the environment answers, in a0
abbrev pub answer : Hart → ℕ → Hart
answer h value = with_register h 10 value

-- -9, -14 and -38 modulo 2 ^ 64: no such file, a bad address, no such call (Linux, errno)
abbrev pub bad_file : ℕ
bad_file = 2 ^ 64 - 9

abbrev pub bad_address : ℕ
bad_address = 2 ^ 64 - 14

abbrev pub no_call : ℕ
no_call = 2 ^ 64 - 38

-- call 63: a0 a file, of which 0 alone can be read; up to a2 bytes of input to a1
abbrev pub reads : Hart → Mem → Next
reads h m =
    let a1 = register h 11 in
    let a2 = register h 12 in
    let moved = min a2 (length h.input) in
    if register h 10 == 0
    then (if may m a1 a2 Write
    then On (answer (record h { input = drop moved h.input }) moved)
    (with_bytes m a1 (take moved h.input))
    else On (answer h bad_address) m)
    else On (answer h bad_file) m

-- call 64: a0 a file, 1 or 2, both the one console; a2 bytes from a1
abbrev pub writes : Hart → Mem → Next
writes h m =
    let a1 = register h 11 in
    let a2 = register h 12 in
    if (register h 10 == 1) || (register h 10 == 2)
    then (if may m a1 a2 Read
    then On (answer (record h { console = h.console ++ bytes_at m a1 a2 }) a2) m
    else On (answer h bad_address) m)
    else On (answer h bad_file) m

-- the environment's calls, by a7: 63 reads, 64 writes, 93 exits with a0 modulo 256
abbrev pub environment_call : Hart → Mem → Next
environment_call h m =
    let a7 = register h 17 in
    if a7 == 63 then reads h m
    else if a7 == 64 then writes h m
    else if a7 == 93 then Over (Exited (register h 10 % 256))
    else On (answer h no_call) m

-- why n bytes at a can't be read, or be written: one of them may be executed, or none
abbrev pub load_refusal : Mem → ℕ → ℕ → End
load_refusal m a n = if some_has m a n Execute then LoadText a else LoadOutside a

abbrev pub store_refusal : Mem → ℕ → ℕ → End
store_refusal m a n = if some_has m a n Execute then StoreText a else StoreOutside a

-- what comes of an effect on this memory; an end changes nothing
abbrev pub apply : Effect → Mem → Next
apply (Goes next) m = On next m
apply (Loads a n next) m =
    if may m a n Read then On (next (number_at m a n)) m else Over (load_refusal m a n)
apply (Stores a n v next) m =
    if may m a n Write then On next (with_number m a n v) else Over (store_refusal m a n)
apply (Reserves a n next) m =
    if a % n == 0
    then (if may m a n Read then On (next (number_at m a n)) m else Over (load_refusal m a n))
    else Over (MisalignedAtomic a)
apply (Conditional a n v reserved next) m =
    if a % n == 0
    then (if may m a n Write
    then On next (if reserved then with_number m a n v else m)
    else Over (store_refusal m a n))
    else Over (MisalignedAtomic a)
apply (Updates a n new next) m =
    if a % n == 0
    then (if may m a n Read && may m a n Write
    then (let old = number_at m a n in On (next old) (with_number m a n (new old)))
    else Over (store_refusal m a n))
    else Over (MisalignedAtomic a)
apply (Calls next) m = environment_call next m
apply Breaks m = Over Breakpoint

-- what a step comes to: its end at the hart before it, or what the rest makes of hart and memory
abbrev pub follow : Next → Hart → (Hart → Mem → Outcome) → Outcome
follow (On hart memory) before go = go hart memory
follow (Over e) before go = stop before e
