-- What events a machine has: the ranges of their numbers (ISA, 1.4, 2.1, 2.2 and 2.6).

use Rattle.std.specs.Prelude.{◌≡◌, ◌⊎◌, ℕ, ◌*◌, ◌^◌, ◌<◌, Option, Some, None}
use Rattle.std.specs.List.{AllByRecursion}
use Rattle.rv_isa.specs.Ranges.{IsReg, IsValid}
use Rattle.rv_isa_laws.specs.Hart.{Hart, End, Exited, Limit, Breakpoint, Illegal, FetchOutside, LoadText, LoadOutside, StoreText, StoreOutside, MisalignedAtomic, Astray}
use Rattle.rv_isa_laws.specs.Kept as harts
use Rattle.rv_isa_laws.specs.Memory.{Mem}
use Rattle.rv_isa_laws.specs.Run.{Fetched, NoRight, NoInstruction, Got}
use Rattle.rv_event_laws.specs.declared.access.Access.{Access}
use Rattle.rv_event_laws.specs.declared.access.Setting.{Setting}
use Rattle.rv_event_laws.specs.Event.{Event}

abbrev pub IsByte : ℕ → Type 0
IsByte b = b < 256

-- a register's value, or an address
abbrev pub IsDouble : ℕ → Type 0
IsDouble n = n < 2 ^ 64

-- the operands of an instruction are in range, and it has the bytes of a parcel or of a word
abbrev pub IsFetched : Fetched → Type 0
IsFetched (Got i bytes) = IsValid i × ((bytes ≡ 2) ⊎ (bytes ≡ 4))
IsFetched NoRight = Unit {0}
IsFetched NoInstruction = Unit {0}

abbrev pub IsAccessWidth : ℕ → Type 0
IsAccessWidth n = (n ≡ 1) ⊎ ((n ≡ 2) ⊎ ((n ≡ 4) ⊎ (n ≡ 8)))

-- a number that so many bytes are
abbrev pub IsAccess : Option Access → Type 0
IsAccess None = Unit {0}
IsAccess (Some x) = IsDouble x.address × IsAccessWidth x.bytes × (x.number < 2 ^ (8 * x.bytes))

abbrev pub IsSetting : Option Setting → Type 0
IsSetting None = Unit {0}
IsSetting (Some x) = IsReg x.register × IsDouble x.value

abbrev pub IsEnd : End → Type 0
IsEnd (Exited code) = IsByte code
IsEnd Limit = Unit {0}
IsEnd Breakpoint = Unit {0}
IsEnd (Illegal a) = IsDouble a
IsEnd (FetchOutside a) = IsDouble a
IsEnd (LoadText a) = IsDouble a
IsEnd (LoadOutside a) = IsDouble a
IsEnd (StoreText a) = IsDouble a
IsEnd (StoreOutside a) = IsDouble a
IsEnd (MisalignedAtomic a) = IsDouble a
IsEnd Astray = Unit {0}

abbrev pub IsEnded : Option End → Type 0
IsEnded None = Unit {0}
IsEnded (Some e) = IsEnd e

pub record IsMachineEvent (e : Event) : Type 0 where
  pub pc : IsDouble e.pc
  pub fetched : IsFetched e.fetched
  pub read : IsAccess e.read
  pub stored : IsAccess e.stored
  pub set : IsSetting e.set
  pub taken : AllByRecursion IsByte e.taken
  pub put : AllByRecursion IsByte e.put
  pub ended : IsEnded e.«end»

-- a hart with registers and a pc of 64 bits, over bytes
pub record IsMachine (h : Hart) (m : Mem) : Type 0 where
  pub registers : harts.InRange h
  pub pc : IsDouble h.pc
  pub input : AllByRecursion IsByte h.input
  pub bytes : (a : ℕ) → IsByte (m.byte a)
