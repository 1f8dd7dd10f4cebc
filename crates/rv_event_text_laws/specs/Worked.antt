-- Events of a few instructions, whose words are those of GNU's assembler.

use Rattle.std.specs.Prelude.{ℕ, false, [], ◌∷◌, Option, Some, None, pos}
use Rattle.rv_isa.specs.declared.instruction.Atomic.{Atomic}
use Rattle.rv_isa.specs.declared.instruction.Inst.TheVariants.{Lw, Sw, AmoaddD, ScW, Ecall, Addi}
use Rattle.rv_isa_laws.specs.Hart.{End}
use Rattle.rv_isa_laws.specs.Run.{Fetched, Got}
use Rattle.rv_event_laws.specs.declared.access.Setting.{Setting}
use Rattle.rv_event_laws.specs.Event.{Event, access}

-- a step that tells nothing but where it stands
abbrev pub at : ℕ → Fetched → Event
at pc f =
    record {
      pc = pc;
      fetched = f;
      read = None;
      stored = None;
      set = None;
      taken = [];
      put = [];
      «end» = None;
    }

abbrev pub x10_is : ℕ → Option Setting
x10_is value = Some (record { register = 10; value = value })

-- addi a0, zero, 5, as a parcel
abbrev pub li : Event
li =
    record (at 0x10000 (Got (Addi record { rd = 10; rs1 = 0; immediate = pos 5 }) 2)) {
      set = x10_is 5;
    }

-- lw a0, 4(a0), and lw zero, 0(a0), which sets nothing
abbrev pub lw : Event
lw =
    record (at 0x10004 (Got (Lw record { rd = 10; rs1 = 10; immediate = pos 4 }) 4)) {
      read = Some (access 0x11004 4 7);
      set = x10_is 7;
    }

abbrev pub lw_zero : Event
lw_zero =
    record (at 0x10008 (Got (Lw record { rd = 0; rs1 = 10; immediate = pos 0 }) 4)) {
      read = Some (access 0x11000 4 0xffffffff);
    }

-- sw a0, 0(a1)
abbrev pub sw : Event
sw =
    record (at 0x1000c (Got (Sw record { rs1 = 11; rs2 = 10; immediate = pos 0 }) 4)) {
      stored = Some (access 0x3ffffff0 4 7);
    }

-- of amoadd.d and sc.w
abbrev pub a0_a1_a2 : Atomic
a0_a1_a2 = record { rd = 10; rs1 = 12; rs2 = 11; acquire = false; release = false }

-- amoadd.d a0, a1, (a2)
abbrev pub amoadd : Event
amoadd =
    record (at 0x10010 (Got (AmoaddD a0_a1_a2) 4)) {
      read = Some (access 0x11008 8 40);
      set = x10_is 40;
      stored = Some (access 0x11008 8 42);
    }

-- sc.w a0, a1, (a2), where nothing is reserved
abbrev pub failed_sc : Event
failed_sc = record (at 0x10014 (Got (ScW a0_a1_a2) 4)) { set = x10_is 1 }

-- an ecall that takes `hi`, one that puts it, and one by which the run ends
abbrev pub takes_hi : Event
takes_hi =
    record (at 0x10018 (Got Ecall 4)) { set = x10_is 2; taken = 104 ∷ 105 ∷ [] }

abbrev pub puts_hi : Event
puts_hi = record (at 0x10018 (Got Ecall 4)) { set = x10_is 2; put = 104 ∷ 105 ∷ [] }

abbrev pub ends : End → Event
ends e = record (at 0x10018 (Got Ecall 4)) { «end» = Some e }
