-- The board virt: QEMU's machine of this name, as a program without interrupts meets it (QEMU,
-- hw/riscv/virt.c: VIRT_TEST, VIRT_UART0, VIRT_DRAM; hw/char/serial.c for the registers at the start).

use Rattle.std.specs.Prelude.{ℕ, ◌+◌, ◌-◌, ◌==◌, nat_le, Bool, ◌&&◌, if◌then◌else◌, List, [], ◌∷◌, ◌++◌, None, length, replicate}
use Rattle.rv_isa.specs.declared.instruction.Inst.{Inst}
use Rattle.rv_isa_laws.specs.Bytes.{zeros}
use Rattle.rv_isa_laws.specs.Hart.{Hart, Outcome}
use Rattle.rv_isa_laws.specs.Reader.{Reader}
use Rattle.rv_image_laws.specs.Image.{Image}
use Rattle.rv_image_laws.specs.Memory.{mem_of}
use Rattle.rv_image_laws.specs.Segment.{Segment}
use Rattle.rv_board_laws.specs.Device.{Device, Plain, Serial, Constant, Power, run_on}
use Rattle.rv_board_laws.specs.Platform.{Platform}

-- a 16550 at 10000000h, of which these registers are no bytes of memory: data, interrupt
-- identification (1: none is pending) and modem status (QEMU's, of a line that is connected); and
-- the test device
abbrev pub virt : ℕ → Device
virt a =
    if a == 0x1000_0000 then Serial
    else if a == 0x1000_0002 then Constant 1
    else if a == 0x1000_0006 then Constant 0xB0
    else if a == 0x10_0000 then Power
    else Plain

abbrev pub readable : ℕ → List ℕ → Segment
readable address bytes = record { address = address; bytes = bytes; flags = 6 }

-- the registers of the 16550 that are: interrupt enable; line control, modem control and line
-- status, by which the transmitter is empty and data are ready; scratch
abbrev pub registers : List Segment
registers =
    readable 0x1000_0001 (0 ∷ [])
    ∷ readable 0x1000_0003 (0 ∷ 8 ∷ 0x61 ∷ [])
    ∷ readable 0x1000_0007 (0 ∷ [])
    ∷ []

abbrev pub ram_start : ℕ
ram_start = 0x8000_0000

abbrev pub ram_end : ℕ
ram_end = 0x8800_0000

-- where a segment ends
abbrev pub segment_end : Segment → ℕ
segment_end s = s.address + length s.bytes

-- the segments ascend from here on, and end where RAM does or before
abbrev pub lie_in_ram : ℕ → List Segment → Bool
lie_in_ram from [] = nat_le from ram_end
lie_in_ram from (s ∷ ss) = nat_le from s.address && lie_in_ram (segment_end s) ss

abbrev pub zeros_between : ℕ → ℕ → Segment
zeros_between start end = readable start (zeros (end - start))

-- RAM from here on: the segments, and zeros before, between and behind them
unfoldable pub ram_from : ℕ → List Segment → List Segment
ram_from from [] = zeros_between from ram_end ∷ []
ram_from from (s ∷ ss) = zeros_between from s.address ∷ s ∷ ram_from (segment_end s) ss

-- the image of a program with what the board has beside it
abbrev pub with_ram : Image → Image
with_ram image = record image { segments = registers ++ ram_from ram_start image.segments }

-- a hart at its start: every register 0, at the first address of RAM
abbrev pub board_start : List ℕ → Hart
board_start input =
    record {
      registers = replicate 32 0;
      pc = ram_start;
      reservation = None;
      input = input;
      console = [];
    }

-- at most n steps of a program on the board
abbrev pub virt_run : {Spells StandsFor : ℕ → Inst → Type 0} → Reader Spells StandsFor → Image →
    List ℕ → ℕ → Outcome
virt_run reader image input n =
    run_on virt reader n (board_start input) (mem_of (with_ram image))

-- the board as a platform: the registers and RAM of zeros, with sp at 0
abbrev pub virt_platform : Platform
virt_platform = record {
  device = virt;
  beside = mem_of (with_ram (record { entry = ram_start; segments = [] }));
  top = 0;
}
