-- The halves of an address or a distance: what `lui` or `auipc` takes of it, and what is left for
-- twelve bits with sign (ISA, 2.4; RISC-V ELF psABI, "Absolute Addresses" and "PC-Relative
-- Addresses").

use Rattle.std.specs.Prelude.{ℤ, pos, ◌+ℤ◌, ◌-ℤ◌, ◌*ℤ◌}
use Rattle.rv_isa_laws.specs.Arithmetic.{floor}

-- the nearest multiple of 1000h, counted in 1000h
abbrev pub hi : ℤ → ℤ
hi x = floor (x +ℤ pos 0x800) 0x1000

-- what is left: -2048 to 2047
abbrev pub lo : ℤ → ℤ
lo x = x -ℤ pos 0x1000 *ℤ hi x
