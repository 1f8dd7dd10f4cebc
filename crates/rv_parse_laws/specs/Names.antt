-- The words of base instructions: the names that rv_isa gives to them, as listings show them
-- (RISC-V Unprivileged ISA 20191213, chapter 24; 2.7 and 8.1 for what stands after a name).

use Rattle.std.specs.Prelude.{ℕ, ◌==◌, if◌then◌else◌, List, ◌++◌, codes}
use Rattle.rv_isa.specs.declared.instruction.Format.{Format}
use Rattle.rv_isa.specs.declared.instruction.Format.TheVariants as formats
use Rattle.rv_isa.specs.Mnemonics.{name_of, ordering}
use Rattle.rv_statement_laws.specs.declared.mnemonic.Mnemonic.{Mnemonic}
use Rattle.rv_statement_laws.specs.declared.mnemonic.Mnemonic.TheVariants as mnemonics
use Rattle.rv_parse_laws.specs.Words.{form_with}

-- the word of an instruction, by its format: its name, then an atomic's ordering or a fence's mode
abbrev pub word_of : Format → List ℕ
word_of (formats.LoadReserved double x) =
    name_of (formats.LoadReserved double x) ++ ordering x.acquire x.release
word_of (formats.Atomic operation double x) =
    name_of (formats.Atomic operation double x) ++ ordering x.acquire x.release
word_of (formats.Fence x) =
    if x.fm == 8 then name_of (formats.Fence x) ++ codes ".tso" else name_of (formats.Fence x)
word_of f = name_of f

-- the mnemonic of an instruction, by its format
abbrev pub mnemonic_of : Format → Mnemonic
mnemonic_of (formats.Registers operation x) = mnemonics.Registers operation
mnemonic_of (formats.Immediate operation x) = mnemonics.Immediate operation
mnemonic_of (formats.Shift operation x) = mnemonics.Shift operation
mnemonic_of (formats.Upper operation x) = mnemonics.Upper operation
mnemonic_of (formats.Load operation x) = mnemonics.Load operation
mnemonic_of (formats.Store operation x) = mnemonics.Store operation
mnemonic_of (formats.Branch operation x) = mnemonics.Branch operation
mnemonic_of (formats.Jal x) = mnemonics.Jal
mnemonic_of (formats.Jalr x) = mnemonics.Jalr
mnemonic_of (formats.LoadReserved double x) =
    mnemonics.LoadReserved (form_with double x.acquire x.release)
mnemonic_of (formats.Atomic operation double x) =
    mnemonics.Atomic operation (form_with double x.acquire x.release)
mnemonic_of (formats.Fence x) = if x.fm == 8 then mnemonics.FenceTso else mnemonics.Fence
mnemonic_of formats.Ecall = mnemonics.Ecall
mnemonic_of formats.Ebreak = mnemonics.Ebreak
