-- The numbers of the System V gABI and the RISC-V ELF psABI, under their names there.

use Rattle.std.specs.Prelude.{ℕ}

-- the first four bytes, 7Fh ELF, the lowest first
abbrev pub elfmag : ℕ
elfmag = 0x464C457F

-- the class of 64 bits
abbrev pub elfclass64 : ℕ
elfclass64 = 2

-- little-endian data
abbrev pub elfdata2lsb : ℕ
elfdata2lsb = 1

-- e_version, and the version in e_ident
abbrev pub ev_current : ℕ
ev_current = 1

-- e_type: a relocatable object
abbrev pub et_rel : ℕ
et_rel = 1

-- e_type: an executable
abbrev pub et_exec : ℕ
et_exec = 2

-- e_machine: RISC-V
abbrev pub em_riscv : ℕ
em_riscv = 243

-- e_flags: there are compressed instructions
abbrev pub ef_riscv_rvc : ℕ
ef_riscv_rvc = 1

-- e_phnum: the count stands elsewhere
abbrev pub pn_xnum : ℕ
pn_xnum = 0xFFFF

-- sh_type: no section
abbrev pub sht_null : ℕ
sht_null = 0

-- sh_type: bytes whose meaning is the program's own
abbrev pub sht_progbits : ℕ
sht_progbits = 1

-- sh_type: symbols
abbrev pub sht_symtab : ℕ
sht_symtab = 2

-- sh_type: strings, each with a zero byte after it
abbrev pub sht_strtab : ℕ
sht_strtab = 3

-- sh_type: relocations with addends
abbrev pub sht_rela : ℕ
sht_rela = 4

-- sh_type: notes
abbrev pub sht_note : ℕ
sht_note = 7

-- sh_type: zeros, of which the file has no bytes
abbrev pub sht_nobits : ℕ
sht_nobits = 8

-- sh_type: a group of sections
abbrev pub sht_group : ℕ
sht_group = 17

-- sh_flags: it can be written
abbrev pub shf_write : ℕ
shf_write = 1

-- sh_flags: it is loaded
abbrev pub shf_alloc : ℕ
shf_alloc = 2

-- sh_flags: it has instructions
abbrev pub shf_execinstr : ℕ
shf_execinstr = 4

-- st_shndx: the symbol is not defined here
abbrev pub shn_undef : ℕ
shn_undef = 0

-- indices of sections from here on have other meanings
abbrev pub shn_loreserve : ℕ
shn_loreserve = 0xFF00

-- st_shndx: the symbol's value is a number, and no address
abbrev pub shn_abs : ℕ
shn_abs = 0xFFF1

-- the upper half of st_info: no other object sees the symbol
abbrev pub stb_local : ℕ
stb_local = 0

-- the upper half of st_info: all objects see the symbol
abbrev pub stb_global : ℕ
stb_global = 1

-- the upper half of st_info: all objects see the symbol, which gives way to a global one
abbrev pub stb_weak : ℕ
stb_weak = 2

-- p_type: what is loaded
abbrev pub pt_load : ℕ
pt_load = 1

-- p_type: what dynamic linking needs
abbrev pub pt_dynamic : ℕ
pt_dynamic = 2

-- p_type: the name of a program that loads this one
abbrev pub pt_interp : ℕ
pt_interp = 3

-- p_type: what each thread has of its own
abbrev pub pt_tls : ℕ
pt_tls = 7

-- p_flags: it can be executed
abbrev pub pf_x : ℕ
pf_x = 1

-- p_flags: it can be written
abbrev pub pf_w : ℕ
pf_w = 2

-- p_flags: it can be read
abbrev pub pf_r : ℕ
pf_r = 4
