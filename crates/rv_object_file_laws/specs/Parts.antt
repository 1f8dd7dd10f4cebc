-- What the sections of an object's file are (System V gABI, "Sections", "Symbol Table",
-- "Relocation"; RISC-V ELF psABI, "Relocations").

use Rattle.std.specs.Prelude.{ℕ, suc, ◌-◌, ◌/◌, ◌%◌, ◌==◌, nat_lt, Bool, false, not, ◌&&◌, ◌||◌, List, [], ◌∷◌, drop, filter, flat_map, filter_map, length, replicate, bytes_eq, Option, Some, None, if◌then◌else◌}
use Rattle.std.specs.List.{find}
use Rattle.rv_isa.specs.declared.kind.Kind.{Kind}
use Rattle.rv_isa.specs.declared.kind.Kind.TheVariants as kinds
use Rattle.rv_isa.specs.Kinds.{number_of}
use Rattle.rv_elf_laws.specs.declared.section_header.SectionHeader.{SectionHeader}
use Rattle.rv_elf_laws.specs.declared.symbol.Symbol.{Symbol as SymbolRecord}
use Rattle.rv_elf_laws.specs.declared.rela.Rela.{Rela}
use Rattle.rv_elf_laws.specs.Numbers.{sht_progbits, sht_symtab, sht_rela, sht_note, sht_nobits, shf_write, shf_alloc, shf_execinstr}
use Rattle.rv_elf_laws.specs.Sections.{section_headers, indexed_contents, section_count, names_section, file_contents, string_at, symbols_in, relas_in}
use Rattle.rv_object_laws.specs.Object.{Contents, Progbits, Note, Nobits, Relocation}
use Rattle.rv_object_file_laws.specs.Rows.{RowRecord, rows_name, rows_in}

-- a section of a file: its index and its header
pub record FileSection : Type 0 where
  pub index : ℕ
  pub header : SectionHeader

abbrev pub numbered : ℕ → List SectionHeader → List FileSection
numbered i [] = []
numbered i (h ∷ hs) = record { index = i; header = h } ∷ numbered (suc i) hs

-- the sections of a file: the first header is none
abbrev pub sections : List ℕ → List FileSection
sections file = drop 1 (numbered 0 (section_headers file))

abbrev pub is_section : List ℕ → ℕ → Bool
is_section file i = nat_lt 0 i && nat_lt i (section_count file)

-- ---- headers

abbrev pub has_flag : ℕ → SectionHeader → Bool
has_flag flag h = h.sh_flags / flag % 2 == 1

abbrev pub is_loaded : SectionHeader → Bool
is_loaded h = has_flag shf_alloc h

abbrev pub is_executable : SectionHeader → Bool
is_executable h = has_flag shf_execinstr h

abbrev pub is_writable : SectionHeader → Bool
is_writable h = has_flag shf_write h

-- the name at an offset in a table of names: 0 is no name, whatever stands there
abbrev pub name_at : List ℕ → ℕ → Option (List ℕ)
name_at names offset = if offset == 0 then Some [] else string_at names offset

-- every name is empty where no section has the names
abbrev pub name_of : List ℕ → SectionHeader → Option (List ℕ)
name_of file h =
    if names_section file == 0 then Some []
    else name_at (indexed_contents file (names_section file)) h.sh_name

abbrev pub is_named : List ℕ → Option (List ℕ) → Bool
is_named name None = false
is_named name (Some other) = bytes_eq other name

abbrev pub is_symbol_table : SectionHeader → Bool
is_symbol_table h = h.sh_type == sht_symtab

abbrev pub is_rela : SectionHeader → Bool
is_rela h = h.sh_type == sht_rela

-- the rows of the source's statements
abbrev pub is_rows : List ℕ → SectionHeader → Bool
is_rows file h = h.sh_type == sht_progbits && is_named rows_name (name_of file h)

-- what an object keeps as a section
abbrev pub is_kept : List ℕ → FileSection → Bool
is_kept file s = (s.header.sh_type == sht_progbits && not (is_rows file s.header))
    || s.header.sh_type == sht_note || s.header.sh_type == sht_nobits

abbrev pub kept : List ℕ → List FileSection
kept file = filter (is_kept file) (sections file)

-- how many sections with a smaller index are kept: the index among the object's sections
abbrev pub kept_before : List ℕ → ℕ → ℕ
kept_before file i = length (filter (λ s. nat_lt s.index i) (kept file))

abbrev pub is_index : ℕ → FileSection → Bool
is_index i s = s.index == i

-- the kept section of an index of the file
abbrev pub kept_at : List ℕ → ℕ → Option FileSection
kept_at file i = find (is_index i) (kept file)

-- ---- contents and records

abbrev pub contents_in : List ℕ → SectionHeader → Contents
contents_in file h = if h.sh_type == sht_nobits then Nobits h.sh_size
    else if h.sh_type == sht_note then Note (file_contents file h)
    else Progbits (file_contents file h)

-- as many bytes as the header says, wherever the file ends
abbrev pub extent_of : SectionHeader → Contents
extent_of h = if h.sh_type == sht_nobits then Nobits h.sh_size else Progbits (replicate h.sh_size 0)

-- the first symbol table, and its symbols
abbrev pub symbol_table : List ℕ → Option FileSection
symbol_table file = find (λ s. is_symbol_table s.header) (sections file)

abbrev pub symbols_of : List ℕ → Option FileSection → List SymbolRecord
symbols_of file None = []
symbols_of file (Some s) = symbols_in (file_contents file s.header)

abbrev pub symbol_records : List ℕ → List SymbolRecord
symbol_records file = symbols_of file (symbol_table file)

-- the first section of rows, and these
abbrev pub row_records_of : List ℕ → Option FileSection → List RowRecord
row_records_of file None = []
row_records_of file (Some s) = rows_in (file_contents file s.header)

abbrev pub row_records : List ℕ → List RowRecord
row_records file = row_records_of file (find (λ s. is_rows file s.header) (sections file))

-- the sections with relocations of the section of an index
abbrev pub relocates : ℕ → FileSection → Bool
relocates i s = is_rela s.header && (s.header.sh_info == i)

-- the relocations in these sections, in the order of the file
abbrev pub relas_of : List ℕ → List FileSection → List Rela
relas_of file ss = flat_map (λ s. relas_in (file_contents file s.header)) ss

-- ---- relocations

abbrev pub all_kinds : List Kind
all_kinds = kinds.None ∷ kinds.Abs32 ∷ kinds.Abs64 ∷ kinds.Branch ∷ kinds.Jal ∷ kinds.Call
    ∷ kinds.CallPlt ∷ kinds.PcrelHi20 ∷ kinds.PcrelLo12I ∷ kinds.PcrelLo12S ∷ kinds.Hi20
    ∷ kinds.Lo12I ∷ kinds.Lo12S ∷ kinds.Add8 ∷ kinds.Add16 ∷ kinds.Add32 ∷ kinds.Add64
    ∷ kinds.Sub8 ∷ kinds.Sub16 ∷ kinds.Sub32 ∷ kinds.Sub64 ∷ kinds.Align ∷ kinds.RvcBranch
    ∷ kinds.RvcJump ∷ kinds.Relax ∷ kinds.Sub6 ∷ kinds.Set6 ∷ kinds.Set8 ∷ kinds.Set16
    ∷ kinds.Set32 ∷ kinds.Pcrel32 ∷ []

-- the kind of a number; none where the linker has no such kind
abbrev pub kind_numbered : ℕ → Option Kind
kind_numbered number = find (λ kind. number_of kind == number) all_kinds

-- a symbol's index in the object, whose symbols stand without the file's symbol 0
abbrev pub symbol_index : ℕ → Option ℕ
symbol_index i = if i == 0 then None else Some (i - 1)

abbrev pub relocation_by : Rela → Option Kind → Option Relocation
relocation_by r None = None
relocation_by r (Some kind) = Some (record {
  place = r.r_offset;
  kind = kind;
  symbol = symbol_index r.r_sym;
  addend = r.r_addend;
})

abbrev pub relocation_in : Rela → Option Relocation
relocation_in r = relocation_by r (kind_numbered r.r_type)

abbrev pub relocations_in : List Rela → List Relocation
relocations_in rs = filter_map relocation_in rs
