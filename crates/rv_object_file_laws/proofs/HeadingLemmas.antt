-- The header of a written file is read again, and no test of it or of the tables is true.

use Rattle.std.proofs.Common.{◌≡◌, ℕ, ◌+◌, ◌*◌, ◌/◌, ◌%◌, ◌<◌, ◌≤◌, ◌^◌, ◌==◌, nat_le, nat_lt, false, not, ◌&&◌, List, [], ◌∷◌, ◌++◌, length, None, refl, ap, ◌∙◌, arith}
use Rattle.std.proofs.lemmas.Bool.{le-ltb, lt-leb, and_left, and_right}
use Rattle.rv_elf_laws.specs.declared.file_header.FileHeader.{FileHeader}
use Rattle.rv_fault.specs.declared.file_fault.FileFault.TheVariants.{Truncated, BadMagic, WrongClass, WrongMachine, BadTable}
use Rattle.rv_elf_laws.specs.Fields.{number_in, ei_magic, ei_class, ei_data, ei_version, e_type, e_machine, e_flags, e_phoff, e_shoff, e_phentsize, e_phnum, e_shentsize, e_shnum, e_shstrndx}
use Rattle.rv_elf_laws.specs.Records.{file_header_bytes}
use Rattle.rv_elf_laws.specs.Sections.{is_past, program_count, section_count, names_section}
use Rattle.rv_elf_laws.specs.FirstFault.{first_true, header_tests, table_tests}
use Rattle.rv_elf_laws.proofs.SectionsLemmas.{not_past}
use Rattle.rv_object_file_laws.proofs.RecordsLemmas.{number_at}

pub record FitsFileHeader (h : FileHeader) : Type 0 where
  pub kind : h.e_type < 2 ^ 16
  pub machine : h.e_machine < 2 ^ 16
  pub sections : h.e_shoff < 2 ^ 64
  pub flags : h.e_flags < 2 ^ 32
  pub count : h.e_shnum < 2 ^ 16
  pub size : h.e_shentsize < 2 ^ 16
  pub names : h.e_shstrndx < 2 ^ 16
  pub no_programs : h.e_phnum ≡ 0

pub record ReadsHeader (h : FileHeader) (file : List ℕ) : Type 0 where
  pub magic : number_in ei_magic 0 file ≡ 0x464C457F
  pub class : number_in ei_class 0 file ≡ 2
  pub order : number_in ei_data 0 file ≡ 1
  pub version : number_in ei_version 0 file ≡ 1
  pub kind : number_in e_type 0 file ≡ h.e_type
  pub machine : number_in e_machine 0 file ≡ h.e_machine
  pub sections : number_in e_shoff 0 file ≡ h.e_shoff
  pub flags : number_in e_flags 0 file ≡ h.e_flags
  pub programs : number_in e_phnum 0 file ≡ 0
  pub size : number_in e_shentsize 0 file ≡ h.e_shentsize
  pub count : number_in e_shnum 0 file ≡ h.e_shnum
  pub names : number_in e_shstrndx 0 file ≡ h.e_shstrndx

pub file_header_back : (h : FileHeader) (rest : List ℕ) → FitsFileHeader h → ReadsHeader h (file_header_bytes h ++ rest)
unfolding file_header_bytes
file_header_back h rest fits =
    let file : List ℕ = file_header_bytes h ++ rest in
    record {
      magic = number_at 0 4 0x464C457F 0 file file refl refl (omega arith);
      class = number_at 4 1 2 0 file file refl refl (omega arith);
      order = number_at 5 1 1 0 file file refl refl (omega arith);
      version = number_at 6 1 1 0 file file refl refl (omega arith);
      kind = number_at 16 2 h.e_type 0 file file refl refl fits.kind;
      machine = number_at 18 2 h.e_machine 0 file file refl refl fits.machine;
      sections = number_at 40 8 h.e_shoff 0 file file refl refl fits.sections;
      flags = number_at 48 4 h.e_flags 0 file file refl refl fits.flags;
      programs = number_at 56 2 h.e_phnum 0 file file refl refl (omega (arith, fits.no_programs)) ∙ fits.no_programs;
      size = number_at 58 2 h.e_shentsize 0 file file refl refl fits.size;
      count = number_at 60 2 h.e_shnum 0 file file refl refl fits.count;
      names = number_at 62 2 h.e_shstrndx 0 file file refl refl fits.names;
    }

pub header_sound : (h : FileHeader) (file : List ℕ) → ReadsHeader h file → 64 ≤ length file → h.e_machine ≡ 243 → not (h.e_flags / 2 % 8 == 0) ≡ false →
    first_true (header_tests file) ≡ None
unfolding header_tests
header_sound h file reads long machine flags =
    let size : nat_lt (length file) 64 ≡ false = le-ltb (length file) 64 long in
    let magic : not (number_in ei_magic 0 file == 0x464C457F) ≡ false = ap (λ n. not (n == 0x464C457F)) reads.magic in
    let class : not (number_in ei_class 0 file == 2 && number_in ei_data 0 file == 1 && number_in ei_version 0 file == 1) ≡ false =
    (λ i. not (reads.class i == 2 && reads.order i == 1 && reads.version i == 1)) in
    let riscv : not (number_in e_machine 0 file == 243) ≡ false = ap (λ n. not (n == 243)) (reads.machine ∙ machine) in
    let abi : not (number_in e_flags 0 file / 2 % 8 == 0) ≡ false = ap (λ n. not (n / 2 % 8 == 0)) reads.flags ∙ flags in
    (λ i. first_true ((size i, Truncated) ∷ (magic i, BadMagic) ∷ (class i, WrongClass) ∷ (riscv i, WrongMachine) ∷ (abi i, WrongMachine) ∷ []))

pub table_sound : (h : FileHeader) (file : List ℕ) → ReadsHeader h file → h.e_shnum < 0xFF00 → h.e_shentsize ≡ 64 → h.e_shstrndx < h.e_shnum →
    h.e_shoff + 64 * h.e_shnum ≤ length file → first_true (table_tests file) ≡ None
unfolding table_tests
table_sound h file reads few size names long =
    let count : nat_le 0xFF00 (section_count file) ≡ false = ap (nat_le 0xFF00) reads.count ∙ lt-leb 0xFF00 h.e_shnum few in
    let programs : (program_count file == 0xFFFF) ≡ false = ap (λ n. n == 0xFFFF) reads.programs in
    let program_size : (not (program_count file == 0) && not (number_in e_phentsize 0 file == 56)) ≡ false = and_left _ _ (ap (λ n. not (n == 0)) reads.programs) in
    let section_size : (not (section_count file == 0) && not (number_in e_shentsize 0 file == 64)) ≡ false = and_right _ _ (ap (λ n. not (n == 64)) (reads.size ∙ size)) in
    let names_within : (not (names_section file == 0) && nat_le (section_count file) (names_section file)) ≡ false =
    and_right _ _ ((λ i. nat_le (reads.count i) (reads.names i)) ∙ lt-leb h.e_shnum h.e_shstrndx names) in
    let program_end : is_past file (number_in e_phoff 0 file) (56 * program_count file) ≡ false =
    ap (λ n. is_past file (number_in e_phoff 0 file) (56 * n)) reads.programs in
    let section_end : is_past file (number_in e_shoff 0 file) (64 * section_count file) ≡ false =
    (λ i. is_past file (reads.sections i) (64 * reads.count i)) ∙ not_past file h.e_shoff (64 * h.e_shnum) long in
    (λ i. first_true ((count i, BadTable) ∷ (programs i, BadTable) ∷ (program_size i, BadTable) ∷ (section_size i, BadTable) ∷ (names_within i, BadTable)
    ∷ (program_end i, Truncated) ∷ (section_end i, Truncated) ∷ []))
