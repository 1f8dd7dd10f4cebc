-- What is written is loaded again: the executable of a linked program has no fault, and its image is the one that was meant.

use Rattle.std.proofs.Common.{◌≡◌, ℕ, ◌+◌, ◌*◌, ◌-◌, ◌%◌, ◌/◌, ◌≤◌, ◌<◌, ◌^◌, ◌==◌, nat_le, nat_lt, Bool, true, false, not, ◌&&◌, List, [], ◌∷◌, ◌++◌, length, drop, map, filter, flat_map, None, inl, inr, refl, ap, sym, subst, ◌∙◌, append_assoc, arith, sum_by}
use Rattle.std.proofs.Math.Nat.{le_trans}
use Rattle.std.proofs.lemmas.Bool.{le-ltb, ne_eqb, and_left, and_right, cond-true, cond-false}
use Rattle.std.proofs.lemmas.List.{length-append}
use Rattle.rv_list_laws.proofs.TruthLemmas.{flag_below, flags_fine}
use Rattle.rv_fault.specs.declared.file_fault.FileFault.TheVariants.{Truncated, BadMagic, WrongClass, WrongMachine, BadTable, NotExecutable, MemoryLimit}
use Rattle.rv_image.specs.declared.linked.Linked.{Linked as DeclaredLinked}
use Rattle.rv_image_laws.specs.Linked.{Linked, IsLaidOut}
use Rattle.rv_image.specs.Views.{linked_of}
use Rattle.rv_elf_laws.specs.declared.file_header.FileHeader.{FileHeader}
use Rattle.rv_elf_laws.specs.Fields.{number_in, ei_magic, ei_class, ei_data, ei_version, e_type, e_machine, e_entry, e_phoff, e_shoff, e_flags, e_phentsize, e_shentsize}
use Rattle.rv_elf_laws.specs.Numbers.{elfmag, elfclass64, elfdata2lsb, ev_current, et_exec, em_riscv, shn_loreserve, pn_xnum}
use Rattle.rv_elf_laws.specs.Records.{file_header_in, file_header_bytes}
use Rattle.rv_elf_laws.specs.ReadBack.{file_header_again}
use Rattle.rv_elf_laws.specs.Sections.{program_count, section_count, names_section, is_load, program_headers, is_past}
use Rattle.rv_isa_laws.specs.Platform.{memory_limit}
use Rattle.rv_image_laws.specs.Free.{highest, free_until}
use Rattle.rv_image_laws.proofs.FreeLemmas.{free_is, free_low, free_apart}
use Rattle.rv_image_laws.specs.Image.{Image}
use Rattle.rv_image_laws.specs.ImageOf.{ImageOf, segment_in}
use Rattle.rv_elf_laws.specs.FirstFault.{first_true, header_tests, table_tests, type_tests}
use Rattle.rv_image_laws.specs.FirstFault.{first_fault, load_tests, programs_tests, whole_tests, loaded_size, programs_from}
use Rattle.rv_image_laws.specs.Executable.{Part, all_parts, parts_with_memory, has_memory, memory_size_of, header_of, program_of, program_bytes, exe_of, linked_image}
use Rattle.rv_elf_laws.specs.FirstTrue.{first_true_none}
use Rattle.rv_elf_laws.proofs.RecordsLemmas.{length-file_header}
use Rattle.rv_elf_laws.proofs.SectionsLemmas.{not_past}
use Rattle.rv_image.proofs.PartsLemmas.{AllFit, programs_read, length-programs}
use Rattle.rv_image.proofs.ContentsLemmas.{Ascending, AllStand, extends, all_stand, filter_stand, filter_ascend}
use Rattle.rv_image.proofs.SoundLemmas.{programs_sound, filter_loads, segments_same, loaded_parts, filter_memory}

-- the tests of a header see its fields, and that e_ident is as it is to be
pub record HasHeader (h : FileHeader) (file : List ℕ) : Type 0 where
  pub magic : number_in ei_magic 0 file ≡ elfmag
  pub class : number_in ei_class 0 file ≡ elfclass64
  pub order : number_in ei_data 0 file ≡ elfdata2lsb
  pub version : number_in ei_version 0 file ≡ ev_current
  pub fields : file_header_in file ≡ h

header_reads : (l : Linked) (rest : List ℕ) → l.map.entry < 2 ^ 64 → length (parts_with_memory l) < 2 ^ 16 → HasHeader (header_of l) (file_header_bytes (header_of l) ++ rest)
unfolding file_header_bytes number_in
header_reads l rest small few = record {
  magic = refl;
  class = refl;
  order = refl;
  version = refl;
  fields = file_header_again (header_of l) rest (record {
    e_type = omega arith;
    e_machine = omega arith;
    e_version = omega arith;
    e_entry = small;
    e_phoff = omega arith;
    e_shoff = omega arith;
    e_flags = flag_below l.rvc;
    e_ehsize = omega arith;
    e_phentsize = omega arith;
    e_phnum = few;
    e_shentsize = omega arith;
    e_shnum = omega arith;
    e_shstrndx = omega arith;
  });
}

header_sound : (l : Linked) (file : List ℕ) → HasHeader (header_of l) file → 64 ≤ length file → first_true (header_tests file) ≡ None
unfolding header_tests
header_sound l file reads long =
    let size : nat_lt (length file) 64 ≡ false = le-ltb (length file) 64 long in
    let magic : not (number_in ei_magic 0 file == elfmag) ≡ false = ap (λ n. not (n == elfmag)) reads.magic in
    let class : not (number_in ei_class 0 file == elfclass64 && number_in ei_data 0 file == elfdata2lsb && number_in ei_version 0 file == ev_current) ≡ false =
    (λ i. not (reads.class i == elfclass64 && reads.order i == elfdata2lsb && reads.version i == ev_current)) in
    let riscv : not (number_in e_machine 0 file == em_riscv) ≡ false = ap (λ h. not (h.e_machine == em_riscv)) reads.fields in
    let flags : not (number_in e_flags 0 file / 2 % 8 == 0) ≡ false = ap (λ h. not (h.e_flags / 2 % 8 == 0)) reads.fields ∙ flags_fine l.rvc in
    (λ i. first_true ((size i, Truncated) ∷ (magic i, BadMagic) ∷ (class i, WrongClass) ∷ (riscv i, WrongMachine) ∷ (flags i, WrongMachine) ∷ []))

type_sound : (l : Linked) (file : List ℕ) → HasHeader (header_of l) file → first_true (type_tests file) ≡ None
unfolding type_tests
type_sound l file reads =
    let executable : not (number_in e_type 0 file == et_exec) ≡ false = ap (λ h. not (h.e_type == et_exec)) reads.fields in
    (λ i. first_true ((executable i, NotExecutable) ∷ []))

table_sound : (l : Linked) (file : List ℕ) → HasHeader (header_of l) file → length (parts_with_memory l) ≤ 3 → 64 + 56 * length (parts_with_memory l) ≤ length file → first_true (table_tests file) ≡ None
unfolding table_tests
table_sound l file reads few long =
    let sections : nat_le shn_loreserve (section_count file) ≡ false = ap (λ h. nat_le shn_loreserve h.e_shnum) reads.fields in
    let programs_few : (program_count file == pn_xnum) ≡ false = ap (λ h. h.e_phnum == pn_xnum) reads.fields ∙ ne_eqb (length (parts_with_memory l)) pn_xnum (λ e. omega arith) in
    let program_size : (not (program_count file == 0) && not (number_in e_phentsize 0 file == 56)) ≡ false = and_right _ _ (ap (λ h. not (h.e_phentsize == 56)) reads.fields) in
    let section_size : (not (section_count file == 0) && not (number_in e_shentsize 0 file == 64)) ≡ false = and_left _ _ (ap (λ h. not (h.e_shnum == 0)) reads.fields) in
    let names : (not (names_section file == 0) && nat_le (section_count file) (names_section file)) ≡ false = and_left _ _ (ap (λ h. not (h.e_shstrndx == 0)) reads.fields) in
    let program_end : is_past file (number_in e_phoff 0 file) (56 * program_count file) ≡ false =
    ap (λ h. is_past file h.e_phoff (56 * h.e_phnum)) reads.fields ∙ not_past file 64 (56 * length (parts_with_memory l)) long in
    let section_end : is_past file (number_in e_shoff 0 file) (64 * section_count file) ≡ false = ap (λ h. is_past file (number_in e_shoff 0 file) (64 * h.e_shnum)) reads.fields in
    (λ i. first_true ((sections i, BadTable) ∷ (programs_few i, BadTable) ∷ (program_size i, BadTable) ∷ (section_size i, BadTable) ∷ (names i, BadTable)
    ∷ (program_end i, Truncated) ∷ (section_end i, Truncated) ∷ []))

whole_sound : (l : Linked) (file : List ℕ) → HasHeader (header_of l) file → l.map.entry % 2 ≡ 0 → loaded_size (program_headers file) ≤ memory_limit → first_true (whole_tests file) ≡ None
unfolding whole_tests
whole_sound l file reads even limit =
    let entry : not (number_in e_entry 0 file % 2 == 0) ≡ false = ap (λ h. not (h.e_entry % 2 == 0)) reads.fields ∙ ap (λ n. not (n == 0)) even in
    let memory : nat_lt memory_limit (loaded_size (program_headers file)) ≡ false = le-ltb memory_limit (loaded_size (program_headers file)) limit in
    (λ i. first_true ((entry i, BadTable) ∷ (memory i, MemoryLimit) ∷ []))

-- a list without some of its elements is no longer
length-filtered : (ps : List Part) → length (filter has_memory ps) ≤ length ps
length-filtered [] = omega arith
length-filtered (p ∷ ps) = go (has_memory p) refl (length-filtered ps)
  where
    go : (b : Bool) → has_memory p ≡ b → length (filter has_memory ps) ≤ length ps → length (filter has_memory (p ∷ ps)) ≤ length (p ∷ ps)
    go true e rest = rw (cond-true (has_memory p) (p ∷ filter has_memory ps) (filter has_memory ps) e) (omega (arith, rest))
    go false e rest = rw (cond-false (has_memory p) (p ∷ filter has_memory ps) (filter has_memory ps) e) (omega (arith, rest))

filter_fit : (start : ℕ) (ps : List Part) → AllFit start ps → AllFit start (filter has_memory ps)
filter_fit start [] h = tt
filter_fit start (p ∷ ps) h = go (has_memory p) refl (filter_fit start ps h.1)
  where
    go : (b : Bool) → has_memory p ≡ b → AllFit start (filter has_memory ps) → AllFit start (filter has_memory (p ∷ ps))
    go true e rest = rw (cond-true (has_memory p) (p ∷ filter has_memory ps) (filter has_memory ps) e) (h.0, rest)
    go false e rest = rw (cond-false (has_memory p) (p ∷ filter has_memory ps) (filter has_memory ps) e) rest

-- from where memory is free it is not so far to its end that an offset in the file has no number
pub near_by : (start end : ℕ) → end ≤ free_until start → end - start < 2 ^ 64 - 0x1000
near_by start end h = elim (free_is start) [
  | inl below ↦ (let low = subst (λ n. end ≤ n) below.1 h in omega (arith, low))
  | inr above ↦ (let low = subst (λ n. end ≤ n) above.1 h in omega (arith, low, above.0))
]

module _ (l : Linked) (laid : IsLaidOut l) where
  near : l.map.bss.end - l.map.text.start < 2 ^ 64 - 0x1000
  near = near_by l.map.text.start l.map.bss.end laid.in_free

  -- below the last page
  pub low : l.map.bss.end ≤ highest
  low = le_trans laid.in_free (free_low l.map.text.start)

  pub ascend : Ascending l.map.text.start (all_parts l) l.map.bss.end
  ascend = (
    omega arith,
    (
      omega (arith, laid.text_fills, laid.rodata_after_text),
      (omega (arith, laid.rodata_fills, laid.data_after_rodata), omega (arith, laid.data_fills, laid.bss_after_data, laid.bss_ends)),
    ),
  )

  fit : AllFit l.map.text.start (all_parts l)
  fit = (
    record {
      p_type = omega arith;
      p_flags = omega arith;
      p_offset = omega arith;
      p_vaddr = omega (arith, laid.text_fills, laid.rodata_fills, laid.data_fills, laid.rodata_after_text, laid.data_after_rodata, laid.bss_after_data, laid.bss_ends, low);
      p_paddr = omega (arith, laid.text_fills, laid.rodata_fills, laid.data_fills, laid.rodata_after_text, laid.data_after_rodata, laid.bss_after_data, laid.bss_ends, low);
      p_filesz = omega (arith, laid.limit);
      p_memsz = omega (arith, laid.limit);
      p_align = omega arith;
    },
    (
      record {
        p_type = omega arith;
        p_flags = omega arith;
        p_offset = omega (arith, laid.rodata_fills, laid.data_fills, laid.data_after_rodata, laid.bss_after_data, laid.bss_ends, near);
        p_vaddr = omega (arith, laid.rodata_fills, laid.data_fills, laid.data_after_rodata, laid.bss_after_data, laid.bss_ends, low);
        p_paddr = omega (arith, laid.rodata_fills, laid.data_fills, laid.data_after_rodata, laid.bss_after_data, laid.bss_ends, low);
        p_filesz = omega (arith, laid.limit);
        p_memsz = omega (arith, laid.limit);
        p_align = omega arith;
      },
      (
        record {
          p_type = omega arith;
          p_flags = omega arith;
          p_offset = omega (arith, laid.data_fills, laid.bss_after_data, laid.bss_ends, near);
          p_vaddr = omega (arith, laid.data_fills, laid.bss_after_data, laid.bss_ends, low);
          p_paddr = omega (arith, laid.data_fills, laid.bss_after_data, laid.bss_ends, low);
          p_filesz = omega (arith, laid.data_fills, laid.bss_after_data, laid.bss_ends, low);
          p_memsz = omega (arith, laid.data_fills, laid.bss_after_data, laid.bss_ends, low);
          p_align = omega arith;
        },
        tt,
      ),
    ),
  )

few_parts : (l : Linked) → length (parts_with_memory l) ≤ 3
few_parts l = length-filtered (all_parts l)

-- the header and the program headers end before the first contents
pub short : (l : Linked) → length (file_header_bytes (header_of l) ++ flat_map (program_bytes l.map.text.start) (parts_with_memory l)) ≤ 0x1000
short l =
    let table = flat_map (program_bytes l.map.text.start) (parts_with_memory l) in
    omega (arith, length-append (file_header_bytes (header_of l)) table, length-file_header (header_of l), length-programs l.map.text.start (parts_with_memory l), few_parts l)

-- the file is the header, then the program headers, then more
file_is : (l : Linked) → (extra : List ℕ) × (exe_of l ≡ file_header_bytes (header_of l) ++ (flat_map (program_bytes l.map.text.start) (parts_with_memory l) ++ extra))
file_is l =
    let start = l.map.text.start in
    let table = flat_map (program_bytes start) (parts_with_memory l) in
    let more = extends start (file_header_bytes (header_of l) ++ table) (all_parts l) in
    (more.0, more.1 ∙ append_assoc (file_header_bytes (header_of l)) table more.0)

behind_header : (l : Linked) (rest : List ℕ) → drop 64 (file_header_bytes (header_of l) ++ rest) ≡ rest
unfolding file_header_bytes
behind_header l rest = refl

module _ (l : Linked) (laid : IsLaidOut l) where
  pub reads : HasHeader (header_of l) (exe_of l)
  reads = let whole = file_is l in rw whole.1 (header_reads l (flat_map (program_bytes l.map.text.start) (parts_with_memory l) ++ whole.0) laid.entry (omega (arith, few_parts l)))

  pub long : 64 + 56 * length (parts_with_memory l) ≤ length (exe_of l)
  long =
      let whole = file_is l in
      let table = flat_map (program_bytes l.map.text.start) (parts_with_memory l) in
      rw whole.1 (omega (arith, length-append (file_header_bytes (header_of l)) (table ++ whole.0), length-append table whole.0, length-file_header (header_of l), length-programs l.map.text.start (parts_with_memory l)))

  pub programs_are : program_headers (exe_of l) ≡ map (program_of l.map.text.start) (parts_with_memory l)
  programs_are =
      let whole = file_is l in
      let table = flat_map (program_bytes l.map.text.start) (parts_with_memory l) in
      let here : drop 64 (exe_of l) ≡ table ++ whole.0 = ap (drop 64) whole.1 ∙ behind_header l (table ++ whole.0) in
      ap (λ h. programs_from h.e_phnum h.e_phoff (exe_of l)) reads.fields
      ∙ programs_read l.map.text.start (parts_with_memory l) whole.0 64 (exe_of l) (filter_fit l.map.text.start (all_parts l) (fit l laid)) here

  pub stand : AllStand l.map.text.start (exe_of l) (parts_with_memory l)
  stand =
      let start = l.map.text.start in
      let table = flat_map (program_bytes start) (parts_with_memory l) in
      let room : length (file_header_bytes (header_of l) ++ table) ≤ 0x1000 + (start - start) = omega (arith, short l) in
      filter_stand start (exe_of l) (all_parts l) (all_stand start (file_header_bytes (header_of l) ++ table) (all_parts l) start l.map.bss.end (omega arith) (ascend l laid) room)

  pub memory_fits : loaded_size (program_headers (exe_of l)) ≤ memory_limit
  memory_fits =
      let sizes : loaded_size (program_headers (exe_of l)) ≡ sum_by memory_size_of (all_parts l) =
      ap loaded_size programs_are ∙ loaded_parts l.map.text.start (parts_with_memory l) ∙ filter_memory (all_parts l) in
      rw sizes (omega (arith, laid.limit, laid.data_fills, laid.bss_after_data, laid.bss_ends))

  pub reload_fault : first_fault (exe_of l) ≡ None
  unfolding load_tests
  reload_fault =
      let file = exe_of l in
      let tests = programs_tests file [] (program_headers file) in
      let sound : first_true tests ≡ None = ap (λ ps. first_true (programs_tests file [] ps)) programs_are
      ∙ programs_sound l.map.text.start file [] (parts_with_memory l) l.map.text.start l.map.bss.end stand refl (filter_ascend l.map.text.start (all_parts l) l.map.bss.end (ascend l laid))
      (omega (arith, low l laid)) (free_apart l.map.text.start l.map.bss.end laid.in_free) in
      first_true_none (header_tests file) (type_tests file ++ (table_tests file ++ (tests ++ whole_tests file))) (header_sound l file reads (omega (arith, long)))
      ∙ first_true_none (type_tests file) (table_tests file ++ (tests ++ whole_tests file)) (type_sound l file reads)
      ∙ first_true_none (table_tests file) (tests ++ whole_tests file) (table_sound l file reads (few_parts l) long)
      ∙ first_true_none tests (whole_tests file) sound
      ∙ whole_sound l file reads laid.even memory_fits

  pub reload_image : ImageOf (exe_of l) (linked_image l)
  reload_image = record {
    magic = reads.magic;
    class = reads.class;
    order = reads.order;
    version = reads.version;
    executable = ap (λ h. h.e_type) reads.fields;
    riscv = ap (λ h. h.e_machine) reads.fields;
    entry = sym (ap (λ h. h.e_entry) reads.fields);
    segments = sym (ap (λ ps. map (segment_in (exe_of l)) (filter is_load ps)) programs_are
        ∙ ap (map (segment_in (exe_of l))) (filter_loads l.map.text.start (parts_with_memory l))
        ∙ segments_same l.map.text.start (exe_of l) (parts_with_memory l) stand);
  }

-- a file has one image
pub one_image : (file : List ℕ) (i j : Image) → ImageOf file i → ImageOf file j → i ≡ j
one_image file i j left right =
    let entry : i.entry ≡ j.entry = left.entry ∙ sym right.entry in
    let segments : i.segments ≡ j.segments = left.segments ∙ sym right.segments in
    (λ k. record { entry = entry k; segments = segments k })

-- what the type of linked programs keeps
pub laid_out : (l : DeclaredLinked) → l.map.entry < 2 ^ 64 → IsLaidOut (linked_of l)
laid_out l small = record {
  text_fills = l.text_fills;
  rodata_fills = l.rodata_fills;
  data_fills = l.data_fills;
  rodata_after_text = l.rodata_after_text;
  data_after_rodata = l.data_after_rodata;
  bss_after_data = l.bss_after_data;
  bss_ends = l.bss_ends;
  in_free = l.in_free;
  limit = l.limit;
  even = l.even;
  entry = small;
}
