-- A file with more behind it is loaded as the executable in front.

use Rattle.std.proofs.Common.{◌≡◌, ◌∙◌, ℕ, zero, suc, ◌+◌, ◌-◌, ◌*◌, ◌%◌, ◌/◌, ◌<◌, ◌≤◌, ◌^◌, ◌==◌, nat_lt, nat_le, Bool, true, false, not, ◌&&◌, ◌||◌, List, [], ◌∷◌, ◌++◌, length, get_or, take, drop, replicate, map, filter, cond, inl, inr, None, refl, ap, sym, arith}
use Rattle.std.specs.List.{list_all}
use Rattle.std.proofs.lemmas.Bool.{and_parts, and_right, cases_Bool, eqb-true, le-ltb, ltb-false}
use Rattle.std.proofs.lemmas.Bool.Decides.{nat_tests}
use Rattle.rv_fault.specs.declared.file_fault.FileFault.{FileFault}
use Rattle.rv_fault.specs.declared.file_fault.FileFault.TheVariants.{Truncated, BadMagic, WrongClass, WrongMachine, BadTable, NotExecutable, Dynamic, MemoryLimit}
use Rattle.rv_elf_laws.specs.declared.program_header.ProgramHeader.{ProgramHeader}
use Rattle.rv_elf_laws.specs.Fields.{number_in, ei_magic, ei_class, ei_data, ei_version, e_type, e_machine, e_entry, e_phoff, e_shoff, e_flags, e_phentsize, e_phnum, e_shentsize}
use Rattle.rv_elf_laws.specs.FirstFault.{first_true, header_tests, open_tests, table_tests, type_tests}
use Rattle.rv_elf_laws.specs.FirstTrue.{first_true_none, no_fault_parts}
use Rattle.rv_elf_laws.specs.Numbers.{elfmag, elfclass64, elfdata2lsb, ev_current, et_exec, em_riscv, shn_loreserve, pn_xnum}
use Rattle.rv_elf_laws.specs.Records.{program_header_at}
use Rattle.rv_elf_laws.specs.Sections.{is_load, is_past, names_section, program_count, program_headers, records, section_count}
use Rattle.rv_elf_laws.proofs.SectionsLemmas.{not_past}
use Rattle.rv_isa_laws.specs.Platform.{memory_limit}
use Rattle.rv_image_laws.specs.FirstFault.{first_fault, is_dynamic, load_tests, loaded_size, program_tests, programs_tests, segment_tests, whole_tests}
use Rattle.rv_image_laws.specs.Image.{Image}
use Rattle.rv_image_laws.specs.ImageOf.{ImageOf, segment_in}
use Rattle.rv_debug_laws.specs.File.{retabled}
use Rattle.rv_debug_laws.specs.Stored.{can_grow, is_behind_header}
use Rattle.rv_debug_laws.proofs.GrownLemmas.{kept_bytes, kept_low, kept_middle, kept_programs, same_length, shentsize_is, shnum_is, shoff_is, shstrndx_is}
use Rattle.std.proofs.lemmas.List.{length-append}

-- no test is true
first_none : (b : Bool) (fault : FileFault) (rest : List (Bool × FileFault)) → first_true ((b, fault) ∷ rest) ≡ None →
    (b ≡ false) × (first_true rest ≡ None)
first_none true fault rest e = absurd (cc)
first_none false fault rest e = (refl, e)

-- nor the one at an index
none_at : (i : ℕ) (fault : FileFault) (tests : List (Bool × FileFault)) → first_true tests ≡ None → (get_or tests i (false, fault)).0 ≡ false
none_at i fault [] e = refl
none_at i fault ((true, other) ∷ tests) e = absurd (cc)
none_at zero fault ((false, other) ∷ tests) e = refl
none_at (suc i) fault ((false, other) ∷ tests) e = none_at i fault tests e

pub is_long : (exe : List ℕ) → first_true (open_tests exe) ≡ None → 64 ≤ length exe
unfolding header_tests
is_long exe opens =
    let header = (no_fault_parts (header_tests exe) (table_tests exe) opens).0 in
    ltb-false (length exe) 64 (none_at 0 Truncated (header_tests exe) header)

within : (exe : List ℕ) (place size : ℕ) → is_past exe place size ≡ false → 0 < size → place + size ≤ length exe
within exe place size h some = grind (arith, nat_tests)

past_longer : (exe file : List ℕ) (place size : ℕ) → length exe ≤ length file → is_past exe place size ≡ false → is_past file place size ≡ false
past_longer exe file place size h e = grind (arith, nat_tests)

high_table : (count place : ℕ) → (count == 0 || nat_le 64 place) ≡ true → 0 < count → 64 ≤ place
high_table count place h some = grind (arith, nat_tests)

-- what the tests of an executable's tables say
record AreTablesFine (exe : List ℕ) : Type 0 where
  few : (program_count exe == pn_xnum) ≡ false
  size : (not (program_count exe == 0) && not (number_in e_phentsize 0 exe == 56)) ≡ false
  programs : is_past exe (number_in e_phoff 0 exe) (56 * program_count exe) ≡ false

tables_fine : (exe : List ℕ) → first_true (table_tests exe) ≡ None → AreTablesFine exe
unfolding table_tests
tables_fine exe h =
    record { few = none_at 1 Truncated (table_tests exe) h; size = none_at 2 Truncated (table_tests exe) h; programs = none_at 5 Truncated (table_tests exe) h }

module _ (exe rest : List ℕ) (place count names : ℕ) (opens : first_true (open_tests exe) ≡ None) (grows : can_grow exe ≡ true)
    (small : place < 2 ^ 64) (some : 0 < count) (few : count < 0xFF00) (named : names < count)
    (room : place + 64 * count ≤ length (retabled exe place count names ++ rest)) where
  long : 64 ≤ length exe
  long = is_long exe opens

  fine : AreTablesFine exe
  fine = tables_fine exe (no_fault_parts (header_tests exe) (table_tests exe) opens).1

  longer : length exe ≤ length (retabled exe place count names ++ rest)
  longer = omega (arith, length-append (retabled exe place count names) rest, same_length exe rest place count names long)

  count_same : program_count (retabled exe place count names ++ rest) ≡ program_count exe
  count_same = kept_middle exe rest place count names long e_phnum (omega arith) (omega arith)

  place_same : number_in e_phoff 0 (retabled exe place count names ++ rest) ≡ number_in e_phoff 0 exe
  place_same = kept_low exe rest place count names long e_phoff (omega arith)

  table_same : (n : ℕ) → program_count exe ≡ n →
      records program_header_at 56 n (number_in e_phoff 0 exe) (retabled exe place count names ++ rest)
      ≡ records program_header_at 56 n (number_in e_phoff 0 exe) exe
  table_same zero e = refl
  table_same (suc n) e =
      let some : 0 < program_count exe = omega (arith, e) in
      let high = high_table (program_count exe) (number_in e_phoff 0 exe)
      (and_parts (program_count exe == 0 || nat_le 64 (number_in e_phoff 0 exe)) (list_all (is_behind_header exe) (program_headers exe)) grows).0 some in
      let inside = within exe (number_in e_phoff 0 exe) (56 * program_count exe) fine.programs (omega (arith, some)) in
      kept_programs exe rest place count names long (suc n) (number_in e_phoff 0 exe) high (omega (arith, inside, e))

  pub programs_same : program_headers (retabled exe place count names ++ rest) ≡ program_headers exe
  programs_same =
      (λ i. records program_header_at 56 (count_same i) (place_same i) (retabled exe place count names ++ rest))
      ∙ table_same (program_count exe) refl

  -- ---- the image

  segment_same : (p : ProgramHeader) → is_behind_header exe p ≡ true → segment_in (retabled exe place count names ++ rest) p ≡ segment_in exe p
  segment_same p h =
      let bytes : take p.p_filesz (drop p.p_offset (retabled exe place count names ++ rest)) ≡ take p.p_filesz (drop p.p_offset exe) =
      elim (cases_Bool (p.p_filesz == 0)) [
        | inl e ↦
            let none : p.p_filesz ≡ 0 = eqb-true p.p_filesz 0 e in
            ap (λ n. take n (drop p.p_offset (retabled exe place count names ++ rest))) none ∙ sym (ap (λ n. take n (drop p.p_offset exe)) none)
        | inr e ↦
            let both = behind p e h in
            kept_bytes exe rest place count names long p.p_offset p.p_filesz both.0 both.1
      ] in
      (λ i. record { address = p.p_vaddr; bytes = bytes i ++ replicate (p.p_memsz - p.p_filesz) 0; flags = p.p_flags })
    where
      behind : (p : ProgramHeader) → (p.p_filesz == 0) ≡ false → is_behind_header exe p ≡ true →
          (64 ≤ p.p_offset) × (p.p_offset + p.p_filesz ≤ length exe)
      behind p e h = (grind (arith, nat_tests), grind (arith, nat_tests))

  segments_same : (ps : List ProgramHeader) → list_all (is_behind_header exe) ps ≡ true →
      map (segment_in (retabled exe place count names ++ rest)) (filter is_load ps) ≡ map (segment_in exe) (filter is_load ps)
  segments_same [] h = refl
  segments_same (p ∷ ps) h =
      let both = and_parts (is_behind_header exe p) (list_all (is_behind_header exe) ps) h in
      step (is_load p) p (filter is_load ps) (segment_same p both.0) (segments_same ps both.1)
    where
      step : (b : Bool) (p : ProgramHeader) (ps : List ProgramHeader) → segment_in (retabled exe place count names ++ rest) p ≡ segment_in exe p →
          map (segment_in (retabled exe place count names ++ rest)) ps ≡ map (segment_in exe) ps →
          map (segment_in (retabled exe place count names ++ rest)) (cond b (p ∷ ps) ps) ≡ map (segment_in exe) (cond b (p ∷ ps) ps)
      step true p ps one others = (λ i. one i ∷ others i)
      step false p ps one others = others

  pub same_image : (image : Image) → ImageOf exe image → ImageOf (retabled exe place count names ++ rest) image
  same_image image h =
      let all = (and_parts (program_count exe == 0 || nat_le 64 (number_in e_phoff 0 exe)) (list_all (is_behind_header exe) (program_headers exe)) grows).1 in
      record {
        magic = kept_low exe rest place count names long ei_magic (omega arith) ∙ h.magic;
        class = kept_low exe rest place count names long ei_class (omega arith) ∙ h.class;
        order = kept_low exe rest place count names long ei_data (omega arith) ∙ h.order;
        version = kept_low exe rest place count names long ei_version (omega arith) ∙ h.version;
        executable = kept_low exe rest place count names long e_type (omega arith) ∙ h.executable;
        riscv = kept_low exe rest place count names long e_machine (omega arith) ∙ h.riscv;
        entry = h.entry ∙ sym (kept_low exe rest place count names long e_entry (omega arith));
        segments = h.segments
            ∙ sym (ap (λ ps. map (segment_in (retabled exe place count names ++ rest)) (filter is_load ps)) programs_same ∙ segments_same (program_headers exe) all);
      }

  -- ---- faults

  header_none : first_true (header_tests exe) ≡ None → first_true (header_tests (retabled exe place count names ++ rest)) ≡ None
  unfolding header_tests
  header_none h =
      let size : nat_lt (length (retabled exe place count names ++ rest)) 64 ≡ nat_lt (length exe) 64 =
      le-ltb (length (retabled exe place count names ++ rest)) 64 (omega (arith, long, longer)) ∙ sym (le-ltb (length exe) 64 long) in
      let magic = kept_low exe rest place count names long ei_magic (omega arith) in
      let class = kept_low exe rest place count names long ei_class (omega arith) in
      let order = kept_low exe rest place count names long ei_data (omega arith) in
      let version = kept_low exe rest place count names long ei_version (omega arith) in
      let machine = kept_low exe rest place count names long e_machine (omega arith) in
      let flags = kept_middle exe rest place count names long e_flags (omega arith) (omega arith) in
      (λ i. first_true ((size i, Truncated) ∷ (not (magic i == elfmag), BadMagic)
      ∷ (not (class i == elfclass64 && order i == elfdata2lsb && version i == ev_current), WrongClass)
      ∷ (not (machine i == em_riscv), WrongMachine) ∷ (not (flags i / 2 % 8 == 0), WrongMachine) ∷ []))
      ∙ h

  type_none : first_true (type_tests exe) ≡ None → first_true (type_tests (retabled exe place count names ++ rest)) ≡ None
  unfolding type_tests
  type_none h =
      let kind = kept_low exe rest place count names long e_type (omega arith) in
      (λ i. first_true ((not (kind i == et_exec), NotExecutable) ∷ [])) ∙ h

  table_none : first_true (table_tests (retabled exe place count names ++ rest)) ≡ None
  unfolding table_tests
  table_none =
      let file = retabled exe place count names ++ rest in
      let number : section_count file ≡ count = shnum_is exe rest place count names long (omega (arith, few)) in
      let index : names_section file ≡ names = shstrndx_is exe rest place count names long (omega (arith, few, named)) in
      let many : nat_le shn_loreserve (section_count file) ≡ false = ap (nat_le shn_loreserve) number ∙ grind (arith, nat_tests) in
      let programs_few : (program_count file == pn_xnum) ≡ false = ap (λ n. n == pn_xnum) count_same ∙ fine.few in
      let width = kept_middle exe rest place count names long e_phentsize (omega arith) (omega arith) in
      let size : (not (program_count file == 0) && not (number_in e_phentsize 0 file == 56)) ≡ false =
      (λ i. not (count_same i == 0) && not (width i == 56)) ∙ fine.size in
      let section_size : (not (section_count file == 0) && not (number_in e_shentsize 0 file == 64)) ≡ false =
      and_right (not (section_count file == 0)) (not (number_in e_shentsize 0 file == 64)) (ap (λ n. not (n == 64)) (shentsize_is exe rest place count names long)) in
      let index_inside : (not (names_section file == 0) && nat_le (section_count file) (names_section file)) ≡ false =
      and_right (not (names_section file == 0)) (nat_le (section_count file) (names_section file))
      ((λ i. nat_le (number i) (index i)) ∙ grind (arith, nat_tests)) in
      let programs : is_past file (number_in e_phoff 0 file) (56 * program_count file) ≡ false =
      (λ i. is_past file (place_same i) (56 * count_same i))
      ∙ past_longer exe file (number_in e_phoff 0 exe) (56 * program_count exe) longer fine.programs in
      let start = shoff_is exe rest place count names long small in
      let sections : is_past file (number_in e_shoff 0 file) (64 * section_count file) ≡ false =
      (λ i. is_past file (start i) (64 * number i)) ∙ not_past file place (64 * count) room in
      (λ i. first_true ((many i, BadTable) ∷ (programs_few i, BadTable) ∷ (size i, BadTable) ∷ (section_size i, BadTable) ∷ (index_inside i, BadTable)
      ∷ (programs i, Truncated) ∷ (sections i, Truncated) ∷ []))

  program_none : (before : List ProgramHeader) (p : ProgramHeader) → first_true (program_tests exe before p) ≡ None →
      first_true (program_tests (retabled exe place count names ++ rest) before p) ≡ None
  unfolding program_tests
  program_none before p h =
      let tail : List (Bool × FileFault) = (is_dynamic p, Dynamic) ∷ cond (is_load p) (segment_tests before p) [] in
      let parts = first_none (is_past exe p.p_offset p.p_filesz) Truncated tail h in
      let past = past_longer exe (retabled exe place count names ++ rest) p.p_offset p.p_filesz longer parts.0 in
      (λ i. first_true ((past i, Truncated) ∷ tail)) ∙ parts.1

  programs_none : (before ps : List ProgramHeader) → first_true (programs_tests exe before ps) ≡ None →
      first_true (programs_tests (retabled exe place count names ++ rest) before ps) ≡ None
  programs_none before [] h = refl
  programs_none before (p ∷ ps) h =
      let file = retabled exe place count names ++ rest in
      let parts = no_fault_parts (program_tests exe before p) (programs_tests exe (before ++ p ∷ []) ps) h in
      first_true_none (program_tests file before p) (programs_tests file (before ++ p ∷ []) ps) (program_none before p parts.0)
      ∙ programs_none (before ++ p ∷ []) ps parts.1

  whole_none : first_true (whole_tests exe) ≡ None → first_true (whole_tests (retabled exe place count names ++ rest)) ≡ None
  unfolding whole_tests
  whole_none h =
      let entry = kept_low exe rest place count names long e_entry (omega arith) in
      (λ i. first_true ((not (entry i % 2 == 0), BadTable) ∷ (nat_lt memory_limit (loaded_size (programs_same i)), MemoryLimit) ∷ [])) ∙ h

  pub same_soundness : first_fault exe ≡ None → first_fault (retabled exe place count names ++ rest) ≡ None
  unfolding load_tests
  same_soundness h =
      let file = retabled exe place count names ++ rest in
      let ps = program_headers exe in
      let one = no_fault_parts (header_tests exe) (type_tests exe ++ (table_tests exe ++ (programs_tests exe [] ps ++ whole_tests exe))) h in
      let two = no_fault_parts (type_tests exe) (table_tests exe ++ (programs_tests exe [] ps ++ whole_tests exe)) one.1 in
      let three = no_fault_parts (table_tests exe) (programs_tests exe [] ps ++ whole_tests exe) two.1 in
      let four = no_fault_parts (programs_tests exe [] ps) (whole_tests exe) three.1 in
      let programs : first_true (programs_tests file [] (program_headers file)) ≡ None =
      ap (λ qs. first_true (programs_tests file [] qs)) programs_same ∙ programs_none [] ps four.0 in
      first_true_none (header_tests file) (type_tests file ++ (table_tests file ++ (programs_tests file [] (program_headers file) ++ whole_tests file))) (header_none one.0)
      ∙ first_true_none (type_tests file) (table_tests file ++ (programs_tests file [] (program_headers file) ++ whole_tests file)) (type_none two.0)
      ∙ first_true_none (table_tests file) (programs_tests file [] (program_headers file) ++ whole_tests file) table_none
      ∙ first_true_none (programs_tests file [] (program_headers file)) (whole_tests file) programs
      ∙ whole_none four.1
