-- What the tests of a whole file say.

use Rattle.std.proofs.Common.{◌≡◌, ℕ, ◌%◌, ◌≤◌, List, [], None, arith}
use Rattle.std.proofs.lemmas.Bool.Decides.{nat_tests}
use Rattle.rv_isa_laws.specs.Platform.{memory_limit}
use Rattle.rv_elf_laws.specs.Sections.{program_headers}
use Rattle.rv_elf_laws.specs.Fields.{number_in, ei_magic, ei_class, ei_data, ei_version, e_type, e_machine, e_entry}
use Rattle.rv_elf_laws.specs.Numbers.{elfmag, elfclass64, elfdata2lsb, ev_current, et_exec, em_riscv}
use Rattle.rv_elf_laws.specs.FirstFault.{first_true, header_tests, table_tests, type_tests}
use Rattle.rv_image_laws.specs.FirstFault.{load_tests, programs_tests, whole_tests, loaded_size}
use Rattle.rv_elf_laws.specs.FirstTrue.{no_fault_parts}

pub record HeaderSays (file : List ℕ) : Type 0 where
  pub magic : number_in ei_magic 0 file ≡ elfmag
  pub class : number_in ei_class 0 file ≡ elfclass64
  pub order : number_in ei_data 0 file ≡ elfdata2lsb
  pub version : number_in ei_version 0 file ≡ ev_current
  pub riscv : number_in e_machine 0 file ≡ em_riscv

pub header_says : (file : List ℕ) → first_true (header_tests file) ≡ None → HeaderSays file
unfolding header_tests
header_says file h = record {
  magic = grind (arith, nat_tests);
  class = grind (arith, nat_tests);
  order = grind (arith, nat_tests);
  version = grind (arith, nat_tests);
  riscv = grind (arith, nat_tests);
}

pub whole_says : (file : List ℕ) → first_true (whole_tests file) ≡ None → (number_in e_entry 0 file % 2 ≡ 0) × (loaded_size (program_headers file) ≤ memory_limit)
unfolding whole_tests
whole_says file h = (grind (arith, nat_tests), grind (arith, nat_tests))

pub type_says : (file : List ℕ) → first_true (type_tests file) ≡ None → number_in e_type 0 file ≡ et_exec
unfolding type_tests
type_says file h = grind (arith, nat_tests)

-- each part of the tests of a file without a fault
pub record Parts (file : List ℕ) : Type 0 where
  pub header : first_true (header_tests file) ≡ None
  pub executable : first_true (type_tests file) ≡ None
  pub programs : first_true (programs_tests file [] (program_headers file)) ≡ None
  pub whole : first_true (whole_tests file) ≡ None

pub parts : (file : List ℕ) → first_true (load_tests file) ≡ None → Parts file
unfolding load_tests
parts file h =
    let one = no_fault_parts (header_tests file) _ h in
    let two = no_fault_parts (type_tests file) _ one.1 in
    let three = no_fault_parts (table_tests file) _ two.1 in
    let four = no_fault_parts (programs_tests file [] (program_headers file)) (whole_tests file) three.1 in
    record { header = one.0; executable = two.0; programs = four.0; whole = four.1 }
