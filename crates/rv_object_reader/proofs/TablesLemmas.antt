-- The tables of a file without a fault.

use Rattle.std.proofs.Common.{◌≡◌, ℕ, ◌<◌, ◌==◌, nat_le, false, not, ◌&&◌, List, None, arith}
use Rattle.std.proofs.lemmas.Bool.Decides.{nat_tests}
use Rattle.rv_elf_laws.specs.FirstFault.{table_tests}
use Rattle.rv_elf_laws.specs.Sections.{section_count, names_section}
use Rattle.rv_object_file_laws.specs.FirstFault.{first_fault}
use Rattle.rv_object_reader.proofs.FirstTrueLemmas.{all_false}
use Rattle.rv_object_reader.proofs.WalkLemmas.{fine}

below_by : (names count : ℕ) → (not (names == 0) && nat_le count names) ≡ false → (names ≡ 0 → ⊥) → names < count
below_by names count e some = grind (arith, nat_tests)

-- the section of the names is one of the sections
pub names_within : (file : List ℕ) → first_fault file ≡ None → (names_section file ≡ 0 → ⊥) → names_section file < section_count file
unfolding table_tests
names_within file none some =
    let a = all_false (table_tests file) (fine file none).tables in
    below_by (names_section file) (section_count file) a.1.1.1.1.0 some

few_by : (count : ℕ) → nat_le 0xFF00 count ≡ false → count < 0x10000
few_by count e = grind (arith, nat_tests)

-- a section's index has 16 bits
pub few_sections : (file : List ℕ) → first_fault file ≡ None → section_count file < 0x10000
unfolding table_tests
few_sections file none = few_by (section_count file) (all_false (table_tests file) (fine file none).tables).0
