use Rattle.std.proofs.Common.{refl}
use Rattle.rv_elf_laws.specs.Fields.{number_in}
use Rattle.rv_elf_laws.specs.FirstFault.{header_tests, table_tests, type_tests}
use Rattle.rv_image_laws.specs.FirstFault.{segment_tests, program_tests, whole_tests, load_tests}
use Rattle.rv_examples.proofs.worked.exit7_loads.Goals as goal

pub returns : goal.returns
unfolding number_in header_tests table_tests type_tests segment_tests program_tests whole_tests load_tests
returns c = record {
  image = record { magic = refl; class = refl; order = refl; version = refl; executable = refl; riscv = refl; entry = refl; segments = refl };
  accepted = refl;
}
