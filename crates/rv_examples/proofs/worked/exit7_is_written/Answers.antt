use Rattle.std.proofs.Common.{refl}
use Rattle.rv_elf_laws.specs.Records.{file_header_bytes, program_header_bytes}
use Rattle.rv_examples.proofs.worked.exit7_is_written.Goals as goal

pub returns : goal.returns
unfolding file_header_bytes program_header_bytes
returns c = record { bytes = refl; size = refl }
