-- What follows from the definitions of Records, for all who cite them.

use Rattle.std.proofs.Common.{◌≡◌, length, refl}
use Rattle.rv_elf_laws.specs.declared.file_header.FileHeader.{FileHeader}
use Rattle.rv_elf_laws.specs.Records.{file_header_bytes}

pub length-file_header : (h : FileHeader) → length (file_header_bytes h) ≡ 64
unfolding file_header_bytes
length-file_header h = refl
