use Rattle.std.proofs.Common.{◌≡◌, ◌++◌, Some, rules}
use Rattle.rv_elf_laws.specs.FirstFault.{first_true, header_tests, open_tests, type_tests}
use Rattle.rv_elf_laws.specs.FirstTrue.{first_true_some}
use Rattle.rv_firmware.specs.FirmwareOf.{firmware_tests, contents_tests}
use Rattle.rv_firmware.proofs.firmware.open.Goals as goal

pub returns-in_err-file_type-clause-faults : goal.returns-in_err-file_type-clause-faults
unfolding firmware_tests
returns-in_err-file_type-clause-faults c =
    let file = c.args.file.now in
    let first : first_true (header_tests file ++ (type_tests file ++ (open_tests file ++ contents_tests file))) ≡ Some c.in_err-file_type.field-0.0 =
    first_true_some (header_tests file) (type_tests file ++ (open_tests file ++ contents_tests file)) _ c.in_err-file_type.ensures.faults in
    search rules
