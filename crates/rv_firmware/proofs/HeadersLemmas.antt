-- The program headers from one on.

use Rattle.std.proofs.Common.{◌≡◌, ◌∙◌, ℕ, suc, ◌+◌, ◌*◌, ◌-◌, ◌<◌, Bool, true, false, ◌&&◌, ◌||◌, List, [], ◌∷◌, ◌++◌, map, filter, ap, arith, None, refl}
use Rattle.std.specs.List.{list_any, list_all}
use Rattle.std.proofs.lemmas.List.{map-append}
use Rattle.std.proofs.lemmas.List.Elements.{filter-append}
use Rattle.rv_fault.specs.declared.file_fault.FileFault.TheVariants.{Truncated}
use Rattle.rv_elf_laws.specs.declared.program_header.ProgramHeader.{ProgramHeader}
use Rattle.rv_elf_laws.specs.Records.{program_header_at}
use Rattle.rv_elf_laws.specs.FirstFault.{first_true, header_tests, open_tests, type_tests}
use Rattle.rv_elf_laws.specs.FirstTrue.{no_fault_parts}
use Rattle.rv_elf_laws.specs.Sections.{records, program_headers}
use Rattle.rv_firmware.specs.Blocks.{Block}
use Rattle.rv_firmware.specs.FirmwareOf.{is_flashed, is_cut, block_in, firmware_tests, contents_tests}

abbrev pub headers_from : ℕ → ℕ → List ℕ → List ProgramHeader
headers_from count place file = records program_header_at 56 count place file

-- the headers from one on are that one and those after it
pub headers_cut : (count i place : ℕ) (file : List ℕ) → i < count →
    headers_from (count - i) (place + 56 * i) file
    ≡ program_header_at (place + 56 * i) file ∷ headers_from (count - (i + 1)) (place + 56 * (i + 1)) file
headers_cut count i place file below =
    let left : count - i ≡ suc (count - (i + 1)) = omega arith in
    let next : place + 56 * i + 56 ≡ place + 56 * (i + 1) = omega arith in
    ap (λ n. headers_from n (place + 56 * i) file) left
    ∙ ap (λ p. program_header_at (place + 56 * i) file ∷ headers_from (count - (i + 1)) p file) next

pub any_cut : (test : ProgramHeader → Bool) (count i place : ℕ) (file : List ℕ) → i < count →
    list_any test (headers_from (count - i) (place + 56 * i) file)
    ≡ (test (program_header_at (place + 56 * i) file) || list_any test (headers_from (count - (i + 1)) (place + 56 * (i + 1)) file))
any_cut test count i place file below = ap (list_any test) (headers_cut count i place file below)

pub all_cut : (test : ProgramHeader → Bool) (count i place : ℕ) (file : List ℕ) → i < count →
    list_all test (headers_from (count - i) (place + 56 * i) file)
    ≡ (test (program_header_at (place + 56 * i) file) && list_all test (headers_from (count - (i + 1)) (place + 56 * (i + 1)) file))
all_cut test count i place file below = ap (list_all test) (headers_cut count i place file below)

abbrev pub kept : List ℕ → List ProgramHeader → List Block
kept file ps = map (block_in file) (filter is_flashed ps)

pub kept_cut : (count i place : ℕ) (file : List ℕ) → i < count →
    kept file (headers_from (count - i) (place + 56 * i) file)
    ≡ kept file (program_header_at (place + 56 * i) file ∷ []) ++ kept file (headers_from (count - (i + 1)) (place + 56 * (i + 1)) file)
kept_cut count i place file below =
    let here = program_header_at (place + 56 * i) file in
    let rest = headers_from (count - (i + 1)) (place + 56 * (i + 1)) file in
    ap (kept file) (headers_cut count i place file below)
    ∙ ap (map (block_in file)) (filter-append is_flashed (here ∷ []) rest)
    ∙ map-append (block_in file) (filter is_flashed (here ∷ [])) (filter is_flashed rest)

-- in a file without a fault no contents lie past its end
pub none_is_cut : (file : List ℕ) → first_true (firmware_tests file) ≡ None → list_any (is_cut file) (program_headers file) ≡ false
unfolding firmware_tests contents_tests
none_is_cut file h =
    let rest = (no_fault_parts (header_tests file) (type_tests file ++ (open_tests file ++ contents_tests file)) h).1 in
    let more = (no_fault_parts (type_tests file) (open_tests file ++ contents_tests file) rest).1 in
    last (list_any (is_cut file) (program_headers file)) (no_fault_parts (open_tests file) (contents_tests file) more).1
  where
    last : (any : Bool) → first_true ((any, Truncated) ∷ []) ≡ None → any ≡ false
    last false e = refl
    last true e = cc
