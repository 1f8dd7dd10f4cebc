-- Program headers that were written are read back.

use Rattle.std.proofs.Common.{◌≡◌, ℕ, ◌+◌, ◌*◌, List, [], ◌∷◌, ◌++◌, length, drop, map, refl, ap, sym, ◌∙◌, append_assoc, arith, flat_map}
use Rattle.std.proofs.lemmas.List.{drop-drop}
use Rattle.rv_elf_laws.specs.Records.{program_header_bytes}
use Rattle.rv_elf_laws.specs.ReadBack.{FitsProgramHeader, program_header_there}
use Rattle.rv_image_laws.specs.FirstFault.{programs_from}
use Rattle.rv_image_laws.specs.Executable.{Part, program_of, program_bytes}

next_read : (start : ℕ) (part : Part) (rest : List ℕ) → drop 56 (program_bytes start part ++ rest) ≡ rest
unfolding program_header_bytes
next_read start part rest = refl

-- each of the parts fits
abbrev pub AllFit : ℕ → List Part → Type 0
AllFit start [] = Unit {0}
AllFit start (part ∷ parts) = FitsProgramHeader (program_of start part) × AllFit start parts

-- the program headers at a place where those of the parts were written
pub programs_read : (start : ℕ) (parts : List Part) (rest : List ℕ) (place : ℕ) (file : List ℕ) → AllFit start parts →
    drop place file ≡ flat_map (program_bytes start) parts ++ rest → programs_from (length parts) place file ≡ map (program_of start) parts
programs_read start [] rest place file fits here = refl
programs_read start (part ∷ parts) rest place file fits here =
    let behind = flat_map (program_bytes start) parts ++ rest in
    let front : drop place file ≡ program_bytes start part ++ behind = here ∙ append_assoc (program_bytes start part) (flat_map (program_bytes start) parts) rest in
    let next : drop (place + 56) file ≡ behind = sym (drop-drop 56 place file) ∙ ap (drop 56) front ∙ next_read start part behind in
    (λ i. program_header_there (program_of start part) place file behind fits.0 front i ∷ programs_read start parts rest (place + 56) file fits.1 next i)

-- the program headers have 56 bytes each
pub length-programs : (start : ℕ) (parts : List Part) → length (flat_map (program_bytes start) parts) ≡ 56 * length parts
unfolding program_header_bytes
length-programs start [] = refl
length-programs start (part ∷ parts) = omega (arith, length-programs start parts)
