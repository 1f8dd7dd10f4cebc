-- The sections of a file, by their indices.

use Rattle.std.proofs.Common.{◌≡◌, ℕ, zero, suc, ◌+◌, ◌*◌, ◌-◌, ◌<◌, Bool, false, List, ◌∷◌, drop, refl, ap, ◌∙◌, arith}
use Rattle.rv_object_reader.specs.SectionsFrom.{from_cut}
use Rattle.std.specs.List.{find}
use Rattle.std.proofs.lemmas.Bool.{cond-false}
use Rattle.rv_elf_laws.specs.Fields.{number_in, e_shoff, section_header_size}
use Rattle.rv_elf_laws.specs.Records.{section_header_at}
use Rattle.rv_elf_laws.specs.Sections.{records, section_count}
use Rattle.rv_object_file_laws.specs.Parts.{FileSection, numbered, sections}
use Rattle.rv_object_reader.specs.Found.{section_at, sections_from}

numbered_from : (file : List ℕ) (n i place : ℕ) → place ≡ number_in e_shoff 0 file + section_header_size * i →
    numbered i (records section_header_at section_header_size n place file) ≡ sections_from file n i
numbered_from file zero i place at = refl
numbered_from file (suc n) i place at =
    let next : place + 64 ≡ number_in e_shoff 0 file + 64 * suc i = omega arith in
    ap (λ p. record { index = i; header = section_header_at p file } ∷ numbered (suc i) (records section_header_at 64 n (place + 64) file)) at
    ∙ ap (λ ss. section_at file i ∷ ss) (numbered_from file n (suc i) (place + 64) next)

behind_first : (file : List ℕ) (n : ℕ) → drop 1 (sections_from file n 0) ≡ sections_from file (n - 1) 1
behind_first file zero = refl
behind_first file (suc n) = let same : suc n - 1 ≡ n = omega arith in rw same refl

pub sections_are : (file : List ℕ) → sections file ≡ sections_from file (section_count file - 1) 1
sections_are file =
    ap (λ ss. drop 1 ss) (numbered_from file (section_count file) 0 (number_in e_shoff 0 file) (omega arith))
    ∙ behind_first file (section_count file)

-- a search, one section further
pub find_past : (P : FileSection → Bool) (file : List ℕ) (n i : ℕ) → i < n → P (section_at file (i + 1)) ≡ false →
    find P (sections_from file (n - i) (i + 1)) ≡ find P (sections_from file (n - (i + 1)) (i + 1 + 1))
find_past P file n i below other = ap (find P) (from_cut file n i below) ∙ cond-false _ _ _ other

pub all_are : (file : List ℕ) → sections file ≡ sections_from file (section_count file - 1 - 0) 1
all_are file = let same : section_count file - 1 - 0 ≡ section_count file - 1 = omega arith in rw same (sections_are file)
