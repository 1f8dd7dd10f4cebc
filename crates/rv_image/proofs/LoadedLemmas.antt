-- What follows where a file has no fault.

use Rattle.std.proofs.Common.{◌≡◌, zero-add, if◌then◌else◌, ℕ, zero, suc, ◌+◌, ◌*◌, ◌-◌, ◌≤◌, ◌<◌, ◌^◌, Bool, true, false, List, [], ◌∷◌, ◌++◌, map, filter, None, refl, ap, sym, ◌∙◌, arith, sum_by}
use Rattle.std.proofs.lemmas.Bool.{cond-true, cond-false, eq-eqb}
use Rattle.std.proofs.lemmas.Bool.Decides.{nat_tests}
use Rattle.std.proofs.lemmas.List.{map-append}
use Rattle.std.proofs.lemmas.List.Elements.{filter-append}
use Rattle.rv_fault.specs.declared.file_fault.FileFault.TheVariants.{Truncated, Dynamic}
use Rattle.std.proofs.lemmas.List.Sums.{sum_by-cons}
use Rattle.rv_elf_laws.specs.declared.program_header.ProgramHeader.{ProgramHeader}
use Rattle.rv_elf_laws.specs.Records.{program_header_at}
use Rattle.rv_elf_laws.specs.Sections.{is_load, is_past}
use Rattle.rv_image_laws.specs.ImageOf.{segment_in}
use Rattle.rv_elf_laws.specs.FirstFault.{first_true}
use Rattle.rv_image_laws.specs.FirstFault.{is_dynamic, programs_tests, program_tests, segment_tests, IsLoadable, loaded_size, programs_from}
use Rattle.rv_image.proofs.ProgramsLemmas.{programs_from_cut}
use Rattle.rv_elf_laws.specs.FirstTrue.{no_fault_parts}

-- the tests of what is loaded, all false
segment_fits : (before : List ProgramHeader) (p : ProgramHeader) → first_true (segment_tests before p) ≡ None → (p.p_filesz ≤ p.p_memsz) × (p.p_vaddr + p.p_memsz ≤ 2 ^ 64)
unfolding segment_tests
segment_fits before p h = grind (arith, nat_tests)

-- the tests of one program header, all false
pub program_fits : (file : List ℕ) (before : List ProgramHeader) (p : ProgramHeader) → first_true (program_tests file before p) ≡ None →
    (is_past file p.p_offset p.p_filesz ≡ false) × (p.p_type ≡ 1 → first_true (segment_tests before p) ≡ None)
unfolding program_tests
program_fits file before p h = go (is_past file p.p_offset p.p_filesz) refl (is_dynamic p) refl h
  where
    go : (a : Bool) → is_past file p.p_offset p.p_filesz ≡ a → (b : Bool) → is_dynamic p ≡ b →
        first_true ((a, Truncated) ∷ (b, Dynamic) ∷ (if is_load p then segment_tests before p else [])) ≡ None →
        (is_past file p.p_offset p.p_filesz ≡ false) × (p.p_type ≡ 1 → first_true (segment_tests before p) ≡ None)
    go false e false f none = (e, λ load. ap first_true (sym (cond-true (is_load p) (segment_tests before p) [] (eq-eqb p.p_type 1 load))) ∙ none)
    go false e true f none = cc
    go true e b f none = cc

pub program_loadable : (file : List ℕ) (before : List ProgramHeader) (p : ProgramHeader) → first_true (program_tests file before p) ≡ None → IsLoadable file p
program_loadable file before p h =
    let fits = program_fits file before p h in
    record { within = fits.0; stored = λ load. (segment_fits before p (fits.1 load)).0; ends = λ load. (segment_fits before p (fits.1 load)).1 }

pub programs_loadable : (file : List ℕ) (before : List ProgramHeader) (count place : ℕ) → first_true (programs_tests file before (programs_from count place file)) ≡ None →
    (i : ℕ) → i < count → IsLoadable file (program_header_at (place + 56 * i) file)
programs_loadable file before zero place h i below = absurd (omega arith)
programs_loadable file before (suc count) place h zero below =
    let same : place + 56 * 0 ≡ place = omega arith in
    let here = program_header_at place file in
    let fine = no_fault_parts (program_tests file before here) (programs_tests file (before ++ here ∷ []) (programs_from count (place + 56) file)) h in
    rw same (program_loadable file before here fine.0)
programs_loadable file before (suc count) place h (suc i) below =
    let same : place + 56 * suc i ≡ place + 56 + 56 * i = omega arith in
    let here = program_header_at place file in
    let fine = no_fault_parts (program_tests file before here) (programs_tests file (before ++ here ∷ []) (programs_from count (place + 56) file)) h in
    rw same (programs_loadable file (before ++ here ∷ []) count (place + 56) fine.1 i (omega arith))

pub loaded_cons : (p : ProgramHeader) (ps : List ProgramHeader) → loaded_size (p ∷ ps) ≡ loaded_size (p ∷ []) + loaded_size ps
loaded_cons p ps = go (is_load p) refl
  where
    go : (load : Bool) → is_load p ≡ load → loaded_size (p ∷ ps) ≡ loaded_size (p ∷ []) + loaded_size ps
    go true e = rw (cond-true (is_load p) (p ∷ filter is_load ps) (filter is_load ps) e, cond-true (is_load p) (p ∷ []) [] e)
        (sum_by-cons (λ q. q.p_memsz) p (filter is_load ps) ∙ ap (λ n. n + sum_by (λ q. q.p_memsz) (filter is_load ps)) (sym (zero-add p.p_memsz)))
    go false e = rw (cond-false (is_load p) (p ∷ filter is_load ps) (filter is_load ps) e, cond-false (is_load p) (p ∷ []) [] e) (sym (zero-add _))

-- the memory of the table from the header i on, and of those after it
pub loaded_step : (count i place : ℕ) (file : List ℕ) → i < count →
    loaded_size (programs_from (count - i) (place + 56 * i) file)
    ≡ loaded_size (program_header_at (place + 56 * i) file ∷ []) + loaded_size (programs_from (count - (i + 1)) (place + 56 * (i + 1)) file)
loaded_step count i place file below =
    ap loaded_size (programs_from_cut count i place file below) ∙ loaded_cons (program_header_at (place + 56 * i) file) (programs_from (count - (i + 1)) (place + 56 * (i + 1)) file)

filter_cons : (p : ProgramHeader) (ps : List ProgramHeader) → filter is_load (p ∷ ps) ≡ filter is_load (p ∷ []) ++ filter is_load ps
filter_cons p ps = filter-append is_load (p ∷ []) ps

-- the segments of the table from the header i on, and of those after it
pub segments_step : (count i place : ℕ) (file : List ℕ) → i < count →
    map (segment_in file) (filter is_load (programs_from (count - i) (place + 56 * i) file))
    ≡ map (segment_in file) (filter is_load (program_header_at (place + 56 * i) file ∷ [])) ++ map (segment_in file) (filter is_load (programs_from (count - (i + 1)) (place + 56 * (i + 1)) file))
segments_step count i place file below =
    let here = program_header_at (place + 56 * i) file in
    let rest = programs_from (count - (i + 1)) (place + 56 * (i + 1)) file in
    ap (λ ps. map (segment_in file) (filter is_load ps)) (programs_from_cut count i place file below)
    ∙ ap (map (segment_in file)) (filter_cons here rest) ∙ map-append (segment_in file) (filter is_load (here ∷ [])) (filter is_load rest)
