-- The headers of a file, one after another.

use Rattle.std.proofs.Common.{◌≡◌, ℕ, suc, ◌+◌, ◌*◌, ◌-◌, ◌<◌, List, [], ◌++◌, flat_map, ap, ◌∙◌, sym, append-nil, arith}
use Rattle.rv_list_laws.proofs.ElementsLemmas.{append_some_more}
use Rattle.rv_elf_laws.specs.Fields.{number_in, e_shoff}
use Rattle.rv_elf_laws.specs.Records.{section_header_at, section_header_bytes}
use Rattle.rv_elf_laws.specs.Sections.{records, section_count, section_header_of}
use Rattle.rv_object_laws.specs.Object.{Section}
use Rattle.rv_debug_sources.specs.Unloaded.{headers_bytes, unloaded_headers, unloaded_header}

-- so many headers from a place on, of sections from an index on
abbrev pub headers_at : List Section → List ℕ → (count index place : ℕ) → List ℕ
headers_at own file count index place =
    flat_map section_header_bytes (unloaded_headers own index (records section_header_at 64 count place file))

-- those from an index on
abbrev pub headers_left : List Section → List ℕ → ℕ → List ℕ
headers_left own file i = headers_at own file (section_count file - i) i (number_in e_shoff 0 file + 64 * i)

pub headers_all : (own : List Section) (file : List ℕ) → headers_left own file 0 ≡ headers_bytes own file
headers_all own file =
    let count : section_count file - 0 ≡ section_count file = omega arith in
    let place : number_in e_shoff 0 file + 64 * 0 ≡ number_in e_shoff 0 file = omega arith in
    ap (λ n. headers_at own file n 0 (number_in e_shoff 0 file + 64 * 0)) count
    ∙ ap (λ at. headers_at own file (section_count file) 0 at) place

-- one more header
pub headers_step : (own : List Section) (file : List ℕ) (i : ℕ) (out new whole : List ℕ) → i < section_count file →
    new ≡ out ++ section_header_bytes (unloaded_header own i (section_header_of file i)) → out ++ headers_left own file i ≡ whole → new ++ headers_left own file (i + 1) ≡ whole
headers_step own file i out new whole below more so_far =
    let at = number_in e_shoff 0 file in
    let one = section_header_bytes (unloaded_header own i (section_header_of file i)) in
    let left : section_count file - i ≡ suc (section_count file - (i + 1)) = omega arith in
    let place : at + 64 * i + 64 ≡ at + 64 * (i + 1) = omega arith in
    let index : suc i ≡ i + 1 = omega arith in
    let next : headers_left own file i ≡ one ++ headers_left own file (i + 1) =
    ap (λ n. headers_at own file n i (at + 64 * i)) left
    ∙ ap (λ p. one ++ headers_at own file (section_count file - (i + 1)) (suc i) p) place
    ∙ ap (λ n. one ++ headers_at own file (section_count file - (i + 1)) n (at + 64 * (i + 1))) index in
    append_some_more out new one (headers_left own file (i + 1)) (headers_left own file i) whole more next so_far

-- no more headers
pub headers_ended : (own : List Section) (file : List ℕ) (i : ℕ) (out whole : List ℕ) → section_count file - i ≡ 0 → out ++ headers_left own file i ≡ whole → out ≡ whole
headers_ended own file i out whole ended so_far =
    let none : headers_left own file i ≡ [] = ap (λ n. headers_at own file n i (number_in e_shoff 0 file + 64 * i)) ended in
    sym (append-nil out) ∙ ap (λ l. out ++ l) (sym none) ∙ so_far
