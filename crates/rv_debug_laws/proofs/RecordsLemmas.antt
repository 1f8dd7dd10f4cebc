-- Tables of records that were written are read again.

use Rattle.std.proofs.Common.{◌≡◌, ◌∙◌, ℕ, ◌+◌, ◌*◌, ◌/◌, List, [], ◌∷◌, ◌++◌, length, drop, flat_map, refl, ap, sym, append_assoc, append-nil, arith}
use Rattle.std.specs.List.{AllByRecursion}
use Rattle.std.proofs.lemmas.List.{drop-drop, drop_at, length-append}
use Rattle.rv_elf_laws.specs.declared.section_header.SectionHeader.{SectionHeader}
use Rattle.rv_elf_laws.specs.declared.symbol.Symbol.{Symbol}
use Rattle.rv_elf_laws.specs.ReadBack.{FitsSectionHeader, FitsSymbol, section_header_there, symbol_there}
use Rattle.rv_elf_laws.specs.Records.{section_header_at, section_header_bytes, symbol_at, symbol_bytes}
use Rattle.rv_elf_laws.specs.Sections.{records, symbols_in}
use Rattle.rv_object_file_laws.proofs.RecordsLemmas.{length-section_header, length-symbol}

table_back : {X : Type 0} (record_at : ℕ → List ℕ → X) (size : ℕ) (bytes_of : X → List ℕ) (Fits : X → Type 0) →
    ((x : X) → length (bytes_of x) ≡ size) →
    ((x : X) (place : ℕ) (bytes rest : List ℕ) → Fits x → drop place bytes ≡ bytes_of x ++ rest → record_at place bytes ≡ x) →
    (xs : List X) (place : ℕ) (bytes rest : List ℕ) → AllByRecursion Fits xs → drop place bytes ≡ flat_map bytes_of xs ++ rest →
    records record_at size (length xs) place bytes ≡ xs
table_back record_at size bytes_of Fits len back [] place bytes rest fits here = refl
table_back record_at size bytes_of Fits len back (x ∷ xs) place bytes rest fits here =
    let whole : drop place bytes ≡ bytes_of x ++ (flat_map bytes_of xs ++ rest) = here ∙ append_assoc (bytes_of x) (flat_map bytes_of xs) rest in
    let first : record_at place bytes ≡ x = back x place bytes (flat_map bytes_of xs ++ rest) fits.0 whole in
    let next : drop (place + size) bytes ≡ flat_map bytes_of xs ++ rest =
    sym (drop-drop size place bytes) ∙ ap (drop size) whole ∙ drop_at (bytes_of x) (flat_map bytes_of xs ++ rest) size (len x) in
    let others = table_back record_at size bytes_of Fits len back xs (place + size) bytes rest fits.1 next in
    (λ i. first i ∷ others i)

-- section headers that stand at a place
pub headers_back : (hs : List SectionHeader) (place : ℕ) (file rest : List ℕ) → AllByRecursion FitsSectionHeader hs →
    drop place file ≡ flat_map section_header_bytes hs ++ rest → records section_header_at 64 (length hs) place file ≡ hs
headers_back = table_back section_header_at 64 section_header_bytes FitsSectionHeader length-section_header section_header_there

-- how long a table of symbols is
pub length-symbols : (ss : List Symbol) → length (flat_map symbol_bytes ss) ≡ 24 * length ss
length-symbols [] = refl
length-symbols (s ∷ ss) =
    let rest = length-symbols ss in
    let one = length-symbol s in
    omega (arith, length-append (symbol_bytes s) (flat_map symbol_bytes ss), rest, one)

-- symbols that are all there is
pub symbols_back : (ss : List Symbol) → AllByRecursion FitsSymbol ss → symbols_in (flat_map symbol_bytes ss) ≡ ss
symbols_back ss fits =
    let bytes = flat_map symbol_bytes ss in
    let count : length bytes / 24 ≡ length ss = ap (λ n. n / 24) (length-symbols ss) ∙ divided (length ss) in
    ap (λ n. records symbol_at 24 n 0 bytes) count
    ∙ table_back symbol_at 24 symbol_bytes FitsSymbol length-symbol symbol_there ss 0 bytes [] fits (sym (append-nil bytes))
  where
    divided : (n : ℕ) → 24 * n / 24 ≡ n
    divided n = omega arith

-- a section header and what is behind it
pub header_passed : (h : SectionHeader) (hs : List SectionHeader) (place : ℕ) (file rest : List ℕ) →
    drop place file ≡ flat_map section_header_bytes (h ∷ hs) ++ rest →
    (drop place file ≡ section_header_bytes h ++ (flat_map section_header_bytes hs ++ rest))
    × (drop (place + 64) file ≡ flat_map section_header_bytes hs ++ rest)
header_passed h hs place file rest here =
    let tail = flat_map section_header_bytes hs ++ rest in
    let whole : drop place file ≡ section_header_bytes h ++ tail = here ∙ append_assoc (section_header_bytes h) (flat_map section_header_bytes hs) rest in
    (whole, sym (drop-drop 64 place file) ∙ ap (drop 64) whole ∙ drop_at (section_header_bytes h) tail 64 (length-section_header h))
