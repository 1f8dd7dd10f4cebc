-- Rows that were written are read again, and tables of records; rv_elf has the same of its records.

use Rattle.std.proofs.Common.{◌≡◌, ℕ, ◌+◌, ◌<◌, ◌^◌, List, [], ◌∷◌, ◌++◌, length, drop, map, flat_map, refl, ap, sym, ◌∙◌, append_assoc}
use Rattle.std.specs.List.{AllByRecursion}
use Rattle.std.proofs.lemmas.List.{drop-drop, drop_at}
use Rattle.byteorder.specs.Endian.{little_bytes, little_number}
use Rattle.byteorder.specs.Numbers.{little_number-reads_back}
use Rattle.rv_elf_laws.specs.declared.section_header.SectionHeader.{SectionHeader}
use Rattle.rv_elf_laws.specs.declared.symbol.Symbol.{Symbol}
use Rattle.rv_elf_laws.specs.declared.rela.Rela.{Rela}
use Rattle.rv_elf_laws.specs.Fields.{field, number_in}
use Rattle.rv_elf_laws.specs.Records.{section_header_bytes, symbol_bytes, rela_bytes}
use Rattle.rv_elf_laws.specs.Sections.{records}
use Rattle.rv_object_file_laws.specs.Rows.{RowRecord, row_at, row_bytes}

-- the number of a field, where its bytes stand
pub number_at : (k w n place : ℕ) (bytes whole : List ℕ) → drop place bytes ≡ whole →
    drop k whole ≡ little_bytes w n ++ drop (k + w) whole → n < 256 ^ w → number_in (field k w) place bytes ≡ n
unfolding number_in
number_at k w n place bytes whole here stands small =
    ap (little_number w) (sym (drop-drop k place bytes) ∙ ap (drop k) here ∙ stands) ∙ little_number-reads_back w n (drop (k + w) whole) small

-- ---- how long each record is

pub length-section_header : (h : SectionHeader) → length (section_header_bytes h) ≡ 64
unfolding section_header_bytes
length-section_header h = refl

pub length-symbol : (s : Symbol) → length (symbol_bytes s) ≡ 24
unfolding symbol_bytes
length-symbol s = refl

pub length-rela : (r : Rela) → length (rela_bytes r) ≡ 24
unfolding rela_bytes
length-rela r = refl

-- ---- rows

pub record FitsRow (r : RowRecord) : Type 0 where
  pub line : r.r_line < 2 ^ 32
  pub ordinal : r.r_ordinal < 2 ^ 32
  pub section : r.r_section < 2 ^ 32
  pub instructions : r.r_instructions < 2 ^ 32
  pub offset : r.r_offset < 2 ^ 64
  pub bytes : r.r_bytes < 2 ^ 32
  pub reserved : r.r_reserved < 2 ^ 32

pub length-row : (r : RowRecord) → length (row_bytes r) ≡ 32
unfolding row_bytes
length-row r = refl

pub row_back : (r : RowRecord) (place : ℕ) (bytes rest : List ℕ) → FitsRow r →
    drop place bytes ≡ row_bytes r ++ rest → row_at place bytes ≡ r
unfolding row_bytes
row_back r place bytes rest fits here =
    let whole : List ℕ = row_bytes r ++ rest in
    let line = number_at 0 4 r.r_line place bytes whole here refl fits.line in
    let ordinal = number_at 4 4 r.r_ordinal place bytes whole here refl fits.ordinal in
    let section = number_at 8 4 r.r_section place bytes whole here refl fits.section in
    let instructions = number_at 12 4 r.r_instructions place bytes whole here refl fits.instructions in
    let offset = number_at 16 8 r.r_offset place bytes whole here refl fits.offset in
    let count = number_at 24 4 r.r_bytes place bytes whole here refl fits.bytes in
    let reserved = number_at 28 4 r.r_reserved place bytes whole here refl fits.reserved in
    (λ i. record {
      r_line = line i;
      r_ordinal = ordinal i;
      r_section = section i;
      r_instructions = instructions i;
      r_offset = offset i;
      r_bytes = count i;
      r_reserved = reserved i;
    })

-- ---- tables

-- the records of a table of the bytes of each
pub records_back : {X R : Type 0} (record_at : ℕ → List ℕ → X) (size : ℕ) (bytes_of : R → List ℕ) (made : R → X) (Fits : R → Type 0) →
    ((r : R) → length (bytes_of r) ≡ size) →
    ((r : R) (place : ℕ) (bytes rest : List ℕ) → Fits r → drop place bytes ≡ bytes_of r ++ rest → record_at place bytes ≡ made r) →
    (rs : List R) (place : ℕ) (bytes rest : List ℕ) → AllByRecursion Fits rs → drop place bytes ≡ flat_map bytes_of rs ++ rest →
    records record_at size (length rs) place bytes ≡ map made rs
records_back record_at size bytes_of made Fits len back [] place bytes rest fits here = refl
records_back record_at size bytes_of made Fits len back (r ∷ rs) place bytes rest fits here =
    let whole = here ∙ append_assoc (bytes_of r) (flat_map bytes_of rs) rest in
    let first = back r place bytes (flat_map bytes_of rs ++ rest) fits.0 whole in
    let next : drop (place + size) bytes ≡ flat_map bytes_of rs ++ rest =
    sym (drop-drop size place bytes) ∙ ap (drop size) whole ∙ drop_at (bytes_of r) (flat_map bytes_of rs ++ rest) size (len r) in
    (λ i. first i ∷ records_back record_at size bytes_of made Fits len back rs (place + size) bytes rest fits.1 next i)
