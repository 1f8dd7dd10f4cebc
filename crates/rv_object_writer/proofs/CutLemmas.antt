-- Fields keep the low bytes of a number.

use Rattle.std.proofs.Common.{◌≡◌, ℕ, suc, ◌+◌, ◌/◌, ◌%◌, ◌^◌, ◌∷◌, [], ◌++◌, ap, ◌∙◌, arith}
use Rattle.byteorder.specs.Endian.{little_bytes}
use Rattle.rv_elf_laws.specs.declared.section_header.SectionHeader.{SectionHeader}
use Rattle.rv_elf_laws.specs.declared.symbol.Symbol.{Symbol}
use Rattle.rv_elf_laws.specs.Fields as at
use Rattle.rv_elf_laws.specs.Records.{section_header_bytes, symbol_bytes}
use Rattle.rv_object_laws.specs.declared.row.Row.{Row}
use Rattle.rv_object_file_laws.specs.Rows as rows
use Rattle.rv_object_file_laws.specs.Rows.{row_bytes}
use Rattle.rv_object_file_laws.specs.Written.{row_record}

pub half_cut : (x : ℕ) → little_bytes 2 (x % 2 ^ 16) ≡ little_bytes 2 x
half_cut x =
    let low : x % 0x10000 % 256 ≡ x % 256 = omega arith in
    let high : x % 0x10000 / 256 % 256 ≡ x / 256 % 256 = omega arith in
    λ k. low k ∷ high k ∷ []

pub word_cut : (x : ℕ) → little_bytes 4 (x % 2 ^ 32) ≡ little_bytes 4 x
word_cut x =
    let a : x % 0x100000000 % 256 ≡ x % 256 = omega arith in
    let b : x % 0x100000000 / 256 % 256 ≡ x / 256 % 256 = omega arith in
    let c : x % 0x100000000 / 65536 % 256 ≡ x / 65536 % 256 = omega arith in
    let d : x % 0x100000000 / 16777216 % 256 ≡ x / 16777216 % 256 = omega arith in
    λ k. a k ∷ b k ∷ c k ∷ d k ∷ []

pub double_cut : (x : ℕ) → little_bytes 8 (x % 2 ^ 64) ≡ little_bytes 8 x
double_cut x =
    let a : x % 0x10000000000000000 % 256 ≡ x % 256 = omega arith in
    let b : x % 0x10000000000000000 / 256 % 256 ≡ x / 256 % 256 = omega arith in
    let c : x % 0x10000000000000000 / 65536 % 256 ≡ x / 65536 % 256 = omega arith in
    let d : x % 0x10000000000000000 / 16777216 % 256 ≡ x / 16777216 % 256 = omega arith in
    let e : x % 0x10000000000000000 / 4294967296 % 256 ≡ x / 4294967296 % 256 = omega arith in
    let f : x % 0x10000000000000000 / 1099511627776 % 256 ≡ x / 1099511627776 % 256 = omega arith in
    let g : x % 0x10000000000000000 / 281474976710656 % 256 ≡ x / 281474976710656 % 256 = omega arith in
    let h : x % 0x10000000000000000 / 72057594037927936 % 256 ≡ x / 72057594037927936 % 256 = omega arith in
    λ k. a k ∷ b k ∷ c k ∷ d k ∷ e k ∷ f k ∷ g k ∷ h k ∷ []

-- the bytes of a record, with these fields cut to their widths

pub symbol_cut : (s : Symbol) (name home : ℕ)
    → symbol_bytes (record s { st_name = name % 2 ^ 32; st_shndx = home % 2 ^ 16 }) ≡ symbol_bytes (record s { st_name = name; st_shndx = home })
unfolding symbol_bytes
symbol_cut s name home = λ k. word_cut name k
    ++ (at.bytes_of at.st_info s.st_info ++ (at.bytes_of at.st_other s.st_other
    ++ (half_cut home k ++ (at.bytes_of at.st_value s.st_value ++ at.bytes_of at.st_size s.st_size))))

pub row_cut : (row : Row) → row_bytes (record (row_record row) { r_section = (row.section + 1) % 2 ^ 32 }) ≡ row_bytes (row_record row)
unfolding row_bytes
row_cut row =
    let next : row.section + 1 ≡ suc row.section = omega arith in
    let home : little_bytes 4 ((row.section + 1) % 2 ^ 32) ≡ little_bytes 4 (suc row.section) = word_cut (row.section + 1) ∙ ap (little_bytes 4) next in
    λ k. at.bytes_of rows.line row.line
    ++ (at.bytes_of rows.ordinal row.ordinal ++ (home k
    ++ (at.bytes_of rows.instructions row.instructions ++ (at.bytes_of rows.offset row.offset
    ++ (at.bytes_of rows.bytes row.bytes ++ at.bytes_of rows.reserved 0)))))

pub section_cut : (h : SectionHeader) (name size link info : ℕ)
    → section_header_bytes (record h { sh_name = name % 2 ^ 32; sh_size = size % 2 ^ 64; sh_link = link % 2 ^ 32; sh_info = info % 2 ^ 32 })
    ≡ section_header_bytes (record h { sh_name = name; sh_size = size; sh_link = link; sh_info = info })
unfolding section_header_bytes
section_cut h name size link info = λ k. word_cut name k
    ++ (at.bytes_of at.sh_type h.sh_type ++ (at.bytes_of at.sh_flags h.sh_flags
    ++ (at.bytes_of at.sh_addr h.sh_addr ++ (at.bytes_of at.sh_offset h.sh_offset
    ++ (double_cut size k ++ (word_cut link k ++ (word_cut info k
    ++ (at.bytes_of at.sh_addralign h.sh_addralign ++ at.bytes_of at.sh_entsize h.sh_entsize))))))))
