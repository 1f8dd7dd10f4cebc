-- The parts of a file, one after another.

use Rattle.std.proofs.Common.{◌≡◌, ◌∙◌, ℕ, zero, suc, ◌+◌, ◌-◌, ◌*◌, ◌<◌, ◌≤◌, ◌^◌, List, [], ◌∷◌, ◌++◌, length, take, drop, map, flat_map, replicate, refl, ap, sym, append_assoc, arith, le_of_eq}
use Rattle.std.proofs.lemmas.List.{length-append, length-drop, take_all}
use Rattle.rv_list_laws.proofs.ElementsLemmas.{append_some_more}
use Rattle.rv_size_laws.specs.Alignment.{aligned}
use Rattle.rv_elf_laws.specs.Fields.{bytes_of, e_shoff, e_shentsize, e_shnum, e_shstrndx}
use Rattle.rv_elf_laws.specs.declared.section_header.SectionHeader.{SectionHeader}
use Rattle.rv_elf_laws.specs.Records.{section_header_at, section_header_bytes}
use Rattle.rv_elf_laws.specs.Sections.{names_section, records}
use Rattle.rv_debug_laws.specs.Carried.{Merged as LawMerged, section_names_in}
use Rattle.rv_debug_laws.specs.CarriedFile.{carried_file, merged_contents, carried_end, headers_of, merged_names, strings_of, with_header, with_headers}
use Rattle.rv_debug_laws.specs.File.{retabled}
use Rattle.rv_debug_sections.specs.declared.merged.Merged.{Merged}
use Rattle.rv_debug_sections.specs.Views.{all_merged, front_with, plain_merged}

-- the rest of some bytes, as a slice
pub to_the_end : (n : ℕ) (xs : List ℕ) → take (length xs - n) (drop n xs) ≡ drop n xs
to_the_end n xs = take_all (length xs - n) (drop n xs) (le_of_eq (length-drop n xs))

-- the executable with its new header
pub wrote_old : (file old i1 i2 rest : List ℕ) (table count names : ℕ) → rest ≡ drop 64 file →
    i1 ≡ old ++ front_with file table count names → i2 ≡ i1 ++ rest → i2 ≡ old ++ retabled file table count names
wrote_old file old i1 i2 rest table count names behind one two =
    let last : List ℕ = bytes_of e_shentsize 64 ++ (bytes_of e_shnum count ++ bytes_of e_shstrndx names) in
    let front : front_with file table count names ++ drop 64 file ≡ retabled file table count names =
    append_assoc (take 40 file) (bytes_of e_shoff table ++ (take 10 (drop 48 file) ++ last)) (drop 64 file)
    ∙ ap (λ l. take 40 file ++ (bytes_of e_shoff table ++ l)) (append_assoc (take 10 (drop 48 file)) last (drop 64 file)) in
    two ∙ ap (λ l. i1 ++ l) behind ∙ ap (λ l. l ++ drop 64 file) one ∙ append_assoc old (front_with file table count names) (drop 64 file)
    ∙ ap (λ l. old ++ l) front

-- all parts
pub wrote_all : (file : List ℕ) (ms : List LawMerged) (i1 i2 i3 i4 own : List ℕ) (hs : List SectionHeader) (table end count : ℕ) →
    end ≡ carried_end file ms → table ≡ aligned 8 end → hs ≡ headers_of file ms → count ≡ length hs → own ≡ section_names_in file →
    i1 ≡ retabled file table count (names_section file) → i2 ≡ i1 ++ merged_contents ms → i3 ≡ i2 ++ (own ++ merged_names ms) →
    i4 ≡ i3 ++ (replicate (table - end) 0 ++ flat_map section_header_bytes hs) → i4 ≡ carried_file file ms
wrote_all file ms i1 i2 i3 i4 own hs table end count ends at headers counted named one two three four =
    let place : table ≡ aligned 8 (carried_end file ms) = at ∙ ap (aligned 8) ends in
    let number : count ≡ length (headers_of file ms) = counted ∙ ap length headers in
    let R : List ℕ = retabled file (aligned 8 (carried_end file ms)) (length (headers_of file ms)) (names_section file) in
    let C : List ℕ = merged_contents ms in
    let S : List ℕ = strings_of file ms in
    let T : List ℕ = replicate (aligned 8 (carried_end file ms) - carried_end file ms) 0 ++ flat_map section_header_bytes (headers_of file ms) in
    let first : i1 ≡ R = one ∙ (λ i. retabled file (place i) (number i) (names_section file)) in
    let second : i2 ≡ R ++ C = two ∙ ap (λ l. l ++ C) first in
    let third : i3 ≡ (R ++ C) ++ S = three ∙ (λ i. second i ++ (named i ++ merged_names ms)) in
    let fourth : i4 ≡ ((R ++ C) ++ S) ++ T =
    four ∙ (λ i. third i ++ (replicate (place i - ends i) 0 ++ flat_map section_header_bytes (headers i))) in
    fourth ∙ append_assoc (R ++ C) S T ∙ append_assoc R C (S ++ T)

-- a section's contents more
pub contents_more : (out new whole : List ℕ) (ms : List Merged) (i : ℕ) (m : Merged) → drop i ms ≡ m ∷ drop (i + 1) ms →
    new ≡ out ++ m.bytes.items → out ++ merged_contents (all_merged (drop i ms)) ≡ whole →
    new ++ merged_contents (all_merged (drop (i + 1) ms)) ≡ whole
contents_more out new whole ms i m here added before =
    append_some_more out new m.bytes.items (merged_contents (all_merged (drop (i + 1) ms))) (merged_contents (all_merged (drop i ms))) whole added
    (ap (λ l. merged_contents (all_merged l)) here) before

-- a section's name more
pub names_more : (out new whole : List ℕ) (ms : List Merged) (i : ℕ) (m : Merged) → drop i ms ≡ m ∷ drop (i + 1) ms →
    new ≡ out ++ m.name.now → out ++ merged_names (all_merged (drop i ms)) ≡ whole →
    new ++ merged_names (all_merged (drop (i + 1) ms)) ≡ whole
names_more out new whole ms i m here added before =
    append_some_more out new m.name.now (merged_names (all_merged (drop (i + 1) ms))) (merged_names (all_merged (drop i ms))) whole added
    (ap (λ l. merged_names (all_merged l)) here) before

-- a header more
pub header_more : (out new whole : List ℕ) (hs : List SectionHeader) (i : ℕ) (h : SectionHeader) → drop i hs ≡ h ∷ drop (i + 1) hs →
    new ≡ out ++ section_header_bytes h → out ++ flat_map section_header_bytes (drop i hs) ≡ whole →
    new ++ flat_map section_header_bytes (drop (i + 1) hs) ≡ whole
header_more out new whole hs i h here added before =
    append_some_more out new (section_header_bytes h) (flat_map section_header_bytes (drop (i + 1) hs)) (flat_map section_header_bytes (drop i hs)) whole
    added (ap (flat_map section_header_bytes) here) before

-- how long the contents and the names of the sections that are left are
pub contents_left : (ms : List Merged) (i : ℕ) (m : Merged) → drop i ms ≡ m ∷ drop (i + 1) ms →
    length (merged_contents (all_merged (drop i ms))) ≡ length m.bytes.items + length (merged_contents (all_merged (drop (i + 1) ms)))
contents_left ms i m here =
    ap (λ l. length (merged_contents (all_merged l))) here ∙ length-append m.bytes.items (merged_contents (all_merged (drop (i + 1) ms)))

pub names_left : (ms : List Merged) (i : ℕ) (m : Merged) → drop i ms ≡ m ∷ drop (i + 1) ms →
    length (merged_names (all_merged (drop i ms))) ≡ length m.name.now + length (merged_names (all_merged (drop (i + 1) ms)))
names_left ms i m here =
    ap (λ l. length (merged_names (all_merged l))) here ∙ length-append m.name.now (merged_names (all_merged (drop (i + 1) ms)))

-- the header of one more section is put
pub headers_more : (place name place' name' : ℕ) (hs new : List SectionHeader) (ms : List Merged) (i : ℕ) (m : Merged) → drop i ms ≡ m ∷ drop (i + 1) ms →
    new ≡ with_header place name (plain_merged m) hs → place' ≡ place + length m.bytes.items → name' ≡ name + length m.name.now →
    with_headers place name (all_merged (drop i ms)) hs ≡ with_headers place' name' (all_merged (drop (i + 1) ms)) new
headers_more place name place' name' hs new ms i m here put at called =
    ap (λ l. with_headers place name (all_merged l) hs) here
    ∙ (λ j. with_headers (sym at j) (sym called j) (all_merged (drop (i + 1) ms)) (sym put j))

-- one more header is read
pub record_more : (file : List ℕ) (at count : ℕ) → 0 < count →
    records section_header_at 64 count at file ≡ section_header_at at file ∷ records section_header_at 64 (count - 1) (at + 64) file
record_more file at zero some = absurd (omega (arith, some))
record_more file at (suc n) some =
    let left : n ≡ suc n - 1 = omega arith in (λ i. section_header_at at file ∷ records section_header_at 64 (left i) (at + 64) file)
