-- Sections are found where the table of section headers says.

use Rattle.std.proofs.Common.{◌≡◌, ◌∙◌, ℕ, suc, ◌+◌, ◌*◌, ◌<◌, ◌≤◌, ◌^◌, ◌==◌, false, ◌||◌, List, [], ◌∷◌, ◌++◌, length, take, drop, replicate, flat_map, refl, ap, sym, arith}
use Rattle.std.specs.List.{AllByRecursion}
use Rattle.std.proofs.lemmas.Bool.{cond-false, or_from}
use Rattle.std.proofs.lemmas.List.{drop-drop, drop_at, length-append, length-drop, length-replicate, take_at}
use Rattle.rv_elf_laws.specs.declared.section_header.SectionHeader.{SectionHeader}
use Rattle.rv_elf_laws.specs.Fields.{number_in, e_shoff}
use Rattle.rv_elf_laws.specs.ReadBack.{FitsSectionHeader, section_header_there}
use Rattle.rv_elf_laws.specs.Records.{section_header_at, section_header_bytes}
use Rattle.rv_elf_laws.specs.Sections.{file_contents, indexed_contents, is_nobits, is_past, records, section_header_of, section_headers}
use Rattle.rv_elf_laws.proofs.SectionsLemmas.{not_past}
use Rattle.rv_map_laws.specs.declared.map.Region.{Region}
use Rattle.rv_map_laws.specs.Limits.{IsRegion}
use Rattle.rv_map_laws.specs.Map.{Map}
use Rattle.rv_debug_laws.specs.File.{UnloadedPiece, Places, all_headers, file_with, gap_behind, headers_from, piece_header, region_header, table_place, with_table}
use Rattle.rv_debug_laws.proofs.GrownLemmas.{same_length, shnum_is, shoff_is}
use Rattle.rv_object_file_laws.proofs.LaidLemmas.{Headed}
use Rattle.rv_object_file_laws.proofs.PlacedLemmas.{length-header_table}
use Rattle.rv_debug_laws.proofs.RecordsLemmas.{header_passed, headers_back}

-- ---- contents

-- the file has the bytes of a section at its place
pub record Stands (file : List ℕ) (place : ℕ) (p : UnloadedPiece) : Type 0 where
  pub within : place + length p.bytes ≤ length file
  pub bytes : take (length p.bytes) (drop place file) ≡ p.bytes

abbrev pub AllStand : List ℕ → ℕ → List UnloadedPiece → Type 0
AllStand file place [] = Unit {0}
AllStand file place (p ∷ ps) = Stands file place p × AllStand file (place + length p.bytes) ps

all_stand : (file : List ℕ) (place : ℕ) (ps : List UnloadedPiece) → place ≤ length file → drop place file ≡ flat_map (λ p. p.bytes) ps → AllStand file place ps
all_stand file place [] long here = tt
all_stand file place (p ∷ ps) long here =
    let tail : List ℕ = flat_map (λ (q : UnloadedPiece). q.bytes) ps in
    let size : length file ≡ place + (length p.bytes + length tail) =
    omega (arith, long, length-drop place file, ap length here, length-append p.bytes tail) in
    let behind : drop (place + length p.bytes) file ≡ tail =
    sym (drop-drop (length p.bytes) place file) ∙ ap (drop (length p.bytes)) here ∙ drop_at p.bytes tail (length p.bytes) refl in (
      record { within = omega (arith, size); bytes = ap (take (length p.bytes)) here ∙ take_at p.bytes tail (length p.bytes) refl },
      all_stand file (place + length p.bytes) ps (omega (arith, size)) behind,
    )

-- ---- headers

all_headed : (file rest : List ℕ) (i place : ℕ) (hs : List SectionHeader) → number_in e_shoff 0 file + 64 * i ≡ place →
    AllByRecursion FitsSectionHeader hs → drop place file ≡ flat_map section_header_bytes hs ++ rest → Headed file i hs
all_headed file rest i place [] at fits here = tt
all_headed file rest i place (h ∷ hs) at fits here =
    let passed = header_passed h hs place file rest here in (
      ap (λ n. section_header_at n file) at ∙ section_header_there h place file (flat_map section_header_bytes hs ++ rest) fits.0 passed.0,
      all_headed file rest (suc i) (place + 64) hs (omega (arith, at)) fits.1 passed.1,
    )

pub region_fits : (name kind flags place : ℕ) (r : Region) → name < 2 ^ 32 → kind < 2 ^ 32 → flags < 2 ^ 64 → place < 2 ^ 64 → IsRegion r →
    FitsSectionHeader (region_header name kind flags place r)
region_fits name kind flags place r a b c d h = record {
  sh_name = a;
  sh_type = b;
  sh_flags = c;
  sh_addr = h.0;
  sh_offset = d;
  sh_size = let end = h.1 in omega (arith, end);
  sh_link = omega arith;
  sh_info = omega arith;
  sh_addralign = omega arith;
  sh_entsize = omega arith;
}

-- the fields of a header hold what is said of a section that is not loaded
pub record FitsPiece (p : UnloadedPiece) : Type 0 where
  pub name : p.name < 2 ^ 32
  pub kind : p.kind < 2 ^ 32
  pub link : p.link < 2 ^ 32
  pub info : p.info < 2 ^ 32
  pub alignment : p.alignment < 2 ^ 64
  pub entry_size : p.entry_size < 2 ^ 64

-- where these sections end
abbrev pub end_from : ℕ → List UnloadedPiece → ℕ
end_from place [] = place
end_from place (p ∷ ps) = end_from (place + length p.bytes) ps

end_after : (place : ℕ) (ps : List UnloadedPiece) → place ≤ end_from place ps
end_after place [] = omega arith
end_after place (p ∷ ps) = let more = end_after (place + length p.bytes) ps in omega (arith, more)

pub headers_fit : (place : ℕ) (ps : List UnloadedPiece) → AllByRecursion FitsPiece ps → end_from place ps < 2 ^ 64 →
    AllByRecursion FitsSectionHeader (headers_from place ps)
headers_fit place [] fits room = tt
headers_fit place (p ∷ ps) fits room =
    let more = end_after (place + length p.bytes) ps in (
      record {
        sh_name = fits.0.name;
        sh_type = fits.0.kind;
        sh_flags = omega arith;
        sh_addr = omega arith;
        sh_offset = omega (arith, more, room);
        sh_size = omega (arith, more, room);
        sh_link = fits.0.link;
        sh_info = fits.0.info;
        sh_addralign = fits.0.alignment;
        sh_entsize = fits.0.entry_size;
      },
      headers_fit (place + length p.bytes) ps fits.1 room,
    )

-- the contents of a section by its index
pub found : (file : List ℕ) (i place : ℕ) (p : UnloadedPiece) → section_header_of file i ≡ piece_header place p → (p.kind == 8) ≡ false →
    Stands file place p → indexed_contents file i ≡ p.bytes
found file i place p headed bits stands =
    ap (file_contents file) headed
    ∙ cond-false (is_nobits (piece_header place p) || is_past file place (length p.bytes)) [] (take (length p.bytes) (drop place file))
    (or_from (is_nobits (piece_header place p)) (is_past file place (length p.bytes)) bits (not_past file place (length p.bytes) stands.within))
    ∙ stands.bytes

-- ---- the file

module _ (exe : List ℕ) (m : Map) (at : Places) (ps : List UnloadedPiece) (long : 64 ≤ length exe) (small : table_place exe < 2 ^ 64)
    (twelve : length (all_headers exe m at ps) ≡ 12) (fits : AllByRecursion FitsSectionHeader (all_headers exe m at ps)) where
  abbrev table : List ℕ
  table = flat_map section_header_bytes (all_headers exe m at ps)

  abbrev contents : List ℕ
  contents = flat_map (λ (p : UnloadedPiece). p.bytes) ps

  abbrev behind : List ℕ
  behind = replicate (gap_behind exe) 0 ++ (table ++ contents)

  same : length (with_table exe) ≡ length exe
  same = same_length exe behind (table_place exe) 12 7 long

  table_size : length table ≡ 768
  table_size = length-header_table (all_headers exe m at ps) ∙ ap (λ n. 64 * n) twelve

  at_table : drop (table_place exe) (file_with exe m at ps) ≡ table ++ contents
  at_table =
      sym (drop-drop (gap_behind exe) (length exe) (file_with exe m at ps))
      ∙ ap (drop (gap_behind exe)) (drop_at (with_table exe) behind (length exe) same)
      ∙ drop_at (replicate (gap_behind exe) 0) (table ++ contents) (gap_behind exe) (length-replicate (gap_behind exe) 0)

  at_contents : drop (table_place exe + 768) (file_with exe m at ps) ≡ contents
  at_contents =
      sym (drop-drop 768 (table_place exe) (file_with exe m at ps)) ∙ ap (drop 768) at_table ∙ drop_at table contents 768 table_size

  pub room : table_place exe + 768 ≤ length (file_with exe m at ps)
  room =
      omega (
        arith,
        same,
        table_size,
        length-append (with_table exe) behind,
        length-append (replicate (gap_behind exe) 0) (table ++ contents),
        length-append table contents,
        length-replicate {A = ℕ} (gap_behind exe) 0,
      )

  start : number_in e_shoff 0 (file_with exe m at ps) ≡ table_place exe
  start = shoff_is exe behind (table_place exe) 12 7 long small

  pub headers_are : section_headers (file_with exe m at ps) ≡ all_headers exe m at ps
  headers_are =
      let count = shnum_is exe behind (table_place exe) 12 7 long (omega arith) ∙ sym twelve in
      (λ i. records section_header_at 64 (count i) (start i) (file_with exe m at ps))
      ∙ headers_back (all_headers exe m at ps) (table_place exe) (file_with exe m at ps) contents fits at_table

  pub headed : Headed (file_with exe m at ps) 0 (all_headers exe m at ps)
  headed =
      let begins : number_in e_shoff 0 (file_with exe m at ps) + 64 * 0 ≡ table_place exe = omega (arith, start) in
      all_headed (file_with exe m at ps) contents 0 (table_place exe) (all_headers exe m at ps) begins fits at_table

  pub stand : AllStand (file_with exe m at ps) (table_place exe + 768) ps
  stand = all_stand (file_with exe m at ps) (table_place exe + 768) ps room at_contents
