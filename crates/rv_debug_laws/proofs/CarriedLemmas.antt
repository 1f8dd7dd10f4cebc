-- A file with the debug sections of objects is loaded as the executable in front.

use Rattle.std.proofs.Common.{◌≡◌, ◌∙◌, ℕ, zero, suc, ◌+◌, ◌-◌, ◌*◌, ◌<◌, ◌≤◌, ◌^◌, ◌==◌, nat_lt, Bool, true, false, cond, List, [], ◌∷◌, ◌++◌, length, replicate, flat_map, Option, None, Some, refl, ap, sym, subst, arith}
use Rattle.std.proofs.lemmas.Bool.{and_parts}
use Rattle.std.proofs.lemmas.Bool.Decides.{nat_tests}
use Rattle.std.proofs.lemmas.List.{length-append, length-replicate, length-set}
use Rattle.rv_size_laws.specs.Alignment.{aligned}
use Rattle.rv_elf_laws.specs.declared.section_header.SectionHeader.{SectionHeader}
use Rattle.rv_elf_laws.specs.Fields.{number_in, e_shoff}
use Rattle.rv_elf_laws.specs.Records.{section_header_at, section_header_bytes}
use Rattle.rv_elf_laws.specs.Sections.{names_section, records, section_count, section_headers}
use Rattle.rv_object_file_laws.proofs.LaidLemmas.{aligned_up}
use Rattle.rv_object_file_laws.proofs.PlacedLemmas.{length-header_table}
use Rattle.rv_debug_laws.specs.declared.carried.Carried.{Carried}
use Rattle.rv_debug_laws.specs.Carried.{Merged, section_names_in}
use Rattle.rv_debug_laws.specs.CarriedFile.{IsCarriedFile, IsLoadedSame, carried_file, merged_contents, carried_end, headers_of, merged_header, put_header, strings_header, strings_of, with_header, with_headers}
use Rattle.rv_debug_laws.specs.File.{retabled}
use Rattle.rv_debug_laws.specs.Stored.{can_grow}
use Rattle.rv_debug_laws.proofs.GrownLemmas.{same_length}
use Rattle.rv_debug_laws.proofs.ImageLemmas.{is_long, same_image, same_soundness}

aligned_near : (n : ℕ) → aligned 8 n < n + 8
aligned_near n = omega arith

-- ---- how many headers there are

length-headers : (count place : ℕ) (bytes : List ℕ) → length (records section_header_at 64 count place bytes) ≡ count
length-headers zero place bytes = refl
length-headers (suc count) place bytes = ap suc (length-headers count (place + 64) bytes)

put_more : (i : Option ℕ) (h : SectionHeader) (hs : List SectionHeader) → length hs ≤ length (put_header i h hs)
put_more None h hs = omega (arith, length-append hs (h ∷ []))
put_more (Some i) h hs = omega (arith, length-set hs i h)

with_more : (empty : Bool) (i : Option ℕ) (h : SectionHeader) (hs : List SectionHeader) →
    length hs ≤ length (cond empty hs (put_header i h hs))
with_more true i h hs = omega arith
with_more false i h hs = put_more i h hs

pub more_headers : (place name : ℕ) (ms : List Merged) (hs : List SectionHeader) → length hs ≤ length (with_headers place name ms hs)
more_headers place name [] hs = omega arith
more_headers place name (m ∷ ms) hs =
    let one = with_more (length m.bytes == 0) m.index (merged_header place name m) hs in
    let others = more_headers (place + length m.bytes) (name + length m.name) ms (with_header place name m hs) in
    omega (arith, one, others)

-- ---- the file

module _ (file new : List ℕ) (objects : List Carried) (h : IsCarriedFile file objects new) where
  abbrev end : ℕ
  end = carried_end file h.merged

  abbrev count : ℕ
  count = length (headers_of file h.merged)

  abbrev rest : List ℕ
  rest = merged_contents h.merged ++ (strings_of file h.merged
      ++ (replicate (aligned 8 end - end) 0 ++ flat_map section_header_bytes (headers_of file h.merged)))

  long : 64 ≤ length file
  long = is_long file h.opens

  named : (0 < names_section file) × (names_section file < section_count file)
  named =
      let both = and_parts (nat_lt 0 (names_section file)) (nat_lt (names_section file) (section_count file)) h.named in
      (grind (arith, nat_tests), grind (arith, nat_tests))

  counted : names_section file < count
  counted =
      let old : length (section_headers file) ≡ section_count file =
      length-headers (section_count file) (number_in e_shoff 0 file) file in
      let some : List SectionHeader = with_headers (length file) (length (section_names_in file)) h.merged (section_headers file) in
      omega (
        arith,
        named.1,
        old,
        more_headers (length file) (length (section_names_in file)) h.merged (section_headers file),
        length-set some (names_section file) (strings_header file h.merged),
      )

  room : aligned 8 end + 64 * count ≤ length (retabled file (aligned 8 end) count (names_section file) ++ rest)
  room =
      omega (
        arith,
        aligned_up end,
        same_length file rest (aligned 8 end) count (names_section file) long,
        length-header_table (headers_of file h.merged),
        length-append (retabled file (aligned 8 end) count (names_section file)) rest,
        length-append (merged_contents h.merged) (strings_of file h.merged
            ++ (replicate (aligned 8 end - end) 0 ++ flat_map section_header_bytes (headers_of file h.merged))),
        length-append (strings_of file h.merged) (replicate (aligned 8 end - end) 0 ++ flat_map section_header_bytes (headers_of file h.merged)),
        length-append (replicate (aligned 8 end - end) 0) (flat_map section_header_bytes (headers_of file h.merged)),
        length-replicate {A = ℕ} (aligned 8 end - end) 0,
      )

  low : aligned 8 end < 2 ^ 64
  low = let limit = h.low in omega (arith, aligned_near end, limit)

  same_there : can_grow file ≡ true → IsLoadedSame file (carried_file file h.merged)
  same_there grows =
      let some : 0 < count = omega (arith, counted) in
      record {
        sound = same_soundness file rest (aligned 8 end) count (names_section file) h.opens grows low some h.few counted room;
        image = same_image file rest (aligned 8 end) count (names_section file) h.opens grows low some h.few counted room;
      }

  pub loaded_same : can_grow file ≡ true → IsLoadedSame file new
  loaded_same grows = subst (λ f. IsLoadedSame file f) (sym h.is) (same_there grows)
