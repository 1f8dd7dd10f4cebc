-- What a file with more behind it keeps of the executable in front, and what is new in its header.

use Rattle.std.proofs.Common.{◌≡◌, ◌∙◌, ℕ, zero, suc, ◌+◌, ◌-◌, ◌*◌, ◌<◌, ◌≤◌, ◌^◌, List, [], ◌∷◌, ◌++◌, length, take, drop, refl, ap, sym, append_assoc, append-nil, arith}
use Rattle.std.specs.Prelude.{slice_index}
use Rattle.std.proofs.lemmas.List.{drop-drop, drop_at, drop-append-le, get_or_append_left, length-append, length-drop, length-take-le, take-append-drop, take-append-le}
use Rattle.byteorder.specs.Endian.{little_from, little_number}
use Rattle.byteorder.specs.Numbers.{little_number-reads_back}
use Rattle.rv_elf_laws.specs.Fields.{Field, number_in, bytes_of, e_shoff, e_shentsize, e_shnum, e_shstrndx, p_type, p_flags, p_offset, p_vaddr, p_paddr, p_filesz, p_memsz, p_align}
use Rattle.rv_elf_laws.specs.Records.{program_header_at}
use Rattle.rv_elf_laws.specs.Sections.{records}
use Rattle.rv_debug_laws.specs.File.{retabled}

-- a number is that of the bytes in front
front_number : (P X Y : List ℕ) (i w : ℕ) → i + w ≤ length P → little_from i w (P ++ X) ≡ little_from i w (P ++ Y)
front_number P X Y i zero h = refl
front_number P X Y i (suc w) h =
    let first : slice_index (P ++ X) i ≡ slice_index (P ++ Y) i =
    get_or_append_left P X 0 i (omega (arith, h)) ∙ sym (get_or_append_left P Y 0 i (omega (arith, h))) in
    let rest = front_number P X Y (suc i) w (omega (arith, h)) in
    (λ k. first k + 256 * rest k)

-- two files with the same bytes from some place on have the same numbers there
window : (f : Field) (place k : ℕ) (file exe P X Y : List ℕ) → drop k file ≡ P ++ X → drop k exe ≡ P ++ Y →
    k ≤ place + f.offset → place + f.offset + f.width ≤ k + length P → number_in f place file ≡ number_in f place exe
unfolding number_in
window f place k file exe P X Y here there low high =
    let n : ℕ = place + f.offset - k in
    let at : k + n ≡ place + f.offset = omega (arith, low) in
    let inside : n ≤ length P = omega (arith, low, high) in
    let in_file : drop (place + f.offset) file ≡ drop n P ++ X =
    ap (λ j. drop j file) (sym at) ∙ sym (drop-drop n k file) ∙ ap (drop n) here ∙ drop-append-le n P X inside in
    let in_exe : drop (place + f.offset) exe ≡ drop n P ++ Y =
    ap (λ j. drop j exe) (sym at) ∙ sym (drop-drop n k exe) ∙ ap (drop n) there ∙ drop-append-le n P Y inside in
    let room : 0 + f.width ≤ length (drop n P) = omega (arith, length-drop n P, low, high) in
    ap (little_number f.width) in_file ∙ front_number (drop n P) X Y 0 f.width room ∙ sym (ap (little_number f.width) in_exe)

module _ (exe rest : List ℕ) (place count names : ℕ) (long : 64 ≤ length exe) where
  -- the last three of the new fields, and what is behind the header
  abbrev last_fields : List ℕ
  last_fields = bytes_of e_shentsize 64 ++ (bytes_of e_shnum count ++ (bytes_of e_shstrndx names ++ (drop 64 exe ++ rest)))

  abbrev middle : List ℕ
  middle = take 10 (drop 48 exe)

  abbrev from_table : List ℕ
  from_table = bytes_of e_shoff place ++ (middle ++ last_fields)

  front_size : length (take 40 exe) ≡ 40
  front_size = length-take-le 40 exe (omega (arith, long))

  middle_size : length middle ≡ 10
  middle_size = length-take-le 10 (drop 48 exe) (omega (arith, long, length-drop 48 exe))

  in_parts : retabled exe place count names ++ rest ≡ take 40 exe ++ from_table
  in_parts =
      append_assoc (take 40 exe)
      (bytes_of e_shoff place ++ (take 10 (drop 48 exe) ++ (bytes_of e_shentsize 64 ++ (bytes_of e_shnum count ++ (bytes_of e_shstrndx names ++ drop 64 exe))))) rest
      ∙ ap (λ l. take 40 exe ++ (bytes_of e_shoff place ++ l))
      (append_assoc (take 10 (drop 48 exe)) (bytes_of e_shentsize 64 ++ (bytes_of e_shnum count ++ (bytes_of e_shstrndx names ++ drop 64 exe))) rest)

  at_40 : drop 40 (retabled exe place count names ++ rest) ≡ from_table
  at_40 = ap (drop 40) in_parts ∙ drop_at (take 40 exe) from_table 40 front_size

  at_48 : drop 48 (retabled exe place count names ++ rest) ≡ middle ++ last_fields
  at_48 = sym (drop-drop 8 40 (retabled exe place count names ++ rest)) ∙ ap (drop 8) at_40

  at_58 : drop 58 (retabled exe place count names ++ rest) ≡ last_fields
  at_58 = sym (drop-drop 10 48 (retabled exe place count names ++ rest)) ∙ ap (drop 10) at_48 ∙ drop_at middle last_fields 10 middle_size

  at_60 : drop 60 (retabled exe place count names ++ rest) ≡ bytes_of e_shnum count ++ (bytes_of e_shstrndx names ++ (drop 64 exe ++ rest))
  at_60 = sym (drop-drop 2 58 (retabled exe place count names ++ rest)) ∙ ap (drop 2) at_58

  at_62 : drop 62 (retabled exe place count names ++ rest) ≡ bytes_of e_shstrndx names ++ (drop 64 exe ++ rest)
  at_62 = sym (drop-drop 4 58 (retabled exe place count names ++ rest)) ∙ ap (drop 4) at_58

  at_64 : drop 64 (retabled exe place count names ++ rest) ≡ drop 64 exe ++ rest
  at_64 = sym (drop-drop 6 58 (retabled exe place count names ++ rest)) ∙ ap (drop 6) at_58

  -- ---- new fields

  pub shoff_is : place < 2 ^ 64 → number_in e_shoff 0 (retabled exe place count names ++ rest) ≡ place
  unfolding number_in
  shoff_is small = ap (little_number 8) at_40 ∙ little_number-reads_back 8 (place) (middle ++ last_fields) small

  pub shentsize_is : number_in e_shentsize 0 (retabled exe place count names ++ rest) ≡ 64
  unfolding number_in
  shentsize_is = ap (little_number 2) at_58

  pub shnum_is : count < 2 ^ 16 → number_in e_shnum 0 (retabled exe place count names ++ rest) ≡ count
  unfolding number_in
  shnum_is small = ap (little_number 2) at_60 ∙ little_number-reads_back 2 count (bytes_of e_shstrndx names ++ (drop 64 exe ++ rest)) small

  pub shstrndx_is : names < 2 ^ 16 → number_in e_shstrndx 0 (retabled exe place count names ++ rest) ≡ names
  unfolding number_in
  shstrndx_is small = ap (little_number 2) at_62 ∙ little_number-reads_back 2 names (drop 64 exe ++ rest) small

  -- ---- kept fields

  pub kept_low : (f : Field) → f.offset + f.width ≤ 40 → number_in f 0 (retabled exe place count names ++ rest) ≡ number_in f 0 exe
  kept_low f high =
      window f 0 0 (retabled exe place count names ++ rest) exe (take 40 exe) from_table (drop 40 exe) in_parts (sym (take-append-drop 40 exe))
      (omega arith) (omega (arith, high, front_size))

  pub kept_middle : (f : Field) → 48 ≤ f.offset → f.offset + f.width ≤ 58 → number_in f 0 (retabled exe place count names ++ rest) ≡ number_in f 0 exe
  kept_middle f low high =
      window f 0 48 (retabled exe place count names ++ rest) exe middle last_fields (drop 10 (drop 48 exe)) at_48 (sym (take-append-drop 10 (drop 48 exe)))
      (omega (arith, low)) (omega (arith, high, middle_size))

  kept_behind : (f : Field) (at : ℕ) → 64 ≤ at → at + f.offset + f.width ≤ length exe →
      number_in f at (retabled exe place count names ++ rest) ≡ number_in f at exe
  kept_behind f at low high =
      window f at 64 (retabled exe place count names ++ rest) exe (drop 64 exe) rest [] at_64 (sym (append-nil (drop 64 exe)))
      (omega (arith, low)) (omega (arith, high, long, length-drop 64 exe))

  kept_program : (at : ℕ) → 64 ≤ at → at + 56 ≤ length exe → program_header_at at (retabled exe place count names ++ rest) ≡ program_header_at at exe
  kept_program at low high =
      let a = kept_behind p_type at low (omega (arith, high)) in
      let b = kept_behind p_flags at low (omega (arith, high)) in
      let c = kept_behind p_offset at low (omega (arith, high)) in
      let d = kept_behind p_vaddr at low (omega (arith, high)) in
      let e = kept_behind p_paddr at low (omega (arith, high)) in
      let f = kept_behind p_filesz at low (omega (arith, high)) in
      let g = kept_behind p_memsz at low (omega (arith, high)) in
      let h = kept_behind p_align at low (omega (arith, high)) in
      (λ i. record {
        p_type = a i;
        p_flags = b i;
        p_offset = c i;
        p_vaddr = d i;
        p_paddr = e i;
        p_filesz = f i;
        p_memsz = g i;
        p_align = h i;
      })

  pub kept_programs : (n at : ℕ) → 64 ≤ at → at + 56 * n ≤ length exe →
      records program_header_at 56 n at (retabled exe place count names ++ rest) ≡ records program_header_at 56 n at exe
  kept_programs zero at low high = refl
  kept_programs (suc n) at low high =
      let first = kept_program at low (omega (arith, high)) in
      let others = kept_programs n (at + 56) (omega (arith, low)) (omega (arith, high)) in
      (λ i. first i ∷ others i)

  -- ---- bytes behind the header

  pub kept_bytes : (at size : ℕ) → 64 ≤ at → at + size ≤ length exe →
      take size (drop at (retabled exe place count names ++ rest)) ≡ take size (drop at exe)
  kept_bytes at size low high =
      let n : ℕ = at - 64 in
      let far : 64 + n ≡ at = omega (arith, low) in
      let in_exe : drop n (drop 64 exe) ≡ drop at exe = drop-drop n 64 exe ∙ ap (λ j. drop j exe) far in
      let in_file : drop at (retabled exe place count names ++ rest) ≡ drop at exe ++ rest =
      ap (λ j. drop j (retabled exe place count names ++ rest)) (sym far) ∙ sym (drop-drop n 64 (retabled exe place count names ++ rest)) ∙ ap (drop n) at_64
      ∙ drop-append-le n (drop 64 exe) rest (omega (arith, low, high, length-drop 64 exe)) ∙ ap (λ l. l ++ rest) in_exe in
      ap (take size) in_file ∙ take-append-le size (drop at exe) rest (omega (arith, high, length-drop at exe))

  pub same_length : length (retabled exe place count names) ≡ length exe
  same_length =
      let last : List ℕ = bytes_of e_shentsize 64 ++ (bytes_of e_shnum count ++ (bytes_of e_shstrndx names ++ drop 64 exe)) in
      omega (
        arith,
        long,
        front_size,
        middle_size,
        length-drop 64 exe,
        length-append (take 40 exe) (bytes_of e_shoff place ++ (middle ++ last)),
        length-append middle last,
      )
