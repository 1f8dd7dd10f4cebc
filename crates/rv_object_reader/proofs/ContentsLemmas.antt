-- Contents, names and alignments of a section that has passed its tests.

use Rattle.std.proofs.Common.{◌≡◌, ℕ, zero, suc, ◌+◌, ◌%◌, ◌==◌, nat_le, max, Bool, true, false, not, ◌&&◌, ◌||◌, List, [], ◌∷◌, length, take, drop, replicate, option_map, unwrap_or, bytes_eq, Option, Some, None, refl, ap, sym, ◌∙◌, arith, cond, if◌then◌else◌}
use Rattle.std.proofs.lemmas.Bool.{and_from, cond-false, true≢false}
use Rattle.std.proofs.lemmas.Bool.Decides.{nat_tests}
use Rattle.std.proofs.lemmas.List.{length-take, length-drop, length-replicate}
use Rattle.rv_isa.specs.Kinds.{width_of}
use Rattle.rv_elf_laws.specs.declared.section_header.SectionHeader.{SectionHeader}
use Rattle.rv_elf_laws.specs.Sections.{is_past, is_nobits, file_contents, before_zero, string_at, names_section, indexed_contents}
use Rattle.rv_object_laws.specs.Object.{Contents, Progbits, Note, Nobits, Relocation, size_of}
use Rattle.rv_object_laws.specs.Valid.{is_section_alignment, is_string, keeps_name, is_even, fits_inside, is_padding, padding_of, is_align}
use Rattle.rv_object_file_laws.specs.Parts.{FileSection, is_kept, is_named, is_executable, name_at, name_of, contents_in, extent_of}
use Rattle.rv_object_file_laws.specs.Rows.{rows_name}
use Rattle.rv_object_file_laws.specs.FirstFault.{is_none}
use Rattle.rv_object_file_laws.proofs.TestedLemmas.{padding_like}
use Rattle.rv_object_reader.proofs.WalkLemmas.{HeaderSays}

-- ---- names

pub string_ends : (bytes : List ℕ) → is_string (unwrap_or (before_zero bytes) []) ≡ true
string_ends [] = refl
string_ends (byte ∷ bytes) = go (byte == 0) refl (before_zero bytes) (string_ends bytes)
  where
    go : (b : Bool) → (byte == 0) ≡ b → (o : Option (List ℕ)) → is_string (unwrap_or o []) ≡ true →
        is_string (unwrap_or (cond b (Some []) (option_map (λ name. byte ∷ name) o)) []) ≡ true
    go true t o h = refl
    go false t None h = refl
    go false t (Some name) h = and_from _ _ (ap not t) h

pub name_string : (names : List ℕ) (offset : ℕ) → is_string (unwrap_or (name_at names offset) []) ≡ true
name_string names offset = go (offset == 0)
  where
    go : (b : Bool) → is_string (unwrap_or (cond b (Some []) (string_at names offset)) []) ≡ true
    go true = refl
    go false = string_ends (drop offset names)

pub name_ends : (file : List ℕ) (h : SectionHeader) → is_string (unwrap_or (name_of file h) []) ≡ true
name_ends file h = go (names_section file == 0)
  where
    go : (b : Bool) → is_string (unwrap_or (cond b (Some []) (name_at (indexed_contents file (names_section file)) h.sh_name)) []) ≡ true
    go true = refl
    go false = name_string (indexed_contents file (names_section file)) h.sh_name

-- ---- contents

-- the kinds of contents, from the type
abbrev pub contents_by : Bool → Bool → ℕ → List ℕ → Contents
contents_by nobits note size bytes = if nobits then Nobits size else if note then Note bytes else Progbits bytes

pub bytes_length : (file : List ℕ) (h : SectionHeader) → (h.sh_type == 8) ≡ false → is_past file h.sh_offset h.sh_size ≡ false → length (file_contents file h) ≡ h.sh_size
bytes_length file h type within =
    ap length (cond-false (is_nobits h || is_past file h.sh_offset h.sh_size) [] (take h.sh_size (drop h.sh_offset file)) (rw (type, within) refl))
    ∙ length-take h.sh_size (drop h.sh_offset file) ∙ grind (arith, nat_tests, length-drop)

size_by : (nobits note : Bool) (size : ℕ) (bytes : List ℕ) → (nobits ≡ false → length bytes ≡ size) → size_of (contents_by nobits note size bytes) ≡ size
size_by true note size bytes h = refl
size_by false true size bytes h = h refl
size_by false false size bytes h = h refl

fits_by : (nobits note : Bool) (size : ℕ) (bytes : List ℕ) → (nobits ≡ false → length bytes ≡ size) → (r : Relocation) →
    fits_inside (contents_by nobits note size bytes) r ≡ fits_inside (if nobits then Nobits size else Progbits (replicate size 0)) r
fits_by true note size bytes h r = refl
fits_by false true size bytes h r = ap (λ n. nat_le (r.place + width_of r.kind) n) (h refl ∙ sym (length-replicate {A = ℕ} size 0))
fits_by false false size bytes h r = ap (λ n. nat_le (r.place + width_of r.kind) n) (h refl ∙ sym (length-replicate {A = ℕ} size 0))

extent_size : (nobits : Bool) (size : ℕ) → size_of (if nobits then Nobits size else Progbits (replicate size 0)) ≡ size
extent_size true size = refl
extent_size false size = length-replicate {A = ℕ} size 0

pub stored_length : (file : List ℕ) (h : SectionHeader) → HeaderSays file h → (h.sh_type == 8) ≡ false → length (file_contents file h) ≡ h.sh_size
stored_length file h says type = bytes_length file h type (sym (ap (λ b. not b && is_past file h.sh_offset h.sh_size) type) ∙ says.stands)

pub size_says : (file : List ℕ) (h : SectionHeader) → HeaderSays file h → size_of (contents_in file h) ≡ h.sh_size
size_says file h says = size_by (h.sh_type == 8) (h.sh_type == 7) h.sh_size (file_contents file h) (stored_length file h says)

pub fits_says : (file : List ℕ) (h : SectionHeader) → HeaderSays file h → (r : Relocation) → fits_inside (contents_in file h) r ≡ fits_inside (extent_of h) r
fits_says file h says r = fits_by (h.sh_type == 8) (h.sh_type == 7) h.sh_size (file_contents file h) (stored_length file h says) r

pub padding_says : (file : List ℕ) (h : SectionHeader) → HeaderSays file h → (r : Relocation) →
    is_padding (is_executable h) (contents_in file h) r ≡ is_padding (is_executable h) (extent_of h) r
padding_says file h says r =
    ap (λ b. not (is_align r.kind) || b)
    (padding_like (is_executable h) (contents_in file h) (extent_of h) r.place (padding_of r.addend) (size_says file h says ∙ sym (extent_size (h.sh_type == 8) h.sh_size)))

pub even_says : (file : List ℕ) (h : SectionHeader) → HeaderSays file h → is_even (is_executable h) (contents_in file h) ≡ true
even_says file h says = ap (λ n. not (is_executable h) || (n % 2 == 0)) (size_says file h says) ∙ go (is_executable h) (h.sh_size % 2 == 0) says.even
  where
    go : (x e : Bool) → (x && not e) ≡ false → (not x || e) ≡ true
    go true true h = refl
    go true false h = absurd (true≢false h)
    go false e h = refl

-- ---- alignment

pub aligned_says : (n : ℕ) → not (n == 0 || is_section_alignment n) ≡ false → is_section_alignment (max 1 n) ≡ true
aligned_says zero h = refl
aligned_says (suc n) h = let same : max 1 (suc n) ≡ suc n = omega arith in
    let some : (suc n == 0) ≡ false = grind (arith, nat_tests) in
    ap is_section_alignment same ∙ go (is_section_alignment (suc n)) (sym (ap (λ b. not (b || is_section_alignment (suc n))) some) ∙ h)
  where
    go : (b : Bool) → not b ≡ false → b ≡ true
    go true e = refl
    go false e = absurd (true≢false e)

-- ---- the name of a kept section of bytes

kept_by : (one seven eight : Bool) (name : List ℕ) (size : ℕ) (bytes : List ℕ) → ((one && not (one && bytes_eq name rows_name)) || seven || eight) ≡ true →
    keeps_name (contents_by eight seven size bytes) name ≡ true
kept_by one seven true name size bytes h = refl
kept_by one true false name size bytes h = refl
kept_by true false false name size bytes h = go (bytes_eq name rows_name) h
  where
    go : (b : Bool) → (not b || false || false) ≡ true → not b ≡ true
    go true e = e
    go false e = refl
kept_by false false false name size bytes h = absurd (true≢false (sym h))

pub kept_says : (file : List ℕ) (s : FileSection) → HeaderSays file s.header → is_kept file s ≡ true →
    keeps_name (contents_in file s.header) (unwrap_or (name_of file s.header) []) ≡ true
kept_says file s says keeps = go (name_of file s.header) says.named keeps
  where
    go : (o : Option (List ℕ)) → is_none o ≡ false →
        (((s.header.sh_type == 1) && not ((s.header.sh_type == 1) && is_named rows_name o)) || (s.header.sh_type == 7) || (s.header.sh_type == 8)) ≡ true →
        keeps_name (contents_in file s.header) (unwrap_or o []) ≡ true
    go None n k = absurd (true≢false n)
    go (Some name) n k = kept_by (s.header.sh_type == 1) (s.header.sh_type == 7) (s.header.sh_type == 8) name s.header.sh_size (file_contents file s.header) k
