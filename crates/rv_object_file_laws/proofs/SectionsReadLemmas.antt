-- Sections that were written are read again.

use Rattle.std.proofs.Common.{◌≡◌, ℕ, zero, suc, ◌+◌, ◌/◌, ◌%◌, ◌≤◌, ◌==◌, max, Bool, true, false, List, [], ◌∷◌, length, map, filter, refl, ap, sym, ◌∙◌, arith, unwrap_or, if◌then◌else◌}
use Rattle.std.specs.List.{AllByRecursion}
use Rattle.std.proofs.lemmas.Bool.{eqb-true, false≢true}
use Rattle.std.proofs.lemmas.List.{nil_from_length}
use Rattle.rv_elf_laws.specs.Sections.{file_contents}
use Rattle.rv_object_laws.specs.Object.{Contents, Progbits, Note, Nobits, Relocation, Section, stored, size_of}
use Rattle.rv_object_laws.specs.Valid.{is_section_alignment, is_loaded_alone}
use Rattle.rv_object_file_laws.specs.Parts.{sections, is_loaded, contents_in, relocates, relas_of, relocations_in}
use Rattle.rv_object_file_laws.specs.ObjectOf.{section_in}
use Rattle.rv_object_file_laws.specs.Known.{IsSection}
use Rattle.rv_size_laws.specs.Alignment.{aligned}
use Rattle.rv_object_file_laws.specs.Written.{kind_of, flag_if, section_piece, header_of, rela_of}
use Rattle.rv_object_file_laws.proofs.LaidLemmas.{listed, Shows, AllShow}
use Rattle.rv_object_file_laws.proofs.GroupsLemmas.{entry}
use Rattle.rv_object_file_laws.proofs.RelocatedLemmas.{relas_at, relas_here, relas_later, relocations_back}

pub flag_bits : (w l x : Bool) →
    (((flag_if w 1 + flag_if l 2 + flag_if x 4) / 2 % 2 == 1) ≡ l)
    × (((flag_if w 1 + flag_if l 2 + flag_if x 4) / 4 % 2 == 1) ≡ x)
    × (((flag_if w 1 + flag_if l 2 + flag_if x 4) / 1 % 2 == 1) ≡ w)
flag_bits true true true = (refl, refl, refl)
flag_bits true true false = (refl, refl, refl)
flag_bits true false true = (refl, refl, refl)
flag_bits true false false = (refl, refl, refl)
flag_bits false true true = (refl, refl, refl)
flag_bits false true false = (refl, refl, refl)
flag_bits false false true = (refl, refl, refl)
flag_bits false false false = (refl, refl, refl)

pub alignment_above : (n : ℕ) → is_section_alignment n ≡ true → max 1 n ≡ n
alignment_above zero h = absurd (false≢true h)
alignment_above (suc n) h = omega arith

abbrev contents_made : ℕ → ℕ → List ℕ → Contents
contents_made kind size bytes = if kind == 8 then Nobits size else if kind == 7 then Note bytes else Progbits bytes

-- the contents of a section of this kind
pub contents_back : (file : List ℕ) (names : List (List ℕ)) (i at : ℕ) (s : Section) (c : Contents) → s.contents ≡ c →
    Shows file names i at (section_piece s) → contents_in file (header_of names at (section_piece s)) ≡ c
contents_back file names i at s (Progbits bytes) e shows =
    (λ j. contents_made (kind_of (e j)) (size_of (e j)) (file_contents file (header_of names at (section_piece s))))
    ∙ ap (λ b. Progbits b) (shows.contents (ap (λ c. kind_of c == 8) e) ∙ ap stored e)
contents_back file names i at s (Note bytes) e shows =
    (λ j. contents_made (kind_of (e j)) (size_of (e j)) (file_contents file (header_of names at (section_piece s))))
    ∙ ap (λ b. Note b) (shows.contents (ap (λ c. kind_of c == 8) e) ∙ ap stored e)
contents_back file names i at s (Nobits size) e shows =
    (λ j. contents_made (kind_of (e j)) (size_of (e j)) (file_contents file (header_of names at (section_piece s))))

pub fields_back : (loaded : Bool) (rs : List Relocation) → is_loaded_alone loaded rs ≡ true → (if loaded then rs else []) ≡ rs
fields_back true rs h = refl
fields_back false rs h = sym (nil_from_length rs (eqb-true (length rs) 0 h))

pub section_back : (file : List ℕ) (names : List (List ℕ)) (i at : ℕ) (s : Section) → Shows file names i at (section_piece s) → IsSection s →
    relas_of file (filter (relocates i) (sections file)) ≡ map rela_of s.relocations →
    section_in file (entry names i at (section_piece s)) ≡ s
section_back file names i at s shows sound relas =
    let bits = flag_bits s.writable s.loaded s.executable in
    let fields : (if is_loaded (header_of names at (section_piece s)) then relocations_in (relas_of file (filter (relocates i) (sections file))) else []) ≡ s.relocations =
    (λ j. if bits.0 j then relocations_in (relas j) else []) ∙ ap (λ rs. if s.loaded then rs else []) (relocations_back s.relocations)
    ∙ fields_back s.loaded s.relocations sound.alone in
    let contents = contents_back file names i at s s.contents refl shows in
    let alignment = alignment_above s.alignment sound.aligned in
    (λ j. record {
      name = unwrap_or (shows.name j) [];
      loaded = bits.0 j;
      executable = bits.1 j;
      writable = bits.2 j;
      contents = contents j;
      alignment = alignment j;
      relocations = fields j;
    })

pub sections_back : (file : List ℕ) (names : List (List ℕ)) (i at : ℕ) (ss : List Section) → AllShow file names i at (map section_piece ss) → AllByRecursion IsSection ss →
    ((k : ℕ) → i ≤ k → relas_of file (filter (relocates k) (sections file)) ≡ relas_at i ss k) →
    map (section_in file) (listed names i at (map section_piece ss)) ≡ ss
sections_back file names i at [] shows sound relas = refl
sections_back file names i at (s ∷ ss) shows sound relas =
    let next = aligned 8 at + length (stored s.contents) in
    let first = section_back file names i at s shows.0 sound.0 (relas i (omega arith) ∙ relas_here i s ss) in
    let rest = sections_back file names (suc i) next ss shows.1 sound.1 (λ k above. relas k (omega arith) ∙ relas_later i s ss k (omega arith)) in
    (λ j. first j ∷ rest j)
