-- Where the contents and the headers of a written file stand.

use Rattle.std.proofs.Common.{◌≡◌, ℕ, suc, ◌+◌, ◌-◌, ◌*◌, ◌<◌, ◌≤◌, ◌^◌, ◌==◌, false, ◌||◌, List, [], ◌∷◌, ◌++◌, length, take, drop, flat_map, Some, refl, ap, sym, subst, ◌∙◌, append_assoc, arith}
use Rattle.std.specs.List.{AllByRecursion}
use Rattle.std.proofs.lemmas.Bool.{cond-false, or_from}
use Rattle.std.proofs.lemmas.List.{drop-drop, drop_at, take_at, length-append, length-replicate, length-drop, map-id}
use Rattle.rv_elf_laws.specs.declared.section_header.SectionHeader.{SectionHeader}
use Rattle.rv_elf_laws.specs.Fields.{number_in, e_shoff, section_header_size}
use Rattle.rv_elf_laws.specs.ReadBack.{FitsSectionHeader, section_header_there}
use Rattle.rv_elf_laws.specs.Records.{section_header_at, section_header_bytes}
use Rattle.rv_elf_laws.specs.Sections.{records, is_past, is_nobits, file_contents, section_header_of, section_count}
use Rattle.rv_object_file_laws.specs.Parts.{FileSection, numbered, sections, name_of}
use Rattle.rv_size_laws.specs.Alignment.{aligned}
use Rattle.rv_elf_laws.proofs.SectionsLemmas.{not_past}
use Rattle.rv_object_file_laws.specs.Written.{table_of, UnplacedSection, zeros_at, contents_from, headers_offset, header_of, headers_from}
use Rattle.rv_object_file_laws.proofs.StringsLemmas.{name_offset_within}
use Rattle.rv_object_file_laws.proofs.RecordsLemmas.{length-section_header, records_back}

pub aligned_up : (at : ℕ) → at ≤ aligned 8 at
aligned_up at = omega arith

-- where the contents of these pieces end, before they are filled up to a multiple of 8
abbrev pub after : ℕ → List UnplacedSection → ℕ
after at [] = at
after at (p ∷ ps) = after (aligned 8 at + length p.bytes) ps

pub end_after : (at : ℕ) (ps : List UnplacedSection) → at ≤ headers_offset at ps
end_after at [] = aligned_up at
end_after at (p ∷ ps) = omega (arith, aligned_up at, end_after (aligned 8 at + length p.bytes) ps)

length-zeros : (at : ℕ) → length (zeros_at at) ≡ aligned 8 at - at
length-zeros at = length-replicate {A = ℕ} (aligned 8 at - at) 0

pub length-contents : (at : ℕ) (ps : List UnplacedSection) → at + length (contents_from at ps) ≡ headers_offset at ps
length-contents at [] = omega (arith, length-zeros at, aligned_up at)
length-contents at (p ∷ ps) =
    let next = aligned 8 at + length p.bytes in
    omega (
      arith,
      length-zeros at,
      aligned_up at,
      length-contents next ps,
      length-append (zeros_at at) (p.bytes ++ contents_from next ps),
      length-append p.bytes (contents_from next ps),
    )

-- ---- contents

-- the file has the bytes of a piece at its place
pub record Stands (file : List ℕ) (at : ℕ) (p : UnplacedSection) : Type 0 where
  pub within : aligned 8 at + length p.bytes ≤ length file
  pub bytes : take (length p.bytes) (drop (aligned 8 at) file) ≡ p.bytes

abbrev pub AllStand : List ℕ → ℕ → List UnplacedSection → Type 0
AllStand file at [] = Unit {0}
AllStand file at (p ∷ ps) = Stands file at p × AllStand file (aligned 8 at + length p.bytes) ps

pub all_stand : (file rest : List ℕ) (at : ℕ) (ps : List UnplacedSection) → at ≤ length file → drop at file ≡ contents_from at ps ++ rest → AllStand file at ps
all_stand file rest at [] long here = tt
all_stand file rest at (p ∷ ps) long here =
    let next = aligned 8 at + length p.bytes in
    let tail : List ℕ = contents_from next ps ++ rest in
    let whole : drop at file ≡ zeros_at at ++ (p.bytes ++ tail) =
    here ∙ append_assoc (zeros_at at) (p.bytes ++ contents_from next ps) rest ∙ ap (λ t. zeros_at at ++ t) (append_assoc p.bytes (contents_from next ps) rest) in
    let up : at + (aligned 8 at - at) ≡ aligned 8 at = omega (arith, aligned_up at) in
    let there : drop (aligned 8 at) file ≡ p.bytes ++ tail =
    ap (λ n. drop n file) (sym up) ∙ sym (drop-drop (aligned 8 at - at) at file) ∙ ap (drop (aligned 8 at - at)) whole
    ∙ drop_at (zeros_at at) (p.bytes ++ tail) (aligned 8 at - at) (length-zeros at) in
    let behind : drop next file ≡ tail =
    sym (drop-drop (length p.bytes) (aligned 8 at) file) ∙ ap (drop (length p.bytes)) there ∙ drop_at p.bytes tail (length p.bytes) refl in
    let room : length file ≡ at + ((aligned 8 at - at) + (length p.bytes + length tail)) =
    omega (arith, length-drop at file, ap length whole, length-append (zeros_at at) (p.bytes ++ tail), length-append p.bytes tail, length-zeros at) in (
      record { within = omega (arith, aligned_up at); bytes = ap (take (length p.bytes)) there ∙ take_at p.bytes tail (length p.bytes) refl },
      all_stand file rest next ps (omega (arith, aligned_up at)) behind,
    )

-- ---- headers

-- what the fields of a header hold of a piece
pub record FitsPiece (p : UnplacedSection) : Type 0 where
  pub kind : p.kind < 2 ^ 32
  pub flags : p.flags < 2 ^ 64
  pub size : p.size < 2 ^ 64
  pub link : p.link < 2 ^ 32
  pub info : p.info < 2 ^ 32
  pub alignment : p.alignment < 2 ^ 64
  pub entry_size : p.entry_size < 2 ^ 64

-- the section headers of this index and those after it, as the file has them
abbrev pub Headed : List ℕ → ℕ → List SectionHeader → Type 0
Headed file i [] = Unit {0}
Headed file i (h ∷ hs) = (section_header_of file i ≡ h) × Headed file (suc i) hs

pub all_headed : (file rest : List ℕ) (i : ℕ) (hs : List SectionHeader) → AllByRecursion FitsSectionHeader hs →
    drop (number_in e_shoff 0 file + section_header_size * i) file ≡ flat_map section_header_bytes hs ++ rest → Headed file i hs
all_headed file rest i [] fits here = tt
all_headed file rest i (h ∷ hs) fits here =
    let place = number_in e_shoff 0 file + section_header_size * i in
    let tail : List ℕ = flat_map section_header_bytes hs ++ rest in
    let whole : drop place file ≡ section_header_bytes h ++ tail = here ∙ append_assoc (section_header_bytes h) (flat_map section_header_bytes hs) rest in
    let next : number_in e_shoff 0 file + section_header_size * suc i ≡ place + 64 = omega arith in
    let behind : drop (number_in e_shoff 0 file + section_header_size * suc i) file ≡ tail =
    ap (λ n. drop n file) next ∙ sym (drop-drop 64 place file) ∙ ap (drop 64) whole ∙ drop_at (section_header_bytes h) tail 64 (length-section_header h) in
    (section_header_there h place file tail fits.0 whole, all_headed file rest (suc i) hs fits.1 behind)

-- the sections of a file whose table of headers begins with the header of section 0
pub sections_are : (file null rest : List ℕ) (place : ℕ) (hs : List SectionHeader) → AllByRecursion FitsSectionHeader hs → length null ≡ 64 →
    number_in e_shoff 0 file ≡ place → section_count file ≡ suc (length hs) →
    drop place file ≡ null ++ (flat_map section_header_bytes hs ++ rest) → sections file ≡ numbered 1 hs
sections_are file null rest place hs fits size start count here =
    let behind : drop (place + 64) file ≡ flat_map section_header_bytes hs ++ rest =
    sym (drop-drop 64 place file) ∙ ap (drop 64) here ∙ drop_at null (flat_map section_header_bytes hs ++ rest) 64 size in
    let all : records section_header_at 64 (length hs) (place + 64) file ≡ hs =
    records_back section_header_at 64 section_header_bytes (λ h. h) FitsSectionHeader length-section_header section_header_there hs (place + 64) file rest fits behind ∙ map-id hs in
    (λ i. drop 1 (numbered 0 (records section_header_at 64 (count i) (start i) file))) ∙ ap (numbered 1) all

pub headers_fit : (names : List (List ℕ)) (at : ℕ) (ps : List UnplacedSection) → length (table_of names) < 2 ^ 32 → AllByRecursion FitsPiece ps → headers_offset at ps < 2 ^ 64 →
    AllByRecursion FitsSectionHeader (headers_from names at ps)
headers_fit names at [] small fits room = tt
headers_fit names at (p ∷ ps) small fits room =
    let next = aligned 8 at + length p.bytes in (
      record {
        sh_name = omega (arith, small, name_offset_within names p.name);
        sh_type = fits.0.kind;
        sh_flags = fits.0.flags;
        sh_addr = omega arith;
        sh_offset = omega (arith, room, end_after next ps);
        sh_size = fits.0.size;
        sh_link = fits.0.link;
        sh_info = fits.0.info;
        sh_addralign = fits.0.alignment;
        sh_entsize = fits.0.entry_size;
      },
      headers_fit names next ps small fits.1 room,
    )

pub length-headers : (names : List (List ℕ)) (at : ℕ) (ps : List UnplacedSection) → length (headers_from names at ps) ≡ length ps
length-headers names at [] = refl
length-headers names at (p ∷ ps) = ap suc (length-headers names (aligned 8 at + length p.bytes) ps)

-- ---- the sections of these pieces, from an index and a place on

abbrev pub listed : List (List ℕ) → ℕ → ℕ → List UnplacedSection → List FileSection
listed names i at ps = numbered i (headers_from names at ps)

pub listed-append : (names : List (List ℕ)) (i at : ℕ) (ps qs : List UnplacedSection) →
    listed names i at (ps ++ qs) ≡ listed names i at ps ++ listed names (i + length ps) (after at ps) qs
listed-append names i at [] qs = let none : i ≡ i + 0 = omega arith in ap (λ n. listed names n at qs) none
listed-append names i at (p ∷ ps) qs =
    let next = aligned 8 at + length p.bytes in
    let step : suc i + length ps ≡ i + suc (length ps) = omega arith in
    ap (λ ss. record { index = i; header = header_of names at p } ∷ ss) (listed-append names (suc i) next ps qs ∙ ap (λ n. listed names (suc i) next ps ++ listed names n (after next ps) qs) step)

-- what is read of the section that a piece became
pub record Shows (file : List ℕ) (names : List (List ℕ)) (i at : ℕ) (p : UnplacedSection) : Type 0 where
  pub of : section_header_of file i ≡ header_of names at p
  pub name : name_of file (header_of names at p) ≡ Some p.name
  pub past : is_nobits (header_of names at p) ≡ false → is_past file (aligned 8 at) p.size ≡ false
  pub contents : is_nobits (header_of names at p) ≡ false → file_contents file (header_of names at p) ≡ p.bytes

abbrev pub AllShow : List ℕ → List (List ℕ) → ℕ → ℕ → List UnplacedSection → Type 0
AllShow file names i at [] = Unit {0}
AllShow file names i at (p ∷ ps) = Shows file names i at p × AllShow file names (suc i) (aligned 8 at + length p.bytes) ps

-- a piece with bytes in the file says how many
abbrev pub IsSized : UnplacedSection → Type 0
IsSized p = (p.kind == 8) ≡ false → p.size ≡ length p.bytes

abbrev pub AllNamed : List ℕ → List (List ℕ) → ℕ → List UnplacedSection → Type 0
AllNamed file names at [] = Unit {0}
AllNamed file names at (p ∷ ps) = (name_of file (header_of names at p) ≡ Some p.name) × AllNamed file names (aligned 8 at + length p.bytes) ps

one_shows : (file : List ℕ) (names : List (List ℕ)) (i at : ℕ) (p : UnplacedSection) → Stands file at p → IsSized p →
    section_header_of file i ≡ header_of names at p → name_of file (header_of names at p) ≡ Some p.name → Shows file names i at p
one_shows file names i at p stands sized of name =
    let past : is_nobits (header_of names at p) ≡ false → is_past file (aligned 8 at) p.size ≡ false =
    (λ e. ap (is_past file (aligned 8 at)) (sized e) ∙ not_past file (aligned 8 at) (length p.bytes) stands.within) in
    record {
      of = of;
      name = name;
      past = past;
      contents = λ e. cond-false (is_nobits (header_of names at p) || is_past file (aligned 8 at) p.size) [] (take p.size (drop (aligned 8 at) file)) (or_from _ _ e (past e))
          ∙ ap (λ n. take n (drop (aligned 8 at) file)) (sized e) ∙ stands.bytes;
    }

pub all_show : (file : List ℕ) (names : List (List ℕ)) (i at : ℕ) (ps : List UnplacedSection) → AllStand file at ps → AllByRecursion IsSized ps →
    Headed file i (headers_from names at ps) → AllNamed file names at ps → AllShow file names i at ps
all_show file names i at [] stand sized headed named = tt
all_show file names i at (p ∷ ps) stand sized headed named =
    (one_shows file names i at p stand.0 sized.0 headed.0 named.0, all_show file names (suc i) (aligned 8 at + length p.bytes) ps stand.1 sized.1 headed.1 named.1)

pub show-append : (file : List ℕ) (names : List (List ℕ)) (i at : ℕ) (ps qs : List UnplacedSection) → AllShow file names i at (ps ++ qs) →
    AllShow file names i at ps × AllShow file names (i + length ps) (after at ps) qs
show-append file names i at [] qs h = let none : i ≡ i + 0 = omega arith in (tt, subst (λ n. AllShow file names n at qs) none h)
show-append file names i at (p ∷ ps) qs h =
    let next = aligned 8 at + length p.bytes in
    let rest = show-append file names (suc i) next ps qs h.1 in
    let step : suc i + length ps ≡ i + suc (length ps) = omega arith in
    ((h.0, rest.0), subst (λ n. AllShow file names n (after next ps) qs) step rest.1)
