-- A kept section of a file without a fault is a section of an object.

use Rattle.std.proofs.Common.{◌≡◌, ℕ, zero, suc, ◌-◌, ◌<◌, Bool, true, false, not, ◌||◌, List, [], ◌∷◌, length, map, filter, None, refl, ap, sym, ◌∙◌, subst, cond}
use Rattle.std.specs.List.{list_all}
use Rattle.std.proofs.lemmas.Bool.{and_from}
use Rattle.std.proofs.lemmas.List.Folds.{list_all-map}
use Rattle.rv_list_laws.proofs.TestsLemmas.{all_agree}
use Rattle.rv_elf_laws.specs.Sections.{section_count, section_header_of}
use Rattle.rv_object_laws.specs.Object.{Contents, Relocation, Section}
use Rattle.rv_object_laws.specs.Valid.{is_section_alignment, is_string, keeps_name, is_even, is_loaded_alone, fit_inside, fits_inside, is_padding, are_paddings, are_all_apart, is_below}
use Rattle.rv_object_file_laws.specs.Parts.{sections, kept, is_kept, is_loaded, is_executable, contents_in, extent_of, symbol_records}
use Rattle.rv_object_file_laws.specs.FirstFault.{first_fault}
use Rattle.rv_object_file_laws.specs.ObjectOf.{section_in}
use Rattle.rv_object_reader.specs.Found.{section_at, sections_from}
use Rattle.rv_object_reader.proofs.SectionsFromLemmas.{sections_are}
use Rattle.rv_object_reader.proofs.KeptLemmas.{says_at}
use Rattle.rv_object_reader.proofs.GoodRelocationsLemmas.{all_good, collected}
use Rattle.rv_object_reader.proofs.ContentsLemmas.{name_ends, even_says, aligned_says, kept_says, fits_says, padding_says}

-- what each section of an object keeps
pub record IsValid (s : Section) : Type 0 where
  pub ends : is_string s.name ≡ true
  pub keeps : keeps_name s.contents s.name ≡ true
  pub aligned : is_section_alignment s.alignment ≡ true
  pub even : is_even s.executable s.contents ≡ true
  pub alone : is_loaded_alone s.loaded s.relocations ≡ true
  pub inside : fit_inside s.contents s.relocations ≡ true
  pub paddings : are_paddings s.executable s.contents s.relocations ≡ true

alone_by : (loaded : Bool) (rs : List Relocation) → is_loaded_alone loaded (cond loaded rs []) ≡ true
alone_by true rs = refl
alone_by false rs = refl

inside_by : (loaded : Bool) (c d : Contents) (rs : List Relocation) → ((r : Relocation) → fits_inside c r ≡ fits_inside d r) → (loaded ≡ true → list_all (fits_inside d) rs ≡ true) →
    fit_inside c (cond loaded rs []) ≡ true
inside_by true c d rs same fit = all_agree (fits_inside c) (fits_inside d) same rs ∙ fit refl
inside_by false c d rs same fit = refl

apart_by : (x : Bool) (rs : List Relocation) → (x ≡ true → are_all_apart rs ≡ true) → (not x || are_all_apart rs) ≡ true
apart_by true rs h = h refl
apart_by false rs h = refl

paddings_by : (loaded x : Bool) (c d : Contents) (rs : List Relocation) → ((r : Relocation) → is_padding x c r ≡ is_padding x d r) →
    (loaded ≡ true → list_all (is_padding x d) rs ≡ true) → (loaded ≡ true → x ≡ true → are_all_apart rs ≡ true) → are_paddings x c (cond loaded rs []) ≡ true
paddings_by true x c d rs same padded apart = and_from _ _ (all_agree (is_padding x c) (is_padding x d) same rs ∙ padded refl) (apart_by x rs (apart refl))
paddings_by false x c d rs same padded apart = apart_by x [] (λ e. refl)

pub section_valid : (file : List ℕ) → first_fault file ≡ None → (i : ℕ) → 0 < i → i < section_count file → is_kept file (section_at file i) ≡ true →
    IsValid (section_in file (section_at file i))
section_valid file none i low high keeps =
    let h = section_header_of file i in
    let says = says_at file none i low high in
    let rs = collected file i (sections file) in
    record {
      ends = name_ends file h;
      keeps = kept_says file (section_at file i) says keeps;
      aligned = aligned_says h.sh_addralign says.alignment;
      even = even_says file h says;
      alone = alone_by (is_loaded h) rs;
      inside = inside_by (is_loaded h) (contents_in file h) (extent_of h) rs (fits_says file h says) (λ e. (all_good file i none e).inside);
      paddings = paddings_by (is_loaded h) (is_executable h) (contents_in file h) (extent_of h) rs (padding_says file h says) (λ e. (all_good file i none e).padded) (λ e. (all_good file i none e).apart);
    }

-- the same, of a section that equals it
pub valid_by : (file : List ℕ) → first_fault file ≡ None → (i : ℕ) → 0 < i → i < section_count file → is_kept file (section_at file i) ≡ true →
    (s : Section) → s ≡ section_in file (section_at file i) → IsValid s
valid_by file none i low high keeps s same = subst IsValid (sym same) (section_valid file none i low high keeps)

-- each relocation of a section names a symbol below the count of symbols
abbrev pub below_symbols : ℕ → Section → Bool
below_symbols symbols s = list_all (λ r. is_below symbols r.symbol) s.relocations

below_by : (loaded : Bool) (symbols : ℕ) (rs : List Relocation) → (loaded ≡ true → list_all (λ r. is_below symbols r.symbol) rs ≡ true) →
    list_all (λ r. is_below symbols r.symbol) (cond loaded rs []) ≡ true
below_by true symbols rs h = h refl
below_by false symbols rs h = refl

indexed_from : (file : List ℕ) → first_fault file ≡ None → (n i : ℕ) →
    list_all (λ s. below_symbols (length (symbol_records file) - 1) (section_in file s)) (filter (is_kept file) (sections_from file n i)) ≡ true
indexed_from file none zero i = refl
indexed_from file none (suc n) i = go (is_kept file (section_at file i)) (indexed_from file none n (suc i))
  where
    go : (b : Bool) → list_all (λ s. below_symbols (length (symbol_records file) - 1) (section_in file s)) (filter (is_kept file) (sections_from file n (suc i))) ≡ true →
        list_all (λ s. below_symbols (length (symbol_records file) - 1) (section_in file s))
        (cond b (section_at file i ∷ filter (is_kept file) (sections_from file n (suc i))) (filter (is_kept file) (sections_from file n (suc i)))) ≡ true
    go true rest = and_from _ _ (below_by (is_loaded (section_header_of file i)) (length (symbol_records file) - 1) (collected file i (sections file)) (λ e. (all_good file i none e).below)) rest
    go false rest = rest

pub indexed : (file : List ℕ) → first_fault file ≡ None → list_all (below_symbols (length (symbol_records file) - 1)) (map (section_in file) (kept file)) ≡ true
indexed file none =
    list_all-map (below_symbols (length (symbol_records file) - 1)) (section_in file) (kept file)
    ∙ ap (λ ss. list_all (λ s. below_symbols (length (symbol_records file) - 1) (section_in file s)) (filter (is_kept file) ss)) (sections_are file)
    ∙ indexed_from file none (section_count file - 1) 1
