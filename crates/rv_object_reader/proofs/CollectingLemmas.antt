-- The lists of relocations, one for each kept section, as the sections of the file are gone through.

use Rattle.std.proofs.Common.{◌≡◌, ℕ, ◌+◌, ◌-◌, ◌<◌, ◌==◌, Bool, true, false, ◌&&◌, List, [], ◌∷◌, ◌++◌, length, map, filter, set, get_or, Option, Some, None, refl, ap, sym, ◌∙◌, arith, cond}
use Rattle.rv_object_reader.specs.SectionsFrom.{from_cut}
use Rattle.std.specs.List.{slice_get, AllByRecursion}
use Rattle.std.specs.Global.{Vec}
use Rattle.std.proofs.lemmas.Bool.{and_parts, and_from, cond-true, cond-false}
use Rattle.std.proofs.lemmas.Bool.Decides.{nat_tests}
use Rattle.std.proofs.lemmas.List.{append-nil, length-map, map-set}
use Rattle.std.proofs.lemmas.Option.{slice_get_read, slice_get_within}
use Rattle.rv_list_laws.proofs.MapLemmas.{get_map}
use Rattle.rv_list_laws.proofs.ElementsLemmas.{get_set_other, set_same}
use Rattle.rv_elf_laws.specs.declared.section_header.SectionHeader.{SectionHeader}
use Rattle.rv_elf_laws.specs.Sections.{section_count, section_header_of, file_contents, relas_in}
use Rattle.rv_object_types.specs.declared.relocation.Relocation.{Relocation as DeclaredRelocation}
use Rattle.rv_object_laws.specs.Object.{Relocation}
use Rattle.rv_object_types.specs.Parts.{relocation_of}
use Rattle.rv_object_reader.specs.Found.{section_at, sections_from, place_among_kept, place_at}
use Rattle.rv_object_file_laws.specs.FirstFault.{is_linked, is_rela_linked, first_fault}
use Rattle.rv_object_file_laws.specs.Parts.{FileSection, sections, kept, kept_at, kept_before, is_kept, is_loaded, is_rela, is_section, is_symbol_table, symbol_table, relocates, relocations_in}
use Rattle.rv_object_reader.proofs.SectionsFromLemmas.{sections_are}
use Rattle.rv_object_reader.specs.Collected.{list_so_far, lists_so_far, lists_of, lists_in}
use Rattle.rv_object_reader.proofs.GoodRelocationsLemmas.{collected, collected_append, collected_here, collected_other}
use Rattle.rv_object_reader.proofs.KeptLemmas.{kept_place, map_kept, map_unkept, says_at}
use Rattle.rv_object_reader.proofs.MadeLemmas.{kept_found}
use Rattle.rv_object_reader.proofs.SymbolCountLemmas.{no_symbols}
use Rattle.rv_object_reader.proofs.WalkLemmas.{fine, passed_find, header_says}

-- ---- one section further

-- the kept sections that are left
abbrev pub kept_left : List ℕ → ℕ → List FileSection
kept_left file i = filter (is_kept file) (sections_from file (section_count file - 1 - i) (i + 1))

pub kept_all : (file : List ℕ) → kept file ≡ kept_left file 0
kept_all file = let same : section_count file - 1 ≡ section_count file - 1 - 0 = omega arith in
    ap (filter (is_kept file)) (sections_are file ∙ ap (λ n. sections_from file n 1) same)

pub kept_here : (file : List ℕ) (i : ℕ) → i < section_count file - 1 → is_kept file (section_at file (i + 1)) ≡ true → kept_left file i ≡ section_at file (i + 1) ∷ kept_left file (i + 1)
kept_here file i below keeps =
    ap (filter (is_kept file)) (from_cut file (section_count file - 1) i below)
    ∙ cond-true (is_kept file (section_at file (i + 1))) (section_at file (i + 1) ∷ kept_left file (i + 1)) (kept_left file (i + 1)) keeps

pub kept_past : (file : List ℕ) (i : ℕ) → i < section_count file - 1 → is_kept file (section_at file (i + 1)) ≡ false → kept_left file i ≡ kept_left file (i + 1)
kept_past file i below out =
    ap (filter (is_kept file)) (from_cut file (section_count file - 1) i below)
    ∙ cond-false (is_kept file (section_at file (i + 1))) (section_at file (i + 1) ∷ kept_left file (i + 1)) (kept_left file (i + 1)) out

-- ---- lists

-- a section that names another changes nothing
list_other : (file : List ℕ) (before : List FileSection) (s t : FileSection) → relocates t.index s ≡ false → list_so_far file before t ≡ list_so_far file (before ++ s ∷ []) t
list_other file before s t other =
    ap (λ rs. cond (is_loaded t.header) rs [])
    (sym (collected_append file t.index before (s ∷ []) ∙ ap (λ rs. collected file t.index before ++ rs) (collected_other file t.index s other) ∙ append-nil (collected file t.index before)))

list_here : (file : List ℕ) (before : List FileSection) (s t : FileSection) → relocates t.index s ≡ true → is_loaded t.header ≡ true →
    list_so_far file (before ++ s ∷ []) t ≡ list_so_far file before t ++ relocations_in (relas_in (file_contents file s.header))
list_here file before s t here loaded =
    cond-true (is_loaded t.header) (collected file t.index (before ++ s ∷ [])) [] loaded
    ∙ collected_append file t.index before (s ∷ [])
    ∙ ap (λ rs. collected file t.index before ++ rs) (collected_here file t.index s here)
    ∙ ap (λ rs. rs ++ relocations_in (relas_in (file_contents file s.header))) (sym (cond-true (is_loaded t.header) (collected file t.index before) [] loaded))

list_unloaded : (file : List ℕ) (before : List FileSection) (t : FileSection) → is_loaded t.header ≡ false → list_so_far file before t ≡ []
list_unloaded file before t e = cond-false (is_loaded t.header) (collected file t.index before) [] e

names_other : (s t : FileSection) → (t.index == s.header.sh_info) ≡ false → relocates t.index s ≡ false
names_other s t other = go (is_rela s.header) (let turned : (s.header.sh_info == t.index) ≡ false = grind (arith, nat_tests) in turned)
  where
    go : (b : Bool) → (s.header.sh_info == t.index) ≡ false → (b && (s.header.sh_info == t.index)) ≡ false
    go true e = e
    go false e = refl

-- relocations of a section that is not kept
pub lists_unkept : (file : List ℕ) (before : List FileSection) (s : FileSection) → place_at file s.header.sh_info ≡ None → lists_so_far file before ≡ lists_so_far file (before ++ s ∷ [])
lists_unkept file before s e =
    map_unkept file (list_so_far file before) (list_so_far file (before ++ s ∷ [])) s.header.sh_info (go (kept_at file s.header.sh_info) e)
    (λ t other. list_other file before s t (names_other s t other))
  where
    go : (o : Option FileSection) → place_among_kept file o ≡ None → o ≡ None
    go None h = refl
    go (Some t) h = cc

-- relocations of a section that is not loaded
pub lists_unloaded : (file : List ℕ) (before : List FileSection) (s : FileSection) → is_loaded (section_header_of file s.header.sh_info) ≡ false → lists_so_far file before ≡ lists_so_far file (before ++ s ∷ [])
lists_unloaded file before s out = go (kept_at file s.header.sh_info) refl
  where
    go : (o : Option FileSection) → kept_at file s.header.sh_info ≡ o → lists_so_far file before ≡ lists_so_far file (before ++ s ∷ [])
    go None e = lists_unkept file before s (ap (place_among_kept file) e)
    go (Some t) e =
        let j = s.header.sh_info in
        let is = (kept_found file j t e).is in
        let off : is_loaded t.header ≡ false = ap (λ u. is_loaded u.header) is ∙ out in
        let same = list_unloaded file (before ++ s ∷ []) t off ∙ sym (list_unloaded file before t off) in
        sym (set_same (lists_so_far file before) (kept_before file j) (list_so_far file (before ++ s ∷ []) t)
        (get_map (list_so_far file before) (kept file) (kept_before file j) t (kept_place file j t e) ∙ ap (λ l. Some l) (sym same)))
        ∙ map_kept file (list_so_far file before) (list_so_far file (before ++ s ∷ [])) j t e (λ u other. list_other file before s u (names_other s u other))

-- the place of a kept section is among theirs
pub place_below : (file : List ℕ) (j place : ℕ) → place_at file j ≡ Some place → place < length (kept file)
place_below file j place e = go (kept_at file j) refl e
  where
    go : (o : Option FileSection) → kept_at file j ≡ o → place_among_kept file o ≡ Some place → place < length (kept file)
    go None k h = cc
    go (Some t) k h =
        let same : kept_before file t.index ≡ place = cc in
        let at : kept_before file t.index ≡ kept_before file j = ap (λ u. kept_before file u.index) (kept_found file j t k).is in
        let below = slice_get_within (kept file) (kept_before file j) t (kept_place file j t k) in
        omega (arith, below, same, at)

-- a list for each
pub lists_long : (file : List ℕ) (f : FileSection → List Relocation) (lists : List (Vec DeclaredRelocation)) → lists_in lists ≡ map f (kept file) → length lists ≡ length (kept file)
lists_long file f lists is =
    sym (length-map lists (λ (list : Vec DeclaredRelocation). map relocation_of list.items)) ∙ ap length is ∙ length-map (kept file) f

pub lists_here : (file : List ℕ) (before : List FileSection) (s : FileSection) (place : ℕ) (lists : List (Vec DeclaredRelocation)) (old new : Vec DeclaredRelocation) →
    is_rela s.header ≡ true → is_loaded (section_header_of file s.header.sh_info) ≡ true → place_at file s.header.sh_info ≡ Some place → old ≡ get_or lists place old →
    map relocation_of new.items ≡ map relocation_of old.items ++ relocations_in (relas_in (file_contents file s.header)) →
    lists_in lists ≡ lists_so_far file before → lists_in (set lists place new) ≡ lists_so_far file (before ++ s ∷ [])
lists_here file before s place lists old new rela loaded at read more was = go (kept_at file s.header.sh_info) refl at
  where
    nat_same : (n : ℕ) → (n == n) ≡ true
    nat_same n = grind (arith, nat_tests)

    plain : Vec DeclaredRelocation → List Relocation
    plain list = map relocation_of list.items

    go : (o : Option FileSection) → kept_at file s.header.sh_info ≡ o → place_among_kept file o ≡ Some place → lists_in (set lists place new) ≡ lists_so_far file (before ++ s ∷ [])
    go None k h = cc
    go (Some t) k h =
        let j = s.header.sh_info in
        let is = (kept_found file j t k).is in
        let first : kept_before file t.index ≡ place = cc in
        let same : kept_before file j ≡ place = sym (ap (λ u. kept_before file u.index) is) ∙ first in
        let names : relocates t.index s ≡ true = and_from (is_rela s.header) (j == t.index) rela (ap (λ u. j == u.index) is ∙ nat_same j) in
        let on : is_loaded t.header ≡ true = ap (λ u. is_loaded u.header) is ∙ loaded in
        let below : place < length lists = omega (arith, place_below file j place at, lists_long file (list_so_far file before) lists was) in
        let mine = get_map plain lists place old (slice_get_read lists (length lists) place old refl below read) in
        let theirs = get_map (list_so_far file before) (kept file) (kept_before file j) t (kept_place file j t k) in
        let both : Some (plain old) ≡ Some (list_so_far file before t) = sym mine ∙ ap (λ ls. slice_get ls place) was ∙ ap (slice_get (lists_so_far file before)) (sym same) ∙ theirs in
        let equal : plain old ≡ list_so_far file before t = cc in
        let grown : plain new ≡ list_so_far file (before ++ s ∷ []) t = more ∙ ap (λ rs. rs ++ relocations_in (relas_in (file_contents file s.header))) equal ∙ sym (list_here file before s t names on) in
        map-set plain lists place new ∙ ap (λ ls. set ls place (plain new)) was ∙ ap (set (lists_so_far file before) place) grown
        ∙ ap (λ p. set (lists_so_far file before) p (list_so_far file (before ++ s ∷ []) t)) (sym same)
        ∙ map_kept file (list_so_far file before) (list_so_far file (before ++ s ∷ [])) j t k (λ u other. list_other file before s u (names_other s u other))

pub lists_empty : (file : List ℕ) (s : FileSection) → [] ≡ list_so_far file [] s
lists_empty file s = go (is_loaded s.header)
  where
    go : (b : Bool) → [] ≡ cond b (collected file s.index []) []
    go true = refl
    go false = refl

-- ---- what sections name

pub linked : (file : List ℕ) → first_fault file ≡ None → (i : ℕ) → 0 < i → i < section_count file → is_linked file (section_header_of file i) ≡ true
linked file none i low high = (says_at file none i low high).links

inside : (file : List ℕ) (i : ℕ) → is_section file i ≡ true → i < section_count file
inside file i e = grind (arith, nat_tests)

pub rela_within : (file : List ℕ) (h : SectionHeader) → is_linked file h ≡ true → is_rela h ≡ true → h.sh_info < section_count file
rela_within file h links rela =
    let these : is_rela_linked file h ≡ true = sym (cond-false (is_symbol_table h) _ _ (no_symbols h.sh_type rela) ∙ cond-true (is_rela h) _ _ rela) ∙ links in
    let parts = and_parts (is_section file h.sh_link && is_section file h.sh_info) _ these in
    inside file h.sh_info (and_parts (is_section file h.sh_link) (is_section file h.sh_info) parts.0).1

pub table_within : (file : List ℕ) (h : SectionHeader) → is_linked file h ≡ true → is_symbol_table h ≡ true → h.sh_link < section_count file
table_within file h links table = inside file h.sh_link (sym (cond-true (is_symbol_table h) _ _ table) ∙ links)

pub table_linked : (file : List ℕ) → first_fault file ≡ None → (t : FileSection) → symbol_table file ≡ Some t → t.header.sh_link < section_count file
table_linked file none t e =
    let found = passed_find file (λ s. is_symbol_table s.header) t [] (sections file) (fine file none).walk e in
    table_within file t.header (header_says file found.earlier t.header found.passes.heading).links found.test

-- ---- sections made of lists

pub all_units : {X : Type 0} (xs : List X) → AllByRecursion (λ _. Unit {0}) xs
all_units [] = tt
all_units (x ∷ xs) = (tt, all_units xs)

-- the lists of the sections behind one are there
abbrev pub AreLeft : List ℕ → ℕ → List (Vec DeclaredRelocation) → Type 0
AreLeft file i lists = (j : ℕ) → i < j → (t : FileSection) → kept_at file j ≡ Some t →
    slice_get (lists_in lists) (kept_before file j) ≡ Some (list_so_far file (sections file) t)

pub left_first : (file : List ℕ) (lists : List (Vec DeclaredRelocation)) → lists_in lists ≡ lists_of file → AreLeft file 0 lists
left_first file lists is j some t k =
    ap (λ ls. slice_get ls (kept_before file j)) is ∙ get_map (list_so_far file (sections file)) (kept file) (kept_before file j) t (kept_place file j t k)

pub record PlaceAt (file : List ℕ) (j place : ℕ) : Type 0 where
  pub found : kept_at file j ≡ Some (section_at file j)
  pub before : kept_before file j ≡ place

pub place_says : (file : List ℕ) (j place : ℕ) → place_at file j ≡ Some place → PlaceAt file j place
place_says file j place e = go (kept_at file j) refl e
  where
    go : (o : Option FileSection) → kept_at file j ≡ o → place_among_kept file o ≡ Some place → PlaceAt file j place
    go None k h = cc
    go (Some t) k h =
        let is = (kept_found file j t k).is in
        let first : kept_before file t.index ≡ place = cc in
        record { found = k ∙ ap (λ u. Some u) is; before = sym (ap (λ u. kept_before file u.index) is) ∙ first }

-- the list of a section is taken
pub left_taken : (file : List ℕ) (i place : ℕ) (lists : List (Vec DeclaredRelocation)) (none : Vec DeclaredRelocation) → place_at file (i + 1) ≡ Some place → AreLeft file i lists → AreLeft file (i + 1) (set lists place none)
left_taken file i place lists none at was j above t k =
    let p = place_says file (i + 1) place at in
    ap (λ ls. slice_get ls (kept_before file j)) (map-set (λ (list : Vec DeclaredRelocation). map relocation_of list.items) lists place none)
    ∙ get_set_other (lists_in lists) place (kept_before file j) (map relocation_of none.items) (λ e. apart p e)
    ∙ was j (omega arith) t k
  where
    apart : PlaceAt file (i + 1) place → kept_before file j ≡ place → ⊥
    apart p e =
        let mine = kept_place file (i + 1) (section_at file (i + 1)) p.found in
        let theirs = kept_place file j t k in
        let both : Some (section_at file (i + 1)) ≡ Some t = sym mine ∙ ap (slice_get (kept file)) (p.before ∙ sym e) ∙ theirs in
        let same : section_at file (i + 1) ≡ t = cc in
        let index : i + 1 ≡ j = ap (λ u. u.index) same ∙ ap (λ u. u.index) (kept_found file j t k).is in
        omega (arith, index, above)

pub taken_below : (file : List ℕ) (i place : ℕ) (lists : List (Vec DeclaredRelocation)) → place_at file (i + 1) ≡ Some place → AreLeft file i lists → place < length lists
taken_below file i place lists at was =
    let p = place_says file (i + 1) place at in
    let below = slice_get_within (lists_in lists) (kept_before file (i + 1)) _ (was (i + 1) (omega arith) (section_at file (i + 1)) p.found) in
    omega (arith, below, p.before, length-map lists (λ (list : Vec DeclaredRelocation). map relocation_of list.items))

pub taken_is : (file : List ℕ) (i place : ℕ) (lists : List (Vec DeclaredRelocation)) (old : Vec DeclaredRelocation) → place_at file (i + 1) ≡ Some place → old ≡ get_or lists place old → AreLeft file i lists →
    map relocation_of old.items ≡ list_so_far file (sections file) (section_at file (i + 1))
taken_is file i place lists old at read was =
    let p = place_says file (i + 1) place at in
    let plain : Vec DeclaredRelocation → List Relocation = λ list. map relocation_of list.items in
    let mine = get_map plain lists place old (slice_get_read lists (length lists) place old refl (taken_below file i place lists at was) read) in
    let both : Some (map relocation_of old.items) ≡ Some (list_so_far file (sections file) (section_at file (i + 1))) =
    sym mine ∙ ap (slice_get (lists_in lists)) (sym p.before) ∙ was (i + 1) (omega arith) (section_at file (i + 1)) p.found in
    cc
