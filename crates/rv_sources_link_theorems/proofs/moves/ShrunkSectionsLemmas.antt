-- A section of an object with the linker's moves made is that of its source, with the least paddings.

use Rattle.std.proofs.Common.{◌≡◌, ℕ, zero, suc, ◌+◌, ◌-◌, ◌%◌, ◌≤◌, ◌<◌, Bool, true, false, List, [], ◌∷◌, ◌++◌, length, map, refl, sym, ap, ◌∙◌, subst, arith, ◌⊎◌, inl, inr}
use Rattle.std.proofs.lemmas.Bool.{and_parts, and_left}
use Rattle.std.specs.Prelude.{◌&&◌, max, if◌then◌else◌, filter, flat_map}
use Rattle.std.specs.List.{AllByRecursion}
use Rattle.rv_list_laws.proofs.EachLemmas.{each_split, each_append}
use Rattle.rv_size_laws.specs.Alignment.{aligned}
use Rattle.rv_isa_laws.specs.Bytes.{zeros}
use Rattle.rv_statement_laws.specs.Statement.{StatementKind, Label, Numbered, Instruction, Directs, Enters, Opens, Binds, Sets, Chooses, Ignored, Aligns, Emits}
use Rattle.rv_unit_laws.specs.declared.section_type.SectionType.{SectionType}
use Rattle.rv_unit_laws.specs.declared.section_type.SectionType.TheVariants as types
use Rattle.rv_unit_laws.specs.Sections.{Section as SourceSection, is_nobits_type, goes_to_text as source_text}
use Rattle.rv_unit_laws.specs.Tables.{Tables}
use Rattle.rv_object_laws.specs.Object.{Contents, Progbits, Note, Nobits, Section, Symbol, size_of}
use Rattle.rv_object_laws.specs.Padding.{no_operations}
use Rattle.rv_link_laws.specs.Moves.{Move, alignments_of, by_place, dropped, new_offset, kept, has_padding, plan, moves, lost}
use Rattle.rv_link_laws.specs.Inputs.{goes_to_text, raised, begins_at}
use Rattle.rv_link_laws.specs.Values.{initial_bytes}
use Rattle.rv_assemble_laws.specs.Templates.{Template, Fixed, Coded, Open, IsTemplate, padding_templates}
use Rattle.rv_assemble_laws.specs.LaidStatements.{LaidStatement, LaidPart, expression_value, laid_part, part_bytes, laid_in, end_of, HasSize}
use Rattle.rv_assemble_laws.specs.Symbols.{references_in}
use Rattle.rv_assemble_laws.specs.IsObjectOf.{Numbering, IsNumbered, ArePartsNumbered, contents_of, relocations_from}
use Rattle.rv_assemble_laws.proofs.FilledLemmas.{bytes_append}
use Rattle.rv_sources_link_theorems.proofs.statements.OrderedLemmas.{filled}
use Rattle.rv_sources_link_theorems.proofs.sections.AssembledLemmas.{parts_of, parts, assembled_templates, Tile, IsSectionOf}
use Rattle.rv_sources_link_theorems.proofs.statements.SettledLemmas.{IsLaidIn}
use Rattle.rv_sources_link_theorems.proofs.sections.SectionsLemmas.{multiple_from}
use Rattle.rv_sources_link_theorems.proofs.moves.ShrunkLemmas as shrunk
use Rattle.rv_sources_link_theorems.proofs.moves.ShrinkingLemmas.{shrunk_relocations, shrunk_contents, shrunk_section, none_left}
use Rattle.rv_sources_link_theorems.proofs.moves.ShrunkLinkLemmas.{IsTidy}
use Rattle.rv_sources_link_theorems.proofs.statements.PadsLemmas.{sort_of}
use Rattle.rv_sources_link_theorems.proofs.moves.WalkLemmas as walk
use Rattle.rv_sources_link_theorems.proofs.moves.WalkLemmas.{pads, pads_plain, in_order}
use Rattle.rv_sources_link_theorems.proofs.statements.CountedLemmas.{bytes_with, Stays, IsCounted, counted_all, bytes_stay}
use Rattle.rv_sources_link_theorems.proofs.moves.SteppedLemmas.{Steps, tiled, ended, bytes_kept, relocations_kept, sizes_kept, parts_kept, evens_kept, raised_none}

-- ---- a statement

-- a statement with the moves of its section made
abbrev pub laid_with : List Move → LaidStatement → LaidStatement
laid_with ms z = record {
  located = z.located;
  offset = new_offset ms z.offset;
  bytes = new_offset ms (z.offset + z.bytes) - new_offset ms z.offset;
  instructions = z.instructions - lost ms z.offset z.bytes;
  coded = z.coded;
}

laid_stays : (z : LaidStatement) → laid_with [] z ≡ z
laid_stays z =
    let mk : ℕ → ℕ → ℕ → LaidStatement = λ a b c. record { located = z.located; offset = a; bytes = b; instructions = c; coded = z.coded } in
    let e : z.offset - 0 ≡ z.offset = omega arith in
    let f : (z.offset + z.bytes - 0) - (z.offset - 0) ≡ z.bytes = omega arith in
    let g : z.instructions - 0 ≡ z.instructions = omega arith in
    ap (λ n. mk n ((z.offset + z.bytes - 0) - (z.offset - 0)) (z.instructions - 0)) e ∙ ap (λ n. mk z.offset n (z.instructions - 0)) f ∙ ap (mk z.offset z.bytes) g

laid_stay : (zs : List LaidStatement) → map (laid_with []) zs ≡ zs
laid_stay [] = refl
laid_stay (z ∷ zs) = ap (λ y. y ∷ map (laid_with []) zs) (laid_stays z) ∙ ap (λ l. z ∷ l) (laid_stay zs)

-- the templates of a statement where it stays, with and without the mark of a padding
abbrev Alike : List Template → List Template → Type 0
Alike after before = (after ≡ before) ⊎ ((bytes : List ℕ) × ((fs : List Open) × (after ≡ Fixed bytes ∷ []) × (before ≡ Coded bytes fs ∷ [])))

padding_alike : (b : Bool) (o n : ℕ) → Alike (shrunk.padding_templates b n) (padding_templates b o n)
padding_alike true o zero = inl refl
padding_alike true o (suc n) = inr (no_operations (suc n), (_, refl, refl))
padding_alike false o n = inl refl

alike : (t : Tables) (z : LaidStatement) (kind : StatementKind) → Alike (shrunk.shrunk_templates t z kind) (assembled_templates t z kind)
alike t z (Label name) = inl refl
alike t z (Numbered number) = inl refl
alike t z (Instruction m os) = inl refl
alike t z (Directs (Aligns form e)) = padding_alike z.located.home.executable z.located.ordinal z.bytes
alike t z (Directs (Emits contents)) = inl refl
alike t z (Directs (Enters opened)) = inl refl
alike t z (Directs (Opens name flags k)) = inl refl
alike t z (Directs (Binds binding names)) = inl refl
alike t z (Directs (Sets name e)) = inl refl
alike t z (Directs (Chooses choice)) = inl refl
alike t z (Directs Ignored) = inl refl

bytes_alike : (o : ℕ) (after before : List Template) → Alike after before → flat_map part_bytes (map (laid_part o) after) ≡ flat_map part_bytes (map (laid_part o) before)
bytes_alike o after before (inl e) = ap (λ l. flat_map part_bytes (map (laid_part o) l)) e
bytes_alike o after before (inr (bytes, (fs, e, f))) =
    ap (λ l. flat_map part_bytes (map (laid_part o) l)) e ∙ sym (ap (λ l. flat_map part_bytes (map (laid_part o) l)) f)

parts_alike : (P : LaidPart → Type 0) → ((ordinal : ℕ) (bytes : List ℕ) → P (laid_part ordinal (Fixed bytes))) → (o : ℕ) (after before : List Template) → Alike after before
    → AllByRecursion P (map (laid_part o) before) → AllByRecursion P (map (laid_part o) after)
parts_alike P fixed o after before (inl e) h = subst (λ l. AllByRecursion P (map (laid_part o) l)) (sym e) h
parts_alike P fixed o after before (inr (bytes, (fs, e, f))) h = subst (λ l. AllByRecursion P (map (laid_part o) l)) (sym e) (fixed o bytes, tt)

module _ (t : Tables) where
  own_bytes : (z : LaidStatement) → flat_map part_bytes (shrunk.parts_of t z) ≡ flat_map part_bytes (parts_of t z)
  own_bytes z = bytes_alike z.located.ordinal (shrunk.shrunk_templates t z z.located.kind) (assembled_templates t z z.located.kind) (alike t z z.located.kind)

  all_bytes : (zs : List LaidStatement) → flat_map part_bytes (shrunk.parts t zs) ≡ flat_map part_bytes (parts t zs)
  all_bytes [] = refl
  all_bytes (z ∷ zs) =
      bytes_append (shrunk.parts_of t z) (shrunk.parts t zs) ∙ ap (λ l. l ++ flat_map part_bytes (shrunk.parts t zs)) (own_bytes z)
      ∙ ap (λ l. flat_map part_bytes (parts_of t z) ++ l) (all_bytes zs) ∙ sym (bytes_append (parts_of t z) (parts t zs))

  tile_stays : (o : ℕ) (zs : List LaidStatement) → Tile t o zs → shrunk.Tile t o zs
  tile_stays o [] tile = tt
  tile_stays o (z ∷ zs) (off, bytes, tile) = (off, bytes ∙ ap length (sym (own_bytes z)), tile_stays (o + z.bytes) zs tile)

  parts_stay : (P : LaidPart → Type 0) → ((ordinal : ℕ) (bytes : List ℕ) → P (laid_part ordinal (Fixed bytes))) → (zs : List LaidStatement) → AllByRecursion P (parts t zs) → AllByRecursion P (shrunk.parts t zs)
  parts_stay P fixed [] h = tt
  parts_stay P fixed (z ∷ zs) h =
      let both = each_split P (parts_of t z) (parts t zs) h in
      each_append P (shrunk.parts_of t z) (shrunk.parts t zs)
      (parts_alike P fixed z.located.ordinal (shrunk.shrunk_templates t z z.located.kind) (assembled_templates t z z.located.kind) (alike t z z.located.kind) both.0) (parts_stay P fixed zs both.1)

-- ---- contents

contents_stay : (c : Contents) → shrunk_contents [] c ≡ c
contents_stay (Progbits bytes) = refl
contents_stay (Note bytes) = refl
contents_stay (Nobits n) = ap Nobits (let e : n - 0 ≡ n = omega arith in e)

tidy_none : (ms : List Move) (c : Contents) → ms ≡ [] → (size_of (shrunk_contents ms c) ≡ new_offset ms (size_of c)) × (initial_bytes (shrunk_contents ms c) ≡ kept 0 ms (initial_bytes c))
tidy_none ms c e =
    subst (λ l. (size_of (shrunk_contents l c) ≡ new_offset l (size_of c)) × (initial_bytes (shrunk_contents l c) ≡ kept 0 l (initial_bytes c))) (sym e)
    (ap size_of (contents_stay c) ∙ (let n = size_of c in let f : n ≡ n - 0 = omega arith in f), ap initial_bytes (contents_stay c))

pub none_long : (xs : List ℕ) → length xs ≡ 0 → xs ≡ []
none_long [] e = refl
none_long (x ∷ xs) e = absurd (omega (arith, e))

-- ---- a section

module _ (t : Tables) (laid laid' : List LaidStatement) (number : Numbering) (symbols symbols' : List Symbol) (j start : ℕ) (s : SourceSection) (x : Section)
    (h : IsSectionOf t laid number symbols j s (laid_in j laid) x) (inside : AllByRecursion (IsLaidIn j s) (laid_in j laid))
    (begun : goes_to_text x ≡ true → (stop : ℕ) × (start ≡ aligned (begins_at x) stop))
    (same : laid_in j laid' ≡ map (laid_with (moves start x)) (laid_in j laid))
    (stands : (p : LaidPart) → AllByRecursion (IsNumbered t laid number symbols) (references_in p) → AllByRecursion (IsNumbered t laid' number symbols') (references_in p)) where
  abbrev zs : List LaidStatement
  zs = laid_in j laid

  abbrev zs' : List LaidStatement
  zs' = map (laid_with (moves start x)) zs

  abbrev ms : List Move
  ms = moves start x

  abbrev M : ℕ
  M = max (if goes_to_text x then 2 else 1) x.alignment

  abbrev Sorted : LaidStatement → Type 0
  Sorted z = walk.Sorted t number s x.alignment z

  sorted_from : (o : ℕ) (ys : List LaidStatement) → AllByRecursion (IsLaidIn j s) ys → Tile t o ys
      → AllByRecursion (λ z. z.located.placed ≡ true → HasSize (expression_value t z.located) z x.alignment z.located.kind) ys → AllByRecursion Sorted ys
  sorted_from o [] i tile sz = tt
  sorted_from o (z ∷ ys) (i, is) (off, bytes, tile) (sz, szs) = (sort_of t s x.alignment z i.home j i bytes sz, sorted_from (o + z.bytes) ys is tile szs)

  sorted : AllByRecursion Sorted zs
  sorted = sorted_from 0 zs inside h.tile h.sizes

  -- without an executable section there are none
  aside_none : s.executable ≡ false → (o : ℕ) (ys : List LaidStatement) → Tile t o ys → AllByRecursion Sorted ys → pads t number o ys ≡ []
  aside_none e o [] tile sz = refl
  aside_none e o (z ∷ ys) (off, bytes, tile) (inl k, ks) = pads_plain t number s x.alignment o z ys bytes k ∙ aside_none e (o + z.bytes) ys tile ks
  aside_none e o (z ∷ ys) (off, bytes, tile) (inr k, ks) = let f : true ≡ false = sym k.code ∙ e in absurd (cc)

  relocations_are : s.loaded ≡ true → x.relocations ≡ relocations_from number 0 (parts t zs)
  relocations_are l = h.relocations ∙ ap (λ b. if b then relocations_from number 0 (parts t zs) else []) l

  in_text : s.loaded ≡ true → by_place (filter has_padding x.relocations) ≡ pads t number 0 zs
  in_text l = ap (λ rs. by_place (filter has_padding rs)) (relocations_are l) ∙ in_order t number s x.alignment 0 zs h.tile sorted

  flags : (x.loaded && x.executable) ≡ (s.loaded && s.executable)
  flags = ap (λ b. b && x.executable) h.loaded ∙ ap (λ b. s.loaded && b) h.executable

  -- the section's own alignment is the greatest
  raised_same : raised (alignments_of x) M ≡ M
  raised_same = go (x.loaded && x.executable) refl
    where
      low : x.alignment ≤ M
      low = let k = if goes_to_text x then 2 else 1 in let n = x.alignment in let e : n ≤ max k n = omega arith in e

      go : (b : Bool) → (x.loaded && x.executable) ≡ b → raised (if b then by_place (filter has_padding x.relocations) else []) M ≡ M
      go false e = refl
      go true e =
          ap (λ rs. raised rs M) (in_text (and_parts s.loaded s.executable (sym flags ∙ e)).0)
          ∙ raised_none t number s x.alignment M h.some low 0 zs h.tile sorted

  begins : s.loaded ≡ true → (m : ℕ) → 0 < m → x.alignment % m ≡ 0 → s.executable ≡ true → start % m ≡ 0
  begins l m some divides code =
      let text : goes_to_text x ≡ true = flags ∙ ap (λ b. b && s.executable) l ∙ code in
      let (stop, at) = begun text in
      ap (λ n. n % m) (at ∙ ap (λ n. aligned n stop) raised_same) ∙ multiple_from (goes_to_text x) m x.alignment stop some h.some divides

  -- ---- one with an address

  module _ (l : s.loaded ≡ true) where
    moves_are : ms ≡ plan start 0 (pads t number 0 zs)
    moves_are = ap (plan start 0) (ap (λ b. if b then by_place (filter has_padding x.relocations) else []) (flags ∙ ap (λ b. b && s.executable) l) ∙ go s.executable refl)
      where
        go : (b : Bool) → s.executable ≡ b → (if b then by_place (filter has_padding x.relocations) else []) ≡ pads t number 0 zs
        go true e = in_text l
        go false e = sym (aside_none e 0 zs h.tile sorted)

    st : Steps t number s x.alignment start ms (begins l) 0 0 zs
    st = walk.steps t number s x.alignment start ms (begins l) 0 0 zs h.tile sorted (omega arith) (λ e. refl) (λ code. (refl, refl))
        (λ old low. ap (λ k. dropped k old) moves_are ∙ (let n = dropped (plan start 0 (pads t number 0 zs)) old in let f : n ≡ 0 + n = omega arith in f))
        (λ a b low. ap (λ k. lost k a b) moves_are)

    tile_left : shrunk.Tile t 0 zs'
    tile_left = tiled t number s x.alignment start ms (begins l) 0 0 zs st

    bytes_left : kept 0 ms (flat_map part_bytes (parts t zs)) ≡ flat_map part_bytes (shrunk.parts t zs')
    bytes_left = ap (λ k. kept 0 k (flat_map part_bytes (parts t zs))) moves_are ∙ bytes_kept t number s x.alignment start ms (begins l) 0 0 zs st

    end_left : new_offset ms (end_of 0 zs) ≡ end_of 0 zs'
    end_left = ended t number s x.alignment start ms (begins l) 0 0 zs st

    -- the end is that of the bytes
    long_before : end_of 0 zs ≡ length (flat_map part_bytes (parts t zs))
    long_before = filled (parts_of t) 0 zs h.tile ∙ (let n = length (flat_map part_bytes (parts t zs)) in let e : 0 + n ≡ n = omega arith in e)

    long_after : end_of 0 zs' ≡ length (flat_map part_bytes (shrunk.parts t zs'))
    long_after = filled (shrunk.parts_of t) 0 zs' tile_left ∙ (let n = length (flat_map part_bytes (shrunk.parts t zs')) in let e : 0 + n ≡ n = omega arith in e)

    contents_left : (k : SectionType) → shrunk_contents ms (contents_of k (end_of 0 zs) (flat_map part_bytes (parts t zs))) ≡ contents_of k (end_of 0 zs') (flat_map part_bytes (shrunk.parts t zs'))
    contents_left types.Progbits = ap Progbits bytes_left
    contents_left types.Note = ap Note bytes_left
    contents_left types.Nobits = ap Nobits end_left

    size_left : (k : SectionType) → size_of (shrunk_contents ms (contents_of k (end_of 0 zs) (flat_map part_bytes (parts t zs)))) ≡ new_offset ms (size_of (contents_of k (end_of 0 zs) (flat_map part_bytes (parts t zs))))
    size_left types.Progbits = ap length bytes_left ∙ sym long_after ∙ sym end_left ∙ ap (new_offset ms) long_before
    size_left types.Note = ap length bytes_left ∙ sym long_after ∙ sym end_left ∙ ap (new_offset ms) long_before
    size_left types.Nobits = refl

    -- no code stands where there are no bytes in the file
    nothing_left : s.executable ≡ true → is_nobits_type s.section_type ≡ true → (flat_map part_bytes (parts t zs) ≡ []) × (flat_map part_bytes (shrunk.parts t zs') ≡ [])
    nothing_left code none =
        let empty = h.code (ap (λ b. b && s.executable) l ∙ code) none in
        let zero_end : end_of 0 zs ≡ 0 = long_before ∙ ap length empty in
        let after : end_of 0 zs' ≡ 0 = sym end_left ∙ ap (new_offset ms) zero_end ∙ (let n = dropped ms 0 in let e : 0 - n ≡ 0 = omega arith in e) in
        (empty, none_long (flat_map part_bytes (shrunk.parts t zs')) (sym long_after ∙ after))

    initial_left : s.executable ≡ true → (k : SectionType) → s.section_type ≡ k
        → initial_bytes (shrunk_contents ms (contents_of k (end_of 0 zs) (flat_map part_bytes (parts t zs)))) ≡ kept 0 ms (initial_bytes (contents_of k (end_of 0 zs) (flat_map part_bytes (parts t zs))))
    initial_left code types.Progbits e = refl
    initial_left code types.Note e = refl
    initial_left code types.Nobits e =
        let nothing = nothing_left code (ap is_nobits_type e) in
        let zero_end : end_of 0 zs ≡ 0 = long_before ∙ ap length nothing.0 in
        let after : new_offset ms (end_of 0 zs) ≡ 0 = end_left ∙ long_after ∙ ap length nothing.1 in
        ap zeros after ∙ sym nothing.1 ∙ sym bytes_left ∙ ap (kept 0 ms) (nothing.0 ∙ sym (ap zeros zero_end))

    section_left : shrunk.IsSectionOf t laid' number symbols' j s zs' (shrunk_section start x)
    section_left = record {
      loaded = h.loaded;
      executable = h.executable;
      writable = h.writable;
      alignment = h.alignment;
      some = h.some;
      tile = tile_left;
      contents = ap (shrunk_contents ms) h.contents ∙ contents_left s.section_type;
      code = λ text none. (nothing_left (and_parts s.loaded s.executable text).1 none).1;
      relocations = ap (shrunk_relocations ms) (relocations_are l) ∙ relocations_kept t number s x.alignment start ms (begins l) 0 0 zs st
          ∙ ap (λ b. if b then relocations_from number 0 (shrunk.parts t zs') else []) (sym l);
      numbered = λ k. parts_kept t number s x.alignment start ms (begins l) (λ p. AllByRecursion (IsNumbered t laid' number symbols') (references_in p)) (λ o b. tt) 0 0 zs st
          (stand_all (parts t zs) (h.numbered k));
      sizes = λ k. sizes_kept t number s x.alignment start ms (begins l) 0 0 zs st;
      fields = parts_kept t number s x.alignment start ms (begins l) (λ p. IsTemplate p.template) (λ o b. tt) 0 0 zs st h.fields;
      plain = none_left start x;
    }
      where
        stand_all : (ps : List LaidPart) → ArePartsNumbered t laid number symbols ps → ArePartsNumbered t laid' number symbols' ps
        stand_all [] k = tt
        stand_all (p ∷ ps) (k, ks) = (stands p k, stand_all ps ks)

    tidy_left : IsTidy start x
    tidy_left = record {
      begins = raised_same;
      size = ap (λ c. size_of (shrunk_contents ms c)) h.contents ∙ size_left s.section_type ∙ ap (λ c. new_offset ms (size_of c)) (sym h.contents);
      initial = go s.executable refl;
    }
      where
        go : (b : Bool) → s.executable ≡ b → initial_bytes (shrunk_contents ms x.contents) ≡ kept 0 ms (initial_bytes x.contents)
        go true e = ap (λ c. initial_bytes (shrunk_contents ms c)) h.contents ∙ initial_left e s.section_type refl ∙ ap (λ c. kept 0 ms (initial_bytes c)) (sym h.contents)
        go false e = (tidy_none ms x.contents (moves_are ∙ ap (plan start 0) (aside_none e 0 zs h.tile sorted))).1

    evens_left : AllByRecursion (λ (z : LaidStatement). source_text s ≡ true → (z.offset % 2 ≡ 0) × (new_offset ms z.offset % 2 ≡ 0)) zs
    evens_left = weaker zs (evens_kept t number s x.alignment start ms (begins l) 0 0 zs st)
      where
        weaker : (ys : List LaidStatement) → AllByRecursion (λ (z : LaidStatement). s.executable ≡ true → (z.offset % 2 ≡ 0) × (new_offset ms z.offset % 2 ≡ 0)) ys
            → AllByRecursion (λ (z : LaidStatement). source_text s ≡ true → (z.offset % 2 ≡ 0) × (new_offset ms z.offset % 2 ≡ 0)) ys
        weaker [] k = tt
        weaker (y ∷ ys) (k, ks) = ((λ text. k (and_parts s.loaded s.executable text).1), weaker ys ks)

  -- ---- one without

  module _ (l : s.loaded ≡ false) where
    no_moves : ms ≡ []
    no_moves = ap (plan start 0) (ap (λ b. if b then by_place (filter has_padding x.relocations) else []) (flags ∙ and_left s.loaded s.executable l))

    loaded_not : {A : Type 0} → s.loaded ≡ true → A
    loaded_not k = let e : true ≡ false = sym k ∙ l in absurd (cc)

    same_laid : zs' ≡ zs
    same_laid = ap (λ k. map (laid_with k) zs) no_moves ∙ laid_stay zs

    section_aside : shrunk.IsSectionOf t laid' number symbols' j s zs (shrunk_section start x)
    section_aside = record {
      loaded = h.loaded;
      executable = h.executable;
      writable = h.writable;
      alignment = h.alignment;
      some = h.some;
      tile = tile_stays t 0 zs h.tile;
      contents = ap (λ k. shrunk_contents k x.contents) no_moves ∙ contents_stay x.contents ∙ h.contents
          ∙ ap (contents_of s.section_type (end_of 0 zs)) (sym (all_bytes t zs));
      code = λ text none. loaded_not (and_parts s.loaded s.executable text).0;
      relocations = ap (shrunk_relocations ms) (h.relocations ∙ ap (λ b. if b then relocations_from number 0 (parts t zs) else []) l)
          ∙ ap (λ b. if b then relocations_from number 0 (shrunk.parts t zs) else []) (sym l);
      numbered = λ k. loaded_not k;
      sizes = λ k. loaded_not k;
      fields = parts_stay t (λ p. IsTemplate p.template) (λ o b. tt) zs h.fields;
      plain = none_left start x;
    }

    tidy_aside : IsTidy start x
    tidy_aside = let both = tidy_none ms x.contents no_moves in record { begins = raised_same; size = both.0; initial = both.1 }

    evens_aside : (ys : List LaidStatement) → AllByRecursion (λ (z : LaidStatement). source_text s ≡ true → (z.offset % 2 ≡ 0) × (new_offset ms z.offset % 2 ≡ 0)) ys
    evens_aside [] = tt
    evens_aside (y ∷ ys) = ((λ text. loaded_not (and_parts s.loaded s.executable text).0), evens_aside ys)

    stay_aside : (ys : List LaidStatement) → AllByRecursion (Stays t ms) ys
    stay_aside [] = tt
    stay_aside (y ∷ ys) = ((λ none. ap (λ k. bytes_with k y) no_moves ∙ (let f : (y.offset + y.bytes - 0) - (y.offset - 0) ≡ y.bytes = omega arith in f)), stay_aside ys)

  -- ---- any

  -- what is left of a section
  pub record IsLeft : Type 0 where
    pub section : shrunk.IsSectionOf t laid' number symbols' j s (laid_in j laid') (shrunk_section start x)
    pub tidy : IsTidy start x
    pub evens : AllByRecursion (λ (z : LaidStatement). source_text s ≡ true → (z.offset % 2 ≡ 0) × (new_offset ms z.offset % 2 ≡ 0)) zs
    pub counted : AllByRecursion (IsCounted t ms) zs

  pub left : IsLeft
  left = go s.loaded refl
    where
      go : (b : Bool) → s.loaded ≡ b → IsLeft
      go true l = record {
        section = subst (λ ys. shrunk.IsSectionOf t laid' number symbols' j s ys (shrunk_section start x)) (sym same) (section_left l);
        tidy = tidy_left l;
        evens = evens_left l;
        counted = counted_all t ms j s x.alignment 0 zs inside h.tile h.sizes (bytes_stay t number s x.alignment start ms (begins l) 0 0 zs (st l));
      }
      go false l = record {
        section = subst (λ ys. shrunk.IsSectionOf t laid' number symbols' j s ys (shrunk_section start x)) (sym (same ∙ same_laid l)) (section_aside l);
        tidy = tidy_aside l;
        evens = evens_aside l zs;
        counted = counted_all t ms j s x.alignment 0 zs inside h.tile h.sizes (stay_aside l zs);
      }
