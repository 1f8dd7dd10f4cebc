-- The open fields of a source, section by section, are the relocations of its sections, and their symbols those that the
-- source's relocations name.

use Rattle.std.proofs.Common.{◌≡◌, ℕ, ◌+◌, Bool, true, false, List, [], ◌∷◌, ◌++◌, length, refl, sym, ap, ◌∙◌, subst, arith, map, length-append, Some, append_assoc}
use Rattle.std.proofs.lemmas.List.Concat.{flat_map-append}
use Rattle.std.proofs.lemmas.List.Elements.{filter-append}
use Rattle.std.proofs.lemmas.List.{map-append}
use Rattle.std.proofs.lemmas.Bool.{eqb-true}
use Rattle.std.specs.Prelude.{◌==◌, if◌then◌else◌, filter, flat_map, option_map, slice_get}
use Rattle.std.specs.List.{AllByRecursion}
use Rattle.rv_list_laws.proofs.EachLemmas.{each_append, each_split, each_flat_map}
use Rattle.rv_unit_laws.specs.Sections.{Section}
use Rattle.rv_unit_laws.specs.Tables.{Tables}
use Rattle.rv_object_laws.specs.Object.{Relocation, Symbol}
use Rattle.rv_assemble_laws.specs.Templates.{Open, template_fields}
use Rattle.rv_assemble_laws.specs.LaidStatements.{LaidStatement, LaidPart, parts_of, parts, part_bytes, laid_in, Tile}
use Rattle.rv_assemble_laws.specs.Symbols.{SymbolUse, use_of, references_in, references_of, references}
use Rattle.rv_assemble_laws.specs.IsObjectOf.{Numbering, relocation_at, relocations_from, IsNumbered, ArePartsNumbered}
use Rattle.rv_assemble_laws.specs.Fields.{Field, field_at, fields_from, fields_at, fields}
use Rattle.rv_assemble.proofs.SettledLemmas.{IsSettled}

-- ---- a field as a relocation

abbrev pub numbered : Numbering → Field → Relocation
numbered number f = record { place = f.place; kind = f.kind; symbol = option_map (number f.ordinal) f.symbol; addend = f.addend }

abbrev pub in_section : ℕ → List Field → List Field
in_section j fs = filter (λ f. f.section == j) fs

module _ (number : Numbering) where
  of_part : (section offset : ℕ) (opens : List Open) → map (numbered number) (map (field_at section offset) opens) ≡ map (relocation_at number offset) opens
  of_part section offset [] = refl
  of_part section offset (f ∷ fs) = ap (λ l. relocation_at number offset f ∷ l) (of_part section offset fs)

  of_parts : (section offset : ℕ) (ps : List LaidPart) → map (numbered number) (fields_from section offset ps) ≡ relocations_from number offset ps
  of_parts section offset [] = refl
  of_parts section offset (p ∷ ps) =
      map-append (numbered number) (map (field_at section offset) (template_fields p.ordinal p.template)) (fields_from section (offset + length (part_bytes p)) ps)
      ∙ ap (λ l. l ++ map (numbered number) (fields_from section (offset + length (part_bytes p)) ps)) (of_part section offset (template_fields p.ordinal p.template))
      ∙ ap (λ l. map (relocation_at number offset) (template_fields p.ordinal p.template) ++ l) (of_parts section (offset + length (part_bytes p)) ps)

  pub behind : (offset : ℕ) (ps qs : List LaidPart) → relocations_from number offset (ps ++ qs) ≡ relocations_from number offset ps ++ relocations_from number (offset + length (flat_map part_bytes ps)) qs
  behind offset [] qs = ap (λ n. relocations_from number n qs) (let e : offset ≡ offset + 0 = omega arith in e)
  behind offset (p ∷ ps) qs =
      let own = map (relocation_at number offset) (template_fields p.ordinal p.template) in
      let next = offset + length (part_bytes p) in
      let l = length-append (part_bytes p) (flat_map part_bytes ps) in
      let at : next + length (flat_map part_bytes ps) ≡ offset + length (part_bytes p ++ flat_map part_bytes ps) = omega (arith, l) in
      ap (λ rs. own ++ rs) (behind next ps qs)
      ∙ ap (λ n. own ++ (relocations_from number next ps ++ relocations_from number n qs)) at
      ∙ sym (append_assoc own (relocations_from number next ps) (relocations_from number (offset + length (part_bytes p ++ flat_map part_bytes ps)) qs))

-- ---- the fields of a section

opens_in : (j section offset : ℕ) (b : Bool) → (section == j) ≡ b → (opens : List Open)
    → in_section j (map (field_at section offset) opens) ≡ (if b then map (field_at section offset) opens else [])
opens_in j section offset true e [] = refl
opens_in j section offset false e [] = refl
opens_in j section offset true e (f ∷ fs) =
    ap (λ b. if b then field_at section offset f ∷ in_section j (map (field_at section offset) fs) else in_section j (map (field_at section offset) fs)) e
    ∙ ap (λ l. field_at section offset f ∷ l) (opens_in j section offset true e fs)
opens_in j section offset false e (f ∷ fs) =
    ap (λ b. if b then field_at section offset f ∷ in_section j (map (field_at section offset) fs) else in_section j (map (field_at section offset) fs)) e
    ∙ opens_in j section offset false e fs

if_append : {X : Type 0} (b : Bool) (xs ys : List X) → (if b then xs else []) ++ (if b then ys else []) ≡ (if b then xs ++ ys else [])
if_append true xs ys = refl
if_append false xs ys = refl

parts_in : (j section offset : ℕ) (b : Bool) → (section == j) ≡ b → (ps : List LaidPart) → in_section j (fields_from section offset ps) ≡ (if b then fields_from section offset ps else [])
parts_in j section offset true e [] = refl
parts_in j section offset false e [] = refl
parts_in j section offset b e (p ∷ ps) =
    let own = map (field_at section offset) (template_fields p.ordinal p.template) in
    let rest = fields_from section (offset + length (part_bytes p)) ps in
    filter-append (λ f. f.section == j) own rest
    ∙ ap (λ l. l ++ in_section j rest) (opens_in j section offset b e (template_fields p.ordinal p.template))
    ∙ ap (λ l. (if b then own else []) ++ l) (parts_in j section (offset + length (part_bytes p)) b e ps)
    ∙ if_append b own rest

module _ (t : Tables) (number : Numbering) (sections : List Section) (j : ℕ) (home : Section) (at : slice_get sections j ≡ Some home) where
  -- the relocations of the parts of a section, where it is loaded
  abbrev loaded : ℕ → List LaidPart → List Relocation
  loaded offset ps = if home.loaded then relocations_from number offset ps else []

  loaded_behind : (offset : ℕ) (ps qs : List LaidPart) → loaded offset ps ++ loaded (offset + length (flat_map part_bytes ps)) qs ≡ loaded offset (ps ++ qs)
  loaded_behind offset ps qs =
      if_append home.loaded (relocations_from number offset ps) (relocations_from number (offset + length (flat_map part_bytes ps)) qs)
      ∙ ap (λ l. if home.loaded then l else []) (sym (behind number offset ps qs))

  -- those of a statement
  of_laid_statement : (s : LaidStatement) → IsSettled sections s → (b : Bool) → (s.located.section == j) ≡ b
      → map (numbered number) (in_section j (fields_at t s)) ≡ (if b then loaded s.offset (parts_of t s) else [])
  of_laid_statement s h true e =
      let same : s.located.section ≡ j = eqb-true s.located.section j e in
      let both : Some s.located.home ≡ Some home = sym h.home ∙ ap (λ n. slice_get sections n) same ∙ at in
      let is : s.located.home ≡ home = cc in
      ap (λ (x : Section). map (numbered number) (in_section j (if x.loaded then fields_from s.located.section s.offset (parts_of t s) else []))) is ∙ go home.loaded
    where
      go : (b : Bool) → map (numbered number) (in_section j (if b then fields_from s.located.section s.offset (parts_of t s) else [])) ≡ (if b then relocations_from number s.offset (parts_of t s) else [])
      go true = ap (map (numbered number)) (parts_in j s.located.section s.offset true e (parts_of t s)) ∙ of_parts number s.located.section s.offset (parts_of t s)
      go false = refl
  of_laid_statement s h false e = go s.located.home.loaded
    where
      go : (b : Bool) → map (numbered number) (in_section j (if b then fields_from s.located.section s.offset (parts_of t s) else [])) ≡ []
      go true = ap (map (numbered number)) (parts_in j s.located.section s.offset false e (parts_of t s))
      go false = refl

  pub section_relocations : (offset : ℕ) (laid : List LaidStatement) → AllByRecursion (IsSettled sections) laid → Tile t offset (laid_in j laid)
      → map (numbered number) (in_section j (fields t laid)) ≡ loaded offset (parts t (laid_in j laid))
  section_relocations offset [] h tile = nothing home.loaded
    where
      nothing : (b : Bool) → ◌≡◌ {A = List Relocation} [] (if b then [] else [])
      nothing true = refl
      nothing false = refl
  section_relocations offset (s ∷ ss) (h, hs) tile = start ∙ go (λ o k. section_relocations o ss hs k) (s.located.section == j) refl tile
    where
      start : map (numbered number) (in_section j (fields_at t s ++ fields t ss)) ≡ map (numbered number) (in_section j (fields_at t s)) ++ map (numbered number) (in_section j (fields t ss))
      start = ap (map (numbered number)) (filter-append (λ f. f.section == j) (fields_at t s) (fields t ss)) ∙ map-append (numbered number) (in_section j (fields_at t s)) (in_section j (fields t ss))

      go : ((o : ℕ) → Tile t o (laid_in j ss) → map (numbered number) (in_section j (fields t ss)) ≡ loaded o (parts t (laid_in j ss)))
          → (b : Bool) → (s.located.section == j) ≡ b → Tile t offset (if b then s ∷ laid_in j ss else laid_in j ss)
          → map (numbered number) (in_section j (fields_at t s)) ++ map (numbered number) (in_section j (fields t ss)) ≡ loaded offset (parts t (if b then s ∷ laid_in j ss else laid_in j ss))
      go ih true e (place, size, rest) =
          let own = of_laid_statement s h true e ∙ ap (λ n. loaded n (parts_of t s)) place in
          let next = ih (offset + s.bytes) rest ∙ ap (λ n. loaded (offset + n) (parts t (laid_in j ss))) size in
          ap (λ l. l ++ map (numbered number) (in_section j (fields t ss))) own ∙ ap (λ l. loaded offset (parts_of t s) ++ l) next
          ∙ loaded_behind offset (parts_of t s) (parts t (laid_in j ss))
      go ih false e rest = ap (λ l. l ++ map (numbered number) (in_section j (fields t ss))) (of_laid_statement s h false e) ∙ ih offset rest

-- ---- what they name

abbrev pub use_of_field : Field → List SymbolUse
use_of_field f = use_of f.ordinal f.symbol

uses_of_part : (section offset : ℕ) (opens : List Open) → flat_map use_of_field (map (field_at section offset) opens) ≡ flat_map (λ f. use_of f.ordinal f.symbol) opens
uses_of_part section offset [] = refl
uses_of_part section offset (f ∷ fs) = ap (λ l. use_of f.ordinal f.symbol ++ l) (uses_of_part section offset fs)

uses_of_parts : (section offset : ℕ) (ps : List LaidPart) → flat_map use_of_field (fields_from section offset ps) ≡ flat_map references_in ps
uses_of_parts section offset [] = refl
uses_of_parts section offset (p ∷ ps) =
    flat_map-append use_of_field (map (field_at section offset) (template_fields p.ordinal p.template)) (fields_from section (offset + length (part_bytes p)) ps)
    ∙ ap (λ l. l ++ flat_map use_of_field (fields_from section (offset + length (part_bytes p)) ps)) (uses_of_part section offset (template_fields p.ordinal p.template))
    ∙ ap (λ l. references_in p ++ l) (uses_of_parts section (offset + length (part_bytes p)) ps)

uses_of_laid : (t : Tables) (s : LaidStatement) → flat_map use_of_field (fields_at t s) ≡ references_of t s
uses_of_laid t s = go s.located.home.loaded
  where
    go : (b : Bool) → flat_map use_of_field (if b then fields_from s.located.section s.offset (parts_of t s) else []) ≡ (if b then flat_map references_in (parts_of t s) else [])
    go true = uses_of_parts s.located.section s.offset (parts_of t s)
    go false = refl

pub uses_of_fields : (t : Tables) (laid : List LaidStatement) → flat_map use_of_field (fields t laid) ≡ references t laid
uses_of_fields t [] = refl
uses_of_fields t (s ∷ ss) =
    flat_map-append use_of_field (fields_at t s) (fields t ss)
    ∙ ap (λ l. l ++ flat_map use_of_field (fields t ss)) (uses_of_laid t s) ∙ ap (λ l. references_of t s ++ l) (uses_of_fields t ss)

-- what is numbered of all that relocations name is numbered of the parts of each loaded section
module _ (t : Tables) (all : List LaidStatement) (number : Numbering) (symbols : List Symbol) (sections : List Section) (j : ℕ) (home : Section) (at : slice_get sections j ≡ Some home) (loaded : home.loaded ≡ true) where
  pub parts_numbered : (laid : List LaidStatement) → AllByRecursion (IsSettled sections) laid → AllByRecursion (IsNumbered t all number symbols) (references t laid)
      → ArePartsNumbered t all number symbols (parts t (laid_in j laid))
  parts_numbered [] h is = tt
  parts_numbered (s ∷ ss) (h, hs) is =
      let both = each_split (IsNumbered t all number symbols) (references_of t s) (references t ss) is in
      go (s.located.section == j) refl both.0 (parts_numbered ss hs both.1)
    where
      own : s.located.home.loaded ≡ true → AllByRecursion (IsNumbered t all number symbols) (references_of t s) → ArePartsNumbered t all number symbols (parts_of t s)
      own e k = each_flat_map (IsNumbered t all number symbols) references_in (parts_of t s) (subst (λ b. AllByRecursion (IsNumbered t all number symbols) (if b then flat_map references_in (parts_of t s) else [])) e k)

      go : (b : Bool) → (s.located.section == j) ≡ b → AllByRecursion (IsNumbered t all number symbols) (references_of t s) → ArePartsNumbered t all number symbols (parts t (laid_in j ss))
          → ArePartsNumbered t all number symbols (parts t (if b then s ∷ laid_in j ss else laid_in j ss))
      go true e k rest =
          let same : s.located.section ≡ j = eqb-true s.located.section j e in
          let equal : Some s.located.home ≡ Some home = sym h.home ∙ ap (λ n. slice_get sections n) same ∙ at in
          let is : s.located.home ≡ home = cc in
          each_append (λ p. AllByRecursion (IsNumbered t all number symbols) (references_in p)) (parts_of t s) (parts t (laid_in j ss)) (own (ap (λ (x : Section). x.loaded) is ∙ loaded) k) rest
      go false e k rest = rest
