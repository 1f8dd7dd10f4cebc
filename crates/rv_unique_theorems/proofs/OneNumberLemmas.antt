-- A reference has one symbol.

use Rattle.std.proofs.Common.{◌≡◌, ℕ, ◌+◌, true, List, [], ◌∷◌, ◌++◌, map, length, refl, sym, ap, ◌∙◌, Option, Some, None}
use Rattle.rv_assemble_laws.specs.Symbols.{stands_in, SymbolUse, use_of, after_statement, after_found, symbols_of, IsNamed, IsOwn, IsOuter, IsDefinedBy, StandsFor}
use Rattle.std.specs.Prelude.{◌==◌, flat_map, slice_get, option_map}
use Rattle.std.specs.List.{AllByRecursion}
use Rattle.std.specs.Str.{bytes_eq}
use Rattle.std.proofs.lemmas.Bool.{eq-eqb, and_from}
use Rattle.rv_expression_laws.specs.Expression.{Primary, Symbol as Named, Literal, Here, Reference}
use Rattle.rv_expression_laws.specs.Values.{add}
use Rattle.rv_statement_laws.specs.Statement.{Statement}
use Rattle.rv_unit_laws.specs.Tables as laws
use Rattle.rv_unit_laws.specs.Tables.{Tables, at_start, tables, definition}
use Rattle.rv_unit_laws.specs.Faults.{first_unit_fault}
use Rattle.rv_unit_laws.proofs.FoundLemmas.{bytes_same}
use Rattle.rv_source_laws.specs.Located.{located_from}
use Rattle.rv_object_laws.specs.declared.symbol.Definition.TheVariants.{Undefined, InSection}
use Rattle.rv_object_laws.specs.Object.{Symbol}
use Rattle.rv_assemble_laws.specs.Templates.{Open, template_fields}
use Rattle.rv_assemble_laws.specs.LaidStatements.{LaidStatement, LaidPart, part_bytes}
use Rattle.rv_assemble_laws.specs.ShownNames.{HasNames}
use Rattle.rv_assemble_laws.specs.IsObjectOf.{Numbering, relocation_at, relocations_from, IsNumbered, ArePartsNumbered}
use Rattle.rv_assemble_laws.proofs.DefinedNamesLemmas.{names_some}
use Rattle.rv_unique_theorems.proofs.CountsLemmas.{one_index}
use Rattle.rv_unique_theorems.proofs.OneDefinitionLemmas.{defined_once}
use Rattle.rv_unique_theorems.proofs.LoneSymbolsLemmas.{is_undefined, is_place, is_outer, outer_once, named_once, unnamed_once}
use Rattle.rv_unique_theorems.proofs.RecodedLemmas.{Recoded}
use Rattle.rv_unique_theorems.proofs.OneTableLemmas.{place_same}

-- ---- two symbols for one reference

named_as : (name : List ℕ) (x : Symbol) → x.name ≡ name → bytes_eq x.name name ≡ true
named_as name x e = ap (λ n. bytes_eq n name) e ∙ bytes_same name

at_place : (name : List ℕ) (section offset : ℕ) (x : Symbol) → x.name ≡ name → x.definition ≡ InSection section offset → is_place name section offset x ≡ true
at_place name section offset x e f =
    and_from (bytes_eq x.name name) (stands_in section offset x.definition) (named_as name x e)
    (ap (stands_in section offset) f ∙ and_from (section == section) (offset == offset) (eq-eqb section section refl) (eq-eqb offset offset refl))

left_out : (name : List ℕ) (x : Symbol) → x.name ≡ name → x.definition ≡ Undefined → is_outer name x ≡ true
left_out name x e f = and_from (bytes_eq x.name name) (is_undefined x.definition) (named_as name x e) (ap is_undefined f)

-- the name that a reference's symbol has
abbrev name_for : Primary → List ℕ
name_for (Named name) = name
name_for _ = []

has_name : (q : Primary) (x : Symbol) → IsNamed q x → x.name ≡ name_for q
has_name (Named name) x h = h
has_name (Literal n) x h = absurd h
has_name Here x h = h
has_name (Reference digits forward) x h = h

outer_is : (q : Primary) (x : Symbol) → IsOuter q x → x.definition ≡ Undefined
outer_is (Named name) x h = h
outer_is (Literal n) x h = absurd h
outer_is Here x h = absurd h
outer_is (Reference digits forward) x h = absurd h

module _ (ss : List Statement) (names : HasNames ss) (free : first_unit_fault ss ≡ None)
    (xs ys : List LaidStatement) (located : map (λ s. s.located) xs ≡ located_from 1 1 (at_start ss) ss) (same : Recoded (tables ss) xs ys) where
  abbrev t : Tables
  t = tables ss

  abbrev all : List Symbol
  all = symbols_of t xs

  -- one symbol of a name stands at a place
  one_place : (name : List ℕ) (section offset i j : ℕ) (x y : Symbol) → slice_get all i ≡ Some x → slice_get all j ≡ Some y
      → is_place name section offset x ≡ true → is_place name section offset y ≡ true → i ≡ j
  one_place [] section offset i j x y e f h k =
      one_index (is_place [] section offset) all (unnamed_once t xs section offset (names_some t (at_start ss) 1 ss xs located names)) i j x y e f h k
  one_place (b ∷ bs) section offset i j x y e f h k =
      one_index (is_place (b ∷ bs) section offset) all (named_once t xs (b ∷ bs) refl section offset (defined_once ss xs located free (b ∷ bs))) i j x y e f h k

  one_own : (q : Primary) (d : laws.Definition) (i j : ℕ) (x y : Symbol) → slice_get all i ≡ Some x → slice_get all j ≡ Some y → IsNamed q x → IsNamed q y
      → IsOwn xs d x → IsOwn ys d y → i ≡ j
  one_own q d i j x y e f h k (s, at, placed, is) (r, there, set, js) =
      one_place (name_for q) s.located.section (add s.offset d.plus) i j x y e f
      (at_place (name_for q) s.located.section (add s.offset d.plus) x (has_name q x h) is)
      (at_place (name_for q) s.located.section (add s.offset d.plus) y (has_name q y k) (js ∙ moved))
    where
      moved : after_statement r d.plus ≡ InSection s.located.section (add s.offset d.plus)
      moved = sym (ap (λ found. after_found found d.plus) there) ∙ place_same t xs ys same d.ordinal d.plus ∙ ap (λ found. after_found found d.plus) at

  one_outer : (q : Primary) (i j : ℕ) (x y : Symbol) → slice_get all i ≡ Some x → slice_get all j ≡ Some y → IsNamed q x → IsNamed q y → IsOuter q x → IsOuter q y → i ≡ j
  one_outer q i j x y e f h k a b =
      one_index (is_outer (name_for q)) all (outer_once t xs (name_for q)) i j x y e f
      (left_out (name_for q) x (has_name q x h) (outer_is q x a)) (left_out (name_for q) y (has_name q y k) (outer_is q y b))

  one_defined : (q : Primary) (found : Option laws.Definition) (i j : ℕ) (x y : Symbol) → slice_get all i ≡ Some x → slice_get all j ≡ Some y → IsNamed q x → IsNamed q y
      → IsDefinedBy xs q found x → IsDefinedBy ys q found y → i ≡ j
  one_defined q (Some d) i j x y e f h k a b = one_own q d i j x y e f h k a b
  one_defined q None i j x y e f h k a b = one_outer q i j x y e f h k a b

  one_number : (o : ℕ) (q : Primary) (i j : ℕ) (a b : Option Symbol) → slice_get all i ≡ a → slice_get all j ≡ b → StandsFor t xs o q a → StandsFor t ys o q b → i ≡ j
  one_number o q i j None b e f h k = absurd h
  one_number o q i j (Some x) None e f h k = absurd k
  one_number o q i j (Some x) (Some y) e f (h, weak, a) (k, other, b) = one_defined q (definition t o q) i j x y e f h k a b

  -- ---- relocations

  module _ (n m : Numbering) where
    field_one : (place : ℕ) (f : Open) (symbol : Option Primary) → AllByRecursion (IsNumbered t xs n all) (use_of f.ordinal symbol) → AllByRecursion (IsNumbered t ys m all) (use_of f.ordinal symbol)
        → option_map (n f.ordinal) symbol ≡ option_map (m f.ordinal) symbol
    field_one place f None h k = refl
    field_one place f (Some q) (h, hs) (k, ks) =
        ap Some (one_number f.ordinal q (n f.ordinal q) (m f.ordinal q) (slice_get all (n f.ordinal q)) (slice_get all (m f.ordinal q)) refl refl h k)

    split_all : (P : SymbolUse → Type 0) (xs bs : List SymbolUse) → AllByRecursion P (xs ++ bs) → AllByRecursion P xs × AllByRecursion P bs
    split_all P [] bs h = (tt, h)
    split_all P (a ∷ xs) bs (h, hs) = let rest = split_all P xs bs hs in ((h, rest.0), rest.1)

    abbrev uses : List Open → List SymbolUse
    uses fs = flat_map (λ f. use_of f.ordinal f.symbol) fs

    fields_one : (place : ℕ) (fs : List Open) → AllByRecursion (IsNumbered t xs n all) (uses fs) → AllByRecursion (IsNumbered t ys m all) (uses fs)
        → map (relocation_at n place) fs ≡ map (relocation_at m place) fs
    fields_one place [] h k = refl
    fields_one place (f ∷ fs) h k =
        let a = split_all (IsNumbered t xs n all) (use_of f.ordinal f.symbol) (uses fs) h in
        let b = split_all (IsNumbered t ys m all) (use_of f.ordinal f.symbol) (uses fs) k in
        ap (λ s. (record { place = place; kind = f.kind; symbol = s; addend = f.addend }) ∷ map (relocation_at n place) fs) (field_one place f f.symbol a.0 b.0)
        ∙ ap (λ l. relocation_at m place f ∷ l) (fields_one place fs a.1 b.1)

    pub relocations_one : (offset : ℕ) (ps : List LaidPart) → ArePartsNumbered t xs n all ps → ArePartsNumbered t ys m all ps
        → relocations_from n offset ps ≡ relocations_from m offset ps
    relocations_one offset [] h k = refl
    relocations_one offset (p ∷ ps) (h, hs) (k, ks) =
        ap (λ l. l ++ relocations_from n (offset + length (part_bytes p)) ps) (fields_one offset (template_fields p.ordinal p.template) h k)
        ∙ ap (λ l. map (relocation_at m offset) (template_fields p.ordinal p.template) ++ l) (relocations_one (offset + length (part_bytes p)) ps hs ks)
