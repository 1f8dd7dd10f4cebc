-- What the object of a raw listing is: one section, of so many bytes as its instructions have.

use Rattle.std.proofs.Common.{◌≡◌, ℕ, zero, suc, ◌+◌, ◌<◌, ◌⊎◌, true, false, List, [], ◌∷◌, ◌++◌, length, map, Some, refl, sym, ◌∙◌, ap, subst, arith, inl, inr}
use Rattle.std.specs.Prelude.{if◌then◌else◌, flat_map, slice_index}
use Rattle.std.specs.List.{AllByRecursion}
use Rattle.std.proofs.lemmas.Bool.{eq-eqb, ne_eqb}
use Rattle.rv_list_laws.proofs.EachLemmas.{each_map, each_unmapped_by, each_pair}
use Rattle.rv_expression_laws.specs.Values.{value_of}
use Rattle.rv_size_laws.specs.Branches.{smallest, item_at}
use Rattle.rv_statement_laws.specs.Statement.{StatementKind, Label, Statement}
use Rattle.rv_unit_laws.specs.Bindings.{Bindings, bindings_of}
use Rattle.rv_unit_laws.specs.Sections.{text_section}
use Rattle.rv_unit_laws.specs.Tables.{Tables, Labelled, at_start, after as after_one, tables, opened_of, meaning}
use Rattle.rv_source_laws.specs.Located.{Located, located_from}
use Rattle.rv_source_laws.specs.Program.{place_of}
use Rattle.rv_source_laws.specs.Sizes.{item_by_kind, items_of, AreLeast}
use Rattle.rv_listing_laws.specs.declared.code.Code.{Code}
use Rattle.rv_listing_laws.specs.Raw.{raw_bytes}
use Rattle.rv_raw_theorems.specs.Statements.{code_statement, raw_statements, on_lines}
use Rattle.rv_object_laws.specs.Object.{Section, Symbol, Object}
use Rattle.rv_assemble_laws.specs.Coded.{constants}
use Rattle.rv_assemble_laws.specs.LaidStatements.{LaidStatement, expression_value, laid_part, templates, parts_of, part_bytes, laid_in, Tile, end_of, HasSize}
use Rattle.rv_assemble_laws.specs.Symbols.{laid_at, symbols_of}
use Rattle.rv_assemble_laws.specs.IsObjectOf.{Numbering, IsSectionOf, AreSectionsOf, IsObjectOf}
use Rattle.rv_raw_theorems.specs.Listed.{listed, IsShortListing}
use Rattle.rv_raw_theorems.proofs.ItemsLemmas.{IsFound, all_found, AreNumberedFrom, numbered_from, fine, exact}
use Rattle.rv_raw_theorems.specs.Meaning.{LeadsFromItself}
use Rattle.rv_raw_theorems.proofs.SizesLemmas.{sizes_are}
use Rattle.rv_raw_theorems.proofs.LengthsLemmas.{kind_size, weight, weight_join, both_weight, IsCodeOf, of_laid_statement}
use Rattle.rv_raw_theorems.proofs.StatementsLemmas.{code_instruction, start_name, raw_options, table, entry_label, table_is, IsHead, IsOfCode, IsPlain, ArePlain, all_plain}

-- an object of statements that stand so
pub record IsRaw (labels : List Labelled) (b : Bindings) (ks : List StatementKind) (o : Object) : Type 0 where
  pub laid : List LaidStatement
  pub kinds : map (λ (z : LaidStatement). z.located.kind) laid ≡ ks
  pub plain : AllByRecursion (λ (z : LaidStatement). IsPlain z.located) laid
  pub found : AllByRecursion (λ (z : LaidStatement). IsFound (map (λ (z : LaidStatement). z.located) laid) z.located) laid
  pub at : AllByRecursion (λ (z : LaidStatement). laid_at laid z.located.ordinal ≡ Some z) laid
  pub sized : AllByRecursion (λ (z : LaidStatement). z.bytes ≡ kind_size z.located.kind) laid
  pub number : Numbering
  pub section : Section
  pub alone : o.sections ≡ section ∷ []
  pub in_it : laid_in 0 laid ≡ laid
  pub is : IsSectionOf (table labels raw_options b) laid number o.symbols 0 text_section laid section
  pub symbols : o.symbols ≡ symbols_of (table labels raw_options b) laid

-- ---- lists

-- each statement is the one of its ordinal
later : (k : ℕ) (zs : List LaidStatement) → AreNumberedFrom k (map (λ (z : LaidStatement). z.located) zs) → AllByRecursion (λ (z : LaidStatement). k < z.located.ordinal) zs
later k [] n = tt
later k (z ∷ zs) (at, n) = (omega (arith, at), each_map (λ (q : LaidStatement). suc k < q.located.ordinal) (λ (q : LaidStatement). k < q.located.ordinal) zs (λ q lt. omega (arith, lt)) (later (suc k) zs n))

all_at : (k : ℕ) (zs : List LaidStatement) → AreNumberedFrom k (map (λ (z : LaidStatement). z.located) zs) → AllByRecursion (λ (z : LaidStatement). laid_at zs z.located.ordinal ≡ Some z) zs
all_at k [] n = tt
all_at k (y ∷ ys) (at, n) = (
  ap (λ b. if b then Some y else laid_at ys y.located.ordinal) (eq-eqb y.located.ordinal y.located.ordinal refl),
  each_map Both (λ (z : LaidStatement). laid_at (y ∷ ys) z.located.ordinal ≡ Some z) ys further
      (each_pair (λ (z : LaidStatement). laid_at ys z.located.ordinal ≡ Some z) (λ (z : LaidStatement). suc k < z.located.ordinal) ys (all_at (suc k) ys n) (later (suc k) ys n)),
)
  where
    Both : LaidStatement → Type 0
    Both z = (laid_at ys z.located.ordinal ≡ Some z) × (suc k < z.located.ordinal)

    further : (z : LaidStatement) → Both z → laid_at (y ∷ ys) z.located.ordinal ≡ Some z
    further z (e, lt) = ap (λ b. if b then Some y else laid_at ys z.located.ordinal) (ne_eqb y.located.ordinal z.located.ordinal (λ same. omega (arith, same, lt, at))) ∙ e

pub all_within : (zs : List LaidStatement) → AllByRecursion (λ (z : LaidStatement). IsPlain z.located) zs → laid_in 0 zs ≡ zs
all_within [] h = refl
all_within (z ∷ zs) (one, h) = ap (λ b. if b then z ∷ laid_in 0 zs else laid_in 0 zs) (eq-eqb z.located.section 0 one.section) ∙ ap (λ l. z ∷ l) (all_within zs h)

module _ (labels : List Labelled) (b : Bindings) where
  abbrev t : Tables
  t = table labels raw_options b

  -- ---- one section

  pub one_section : (laid : List LaidStatement) (number : Numbering) (symbols : List Symbol) (xs : List Section) → AreSectionsOf (table labels raw_options b) laid number symbols 0 (text_section ∷ []) xs
      → (x : Section) × ((xs ≡ x ∷ []) × IsSectionOf (table labels raw_options b) laid number symbols 0 text_section (laid_in 0 laid) x)
  one_section laid number symbols [] h = absurd h
  one_section laid number symbols (x ∷ []) (h, more) = (x, (refl, h))
  one_section laid number symbols (x ∷ y ∷ xs) (h, more) = absurd more

  -- ---- sizes

  tiled : (o : ℕ) (zs : List LaidStatement) → Tile (table labels raw_options b) o zs → AllByRecursion (λ (z : LaidStatement). z.bytes ≡ length (flat_map part_bytes (parts_of (table labels raw_options b) z))) zs
  tiled o [] h = tt
  tiled o (z ∷ zs) (at, bytes, h) = (bytes, tiled (o + z.bytes) zs h)

  all_fine : (all : List Located) (k : ℕ) (ls : List Located) (sizes : List ℕ) → ArePlain ls → AllByRecursion (IsFound all) ls → AreNumberedFrom k ls → (i : ℕ) → LeadsFromItself (k + i) (item_at (items_of (table labels raw_options b) all ls sizes) i)
  all_fine all k [] sizes h f n i = tt
  all_fine all k (s ∷ ls) [] h f n i = tt
  all_fine all k (s ∷ ls) (bytes ∷ sizes) (one, h) (found, f) (at, n) zero = fine labels b all s one found (k + 0) (omega (arith, at)) bytes
  all_fine all k (s ∷ ls) (bytes ∷ sizes) (one, h) (found, f) (at, n) (suc i) =
      subst (λ j. LeadsFromItself j (item_at (items_of (table labels raw_options b) all ls sizes) i)) (let e : suc k + i ≡ k + suc i = omega arith in e) (all_fine all (suc k) ls sizes h f n i)

  abbrev IsSmallest : List Located → LaidStatement → Type 0
  IsSmallest all z = z.bytes ≡ smallest (item_by_kind (table labels raw_options b) all z.located z.bytes z.located.kind).forms

  each_smallest : (all : List Located) (zs : List LaidStatement)
      → ((i : ℕ) → slice_index (map (λ (z : LaidStatement). z.bytes) zs) i ≡ smallest (item_at (items_of (table labels raw_options b) all (map (λ (z : LaidStatement). z.located) zs) (map (λ (z : LaidStatement). z.bytes) zs)) i).forms)
      → AllByRecursion (IsSmallest all) zs
  each_smallest all [] h = tt
  each_smallest all (z ∷ zs) h = (h 0, each_smallest all zs (λ i. h (suc i)))

  -- those of one statement
  head_bytes : (z : LaidStatement) (kind : StatementKind) → IsHead kind → z.located.kind ≡ kind → z.bytes ≡ length (flat_map part_bytes (parts_of (table labels raw_options b) z)) → z.bytes ≡ kind_size kind
  head_bytes z kind (inl e) same bytes = bytes ∙ ap (λ k. length (flat_map part_bytes (map (laid_part z.located.ordinal) (templates (table labels raw_options b) z k)))) (same ∙ e) ∙ ap kind_size (sym e)
  head_bytes z kind (inr (inl (choice, e))) same bytes = bytes ∙ ap (λ k. length (flat_map part_bytes (map (laid_part z.located.ordinal) (templates (table labels raw_options b) z k)))) (same ∙ e) ∙ ap kind_size (sym e)
  head_bytes z kind (inr (inr (binding, (names, e)))) same bytes = bytes ∙ ap (λ k. length (flat_map part_bytes (map (laid_part z.located.ordinal) (templates (table labels raw_options b) z k)))) (same ∙ e) ∙ ap kind_size (sym e)

  -- the code of one
  pub code_of : (z : LaidStatement) (multiple : ℕ) (c : IsOfCode z.located) → (z.located.placed ≡ true → HasSize (expression_value (table labels raw_options b) z.located) z multiple z.located.kind)
      → IsCodeOf (constants (value_of (λ q. meaning (table labels raw_options b) true z.located.ordinal (place_of z.located) q))) (code_statement c.code) false z.bytes z.coded
  code_of z multiple c size =
      let v = value_of (λ q. meaning (table labels raw_options b) true z.located.ordinal (place_of z.located) q) in
      subst (λ r. IsCodeOf (constants v) (code_statement c.code) r z.bytes z.coded) c.rvc
      (of_laid_statement v z multiple (code_statement c.code) (code_instruction c.code) (subst (HasSize v z multiple) c.kind (size c.placed)))

  own_bytes : (all : List Located) (multiple : ℕ) (z : LaidStatement) → IsPlain z.located → IsFound all z.located → IsSmallest all z → z.bytes ≡ length (flat_map part_bytes (parts_of (table labels raw_options b) z))
      → (z.located.placed ≡ true → HasSize (expression_value (table labels raw_options b) z.located) z multiple z.located.kind) → z.bytes ≡ kind_size z.located.kind
  own_bytes all multiple z plain found least bytes size = by plain.says
    where
      by : IsOfCode z.located ⊎ IsHead z.located.kind → z.bytes ≡ kind_size z.located.kind
      by (inl c) =
          exact labels b all z.located plain found c.code c.sourced z.bytes z.coded c.rvc (least ∙ ap (λ k. smallest (item_by_kind (table labels raw_options b) all z.located z.bytes k).forms) c.kind) (code_of z multiple c size)
          ∙ ap kind_size (sym c.kind)
      by (inr head) = head_bytes z z.located.kind head refl bytes

  all_bytes : (all : List Located) (multiple : ℕ) (zs : List LaidStatement) → AllByRecursion (λ (z : LaidStatement). IsPlain z.located) zs → AllByRecursion (λ (z : LaidStatement). IsFound all z.located) zs → AllByRecursion (IsSmallest all) zs
      → AllByRecursion (λ (z : LaidStatement). z.bytes ≡ length (flat_map part_bytes (parts_of (table labels raw_options b) z))) zs
      → AllByRecursion (λ (z : LaidStatement). z.located.placed ≡ true → HasSize (expression_value (table labels raw_options b) z.located) z multiple z.located.kind) zs → AllByRecursion (λ (z : LaidStatement). z.bytes ≡ kind_size z.located.kind) zs
  all_bytes all multiple [] p f l b s = tt
  all_bytes all multiple (z ∷ zs) (p, ps) (f, fs) (l, ls) (b, bs) (s, ss) = (own_bytes all multiple z p f l b s, all_bytes all multiple zs ps fs ls bs ss)

-- ---- the object of a raw listing

module _ (before after : List Code) (h : IsShortListing before after) (o : Object) (is : IsObjectOf (listed before after) o) where
  abbrev ss : List Statement
  ss = listed before after

  abbrev bindings : Bindings
  bindings = bindings_of (listed before after)

  pub entry : ℕ
  entry = (table_is before after).0

  abbrev listed_table : Tables
  listed_table = table (entry_label entry ∷ []) raw_options bindings

  same : tables (listed before after) ≡ table (entry_label entry ∷ []) raw_options bindings
  unfolding entry
  same = (table_is before after).1

  plain : AllByRecursion (λ (z : LaidStatement). IsPlain z.located) is.laid
  plain = each_unmapped_by (λ (z : LaidStatement). z.located) IsPlain is.laid (subst ArePlain (sym is.located) (all_plain before after h.sourced))

  found : AllByRecursion (λ (z : LaidStatement). IsFound (map (λ (z : LaidStatement). z.located) is.laid) z.located) is.laid
  found =
      let ls = map (λ (z : LaidStatement). z.located) is.laid in
      each_unmapped_by (λ (z : LaidStatement). z.located) (IsFound ls) is.laid (all_found ls (subst ArePlain (sym is.located) (all_plain before after h.sourced)))

  section : (x : Section) × ((o.sections ≡ x ∷ []) × IsSectionOf listed_table is.laid is.number o.symbols 0 text_section (laid_in 0 is.laid) x)
  section =
      one_section (entry_label entry ∷ []) bindings is.laid is.number o.symbols o.sections
      (subst (λ u. AreSectionsOf u is.laid is.number o.symbols 0 (opened_of u).sections o.sections) same is.sections)

  inside : laid_in 0 is.laid ≡ is.laid
  inside = all_within is.laid plain

  its : IsSectionOf listed_table is.laid is.number o.symbols 0 text_section is.laid section.0
  its = subst (λ zs. IsSectionOf listed_table is.laid is.number o.symbols 0 text_section zs section.0) inside section.1.1

  numbers : AreNumberedFrom 0 (map (λ (z : LaidStatement). z.located) is.laid)
  numbers = subst (AreNumberedFrom 0) (sym is.located) (numbered_from 0 (at_start (listed before after)) (listed before after))

  smallest_each : AllByRecursion (IsSmallest (entry_label entry ∷ []) bindings (map (λ (z : LaidStatement). z.located) is.laid)) is.laid
  smallest_each =
      let ls = map (λ (z : LaidStatement). z.located) is.laid in
      let sizes = map (λ (z : LaidStatement). z.bytes) is.laid in
      let least : AreLeast listed_table ls sizes = subst (λ u. AreLeast u ls sizes) same (subst (λ l. AreLeast (tables (listed before after)) l sizes) (sym is.located) is.least) in
      let plain_all : ArePlain ls = subst ArePlain (sym is.located) (all_plain before after h.sourced) in
      each_smallest (entry_label entry ∷ []) bindings ls is.laid
      (sizes_are (items_of listed_table ls ls sizes) sizes
      (λ i. subst (λ j. LeadsFromItself j (item_at (items_of listed_table ls ls sizes) i)) (let e : 0 + i ≡ i = omega arith in e)
      (all_fine (entry_label entry ∷ []) bindings ls 0 ls sizes plain_all (all_found ls plain_all) numbers i)) least)

  -- its statements, in order
  kinds : map (λ (z : LaidStatement). z.located.kind) is.laid ≡ raw_statements before after
  kinds = mapped is.laid ∙ ap (map (λ (l : Located). l.kind)) is.located ∙ said_kinds 1 1 (at_start (listed before after)) (raw_statements before after)
    where
      mapped : (zs : List LaidStatement) → map (λ (z : LaidStatement). z.located.kind) zs ≡ map (λ (l : Located). l.kind) (map (λ (z : LaidStatement). z.located) zs)
      mapped [] = refl
      mapped (z ∷ zs) = ap (λ l. z.located.kind ∷ l) (mapped zs)

      said_kinds : (n line : ℕ) (u : Tables) (ks : List StatementKind) → map (λ (l : Located). l.kind) (located_from 1 n u (on_lines line ks)) ≡ ks
      said_kinds n line u [] = refl
      said_kinds n line u (k ∷ ks) = ap (λ l. k ∷ l) (said_kinds (suc n) (line + 1) (after_one u n k) ks)

  pub raw : IsRaw (entry_label entry ∷ []) bindings (raw_statements before after) o
  raw = record {
    laid = is.laid;
    kinds = kinds;
    plain = plain;
    found = found;
    at = all_at 0 is.laid numbers;
    sized = all_bytes (entry_label entry ∷ []) bindings (map (λ (z : LaidStatement). z.located) is.laid) section.0.alignment is.laid plain found smallest_each (tiled (entry_label entry ∷ []) bindings 0 is.laid its.tile) its.sizes;
    number = is.number;
    section = section.0;
    alone = section.1.0;
    in_it = inside;
    is = its;
    symbols = is.symbols ∙ ap (λ (u : Tables). symbols_of u is.laid) same;
  }

-- ---- the bytes of all of it

pub end_is : (zs : List LaidStatement) (offset : ℕ) → AllByRecursion (λ (z : LaidStatement). z.bytes ≡ kind_size z.located.kind) zs → end_of offset zs ≡ offset + weight (map (λ (z : LaidStatement). z.located.kind) zs)
end_is [] offset h = omega arith
end_is (z ∷ zs) offset (one, h) = let e = end_is zs (offset + z.bytes) h in omega (arith, one, e)

pub raw_weight : (before after : List Code) → weight (raw_statements before after) ≡ length (flat_map raw_bytes (before ++ after))
raw_weight before after =
    let behind = map code_statement before ++ Label start_name ∷ map code_statement after in
    let head : weight (raw_statements before after) ≡ 0 + (0 + (0 + weight behind)) = refl in
    let label : weight (Label start_name ∷ map code_statement after) ≡ 0 + weight (map code_statement after) = refl in
    let joined = weight_join (map code_statement before) (Label start_name ∷ map code_statement after) in
    let both = both_weight before after in
    omega (arith, head, label, joined, both)
