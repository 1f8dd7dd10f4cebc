-- The object of a source as the assembler makes it: its calls have 8 bytes.

use Rattle.std.proofs.Common.{◌≡◌, ℕ, suc, ◌+◌, Bool, true, false, List, [], ◌∷◌, ◌++◌, length, map, refl, sym, ap, ◌∙◌, subst, Option, Some, None}
use Rattle.std.specs.Prelude.{if◌then◌else◌, ◌&&◌, ◌==◌, flat_map, unwrap_or, slice_index}
use Rattle.std.specs.List.{AllByRecursion}
use Rattle.rv_statement_laws.specs.declared.mnemonic.Mnemonic.{Mnemonic}
use Rattle.rv_statement_laws.specs.declared.mnemonic.Mnemonic.TheVariants.{Call, Tail, Jump}
use Rattle.rv_statement_laws.specs.Statement.{StatementKind, Label, Numbered, Instruction, Directs, Statement, Operand, Expression}
use Rattle.rv_expression_laws.specs.Values.{Value}
use Rattle.rv_size_laws.specs.declared.item.Forms.TheVariants.{Settled}
use Rattle.rv_size_laws.specs.Branches.{Offers, item_at}
use Rattle.rv_unit_laws.specs.Sections.{Section as SourceSection}
use Rattle.rv_unit_laws.specs.Tables.{Tables, tables, at_start}
use Rattle.rv_source_laws.specs.Located.{Located, located_from, masked}
use Rattle.rv_source_laws.specs.Sizes.{item_by_kind, items_of}
use Rattle.rv_object_laws.specs.Object.{Section, Symbol, Object}
use Rattle.rv_pseudo_laws.specs.Code.{Part as CodePart, Closed, Open as Open_part, Joined, code, far}
use Rattle.rv_source_laws.specs.Sized.{is_call_mnemonic}
use Rattle.rv_source_laws.specs.Shortened.{is_call_statement, link_register}
use Rattle.rv_assemble_laws.specs.CodeFields.{part_fields as plain_fields}
use Rattle.rv_assemble_laws.specs.Coded.{constants}
use Rattle.rv_assemble_laws.specs.Templates.{Open, Coded, IsTemplate}
use Rattle.rv_assemble_laws.specs.LaidStatements.{LaidStatement, expression_value, laid_part, part_bytes, coded_templates, laid_in, end_of, templates as plain_templates, parts_of as plain_parts_of, parts as plain_parts, Tile as PlainTile}
use Rattle.rv_assemble_laws.specs.IsObjectOf.{Numbering, relocations_from, contents_of, ArePartsNumbered, IsSectionOf as IsPlainSectionOf, AreSectionsOf as ArePlainSectionsOf, IsObjectOf}
use Rattle.rv_sources_link_theorems.proofs.sections.KeptLemmas.{IsKept, AreKept}
use Rattle.rv_sources_link_theorems.proofs.sections.MaskedLemmas.{source_sections, none_masked}
use Rattle.rv_sources_link_theorems.proofs.statements.MarkedLemmas.{is_jump, marked, part_fields}
use Rattle.rv_sources_link_theorems.proofs.calls.CalledLemmas.{called}
use Rattle.rv_sources_link_theorems.proofs.sections.AssembledLemmas.{assembled_templates, parts_of, parts, Tile, IsSectionOf, AreSectionsOf, IsAssembled, AreAssembled}

-- ---- calls have 8 bytes

abbrev pub IsUncut : LaidStatement → Type 0
IsUncut z = is_call_statement z.located.kind ≡ true → z.bytes ≡ 8

settled_eight : (t : Tables) (all : List Located) (s : Located) (bytes : ℕ) (kind : StatementKind) → is_call_statement kind ≡ true → (item_by_kind t all s bytes kind).forms ≡ Settled 8
settled_eight t all s bytes (Instruction Call os) e = refl
settled_eight t all s bytes (Instruction Tail os) e = refl
settled_eight t all s bytes (Instruction Jump os) e = refl
settled_eight t all s bytes (Instruction m os) e = absurd (cc)
settled_eight t all s bytes (Label name) e = absurd (cc)
settled_eight t all s bytes (Numbered number) e = absurd (cc)
settled_eight t all s bytes (Directs d) e = absurd (cc)

uncut_from : (t : Tables) (all : List Located) (dropped : ℕ → Bool) (ls : List Located) (zs : List LaidStatement) → map (λ (z : LaidStatement). z.located) zs ≡ map (masked dropped) ls
    → ((i : ℕ) → Offers (item_at (items_of t all ls (map (λ (z : LaidStatement). z.bytes) zs)) i).forms (slice_index (map (λ (z : LaidStatement). z.bytes) zs) i))
    → AllByRecursion IsUncut zs
uncut_from t all dropped ls [] e h = tt
uncut_from t all dropped [] (z ∷ zs) e h = absurd (cc)
uncut_from t all dropped (l ∷ ls) (z ∷ zs) e h =
    let same : z.located ≡ masked dropped l = cc in
    let kind : l.kind ≡ z.located.kind = sym (ap (λ (q : Located). q.kind) same) in
    let rest : map (λ (z : LaidStatement). z.located) zs ≡ map (masked dropped) ls = cc in (
      (λ call. subst (λ f. Offers f z.bytes) (settled_eight t all l z.bytes l.kind (ap is_call_statement kind ∙ call)) (h 0)),
      uncut_from t all dropped ls zs rest (λ i. h (suc i)),
    )

pub uncut : (ss : List Statement) (o : Object) (is : IsObjectOf ss o) → AllByRecursion IsUncut is.laid
uncut ss o is =
    let ls = located_from 1 1 (at_start ss) ss in uncut_from (tables ss) ls (λ index. false) ls is.laid (is.located ∙ sym (none_masked ls)) is.least.good.family.offered

-- those that are kept too
pub all_uncut : (ss : List Statement) (o : Object) (is : IsKept ss o) → AllByRecursion IsUncut is.laid
all_uncut ss o is =
    let ls = located_from 1 1 (at_start ss) ss in uncut_from (tables ss) ls is.dropped ls is.laid is.located is.least.good.family.offered

-- ---- so no field of theirs is marked

-- no part of another statement is
unmarked : (t : Tables) (s : Located) → is_call_statement s.kind ≡ false → (ps : List CodePart) (coded : List (List ℕ))
    → coded_templates (part_fields t (expression_value t s) s) ps coded ≡ coded_templates (plain_fields t (expression_value t s) s) ps coded
unmarked t s e [] coded = refl
unmarked t s e (p ∷ ps) [] = refl
unmarked t s e (p ∷ ps) (bytes ∷ coded) =
    ap (λ (fs : List Open). Coded bytes fs ∷ coded_templates (part_fields t (expression_value t s) s) ps coded) (own p)
    ∙ ap (λ l. Coded bytes (plain_fields t (expression_value t s) s p) ∷ l) (unmarked t s e ps coded)
  where
    never : (b : Bool) → (b && is_call_statement s.kind) ≡ false
    never true = e
    never false = refl

    own : (p : CodePart) → part_fields t (expression_value t s) s p ≡ plain_fields t (expression_value t s) s p
    own (Closed i) = refl
    own (Open_part k i) = ap (λ b. marked b s (plain_fields t (expression_value t s) s (Open_part k i))) (never (is_jump k))
    own (Joined k i j) = refl

-- a whole call is one part
whole : (t : Tables) (s : Located) (link by : ℕ) (coded : List (List ℕ))
    → coded_templates (part_fields t (expression_value t s) s) (far 8 link by) coded ≡ coded_templates (plain_fields t (expression_value t s) s) (far 8 link by) coded
whole t s link by [] = refl
whole t s link by (bytes ∷ coded) = refl

module _ (t : Tables) (z : LaidStatement) (eight : IsUncut z) where
  abbrev v : Expression → Value
  v = expression_value t z.located

  by_code : (m : Mnemonic) (os : List Operand) → z.located.kind ≡ Instruction m os → (ps : Option (List CodePart)) → code (constants v) z.located.options.rvc z.bytes m os ≡ ps
      → coded_templates (part_fields t v z.located) (unwrap_or ps []) z.coded ≡ coded_templates (plain_fields t v z.located) (unwrap_or ps []) z.coded
  by_code m os e None f = refl
  by_code m os e (Some ps) f = go (is_call_mnemonic m) refl
    where
      go : (b : Bool) → is_call_mnemonic m ≡ b → coded_templates (part_fields t v z.located) ps z.coded ≡ coded_templates (plain_fields t v z.located) ps z.coded
      go false g = unmarked t z.located (ap is_call_statement e ∙ g) ps z.coded
      go true g =
          let c = called (constants v) z.located.options.rvc z.bytes m os ps g f in
          let both : Some ps ≡ Some (far 8 (link_register m os) c.by) =
          sym f ∙ ap (λ n. code (constants v) z.located.options.rvc n m os) (eight (ap is_call_statement e ∙ g)) ∙ c.codes 8 in
          let is : ps ≡ far 8 (link_register m os) c.by = cc in
          ap (λ l. coded_templates (part_fields t v z.located) l z.coded) is ∙ whole t z.located (link_register m os) c.by z.coded
          ∙ ap (λ l. coded_templates (plain_fields t v z.located) l z.coded) (sym is)

  by_kind : (kind : StatementKind) → z.located.kind ≡ kind → assembled_templates t z kind ≡ plain_templates t z kind
  by_kind (Label name) e = refl
  by_kind (Numbered number) e = refl
  by_kind (Instruction m os) e = by_code m os e (code (constants v) z.located.options.rvc z.bytes m os) refl
  by_kind (Directs d) e = refl

  parts_same : parts_of t z ≡ plain_parts_of t z
  parts_same = ap (map (laid_part z.located.ordinal)) (by_kind z.located.kind refl)

-- ---- sections

module _ (t : Tables) where
  all_same : (zs : List LaidStatement) → AllByRecursion IsUncut zs → parts t zs ≡ plain_parts t zs
  all_same [] h = refl
  all_same (z ∷ zs) (h, hs) = ap (λ l. l ++ parts t zs) (parts_same t z h) ∙ ap (λ l. plain_parts_of t z ++ l) (all_same zs hs)

  tile_same : (o : ℕ) (zs : List LaidStatement) → AllByRecursion IsUncut zs → PlainTile t o zs → Tile t o zs
  tile_same o [] h tile = tt
  tile_same o (z ∷ zs) (h, hs) (at, bytes, tile) =
      (at, bytes ∙ ap (λ l. length (flat_map part_bytes l)) (sym (parts_same t z h)), tile_same (o + z.bytes) zs hs tile)

  uncut_in : (j : ℕ) (zs : List LaidStatement) → AllByRecursion IsUncut zs → AllByRecursion IsUncut (laid_in j zs)
  uncut_in j [] h = tt
  uncut_in j (z ∷ zs) (h, hs) = go (z.located.section == j) (uncut_in j zs hs)
    where
      go : (b : Bool) → AllByRecursion IsUncut (laid_in j zs) → AllByRecursion IsUncut (if b then z ∷ laid_in j zs else laid_in j zs)
      go true ih = (h, ih)
      go false ih = ih

  section_same : (all : List LaidStatement) (number : Numbering) (symbols : List Symbol) (j : ℕ) (s : SourceSection) (zs : List LaidStatement) (x : Section) → AllByRecursion IsUncut zs
      → IsPlainSectionOf t all number symbols j s zs x → IsSectionOf t all number symbols j s zs x
  section_same all number symbols j s zs x u h =
      let same : plain_parts t zs ≡ parts t zs = sym (all_same zs u) in
      record {
        loaded = h.loaded;
        executable = h.executable;
        writable = h.writable;
        alignment = h.alignment;
        some = h.some;
        tile = tile_same 0 zs u h.tile;
        contents = subst (λ ps. x.contents ≡ contents_of s.section_type (end_of 0 zs) (flat_map part_bytes ps)) same h.contents;
        code = λ text none. subst (λ ps. flat_map part_bytes ps ≡ []) same (h.code text none);
        relocations = subst (λ ps. x.relocations ≡ (if s.loaded then relocations_from number 0 ps else [])) same h.relocations;
        numbered = λ l. subst (ArePartsNumbered t all number symbols) same (h.numbered l);
        sizes = h.sizes;
        fields = subst (λ ps. AllByRecursion (λ p. IsTemplate p.template) ps) same h.fields;
        short = h.short;
      }

  pub sections_same : (all : List LaidStatement) → AllByRecursion IsUncut all → (number : Numbering) (symbols : List Symbol) (j : ℕ) (ss : List SourceSection) (xs : List Section)
      → ArePlainSectionsOf t all number symbols j ss xs → AreSectionsOf t all number symbols j ss xs
  sections_same all u number symbols j [] [] h = tt
  sections_same all u number symbols j [] (x ∷ xs) h = h
  sections_same all u number symbols j (s ∷ ss) [] h = h
  sections_same all u number symbols j (s ∷ ss) (x ∷ xs) (h, hs) =
      (section_same all number symbols j s (laid_in j all) x (uncut_in j all u) h, sections_same all u number symbols (suc j) ss xs hs)

-- ---- objects

pub assembled : (ss : List Statement) (o : Object) → IsKept ss o → IsAssembled ss o
assembled ss o is = record {
  dropped = is.dropped;
  good = is.good;
  laid = is.laid;
  located = is.located;
  places = is.places;
  number = is.number;
  sections = sections_same (tables ss) is.laid (all_uncut ss o is) is.number o.symbols 0 (source_sections is.dropped ss) o.sections is.sections;
  exported_are = is.exported_are;
  rows = is.rows;
  rvc = is.rvc;
}

pub assembled_laid : (ss : List Statement) (o : Object) (is : IsKept ss o) → (assembled ss o is).laid ≡ is.laid
unfolding assembled
assembled_laid ss o is = refl

pub assembled_dropped : (ss : List Statement) (o : Object) (is : IsKept ss o) → (assembled ss o is).dropped ≡ is.dropped
unfolding assembled
assembled_dropped ss o is = refl

unfoldable pub all_assembled : (sources : List (List Statement)) (os : List Object) → AreKept sources os → AreAssembled sources os
all_assembled [] [] h = tt
all_assembled [] (o ∷ os) h = absurd h
all_assembled (ss ∷ sources) [] h = absurd h
all_assembled (ss ∷ sources) (o ∷ os) (is, h) = (assembled ss o is, all_assembled sources os h)
