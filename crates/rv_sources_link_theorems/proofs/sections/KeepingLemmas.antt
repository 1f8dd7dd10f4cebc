-- The objects of sources without the sections that collection dropped.

use Rattle.std.proofs.Common.{◌≡◌, ℕ, suc, ◌+◌, Bool, true, false, List, [], ◌∷◌, ◌++◌, ◌≤◌, length, map, refl, sym, ap, ◌∙◌, subst, Option, Some, None}
use Rattle.std.specs.Prelude.{◌&&◌, ◌||◌, ◌==◌, not, if◌then◌else◌, filter, flat_map, option_map, unwrap_or, slice_get}
use Rattle.std.specs.List.{AllByRecursion, list_any}
use Rattle.rv_map_laws.specs.declared.map.SectionId.{SectionId}
use Rattle.rv_collect_laws.specs.Graph.{is_dropped}
use Rattle.rv_expression_laws.specs.Expression.{Primary}
use Rattle.rv_expression_laws.specs.Values.{Value, Meaning, Known, InSection as InData, Open as OpenAddress, Refused}
use Rattle.rv_statement_laws.specs.Statement.{StatementKind, Label, Numbered, Instruction, Directs, Statement, Expression, Enters, Sets, Aligns, Emits}
use Rattle.rv_unit_laws.specs.Bindings.{is_shared}
use Rattle.rv_unit_laws.specs.Contributions.{contribution}
use Rattle.rv_unit_laws.specs.Sections.{Section as SourceSection}
use Rattle.rv_unit_laws.specs.Tables.{Tables, Definition, Assignment, tables, at_start, definition, assigned_ever, opened_of, alignment_of, longest_section}
use Rattle.rv_pseudo_laws.specs.Code.{Part as CodePart, Closed, Open as Open_part, Joined, code}
use Rattle.rv_source_laws.specs.Located.{Located, located_from, without_address, masked}
use Rattle.rv_source_laws.specs.Compressed.{is_code, names_parcel, is_compressed_code}
use Rattle.rv_source_laws.specs.Sizes.{AreLeast}
use Rattle.rv_source_laws.specs.Exports.{names_where}
use Rattle.rv_source_laws.proofs.LeftLemmas.{text_left}
use Rattle.rv_source_laws.proofs.LocatedLemmas.{without_executable}
use Rattle.rv_object_laws.specs.declared.row.Row.{Row}
use Rattle.rv_object_laws.specs.declared.symbol.Definition.{Definition as Defined}
use Rattle.rv_object_laws.specs.declared.symbol.Definition.TheVariants.{Undefined, Absolute, InSection, Skipped}
use Rattle.rv_object_laws.specs.Object.{Section, Symbol, Object}
use Rattle.rv_link_laws.specs.Without.{without_section, without_sections, without_object, without_from}
use Rattle.rv_assemble_laws.specs.CodeFields.{part_fields}
use Rattle.rv_assemble_laws.specs.Coded.{constants}
use Rattle.rv_assemble_laws.specs.Templates.{Open, Coded, IsTemplate, contribution_templates}
use Rattle.rv_assemble_laws.specs.LaidStatements.{LaidStatement, LaidPart, expression_value, laid_part, part_bytes, coded_templates, templates, parts_of, parts, laid_in, Tile, end_of, IsPaddedIn, HasSize}
use Rattle.rv_assemble_laws.specs.Symbols.{SymbolUse, references_in, laid_at, after_found, assigned_definition, statement_definition, shared_symbol, exports_of, StandsFor, IsDefinedBy}
use Rattle.rv_assemble_laws.specs.IsObjectOf.{Numbering, row_of, rows_at, relocations_from, contents_of, IsNumbered, ArePartsNumbered, IsSectionOf, AreSectionsOf, IsInData, StandsInData, IsObjectOf}
use Rattle.rv_sources_link_theorems.specs.Joins.{AreObjectsOf}
use Rattle.rv_sources_link_theorems.proofs.names.ExportedLemmas.{exported_are}
use Rattle.rv_sources_link_theorems.proofs.sections.MaskedLemmas.{masked_sections}
use Rattle.rv_sources_link_theorems.proofs.sections.StoodLemmas.{IsStood, stood}
use Rattle.rv_sources_link_theorems.proofs.sections.KeptLemmas.{IsKept, AreKept, AreMasked}

-- ---- a statement

module _ (dropped : ℕ → Bool) where
  -- a statement whose section may be dropped
  abbrev mask : LaidStatement → LaidStatement
  mask z = record z { located = masked dropped z.located }

  abbrev mask_all : List LaidStatement → List LaidStatement
  mask_all zs = map mask zs

  -- ---- where a statement is found

  -- the same statement is found, and the same ones in a section
  laid_masked : (n : ℕ) (S : List LaidStatement) → laid_at (mask_all S) n ≡ option_map mask (laid_at S n)
  laid_masked n [] = refl
  laid_masked n (z ∷ S) = go (z.located.ordinal == n) (laid_masked n S)
    where
      go : (b : Bool) → laid_at (mask_all S) n ≡ option_map mask (laid_at S n)
          → (if b then Some (mask z) else laid_at (mask_all S) n) ≡ option_map mask (if b then Some z else laid_at S n)
      go true ih = refl
      go false ih = ih

  in_masked : (j : ℕ) (S : List LaidStatement) → laid_in j (mask_all S) ≡ mask_all (laid_in j S)
  in_masked j [] = refl
  in_masked j (z ∷ S) = go (z.located.section == j) (in_masked j S)
    where
      go : (b : Bool) → laid_in j (mask_all S) ≡ mask_all (laid_in j S) → (if b then mask z ∷ laid_in j (mask_all S) else laid_in j (mask_all S)) ≡ mask_all (if b then z ∷ laid_in j S else laid_in j S)
      go true ih = ap (λ l. mask z ∷ l) ih
      go false ih = ih

  located_masked : (S : List LaidStatement) → map (λ s. s.located) (mask_all S) ≡ map (masked dropped) (map (λ s. s.located) S)
  located_masked [] = refl
  located_masked (z ∷ S) = ap (λ l. masked dropped z.located ∷ l) (located_masked S)

  bytes_masked : (S : List LaidStatement) → map (λ s. s.bytes) (mask_all S) ≡ map (λ s. s.bytes) S
  bytes_masked [] = refl
  bytes_masked (z ∷ S) = ap (λ l. z.bytes ∷ l) (bytes_masked S)

  -- ---- what statements define

  found_masked : (n plus : ℕ) (S : List LaidStatement) → after_found (laid_at (mask_all S) n) plus ≡ after_found (laid_at S n) plus
  found_masked n plus S = ap (λ y. after_found y plus) (laid_masked n S) ∙ go (laid_at S n)
    where
      go : (y : Option LaidStatement) → after_found (option_map mask y) plus ≡ after_found y plus
      go None = refl
      go (Some z) = refl

  assigned_masked : (S : List LaidStatement) (a : Option Assignment) → assigned_definition (mask_all S) a ≡ assigned_definition S a
  assigned_masked S None = refl
  assigned_masked S (Some a) = go a.meaning
    where
      go : (m : Meaning) → assigned_definition (mask_all S) (Some (record a { meaning = m })) ≡ assigned_definition S (Some (record a { meaning = m }))
      go (Known n) = refl
      go (InData section offset) = found_masked a.ordinal a.plus S
      go OpenAddress = refl
      go (Refused code) = refl

  definition_masked : (t : Tables) (S : List LaidStatement) (z : LaidStatement) (kind : StatementKind) → statement_definition t (mask_all S) (mask z) kind ≡ statement_definition t S z kind
  definition_masked t S z (Label name) = refl
  definition_masked t S z (Numbered number) = refl
  definition_masked t S z (Instruction m os) = refl
  definition_masked t S z (Directs (Sets name e)) = assigned_masked S (assigned_ever t.assignments name)
  definition_masked t S z (Directs (Enters section)) = refl
  definition_masked t S z (Directs _) = refl

  exports_masked : (t : Tables) (S zs : List LaidStatement) → flat_map (exports_of t (mask_all S)) (mask_all zs) ≡ flat_map (exports_of t S) zs
  exports_masked t S [] = refl
  exports_masked t S (z ∷ zs) =
      ap (λ d. map (λ name. shared_symbol t name d) (names_where is_shared t z.located) ++ flat_map (exports_of t (mask_all S)) (mask_all zs)) (definition_masked t S z z.located.kind)
      ∙ ap (λ l. exports_of t S z ++ l) (exports_masked t S zs)

  -- ---- where symbols stand

  -- at the same statements
  definition_stood : (S : List LaidStatement) (d : Defined) → IsStood S d → IsStood (mask_all S) d
  definition_stood S Undefined h = tt
  definition_stood S (Absolute n) h = tt
  definition_stood S (Skipped n) h = tt
  definition_stood S (InSection section offset) h = record {
    n = h.n;
    z = mask h.z;
    found = laid_masked h.n S ∙ ap (option_map mask) h.found;
    there = h.there;
    same = λ text. h.same (text_left (dropped h.z.located.section) h.z.located.home text);
  }

  all_stood : (S : List LaidStatement) (xs : List Symbol) → AllByRecursion (λ x. IsStood S x.definition) xs → AllByRecursion (λ x. IsStood (mask_all S) x.definition) xs
  all_stood S [] h = tt
  all_stood S (x ∷ xs) (h, hs) = (definition_stood S x.definition h, all_stood S xs hs)

  place_masked : (y : Option LaidStatement) → IsInData y → IsInData (option_map mask y)
  place_masked None h = tt
  place_masked (Some z) (aside, placed) = (without_executable (dropped z.located.section) z.located.home ∙ aside, placed)

  places_masked : (S : List LaidStatement) (sets : List Assignment) → AllByRecursion (StandsInData S) sets → AllByRecursion (StandsInData (mask_all S)) sets
  places_masked S [] h = tt
  places_masked S (a ∷ sets) (h, hs) = ((λ e. subst IsInData (sym (laid_masked a.ordinal S)) (place_masked (laid_at S a.ordinal) (h e))), places_masked S sets hs)

  -- ---- what relocations name

  defined_still : (S : List LaidStatement) (q : Primary) (x : Symbol) (d : Option Definition) → IsDefinedBy S q d x → IsDefinedBy (mask_all S) q d x
  defined_still S q x None h = h
  defined_still S q x (Some d) (z, found, placed, there) = (mask z, laid_masked d.ordinal S ∙ ap (option_map mask) found, placed, there)

  stands_still : (t : Tables) (S : List LaidStatement) (ordinal : ℕ) (q : Primary) (x : Option Symbol) → StandsFor t S ordinal q x → StandsFor t (mask_all S) ordinal q x
  stands_still t S ordinal q None h = h
  stands_still t S ordinal q (Some x) (named, weak, d) = (named, weak, defined_still S q x (definition t ordinal q) d)

  module _ (t : Tables) (S : List LaidStatement) (number : Numbering) (symbols : List Symbol) where
    uses_numbered : (us : List SymbolUse) → AllByRecursion (IsNumbered t S number symbols) us → AllByRecursion (IsNumbered t (mask_all S) number symbols) us
    uses_numbered [] h = tt
    uses_numbered (u ∷ us) (h, hs) = (stands_still t S u.ordinal u.symbol (slice_get symbols (number u.ordinal u.symbol)) h, uses_numbered us hs)

    parts_numbered : (ps : List LaidPart) → ArePartsNumbered t S number symbols ps → ArePartsNumbered t (mask_all S) number symbols ps
    parts_numbered [] h = tt
    parts_numbered (p ∷ ps) (h, hs) = (uses_numbered (references_in p) h, parts_numbered ps hs)

  -- ---- parts and sizes

  module _ (t : Tables) where
    code_same : (z : LaidStatement) (ps : List CodePart) (coded : List (List ℕ))
        → coded_templates (part_fields t (expression_value t z.located) (masked dropped z.located)) ps coded ≡ coded_templates (part_fields t (expression_value t z.located) z.located) ps coded
    code_same z [] coded = refl
    code_same z (p ∷ ps) [] = refl
    code_same z (p ∷ ps) (bytes ∷ coded) =
        ap (λ (fs : List Open). Coded bytes fs ∷ coded_templates (part_fields t (expression_value t z.located) (masked dropped z.located)) ps coded) (own p)
        ∙ ap (λ l. Coded bytes (part_fields t (expression_value t z.located) z.located p) ∷ l) (code_same z ps coded)
      where
        own : (p : CodePart) → part_fields t (expression_value t z.located) (masked dropped z.located) p ≡ part_fields t (expression_value t z.located) z.located p
        own (Closed i) = refl
        own (Open_part k i) = refl
        own (Joined k i j) = refl

    templates_same : (z : LaidStatement) (kind : StatementKind) → templates t (mask z) kind ≡ templates t z kind
    templates_same z (Label name) = refl
    templates_same z (Numbered number) = refl
    templates_same z (Instruction m os) = code_same z (unwrap_or (code (constants (expression_value t z.located)) z.located.options.rvc z.bytes m os) []) z.coded
    templates_same z (Directs d) =
        ap (λ b. contribution_templates b z.located.ordinal (expression_value t z.located) (contribution d) z.bytes) (without_executable (dropped z.located.section) z.located.home)

    parts_same : (z : LaidStatement) → parts_of t (mask z) ≡ parts_of t z
    parts_same z = ap (map (laid_part z.located.ordinal)) (templates_same z z.located.kind)

    all_parts : (zs : List LaidStatement) → parts t (mask_all zs) ≡ parts t zs
    all_parts [] = refl
    all_parts (z ∷ zs) = ap (λ l. l ++ parts t (mask_all zs)) (parts_same z) ∙ ap (λ l. parts_of t z ++ l) (all_parts zs)

    all_tile : (offset : ℕ) (zs : List LaidStatement) → Tile t offset zs → Tile t offset (mask_all zs)
    all_tile offset [] h = tt
    all_tile offset (z ∷ zs) (at, bytes, h) = (at, bytes ∙ ap (λ l. length (flat_map part_bytes l)) (sym (parts_same z)), all_tile (offset + z.bytes) zs h)

    padded_same : (b : Bool) (z : LaidStatement) (a : Option ℕ) → IsPaddedIn b z a → IsPaddedIn b (mask z) a
    padded_same true z a h = h
    padded_same false z a h = h

    padded : (z : LaidStatement) (a : Option ℕ) → IsPaddedIn z.located.home.executable z a → IsPaddedIn (mask z).located.home.executable (mask z) a
    padded z a h =
        subst (λ b. IsPaddedIn b (mask z) a) (sym (without_executable (dropped z.located.section) z.located.home)) (padded_same z.located.home.executable z a h)

    size_same : (v : Expression → Value) (z : LaidStatement) (multiple : ℕ) (kind : StatementKind) → HasSize v z multiple kind → HasSize v (mask z) multiple kind
    size_same v z multiple (Label name) h = h
    size_same v z multiple (Numbered number) h = h
    size_same v z multiple (Instruction m os) h = h
    size_same v z multiple (Directs (Emits contents)) h = h
    size_same v z multiple (Directs (Aligns form e)) (x, y, h) = (x, y, padded z (alignment_of v (Aligns form e)) h)
    size_same v z multiple (Directs (Enters section)) h = h
    size_same v z multiple (Directs _) h = h

    abbrev Sized : ℕ → LaidStatement → Type 0
    Sized multiple z = z.located.placed ≡ true → HasSize (expression_value t z.located) z multiple z.located.kind

    all_sized : (multiple : ℕ) (zs : List LaidStatement) → AllByRecursion (Sized multiple) zs → AllByRecursion (Sized multiple) (mask_all zs)
    all_sized multiple [] h = tt
    all_sized multiple (z ∷ zs) (h, hs) = ((λ placed. size_same (expression_value t z.located) z multiple z.located.kind (h placed)), all_sized multiple zs hs)

  end_same : (offset : ℕ) (zs : List LaidStatement) → end_of offset (mask_all zs) ≡ end_of offset zs
  end_same offset [] = refl
  end_same offset (z ∷ zs) = end_same (offset + z.bytes) zs

  -- ---- sections

  module _ (t : Tables) (all : List LaidStatement) (number : Numbering) (symbols : List Symbol) where
    -- one is that of the source without its address, and else stays as it is
    section_left : (b : Bool) (j : ℕ) (s : SourceSection) (zs : List LaidStatement) (x : Section) → IsSectionOf t all number symbols j s zs x
        → IsSectionOf t (mask_all all) number symbols j (without_address b s) (mask_all zs) (without_section b x)
    section_left b j s zs x h = go b
      where
        same : parts t zs ≡ parts t (mask_all zs)
        same = sym (all_parts t zs)

        contents : x.contents ≡ contents_of s.section_type (end_of 0 (mask_all zs)) (flat_map part_bytes (parts t (mask_all zs)))
        contents =
            h.contents ∙ ap (λ n. contents_of s.section_type n (flat_map part_bytes (parts t zs))) (sym (end_same 0 zs))
            ∙ ap (λ ps. contents_of s.section_type (end_of 0 (mask_all zs)) (flat_map part_bytes ps)) same

        short : s.executable ≡ true → end_of 0 (mask_all zs) ≤ longest_section
        short code = subst (λ n. n ≤ longest_section) (sym (end_same 0 zs)) (h.short code)

        go : (b : Bool) → IsSectionOf t (mask_all all) number symbols j (without_address b s) (mask_all zs) (without_section b x)
        go true = record {
          name = h.name;
          loaded = refl;
          executable = h.executable;
          writable = h.writable;
          alignment = h.alignment;
          some = h.some;
          tile = all_tile t 0 zs h.tile;
          contents = contents;
          code = λ text none. absurd (cc);
          relocations = refl;
          numbered = λ loaded. absurd (cc);
          sizes = all_sized t x.alignment zs h.sizes;
          fields = subst (λ ps. AllByRecursion (λ p. IsTemplate p.template) ps) same h.fields;
          short = short;
        }
        go false = record {
          name = h.name;
          loaded = h.loaded;
          executable = h.executable;
          writable = h.writable;
          alignment = h.alignment;
          some = h.some;
          tile = all_tile t 0 zs h.tile;
          contents = contents;
          code = λ text none. subst (λ ps. flat_map part_bytes ps ≡ []) same (h.code text none);
          relocations = h.relocations ∙ ap (λ ps. if s.loaded then relocations_from number 0 ps else []) same;
          numbered = λ loaded. subst (ArePartsNumbered t (mask_all all) number symbols) same (parts_numbered t all number symbols (parts t zs) (h.numbered loaded));
          sizes = all_sized t x.alignment zs h.sizes;
          fields = subst (λ ps. AllByRecursion (λ p. IsTemplate p.template) ps) same h.fields;
          short = short;
        }

    sections_kept : (index : ℕ) (ss : List SourceSection) (xs : List Section) → AreSectionsOf t all number symbols index ss xs
        → AreSectionsOf t (mask_all all) number symbols index (masked_sections dropped index ss) (without_sections dropped index xs)
    sections_kept index [] [] h = tt
    sections_kept index [] (x ∷ xs) h = absurd h
    sections_kept index (s ∷ ss) [] h = absurd h
    sections_kept index (s ∷ ss) (x ∷ xs) (h, hs) = (
      subst (λ zs. IsSectionOf t (mask_all all) number symbols index (without_address (dropped index) s) zs (without_section (dropped index) x)) (sym (in_masked index all))
          (section_left (dropped index) index s (laid_in index all) x h),
      sections_kept (suc index) ss xs hs,
    )

  -- ---- rows and flags

  -- the rows of dropped sections are gone
  abbrev row_stays : Row → Bool
  row_stays r = not (dropped r.section)

  rows_left : (zs : List LaidStatement) → filter row_stays (flat_map rows_at zs) ≡ flat_map rows_at (mask_all zs)
  rows_left [] = refl
  rows_left (z ∷ zs) = go (dropped z.located.section) refl z.located.placed z.located.home.loaded (rows_left zs)
    where
      rest : List Row
      rest = flat_map rows_at zs

      go : (b : Bool) → dropped z.located.section ≡ b → (p l : Bool) → filter row_stays rest ≡ flat_map rows_at (mask_all zs)
          → filter row_stays ((if p && l then row_of z ∷ [] else []) ++ rest)
          ≡ (if p && (if b then record z.located.home { loaded = false } else record z.located.home { loaded = l }).loaded then row_of z ∷ [] else []) ++ flat_map rows_at (mask_all zs)
      go true e true true ih = ap (λ b. if not b then row_of z ∷ filter row_stays rest else filter row_stays rest) e ∙ ih
      go false e true true ih = ap (λ b. if not b then row_of z ∷ filter row_stays rest else filter row_stays rest) e ∙ ap (λ (l : List Row). row_of z ∷ l) ih
      go true e true false ih = ih
      go false e true false ih = ih
      go true e false l ih = ih
      go false e false l ih = ih

  flag_same : (b : Bool) (l : Located) → is_compressed_code (record l { home = without_address b l.home }) ≡ is_compressed_code l
  flag_same b l = ap (λ x. (l.options.rvc || names_parcel l.kind) && is_code x l.kind) (without_executable b l.home)

  flags_same : (zs : List LaidStatement) → list_any (λ s. is_compressed_code s.located) (mask_all zs) ≡ list_any (λ s. is_compressed_code s.located) zs
  flags_same [] = refl
  flags_same (z ∷ zs) =
      ap (λ b. b || list_any (λ s. is_compressed_code s.located) (mask_all zs)) (flag_same (dropped z.located.section) z.located)
      ∙ ap (λ b. is_compressed_code z.located || b) (flags_same zs)

  -- ---- the whole

  -- an object without these sections keeps all else of what its source makes of it
  pub kept : (ss : List Statement) (o : Object) → IsObjectOf ss o → IsKept ss (without_object dropped o)
  kept ss o is = record {
    dropped = dropped;
    good = is.good;
    laid = mask_all is.laid;
    located = located_masked is.laid ∙ ap (map (masked dropped)) is.located;
    places = places_masked is.laid (tables ss).assignments is.places;
    least = subst (AreLeast (tables ss) (located_from 1 1 (at_start ss) ss)) (sym (bytes_masked is.laid)) is.least;
    number = is.number;
    sections = sections_kept (tables ss) is.laid is.number o.symbols 0 (opened_of (tables ss)).sections o.sections is.sections;
    exported_are = exported_are ss o is ∙ sym (exports_masked (tables ss) is.laid is.laid);
    stood = all_stood is.laid o.symbols (stood ss o is);
    rows = ap (filter row_stays) is.rows ∙ rows_left is.laid;
    rvc = is.rvc ∙ sym (flags_same is.laid);
  }

  pub kept_dropped : (ss : List Statement) (o : Object) (is : IsObjectOf ss o) → (kept ss o is).dropped ≡ dropped
  unfolding kept
  kept_dropped ss o is = refl

-- ---- all files

-- what the objects of sources keep
unfoldable pub all_kept : (drops : List SectionId) (file : ℕ) (sources : List (List Statement)) (os : List Object) → AreObjectsOf sources os → AreKept sources (without_from drops file os)
all_kept drops file [] [] h = tt
all_kept drops file [] (o ∷ os) h = absurd h
all_kept drops file (ss ∷ sources) [] h = absurd h
all_kept drops file (ss ∷ sources) (o ∷ os) (is, h) = (kept (is_dropped drops file) ss o is, all_kept drops (suc file) sources os h)

-- and which sections they lack
pub all_masks : (drops : List SectionId) (file : ℕ) (sources : List (List Statement)) (os : List Object) (h : AreObjectsOf sources os)
    → AreMasked drops file sources (without_from drops file os) (all_kept drops file sources os h)
unfolding all_kept
all_masks drops file [] [] h = tt
all_masks drops file [] (o ∷ os) h = absurd h
all_masks drops file (ss ∷ sources) [] h = absurd h
all_masks drops file (ss ∷ sources) (o ∷ os) (is, h) = (kept_dropped (is_dropped drops file) ss o is, all_masks drops (suc file) sources os h)
