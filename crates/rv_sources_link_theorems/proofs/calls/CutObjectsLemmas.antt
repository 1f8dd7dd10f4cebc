-- The object of a source whose calls are cut is that of the source, with calls of one instruction.

use Rattle.std.proofs.Common.{◌≡◌, ℕ, suc, ◌+◌, ◌-◌, Bool, true, false, List, [], ◌∷◌, ◌++◌, map, refl, sym, ap, ◌∙◌, subst, arith, Some}
use Rattle.std.proofs.lemmas.Bool.{and_parts, eqb-true, and_right}
use Rattle.std.specs.Prelude.{⊤, ◌&&◌, ◌||◌, ◌==◌, if◌then◌else◌, filter, flat_map}
use Rattle.std.specs.List.{AllByRecursion, list_any, slice_get}
use Rattle.rv_list_laws.proofs.EachLemmas.{each_map}
use Rattle.rv_list_laws.proofs.FilterLemmas.{each_filter}
use Rattle.rv_statement_laws.specs.Statement.{Statement}
use Rattle.rv_unit_laws.specs.Sections.{Section as SourceSection, goes_to_text as source_text}
use Rattle.rv_unit_laws.specs.Tables.{Tables, tables}
use Rattle.rv_source_laws.specs.Located.{has_row}
use Rattle.rv_source_laws.specs.Compressed.{is_compressed_code}
use Rattle.rv_object_laws.specs.declared.row.Row.{Row}
use Rattle.rv_object_laws.specs.Object.{Section, Object}
use Rattle.rv_link_laws.specs.CallSites.{in_order}
use Rattle.rv_link_laws.specs.Inputs.{goes_to_text}
use Rattle.rv_link_laws.specs.Shortened.{Sizes, is_shortened, cut, cuts, cuts_at, cuts_in, shortened_text, shortened_section, shortened_sections, shortened_definition, shortened_symbol, shortened_row, shortened_object}
use Rattle.rv_source_laws.specs.Shortened.{is_call_statement}
use Rattle.rv_assemble_laws.specs.LaidStatements.{LaidStatement, LaidPart, expression_value, laid_in, HasSize}
use Rattle.rv_assemble_laws.specs.Symbols.{references_in, exports}
use Rattle.rv_assemble_laws.specs.IsObjectOf.{IsNumbered, ArePartsNumbered, row_of, rows_at}
use Rattle.rv_sources_link_theorems.proofs.sections.MaskedLemmas.{source_sections}
use Rattle.rv_sources_link_theorems.proofs.sections.AssembledLemmas.{parts, IsSectionOf, AreSectionsOf, IsAssembled}
use Rattle.rv_sources_link_theorems.proofs.calls.CalledLemmas.{IsForm}
use Rattle.rv_sources_link_theorems.proofs.calls.CutsLemmas.{link_of, sort_of}
use Rattle.rv_sources_link_theorems.proofs.calls.CutStepsLemmas as walk
use Rattle.rv_sources_link_theorems.proofs.calls.CutStepsLemmas.{cut_statement}
use Rattle.rv_sources_link_theorems.proofs.calls.CutSectionsLemmas.{section_left, resized}
use Rattle.rv_sources_link_theorems.proofs.names.ExportedLemmas.{exported}
use Rattle.rv_sources_link_theorems.proofs.sections.FiledLemmas as filed
use Rattle.rv_sources_link_theorems.proofs.moves.MovedLemmas as moved
use Rattle.rv_sources_link_theorems.proofs.statements.SettledLemmas.{IsSettled, IsLaidIn, laid_are_in, of_sections}
use Rattle.rv_sources_link_theorems.proofs.calls.UncutLemmas.{IsUncut}
use Rattle.rv_sources_link_theorems.proofs.fields.WholesLemmas.{IsSound, sound}

-- each call in a section of text has a form of its size
abbrev pub Fitting : (ℕ → Sizes) → LaidStatement → Type 0
Fitting sizes z = source_text z.located.home ≡ true → is_call_statement z.located.kind ≡ true → IsForm (link_of z.located.kind) (sizes z.located.section z.offset)

module _ (sizes : ℕ → Sizes) (o : Object) where
  -- a statement with the cuts of its section made
  abbrev pub mv : LaidStatement → LaidStatement
  mv z = cut_statement (source_text z.located.home) (sizes z.located.section) (cuts_in sizes o z.located.section) z

-- without cuts it stays
laid_stays : (b : Bool) (sizes : Sizes) (z : LaidStatement) → b ≡ false → cut_statement b sizes [] z ≡ z
laid_stays true sizes z h = absurd (cc)
laid_stays false sizes z h =
    let mk : ℕ → ℕ → ℕ → LaidStatement = λ a b c. record { located = z.located; offset = a; bytes = b; instructions = c; coded = z.coded } in
    let e : z.offset - 0 ≡ z.offset = omega arith in
    let f : (z.offset + z.bytes - 0) - (z.offset - 0) ≡ z.bytes = omega arith in
    let g : z.instructions - 0 ≡ z.instructions = omega arith in
    ap (λ n. mk n ((z.offset + z.bytes - 0) - (z.offset - 0)) (z.instructions - 0)) e ∙ ap (λ n. mk z.offset n (z.instructions - 0)) f ∙ ap (mk z.offset z.bytes) g

laid_stay : (b : Bool) (sizes : Sizes) (zs : List LaidStatement) → b ≡ false → map (cut_statement b sizes []) zs ≡ zs
laid_stay b sizes [] h = refl
laid_stay b sizes (z ∷ zs) h = ap (λ y. y ∷ map (cut_statement b sizes []) zs) (laid_stays b sizes z h) ∙ ap (λ l. z ∷ l) (laid_stay b sizes zs h)

module _ (ss : List Statement) (o : Object) (is : IsAssembled ss o) (uncut : AllByRecursion IsUncut is.laid) (sizes : ℕ → Sizes) (fitting : AllByRecursion (Fitting sizes) is.laid) where
  abbrev t : Tables
  t = tables ss

  abbrev sections : List SourceSection
  sections = source_sections is.dropped ss

  abbrev o' : Object
  o' = shortened_object sizes o

  abbrev laid' : List LaidStatement
  laid' = map (mv sizes o) is.laid

  all_settled : AllByRecursion (IsSettled sections) is.laid
  all_settled = filed.all_settled ss o is

  text_same : (j : ℕ) (s : SourceSection) (x : Section) → IsSectionOf t is.laid is.number o.symbols j s (laid_in j is.laid) x → goes_to_text x ≡ source_text s
  text_same j s x h = ap (λ b. b && x.executable) h.loaded ∙ ap (λ b. s.loaded && b) h.executable

  -- outside text nothing is cut
  no_cuts : (sizes : Sizes) (x : Section) → goes_to_text x ≡ false → cuts sizes x ≡ []
  no_cuts sizes x e = ap (λ b. if b then map (cut sizes x) (in_order (filter (is_shortened sizes) x.relocations)) else []) e

  still_one : (z : LaidStatement) → IsSettled sections z → z.located.home.executable ≡ false → cuts_in sizes o z.located.section ≡ []
  still_one z k aside =
      let (x, there, h) = filed.section_of ss o is z.located.section z.located.home k.home in
      ap (cuts_at (sizes z.located.section)) there
      ∙ no_cuts (sizes z.located.section) x (text_same z.located.section z.located.home x h ∙ and_right z.located.home.loaded z.located.home.executable aside)

  still : AllByRecursion (λ z. z.located.home.executable ≡ false → cuts_in sizes o z.located.section ≡ []) is.laid
  still = each_map (IsSettled sections) (λ z. z.located.home.executable ≡ false → cuts_in sizes o z.located.section ≡ []) is.laid still_one all_settled

  -- ---- symbols

  uses_same : (p : LaidPart) → AllByRecursion (IsNumbered t is.laid is.number o.symbols) (references_in p) → AllByRecursion (IsNumbered t laid' is.number o'.symbols) (references_in p)
  uses_same p h =
      moved.uses_same t is.laid is.places (filed.bounds ss o is) (cuts_in sizes o) still (mv sizes o) (λ z. refl) (λ z. refl) (shortened_definition sizes o) refl (λ n. refl) (λ n. refl) (λ j n. refl)
      is.number o.symbols p h

  numbered_same : (ps : List LaidPart) → ArePartsNumbered t is.laid is.number o.symbols ps → ArePartsNumbered t laid' is.number o'.symbols ps
  numbered_same [] h = tt
  numbered_same (p ∷ ps) (h, hs) = (uses_same p h, numbered_same ps hs)

  exported_same : exported o' ≡ exports t laid'
  exported_same =
      moved.exported_moved t is.laid is.places (filed.bounds ss o is) (cuts_in sizes o) still (mv sizes o) (λ z. refl) (λ z. refl) (shortened_definition sizes o) refl (λ n. refl) (λ n. refl) (λ j n. refl) o.symbols
      ∙ ap (map (shortened_symbol sizes o)) is.exported_are
      ∙ moved.exports_move t is.laid is.places (filed.bounds ss o is) (cuts_in sizes o) still (mv sizes o) (λ z. refl) (λ z. refl) (shortened_definition sizes o) refl (λ n. refl) (λ n. refl) (λ j n. refl) is.laid

  -- ---- sections

  module _ (j : ℕ) (s : SourceSection) (x : Section) (at : slice_get sections j ≡ Some s) (there : slice_get o.sections j ≡ Some x)
      (h : IsSectionOf t is.laid is.number o.symbols j s (laid_in j is.laid) x) where
    abbrev zs : List LaidStatement
    zs = laid_in j is.laid

    abbrev inside : AllByRecursion (IsLaidIn j s) zs
    inside = laid_are_in sections j s is.laid at all_settled

    -- its statements
    in_section : laid_in j laid' ≡ map (cut_statement (source_text s) (sizes j) (cuts (sizes j) x)) zs
    in_section = go is.laid all_settled
      where
        go : (ys : List LaidStatement) → AllByRecursion (IsSettled sections) ys → laid_in j (map (mv sizes o) ys) ≡ map (cut_statement (source_text s) (sizes j) (cuts (sizes j) x)) (laid_in j ys)
        go [] k = refl
        go (y ∷ ys) (k, ks) = by (y.located.section == j) refl (go ys ks)
          where
            own : y.located.section ≡ j → mv sizes o y ≡ cut_statement (source_text s) (sizes j) (cuts (sizes j) x) y
            own e =
                let both : Some y.located.home ≡ Some s = sym k.home ∙ ap (slice_get sections) e ∙ at in
                let same : y.located.home ≡ s = cc in
                ap (λ h. cut_statement (source_text h) (sizes y.located.section) (cuts_in sizes o y.located.section) y) same
                ∙ ap (λ n. cut_statement (source_text s) (sizes n) (cuts_in sizes o n) y) e
                ∙ ap (λ q. cut_statement (source_text s) (sizes j) (cuts_at (sizes j) q) y) there

            by : (b : Bool) → (y.located.section == j) ≡ b → laid_in j (map (mv sizes o) ys) ≡ map (cut_statement (source_text s) (sizes j) (cuts (sizes j) x)) (laid_in j ys)
                → (if b then mv sizes o y ∷ laid_in j (map (mv sizes o) ys) else laid_in j (map (mv sizes o) ys))
                ≡ map (cut_statement (source_text s) (sizes j) (cuts (sizes j) x)) (if b then y ∷ laid_in j ys else laid_in j ys)
            by true e ih = ap (λ q. q ∷ laid_in j (map (mv sizes o) ys)) (own (eqb-true y.located.section j e)) ∙ ap (λ l. cut_statement (source_text s) (sizes j) (cuts (sizes j) x) y ∷ l) ih
            by false e ih = ih

    module _ (text : source_text s ≡ true) where
      code : s.executable ≡ true
      code = (and_parts s.loaded s.executable text).1

      sorted : AllByRecursion (λ z. walk.Sorted t is.number (sizes j) x.alignment z) zs
      sorted = go zs inside (each_filter IsUncut (λ z. z.located.section == j) is.laid uncut) (each_filter (λ z. IsSound t z.located) (λ z. z.located.section == j) is.laid (sound ss is.laid is.dropped is.good is.located))
          (each_filter (Fitting sizes) (λ z. z.located.section == j) is.laid fitting) h.sizes
        where
          go : (ys : List LaidStatement) → AllByRecursion (IsLaidIn j s) ys → AllByRecursion IsUncut ys → AllByRecursion (λ z. IsSound t z.located) ys → AllByRecursion (Fitting sizes) ys
              → AllByRecursion (λ z. z.located.placed ≡ true → HasSize (expression_value t z.located) z x.alignment z.located.kind) ys → AllByRecursion (λ z. walk.Sorted t is.number (sizes j) x.alignment z) ys
          go [] a b c d e = tt
          go (y ∷ ys) (a, as') (b, bs) (c, cs) (d, ds) (e, es) = (
            sort_of t is.number (sizes j) x.alignment s code y a.home b c
                (λ call. ap_fits a.stands (d (ap source_text a.home ∙ text) call)) j a e,
            go ys as' bs cs ds es,
          )
            where
              ap_fits : y.located.section ≡ j → IsForm (link_of y.located.kind) (sizes y.located.section y.offset) → IsForm (link_of y.located.kind) (sizes j y.offset)
              ap_fits e k = subst (λ n. IsForm (link_of y.located.kind) (sizes n y.offset)) e k

      in_text : goes_to_text x ≡ true
      in_text = text_same j s x h ∙ text

      left_text : IsSectionOf t laid' is.number o'.symbols j s (laid_in j laid') (shortened_section (sizes j) x)
      left_text =
          subst (λ ys. IsSectionOf t laid' is.number o'.symbols j s ys (shortened_section (sizes j) x)) (sym (in_section ∙ ap (λ b. map (cut_statement b (sizes j) (cuts (sizes j) x)) zs) text))
          (subst (λ b. IsSectionOf t laid' is.number o'.symbols j s (map (cut_statement true (sizes j) (cuts (sizes j) x)) zs) (if b then shortened_text (sizes j) x else x)) (sym in_text)
          (section_left t is.laid laid' is.number o.symbols o'.symbols j s x (sizes j) zs h text sorted uses_same))

      resized_text : AllByRecursion (λ z. walk.IsResized t is.number (sizes j) x.alignment (cuts (sizes j) x) z) zs
      resized_text = resized t is.laid laid' is.number o.symbols o'.symbols j s x (sizes j) zs h text sorted uses_same

    module _ (aside : source_text s ≡ false) where
      out_of_text : goes_to_text x ≡ false
      out_of_text = text_same j s x h ∙ aside

      laid_same : laid_in j laid' ≡ zs
      laid_same =
          in_section ∙ ap (λ ms. map (cut_statement (source_text s) (sizes j) ms) zs) (no_cuts (sizes j) x out_of_text) ∙ laid_stay (source_text s) (sizes j) zs aside

      left_aside : IsSectionOf t laid' is.number o'.symbols j s (laid_in j laid') (shortened_section (sizes j) x)
      left_aside =
          subst (λ ys. IsSectionOf t laid' is.number o'.symbols j s ys (shortened_section (sizes j) x)) (sym laid_same)
          (subst (λ b. IsSectionOf t laid' is.number o'.symbols j s zs (if b then shortened_text (sizes j) x else x)) (sym out_of_text)
          (record {
            loaded = h.loaded;
            executable = h.executable;
            writable = h.writable;
            alignment = h.alignment;
            some = h.some;
            tile = h.tile;
            contents = h.contents;
            code = h.code;
            relocations = h.relocations;
            numbered = λ k. numbered_same (parts t zs) (h.numbered k);
            sizes = h.sizes;
            fields = h.fields;
            short = h.short;
          }))

    left : IsSectionOf t laid' is.number o'.symbols j s (laid_in j laid') (shortened_section (sizes j) x)
    left = go (source_text s) refl
      where
        go : (b : Bool) → source_text s ≡ b → IsSectionOf t laid' is.number o'.symbols j s (laid_in j laid') (shortened_section (sizes j) x)
        go true e = left_text e
        go false e = left_aside e

  sections_left : (index : ℕ) (sss : List SourceSection) (xs : List Section) → AreSectionsOf t is.laid is.number o.symbols index sss xs
      → ((j : ℕ) → slice_get sections (index + j) ≡ slice_get sss j) → ((j : ℕ) → slice_get o.sections (index + j) ≡ slice_get xs j)
      → AreSectionsOf t laid' is.number o'.symbols index sss (shortened_sections sizes index xs)
  sections_left index [] [] h at at' = tt
  sections_left index [] (x ∷ xs) h at at' = absurd h
  sections_left index (s ∷ sss) [] h at at' = absurd h
  sections_left index (s ∷ sss) (x ∷ xs) (h, hs) at at' =
      let here : slice_get sections index ≡ Some s = ap (slice_get sections) (let e : index ≡ index + 0 = omega arith in e) ∙ at 0 in
      let there : slice_get o.sections index ≡ Some x = ap (slice_get o.sections) (let e : index ≡ index + 0 = omega arith in e) ∙ at' 0 in
      let next : (j : ℕ) → suc index + j ≡ index + suc j = λ j. omega arith in (
        left index s x here there h,
        sections_left (suc index) sss xs hs (λ j. ap (slice_get sections) (next j) ∙ at (suc j)) (λ j. ap (slice_get o.sections) (next j) ∙ at' (suc j)),
      )

  -- ---- the bytes of calls

  -- a call in text has the bytes of its size, and all else its own
  abbrev pub IsResized : LaidStatement → Type 0
  IsResized z = (source_text z.located.home ≡ true → is_call_statement z.located.kind ≡ true → (mv sizes o z).bytes ≡ sizes z.located.section z.offset) × (is_call_statement z.located.kind ≡ false → (mv sizes o z).bytes ≡ z.bytes)

  -- where it stands in a section
  moved_in : (j : ℕ) (x : Section) (z : LaidStatement) → slice_get o.sections j ≡ Some x → z.located.section ≡ j → mv sizes o z ≡ cut_statement (source_text z.located.home) (sizes j) (cuts (sizes j) x) z
  moved_in j x z there stands =
      ap (λ n. cut_statement (source_text z.located.home) (sizes n) (cuts_in sizes o n) z) stands ∙ ap (λ q. cut_statement (source_text z.located.home) (sizes j) (cuts_at (sizes j) q) z) there

  pub all_resized : AllByRecursion IsResized is.laid
  all_resized = of_sections sections IsResized is.laid all_settled by
    where
      by : (j : ℕ) (s : SourceSection) → slice_get sections j ≡ Some s → AllByRecursion IsResized (laid_in j is.laid)
      by j s at = go (source_text s) refl
        where
          found : (x : Section) × (slice_get o.sections j ≡ Some x) × IsSectionOf t is.laid is.number o.symbols j s (laid_in j is.laid) x
          found = filed.section_of ss o is j s at

          go : (b : Bool) → source_text s ≡ b → AllByRecursion IsResized (laid_in j is.laid)
          go true e =
              let (x, there, h) = found in
              filed.with_home ss o is (λ z. walk.IsResized t is.number (sizes j) x.alignment (cuts (sizes j) x) z) IsResized j s at
              (λ z stands home k.
              let same : mv sizes o z ≡ cut_statement true (sizes j) (cuts (sizes j) x) z = moved_in j x z there stands ∙ ap (λ b. cut_statement b (sizes j) (cuts (sizes j) x) z) (ap source_text home ∙ e) in (
                (λ text call. ap (λ (y : LaidStatement). y.bytes) same ∙ k.0 call ∙ ap (λ n. sizes n z.offset) (sym stands)),
                (λ call. ap (λ (y : LaidStatement). y.bytes) same ∙ k.1 call),
              ))
              (resized_text j s x at there h e)
          go false e =
              let (x, there, h) = found in
              filed.with_home ss o is (λ z. ⊤) IsResized j s at
              (λ z stands home k.
              let same : mv sizes o z ≡ z =
              moved_in j x z there stands ∙ ap (λ ms. cut_statement (source_text z.located.home) (sizes j) ms z) (no_cuts (sizes j) x (text_same j s x h ∙ e))
              ∙ laid_stays (source_text z.located.home) (sizes j) z (ap source_text home ∙ e) in (
                (λ text call. let f : true ≡ false = sym text ∙ ap source_text home ∙ e in absurd (cc)),
                (λ call. ap (λ (y : LaidStatement). y.bytes) same),
              ))
              (nothing (laid_in j is.laid))
            where
              nothing : (ys : List LaidStatement) → AllByRecursion (λ z. ⊤) ys
              nothing [] = tt
              nothing (y ∷ ys) = (tt, nothing ys)

  -- ---- the whole

  rows_move : (zs : List LaidStatement) → map (shortened_row sizes o) (flat_map rows_at zs) ≡ flat_map rows_at (map (mv sizes o) zs)
  rows_move [] = refl
  rows_move (z ∷ zs) = go (has_row z.located) (rows_move zs)
    where
      go : (b : Bool) → map (shortened_row sizes o) (flat_map rows_at zs) ≡ flat_map rows_at (map (mv sizes o) zs)
          → map (shortened_row sizes o) ((if b then row_of z ∷ [] else []) ++ flat_map rows_at zs) ≡ (if b then row_of (mv sizes o z) ∷ [] else []) ++ flat_map rows_at (map (mv sizes o) zs)
      go true ih = ap (λ (l : List Row). row_of (mv sizes o z) ∷ l) ih
      go false ih = ih

  flags_same : (zs : List LaidStatement) → list_any (λ s. is_compressed_code s.located) zs ≡ list_any (λ s. is_compressed_code s.located) (map (mv sizes o) zs)
  flags_same [] = refl
  flags_same (z ∷ zs) = ap (λ b. is_compressed_code z.located || b) (flags_same zs)

  pub cut_is : IsAssembled ss o'
  cut_is = record {
    dropped = is.dropped;
    good = is.good;
    laid = laid';
    located = moved.located_same t is.laid is.places (filed.bounds ss o is) (cuts_in sizes o) still (mv sizes o) (λ z. refl) (λ z. refl) (shortened_definition sizes o) refl (λ n. refl) (λ n. refl) (λ j n. refl) is.laid
        ∙ is.located;
    places = moved.places_same t is.laid is.places (filed.bounds ss o is) (cuts_in sizes o) still (mv sizes o) (λ z. refl) (λ z. refl) (shortened_definition sizes o) refl (λ n. refl) (λ n. refl) (λ j n. refl)
        t.assignments is.places;
    number = is.number;
    sections = sections_left 0 sections o.sections is.sections
        (λ j. ap (slice_get sections) (let e : 0 + j ≡ j = omega arith in e)) (λ j. ap (slice_get o.sections) (let e : 0 + j ≡ j = omega arith in e));
    exported_are = exported_same;
    rows = ap (map (shortened_row sizes o)) is.rows ∙ rows_move is.laid;
    rvc = is.rvc ∙ flags_same is.laid;
  }

  pub cut_laid : cut_is.laid ≡ map (mv sizes o) is.laid
  unfolding cut_is
  cut_laid = refl

  pub cut_dropped : cut_is.dropped ≡ is.dropped
  unfolding cut_is
  cut_dropped = refl
