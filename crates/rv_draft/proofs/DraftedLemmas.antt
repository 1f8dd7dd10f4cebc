-- The draft of a source.

use Rattle.std.proofs.Common.{◌≡◌, ℕ, ◌≤◌, ◌<◌, ◌^◌, List, [], ◌∷◌, ◌++◌, length, map, Some, None, refl, sym, ap, ◌∙◌, subst}
use Rattle.std.specs.Prelude.{flat_map, ◌||◌, slice_get, slice_index, if◌then◌else◌}
use Rattle.std.specs.List.{AllByRecursion, list_any}
use Rattle.std.specs.Global.{Vec}
use Rattle.rv_list_laws.proofs.EachLemmas.{each_map}
use Rattle.rv_statement_laws.specs.Statement.{Statement}
use Rattle.rv_unit_laws.specs.Sections.{Section, text_section, is_nobits}
use Rattle.rv_unit_laws.specs.Tables.{Tables, at_start, tables, longest_section, opened_of}
use Rattle.rv_unit_laws.specs.Faults.{first_unit_fault}
use Rattle.rv_source_laws.specs.Located.{located, located_from}
use Rattle.rv_source_laws.specs.Compressed.{is_compressed, is_compressed_code}
use Rattle.rv_source_laws.specs.Sizes.{AreLeast}
use Rattle.rv_source_laws.proofs.HeldLemmas.{all_held}
use Rattle.rv_source_laws.proofs.HomesLemmas.{IsHomeIn, homes_from}
use Rattle.rv_assemble_laws.specs.LaidStatements.{LaidStatement, part_bytes, parts, parts_of, laid_in, Tile, end_of}
use Rattle.rv_draft.specs.declared.draft.Draft.{Draft}
use Rattle.rv_draft.specs.Added.{IsWhole}
use Rattle.rv_draft.specs.Code.{bytes_in, bytes_of_codes, sizes_of, section_code}
use Rattle.rv_draft.specs.Coded.{AreCoded}
use Rattle.rv_draft.specs.DataParts.{data_bytes, HaveCode, IsData}
use Rattle.rv_draft.specs.Items.{AreItems}
use Rattle.rv_instruction.specs.declared.encoded.Coded.{Coded as CodedPart}
use Rattle.rv_draft.specs.Seated.{laid_from}
use Rattle.rv_draft.specs.Sized.{AreSized}
use Rattle.rv_draft.specs.declared.item.CodeSize.{CodeSize}
use Rattle.rv_draft.specs.Draft.{IsDraft, IsDrafted}
use Rattle.rv_draft.proofs.FittedLemmas.{Fit, IsWideKind, fits_from, have_all_fields, all_spare}
use Rattle.rv_assemble_laws.proofs.LeastAllLemmas.{least_all}
use Rattle.rv_draft.proofs.LocationsLemmas.{places_stand}
use Rattle.rv_draft.proofs.SectionedLemmas.{IsOf, all_located, all_items, all_laid, data_as, agree, tiles, all_of, code_in, section_bytes, code_bytes, all_sizes, section_templates, all_fields, asks_some}
use Rattle.rv_draft.proofs.WholeLemmas.{one_file}

-- what the passes over a source have found
pub record Passed (ss : List Statement) (lengths : List ℕ) (code : List (Vec ℕ)) (sizes : List CodeSize) (d : Draft) : Type 0 where
  pub good : first_unit_fault ss ≡ None
  pub wide : AllByRecursion (λ s. IsWideKind s.kind) ss
  pub whole : IsWhole (tables ss) (located (ss ∷ [])) lengths code sizes
  pub items : AreItems 1 (at_start ss) (λ j. 0) ss d.items.items (λ j. slice_index d.ends.items j)
  pub sized : AreSized (tables ss) 1 (at_start ss) ss d.items.items sizes
  pub low : (j : ℕ) → slice_index d.ends.items j ≤ longest_section
  pub figures : (codes : List (List CodedPart)) → HaveCode ss d.items.items codes → IsData ss d.items.items codes code d.sections.items d.fields.items
  pub least : AreLeast (tables ss) (located_from 1 1 (at_start ss) ss) lengths
  pub counted : length d.sections.items ≡ length (opened_of (tables ss)).sections
  pub ended : length d.ends.items ≡ length (opened_of (tables ss)).sections
  pub few : length ss < 2 ^ 32
  pub compressed : d.rvc ≡ is_compressed (ss ∷ [])

any_located : (laid : List LaidStatement) → list_any is_compressed_code (map (λ (s : LaidStatement). s.located) laid) ≡ list_any (λ (s : LaidStatement). is_compressed_code s.located) laid
any_located [] = refl
any_located (s ∷ ss) = ap (λ b. is_compressed_code s.located || b) (any_located ss)

module _ (ss : List Statement) (lengths : List ℕ) (code : List (Vec ℕ)) (sizes : List CodeSize) (d : Draft) (h : Passed ss lengths code sizes d) where
  abbrev t : Tables
  t = tables ss

  abbrev codes : List (List CodedPart)
  codes = h.whole.codes

  abbrev all : List LaidStatement
  all = laid_from (located_from 1 1 (at_start ss) ss) d.items.items codes

  coded : AreCoded t (located_from 1 1 (at_start ss) ss) codes
  coded = subst (λ ls. AreCoded t ls codes) (one_file ss) h.whole.coded

  located_all : map (λ (s : LaidStatement). s.located) all ≡ located_from 1 1 (at_start ss) ss
  located_all = all_located 1 (at_start ss) (λ j. 0) (λ j. slice_index d.ends.items j) ss d.items.items codes h.items

  sized : AreSized t 1 (at_start ss) ss d.items.items (sizes_of t (located_from 1 1 (at_start ss) ss) codes)
  sized = subst (λ l. AreSized t 1 (at_start ss) ss d.items.items l) (h.whole.counts ∙ ap (λ ls. sizes_of t ls codes) (one_file ss)) h.sized

  figures : IsData ss d.items.items codes code d.sections.items d.fields.items
  figures = h.figures codes (record { coded = coded; sized = sized })

  fits : AllByRecursion (Fit t) all
  fits =
      fits_from t 1 (at_start ss) (λ j. 0) (λ j. slice_index d.ends.items j) ss d.items.items codes h.items sized coded
      (all_held ss h.good) (have_all_fields ss h.good h.wide) (all_spare ss h.good)

  homes_all : AllByRecursion (IsHomeIn (λ file. (opened_of t).sections)) (located_from 1 1 (at_start ss) ss)
  homes_all = homes_from (λ file. (opened_of t).sections) 1 1 (at_start ss) ss refl (text_section, refl)

  homes : AllByRecursion (λ (s : LaidStatement). IsHomeIn (λ file. (opened_of t).sections) s.located) all
  homes =
      all_laid (IsHomeIn (λ file. (opened_of t).sections)) all
      (subst (λ ls. AllByRecursion (IsHomeIn (λ file. (opened_of t).sections)) ls) (sym located_all) homes_all)

  -- the lengths are the least, and in code the laid statements have them
  least : AreLeast t (located_from 1 1 (at_start ss) ss) (map (λ (s : LaidStatement). s.bytes) all)
  least =
      least_all t (opened_of t).sections (located_from 1 1 (at_start ss) ss) (bytes_of_codes t (located_from 1 1 (at_start ss) ss) codes) (map (λ (s : LaidStatement). s.bytes) all) homes_all (all_held ss h.good)
      (agree t 1 (at_start ss) (λ j. 0) (λ j. slice_index d.ends.items j) ss d.items.items codes h.items coded fits)
      (subst (AreLeast t (located_from 1 1 (at_start ss) ss)) (sym (ap (λ ls. bytes_of_codes t ls codes) (sym (one_file ss)) ∙ h.whole.told)) h.least)

  module _ (j : ℕ) (home : Section) (at : slice_get (opened_of t).sections j ≡ Some home) where
    own : AllByRecursion (IsOf t j home) (laid_in j all)
    own = all_of t (λ file. (opened_of t).sections) j home all (λ n. refl) at fits homes

    follow : Tile t 0 (laid_in j all) × (end_of 0 (laid_in j all) ≡ slice_index d.ends.items j)
    follow =
        tiles t j 1 (at_start ss) (λ j. 0) (λ j. slice_index d.ends.items j) ss d.items.items codes h.items
        (each_map (Fit t) (λ (s : LaidStatement). s.bytes ≡ length (flat_map part_bytes (parts_of t s))) all (λ s f. f.bytes) fits)

    bytes : bytes_in d.sections.items j ≡ (if is_nobits home then [] else flat_map part_bytes (parts t (laid_in j all)))
    bytes =
        figures.bytes j
        ∙ ap (λ l. bytes_in code j ++ l) (sym (data_as t j (located_from 1 1 (at_start ss) ss) d.items.items codes))
        ∙ ap (λ l. l ++ data_bytes t j all)
        (h.whole.bytes j ∙ ap (λ l. section_code t j l codes) (one_file ss)
        ∙ code_in t j 1 (at_start ss) (λ j. 0) (λ j. slice_index d.ends.items j) ss d.items.items codes h.items coded)
        ∙ section_bytes t j home (laid_in j all) own

    drafted : IsDrafted t j home (laid_in j all) d
    drafted = record {
      tile = follow.0;
      stop = sym follow.1;
      short = subst (λ n. n ≤ longest_section) (sym follow.1) (h.low j);
      bytes = bytes;
      code = code_bytes t j home (laid_in j all) own;
      sizes = all_sizes t j home (laid_in j all) own;
      templates = section_templates t j home (laid_in j all) own;
      some = asks_some ss j;
    }

  pub is_draft : IsDraft ss d
  is_draft = record {
    laid = all;
    located = located_all;
    few = h.few;
    stand = all_items 1 (at_start ss) (λ j. 0) (λ j. slice_index d.ends.items j) ss d.items.items codes h.items;
    counted = h.counted;
    ended = h.ended;
    each = λ j home at. drafted j home at;
    open_fields = figures.fields ∙ all_fields t all fits;
    places = places_stand ss all located_all;
    least = least;
    compressed = h.compressed ∙ ap (list_any is_compressed_code) (one_file ss ∙ sym located_all) ∙ any_located all;
  }
