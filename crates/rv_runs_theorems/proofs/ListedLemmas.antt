-- The listing of a linked program's image is that of its sources.

use Rattle.std.proofs.Common.{◌≡◌, ℕ, ◌+◌, ◌<◌, ◌≤◌, Bool, true, false, List, [], ◌++◌, length, map, flat_map, filter, sym, ap, ◌∙◌, subst, arith, is_lt, inl, inr}
use Rattle.std.proofs.lemmas.Bool.{cases_Bool, cases_lt, and_parts, ltb-true}
use Rattle.std.proofs.lemmas.Bool.Decides.{nat_tests}
use Rattle.std.proofs.lemmas.List.{length-map}
use Rattle.std.proofs.lemmas.List.Sorted.{ranks_by}
use Rattle.std.specs.Prelude.{◌&&◌, ◌↔◌, nat_lt}
use Rattle.std.specs.Cmp.{IsStrictWeakOrder}
use Rattle.std.specs.List.{AllByRecursion}
use Rattle.std.specs.List.Sorted.{ties}
use Rattle.rv_list_laws.proofs.EachLemmas.{each_map}
use Rattle.rv_list_laws.proofs.FilterLemmas.{each_filter_passes, filter_of_map, flat_map_filter}
use Rattle.rv_list_laws.proofs.SortedLemmas.{stable_kept}
use Rattle.rv_list_laws.proofs.MapLemmas.{flat_map_map}
use Rattle.rv_isa_laws.specs.Word.{Spells}
use Rattle.rv_parcel.specs.Parcel.{StandsFor}
use Rattle.rv_isa_laws.specs.Memory.{Mem}
use Rattle.rv_isa_laws.specs.Reader.{Reader}
use Rattle.rv_statement_laws.specs.Statement.{Statement}
use Rattle.rv_map_laws.specs.declared.map.Row.{Row}
use Rattle.rv_image_laws.specs.Linked.{Linked}
use Rattle.rv_image_laws.specs.Executable.{linked_image}
use Rattle.rv_image_laws.specs.Memory.{mem_of}
use Rattle.rv_source_laws.specs.Located.{left, has_row}
use Rattle.rv_source_laws.specs.Program.{Mapped, Program, program}
use Rattle.rv_source_laws.specs.Lines.{form_at}
use Rattle.rv_source_laws.specs.Fits.{IsRowOf, identity_of, identity_of_row}
use Rattle.rv_listing_laws.specs.Listing.{IsListing, row_text, row_bytes, entry, statement}
use Rattle.rv_listing_laws.specs.Order.{compared}
use Rattle.rv_listing_laws.proofs.LinesOnLemmas.{entry_some}
use Rattle.rv_listing_laws.proofs.OrderedLemmas.{compared_total, one_listing}
use Rattle.rv_chain_laws.specs.Contents.{IsLinked}
use Rattle.rv_runs_theorems.proofs.ContentsLemmas.{lines_length, are_regions, StandsInText, code_stands, data_stands}
use Rattle.rv_runs_theorems.proofs.LaidOutLemmas.{text_held}
use Rattle.rv_chain_laws.specs.SourceListing.{is_listed, IsEntry, AreEntries, IsSourceListing}
use Rattle.rv_runs_theorems.proofs.AscendingLemmas.{all_ordered, ascends_by, ascends_kept, ordered, ordered_ascends, ordered_level, ordered_stable, sorted_from, tied}
use Rattle.rv_runs_theorems.proofs.EncodingsLemmas.{lines_shown}
use Rattle.rv_runs_theorems.proofs.EntriesLemmas.{rows_by, entries_of}
use Rattle.rv_runs_theorems.proofs.OneListingLemmas.{one_source_listing}
use Rattle.rv_runs_theorems.proofs.SegmentsLemmas.{bytes_empty, bytes_behind_text, bytes_in_text}
use Rattle.rv_runs_theorems.proofs.RegionsLemmas.{row_of}

abbrev rows_before : Row → Row → Bool
rows_before r q = is_lt (compared r q)

abbrev before : Mapped → Mapped → Bool
before s t = rows_before s.row t.row

rows_ranks : IsStrictWeakOrder rows_before
rows_ranks = ranks_by compared_total (λ (r : Row). r)

before_ranks : IsStrictWeakOrder before
before_ranks = ranks_by compared_total row_of

not_both : (a b : Bool) → (a && b) ≡ false → a ≡ true → b ≡ false
not_both true b e one = e
not_both false b e one = absurd (cc)

none_below : (n : ℕ) → nat_lt 0 n ≡ false → n ≡ 0
none_below n e = grind (arith, nat_tests)

module _ (sources : List (List Statement)) (start : ℕ) (relax gc : Bool) (l : Linked) (h : IsLinked sources start relax gc l) (reader : Reader Spells StandsFor) where
  abbrev p : Program
  p = program sources l.map

  abbrev m : Mem
  m = mem_of (linked_image l)

  abbrev shown : Mapped → List ℕ
  shown s = row_text reader (linked_image l).segments s.row

  rows_are : map row_of p.mapped ≡ l.map.rows
  rows_are =
      rows_by (left l.map.drops sources) l.map.rows
      (sym (length-map l.map.rows identity_of_row) ∙ ap length h.fits.rows ∙ length-map (filter has_row (left l.map.drops sources)) identity_of)

  -- ---- what is shown of a statement

  code_shown : (s : Mapped) → StandsInText sources start relax gc l h reader s → 0 < s.row.bytes → IsEntry p s (shown s)
  code_shown s (lie, (has, (written, row))) some =
      let a = s.row.address in
      let stop = a + s.row.bytes in
      let long = lines_length (form_at p s) written.lines a stop (h.code s) written.are_lines.1 written.encoded in
      let fills = (are_regions sources start relax gc l h).text in
      let same : row_bytes (linked_image l).segments s.row ≡ h.code s =
      bytes_in_text l s.row m (h.code s) (text_held l (are_regions sources start relax gc l h)) has (omega (arith, long)) lie.0 (omega (arith, lie.1, fills)) some in
      let valid = (subst (λ o. IsRowOf o s.row) written.are_lines.0 row).0 in
      record {
        ps = written.ps;
        are_parts = written.are_parts;
        lines = written.lines;
        are_lines = written.are_lines;
        sizes = written.sizes;
        shows =
            ap (entry reader s.row) same
            ∙ entry_some reader s.row (h.code s) (omega (arith, long, some))
            ∙ ap (λ t. statement s.row ++ t) (lines_shown reader (form_at p s) written.lines a stop (h.code s) written.are_lines.1 written.encoded valid);
      }

  listed_shown : (s : Mapped) → (s.located.home.executable ≡ true → StandsInText sources start relax gc l h reader s) → is_listed s ≡ true → IsEntry p s (shown s)
  listed_shown s stands listed =
      let parts = and_parts s.located.home.executable (nat_lt 0 s.row.bytes) listed in
      code_shown s (stands parts.0) (ltb-true 0 s.row.bytes parts.1)

  others_shown : (s : Mapped) → (s.located.home.executable ≡ false → l.map.text.end ≤ s.row.address) → is_listed s ≡ false → shown s ≡ []
  others_shown s behind other =
      let fills = (are_regions sources start relax gc l h).text in
      elim (cases_lt 0 s.row.bytes) [
        | inl some ↦ elim (cases_Bool s.located.home.executable) [
          | inl code ↦ (let none = none_below s.row.bytes (not_both s.located.home.executable (nat_lt 0 s.row.bytes) other code) in absurd (omega (arith, none, some)))
          | inr other_section ↦ (let past = behind other_section in ap (entry reader s.row) (bytes_behind_text l s.row (omega (arith, past, fills)) some))
        ]
        | inr none ↦ ap (entry reader s.row) (bytes_empty l s.row (omega (arith, none)))
      ]

  -- ---- the listing

  abbrev in_order : List Mapped
  in_order = ordered before p.mapped

  pub source_listing : IsSourceListing p (flat_map shown in_order)
  source_listing =
      let showing : AllByRecursion (λ s. is_listed s ≡ true → IsEntry p s (shown s)) p.mapped =
      each_map (λ s. s.located.home.executable ≡ true → StandsInText sources start relax gc l h reader s) (λ s. is_listed s ≡ true → IsEntry p s (shown s)) p.mapped listed_shown (code_stands sources start relax gc l h reader) in
      let blank : AllByRecursion (λ s. is_listed s ≡ false → shown s ≡ []) p.mapped =
      each_map (λ s. s.located.home.executable ≡ false → l.map.text.end ≤ s.row.address) (λ s. is_listed s ≡ false → shown s ≡ []) p.mapped others_shown (data_stands sources start relax gc l h reader) in
      let kept = each_filter_passes (λ s. is_listed s ≡ true → IsEntry p s (shown s)) is_listed in_order (all_ordered before _ p.mapped showing) in
      let all : AllByRecursion (λ s. IsEntry p s (shown s)) (filter is_listed in_order) = each_map _ (λ s. IsEntry p s (shown s)) (filter is_listed in_order) (λ s both. both.0 both.1) kept in
      record {
        statements = filter is_listed in_order;
        order = record {
          sorted = sorted_from before (filter is_listed in_order) (ascends_kept before is_listed in_order (ordered_ascends before before_ranks p.mapped));
          stable = stable_kept before is_listed p.mapped in_order (ordered_stable before before_ranks p.mapped);
        };
        entries = subst (AreEntries p (filter is_listed in_order)) (sym (flat_map_filter shown is_listed in_order (all_ordered before _ p.mapped blank)))
            (entries_of p shown (filter is_listed in_order) all);
      }

  rows_stand : (r : Row) → filter (ties rows_before r) (map row_of in_order) ≡ filter (ties rows_before r) l.map.rows
  rows_stand r =
      let with_r : Mapped → Bool = λ s. ties rows_before r s.row in
      filter_of_map (ties rows_before r) row_of in_order
      ∙ ap (map row_of) (ordered_level before with_r (λ s t. tied rows_before rows_ranks r s.row t.row) p.mapped)
      ∙ sym (filter_of_map (ties rows_before r) row_of p.mapped)
      ∙ ap (filter (ties rows_before r)) rows_are

  image_listing : IsListing reader (linked_image l) l.map (flat_map shown in_order)
  image_listing = record {
    rows = map row_of in_order;
    order = record {
      sorted = sorted_from rows_before (map row_of in_order) (ascends_by rows_before row_of in_order (ordered_ascends before before_ranks p.mapped));
      stable = λ r. rows_stand r;
    };
    shows = sym (flat_map_map (row_text reader (linked_image l).segments) row_of in_order);
  }

pub listed_is : (start : ℕ) (sources : List (List Statement)) (relax gc : Bool) (l : Linked) → IsLinked sources start relax gc l → (reader : Reader Spells StandsFor) (text : List ℕ)
    → IsListing reader (linked_image l) l.map text ↔ IsSourceListing (program sources l.map) text
listed_is start sources relax gc l h reader text =
    let of_image = image_listing sources start relax gc l h reader in
    let of_sources = source_listing sources start relax gc l h reader in (
      λ listing. subst (IsSourceListing (program sources l.map)) (one_listing reader (linked_image l) l.map _ text of_image listing) of_sources,
      λ listing. subst (IsListing reader (linked_image l) l.map) (one_source_listing (program sources l.map) _ text of_sources listing) of_image,
    )
