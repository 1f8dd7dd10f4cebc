-- What an object keeps where calls are cut out of its sections.

use Rattle.std.proofs.Common.{◌≡◌, ℕ, zero, suc, ◌+◌, ◌-◌, Bool, true, nat_le, List, [], ◌∷◌, Some, map, arith}
use Rattle.std.specs.List.{list_all, slice_get}
use Rattle.std.proofs.lemmas.Bool.{leb-true, le-leb, and_parts, and_from}
use Rattle.rv_object_laws.specs.declared.row.Row.{Row}
use Rattle.rv_object_laws.specs.Object.{Section, size_of}
use Rattle.rv_object_laws.specs.Valid.{fit_inside, is_row_in, are_rows}
use Rattle.rv_link_laws.specs.Moves.{Move, new_offset}
use Rattle.rv_link_laws.specs.Shortened.{shortened_contents}
use Rattle.rv_cut_laws.specs.Cutting.{AreCuts, AllCut, cut_section, cut_sections, moves_at, cut_row}
use Rattle.rv_cut_laws.proofs.ShiftsLemmas.{rising}
use Rattle.rv_cut_laws.proofs.FieldsLemmas.{all_mapped}
use Rattle.rv_cut_laws.proofs.ShortLemmas.{size_left}

-- ---- what the object keeps

-- fields fit in each section
abbrev pub all_fit : List Section → Bool
all_fit ss = list_all (λ s. fit_inside s.contents s.relocations) ss

row_in_one : (r : Row) (s : Section) (ms : List Move) → AreCuts s ms → fit_inside s.contents s.relocations ≡ true → is_row_in r (Some s) ≡ true → is_row_in (cut_row ms r) (Some (cut_section ms s)) ≡ true
row_in_one r s ms cuts fit h =
    let both = and_parts s.loaded (nat_le (r.offset + r.bytes) (size_of s.contents)) h in
    let inside = leb-true (r.offset + r.bytes) (size_of s.contents) both.1 in
    let start = rising 0 (size_of s.contents) r.offset (r.offset + r.bytes) ms cuts.order (omega arith) in
    let end = rising 0 (size_of s.contents) (r.offset + r.bytes) (size_of s.contents) ms cuts.order inside in
    let size = size_left s ms fit cuts in
    and_from s.loaded (nat_le (new_offset ms r.offset + (new_offset ms (r.offset + r.bytes) - new_offset ms r.offset)) (size_of (shortened_contents ms s.contents))) both.0
    (le-leb (new_offset ms r.offset + (new_offset ms (r.offset + r.bytes) - new_offset ms r.offset)) (size_of (shortened_contents ms s.contents)) (omega (arith, start, end, size)))

row_stays : (ss : List Section) (mss : List (List Move)) (index : ℕ) (r : Row) → AllCut ss mss → all_fit ss ≡ true → is_row_in r (slice_get ss index) ≡ true
    → is_row_in (cut_row (moves_at mss index) r) (slice_get (cut_sections mss ss) index) ≡ true
row_stays [] mss index r cuts fit h = absurd (cc)
row_stays (s ∷ ss) [] index r cuts fit h = elim cuts [ ]
row_stays (s ∷ ss) (ms ∷ mss) zero r cuts fit h = row_in_one r s ms cuts.0 (and_parts (fit_inside s.contents s.relocations) (all_fit ss) fit).0 h
row_stays (s ∷ ss) (ms ∷ mss) (suc index) r cuts fit h = row_stays ss mss index r cuts.1 (and_parts (fit_inside s.contents s.relocations) (all_fit ss) fit).1 h

pub rows_stay : (ss : List Section) (mss : List (List Move)) (rows : List Row) → AllCut ss mss → all_fit ss ≡ true → are_rows ss rows ≡ true
    → are_rows (cut_sections mss ss) (map (λ r. cut_row (moves_at mss r.section) r) rows) ≡ true
rows_stay ss mss rows cuts fit h =
    all_mapped (λ r. is_row_in r (slice_get ss r.section)) (λ r. is_row_in r (slice_get (cut_sections mss ss) r.section)) (λ r. cut_row (moves_at mss r.section) r) rows
    (λ r i one. row_stays ss mss r.section r cuts fit one) h
