-- The table of a pass: that it stays exact while one site's size is set, and the distances that it gives.

use Rattle.std.proofs.Common.{◌≡◌, ℕ, ◌+◌, ◌-◌, ◌*◌, ◌^◌, ◌≤◌, ◌<◌, List, length, set, slice_index, slice_index_or, sum, ℤ, pos, ◌-ℤ◌, ap, subst, sym, ◌∙◌, refl, arith}
use Rattle.std.proofs.lemmas.Int.{ints}
use Rattle.std.proofs.lemmas.List.{length-set, get_or-set_same}
use Rattle.rv_size_laws.specs.declared.site.Site.{Site}
use Rattle.rv_size_laws.specs.declared.site.Call.{Call as CallSite}
use Rattle.rv_size_laws.specs.declared.site.SiteKind.TheVariants.{Call}
use Rattle.rv_size_laws.specs.Offsets.{offset, rest, distance}
use Rattle.rv_size_laws.specs.Sites.{site_end}
use Rattle.rv_size_laws.specs.Tables.{forwards_away, backwards_away}
use Rattle.rv_size_laws.specs.Calls.{bytes_of, Offers, site_at, dropped, new_offset, whole_sizes, IsFamily, LeadsOutside}
use Rattle.rv_size_laws.proofs.ReachingLemmas.{offset_more}
use Rattle.rv_size_laws.proofs.StepsLemmas.{set_family}
use Rattle.rv_size_laws.proofs.TablesLemmas.{LeavesOthers, forwards_table, backwards_table, forwards_is, backwards_is, offset_most, rest_most, table_most}
use Rattle.rv_size_laws.proofs.DroppingLemmas.{dropped_most}
use Rattle.rv_size_laws.proofs.ShorteningLemmas.{IsOpen, whole_family}
use Rattle.rv_size_laws.proofs.OffsetsLemmas.{rest_more}
use Rattle.rv_call_sizes.specs.Passes.{AreTargets, IsInput, IsPlace, IsTable, LeadsLow, LeadsTo, drops}
use Rattle.rv_call_sizes.proofs.DroppingLemmas.{zeros_site, site_read, take_kept, drop_kept, drop_at, sum_low, none_at_first, dropped_before_site, dropped_outside}

-- at first nothing is dropped
pub first_table : (sites : List Site) (kept stands : List ℕ) → kept ≡ whole_sizes sites → length stands ≡ length sites + 1 → ((j : ℕ) → slice_index stands j ≡ 0) → IsTable sites 0 kept stands
first_table sites kept stands whole same none = record {
  family = subst (IsFamily sites) (sym whole) (whole_family sites);
  table = record {
    same_length = same;
    starts = λ j before. absurd (omega arith);
    rests = λ j after within. none j ∙ sym (ap (λ sizes. rest (drops sites sizes) j) whole ∙ none_at_first sites j);
  };
}

-- ---- numbers are small

pub drops_low : (sites : List Site) (kept : List ℕ) → IsInput sites → IsFamily sites kept → sum (drops sites kept) ≤ 27 * 2 ^ 121
drops_low sites kept input f = omega (arith, sum_low (9 * 2 ^ 123) sites kept input.text.in_order input.ends f)

pub offset_low : (sites : List Site) (kept : List ℕ) (i : ℕ) → IsInput sites → IsFamily sites kept → offset (drops sites kept) i ≤ 27 * 2 ^ 121
offset_low sites kept i input f = omega (arith, drops_low sites kept input f, offset_most (drops sites kept) i)

pub rest_low : (sites : List Site) (kept : List ℕ) (i : ℕ) → IsInput sites → IsFamily sites kept → rest (drops sites kept) i ≤ 27 * 2 ^ 121
rest_low sites kept i input f = omega (arith, drops_low sites kept input f, rest_most (drops sites kept) i)

pub table_low : (sites : List Site) (i : ℕ) (kept stands : List ℕ) (j : ℕ) → IsInput sites → IsTable sites i kept stands → j ≤ length sites → slice_index stands j ≤ 27 * 2 ^ 121
table_low sites i kept stands j input table within = table_most (length sites + 1) i (27 * 2 ^ 121) (λ k. drops sites kept) stands table.table (λ k. drops_low sites kept input table.family) j (omega arith)

pub target_low : (sites : List Site) (i : ℕ) (call : CallSite) → IsInput sites → (site_at sites i).kind ≡ Call call → call.target ≤ 9 * 2 ^ 123
target_low sites i call input is = subst LeadsLow is (input.targets i)

pub site_low : (sites : List Site) (i : ℕ) → IsInput sites → (site_at sites i).offset ≤ 9 * 2 ^ 123
site_low sites i input = let low : site_end (site_at sites i) ≤ 9 * 2 ^ 123 = input.ends i in omega arith

-- ---- what is read of a call

pub kind_read : (sites : List Site) (i : ℕ) (call : CallSite) → i < length sites → (slice_index_or sites i zeros_site).kind ≡ Call call → (site_at sites i).kind ≡ Call call
kind_read sites i call within is = sym (ap (λ (site : Site). site.kind) (site_read sites i within)) ∙ is

pub place_read : (sites : List Site) (targets : List ℕ) (i : ℕ) (call : CallSite) → AreTargets sites targets → i < length sites → (slice_index_or sites i zeros_site).kind ≡ Call call
    → IsPlace sites call.target (slice_index targets i)
place_read sites targets i call are within is = subst (λ kind. LeadsTo sites kind (slice_index targets i)) (kind_read sites i call within is) (are.led i within)

-- ---- one step

own_drop : (sites : List Site) (kept : List ℕ) (i new : ℕ) → i < length sites → length kept ≡ length sites → slice_index (drops sites (set kept i new)) i ≡ bytes_of (site_at sites i).kind - new
own_drop sites kept i new lt same =
    drop_at sites (set kept i new) i lt (length-set kept i new ∙ same) ∙ ap (λ size. bytes_of (site_at sites i).kind - size) (get_or-set_same kept i new 0 (omega arith))

leaves : (sites : List Site) (kept : List ℕ) (i new : ℕ) → LeavesOthers i (λ j. drops sites kept) (λ j. drops sites (set kept i new))
leaves sites kept i new = record {
  before = λ j le. ap sum (take_kept sites kept i new j le);
  behind = λ j lt. ap sum (drop_kept sites kept i new j lt);
}

-- forwards, site i gets what is dropped before it
pub forward_table : (sites : List Site) (i : ℕ) (kept stands : List ℕ) (start new : ℕ) → i < length sites → Offers (site_at sites i).kind new
    → IsTable sites i kept stands → start ≡ offset (drops sites kept) i → IsTable sites (i + 1) (set kept i new) (set stands i start)
forward_table sites i kept stands start new lt offered table is = record {
  family = set_family kept i new table.family offered;
  table = forwards_table start (omega arith) (leaves sites kept i new) table.table is;
}

pub forward_before : (sites : List Site) (i : ℕ) (kept : List ℕ) (start new dropped : ℕ) → i < length sites → length kept ≡ length sites → start ≡ offset (drops sites kept) i
    → dropped ≡ bytes_of (site_at sites i).kind - new → start + dropped ≡ offset (drops sites (set kept i new)) (i + 1)
forward_before sites i kept start new dropped lt same is e =
    let more : offset (drops sites (set kept i new)) (i + 1) ≡ offset (drops sites (set kept i new)) i + slice_index (drops sites (set kept i new)) i = offset_more (drops sites (set kept i new)) i in
    let moved : offset (drops sites (set kept i new)) i ≡ offset (drops sites kept) i = ap sum (take_kept sites kept i new i (omega arith)) in
    let own : slice_index (drops sites (set kept i new)) i ≡ bytes_of (site_at sites i).kind - new = own_drop sites kept i new lt same in
    omega arith

-- backwards, site i gets what is dropped from it on
pub backward_after : (sites : List Site) (i : ℕ) (kept : List ℕ) (behind new dropped : ℕ) → i < length sites → length kept ≡ length sites → behind ≡ rest (drops sites kept) (i + 1)
    → dropped ≡ bytes_of (site_at sites i).kind - new → behind + dropped ≡ rest (drops sites (set kept i new)) i
backward_after sites i kept behind new dropped lt same is e =
    let more : rest (drops sites (set kept i new)) i ≡ slice_index (drops sites (set kept i new)) i + rest (drops sites (set kept i new)) (i + 1) = rest_more (drops sites (set kept i new)) i in
    let moved : rest (drops sites (set kept i new)) (i + 1) ≡ rest (drops sites kept) (i + 1) = ap sum (drop_kept sites kept i new (i + 1) (omega arith)) in
    let own : slice_index (drops sites (set kept i new)) i ≡ bytes_of (site_at sites i).kind - new = own_drop sites kept i new lt same in
    omega arith

pub backward_left : (sites : List Site) (i : ℕ) (kept : List ℕ) (behind dropped : ℕ) → i < length sites → length kept ≡ length sites → behind ≡ rest (drops sites kept) (i + 1)
    → dropped ≡ bytes_of (site_at sites i).kind - slice_index kept i → behind + dropped ≡ rest (drops sites kept) i
backward_left sites i kept behind dropped lt same is e =
    let more : rest (drops sites kept) i ≡ slice_index (drops sites kept) i + rest (drops sites kept) (i + 1) = rest_more (drops sites kept) i in
    let own : slice_index (drops sites kept) i ≡ bytes_of (site_at sites i).kind - slice_index kept i = drop_at sites kept i lt same in
    omega arith

pub backward_table : (sites : List Site) (i : ℕ) (kept stands : List ℕ) (left new : ℕ) → i < length sites → Offers (site_at sites i).kind new
    → IsTable sites (i + 1) kept stands → left ≡ rest (drops sites (set kept i new)) i → IsTable sites i (set kept i new) (set stands i left)
backward_table sites i kept stands left new lt offered table is = record {
  family = set_family kept i new table.family offered;
  table = backwards_table left (omega arith) (leaves sites kept i new) table.table is;
}

-- ---- distances

-- a call and its target after relaxation, by the sums of what is dropped
pub away_by : (sites : List Site) (i : ℕ) (kept : List ℕ) (call : CallSite) (count : ℕ) (far away : ℤ) → IsInput sites → i < length sites → IsFamily sites kept
    → (site_at sites i).kind ≡ Call call → IsPlace sites call.target count → far ≡ pos call.target -ℤ pos (site_at sites i).offset
    → away ≡ far -ℤ distance (drops sites kept) i count
    → away ≡ pos (new_offset sites kept call.target) -ℤ pos (new_offset sites kept (site_at sites i).offset)
away_by sites i kept call count far away input within f is place between e =
    let out : (j : ℕ) → LeadsOutside (Call call) (site_at sites j) = λ j. subst (λ kind. LeadsOutside kind (site_at sites j)) is (input.text.outside i j) in
    let open_there : IsOpen sites call.target = out in
    let there : dropped sites kept call.target ≡ offset (drops sites kept) count = dropped_outside sites kept call.target count input.text.in_order f place open_there in
    let here : dropped sites kept (site_at sites i).offset ≡ offset (drops sites kept) i = dropped_before_site sites kept i input.text.in_order f.same_length within in
    let low_there : dropped sites kept call.target ≤ call.target = dropped_most sites kept call.target input.text.in_order in
    let low_here : dropped sites kept (site_at sites i).offset ≤ (site_at sites i).offset = dropped_most sites kept (site_at sites i).offset input.text.in_order in
    omega (arith, ints)

pub forward_is : (sites : List Site) (i : ℕ) (kept stands : List ℕ) (before : ℕ) (call : CallSite) (count : ℕ) (far away : ℤ) → IsInput sites → i < length sites → IsTable sites i kept stands
    → before ≡ offset (drops sites kept) i → (site_at sites i).kind ≡ Call call → IsPlace sites call.target count → far ≡ pos call.target -ℤ pos (site_at sites i).offset
    → away ≡ far -ℤ forwards_away stands before i count → away ≡ pos (new_offset sites kept call.target) -ℤ pos (new_offset sites kept (site_at sites i).offset)
forward_is sites i kept stands before call count far away input within table start is place between e =
    let end : count ≤ length sites = place.within in
    away_by sites i kept call count far away input within table.family is place between
    (e ∙ ap (λ z. far -ℤ z) (forwards_is (length sites + 1) i count before (λ j. drops sites kept) stands table.table (omega arith) (omega arith) refl start))

pub backward_is : (sites : List Site) (i : ℕ) (kept stands : List ℕ) (left : ℕ) (call : CallSite) (count : ℕ) (far away : ℤ) → IsInput sites → i < length sites → IsTable sites (i + 1) kept stands
    → left ≡ rest (drops sites kept) i → (site_at sites i).kind ≡ Call call → IsPlace sites call.target count → far ≡ pos call.target -ℤ pos (site_at sites i).offset
    → away ≡ far -ℤ backwards_away stands left i count → away ≡ pos (new_offset sites kept call.target) -ℤ pos (new_offset sites kept (site_at sites i).offset)
backward_is sites i kept stands left call count far away input within table now is place between e =
    let end : count ≤ length sites = place.within in
    away_by sites i kept call count far away input within table.family is place between
    (e ∙ ap (λ z. far -ℤ z) (backwards_is (length sites + 1) i count left (λ j. drops sites kept) stands table.table (omega arith) refl now))
