-- What a pass that sets one statement's size leaves as it is.

use Rattle.std.proofs.Common.{◌≡◌, ◌⊎◌, inl, inr, ℕ, zero, suc, ◌+◌, ◌*◌, ◌^◌, ◌≤◌, ◌<◌, ◌==◌, ltb, Bool, true, false, if◌then◌else◌, List, [], ◌∷◌, length, set, take, drop, slice_index, sum, ℤ, refl, ap, subst, sym, ◌∙◌, arith}
use Rattle.std.proofs.lemmas.Bool.{cases_eq, eq-eqb, ne_eqb, ltb-false}
use Rattle.std.proofs.lemmas.List.{length-set, set-get_or, get_or-set_same, get_or-set_other}
use Rattle.std.proofs.lemmas.List.Sums.{sum_by-cons}
use Rattle.rv_size_laws.specs.declared.item.Item.{Item}
use Rattle.rv_size_laws.specs.Offsets.{offset, Reaches, rest}
use Rattle.rv_size_laws.specs.Branches.{Offers, half, is_branch, item_at, largest, of_section, distance_of, IsFamily, MayWiden}
use Rattle.rv_size_laws.specs.Steps.{Changed, Kept}
use Rattle.rv_size_laws.specs.Tables.{forwards_away, backwards_away}
use Rattle.rv_size_laws.proofs.ReachingLemmas.{offset_more}
use Rattle.rv_size_laws.proofs.OffsetsLemmas.{rest_more}
use Rattle.rv_size_laws.proofs.StepsLemmas.{set_holds, set_family}
use Rattle.rv_size_laws.proofs.TablesLemmas.{LeavesOthers, forwards_table, backwards_table, forwards_is, backwards_is, offset_most, rest_most, table_most}
use Rattle.rv_size_laws.proofs.WideningLemmas.{doubled, doubles, is_branch_below}
use Rattle.rv_sizes.specs.Passes.{IsInput, around, IsTable, AreStarts, AreRests, IsJudged, Stays, IsVisit}

-- ---- one section's sizes

pub section_at : (s : ℕ) (items : List Item) (sizes : List ℕ) (i : ℕ) → i < length items → length sizes ≡ length items
    → slice_index (of_section s items sizes) i ≡ (if (item_at items i).section == s then slice_index sizes i else 0)
section_at s items [] i lt same = absurd (omega arith)
section_at s [] (size ∷ sizes) i lt same = absurd (omega arith)
section_at s (item ∷ items) (size ∷ sizes) zero lt same = refl
section_at s (item ∷ items) (size ∷ sizes) (suc i) lt same = section_at s items sizes i (omega arith) (omega arith)

pub take_kept : (s : ℕ) (items : List Item) (sizes : List ℕ) (i v j : ℕ) → j ≤ i → take j (of_section s items (set sizes i v)) ≡ take j (of_section s items sizes)
take_kept s items [] i v j le = refl
take_kept s [] (size ∷ sizes) zero v j le = refl
take_kept s [] (size ∷ sizes) (suc i) v j le = refl
take_kept s (item ∷ items) (size ∷ sizes) zero v zero le = refl
take_kept s (item ∷ items) (size ∷ sizes) zero v (suc j) le = absurd (omega arith)
take_kept s (item ∷ items) (size ∷ sizes) (suc i) v zero le = refl
take_kept s (item ∷ items) (size ∷ sizes) (suc i) v (suc j) le =
    ap (λ rest. (if item.section == s then size else 0) ∷ rest) (take_kept s items sizes i v j (omega arith))

pub drop_kept : (s : ℕ) (items : List Item) (sizes : List ℕ) (i v j : ℕ) → i < j → drop j (of_section s items (set sizes i v)) ≡ drop j (of_section s items sizes)
drop_kept s items [] i v j le = refl
drop_kept s [] (size ∷ sizes) zero v j le = refl
drop_kept s [] (size ∷ sizes) (suc i) v j le = refl
drop_kept s (item ∷ items) (size ∷ sizes) zero v zero le = absurd (omega arith)
drop_kept s (item ∷ items) (size ∷ sizes) zero v (suc j) le = refl
drop_kept s (item ∷ items) (size ∷ sizes) (suc i) v zero le = absurd (omega arith)
drop_kept s (item ∷ items) (size ∷ sizes) (suc i) v (suc j) le = drop_kept s items sizes i v j (omega arith)

pub own_size : (items : List Item) (sizes : List ℕ) (i : ℕ) → i < length items → length sizes ≡ length items → slice_index (around items sizes i) i ≡ slice_index sizes i
own_size items sizes i lt same =
    let at = section_at (item_at items i).section items sizes i lt same in
    at ∙ ap (λ (b : Bool). if b then slice_index sizes i else 0) (eq-eqb (item_at items i).section (item_at items i).section refl)

-- ---- sums

sum_bounded : (items : List Item) (s : ℕ) (sizes : List ℕ) → ((j : ℕ) → slice_index sizes j < 2 ^ 32) → sum (of_section s items sizes) ≤ length sizes * 2 ^ 32
sum_bounded items s [] bounded = omega arith
sum_bounded [] s (size ∷ sizes) bounded = omega arith
sum_bounded (item ∷ items) s (size ∷ sizes) bounded =
    let small : size < 2 ^ 32 = bounded zero in
    let others : sum (of_section s items sizes) ≤ length sizes * 2 ^ 32 = sum_bounded items s sizes (λ j. bounded (suc j)) in
    let one : (if item.section == s then size else 0) ≤ size = elim (item.section == s) as (λ b. (if b then size else 0) ≤ size) [ true ↦ omega arith | false ↦ omega arith ] in
    let split : sum (of_section s (item ∷ items) (size ∷ sizes)) ≡ (if item.section == s then size else 0) + sum (of_section s items sizes) =
    sum_by-cons (λ x. x) (if item.section == s then size else 0) (of_section s items sizes) in
    omega arith

sum_small : (items : List Item) (sizes : List ℕ) (s : ℕ) → length sizes ≡ length items → length items < 2 ^ 30 → ((j : ℕ) → slice_index sizes j < 2 ^ 32) → sum (of_section s items sizes) ≤ 2 ^ 62
sum_small items sizes s same few bounded = omega (arith, sum_bounded items s sizes bounded)

-- both stay small
pub places_small : (items : List Item) (sizes : List ℕ) (s i : ℕ) → length sizes ≡ length items → length items < 2 ^ 30 → ((j : ℕ) → slice_index sizes j < 2 ^ 32)
    → (offset (of_section s items sizes) i ≤ 2 ^ 62) × (rest (of_section s items sizes) i ≤ 2 ^ 62)
places_small items sizes s i same few bounded =
    let all : sum (of_section s items sizes) ≤ 2 ^ 62 = sum_small items sizes s same few bounded in
    (omega (arith, offset_most (of_section s items sizes) i), omega (arith, rest_most (of_section s items sizes) i))

-- ---- one step

sized : (items : List Item) (sizes : List ℕ) (i wider s : ℕ) → i < length items → length sizes ≡ length items
    → slice_index (of_section s items (set sizes i wider)) i ≡ (if (item_at items i).section == s then wider else 0)
sized items sizes i wider s lt same =
    section_at s items (set sizes i wider) i lt (length-set sizes i wider ∙ same)
    ∙ ap (λ (v : ℕ). if (item_at items i).section == s then v else 0) (get_or-set_same sizes i wider 0 (omega arith))

leaves : (items : List Item) (sizes : List ℕ) (i wider : ℕ) → LeavesOthers i (around items sizes) (around items (set sizes i wider))
leaves items sizes i wider = record {
  before = λ j le. ap sum (take_kept (item_at items j).section items sizes i wider j le);
  behind = λ j lt. ap sum (drop_kept (item_at items j).section items sizes i wider j lt);
}

-- forwards, statement i gets its start
pub forward_table : (items : List Item) (i : ℕ) (sizes stands : List ℕ) (start wider : ℕ) → i < length items → Offers (item_at items i).forms wider → wider < 2 ^ 32
    → IsTable items i sizes stands → start ≡ offset (around items sizes i) i → IsTable items (i + 1) (set sizes i wider) (set stands i start)
forward_table items i sizes stands start wider lt o small table is = record {
  family = set_family sizes i wider table.family o;
  bounded = set_holds (λ k size. size < 2 ^ 32) sizes i wider table.bounded small;
  table = forwards_table start lt (leaves items sizes i wider) table.table is;
}

ended : (ends : List ℕ) (own s start wider before after : ℕ) → start ≡ slice_index ends own → slice_index ends s ≡ before → s < length ends
    → after ≡ before + (if own == s then wider else 0) → slice_index (set ends own (start + wider)) s ≡ after
ended ends own s start wider before after is was within e = elim (cases_eq s own) [
  | inl same ↦
      let read : slice_index (set ends own (start + wider)) s ≡ start + wider = ap (slice_index (set ends own (start + wider))) same ∙ get_or-set_same ends own (start + wider) 0 (omega arith) in
      let here : (if own == s then wider else 0) ≡ wider = ap (λ (b : Bool). if b then wider else 0) (eq-eqb own s (sym same)) in
      let first : slice_index ends own ≡ slice_index ends s = ap (slice_index ends) (sym same) in
      omega arith
  | inr other ↦
      let read : slice_index (set ends own (start + wider)) s ≡ slice_index ends s = get_or-set_other ends own s (start + wider) 0 other in
      let here : (if own == s then wider else 0) ≡ 0 = ap (λ (b : Bool). if b then wider else 0) (ne_eqb own s (λ x. other (sym x))) in
      omega arith
]

pub forward_ends : (items : List Item) (i : ℕ) (sizes ends : List ℕ) (start wider : ℕ) → i < length items → length sizes ≡ length items
    → start ≡ slice_index ends (item_at items i).section → AreStarts items i sizes ends → AreStarts items (i + 1) (set sizes i wider) (set ends (item_at items i).section (start + wider))
forward_ends items i sizes ends start wider lt same is starts s within =
    let lasts : length (set ends (item_at items i).section (start + wider)) ≡ length ends = length-set ends (item_at items i).section (start + wider) in
    let was : slice_index ends s ≡ offset (of_section s items sizes) i = starts s (omega arith) in
    let kept : offset (of_section s items (set sizes i wider)) i ≡ offset (of_section s items sizes) i = ap sum (take_kept s items sizes i wider i (omega arith)) in
    let next : offset (of_section s items (set sizes i wider)) (i + 1) ≡ offset (of_section s items (set sizes i wider)) i + slice_index (of_section s items (set sizes i wider)) i =
    offset_more (of_section s items (set sizes i wider)) i in
    let own : slice_index (of_section s items (set sizes i wider)) i ≡ (if (item_at items i).section == s then wider else 0) = sized items sizes i wider s lt same in
    ended ends (item_at items i).section s start wider (offset (of_section s items sizes) i) (offset (of_section s items (set sizes i wider)) (i + 1)) is was (omega arith) (omega arith)

-- backwards, statement i gets what is left from it on
pub backward_table : (items : List Item) (i : ℕ) (sizes stands : List ℕ) (left wider : ℕ) → i < length items → Offers (item_at items i).forms wider → wider < 2 ^ 32
    → IsTable items (i + 1) sizes stands → left ≡ rest (around items sizes i) (i + 1) + wider → IsTable items i (set sizes i wider) (set stands i left)
backward_table items i sizes stands left wider lt o small table is =
    let own : slice_index (around items (set sizes i wider) i) i ≡ wider =
    own_size items (set sizes i wider) i lt (length-set sizes i wider ∙ table.family.same_length) ∙ get_or-set_same sizes i wider 0 (omega (arith, table.family.same_length)) in
    let more : rest (around items (set sizes i wider) i) i ≡ slice_index (around items (set sizes i wider) i) i + rest (around items (set sizes i wider) i) (i + 1) =
    rest_more (around items (set sizes i wider) i) i in
    let kept : rest (around items (set sizes i wider) i) (i + 1) ≡ rest (around items sizes i) (i + 1) = ap sum (drop_kept (item_at items i).section items sizes i wider (i + 1) (omega arith)) in
    record {
      family = set_family sizes i wider table.family o;
      bounded = set_holds (λ k size. size < 2 ^ 32) sizes i wider table.bounded small;
      table = backwards_table left lt (leaves items sizes i wider) table.table (omega arith);
    }

pub backward_ends : (items : List Item) (i : ℕ) (sizes ends : List ℕ) (start wider : ℕ) → i < length items → length sizes ≡ length items
    → start ≡ slice_index ends (item_at items i).section → AreRests items (i + 1) sizes ends → AreRests items i (set sizes i wider) (set ends (item_at items i).section (start + wider))
backward_ends items i sizes ends start wider lt same is starts s within =
    let lasts : length (set ends (item_at items i).section (start + wider)) ≡ length ends = length-set ends (item_at items i).section (start + wider) in
    let was : slice_index ends s ≡ rest (of_section s items sizes) (i + 1) = starts s (omega arith) in
    let kept : rest (of_section s items (set sizes i wider)) (i + 1) ≡ rest (of_section s items sizes) (i + 1) = ap sum (drop_kept s items sizes i wider (i + 1) (omega arith)) in
    let next : rest (of_section s items (set sizes i wider)) i ≡ slice_index (of_section s items (set sizes i wider)) i + rest (of_section s items (set sizes i wider)) (i + 1) =
    rest_more (of_section s items (set sizes i wider)) i in
    let own : slice_index (of_section s items (set sizes i wider)) i ≡ (if (item_at items i).section == s then wider else 0) = sized items sizes i wider s lt same in
    ended ends (item_at items i).section s start wider (rest (of_section s items sizes) (i + 1)) (rest (of_section s items (set sizes i wider)) i) is was (omega arith) (omega arith)

-- ---- distances

pub forward_is : (items : List Item) (sections i : ℕ) (sizes stands : List ℕ) (start : ℕ) → IsInput items sections → i < length items → IsTable items i sizes stands
    → start ≡ offset (around items sizes i) i → is_branch (item_at items i).forms ≡ true → forwards_away stands start i (item_at items i).target ≡ distance_of items sizes i
forward_is items sections i sizes stands start input lt table is branch =
    forwards_is (length items) i (item_at items i).target start (around items sizes) stands table.table lt (input.within i lt).has_target
    (ap (λ s. of_section s items sizes) ((input.within i lt).same_section branch)) is

pub backward_is : (items : List Item) (sections i : ℕ) (sizes stands : List ℕ) (left : ℕ) → IsInput items sections → i < length items → IsTable items (i + 1) sizes stands
    → left ≡ rest (around items sizes i) i → is_branch (item_at items i).forms ≡ true → backwards_away stands left i (item_at items i).target ≡ distance_of items sizes i
backward_is items sections i sizes stands left input lt table is branch =
    backwards_is (length items) i (item_at items i).target left (around items sizes) stands table.table (input.within i lt).has_target
    (ap (λ s. of_section s items sizes) ((input.within i lt).same_section branch)) is

-- ---- what is judged

-- what is judged of a statement that is read, at the distance that is computed
pub judged_there : (items : List Item) (i : ℕ) (item : Item) (away said : ℤ) (size wider : ℕ) → item ≡ item_at items i → said ≡ away → IsJudged item said size wider → IsJudged (item_at items i) away size wider
judged_there items i item away said size wider is fits judged =
    subst (λ z. IsJudged (item_at items i) z size wider) fits (subst (λ (x : Item). IsJudged x said size wider) is judged)

-- a size that is judged by a branch's distance is kept where it stays, and else widens
pub visited : (items : List Item) (sizes : List ℕ) (i : ℕ) → IsFamily items sizes → (away : ℤ) (wider : ℕ) → IsJudged (item_at items i) away (slice_index sizes i) wider
    → (is_branch (item_at items i).forms ≡ true → away ≡ distance_of items sizes i)
    → ((wider ≡ slice_index sizes i) × Stays items sizes i) ⊎ ((wider ≡ 2 * slice_index sizes i) × MayWiden items sizes i wider)
visited items sizes i f away wider judged is =
    let there : slice_index sizes i < largest (item_at items i).forms → away ≡ distance_of items sizes i = λ below. is (is_branch_below (item_at items i).forms (slice_index sizes i) (f.offered i) below) in
    let At : ℤ → Type 0 = Reaches (half (item_at items i).forms (slice_index sizes i)) (item_at items i).addend in
    elim judged [
      | inl kept ↦ inl (kept.0, λ below. subst At (there below) (kept.1 below))
      | inr grown ↦ inr (grown.0, subst (MayWiden items sizes i) (sym grown.0) (doubles items sizes i f grown.1.0 (λ here. grown.1.1 (subst At (sym (there grown.1.0)) here))))
    ]

pub judged_offered : (items : List Item) (sizes : List ℕ) (i : ℕ) → IsFamily items sizes → (away : ℤ) (wider : ℕ) → IsJudged (item_at items i) away (slice_index sizes i) wider
    → Offers (item_at items i).forms wider
judged_offered items sizes i f away wider judged =
    elim judged [
      | inl kept ↦ subst (Offers (item_at items i).forms) (sym kept.0) (f.offered i)
      | inr grown ↦ subst (Offers (item_at items i).forms) (sym grown.0) (doubled (item_at items i).forms (slice_index sizes i) (f.offered i) grown.1.0)
    ]

-- what a visit leaves and tells
pub visit_told : (items : List Item) (sizes : List ℕ) (i : ℕ) → IsFamily items sizes → (away : ℤ) (wider : ℕ) → IsJudged (item_at items i) away (slice_index sizes i) wider
    → (is_branch (item_at items i).forms ≡ true → away ≡ distance_of items sizes i) → (told : Bool) → (told ≡ true → slice_index sizes i < wider) → (told ≡ false → wider ≡ slice_index sizes i)
    → IsVisit items i sizes (set sizes i wider) told
visit_told items sizes i f away wider judged is true up down =
    let grows : slice_index sizes i < wider = up refl in
    elim (visited items sizes i f away wider judged is) [
      | inl kept ↦ let same : wider ≡ slice_index sizes i = kept.0 in absurd (omega arith)
      | inr may ↦ Changed wider may.1
    ]
visit_told items sizes i f away wider judged is false up down =
    let same : wider ≡ slice_index sizes i = down refl in
    elim (visited items sizes i f away wider judged is) [
      | inl kept ↦ subst (λ now. IsVisit items i sizes now false) (sym (ap (set sizes i) same ∙ set-get_or sizes i 0)) (Kept kept.1)
      | inr may ↦ let grows : slice_index sizes i < wider = may.1.grows in absurd (omega arith)
    ]

-- ---- all fits

pub start_small : (items : List Item) (sections i : ℕ) (sizes stands ends : List ℕ) → IsInput items sections → sections ≡ length ends → i < length items → IsTable items i sizes stands → AreStarts items i sizes ends
    → (slice_index ends (item_at items i).section ≡ offset (around items sizes i) i) × (slice_index ends (item_at items i).section ≤ 2 ^ 62)
start_small items sections i sizes stands ends input same lt table starts =
    let there : (item_at items i).section < sections = (input.within i lt).in_section in
    let is : slice_index ends (item_at items i).section ≡ offset (around items sizes i) i = starts (item_at items i).section (omega arith) in
    let small : offset (around items sizes i) i ≤ 2 ^ 62 = (places_small items sizes (item_at items i).section i table.family.same_length input.few table.bounded).0 in
    (is, omega arith)

pub table_small : (items : List Item) (sections i : ℕ) (sizes stands : List ℕ) → IsInput items sections → IsTable items i sizes stands → (j : ℕ) → j < length items → slice_index stands j ≤ 2 ^ 62
table_small items sections i sizes stands input table j within =
    table_most (length items) i (2 ^ 62) (around items sizes) stands table.table (λ k. sum_small items sizes (item_at items k).section table.family.same_length input.few table.bounded) j within

pub rests_small : (items : List Item) (sections i : ℕ) (sizes stands ends : List ℕ) → IsInput items sections → sections ≡ length ends → i < length items → IsTable items (i + 1) sizes stands → AreRests items (i + 1) sizes ends
    → (slice_index ends (item_at items i).section ≡ rest (around items sizes i) (i + 1)) × ((rest (around items sizes i) i ≡ slice_index ends (item_at items i).section + slice_index sizes i) × (rest (around items sizes i) i ≤ 2 ^ 62))
rests_small items sections i sizes stands ends input same lt table rests =
    let there : (item_at items i).section < sections = (input.within i lt).in_section in
    let is : slice_index ends (item_at items i).section ≡ rest (around items sizes i) (i + 1) = rests (item_at items i).section (omega arith) in
    let small : rest (around items sizes i) i ≤ 2 ^ 62 = (places_small items sizes (item_at items i).section i table.family.same_length input.few table.bounded).1 in
    let more : rest (around items sizes i) i ≡ slice_index (around items sizes i) i + rest (around items sizes i) (i + 1) = rest_more (around items sizes i) i in
    let own : slice_index (around items sizes i) i ≡ slice_index sizes i = own_size items sizes i lt table.family.same_length in
    (is, (omega arith, small))

pub told_same : (item : Item) (away : ℤ) (size wider : ℕ) → IsJudged item away size wider → ltb size wider ≡ false → wider ≡ size
told_same item away size wider judged e =
    let le : wider ≤ size = ltb-false size wider e in
    elim judged [
      | inl kept ↦ kept.0
      | inr grown ↦ let twice : wider ≡ 2 * size = grown.0 in omega arith
    ]
