-- The list of pages: what a search in it finds, a page added behind others, and the pages of one more segment.

use Rattle.std.proofs.Common.{◌≡◌, ℕ, suc, ◌+◌, ◌-◌, ◌*◌, ◌/◌, ◌%◌, ◌≤◌, ◌<◌, ◌==◌, nat_le, nat_lt, Bool, true, false, ◌&&◌, ◌||◌, cond, inl, inr, List, [], ◌∷◌, ◌++◌, Some, None, length, get_or, slice_get, take, refl, ap, sym, subst, ◌∙◌, arith, Result, Ok, Err, MatchResult}
use Rattle.std.specs.List.{list_any}
use Rattle.std.specs.List.Sorted.{IsSearchInRange, IsBinarySearchResult, IsNonDecreasingBy}
use Rattle.std.specs.Ordering.{nat_cmp}
use Rattle.std.proofs.Math.ListN.{get_or-append}
use Rattle.std.proofs.lemmas.Bool.{cases_eq, cases_lt}
use Rattle.std.proofs.lemmas.Bool.Decides.{nat_tests}
use Rattle.std.proofs.lemmas.Grind.{common_steps}
use Rattle.std.proofs.lemmas.List.{get_or-take, get_or_default, get_or-append-add, length-take, length-take-le}
use Rattle.std.proofs.lemmas.List.Folds.{Any-from_list_any, list_any_none, list_any-append, list_any_at, list_any_more}
use Rattle.std.proofs.lemmas.List.Sorted.{IsNonDecreasingBy-from_default}
use Rattle.std.proofs.lemmas.Option.{slice_get_within, get_or_from_slice_get}
use Rattle.rv_image_laws.specs.Segment.{Segment}
use Rattle.rv_isa_laws.specs.Memory.{Right, Read, Write, Execute}
use Rattle.rv_isa_laws.specs.Platform.{stack_start}
use Rattle.rv_image_laws.specs.Memory.{lies_in, segment_at, gives_right}
use Rattle.rv_memory.specs.Flat.{AreDisjoint, no_segment}
use Rattle.rv_memory.specs.Pages.{AreOrdered, has_byte_on, is_listed, is_reached, with_page, no_page, AreAscending, ArePages, AreListed}
use Rattle.rv_memory.specs.Unmade.{IsGap, IsUnmade, deep}
use Rattle.rv_memory.specs.declared.page.Page.{Page}
use Rattle.rv_memory.proofs.FlatLemmas.{holds-range, range-holds}
use Rattle.rv_memory.proofs.OrderLemmas.{searched, apart-at, none-found}
use Rattle.rv_memory.proofs.UnmadeLemmas.{address-at, size-at, other-at, deep-count, unmade-gap}

rising : (pages : List Page) → AreAscending pages → IsNonDecreasingBy (λ (page : Page). page.number) pages
rising pages up = IsNonDecreasingBy-from_default (λ (page : Page). page.number) pages no_page
    (λ i j low within. elim (cases_eq i j) [
      | inl same ↦ (let e : (get_or pages i no_page).number ≡ (get_or pages j no_page).number = ap (λ (k : ℕ). (get_or pages k no_page).number) same in omega (arith, e))
      | inr other ↦ (let h = up i j (omega (arith, low, other)) within in omega (arith, h))
    ])

pub page-searched : (pages : List Page) (n : ℕ) (r : Result ℕ ℕ) → AreAscending pages → IsSearchInRange r (length pages) →
    IsBinarySearchResult (λ (page : Page). nat_cmp page.number n) pages r →
    MatchResult r (λ i. (i < length pages) × ((get_or pages i no_page).number ≡ n)) (λ _. is_listed n pages ≡ false)
page-searched pages n r up in_range is = by-answer r (searched (λ (page : Page). page.number) pages (rising pages up) n r in_range is)
  where
    by-answer : (r : Result ℕ ℕ) →
        MatchResult r (λ i. (i < length pages) × ((d : Page) → (get_or pages i d).number ≡ n))
        (λ i. (i ≤ length pages) × ((j : ℕ) (d : Page) → j < i → (get_or pages j d).number < n) × ((j : ℕ) (d : Page) → i ≤ j → j < length pages → n < (get_or pages j d).number)) →
        MatchResult r (λ i. (i < length pages) × ((get_or pages i no_page).number ≡ n)) (λ _. is_listed n pages ≡ false)
    by-answer (Ok i) found = (found.0, found.1 no_page)
    by-answer (Err i) gap = list_any_none _ pages (λ k d within. elim (cases_lt k i) [
      | inl before ↦ (let h = gap.1 k d before in grind (arith, nat_tests))
      | inr after ↦ (let h = gap.2 k d after within in grind (arith, nat_tests))
    ])

-- by ascending numbers, the last one tells whether a number is reached
pub last-reaches : (pages : List Page) (n k : ℕ) → AreAscending pages → suc k ≡ length pages → is_reached n pages ≡ nat_le n (get_or pages k no_page).number
last-reaches pages n k up last = elim (cases_lt (get_or pages k no_page).number n) [
  | inl below ↦
      let none : is_reached n pages ≡ false = list_any_none _ pages (λ j d within.
      let e : get_or pages j d ≡ get_or pages j no_page = get_or_default pages j d no_page within in
      let low = rising pages up j k no_page (omega (arith, within, last)) (omega (arith, last)) in
      rw e (grind (arith, nat_tests))) in
      let test : nat_le n (get_or pages k no_page).number ≡ false = grind (arith, nat_tests) in
      none ∙ sym test
  | inr above ↦
      let test : nat_le n (get_or pages k no_page).number ≡ true = grind (arith, nat_tests) in
      list_any_at _ pages k no_page (omega (arith, last)) test ∙ sym test
]

pub last-tells : (pages : List Page) (n : ℕ) (page : Page) → AreAscending pages → slice_get pages (length pages - 1) ≡ Some page → nat_le n page.number ≡ is_reached n pages
last-tells pages n page up at =
    let within = slice_get_within pages (length pages - 1) page at in
    let is : get_or pages (length pages - 1) no_page ≡ page = get_or_from_slice_get pages (length pages - 1) page no_page at in
    ap (λ (p : Page). nat_le n p.number) (sym is) ∙ sym (last-reaches pages n (length pages - 1) up (omega (arith, within)))

-- a number that is not reached is above all
above-all : (pages : List Page) (n k : ℕ) → is_reached n pages ≡ false → k < length pages → (get_or pages k no_page).number < n
above-all pages n k none within = elim (cases_lt (get_or pages k no_page).number n) [
  | inl below ↦ below
  | inr above ↦
      let test : nat_le n (get_or pages k no_page).number ≡ true = grind (arith, nat_tests) in
      let some : is_reached n pages ≡ true = list_any_at _ pages k no_page within test in
      absurd (cc)
]

pub put-first : (pages : List Page) (page : Page) (i : ℕ) → i < length pages → get_or (pages ++ (page ∷ [])) i no_page ≡ get_or pages i no_page
put-first pages page i within = get_or-append pages (page ∷ []) no_page i within

pub put-last : (pages : List Page) (page : Page) (i : ℕ) → i ≡ length pages → get_or (pages ++ (page ∷ [])) i no_page ≡ page
put-last pages page i e =
    let same : i ≡ length pages + 0 = omega (arith, e) in
    ap (λ (j : ℕ). get_or (pages ++ (page ∷ [])) j no_page) same ∙ get_or-append-add pages (page ∷ []) 0 no_page

long : (pages : List Page) (page : Page) → length (pages ++ (page ∷ [])) ≡ length pages + 1
long pages page = grind (arith, common_steps)

pub put-ascends : (pages : List Page) (page : Page) → AreAscending pages → is_reached page.number pages ≡ false → AreAscending (pages ++ (page ∷ []))
put-ascends pages page up none i j low within =
    let count = long pages page in
    let in_i : i < length pages = omega (arith, low, within, count) in
    elim (cases_lt j (length pages)) [
      | inl in_j ↦ rw (put-first pages page i in_i, put-first pages page j in_j) (up i j low in_j)
      | inr past ↦ rw (put-first pages page i in_i, put-last pages page j (omega (arith, past, within, count))) (above-all pages page.number i none in_i)
    ]

-- the pages of a segment whose first page has this number, up to that of number m, added to those of the segments before it
pub record AreMore (segments : List Segment) (first m : ℕ) (old pages : List Page) : Type 0 where
  pub ascending : AreAscending pages
  pub listed : (n : ℕ) → is_listed n pages ≡ (is_listed n old || (nat_le first n && nat_lt n m))
  pub reached : (n : ℕ) → m ≤ n → is_reached n pages ≡ true → is_listed n old ≡ true

-- a page that is reached from a segment's first one on is in the list: segments before it end below, or on this page
pub reached-listed : (ss : List Segment) (index : ℕ) (old : List Page) (n : ℕ) → index < length ss → AreDisjoint ss → AreOrdered ss → ArePages (take index ss) old →
    (get_or ss index no_segment).address / 4096 ≤ n → is_reached n old ≡ true → is_listed n old ≡ true
reached-listed ss index old n within apart ordered before low reached =
    let page = Any-from_list_any _ old reached in
    let number : ℕ = page.1.number in
    let is : (get_or old page.0 no_page).number ≡ number = ap (λ (p : Page). p.number) (get_or_default old page.0 no_page page.1 page.2 ∙ page.3) in
    let listed : is_listed number old ≡ true = list_any_at _ old page.0 no_page page.2 (grind (arith, nat_tests)) in
    let held = Any-from_list_any _ (take index ss) (sym (before.all number) ∙ listed) in
    let count : length (take index ss) ≡ index = length-take-le index ss (omega (arith, within)) in
    let j = held.0 in
    let in_j : j < index = omega (arith, held.2, count) in
    let s : Segment = get_or ss j no_segment in
    let t : Segment = get_or ss index no_segment in
    let same : s ≡ held.1 = sym (get_or-take index ss j no_segment in_j) ∙ get_or_default (take index ss) j no_segment held.1 held.2 ∙ held.3 in
    let byte : has_byte_on number s ≡ true = rw same held.4 in
    let rise = ordered.rises j index (omega (arith, in_j)) within in
    let some = ordered.filled index within in
    elim (cases_eq number n) [
      | inl e ↦ subst (λ (m : ℕ). is_listed m old ≡ true) e listed
      | inr other ↦
          let above : n < number = (let test = page.4 in let o = other in grind (arith, nat_tests)) in
          let high : 4096 * number < s.address + length s.bytes = (let b = byte in grind (arith, nat_tests)) in
          let shared : lies_in s t.address ≡ true = range-holds s t.address rise (omega (arith, low, above, high)) in
          let here : lies_in t t.address ≡ true = range-holds t t.address (omega arith) (omega (arith, some)) in
          let e : j ≡ index = apart-at ss apart j index t.address shared here in
          absurd (omega (arith, in_j, e))
    ]

-- no segment has no page
pub no-pages : ArePages [] []
no-pages = record { ascending = λ i j low within. absurd (omega arith); all = λ n. refl }

or-nothing : (first n : ℕ) (b : Bool) → b ≡ (b || (nat_le first n && nat_lt n first))
or-nothing first n true = refl
or-nothing first n false = elim (cases_lt n first) [
  | inl below ↦ grind (arith, nat_tests)
  | inr above ↦ grind (arith, nat_tests)
]

on-page : (s : Segment) (x : ℕ) → s.address ≤ x → x < s.address + length s.bytes → has_byte_on (x / 4096) s ≡ true
on-page s x low high = grind (arith, nat_tests)

-- no page of the segment so far
pub more-start : (ss : List Segment) (index first : ℕ) (old : List Page) → index < length ss → AreDisjoint ss → AreOrdered ss → ArePages (take index ss) old →
    first ≡ (get_or ss index no_segment).address / 4096 → AreMore (take (index + 1) ss) first first old old
more-start ss index first old within apart ordered before is = record {
  ascending = before.ascending;
  listed = λ n. or-nothing first n (is_listed n old);
  reached = λ n low reached. reached-listed ss index old n within apart ordered before (omega (arith, low, is)) reached;
}

nat-next : (n m : ℕ) → (n ≡ m → ⊥) → nat_lt n m ≡ nat_lt n (m + 1)
nat-next n m other = elim (cases_lt n m) [
  | inl below ↦ grind (arith, nat_tests)
  | inr above ↦ (let past : m < n = omega (arith, above, other) in grind (arith, nat_tests))
]

first-reached : (a b : Bool) → b ≡ false → (a || (b || false)) ≡ true → a ≡ true
first-reached true b e h = refl
first-reached false true e h = absurd (cc)
first-reached false false e h = absurd (cc)

added : (o : Bool) (first m n : ℕ) → first ≤ m → ((o || (nat_le first n && nat_lt n m)) || (m == n || false)) ≡ (o || (nat_le first n && nat_lt n (m + 1)))
added true first m n low = refl
added false first m n low = grind (arith, nat_tests)

-- one page more
one-more : (first m n : ℕ) (o b : Bool) → first ≤ m → o ≡ true → n ≡ m → b ≡ (o || (nat_le first n && nat_lt n m)) → b ≡ (o || (nat_le first n && nat_lt n (m + 1)))
one-more first m n true b low e is h = h
one-more first m n false b low e is h = absurd (cc)

more-by : (b : Bool) (ss : List Segment) (first m : ℕ) (old pages : List Page) (page : Page) → first ≤ m → page.number ≡ m →
    AreMore ss first m old pages → is_reached m pages ≡ b → AreMore ss first (m + 1) old (cond b pages (pages ++ (page ∷ [])))
more-by true ss first m old pages page low is more e = record {
  ascending = more.ascending;
  listed = λ n. elim (cases_eq n m) [
    | inl same ↦
        let listed : is_listed m old ≡ true = more.reached m (omega arith) e in
        let here : is_listed n old ≡ true = subst (λ (k : ℕ). is_listed k old ≡ true) (sym same) listed in
        one-more first m n (is_listed n old) (is_listed n pages) low here same (more.listed n)
    | inr other ↦
        let test : nat_lt n m ≡ nat_lt n (m + 1) = nat-next n m other in
        more.listed n ∙ ap (λ (b : Bool). is_listed n old || (nat_le first n && b)) test
  ];
  reached = λ n above reached. more.reached n (omega (arith, above)) reached;
}
more-by false ss first m old pages page low is more e = record {
  ascending = put-ascends pages page more.ascending (rw is e);
  listed = λ n.
      let parts : is_listed n (pages ++ (page ∷ [])) ≡ (is_listed n pages || (page.number == n || false)) = list_any-append _ pages (page ∷ []) in
      parts ∙ rw is (ap (λ (b : Bool). b || (m == n || false)) (more.listed n) ∙ added (is_listed n old) first m n low);
  reached = λ n above reached.
      let parts : is_reached n (pages ++ (page ∷ [])) ≡ (is_reached n pages || (nat_le n page.number || false)) = list_any-append _ pages (page ∷ []) in
      let past : nat_le n page.number ≡ false = (let h = above in let i = is in grind (arith, nat_tests)) in
      more.reached n (omega (arith, above)) (first-reached (is_reached n pages) (nat_le n page.number) past (sym parts ∙ reached));
}

pub more-next : (ss : List Segment) (first m : ℕ) (old pages : List Page) (page : Page) → first ≤ m → page.number ≡ m →
    AreMore ss first m old pages → AreMore ss first (m + 1) old (with_page page pages)
more-next ss first m old pages page low is more =
    subst (λ (b : Bool). AreMore ss first (m + 1) old (cond b pages (pages ++ (page ∷ [])))) (ap (λ (n : ℕ). is_reached n pages) (sym is))
    (more-by (is_reached m pages) ss first m old pages page low is more refl)

-- the pages between those of a segment's first and last byte are those that have a byte of it
span : (s : Segment) (n : ℕ) → 0 < length s.bytes →
    (nat_le (s.address / 4096) n && nat_lt n ((s.address + (length s.bytes - 1)) / 4096 + 1)) ≡ has_byte_on n s
span s n some = grind (arith, nat_tests)

-- all pages of the segment
pub more-all : (ss : List Segment) (index first m : ℕ) (old pages : List Page) → index < length ss → AreOrdered ss → ArePages (take index ss) old →
    first ≡ (get_or ss index no_segment).address / 4096 →
    m ≡ ((get_or ss index no_segment).address + (length (get_or ss index no_segment).bytes - 1)) / 4096 + 1 →
    AreMore (take (index + 1) ss) first m old pages → ArePages (take (index + 1) ss) pages
more-all ss index first m old pages within ordered before low high more = record {
  ascending = more.ascending;
  all = λ n.
      let here : (nat_le first n && nat_lt n m) ≡ has_byte_on n (get_or ss index no_segment) =
      rw (low, high) (span (get_or ss index no_segment) n (ordered.filled index within)) in
      more.listed n ∙ ap (λ (b : Bool). b || (nat_le first n && nat_lt n m)) (before.all n)
      ∙ ap (λ (b : Bool). list_any (has_byte_on n) (take index ss) || b) here ∙ sym (list_any_more (has_byte_on n) ss index no_segment within);
}

-- the three bits of flags that are rights
pub gives-low : (flags : ℕ) (r : Right) → gives_right (flags % 8) r ≡ gives_right flags r
gives-low flags Execute = let e : flags % 8 % 2 ≡ flags % 2 = omega arith in ap (λ (n : ℕ). n == 1) e
gives-low flags Write = let e : flags % 8 / 2 % 2 ≡ flags / 2 % 2 = omega arith in ap (λ (n : ℕ). n == 1) e
gives-low flags Read = let e : flags % 8 / 4 % 2 ≡ flags / 4 % 2 = omega arith in ap (λ (n : ℕ). n == 1) e

-- an address that a segment holds has a page in the list
listed-at : (ss : List Segment) (i start : ℕ) (pages : List Page) (x k : ℕ) → ArePages (deep ss i start) pages → k < length ss →
    lies_in (get_or (deep ss i start) k no_segment) x ≡ true → is_listed (x / 4096) pages ≡ true
listed-at ss i start pages x k are within h =
    let s : Segment = get_or (deep ss i start) k no_segment in
    let range = holds-range s x h in
    are.all (x / 4096) ∙ list_any_at _ (deep ss i start) k no_segment (omega (arith, within, deep-count ss i start)) (on-page s x range.0 range.1)

-- what a segment holds it holds too where one of them has more in front
held-deep : (ss : List Segment) (i start x k : ℕ) → IsGap ss i start → lies_in (get_or ss k no_segment) x ≡ true → lies_in (get_or (deep ss i start) k no_segment) x ≡ true
held-deep ss i start x k gap h = elim (cases_eq k i) [
  | inl same ↦
      let here : lies_in (get_or ss i no_segment) x ≡ true = subst (λ (j : ℕ). lies_in (get_or ss j no_segment) x ≡ true) same h in
      let range = holds-range (get_or ss i no_segment) x here in
      let address = address-at ss i start k gap.within same in
      let size = size-at ss i start k gap.within same in
      range-holds (get_or (deep ss i start) k no_segment) x (omega (arith, address, range.0, gap.low)) (omega (arith, address, size, range.1, gap.low))
  | inr other ↦ subst (λ (u : Segment). lies_in u x ≡ true) (sym (other-at ss i start k other)) h
]

-- the pages of segments of which the one at index i is to have all of the stack
pub pages-listed : (ss : List Segment) (i base : ℕ) (pages : List Page) → AreDisjoint ss → IsUnmade ss i base → ArePages (deep ss i stack_start) pages → AreListed ss pages
pages-listed ss i base pages apart is are = record {
  ascending = are.ascending;
  all = λ x none. none-found ss x (segment_at ss x) (λ k within h.
      let listed = listed-at ss i stack_start pages x k are within (held-deep ss i stack_start x k gap h) in
      cc) refl;
  stack = λ x low high.
      let address = address-at ss i stack_start i gap.within refl in
      let size = size-at ss i stack_start i gap.within refl in
      let held = range-holds (get_or (deep ss i stack_start) i no_segment) x (omega (arith, address, low)) (omega (arith, address, size, high, gap.low, is.top.starts, is.top.ends)) in
      listed-at ss i stack_start pages x i are gap.within held;
}
  where
    gap : IsGap ss i stack_start
    gap = unmade-gap ss i base apart is

-- the same pages, where each address has the segment that it had
pub listed-again : (ss ts : List Segment) (pages : List Page) → ((x : ℕ) → segment_at ts x ≡ segment_at ss x) → AreListed ss pages → AreListed ts pages
listed-again ss ts pages found are = record {
  ascending = are.ascending;
  all = λ x none. found x ∙ are.all x none;
  stack = are.stack;
}

pub deep-end : (ss : List Segment) (i start j : ℕ) → IsGap ss i start →
    (get_or (deep ss i start) j no_segment).address + length (get_or (deep ss i start) j no_segment).bytes ≡ (get_or ss j no_segment).address + length (get_or ss j no_segment).bytes
deep-end ss i start j gap = elim (cases_eq j i) [
  | inl same ↦
      let here : (get_or ss j no_segment) ≡ get_or ss i no_segment = ap (λ (k : ℕ). get_or ss k no_segment) same in
      rw here (let address = address-at ss i start j gap.within same in let size = size-at ss i start j gap.within same in omega (arith, address, size, gap.low))
  | inr other ↦ ap (λ (u : Segment). u.address + length u.bytes) (other-at ss i start j other)
]
