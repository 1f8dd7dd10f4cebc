-- Segments put in the order of their addresses, without those that have no bytes: the same memory, in which a binary search finds the segment of an address.

use Rattle.std.proofs.Common.{◌≡◌, ℕ, zero, suc, ◌+◌, ◌≤◌, ◌<◌, ◌==◌, Bool, true, false, not, cond, ◌⊎◌, inl, inr, List, [], ◌∷◌, Option, Some, None, length, get_or, slice_get, map, refl, ap, sym, subst, ◌∙◌, arith, Result, Ok, Err, MatchResult}
use Rattle.std.specs.List.{Contains, All, filter, remove, swap, position_or_len}
use Rattle.std.specs.List.Sorted.{IsPermutation, IsSearchInRange, IsBinarySearchResult, IsNonDecreasingBy}
use Rattle.std.specs.Ordering.{nat_cmp, ordering_index}
use Rattle.std.proofs.lemmas.Bool.{cases_eq, cases_lt, cases_order}
use Rattle.std.proofs.lemmas.Bool.Decides.{nat_tests}
use Rattle.std.proofs.lemmas.Cmp.{ranked}
use Rattle.std.proofs.lemmas.List.Edits.{swapped_from_swap, length-remove, get_or-remove_below, get_or-remove_above}
use Rattle.std.proofs.lemmas.List.Folds.{find_at}
use Rattle.std.proofs.lemmas.List.Sorted.{IsPermutation-keeps, IsPermutation-remove, IsPermutation-sym, Contains-permutation}
use Rattle.std.proofs.lemmas.List.{get_or-map, get_or_default, length-map}
use Rattle.std.proofs.lemmas.Option.{slice_get_within, slice_get_read, get_or_from_slice_get}
use Rattle.std.proofs.Math.Path.{fun_ext}
use Rattle.rv_isa_laws.specs.Memory.{Right}
use Rattle.rv_image_laws.specs.Segment.{Segment}
use Rattle.rv_image.specs.SegmentView.{segment_of}
use Rattle.rv_image.specs.declared.segment.Segment.{Segment as DeclaredSegment}
use Rattle.rv_image_laws.specs.Memory.{lies_in, segment_at, byte_in, right_in}
use Rattle.rv_memory.specs.Flat.{memory_of, AreDisjoint, no_segment}
use Rattle.rv_memory.specs.Pages.{AreBehind, AreOrdered, IsLastBegun}
use Rattle.rv_memory.proofs.FlatLemmas.{disjoint-rest, element-or, segment-held, held-segment, holds-range, range-holds, same-memory}

-- what a binary search by a number finds among elements by ascending numbers
module _ {X : Type 0} (n : X → ℕ) (l : List X) (rises : IsNonDecreasingBy n l) (k : ℕ) where
  comparisons-rise : IsNonDecreasingBy (λ x. ordering_index (nat_cmp (n x) k)) l
  comparisons-rise i j d le in_range = let h = rises i j d le in_range in grind (arith, nat_tests)

  pub searched : (r : Result ℕ ℕ) → IsSearchInRange r (length l) → IsBinarySearchResult (λ x. nat_cmp (n x) k) l r →
      MatchResult r (λ i. (i < length l) × ((d : X) → n (get_or l i d) ≡ k))
      (λ i. (i ≤ length l) × ((j : ℕ) (d : X) → j < i → n (get_or l j d) < k) × ((j : ℕ) (d : X) → i ≤ j → j < length l → k < n (get_or l j d)))
  searched (Ok i) in_range equal = (in_range, λ d. ranked _ k _ (sym (equal d)))
  searched (Err i) in_range parted =
      let before : (j : ℕ) (d : X) → j < i → n (get_or l j d) < k = λ j d low. ranked _ k _ (sym ((parted comparisons-rise).0 j d (omega arith) low)) in
      let after : (j : ℕ) (d : X) → i ≤ j → j < length l → k < n (get_or l j d) = λ j d high within. ranked _ k _ (sym ((parted comparisons-rise).1 j d high within)) in
      (in_range, before, after)

-- an element and where it stands
stands : (ss : List Segment) (s : Segment) → Contains ss s → (k : ℕ) × (slice_get ss k ≡ Some s)
stands ss s (k, within, is) = (k, slice_get_read ss (length ss) k s refl within (sym is))

contained : (ss : List Segment) (k : ℕ) (s : Segment) → slice_get ss k ≡ Some s → Contains ss s
contained ss k s at = (k, slice_get_within ss k s at, get_or_from_slice_get ss k s s at)

-- the segment of an address, and where it stands
pub standing : (ss : List Segment) (x : ℕ) (s : Segment) → segment_at ss x ≡ Some s → (k : ℕ) × (slice_get ss k ≡ Some s)
standing ss x s e = (position_or_len (λ t. lies_in t x) ss, sym (find_at (λ t. lies_in t x) ss) ∙ e)

-- each segment with bytes is also among the others
abbrev pub AreAmong : List Segment → List Segment → Type 0
AreAmong ss ts = (s : Segment) → 0 < length s.bytes → Contains ss s → Contains ts s

found-there : (ss ts : List Segment) (x : ℕ) (s : Segment) → AreDisjoint ts → AreAmong ss ts → segment_at ss x ≡ Some s → segment_at ts x ≡ Some s
found-there ss ts x s apart among e =
    let held = segment-held ss x s e in
    let range = holds-range s x held in
    let here = standing ss x s e in
    let there = stands ts s (among s (omega (arith, range.0, range.1)) (contained ss here.0 s here.1)) in
    held-segment ts there.0 x s apart there.1 held

none-there : (ss ts : List Segment) (x : ℕ) (p : Option Segment) → AreDisjoint ss → AreAmong ts ss → segment_at ss x ≡ None → segment_at ts x ≡ p → p ≡ None
none-there ss ts x None apart among e f = refl
none-there ss ts x (Some t) apart among e f = let g = found-there ts ss x t apart among f in absurd (cc)

same-found : (ss ts : List Segment) (x : ℕ) (o : Option Segment) → AreDisjoint ss → AreDisjoint ts → AreAmong ss ts → AreAmong ts ss →
    segment_at ss x ≡ o → segment_at ts x ≡ o
same-found ss ts x None apart there among back e = none-there ss ts x (segment_at ts x) apart back e refl
same-found ss ts x (Some s) apart there among back e = found-there ss ts x s there among e

-- segments that lie apart make one memory in any order, with or without those that have no bytes
same-made : (ss ts : List Segment) → AreDisjoint ss → AreDisjoint ts → AreAmong ss ts → AreAmong ts ss → memory_of ts ≡ memory_of ss
same-made ss ts apart there among back =
    let found : (x : ℕ) → segment_at ts x ≡ segment_at ss x = λ x. same-found ss ts x (segment_at ss x) apart there among back refl in
    let bytes : (memory_of ts).byte ≡ (memory_of ss).byte = fun_ext (λ (x : ℕ). ap (λ (o : Option Segment). byte_in o x) (found x)) in
    let rights : (memory_of ts).has ≡ (memory_of ss).has = fun_ext (λ (x : ℕ). fun_ext (λ (r : Right). ap (λ (o : Option Segment). right_in o r) (found x))) in
    same-memory (memory_of ts) (memory_of ss) bytes rights

-- whether a segment has bytes
abbrev pub has_bytes : Segment → Bool
has_bytes s = not (length s.bytes == 0)

kept-at : (b : Bool) (s t : Segment) (ss : List Segment) (j : ℕ) → slice_get (cond b (s ∷ ss) ss) j ≡ Some t → (s ≡ t) ⊎ Contains ss t
kept-at true s t ss zero at = inl (let e : s ≡ t = cc in e)
kept-at true s t ss (suc j) at = inr (contained ss j t at)
kept-at false s t ss j at = inr (contained ss j t at)

later : (s t : Segment) (ss : List Segment) → Contains ss t → Contains (s ∷ ss) t
later s t ss has = let at = stands ss t has in contained (s ∷ ss) (suc at.0) t at.1

filter-among : (p : Segment → Bool) (ss : List Segment) (t : Segment) → Contains (filter p ss) t → Contains ss t
filter-among p [] t has = has
filter-among p (s ∷ ss) t has = let at = stands (filter p (s ∷ ss)) t has in elim (kept-at (p s) s t (filter p ss) at.0 at.1) [
  | inl e ↦ contained (s ∷ ss) 0 t (ap Some e)
  | inr rest ↦ later s t ss (filter-among p ss t rest)
]

kept-there : (b : Bool) (s t : Segment) (ss : List Segment) → Contains ss t → Contains (cond b (s ∷ ss) ss) t
kept-there true s t ss has = later s t ss has
kept-there false s t ss has = has

kept-here : (b : Bool) (s : Segment) (ss : List Segment) → b ≡ true → Contains (cond b (s ∷ ss) ss) s
kept-here true s ss e = contained (s ∷ ss) 0 s refl
kept-here false s ss e = absurd (cc)

among-filter : (p : Segment → Bool) (ss : List Segment) (k : ℕ) (t : Segment) → p t ≡ true → slice_get ss k ≡ Some t → Contains (filter p ss) t
among-filter p [] k t e at = absurd (cc)
among-filter p (s ∷ ss) zero t e at =
    let same : t ≡ s = cc in
    subst (λ (u : Segment). Contains (filter p (s ∷ ss)) u) (sym same) (kept-here (p s) s (filter p ss) (subst (λ (u : Segment). p u ≡ true) same e))
among-filter p (s ∷ ss) (suc k) t e at = kept-there (p s) s t (filter p ss) (among-filter p ss k t e at)

disjoint-kept : (b : Bool) (s : Segment) (ss : List Segment) → ((x : ℕ) (t : Segment) → Contains ss t → lies_in s x ≡ true → lies_in t x ≡ true → ⊥) →
    AreDisjoint ss → AreDisjoint (cond b (s ∷ ss) ss)
disjoint-kept false s ss away apart i j x t u at_i at_j t_holds u_holds = apart i j x t u at_i at_j t_holds u_holds
disjoint-kept true s ss away apart zero zero x t u at_i at_j t_holds u_holds = refl
disjoint-kept true s ss away apart zero (suc j) x t u at_i at_j t_holds u_holds =
    let same : t ≡ s = cc in
    absurd (away x u (contained ss j u at_j) (subst (λ (v : Segment). lies_in v x ≡ true) same t_holds) u_holds)
disjoint-kept true s ss away apart (suc i) zero x t u at_i at_j t_holds u_holds =
    let same : u ≡ s = cc in
    absurd (away x t (contained ss i t at_i) (subst (λ (v : Segment). lies_in v x ≡ true) same u_holds) t_holds)
disjoint-kept true s ss away apart (suc i) (suc j) x t u at_i at_j t_holds u_holds = ap suc (apart i j x t u at_i at_j t_holds u_holds)

disjoint-filter : (p : Segment → Bool) (ss : List Segment) → AreDisjoint ss → AreDisjoint (filter p ss)
disjoint-filter p [] apart = apart
disjoint-filter p (s ∷ ss) apart =
    let away : (x : ℕ) (t : Segment) → Contains (filter p ss) t → lies_in s x ≡ true → lies_in t x ≡ true → ⊥ =
    λ x t has s_holds t_holds.
    let at = stands ss t (filter-among p ss t has) in
    let e : 0 ≡ suc at.0 = apart 0 (suc at.0) x s t refl at.1 s_holds t_holds in omega arith in
    disjoint-kept (p s) s (filter p ss) away (disjoint-filter p ss (disjoint-rest s ss apart))

-- the plain values of the segments that have bytes
pub filter-segments : (xs : List DeclaredSegment) → map segment_of (filter (λ s. has_bytes (segment_of s)) xs) ≡ filter has_bytes (map segment_of xs)
filter-segments [] = refl
filter-segments (x ∷ xs) = kept-map (has_bytes (segment_of x)) x (filter (λ s. has_bytes (segment_of s)) xs) (filter has_bytes (map segment_of xs)) (filter-segments xs)
  where
    kept-map : (b : Bool) (x : DeclaredSegment) (xs : List DeclaredSegment) (ss : List Segment) → map segment_of xs ≡ ss →
        map segment_of (cond b (x ∷ xs) xs) ≡ cond b (segment_of x ∷ ss) ss
    kept-map true x xs ss e = ap (λ (rest : List Segment). segment_of x ∷ rest) e
    kept-map false x xs ss e = e

-- without the segments that have no bytes
pub record AreKept (ss ts : List Segment) : Type 0 where
  pub apart : AreDisjoint ts
  pub memory : memory_of ts ≡ memory_of ss
  pub found : (x : ℕ) → segment_at ts x ≡ segment_at ss x

pub filled-kept : (ss : List Segment) → AreDisjoint ss → AreKept ss (filter has_bytes ss)
filled-kept ss apart =
    let there = disjoint-filter has_bytes ss apart in
    let among : AreAmong ss (filter has_bytes ss) =
    λ s some has. (let at = stands ss s has in among-filter has_bytes ss at.0 s (let n = some in grind (arith, nat_tests)) at.1) in
    record {
      apart = there;
      memory = same-made ss (filter has_bytes ss) apart there among (λ s some has. filter-among has_bytes ss s has);
      found = λ x. same-found ss (filter has_bytes ss) x (segment_at ss x) apart there among (λ s some has. filter-among has_bytes ss s has) refl;
    }

-- no address lies in the segments at two indices
abbrev ApartAt : List Segment → Type 0
ApartAt ss = (i j x : ℕ) → lies_in (get_or ss i no_segment) x ≡ true → lies_in (get_or ss j no_segment) x ≡ true → i ≡ j

held-within : (ss : List Segment) (i x : ℕ) → lies_in (get_or ss i no_segment) x ≡ true → slice_get ss i ≡ Some (get_or ss i no_segment)
held-within [] i x h = absurd (grind (arith, nat_tests))
held-within (s ∷ ss) zero x h = refl
held-within (s ∷ ss) (suc i) x h = held-within ss i x h

pub apart-at : (ss : List Segment) → AreDisjoint ss → ApartAt ss
apart-at ss apart i j x h k = apart i j x _ _ (held-within ss i x h) (held-within ss j x k) h k

at-apart : (ss : List Segment) → ApartAt ss → AreDisjoint ss
at-apart ss apart i j x s t at_i at_j h k =
    let e : get_or ss i no_segment ≡ s = get_or_from_slice_get ss i s no_segment at_i in
    let f : get_or ss j no_segment ≡ t = get_or_from_slice_get ss j t no_segment at_j in
    apart i j x (rw e h) (rw f k)

-- where an element stood before those at a and b were exchanged
abbrev exchanged : ℕ → ℕ → ℕ → ℕ
exchanged a b i = cond (i == a) b (cond (i == b) a i)

exchanged-once : (a b i j : ℕ) → exchanged a b i ≡ exchanged a b j → i ≡ j
exchanged-once a b i j e = grind (arith, nat_tests)

stood : (p q : Bool) (g f : ℕ → Segment) (a b i : ℕ) → g a ≡ f b → g b ≡ f a → ((m : ℕ) → (m ≡ a → ⊥) → (m ≡ b → ⊥) → g m ≡ f m) →
    (i == a) ≡ p → (i == b) ≡ q → g i ≡ f (cond p b (cond q a i))
stood true q g f a b i at_a at_b others e h = let is : i ≡ a = grind (arith, nat_tests) in ap g is ∙ at_a
stood false true g f a b i at_a at_b others e h = let is : i ≡ b = grind (arith, nat_tests) in ap g is ∙ at_b
stood false false g f a b i at_a at_b others e h = others i (λ is. grind (arith, nat_tests)) (λ is. grind (arith, nat_tests))

apart-swap : (ss : List Segment) (a b : ℕ) → a < length ss → b < length ss → ApartAt ss → ApartAt (swap ss a b)
apart-swap ss a b in_a in_b apart i j x h k =
    let moved = swapped_from_swap ss (swap ss a b) a b no_segment in_a in_b refl in
    let was : (m : ℕ) → get_or (swap ss a b) m no_segment ≡ get_or ss (exchanged a b m) no_segment =
    λ m. stood (m == a) (m == b) (λ n. get_or (swap ss a b) n no_segment) (λ n. get_or ss n no_segment) a b m moved.0 moved.1 moved.2 refl refl in
    exchanged-once a b i j (apart (exchanged a b i) (exchanged a b j) x (rw (sym (was i)) h) (rw (sym (was j)) k))

-- in another order
pub permuted-kept : (ss ts : List Segment) → IsPermutation ss ts → AreDisjoint ss → AreKept ss ts
permuted-kept ss ts moved apart =
    let there = at-apart ts (IsPermutation-keeps ss ApartAt (apart-at ss apart) (λ l i j in_i in_j h. apart-swap l i j in_i in_j h) ts moved) in
    record {
      apart = there;
      memory = same-made ss ts apart there (λ s some has. Contains-permutation ss ts s moved has)
          (λ s some has. Contains-permutation ts ss s (IsPermutation-sym ss ts moved) has);
      found = λ x. same-found ss ts x (segment_at ss x) apart there (λ s some has. Contains-permutation ss ts s moved has)
          (λ s some has. Contains-permutation ts ss s (IsPermutation-sym ss ts moved) has) refl;
    }

-- what a binary search by address finds among them
address-at : (xs : List DeclaredSegment) (j : ℕ) (d : DeclaredSegment) → j < length xs → (get_or (map segment_of xs) j no_segment).address ≡ (get_or xs j d).address
address-at xs j d within = ap (λ (s : Segment). s.address) (get_or-map segment_of xs j d no_segment within)

rises-declared : (xs : List DeclaredSegment) → AreOrdered (map segment_of xs) → IsNonDecreasingBy (λ (s : DeclaredSegment). s.address) xs
rises-declared xs ordered i j d low within =
    let long : length (map segment_of xs) ≡ length xs = length-map xs segment_of in
    let rise = ordered.rises i j low (omega (arith, within, long)) in
    omega (arith, rise, address-at xs i d (omega (arith, low, within)), address-at xs j d within)

pub begun : (xs : List DeclaredSegment) (x : ℕ) (r : Result ℕ ℕ) → AreOrdered (map segment_of xs) → IsSearchInRange r (length xs) →
    IsBinarySearchResult (λ (s : DeclaredSegment). nat_cmp s.address x) xs r →
    MatchResult r (λ i. IsLastBegun (map segment_of xs) x i)
    (λ i. (i ≤ length xs) × ((j : ℕ) → j < i → (get_or (map segment_of xs) j no_segment).address < x) × ((j : ℕ) → i ≤ j → j < length xs → x < (get_or (map segment_of xs) j no_segment).address))
begun [] x (Ok i) ordered in_range is = absurd (omega (arith, in_range))
begun [] x (Err i) ordered in_range is = (in_range, λ j low. absurd (omega (arith, low, in_range)), λ j high within. absurd (omega (arith, within)))
begun (y ∷ ys) x (Ok i) ordered in_range is =
    let found = searched (λ (s : DeclaredSegment). s.address) (y ∷ ys) (rises-declared (y ∷ ys) ordered) x (Ok i) in_range is in
    let e = found.1 y in
    let long : length (map segment_of (y ∷ ys)) ≡ length (y ∷ ys) = length-map (y ∷ ys) segment_of in
    let at = address-at (y ∷ ys) i y found.0 in
    record {
      within = omega (arith, found.0, long);
      low = omega (arith, e, at);
      last = λ k after in_k below. absurd (omega (arith, e, at, below));
    }
begun (y ∷ ys) x (Err i) ordered in_range is =
    let gap = searched (λ (s : DeclaredSegment). s.address) (y ∷ ys) (rises-declared (y ∷ ys) ordered) x (Err i) in_range is in (
      gap.0,
      λ j low. omega (arith, gap.1 j y low, address-at (y ∷ ys) j y (omega (arith, low, gap.0))),
      λ j high within. omega (arith, gap.2 j y high within, address-at (y ∷ ys) j y within),
    )

-- before the first of the later ones
pub begun-before : (ss : List Segment) (x i k : ℕ) → k + 1 ≡ i → i ≤ length ss → ((j : ℕ) → j < i → (get_or ss j no_segment).address < x) →
    ((j : ℕ) → i ≤ j → j < length ss → x < (get_or ss j no_segment).address) → IsLastBegun ss x k
begun-before ss x i k next within before after =
    record { within = omega (arith, next, within); low = omega (arith, before k (omega (arith, next))); last = λ j high in_j below. after j (omega (arith, next, high)) in_j }

-- no segment has the address, where none begins there or below, or the last that does has not
pub none-found : (ss : List Segment) (x : ℕ) (o : Option Segment) → ((k : ℕ) → k < length ss → lies_in (get_or ss k no_segment) x ≡ true → ⊥) → segment_at ss x ≡ o → o ≡ None
none-found ss x None never e = refl
none-found ss x (Some s) never e =
    let here = standing ss x s e in
    let is : get_or ss here.0 no_segment ≡ s = get_or_from_slice_get ss here.0 s no_segment here.1 in
    absurd (never here.0 (slice_get_within ss here.0 s here.1) (rw is (segment-held ss x s e)))

pub none-begun : (ss : List Segment) (x : ℕ) → ((k : ℕ) → k < length ss → x < (get_or ss k no_segment).address) → segment_at ss x ≡ None
none-begun ss x above = none-found ss x (segment_at ss x) (λ k within h. let range = holds-range (get_or ss k no_segment) x h in omega (arith, range.0, above k within)) refl

pub last-lacks : (ss : List Segment) (x i : ℕ) → AreDisjoint ss → AreOrdered ss → IsLastBegun ss x i → lies_in (get_or ss i no_segment) x ≡ false → segment_at ss x ≡ None
last-lacks ss x i apart ordered last lacks = none-found ss x (segment_at ss x) never refl
  where
    first : lies_in (get_or ss i no_segment) (get_or ss i no_segment).address ≡ true
    first = let some = ordered.filled i last.within in range-holds (get_or ss i no_segment) (get_or ss i no_segment).address (omega arith) (omega (arith, some))

    begins : (get_or ss i no_segment).address ≡ x → ⊥
    begins e = let h : lies_in (get_or ss i no_segment) x ≡ true = subst (λ (y : ℕ). lies_in (get_or ss i no_segment) y ≡ true) e first in cc

    before : (k : ℕ) → k < i → lies_in (get_or ss k no_segment) x ≡ true → ⊥
    before k low h =
        let range = holds-range (get_or ss k no_segment) x h in
        let rise = ordered.rises k i (omega arith) last.within in
        let shared = range-holds (get_or ss k no_segment) (get_or ss i no_segment).address (omega (arith, rise)) (omega (arith, last.low, range.1)) in
        let same : k ≡ i = apart-at ss apart k i (get_or ss i no_segment).address shared first in
        omega (arith, low, same)

    after : (k : ℕ) → i < k → k < length ss → lies_in (get_or ss k no_segment) x ≡ true → ⊥
    after k high within h = elim (cases_eq (get_or ss i no_segment).address x) [
      | inl e ↦ begins e
      | inr other ↦
          let range = holds-range (get_or ss k no_segment) x h in
          let above = last.last k high within (omega (arith, last.low, other)) in
          omega (arith, range.0, above)
    ]

    never : (k : ℕ) → k < length ss → lies_in (get_or ss k no_segment) x ≡ true → ⊥
    never k within h = elim (cases_order k i) [
      | inl same ↦ (let e : lies_in (get_or ss i no_segment) x ≡ true = subst (λ (j : ℕ). lies_in (get_or ss j no_segment) x ≡ true) same h in cc)
      | inr (inl low) ↦ before k low h
      | inr (inr high) ↦ after k high within h
    ]

-- segments in order, by their plain values
pub ordered-is : (xs : List DeclaredSegment) → IsNonDecreasingBy (λ (s : DeclaredSegment). s.address) xs → All (λ (s : DeclaredSegment). 0 < length s.bytes.items) xs → AreOrdered (map segment_of xs)
ordered-is [] rises filled = record { rises = λ i j low within. omega arith; filled = λ i within. absurd (omega arith) }
ordered-is (x ∷ xs) rises filled = record {
  rises = λ i j low within.
      let long : length (map segment_of (x ∷ xs)) ≡ length (x ∷ xs) = length-map (x ∷ xs) segment_of in
      let in_j : j < length (x ∷ xs) = omega (arith, within, long) in
      let in_i : i < length (x ∷ xs) = omega (arith, low, in_j) in
      rw (get_or-map segment_of (x ∷ xs) i x no_segment in_i, get_or-map segment_of (x ∷ xs) j x no_segment in_j) (rises i j x low in_j);
  filled = λ i within.
      let long : length (map segment_of (x ∷ xs)) ≡ length (x ∷ xs) = length-map (x ∷ xs) segment_of in
      let in_i : i < length (x ∷ xs) = omega (arith, within, long) in
      rw (get_or-map segment_of (x ∷ xs) i x no_segment in_i) (filled i x in_i);
}

-- the others are in order too
pub ordered-behind : (ss : List Segment) → AreOrdered ss → AreBehind ss
ordered-behind [] ordered = ordered
ordered-behind (s ∷ ss) ordered = record {
  rises = λ i j low within. ordered.rises (suc i) (suc j) (omega (arith, low)) (omega (arith, within));
  filled = λ i within. ordered.filled (suc i) (omega (arith, within));
}

-- and those that are left
ordered-removed : (ss : List Segment) (i : ℕ) → i < length ss → AreOrdered ss → AreOrdered (remove ss i)
ordered-removed ss i within ordered = record {
  rises = λ j k low in_k.
      let count = length-remove ss i within in
      elim (cases_lt k i) [
        | inl k_low ↦ rw (get_or-remove_below ss i no_segment j (omega (arith, low, k_low)) within, get_or-remove_below ss i no_segment k k_low within) (ordered.rises j k low (omega (arith, in_k, count)))
        | inr k_high ↦ elim (cases_lt j i) [
          | inl j_low ↦ rw (get_or-remove_below ss i no_segment j j_low within, get_or-remove_above ss i no_segment k k_high within) (ordered.rises j (k + 1) (omega (arith, low)) (omega (arith, in_k, count)))
          | inr j_high ↦ rw (get_or-remove_above ss i no_segment j j_high within, get_or-remove_above ss i no_segment k k_high within) (ordered.rises (j + 1) (k + 1) (omega (arith, low)) (omega (arith, in_k, count)))
        ]
      ];
  filled = λ k in_k.
      let count = length-remove ss i within in
      elim (cases_lt k i) [
        | inl low ↦ rw (get_or-remove_below ss i no_segment k low within) (ordered.filled k (omega (arith, in_k, count)))
        | inr high ↦ rw (get_or-remove_above ss i no_segment k high within) (ordered.filled (k + 1) (omega (arith, in_k, count)))
      ];
}

map-removed : (xs : List DeclaredSegment) (i : ℕ) → map segment_of (remove xs i) ≡ remove (map segment_of xs) i
map-removed [] zero = refl
map-removed [] (suc i) = refl
map-removed (x ∷ xs) zero = refl
map-removed (x ∷ xs) (suc i) = ap (λ (ss : List Segment). segment_of x ∷ ss) (map-removed xs i)

-- with the one at an index put in front
pub moved-first : (xs ys : List DeclaredSegment) (i : ℕ) (x : DeclaredSegment) → i < length xs → x ≡ get_or xs i x → ys ≡ x ∷ remove xs i →
    map segment_of ys ≡ get_or (map segment_of xs) i no_segment ∷ remove (map segment_of xs) i
moved-first xs ys i x within is new =
    ap (map segment_of) new ∙ ap (λ (ss : List Segment). segment_of x ∷ ss) (map-removed xs i)
    ∙ ap (λ (s : Segment). s ∷ remove (map segment_of xs) i) (sym (element-or xs i x within is))

pub forward-kept : (ss : List Segment) (i : ℕ) → i < length ss → AreDisjoint ss → AreKept ss (get_or ss i no_segment ∷ remove ss i)
forward-kept ss i within apart =
    let s : Segment = get_or ss i no_segment in
    let is : s ≡ get_or ss i s = get_or_default ss i no_segment s within in
    permuted-kept ss (s ∷ remove ss i) (IsPermutation-remove ss i s within is) apart

pub forward-behind : (ss : List Segment) (i : ℕ) → i < length ss → AreOrdered ss → AreBehind (get_or ss i no_segment ∷ remove ss i)
forward-behind ss i within ordered = ordered-removed ss i within ordered

-- an address that the first has not is among the others, or nowhere
pub found-behind : (s : Segment) (ss : List Segment) (x i : ℕ) → lies_in s x ≡ false → segment_at ss x ≡ slice_get ss i → segment_at (s ∷ ss) x ≡ slice_get (s ∷ ss) (i + 1)
found-behind s ss x i lacks found =
    let next : suc i ≡ i + 1 = omega arith in
    rw lacks (found ∙ ap (λ (k : ℕ). slice_get (s ∷ ss) k) next)

pub none-behind : (s : Segment) (ss : List Segment) (x : ℕ) → lies_in s x ≡ false → segment_at ss x ≡ None → segment_at (s ∷ ss) x ≡ None
none-behind s ss x lacks none = rw lacks none
