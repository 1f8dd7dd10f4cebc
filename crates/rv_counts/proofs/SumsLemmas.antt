-- Sums by a key: where the rows of one are, and that a list has each once.

use Rattle.std.proofs.Common.{◌≡◌, ℕ, suc, ◌+◌, ◌<◌, ◌≤◌, ◌^◌, ◌==◌, max, Bool, true, false, ◌||◌, List, [], ◌∷◌, ◌++◌, All, length, take, drop, get_or, nat_lt, nat_le, count_by, sum_by, cond, if◌then◌else◌, refl, sym, ap, subst, ◌∙◌, arith}
use Rattle.std.specs.List.{list_any}
use Rattle.std.specs.List.Sorted.{IsNonDecreasingBy, IsPartitionPoint}
use Rattle.std.proofs.lemmas.List.Sorted.{IsNonDecreasingBy-drop}
use Rattle.std.proofs.lemmas.Bool.{ltb-true, lt-ltb, leb-false, eqb-true}
use Rattle.std.proofs.lemmas.List.{get_or-take, get_or-drop, length-take-le, length-drop, take_all}
use Rattle.std.proofs.lemmas.List.Sums.{sum_by-cons, sum_by_push, sum_by-take-drop, fold_more}
use Rattle.rv_isa.specs.declared.instruction.Inst.{Inst}
use Rattle.rv_counts.specs.declared.rows.CountedInstruction.{CountedInstruction}
use Rattle.rv_counts.specs.Totals.{one_if}
use Rattle.rv_event_laws.specs.Event.{Event}
use Rattle.rv_counts.specs.Counted.{executions}
use Rattle.rv_counts.specs.Rows.{AreCounted, capped, counted_if, sum_of}
use Rattle.rv_counts.specs.Sums.{at_address, executed_in, pc_of, IsListOf}
use Rattle.rv_counts.proofs.CountedLemmas.{one_if-le, executions-le}
use Rattle.rv_counts.proofs.RowsLemmas.{if_of}

-- ---- lists in which each key stands once

module _ {T : Type 0} (is : T → Bool) where
  abbrev pub one : T → ℕ
  one x = cond (is x) 1 0

  abbrev pub Agrees : Bool → ℕ → Type 0
  Agrees true n = 0 < n
  Agrees false n = n ≡ 0

  -- with an element in front
  agrees_more : (b c : Bool) (n : ℕ) → Agrees c n → Agrees (b || c) (cond b 1 0 + n)
  agrees_more true c n h = omega arith
  agrees_more false true n h = omega (arith, h)
  agrees_more false false n h = omega (arith, h)

  agrees : (xs : List T) → Agrees (list_any is xs) (count_by is xs)
  agrees [] = refl
  agrees (x ∷ xs) =
      subst (λ (n : ℕ). Agrees (list_any is (x ∷ xs)) n) (sym (sum_by-cons one x xs)) (agrees_more (is x) (list_any is xs) (count_by is xs) (agrees xs))

  listed_none : (xs : List T) → list_any is xs ≡ false → count_by is xs ≡ 0
  listed_none xs none = subst (λ (b : Bool). Agrees b (count_by is xs)) none (agrees xs)

  listed_some : (xs : List T) → list_any is xs ≡ true → 0 < count_by is xs
  listed_some xs some = subst (λ (b : Bool). Agrees b (count_by is xs)) some (agrees xs)

abbrev pub once_more : Bool → ℕ → ℕ
once_more same old = if same then max 1 old else old

-- an entry that is listed where none of its key is
pub listed_new : {T : Type 0} (is : T → Bool) (same : Bool) (xs : List T) (t : T) → is t ≡ same → (same ≡ true → list_any is xs ≡ false) → count_by is (xs ++ (t ∷ [])) ≡ once_more same (count_by is xs)
listed_new is true xs t here none =
    let one_here : one is t ≡ 1 = ap (λ (b : Bool). cond b 1 0) here in
    let zero_so_far : count_by is xs ≡ 0 = listed_none is xs (none refl) in
    omega (arith, zero_so_far, sum_by_push (one is) xs t, one_here)
listed_new is false xs t here none =
    let zero_here : one is t ≡ 0 = ap (λ (b : Bool). cond b 1 0) here in
    omega (arith, sum_by_push (one is) xs t, zero_here)

-- one that is listed already
pub listed_old : {T : Type 0} (is : T → Bool) (same : Bool) (xs : List T) → (same ≡ true → list_any is xs ≡ true) → count_by is xs ≡ once_more same (count_by is xs)
listed_old is true xs some = omega (arith, listed_some is xs (some refl))
listed_old is false xs some = refl

positive : (n : ℕ) → 0 < n → one_if (nat_lt 0 n) ≡ 1
positive n more = ap one_if (lt-ltb 0 n more)

-- a list of the keys of the rows so far has those of a row more
pub more : (same : Bool) (old new sum count : ℕ) → old ≡ one_if (nat_lt 0 (capped sum)) → new ≡ once_more same old → 0 < count → new ≡ one_if (nat_lt 0 (capped (sum + if_of same count)))
more true old new sum count was now some =
    let least = one_if-le (nat_lt 0 (capped sum)) in
    let some_now : 0 < capped (sum + count) = omega (arith, some) in
    omega (arith, least, was, now, positive (capped (sum + count)) some_now)
more false old new sum count was now some = now ∙ was ∙ ap (λ n. one_if (nat_lt 0 (capped n))) (omega arith)

-- a row of which nothing is counted changes no list
pub none_more : (same : Bool) (old sum count : ℕ) → old ≡ one_if (nat_lt 0 (capped sum)) → count ≡ 0 → old ≡ one_if (nat_lt 0 (capped (sum + if_of same count)))
none_more true old sum count was none = was ∙ ap (λ n. one_if (nat_lt 0 (capped n))) (omega arith)
none_more false old sum count was none = was ∙ ap (λ n. one_if (nat_lt 0 (capped n))) (omega arith)

pub sum_next : (test : ℕ → Inst → Bool) (count : CountedInstruction → ℕ) (rows : List CountedInstruction) (i : ℕ) (row : CountedInstruction) → i < length rows → sum_of test count (take (i + 1) rows) ≡ sum_of test count (take i rows) + counted_if test count (get_or rows i row)
sum_next test count rows i row below = fold_more (λ a x. a + counted_if test count x) 0 rows i row below

-- the entries of a list: those of the keys so far, each with its whole number
pub record IsListSoFar {T K : Type 0} (is : K → T → Bool) (count : T → ℕ) (so_far number : K → ℕ) (list : List T) : Type 0 where
  pub once : (key : K) → count_by (is key) list ≡ one_if (nat_lt 0 (so_far key))
  pub counted : (key : K) → All (λ t. is key t ≡ true → count t ≡ number key) list

module _ {T K : Type 0} (is : K → T → Bool) (of : T → ℕ) (test : K → ℕ → Inst → Bool) (count : CountedInstruction → ℕ) (rows : List CountedInstruction) (number : K → ℕ) where
  -- of one row more
  pub list_more : (i : ℕ) (row : CountedInstruction) (old new : List T) → i < length rows → row ≡ get_or rows i row → ((key : K) (sum : ℕ) → count_by (is key) old ≡ one_if (nat_lt 0 (capped sum)) → count_by (is key) new ≡ one_if (nat_lt 0 (capped (sum + counted_if (test key) count row)))) → ((key : K) → All (λ t. is key t ≡ true → of t ≡ number key) old → All (λ t. is key t ≡ true → of t ≡ number key) new) → IsListSoFar is of (λ key. capped (sum_of (test key) count (take i rows))) number old → IsListSoFar is of (λ key. capped (sum_of (test key) count (take (i + 1) rows))) number new
  list_more i row old new below here once counted h =
      record {
        once = λ key.
            let next : sum_of (test key) count (take (i + 1) rows) ≡ sum_of (test key) count (take i rows) + counted_if (test key) count row = sum_next (test key) count rows i row below ∙ ap (λ (r : CountedInstruction). sum_of (test key) count (take i rows) + counted_if (test key) count r) (sym here) in
            once key (sum_of (test key) count (take i rows)) (h.once key) ∙ ap (λ (n : ℕ). one_if (nat_lt 0 (capped n))) (sym next);
        counted = λ key. counted key (h.counted key);
      }

  -- of all rows
  pub list_whole : (i : ℕ) (list : List T) → length rows ≤ i → IsListSoFar is of (λ key. capped (sum_of (test key) count (take i rows))) number list → ((key : K) → capped (sum_of (test key) count rows) ≡ number key) → IsListOf is of number list
  list_whole i list all h whole =
      record {
        once = λ key. h.once key ∙ ap (λ (n : ℕ). one_if (nat_lt 0 n)) (ap (λ (l : List CountedInstruction). capped (sum_of (test key) count l)) (take_all i rows all) ∙ whole key);
        counted = h.counted;
      }

-- ---- the rows of an address, among those in the order of addresses

no_sum : (f : CountedInstruction → ℕ) (xs : List CountedInstruction) → ((k : ℕ) (d : CountedInstruction) → k < length xs → f (get_or xs k d) ≡ 0) → sum_by f xs ≡ 0
no_sum f [] none = refl
no_sum f (x ∷ xs) none =
    omega (arith, sum_by-cons f x xs, none 0 x (omega arith), no_sum f xs (λ k d below. none (suc k) d (omega arith)))

not_at : (address pc : ℕ) (n : ℕ) → (pc ≡ address → ⊥) → if_of (pc == address) n ≡ 0
not_at address pc n apart = go (pc == address) refl
  where
    go : (b : Bool) → (pc == address) ≡ b → if_of b n ≡ 0
    go true is = absurd (apart (eqb-true pc address is))
    go false is = refl

module _ (address : ℕ) (count : CountedInstruction → ℕ) where
  abbrev at_row : CountedInstruction → ℕ
  at_row row = counted_if (at_address address) count row

  before : (n : ℕ) (rows : List CountedInstruction) → n ≤ length rows → ((k : ℕ) (d : CountedInstruction) → 0 ≤ k → k < n → nat_lt (get_or rows k d).pc address ≡ true) → sum_by at_row (take n rows) ≡ 0
  before n rows fits low = no_sum at_row (take n rows) (λ k d below. none k d (omega (arith, below, length-take-le n rows fits)))
    where
      none : (k : ℕ) (d : CountedInstruction) → k < n → at_row (get_or (take n rows) k d) ≡ 0
      none k d below =
          let pc = (get_or rows k d).pc in
          let less : pc < address = ltb-true pc address (low k d (omega arith) below) in
          ap at_row (get_or-take n rows k d below) ∙ not_at address pc (count (get_or rows k d)) (λ is. absurd (omega (arith, less, is)))

  behind : (n : ℕ) (rows : List CountedInstruction) → ((k : ℕ) (d : CountedInstruction) → n ≤ k → k < length rows → nat_le (get_or rows k d).pc address ≡ false) → sum_by at_row (drop n rows) ≡ 0
  behind n rows high = no_sum at_row (drop n rows) (λ k d below. none k d (omega (arith, below, length-drop n rows)))
    where
      none : (k : ℕ) (d : CountedInstruction) → n + k < length rows → at_row (get_or (drop n rows) k d) ≡ 0
      none k d below =
          let pc = (get_or rows (n + k) d).pc in
          let greater : address < pc = leb-false pc address (high (n + k) d (omega arith) below) in
          ap at_row (get_or-drop n rows k d) ∙ not_at address pc (count (get_or rows (n + k) d)) (λ is. absurd (omega (arith, greater, is)))

  pub between : (n m : ℕ) (rows : List CountedInstruction) → n ≤ length rows → IsPartitionPoint (λ (row : CountedInstruction). nat_lt row.pc address ≡ true) (λ (row : CountedInstruction). nat_lt row.pc address ≡ false) rows n → IsPartitionPoint (λ (row : CountedInstruction). nat_le row.pc address ≡ true) (λ (row : CountedInstruction). nat_le row.pc address ≡ false) (drop n rows) m → sum_of (at_address address) count (take m (drop n rows)) ≡ sum_of (at_address address) count rows
  between n m rows fits first last =
      omega (arith, before n rows fits first.0, behind m (drop n rows) last.1, sum_by-take-drop at_row rows n, sum_by-take-drop at_row (drop n rows) m)

pub rows_between : (address : ℕ) (count : CountedInstruction → ℕ) (all rows rest at : List CountedInstruction) (n m : ℕ) → IsNonDecreasingBy pc_of all → rows ≡ all → n ≤ length rows → (IsNonDecreasingBy pc_of rows → IsPartitionPoint (λ (row : CountedInstruction). nat_lt row.pc address ≡ true) (λ (row : CountedInstruction). nat_lt row.pc address ≡ false) rows n) → rest ≡ drop n rows → (IsNonDecreasingBy pc_of rest → IsPartitionPoint (λ (row : CountedInstruction). nat_le row.pc address ≡ true) (λ (row : CountedInstruction). nat_le row.pc address ≡ false) rest m) → at ≡ take m rest → sum_of (at_address address) count at ≡ sum_of (at_address address) count all
rows_between address count all rows rest at n m rise is fits first rest_is last at_is =
    let rows_rise : IsNonDecreasingBy pc_of rows = subst (λ (l : List CountedInstruction). IsNonDecreasingBy pc_of l) (sym is) rise in
    let rest_rise : IsNonDecreasingBy pc_of rest = subst (λ (l : List CountedInstruction). IsNonDecreasingBy pc_of l) (sym rest_is) (IsNonDecreasingBy-drop pc_of n rows rows_rise) in
    let point = subst (λ (l : List CountedInstruction). IsPartitionPoint (λ (row : CountedInstruction). nat_le row.pc address ≡ true) (λ (row : CountedInstruction). nat_le row.pc address ≡ false) l m) rest_is (last rest_rise) in
    ap (λ (l : List CountedInstruction). sum_of (at_address address) count l) (at_is ∙ ap (λ (l : List CountedInstruction). take m l) rest_is) ∙ between address count n m rows fits (first rows_rise) point ∙ ap (λ (l : List CountedInstruction). sum_of (at_address address) count l) is

-- ---- what is summed over rows is what the events are

pub executed_are : (rows : List CountedInstruction) (seen : List Event) → length seen < 2 ^ 64 → AreCounted rows seen → (test : ℕ → Inst → Bool) → executed_in rows test ≡ executions test seen
executed_are rows seen short counted test =
    omega (arith, short, counted.executed test, executions-le test seen)
