-- Sums of numbers by 64: how they come about, what they tell, and how they change.

use Rattle.std.proofs.Common.{◌≡◌, inl, inr, ℕ, zero, suc, ◌+◌, ◌*◌, ◌/◌, ◌≤◌, ◌<◌, List, [], ◌∷◌, ◌++◌, length, set, take, get_or, slice_index, sum, refl, ap, sym, subst, ◌∙◌, arith}
use Rattle.std.proofs.lemmas.Bool.{cases_lt}
use Rattle.std.proofs.lemmas.List.{take_all, take-append-le, take-set-le, length-set, length-append}
use Rattle.std.proofs.lemmas.List.Sums.{sum_by-cons, sum_by_push, get_or-le-sum_by}
use Rattle.rv_size_laws.specs.Offsets.{offset}
use Rattle.rv_size_laws.proofs.TablesLemmas.{offset_most}
use Rattle.rv_call_sizes.specs.Sums.{AreSums, AreTripleSums}

pub offset_past : (numbers : List ℕ) (n : ℕ) → length numbers ≤ n → offset numbers n ≡ sum numbers
offset_past numbers n past = ap sum (take_all n numbers past)

-- ---- how they come about

-- those of the first blocks
pub record AreFirst (numbers sums : List ℕ) (blocks : ℕ) : Type 0 where
  pub count : length sums ≡ blocks
  pub same : (b : ℕ) → b ≤ blocks → offset sums b ≡ offset numbers (64 * b)

offset_pushed : (sums : List ℕ) (x : ℕ) → sum (sums ++ x ∷ []) ≡ sum sums + x
offset_pushed sums x = sum_by_push (λ y. y) sums x

-- a sum more, which tells what lies between two places
pub pushed : (numbers sums : List ℕ) (blocks end x : ℕ) → AreFirst numbers sums blocks → offset numbers end ≡ offset numbers (64 * blocks) + x
    → (b : ℕ) → blocks < b → offset (sums ++ x ∷ []) b ≡ offset numbers end
pushed numbers sums blocks end x first next b past =
    let count : length sums ≡ blocks = first.count in
    let all : length (sums ++ x ∷ []) ≡ length sums + 1 = length-append sums (x ∷ []) in
    let whole : offset (sums ++ x ∷ []) b ≡ sum (sums ++ x ∷ []) = offset_past (sums ++ x ∷ []) b (omega arith) in
    let more : sum (sums ++ x ∷ []) ≡ sum sums + x = offset_pushed sums x in
    let before : offset sums blocks ≡ sum sums = offset_past sums blocks (omega arith) in
    let here : offset sums blocks ≡ offset numbers (64 * blocks) = first.same blocks (omega arith) in
    omega arith

pub before_pushed : (numbers sums : List ℕ) (blocks x b : ℕ) → AreFirst numbers sums blocks → b ≤ blocks → offset (sums ++ x ∷ []) b ≡ offset numbers (64 * b)
before_pushed numbers sums blocks x b first le =
    let count : length sums ≡ blocks = first.count in
    ap sum (take-append-le b sums (x ∷ []) (omega arith)) ∙ first.same b le

pub no_sums : (numbers : List ℕ) → AreFirst numbers [] 0
no_sums numbers = record {
  count = refl;
  same = λ b le. let none : b ≡ 0 = omega arith in ap (λ n. offset [] n) none ∙ sym (ap (λ n. offset numbers (64 * n)) none);
}

pub one_more : (numbers sums : List ℕ) (blocks x : ℕ) → AreFirst numbers sums blocks → offset numbers (64 * (blocks + 1)) ≡ offset numbers (64 * blocks) + x
    → AreFirst numbers (sums ++ x ∷ []) (blocks + 1)
one_more numbers sums blocks x first next = record {
  count = let count : length sums ≡ blocks = first.count in let all : length (sums ++ x ∷ []) ≡ length sums + 1 = length-append sums (x ∷ []) in omega arith;
  same = λ b le. elim (cases_lt blocks b) [
    | inl past ↦ let end : b ≡ blocks + 1 = omega arith in pushed numbers sums blocks (64 * (blocks + 1)) x first next b past ∙ sym (ap (λ n. offset numbers (64 * n)) end)
    | inr before ↦ before_pushed numbers sums blocks x b first before
  ];
}

-- the last one has what is left
pub last_sum : (numbers sums : List ℕ) (blocks x : ℕ) → AreFirst numbers sums blocks → blocks ≡ length numbers / 64 → offset numbers (length numbers) ≡ offset numbers (64 * blocks) + x
    → AreSums numbers (sums ++ x ∷ [])
last_sum numbers sums blocks x first is next =
    let count : length sums ≡ blocks = first.count in
    let all : length (sums ++ x ∷ []) ≡ length sums + 1 = length-append sums (x ∷ []) in
    let enough : length numbers < 64 * (blocks + 1) = omega arith in
    record {
      same = λ b. elim (cases_lt blocks b) [
        | inl past ↦ pushed numbers sums blocks (length numbers) x first next b past ∙ (offset_past numbers (length numbers) (omega arith) ∙ sym (offset_past numbers (64 * b) (omega arith)))
        | inr before ↦ before_pushed numbers sums blocks x b first before
      ];
      enough = omega arith;
    }

-- ---- how large they are

pub sums_most : (numbers sums : List ℕ) (most : ℕ) → AreSums numbers sums → sum numbers ≤ most → sum sums ≤ most
sums_most numbers sums most are low =
    let whole : offset sums (length sums) ≡ sum sums = offset_past sums (length sums) (omega arith) in
    let same : offset sums (length sums) ≡ offset numbers (64 * length sums) = are.same (length sums) in
    let most_of : offset numbers (64 * length sums) ≤ sum numbers = offset_most numbers (64 * length sums) in
    omega arith

-- ---- how they change

pub later_set : (xs : List ℕ) (i v n : ℕ) → i < n → i < length xs → offset (set xs i v) n + slice_index xs i ≡ offset xs n + v
later_set [] i v n lt within = absurd (omega arith)
later_set (x ∷ xs) i v zero lt within = absurd (omega arith)
later_set (x ∷ xs) zero v (suc n) lt within =
    let new : sum (v ∷ take n xs) ≡ v + sum (take n xs) = sum_by-cons (λ y. y) v (take n xs) in
    let old : sum (x ∷ take n xs) ≡ x + sum (take n xs) = sum_by-cons (λ y. y) x (take n xs) in
    omega arith
later_set (x ∷ xs) (suc i) v (suc n) lt within =
    let others : offset (set xs i v) n + slice_index xs i ≡ offset xs n + v = later_set xs i v n (omega arith) (omega arith) in
    let new : sum (x ∷ take n (set xs i v)) ≡ x + sum (take n (set xs i v)) = sum_by-cons (λ y. y) x (take n (set xs i v)) in
    let old : sum (x ∷ take n xs) ≡ x + sum (take n xs) = sum_by-cons (λ y. y) x (take n xs) in
    omega arith

pub more_at : (numbers sums : List ℕ) (i block more : ℕ) → AreSums numbers sums → i < length numbers → block ≡ i / 64
    → AreSums (set numbers i (slice_index numbers i + more)) (set sums block (slice_index sums block + more))
more_at numbers sums i block more are within is =
    let enough : length numbers < 64 * length sums = are.enough in
    let inside : block < length sums = omega arith in
    record {
      same = λ b. elim (cases_lt block b) [
        | inl past ↦
            let one : offset (set sums block (slice_index sums block + more)) b + slice_index sums block ≡ offset sums b + (slice_index sums block + more) = later_set sums block (slice_index sums block + more) b past inside in
            let many : offset (set numbers i (slice_index numbers i + more)) (64 * b) + slice_index numbers i ≡ offset numbers (64 * b) + (slice_index numbers i + more) = later_set numbers i (slice_index numbers i + more) (64 * b) (omega arith) within in
            let same : offset sums b ≡ offset numbers (64 * b) = are.same b in
            omega arith
        | inr before ↦
            ap sum (take-set-le b sums block (slice_index sums block + more) before) ∙ (are.same b ∙ sym (ap sum (take-set-le (64 * b) numbers i (slice_index numbers i + more) (omega arith))))
      ];
      enough =
          let new : length (set sums block (slice_index sums block + more)) ≡ length sums = length-set sums block (slice_index sums block + more) in
          let old : length (set numbers i (slice_index numbers i + more)) ≡ length numbers = length-set numbers i (slice_index numbers i + more) in
          omega arith;
    }

-- ---- three of them

-- what stands before a number, by what each list adds
pub before_by : (numbers ones twos threes : List ℕ) (i one two three of_numbers of_ones of_twos of_threes : ℕ) → AreTripleSums numbers ones twos threes
    → offset numbers i ≡ offset numbers (64 * one) + of_numbers → offset ones one ≡ offset ones (64 * two) + of_ones → offset twos two ≡ offset twos (64 * three) + of_twos
    → offset threes three ≡ offset threes 0 + of_threes → of_numbers + (of_ones + (of_twos + of_threes)) ≡ offset numbers i
before_by numbers ones twos threes i one two three of_numbers of_ones of_twos of_threes are a b c d =
    let x : offset ones one ≡ offset numbers (64 * one) = are.ones_are.same one in
    let y : offset twos two ≡ offset ones (64 * two) = are.twos_are.same two in
    let z : offset threes three ≡ offset twos (64 * three) = are.threes_are.same three in
    let none : offset threes 0 ≡ 0 = refl in
    omega arith

pub triple_most : (numbers ones twos threes : List ℕ) (most : ℕ) → AreTripleSums numbers ones twos threes → sum numbers ≤ most → (sum ones ≤ most) × ((sum twos ≤ most) × (sum threes ≤ most))
triple_most numbers ones twos threes most are low =
    let a = sums_most numbers ones most are.ones_are low in
    let b = sums_most ones twos most are.twos_are a in
    (a, (b, sums_most twos threes most are.threes_are b))

pub one_at_most : (sums : List ℕ) (i most : ℕ) → i < length sums → sum sums ≤ most → slice_index sums i ≤ most
one_at_most sums i most within low =
    let own : slice_index sums i ≤ sum sums = get_or-le-sum_by (λ y. y) sums i 0 within in
    omega arith

pub triple_set : (numbers ones twos threes : List ℕ) (i one two three more : ℕ) → AreTripleSums numbers ones twos threes → i < length numbers → one ≡ i / 64 → two ≡ one / 64 → three ≡ two / 64
    → AreTripleSums (set numbers i (slice_index numbers i + more)) (set ones one (slice_index ones one + more)) (set twos two (slice_index twos two + more)) (set threes three (slice_index threes three + more))
triple_set numbers ones twos threes i one two three more are within a b c =
    let enough : length numbers < 64 * length ones = are.ones_are.enough in
    let enough2 : length ones < 64 * length twos = are.twos_are.enough in
    record {
      ones_are = more_at numbers ones i one more are.ones_are within a;
      twos_are = more_at ones twos one two more are.twos_are (omega arith) b;
      threes_are = more_at twos threes two three more are.threes_are (omega arith) c;
    }

pub parts_low : (numbers ones twos threes : List ℕ) (i one two three of_numbers of_ones of_twos of_threes most : ℕ) → AreTripleSums numbers ones twos threes → sum numbers ≤ most
    → offset numbers i ≡ offset numbers (64 * one) + of_numbers → offset ones one ≡ offset ones (64 * two) + of_ones → offset twos two ≡ offset twos (64 * three) + of_twos
    → offset threes three ≡ offset threes 0 + of_threes → of_numbers + (of_ones + (of_twos + of_threes)) ≤ most
parts_low numbers ones twos threes i one two three of_numbers of_ones of_twos of_threes most are low a b c d =
    let whole : of_numbers + (of_ones + (of_twos + of_threes)) ≡ offset numbers i = before_by numbers ones twos threes i one two three of_numbers of_ones of_twos of_threes are a b c d in
    let all : offset numbers i ≤ sum numbers = offset_most numbers i in
    omega arith

-- a place within a list has its sums within theirs
pub triple_within : (numbers ones twos threes : List ℕ) (i : ℕ) → AreTripleSums numbers ones twos threes → i ≤ length numbers → (i / 64 < length ones) × ((i / 64 / 64 < length twos) × (i / 64 / 64 / 64 < length threes))
triple_within numbers ones twos threes i are within =
    let enough : length numbers < 64 * length ones = are.ones_are.enough in
    let enough2 : length ones < 64 * length twos = are.twos_are.enough in
    let enough3 : length twos < 64 * length threes = are.threes_are.enough in
    let one : i / 64 < length ones = omega arith in
    let two : i / 64 / 64 < length twos = omega arith in
    let three : i / 64 / 64 / 64 < length threes = omega arith in
    (one, (two, three))

pub read_any : (xs : List ℕ) (i d : ℕ) → i < length xs → get_or xs i d ≡ slice_index xs i
read_any [] i d within = absurd (omega arith)
read_any (x ∷ xs) zero d within = refl
read_any (x ∷ xs) (suc i) d within = read_any xs i d (omega arith)

pub triple_set_to : (numbers ones twos threes : List ℕ) (i more x y z : ℕ) → AreTripleSums numbers ones twos threes → i < length numbers → x ≡ slice_index ones (i / 64) + more
    → y ≡ slice_index twos (i / 64 / 64) + more → z ≡ slice_index threes (i / 64 / 64 / 64) + more
    → AreTripleSums (set numbers i (slice_index numbers i + more)) (set ones (i / 64) x) (set twos (i / 64 / 64) y) (set threes (i / 64 / 64 / 64) z)
triple_set_to numbers ones twos threes i more x y z are within a b c =
    subst (λ v. AreTripleSums (set numbers i (slice_index numbers i + more)) (set ones (i / 64) x) (set twos (i / 64 / 64) y) (set threes (i / 64 / 64 / 64) v)) (sym c)
    (subst (λ v. AreTripleSums (set numbers i (slice_index numbers i + more)) (set ones (i / 64) x) (set twos (i / 64 / 64) v) (set threes (i / 64 / 64 / 64) (slice_index threes (i / 64 / 64 / 64) + more))) (sym b)
    (subst (λ v. AreTripleSums (set numbers i (slice_index numbers i + more)) (set ones (i / 64) v) (set twos (i / 64 / 64) (slice_index twos (i / 64 / 64) + more)) (set threes (i / 64 / 64 / 64) (slice_index threes (i / 64 / 64 / 64) + more))) (sym a)
    (triple_set numbers ones twos threes i (i / 64) (i / 64 / 64) (i / 64 / 64 / 64) more are within refl refl refl)))
