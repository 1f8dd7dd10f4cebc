-- The positions of bytes that pass a test: they rise, and a search by halves finds the first from an
-- offset on.

use Rattle.std.proofs.Common.{◌≡◌, inl, inr, ℕ, zero, suc, ◌+◌, ◌-◌, ◌<◌, ◌≤◌, Bool, true, false, cond, nat_le, List, [], ◌∷◌, ◌++◌, length, slice_index_or, Option, None, Some, refl, ap, sym, ◌∙◌, subst, true≢false, arith}
use Rattle.std.specs.Prelude.{MatchOption, slice_index}
use Rattle.std.specs.List.{find, slice_get, AllWithin}
use Rattle.std.specs.List.Sorted.{IsNonDecreasing}
use Rattle.std.proofs.lemmas.Bool.{le-leb, leb-true, leb-false, lt-leb, cases_eq}
use Rattle.memchr.specs.Find.{IsFirst, Passes, places, places_from}

-- ---- one more byte

pub next_one : (test : ℕ → Bool) (bytes : List ℕ) (i n : ℕ) → places_from test bytes i (suc n) ≡ cond (test (slice_index bytes i)) (i ∷ places_from test bytes (i + 1) n) (places_from test bytes (i + 1) n)
unfolding places_from
next_one test bytes i n = refl

none_left : (test : ℕ → Bool) (bytes : List ℕ) (i : ℕ) → places_from test bytes i 0 ≡ []
unfolding places_from
none_left test bytes i = refl

pub all_found : (test : ℕ → Bool) (bytes : List ℕ) (found : List ℕ) (i : ℕ) → length bytes ≤ i → found ++ places_from test bytes i (length bytes - i) ≡ places test bytes → found ++ [] ≡ places test bytes
all_found test bytes found i past so =
    let over : length bytes - i ≡ 0 = omega (arith, past) in
    ap (λ more. found ++ more) (sym (ap (places_from test bytes i) over ∙ none_left test bytes i)) ∙ so

one_less : (n i : ℕ) → i < n → n - i ≡ suc (n - (i + 1))
one_less n i less = omega (arith, less)

pub next_passes : (test : ℕ → Bool) (bytes : List ℕ) (i : ℕ) → i < length bytes → test (slice_index bytes i) ≡ true → places_from test bytes i (length bytes - i) ≡ i ∷ places_from test bytes (i + 1) (length bytes - (i + 1))
next_passes test bytes i less passes =
    let rest = places_from test bytes (i + 1) (length bytes - (i + 1)) in
    ap (places_from test bytes i) (one_less (length bytes) i less) ∙ next_one test bytes i (length bytes - (i + 1)) ∙ ap (λ b. cond b (i ∷ rest) rest) passes

pub next_fails : (test : ℕ → Bool) (bytes : List ℕ) (i : ℕ) → i < length bytes → test (slice_index bytes i) ≡ false → places_from test bytes i (length bytes - i) ≡ places_from test bytes (i + 1) (length bytes - (i + 1))
next_fails test bytes i less fails =
    let rest = places_from test bytes (i + 1) (length bytes - (i + 1)) in
    ap (places_from test bytes i) (one_less (length bytes) i less) ∙ next_one test bytes i (length bytes - (i + 1)) ∙ ap (λ b. cond b (i ∷ rest) rest) fails

-- ---- they rise

least_by : (i : ℕ) (rest : List ℕ) (b : Bool) (k d : ℕ) → ((j : ℕ) → j < length rest → i + 1 ≤ slice_index_or rest j d) → k < length (cond b (i ∷ rest) rest) → i ≤ slice_index_or (cond b (i ∷ rest) rest) k d
least_by i rest true zero d later within = omega arith
least_by i rest true (suc k) d later within = omega (arith, later k (omega (arith, within)))
least_by i rest false k d later within = omega (arith, later k within)

least : (test : ℕ → Bool) (bytes : List ℕ) (i n k d : ℕ) → k < length (places_from test bytes i n) → i ≤ slice_index_or (places_from test bytes i n) k d
least test bytes i zero k d inside = absurd (omega (arith, inside, ap length (none_left test bytes i)))
least test bytes i (suc n) k d inside =
    let one = next_one test bytes i n in
    subst (λ xs. i ≤ slice_index_or xs k d) (sym one)
    (least_by i (places_from test bytes (i + 1) n) (test (slice_index bytes i)) k d (λ j within. least test bytes (i + 1) n j d within) (subst (λ xs. k < length xs) one inside))

front : (i : ℕ) (rest : List ℕ) → ((j d : ℕ) → j < length rest → i + 1 ≤ slice_index_or rest j d) → IsNonDecreasing rest → (a b d : ℕ) → a ≤ b → b < length (i ∷ rest) → slice_index_or (i ∷ rest) a d ≤ slice_index_or (i ∷ rest) b d
front i rest low rise zero zero d le inside = omega arith
front i rest low rise zero (suc b) d le inside = omega (arith, low b d (omega (arith, inside)))
front i rest low rise (suc a) zero d le inside = absurd (omega (arith, le))
front i rest low rise (suc a) (suc b) d le inside = rise a b d (omega (arith, le)) (omega (arith, inside))

rising_by : (i : ℕ) (rest : List ℕ) (b : Bool) → ((j d : ℕ) → j < length rest → i + 1 ≤ slice_index_or rest j d) → IsNonDecreasing rest → IsNonDecreasing (cond b (i ∷ rest) rest)
rising_by i rest true low rise = front i rest low rise
rising_by i rest false low rise = rise

rising : (test : ℕ → Bool) (bytes : List ℕ) (i n : ℕ) → IsNonDecreasing (places_from test bytes i n)
rising test bytes i zero = subst IsNonDecreasing (sym (none_left test bytes i)) (λ a b d le inside. absurd (omega (arith, inside)))
rising test bytes i (suc n) =
    subst IsNonDecreasing (sym (next_one test bytes i n))
    (rising_by i (places_from test bytes (i + 1) n) (test (slice_index bytes i)) (λ j d within. least test bytes (i + 1) n j d within) (rising test bytes (i + 1) n))

pub positions_rise : (test : ℕ → Bool) (bytes : List ℕ) → IsNonDecreasing (places test bytes)
positions_rise test bytes = rising test bytes 0 (length bytes - 0)

-- ---- where a search by halves ends is the first from the offset on

at_point : (o : ℕ) (xs : List ℕ) (k : ℕ) → AllWithin (λ x. x < o) xs 0 k → AllWithin (λ x. o ≤ x) xs k (length xs) → slice_get xs k ≡ find (nat_le o) xs
at_point o [] k low high = refl
at_point o (x ∷ xs) zero low high = sym (ap (λ t. cond t (Some x) (find (nat_le o) xs)) (le-leb o x (high zero x (omega arith) (omega arith))))
at_point o (x ∷ xs) (suc k) low high =
    at_point o xs k (λ j d l r. low (suc j) d (omega arith) (omega (arith, r))) (λ j d l r. high (suc j) d (omega (arith, l)) (omega (arith, r)))
    ∙ sym (ap (λ t. cond t (Some x) (find (nat_le o) xs)) (lt-leb o x (low zero x (omega arith) (omega arith))))

-- of the bytes from i up to end, the first from o on
pub record IsHit (test : ℕ → Bool) (bytes : List ℕ) (o i end p : ℕ) : Type 0 where
  pub from : o ≤ p
  pub begins : i ≤ p
  pub ends : p < end
  pub before : (k : ℕ) → o ≤ k → i ≤ k → k < p → Passes test bytes k → ⊥
  pub hit : Passes test bytes p

abbrev Found : (ℕ → Bool) → List ℕ → ℕ → ℕ → ℕ → Option ℕ → Type 0
Found test bytes o i end r = MatchOption r ((k : ℕ) → o ≤ k → i ≤ k → k < end → Passes test bytes k → ⊥) (λ p. IsHit test bytes o i end p)

-- a byte before them that is not asked for
not_here : (test : ℕ → Bool) (bytes : List ℕ) (o i end : ℕ) (r : Option ℕ) → (o ≤ i → Passes test bytes i → ⊥) → Found test bytes o (i + 1) (i + 1 + end) r → Found test bytes o i (i + suc end) r
not_here test bytes o i end None other none = λ k from at less pass.
    elim (cases_eq k i) [
      | inl same ↦ other (omega (arith, from, same)) (subst (Passes test bytes) same pass)
      | inr apart ↦ none k from (omega (arith, at, apart)) (omega (arith, less)) pass
    ]
not_here test bytes o i end (Some p) other some = record {
  from = some.from;
  begins = omega (arith, some.begins);
  ends = omega (arith, some.ends);
  before = λ k from at less pass.
      elim (cases_eq k i) [
        | inl same ↦ other (omega (arith, from, same)) (subst (Passes test bytes) same pass)
        | inr apart ↦ some.before k from (omega (arith, at, apart)) less pass
      ];
  hit = some.hit;
}

first_by : (test : ℕ → Bool) (bytes : List ℕ) (o i n : ℕ) (rest : List ℕ) (b c : Bool) → test (slice_index bytes i) ≡ b → nat_le o i ≡ c → ((o ≤ i → Passes test bytes i → ⊥) → Found test bytes o i (i + suc n) (find (nat_le o) rest))
    → Found test bytes o i (i + suc n) (find (nat_le o) (cond b (i ∷ rest) rest))
first_by test bytes o i n rest true true passes is later =
    subst (λ t. Found test bytes o i (i + suc n) (cond t (Some i) (find (nat_le o) rest))) (sym is) (record {
      from = leb-true o i is;
      begins = omega arith;
      ends = omega arith;
      before = λ k from at less pass. absurd (omega (arith, at, less));
      hit = passes;
    })
first_by test bytes o i n rest true false passes is later =
    subst (λ t. Found test bytes o i (i + suc n) (cond t (Some i) (find (nat_le o) rest))) (sym is)
    (later (λ from pass. absurd (omega (arith, from, leb-false o i is))))
first_by test bytes o i n rest false c fails is later = later (λ from pass. absurd (true≢false (sym pass ∙ fails)))

first_in : (test : ℕ → Bool) (bytes : List ℕ) (o i n : ℕ) → Found test bytes o i (i + n) (find (nat_le o) (places_from test bytes i n))
first_in test bytes o i zero =
    subst (λ xs. Found test bytes o i (i + 0) (find (nat_le o) xs)) (sym (none_left test bytes i)) (λ k from at less pass. absurd (omega (arith, at, less)))
first_in test bytes o i (suc n) =
    let rest = places_from test bytes (i + 1) n in
    subst (λ xs. Found test bytes o i (i + suc n) (find (nat_le o) xs)) (sym (next_one test bytes i n))
    (first_by test bytes o i n rest (test (slice_index bytes i)) (nat_le o i) refl refl (λ other. not_here test bytes o i n (find (nat_le o) rest) other (first_in test bytes o (i + 1) n)))

as_first : (test : ℕ → Bool) (bytes : List ℕ) (o end : ℕ) (r : Option ℕ) → Found test bytes o 0 end r → IsFirst (Passes test bytes) o end r
as_first test bytes o end None none = λ k from less. none k from (omega arith) less
as_first test bytes o end (Some p) some = (
  record {
    low = some.from;
    high = some.ends;
    before = λ k from less. some.before k from (omega arith) less;
  },
  some.hit,
)

first_of_all : (test : ℕ → Bool) (bytes : List ℕ) (o : ℕ) → Found test bytes o 0 (length bytes) (find (nat_le o) (places test bytes))
first_of_all test bytes o =
    let all : 0 + (length bytes - 0) ≡ length bytes = omega arith in
    subst (λ e. Found test bytes o 0 e (find (nat_le o) (places test bytes))) all (first_in test bytes o 0 (length bytes - 0))

pub first_is : (test : ℕ → Bool) (bytes xs : List ℕ) (o k : ℕ) (r : Option ℕ) → xs ≡ places test bytes → r ≡ slice_get xs k → AllWithin (λ x. x < o) xs 0 k → AllWithin (λ x. o ≤ x) xs k (length xs) → IsFirst (Passes test bytes) o (length bytes) r
first_is test bytes xs o k r are is low high =
    subst (IsFirst (Passes test bytes) o (length bytes)) (sym (is ∙ at_point o xs k low high ∙ ap (find (nat_le o)) are))
    (as_first test bytes o (length bytes) (find (nat_le o) (places test bytes)) (first_of_all test bytes o))
