-- The least multiple of an alignment, and the least alignment above a padding.

use Rattle.std.proofs.Common.{◌≡◌, ℕ, ◌+◌, ◌-◌, ◌*◌, ◌/◌, ◌%◌, ◌<◌, ◌≤◌, Bool, true, false, List, [], ◌∷◌, Option, Some, cond, nat_lt, length, drop, slice_index_or, sym, ap, ◌∙◌, arith}
use Rattle.std.specs.Prelude.{unwrap_or}
use Rattle.std.proofs.lemmas.Nat.{div-mul-add, div-add-mod'}
use Rattle.std.proofs.Math.Nat.{mod-lt}
use Rattle.std.specs.List.{AllByRecursion, find}
use Rattle.std.proofs.lemmas.Bool.{lt-ltb, le-ltb}
use Rattle.std.proofs.lemmas.List.{drop_more}
use Rattle.rv_size_laws.specs.Alignment.{aligned}

pub some_left : (a n : ℕ) → 0 < a → 0 < n % a → a - n % a ≡ aligned a n - n
some_left a n some is =
    let parts = div-add-mod' n a in
    let less : n % a < a = mod-lt n some in
    let whole : n + (a - 1) ≡ (n / a + 1) * a + (n % a - 1) = omega arith in
    let quotient : (n + (a - 1)) / a ≡ n / a + 1 = ap (λ m. m / a) whole ∙ div-mul-add (n / a + 1) a (n % a - 1) (omega arith) in
    let same : (n + (a - 1)) / a * a ≡ (n / a + 1) * a = ap (λ q. q * a) quotient in
    omega arith

-- ---- the alignments that a padding can ask for

abbrev pub alignments : List ℕ
alignments = 2 ∷ 4 ∷ 8 ∷ 16 ∷ 32 ∷ 64 ∷ 128 ∷ 256 ∷ 512 ∷ 1024 ∷ 2048 ∷ 4096 ∷ []

pub one_of : (P : ℕ → Type 0) (full : ℕ) (xs : List ℕ) → P 4096 → AllByRecursion P xs → P (unwrap_or (find (λ a. nat_lt full a) xs) 4096)
one_of P full [] most each = most
one_of P full (a ∷ xs) most each = by (nat_lt full a) (one_of P full xs most each.1)
  where
    by : (b : Bool) → P (unwrap_or (find (λ a. nat_lt full a) xs) 4096) → P (unwrap_or (cond b (Some a) (find (λ a. nat_lt full a) xs)) 4096)
    by true more = each.0
    by false more = more

-- ---- the least alignment above a padding

pub found : (full i : ℕ) (xs : List ℕ) (o : Option ℕ) → i < length xs → find (λ a. nat_lt full a) (drop i xs) ≡ o → full < slice_index_or xs i 0 → o ≡ Some (slice_index_or xs i 0)
found full i xs o inside so_far high =
    sym so_far ∙ ap (find (λ a. nat_lt full a)) (drop_more xs i 0 inside)
    ∙ ap (λ b. cond b (Some (slice_index_or xs i 0)) (find (λ a. nat_lt full a) (drop (i + 1) xs))) (lt-ltb full (slice_index_or xs i 0) high)

pub passed : (full i : ℕ) (xs : List ℕ) (o : Option ℕ) → i < length xs → find (λ a. nat_lt full a) (drop i xs) ≡ o → slice_index_or xs i 0 ≤ full → find (λ a. nat_lt full a) (drop (i + 1) xs) ≡ o
passed full i xs o inside so_far low =
    sym (ap (find (λ a. nat_lt full a)) (drop_more xs i 0 inside)
    ∙ ap (λ b. cond b (Some (slice_index_or xs i 0)) (find (λ a. nat_lt full a) (drop (i + 1) xs))) (le-ltb full (slice_index_or xs i 0) low))
    ∙ so_far
