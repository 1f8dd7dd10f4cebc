-- The numbers of a head, of which the hart is made.

use Rattle.std.proofs.Common.{◌≡◌, ℕ, ◌-◌, ◌≤◌, List, [], ◌∷◌, ◌++◌, Option, length, take, drop, get_or, append-nil, sym, ap, ◌∙◌, arith}
use Rattle.std.proofs.lemmas.List.{take_at, take_all, drop_at, get_or-append_right}
use Rattle.std.specs.Prelude.{slice_index}
use Rattle.rv_isa_laws.specs.Hart.{Hart, Reservation}
use Rattle.rv_states.specs.Snapshot.{hart_by, reservation_by}

-- an array that is written in two parts
pub two_parts : (front zeros back : List ℕ) → length front ≡ 31 → length zeros ≡ 6 →
    take 31 (front ++ zeros) ++ (back ++ drop 6 (drop 31 (front ++ zeros))) ≡ front ++ back
two_parts front zeros back long six =
    let left : drop 31 (front ++ zeros) ≡ zeros = drop_at front zeros 31 long in
    let none : drop 6 (drop 31 (front ++ zeros)) ≡ [] = ap (drop 6) left ∙ ap (drop 6) (sym (append-nil zeros)) ∙ drop_at zeros [] 6 six in
    ap (λ (l : List ℕ). l ++ (back ++ drop 6 (drop 31 (front ++ zeros)))) (take_at front zeros 31 long)
    ∙ ap (λ (l : List ℕ). front ++ (back ++ l)) none ∙ ap (λ (l : List ℕ). front ++ l) (append-nil back)

abbrev pub tail_of : (pc t a w taken count : ℕ) → List ℕ
tail_of pc t a w taken count = pc ∷ t ∷ a ∷ w ∷ taken ∷ count ∷ []

abbrev pub made : List ℕ → ℕ → Option Reservation → List ℕ → Hart
made registers pc reservation input = record { registers = registers; pc = pc; reservation = reservation; input = input; console = [] }

module _ (front : List ℕ) (pc t a w taken count : ℕ) (long : length front ≡ 31) where
  at : (i : ℕ) → 31 ≤ i → slice_index (front ++ tail_of pc t a w taken count) i ≡ get_or (tail_of pc t a w taken count) (i - 31) 0
  at i low = get_or-append_right front (tail_of pc t a w taken count) 31 i 0 long low

  taken_at : slice_index (front ++ tail_of pc t a w taken count) 35 ≡ taken
  taken_at = at 35 (omega arith)

  count_at : slice_index (front ++ tail_of pc t a w taken count) 36 ≡ count
  count_at = at 36 (omega arith)

  hart_at : (registers input : List ℕ) → registers ≡ 0 ∷ front →
      hart_by (front ++ tail_of pc t a w taken count) input ≡ made registers pc (reservation_by t a w) (drop taken input)
  hart_at registers input same =
      let numbers = front ++ tail_of pc t a w taken count in
      let first : 0 ∷ take 31 numbers ≡ registers = ap (λ (l : List ℕ). 0 ∷ l) (take_at front (tail_of pc t a w taken count) 31 long) ∙ sym same in
      let there : slice_index numbers 32 ≡ t = at 32 (omega arith) in
      let address : slice_index numbers 33 ≡ a = at 33 (omega arith) in
      let width : slice_index numbers 34 ≡ w = at 34 (omega arith) in
      let reserved : reservation_by (slice_index numbers 32) (slice_index numbers 33) (slice_index numbers 34) ≡ reservation_by t a w =
      ap (λ (n : ℕ). reservation_by n (slice_index numbers 33) (slice_index numbers 34)) there
      ∙ ap (λ (n : ℕ). reservation_by t n (slice_index numbers 34)) address ∙ ap (λ (n : ℕ). reservation_by t a n) width in
      ap (λ (l : List ℕ). made l (slice_index numbers 31) (reservation_by (slice_index numbers 32) (slice_index numbers 33) (slice_index numbers 34)) (drop (slice_index numbers 35) input)) first
      ∙ ap (λ (n : ℕ). made registers n (reservation_by (slice_index numbers 32) (slice_index numbers 33) (slice_index numbers 34)) (drop (slice_index numbers 35) input)) (at 31 (omega arith))
      ∙ ap (λ (r : Option Reservation). made registers pc r (drop (slice_index numbers 35) input)) reserved
      ∙ ap (λ (n : ℕ). made registers pc (reservation_by t a w) (drop n input)) (at 35 (omega arith))

-- what a head of these numbers says
pub head_hart : (numbers front registers input : List ℕ) (pc t a w taken count : ℕ) → length front ≡ 31 → numbers ≡ front ++ tail_of pc t a w taken count → registers ≡ 0 ∷ front →
    hart_by numbers input ≡ made registers pc (reservation_by t a w) (drop taken input)
head_hart numbers front registers input pc t a w taken count long is same = ap (λ (l : List ℕ). hart_by l input) is ∙ hart_at front pc t a w taken count long registers input same

pub head_taken : (numbers front : List ℕ) (pc t a w taken count : ℕ) → length front ≡ 31 → numbers ≡ front ++ tail_of pc t a w taken count → slice_index numbers 35 ≡ taken
head_taken numbers front pc t a w taken count long is = ap (λ (l : List ℕ). slice_index l 35) is ∙ taken_at front pc t a w taken count long

pub head_count : (numbers front : List ℕ) (pc t a w taken count : ℕ) → length front ≡ 31 → numbers ≡ front ++ tail_of pc t a w taken count → slice_index numbers 36 ≡ count
head_count numbers front pc t a w taken count long is = ap (λ (l : List ℕ). slice_index l 36) is ∙ count_at front pc t a w taken count long

-- registers, of which x0 is 0
pub registers_split : (registers : List ℕ) → length registers ≡ 32 → slice_index registers 0 ≡ 0 → registers ≡ 0 ∷ take 31 (drop 1 registers)
registers_split [] count zero_first = absurd (omega arith)
registers_split (x ∷ xs) count zero_first =
    let long : length xs ≤ 31 = omega arith in
    ap (λ (y : ℕ). y ∷ xs) zero_first ∙ ap (λ (l : List ℕ). 0 ∷ l) (sym (take_all 31 xs long))
