-- Paddings of a section that begins at a multiple of each of its alignments: they are the same wherever it stands.

use Rattle.std.proofs.Common.{◌≡◌, ℕ, ◌+◌, ◌-◌, ◌*◌, ◌/◌, ◌%◌, ◌^◌, ◌<◌, ◌≤◌, Bool, true, false, nat_le, max, List, [], ◌∷◌, refl, sym, ap, subst, ◌∙◌, arith}
use Rattle.std.specs.Prelude.{if◌then◌else◌}
use Rattle.std.specs.List.{AllByRecursion}
use Rattle.std.proofs.Math.Nat.{mul_assoc, mul-mod_left}
use Rattle.std.proofs.lemmas.Bool.{leb-true, leb-false}
use Rattle.std.proofs.lemmas.Nat.{div-add-mod', pow-add, pow_below}
use Rattle.rv_size_laws.specs.Alignment.{aligned}
use Rattle.rv_object_laws.specs.Object.{Relocation, Section}
use Rattle.rv_object_laws.specs.Padding.{no_operations}
use Rattle.rv_object_laws.specs.Valid.{is_section_alignment}
use Rattle.rv_link_laws.specs.Moves.{full_padding, alignment_of, alignments_of, moves, plan}
use Rattle.rv_link_laws.specs.Inputs.{goes_to_text, raised, begins_at}
use Rattle.rv_cut_laws.proofs.PowersLemmas.{any_power}
pub use Rattle.rv_cut_laws.proofs.AlignedLemmas.{one_of}

-- ---- powers of two

abbrev IsPower : ℕ → Type 0
IsPower a = (k : ℕ) × (a ≡ 2 ^ k)

asked_power : (r : Relocation) → IsPower (alignment_of r)
asked_power r =
    one_of IsPower (full_padding r) (2 ∷ 4 ∷ 8 ∷ 16 ∷ 32 ∷ 64 ∷ 128 ∷ 256 ∷ 512 ∷ 1024 ∷ 2048 ∷ 4096 ∷ []) (12, refl)
    ((1, refl), ((2, refl), ((3, refl), ((4, refl), ((5, refl), ((6, refl), ((7, refl), ((8, refl), ((9, refl), ((10, refl), ((11, refl), ((12, refl), tt))))))))))))

own_power : (a : ℕ) → is_section_alignment a ≡ true → IsPower a
own_power a e =
    any_power IsPower a (0 ∷ 1 ∷ 2 ∷ 3 ∷ 4 ∷ 5 ∷ 6 ∷ 7 ∷ 8 ∷ 9 ∷ 10 ∷ 11 ∷ 12 ∷ [])
    ((0, refl), ((1, refl), ((2, refl), ((3, refl), ((4, refl), ((5, refl), ((6, refl), ((7, refl), ((8, refl), ((9, refl), ((10, refl), ((11, refl), ((12, refl), tt)))))))))))))
    e

one_power : (b : Bool) → IsPower (if b then 2 else 1)
one_power true = (1, refl)
one_power false = (0, refl)

-- a multiple of a power of two is one of each smaller
finer : (a b n : ℕ) → IsPower a → IsPower b → a ≤ b → n % b ≡ 0 → n % a ≡ 0
finer a b n (i, is) (j, was) small whole = by (nat_le i j) refl
  where
    by : (c : Bool) → nat_le i j ≡ c → n % a ≡ 0
    by true e =
        let le = leb-true i j e in
        let sum : j ≡ (j - i) + i = omega (arith, le) in
        let split : b ≡ 2 ^ (j - i) * a = was ∙ ap (λ k. 2 ^ k) sum ∙ pow-add 2 (j - i) i ∙ ap (λ x. 2 ^ (j - i) * x) (sym is) in
        let parts = div-add-mod' n b in
        let times : n ≡ n / b * b = omega (arith, parts, whole) in
        ap (λ x. x % a) (times ∙ ap (λ x. n / b * x) split ∙ sym (mul_assoc (n / b) (2 ^ (j - i)) a)) ∙ mul-mod_left (n / b * 2 ^ (j - i)) a
    by false e =
        let high : 2 ^ j < 2 ^ i = pow_below j i (leb-false i j e) in
        absurd (omega (arith, high, is, was, small))

either : (a b : ℕ) → IsPower a → IsPower b → IsPower (max a b) × ((n : ℕ) → n % max a b ≡ 0 → (n % a ≡ 0) × (n % b ≡ 0))
either a b h k = by (nat_le a b) refl
  where
    by : (c : Bool) → nat_le a b ≡ c → IsPower (max a b) × ((n : ℕ) → n % max a b ≡ 0 → (n % a ≡ 0) × (n % b ≡ 0))
    by true e =
        let le = leb-true a b e in
        let is : b ≡ max a b = omega (arith, le) in
        (subst IsPower is k, λ n whole. let own : n % b ≡ 0 = ap (λ m. n % m) is ∙ whole in (finer a b n h k le own, own))
    by false e =
        let lt = leb-false a b e in
        let le : b ≤ a = omega (arith, lt) in
        let is : a ≡ max a b = omega (arith, lt) in
        (subst IsPower is h, λ n whole. let own : n % a ≡ 0 = ap (λ m. n % m) is ∙ whole in (own, finer b a n k h le own))

-- ---- alignments of a section

raised_power : (rs : List Relocation) (a : ℕ) → IsPower a → IsPower (raised rs a)
raised_power [] a h = h
raised_power (r ∷ rs) a h = (either (alignment_of r) (raised rs a) (asked_power r) (raised_power rs a h)).0

all_multiples : (n : ℕ) (rs : List Relocation) (a : ℕ) → IsPower a → n % raised rs a ≡ 0 → AllByRecursion (λ r. n % alignment_of r ≡ 0) rs
all_multiples n [] a h whole = tt
all_multiples n (r ∷ rs) a h whole =
    let both = (either (alignment_of r) (raised rs a) (asked_power r) (raised_power rs a h)).1 n whole in
    (both.0, all_multiples n rs a h both.1)

-- a padding is the same at a multiple of its alignment as at 0
abbrev IsStill : ℕ → Type 0
IsStill a = (n d : ℕ) → n % a ≡ 0 → aligned a (n + d) - (n + d) ≡ aligned a d - d

asked_still : (r : Relocation) → IsStill (alignment_of r)
asked_still r =
    one_of IsStill (full_padding r) (2 ∷ 4 ∷ 8 ∷ 16 ∷ 32 ∷ 64 ∷ 128 ∷ 256 ∷ 512 ∷ 1024 ∷ 2048 ∷ 4096 ∷ []) (λ n d e. omega (arith, e))
    (λ n d e. omega (arith, e), (λ n d e. omega (arith, e), (λ n d e. omega (arith, e), (λ n d e. omega (arith, e), (λ n d e. omega (arith, e), (λ n d e. omega (arith, e), (λ n d e. omega (arith, e), (λ n d e. omega (arith, e), (λ n d e. omega (arith, e), (λ n d e. omega (arith, e), (λ n d e. omega (arith, e), (λ n d e. omega (arith, e), tt))))))))))))

plan_still : (n gone : ℕ) (rs : List Relocation) → AllByRecursion (λ r. n % alignment_of r ≡ 0) rs → plan n gone rs ≡ plan 0 gone rs
plan_still n gone [] h = refl
plan_still n gone (r ∷ rs) (one, h) =
    let d = r.place - gone in
    let none : d ≡ 0 + d = omega arith in
    let least : aligned (alignment_of r) (n + d) - (n + d) ≡ aligned (alignment_of r) (0 + d) - (0 + d) = asked_still r n d one ∙ ap (λ x. aligned (alignment_of r) x - x) none in
    ap (λ k. record { place = r.place; full = full_padding r; text = no_operations k } ∷ plan n (gone + (full_padding r - k)) rs) least
    ∙ ap (λ ms. record { place = r.place; full = full_padding r; text = no_operations (aligned (alignment_of r) (0 + (r.place - gone)) - (0 + (r.place - gone))) } ∷ ms)
    (plan_still n (gone + (full_padding r - (aligned (alignment_of r) (0 + (r.place - gone)) - (0 + (r.place - gone))))) rs h)

pub moves_still : (start stop : ℕ) (s : Section) → is_section_alignment s.alignment ≡ true → start ≡ aligned (begins_at s) stop → moves start s ≡ moves 0 s
moves_still start stop s e is =
    let own = (either (if goes_to_text s then 2 else 1) s.alignment (one_power (goes_to_text s)) (own_power s.alignment e)).0 in
    let whole : start % begins_at s ≡ 0 = ap (λ n. n % begins_at s) is ∙ mul-mod_left ((stop + (begins_at s - 1)) / begins_at s) (begins_at s) in
    plan_still start 0 (alignments_of s) (all_multiples start (alignments_of s) (max (if goes_to_text s then 2 else 1) s.alignment) own whole)
