-- The multiples at which sections of the text begin are even.

use Rattle.std.proofs.Common.{◌≡◌, ℕ, suc, ◌+◌, ◌-◌, ◌%◌, ◌≤◌, true, max, List, [], ◌∷◌, refl, sym, subst, arith}
use Rattle.std.specs.Prelude.{IsTrue, if◌then◌else◌}
use Rattle.std.specs.List.{AllByRecursion}
use Rattle.std.proofs.Math.Nat.{div-mul-le_self}
use Rattle.rv_list_laws.proofs.EachLemmas.{each_get}
use Rattle.rv_size_laws.specs.Alignment.{aligned}
use Rattle.rv_object_laws.specs.Object.{Relocation, Section, Object}
use Rattle.rv_object_laws.specs.Valid.{is_section_alignment}
use Rattle.rv_link_laws.specs.Moves.{full_padding, alignment_of, alignments_of}
use Rattle.rv_link_laws.specs.Inputs.{InputSection, goes_to_text, inputs, raised, begins_at}
use Rattle.rv_cut_laws.proofs.AlignedLemmas.{alignments, one_of}
use Rattle.rv_cut_laws.proofs.PowersLemmas.{any_power}
use Rattle.rv_unique_theorems.specs.Asked.{IsSound}
use Rattle.rv_unique_theorems.proofs.FoundLemmas.{EachOf, all_of}

abbrev pub IsEven : ℕ → Type 0
IsEven n = n % 2 ≡ 0

alignment_even : (r : Relocation) → IsEven (alignment_of r)
alignment_even r =
    one_of IsEven (full_padding r) alignments refl
    (refl, (refl, (refl, (refl, (refl, (refl, (refl, (refl, (refl, (refl, (refl, (refl, tt))))))))))))

max_even : (a b : ℕ) → IsEven a → IsEven b → IsEven (max a b)
max_even a b x y = omega (arith, x, y)

raised_even : (rs : List Relocation) (a : ℕ) → IsEven a → IsEven (raised rs a)
raised_even [] a h = h
raised_even (r ∷ rs) a h = max_even (alignment_of r) (raised rs a) (alignment_even r) (raised_even rs a h)

own_even : (n : ℕ) → is_section_alignment n ≡ true → IsEven (max 2 n)
own_even n e =
    any_power (λ m. IsEven (max 2 m)) n (0 ∷ 1 ∷ 2 ∷ 3 ∷ 4 ∷ 5 ∷ 6 ∷ 7 ∷ 8 ∷ 9 ∷ 10 ∷ 11 ∷ 12 ∷ [])
    (refl, (refl, (refl, (refl, (refl, (refl, (refl, (refl, (refl, (refl, (refl, (refl, (refl, tt)))))))))))))
    e

begins_even_at : (s : Section) → is_section_alignment s.alignment ≡ true → goes_to_text s ≡ true → IsEven (begins_at s)
begins_even_at s e text =
    raised_even (alignments_of s) (max (if goes_to_text s then 2 else 1) s.alignment) (subst (λ b. IsEven (max (if b then 2 else 1) s.alignment)) (sym text) (own_even s.alignment e))

pub aligned_near : (a n : ℕ) → aligned a n ≤ n + (a - 1)
aligned_near a n = div-mul-le_self (n + (a - 1)) a

-- each text section begins so
abbrev pub BeginsSo : InputSection → Type 0
BeginsSo i = IsEven (begins_at i.section)

begins_from : (file : ℕ) (os : List Object) → AllByRecursion IsSound os → EachOf goes_to_text BeginsSo file os
begins_from file [] h = tt
begins_from file (o ∷ os) (sound, h) = (
  λ index s at text. begins_even_at s (each_get (λ x. IsTrue (is_section_alignment x.alignment)) o.sections index s sound.alignments at) text,
  begins_from (suc file) os h,
)

pub all_begin : (os : List Object) → AllByRecursion IsSound os → AllByRecursion BeginsSo (inputs goes_to_text os)
all_begin os h = all_of goes_to_text BeginsSo 1 os (begins_from 1 os h)
