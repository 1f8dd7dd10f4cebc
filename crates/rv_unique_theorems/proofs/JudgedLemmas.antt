-- A relocation of one value is taken, or refused for one reason.

use Rattle.std.proofs.Common.{◌≡◌, ℕ, ℤ, pos, true, false, List, [], ◌∷◌, refl, sym, ap, ◌∙◌, subst, Option, Some, None, inl, inr}
use Rattle.std.specs.Prelude.{◌⊎◌, IsTrue, is_some, unwrap_or}
use Rattle.std.specs.List.{AllByRecursion}
use Rattle.rv_isa.specs.Kinds.{is_low_part}
use Rattle.rv_reloc_laws.specs.Ranges.{IsInRange, IsOdd, Takes, Refuses}
use Rattle.rv_object_laws.specs.Object.{Relocation}
use Rattle.rv_fault.specs.declared.link_fault.LinkFault.{LinkFault}
use Rattle.rv_fault.specs.declared.link_fault.LinkFault.TheVariants.{Overflow, OddTarget, DanglingPcrel, AlignmentShort, Undefined, Duplicate, EntryMissing, ImageTooLarge, BadTextStart, TooManyFiles, OutOfMemory}
use Rattle.rv_fault.specs.LinkFault.{link_fault_number}
use Rattle.rv_link_laws.specs.Refusals.{name_in, IsSameFault}
use Rattle.rv_link_laws.specs.Untaken.{IsFirst}

-- ---- the first of a list

-- what passes here, and what fails there, cannot both be first
module _ {X : Type 0} (R : Type 0) (E P P' F' : X → Type 0) (apart : (x : X) → E x → P x → F' x → R) where
  pub all_first : (xs : List X) → AllByRecursion E xs → AllByRecursion P xs → IsFirst P' F' xs → R
  all_first [] e h k = absurd k
  all_first (x ∷ xs) (e, es) (one, h) (inl k) = apart x e one k
  all_first (x ∷ xs) (e, es) (one, h) (inr k) = all_first xs es h k.1

module _ {X : Type 0} (R : Type 0) (E P P' F F' : X → Type 0) (both : (x : X) → E x → F x → F' x → R) (left : (x : X) → E x → P x → F' x → R) (right : (x : X) → E x → F x → P' x → R) where
  pub one_first : (xs : List X) → AllByRecursion E xs → IsFirst P F xs → IsFirst P' F' xs → R
  one_first [] e h k = absurd h
  one_first (x ∷ xs) (e, es) (inl h) (inl k) = both x e h k
  one_first (x ∷ xs) (e, es) (inl h) (inr k) = right x e h k.0
  one_first (x ∷ xs) (e, es) (inr h) (inl k) = left x e h.0 k
  one_first (x ∷ xs) (e, es) (inr h) (inr k) = one_first xs es h.1 k.1

-- ---- one relocation

-- it has a value, which its field takes
pub record IsHeld (v : Option ℤ) (r : Relocation) : Type 0 where
  pub found : IsTrue (is_some v)
  pub alone : is_low_part r.kind ≡ true → r.addend ≡ pos 0
  pub takes : Takes r.kind (unwrap_or v (pos 0))

abbrev pub HasValue : Option ℤ → Relocation → ℤ → Type 0
HasValue v r w = (v ≡ Some w) × (is_low_part r.kind ≡ true → r.addend ≡ pos 0)

abbrev pub Dangles : Option ℤ → Relocation → Type 0
Dangles v r = (is_low_part r.kind ≡ true) × ((v ≡ None) ⊎ (r.addend ≡ pos 0 → ⊥))

-- why it is refused, by its value
abbrev pub IsRefusedFor : LinkFault → Option ℤ → Relocation → Type 0
IsRefusedFor Overflow v r = (w : ℤ) × HasValue v r w × Refuses r.kind w Overflow
IsRefusedFor OddTarget v r = (w : ℤ) × HasValue v r w × Refuses r.kind w OddTarget
IsRefusedFor DanglingPcrel v r = Dangles v r
IsRefusedFor _ v r = ⊥

-- the same by the number of the fault
abbrev Why : ℕ → Option ℤ → Relocation → Type 0
Why n v r =
    ((n ≡ 1) × ((w : ℤ) × HasValue v r w × (IsInRange r.kind w → ⊥)))
    ⊎ (((n ≡ 2) × ((w : ℤ) × HasValue v r w × IsInRange r.kind w))
    ⊎ ((n ≡ 3) × Dangles v r))

pub record IsToldBy (f : LinkFault) (v : Option ℤ) (r : Relocation) : Type 0 where
  pub number : ℕ
  pub numbered : link_fault_number f ≡ Some number
  pub nameless : name_in f ≡ []
  pub why : Why number v r

told : (f : LinkFault) (v : Option ℤ) (r : Relocation) → IsRefusedFor f v r → IsToldBy f v r
told Overflow v r (w, has, refused) = record { number = 1; numbered = refl; nameless = refl; why = inl (refl, (w, has, refused)) }
told OddTarget v r (w, has, refused) = record { number = 2; numbered = refl; nameless = refl; why = inr (inl (refl, (w, has, refused.0))) }
told DanglingPcrel v r h = record { number = 3; numbered = refl; nameless = refl; why = inr (inr (refl, h)) }
told AlignmentShort v r h = absurd h
told (Undefined name) v r h = absurd h
told (Duplicate name) v r h = absurd h
told EntryMissing v r h = absurd h
told ImageTooLarge v r h = absurd h
told BadTextStart v r h = absurd h
told TooManyFiles v r h = absurd h
told OutOfMemory v r h = absurd h

dangles_apart : (v : Option ℤ) (r : Relocation) (w : ℤ) → HasValue v r w → Dangles v r → ⊥
dangles_apart v r w (is, alone) (low, inl none) = let t : ◌≡◌ {A = Option ℤ} (Some w) None = sym is ∙ none in absurd (cc)
dangles_apart v r w (is, alone) (low, inr added) = added (alone low)

one_value : (v : Option ℤ) (w u : ℤ) → v ≡ Some w → v ≡ Some u → w ≡ u
one_value v w u a b = let t : ◌≡◌ {A = Option ℤ} (Some w) (Some u) = sym a ∙ b in cc

one_why : (n m : ℕ) (v : Option ℤ) (r : Relocation) → Why n v r → Why m v r → n ≡ m
one_why n m v r (inl (a, h)) (inl (b, k)) = a ∙ sym b
one_why n m v r (inl (a, (w, has, out))) (inr (inl (b, (u, had, within)))) = absurd (out (subst (IsInRange r.kind) (one_value v u w had.0 has.0) within))
one_why n m v r (inl (a, (w, has, out))) (inr (inr (b, k))) = absurd (dangles_apart v r w has k)
one_why n m v r (inr (inl (a, (w, has, within)))) (inl (b, (u, had, out))) = absurd (out (subst (IsInRange r.kind) (one_value v w u has.0 had.0) within))
one_why n m v r (inr (inl (a, h))) (inr (inl (b, k))) = a ∙ sym b
one_why n m v r (inr (inl (a, (w, has, within)))) (inr (inr (b, k))) = absurd (dangles_apart v r w has k)
one_why n m v r (inr (inr (a, h))) (inl (b, (w, has, out))) = absurd (dangles_apart v r w has h)
one_why n m v r (inr (inr (a, h))) (inr (inl (b, (w, has, within)))) = absurd (dangles_apart v r w has h)
one_why n m v r (inr (inr (a, h))) (inr (inr (b, k))) = a ∙ sym b

pub refused_once : (f g : LinkFault) (v : Option ℤ) (r : Relocation) → IsRefusedFor f v r → IsRefusedFor g v r → IsSameFault f g
refused_once f g v r h k =
    let a = told f v r h in
    let b = told g v r k in
    (a.numbered ∙ ap Some (one_why a.number b.number v r a.why b.why) ∙ sym b.numbered, a.nameless ∙ sym b.nameless)

pub held_apart : (f : LinkFault) (v : Option ℤ) (r : Relocation) → IsHeld v r → IsRefusedFor f v r → ⊥
held_apart Overflow v r held (w, has, refused) = refused (subst (λ x. IsInRange r.kind (unwrap_or x (pos 0))) has.0 held.takes.range)
held_apart OddTarget v r held (w, has, (within, target, odd)) = held.takes.even target (subst (λ x. IsOdd (unwrap_or x (pos 0))) (sym has.0) odd)
held_apart DanglingPcrel v r held (low, inl none) = let t : false ≡ true = ap is_some (sym none) ∙ held.found in absurd (cc)
held_apart DanglingPcrel v r held (low, inr added) = added (held.alone low)
held_apart AlignmentShort v r held h = h
held_apart (Undefined name) v r held h = h
held_apart (Duplicate name) v r held h = h
held_apart EntryMissing v r held h = h
held_apart ImageTooLarge v r held h = h
held_apart BadTextStart v r held h = h
held_apart TooManyFiles v r held h = h
held_apart OutOfMemory v r held h = h
