-- The kind of a number is the one kind with that number.

use Rattle.std.proofs.Common.{◌≡◌, ℕ, Bool, true, false, List, [], ◌∷◌, Option, Some, None, refl, sym, ap, ◌∙◌, arith}
use Rattle.std.specs.Prelude.{◌==◌, ◌↔◌}
use Rattle.std.specs.List.{find}
use Rattle.std.proofs.lemmas.Bool.Decides.{nat_tests}
use Rattle.rv_isa.specs.declared.kind.Kind.{Kind}
use Rattle.rv_isa.specs.declared.kind.Kind.TheVariants as kinds
use Rattle.rv_isa.specs.Kinds.{number_of}
use Rattle.rv_object_file_laws.specs.Parts.{all_kinds, kind_numbered}

own_number : (k : Kind) → Some k ≡ kind_numbered (number_of k)
own_number kinds.None = refl
own_number kinds.Abs32 = refl
own_number kinds.Abs64 = refl
own_number kinds.Branch = refl
own_number kinds.Jal = refl
own_number kinds.Call = refl
own_number kinds.CallPlt = refl
own_number kinds.PcrelHi20 = refl
own_number kinds.PcrelLo12I = refl
own_number kinds.PcrelLo12S = refl
own_number kinds.Hi20 = refl
own_number kinds.Lo12I = refl
own_number kinds.Lo12S = refl
own_number kinds.Add8 = refl
own_number kinds.Add16 = refl
own_number kinds.Add32 = refl
own_number kinds.Add64 = refl
own_number kinds.Sub8 = refl
own_number kinds.Sub16 = refl
own_number kinds.Sub32 = refl
own_number kinds.Sub64 = refl
own_number kinds.Align = refl
own_number kinds.RvcBranch = refl
own_number kinds.RvcJump = refl
own_number kinds.Relax = refl
own_number kinds.Sub6 = refl
own_number kinds.Set6 = refl
own_number kinds.Set8 = refl
own_number kinds.Set16 = refl
own_number kinds.Set32 = refl
own_number kinds.Pcrel32 = refl

find_none : (ks : List Kind) (n : ℕ) → ((k : Kind) → number_of k ≡ n → ⊥) → find (λ k. number_of k == n) ks ≡ None
find_none [] n h = refl
find_none (k ∷ ks) n h = go (number_of k == n) refl (find_none ks n h) where
  go : (b : Bool) → (number_of k == n) ≡ b → find (λ k. number_of k == n) ks ≡ None → find (λ k. number_of k == n) (k ∷ ks) ≡ None
  go true e more = absurd (h k (grind (arith, nat_tests)))
  go false e more = rw e more

some_none : (k : Kind) → None ≡ Some k → ⊥
some_none k e = absurd (cc)

pub kind_is : (n : ℕ) (o : Option Kind) → ((k : Kind) → o ≡ Some k ↔ number_of k ≡ n) → o ≡ kind_numbered n
kind_is n None h = sym (find_none all_kinds n (λ k e. some_none k ((h k).1 e)))
kind_is n (Some k) h = own_number k ∙ ap kind_numbered ((h k).0 refl)
