-- What follows from the definitions of Moves, for all who cite them.

use Rattle.std.proofs.Common.{◌≡◌, List, [], ◌∷◌, refl, arith, ℕ, ◌+◌, Bool, true, false, nat_le, max, ap, ◌∙◌}
use Rattle.std.specs.Prelude.{if◌then◌else◌}
use Rattle.rv_object_laws.specs.Object.{Relocation}
use Rattle.rv_link_laws.specs.Moves.{Move, dropped, full_padding, alignment_of, inserted}
use Rattle.rv_link_laws.specs.Inputs.{raised}

pub none_before : (ms : List Move) → dropped ms 0 ≡ 0
none_before [] = refl
none_before (m ∷ ms) = let rest = none_before ms in omega (arith, rest)

pub raised_inserted : (r : Relocation) (qs : List Relocation) (a : ℕ) → raised (inserted r qs) a ≡ max (alignment_of r) (raised qs a)
raised_inserted r [] a = refl
raised_inserted r (q ∷ qs) a = by (nat_le (r.place + full_padding r) q.place) (raised_inserted r qs a)
  where
    by : (b : Bool) → raised (inserted r qs) a ≡ max (alignment_of r) (raised qs a)
        → raised (if b then r ∷ q ∷ qs else q ∷ inserted r qs) a ≡ max (alignment_of r) (max (alignment_of q) (raised qs a))
    by true ih = refl
    by false ih =
        let x = alignment_of r in
        let y = alignment_of q in
        let z = raised qs a in
        ap (λ n. max y n) ih ∙ (let e : max y (max x z) ≡ max x (max y z) = omega arith in e)
