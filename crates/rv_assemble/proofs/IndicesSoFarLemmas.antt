-- One index more of the indices so far.

use Rattle.std.proofs.Common.{◌≡◌, ℕ, zero, suc, ◌+◌, ◌≤◌, List, [], ◌∷◌, ◌++◌, drop, refl, sym, ap, ◌∙◌, add-one, arith, Option, Some, None, append_assoc}
use Rattle.rv_expression_laws.specs.Expression.{Primary}
use Rattle.rv_assemble_laws.specs.Fields.{Field}
use Rattle.rv_assemble.specs.Making.{index_of, next_of, indices_of}

drop_one : (ns : List ℕ) (n : ℕ) → drop 1 (drop n ns) ≡ drop (n + 1) ns
drop_one ns n = by ns n ∙ ap (λ m. drop m ns) (sym (add-one n))
  where
    by : (ns : List ℕ) (n : ℕ) → drop 1 (drop n ns) ≡ drop (suc n) ns
    by [] zero = refl
    by [] (suc n) = refl
    by (x ∷ ns) zero = refl
    by (x ∷ ns) (suc n) = by ns n

drop_next : (q : Option Primary) (n : ℕ) (ns : List ℕ) → drop (next_of q 0) (drop n ns) ≡ drop (next_of q n) ns
drop_next None n ns = refl
drop_next (Some q) n ns = drop_one ns n

pub next_within : (q : Option Primary) (n i : ℕ) → n ≤ i → next_of q n ≤ i + 1
next_within None n i l = omega (arith, l)
next_within (Some q) n i l = omega (arith, l)

pub indices_more : (made now : List (Option ℕ)) (fs : List Field) (ns : List ℕ) (i next : ℕ) (f : Field) (n : Option ℕ) (whole : List (Option ℕ)) → drop i fs ≡ f ∷ drop (i + 1) fs → now ≡ made ++ n ∷ [] → n ≡ index_of f.symbol (drop next ns)
    → made ++ indices_of (drop i fs) (drop next ns) ≡ whole → now ++ indices_of (drop (i + 1) fs) (drop (next_of f.symbol next) ns) ≡ whole
indices_more made now fs ns i next f n whole at push is h =
    let rest = indices_of (drop (i + 1) fs) (drop (next_of f.symbol next) ns) in
    ap (λ l. l ++ rest) push ∙ append_assoc made (n ∷ []) rest ∙ ap (λ m. made ++ m ∷ rest) is
    ∙ ap (λ l. made ++ index_of f.symbol (drop next ns) ∷ indices_of (drop (i + 1) fs) l) (sym (drop_next f.symbol next ns))
    ∙ ap (λ l. made ++ indices_of l (drop next ns)) (sym at) ∙ h
