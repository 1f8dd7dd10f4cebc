-- What the searches of `memchr` find: the end of a line, and of a block comment.

use Rattle.std.proofs.Common.{◌≡◌, ℕ, zero, suc, ◌+◌, ◌<◌, ◌≤◌, Bool, true, false, cond, ◌==◌, List, [], ◌∷◌, ◌++◌, length, get_or, take, drop, refl, sym, ◌∙◌, ap, subst, arith, append_assoc, length-append, Option, Some, None, get_or-drop}
use Rattle.std.proofs.lemmas.List.{take-append-drop, length-take-le}
use Rattle.std.proofs.lemmas.List.Sums.{prefix_len_is}
use Rattle.std.proofs.Math.Seq.{drop-append_seam}
use Rattle.std.specs.List.{prefix_len}
use Rattle.memchr.specs.Find.{IsFirstByte, is_byte, FindsNeedle, OccursAt}
use Rattle.memchr.proofs.lemmas.MatchLemmas.{OccursAt-part}
use Rattle.rv_expression_laws.specs.Bytes.{in_line}
use Rattle.rv_expression_laws.specs.Grammar.{NoClose}
use Rattle.rv_expression_laws.specs.Front.{close_at}
use Rattle.rv_expression_laws.proofs.CommentsLemmas.{close_is, Closed, CloseAnswers, close_answers}

inside_line : (b : ℕ) → ((b == 10) ≡ true → ⊥) → in_line b ≡ true
inside_line b h = go (b == 10) refl
  where
    go : (t : Bool) → (b == 10) ≡ t → cond t false true ≡ true
    go true e = absurd (h e)
    go false e = refl

line_end : (b : ℕ) → (b == 10) ≡ true → in_line b ≡ false
line_end b h = ap (λ t. cond t false true) h

pub line_some : (hay : List ℕ) (k : ℕ) → IsFirstByte (is_byte 10) hay (Some k) → k ≡ prefix_len in_line hay
line_some hay k h =
    let high : k < length hay = h.0.high in
    sym (prefix_len_is in_line hay k 0 (omega arith) (λ j lt. inside_line (get_or hay j 0) (h.0.before j (omega arith) lt)) (λ _. line_end (get_or hay k 0) h.1))

pub line_none : (hay : List ℕ) → IsFirstByte (is_byte 10) hay None → length hay ≡ prefix_len in_line hay
line_none hay h = sym (prefix_len_is in_line hay (length hay) 0 (omega arith) (λ j lt. inside_line (get_or hay j 0) (h j (omega arith) lt)) (λ lt. absurd (omega arith)))

-- where a `*/` is
occurs : (bs inside rest : List ℕ) → bs ≡ inside ++ 42 ∷ 47 ∷ rest → OccursAt bs (42 ∷ 47 ∷ []) (length inside)
occurs bs inside rest whole = record {
  fits = omega (arith, ap length whole, length-append inside (42 ∷ 47 ∷ rest));
  reads = λ j lt. sym (get_or-drop (length inside) bs j 0) ∙ ap (λ xs. get_or xs j 0) here ∙ cell j lt;
}
  where
    here : drop (length inside) bs ≡ 42 ∷ 47 ∷ rest
    here = ap (drop (length inside)) whole ∙ drop-append_seam inside (42 ∷ 47 ∷ rest)

    cell : (j : ℕ) → j < 2 → get_or (42 ∷ 47 ∷ rest) j 0 ≡ get_or (42 ∷ 47 ∷ []) j 0
    cell zero lt = refl
    cell (suc zero) lt = refl
    cell (suc (suc j)) lt = absurd (omega arith)

two_front : (xs : List ℕ) → take 2 xs ≡ 42 ∷ 47 ∷ [] → (rest : List ℕ) × (xs ≡ 42 ∷ 47 ∷ rest)
two_front [] e = cc
two_front (x ∷ []) e = cc
two_front (x ∷ y ∷ rest) e = (rest, let a : x ≡ 42 = cc in let b : y ≡ 47 = cc in ap (λ q. q ∷ y ∷ rest) a ∙ ap (λ q. 42 ∷ q ∷ rest) b)

pub found_close : (bs : List ℕ) (r : Option ℕ) → FindsNeedle bs (42 ∷ 47 ∷ []) 0 r → r ≡ close_at bs
found_close bs None h = sym (go (close_at bs) (close_answers bs))
  where
    go : (o : Option ℕ) → CloseAnswers bs o → o ≡ None
    go None c = refl
    go (Some n) c =
        let here : OccursAt bs (42 ∷ 47 ∷ []) (length c.inside) = occurs bs c.inside c.rest c.whole in
        absurd (h (length c.inside) (omega arith) (omega (arith, ap length c.whole, length-append c.inside (42 ∷ 47 ∷ c.rest))) here)
found_close bs (Some k) h =
    let fits : k + 2 ≤ length bs = h.1.fits in
    let within : k ≤ length bs = omega arith in
    let len : length (take k bs) ≡ k = length-take-le k bs within in
    let r = two_front (drop k bs) (OccursAt-part bs (42 ∷ 47 ∷ []) k h.1) in
    let whole : bs ≡ take k bs ++ 42 ∷ 47 ∷ r.0 = sym (take-append-drop k bs) ∙ ap (λ xs. take k bs ++ xs) r.1 in
    sym (ap close_at whole ∙ close_is (take k bs) r.0 (first r.0 whole len) ∙ ap (λ n. Some n) len)
  where
    first : (rest : List ℕ) → bs ≡ take k bs ++ 42 ∷ 47 ∷ rest → length (take k bs) ≡ k → NoClose (take k bs ++ 42 ∷ [])
    first rest whole len front back e =
        let earlier : bs ≡ front ++ 42 ∷ 47 ∷ (back ++ 47 ∷ rest) =
        whole ∙ sym (append_assoc (take k bs) (42 ∷ []) (47 ∷ rest)) ∙ ap (λ xs. xs ++ 47 ∷ rest) e ∙ append_assoc front (42 ∷ 47 ∷ back) (47 ∷ rest) in
        let lower : length front < k = omega (arith, ap length e, length-append front (42 ∷ 47 ∷ back), length-append (take k bs) (42 ∷ [])) in
        h.0.before (length front) (omega arith) lower (occurs bs front (back ++ 47 ∷ rest) earlier)

-- the bounds of a close
pub close_within : (bs : List ℕ) (n : ℕ) → Some n ≡ close_at bs → n + 2 ≤ length bs
close_within bs n e =
    let c : Closed bs n = subst (CloseAnswers bs) (sym e) (close_answers bs) in
    omega (arith, c.is_length, ap length c.whole, length-append c.inside (42 ∷ 47 ∷ c.rest))
