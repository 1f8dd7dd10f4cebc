-- The tables of the first statements.

use Rattle.std.proofs.Common.{◌≡◌, ℕ, suc, ◌+◌, ◌<◌, ◌≤◌, List, [], ◌∷◌, ◌++◌, length, take, drop, get_or, sym, ap, ◌∙◌, subst, arith}
use Rattle.std.proofs.lemmas.List.{take_more, take-append-drop, length-take-le}
use Rattle.rv_statement_laws.specs.Statement.{Statement}
use Rattle.rv_unit_laws.specs.Tables.{Tables, at_start, after, after_all, tables}
use Rattle.rv_unit_laws.proofs.BeforeLemmas.{IsBefore, before_all, before_start}
use Rattle.rv_unit_laws.proofs.LaterLemmas.{Keeps, keeps_all}
use Rattle.rv_unit.specs.Unit.{passed}

after_both : (t : Tables) (o : ℕ) (xs ys : List Statement) → after_all t o (xs ++ ys) ≡ after_all (after_all t o xs) (o + length xs) ys
after_both t o [] ys = ap (λ n. after_all t n ys) (let e : o ≡ o + 0 = omega arith in e)
after_both t o (x ∷ xs) ys = after_both (after t o x.kind) (suc o) xs ys ∙ ap (λ n. after_all (after_all (after t o x.kind) (suc o) xs) n ys) (let e : suc o + length xs ≡ o + suc (length xs) = omega arith in e)

pub passed_before : (ss : List Statement) (i : ℕ) → i ≤ length ss → IsBefore (passed ss i) (i + 1)
passed_before ss i within = subst (IsBefore (passed ss i)) (let e : 1 + length (take i ss) ≡ i + 1 = omega (arith, length-take-le i ss within) in e) (before_all (at_start ss) 1 (take i ss) (before_start ss 1))

pub passed_rest : (ss : List Statement) (i : ℕ) → i ≤ length ss → tables ss ≡ after_all (passed ss i) (i + 1) (drop i ss)
passed_rest ss i within =
    ap (after_all (at_start ss) 1) (sym (take-append-drop i ss)) ∙ after_both (at_start ss) 1 (take i ss) (drop i ss)
    ∙ ap (λ n. after_all (passed ss i) n (drop i ss)) (let e : 1 + length (take i ss) ≡ i + 1 = omega (arith, length-take-le i ss within) in e)

pub passed_keeps : (ss : List Statement) (i : ℕ) → i ≤ length ss → Keeps (passed ss i) (tables ss) (i + 1)
passed_keeps ss i within = subst (λ u. Keeps (passed ss i) u (i + 1)) (sym (passed_rest ss i within)) (keeps_all (passed ss i) (i + 1) (drop i ss))

pub passed_more : (ss : List Statement) (i : ℕ) (d : Statement) → i < length ss → passed ss (i + 1) ≡ after (passed ss i) (i + 1) (get_or ss i d).kind
passed_more ss i d inside =
    ap (after_all (at_start ss) 1) (take_more ss i d inside) ∙ after_both (at_start ss) 1 (take i ss) (get_or ss i d ∷ [])
    ∙ ap (λ n. after (passed ss i) n (get_or ss i d).kind) (let e : 1 + length (take i ss) ≡ i + 1 = omega (arith, length-take-le i ss (let l : i ≤ length ss = omega arith in l)) in e)
