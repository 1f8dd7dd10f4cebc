-- One value more.

use Rattle.std.proofs.Common.{◌≡◌, ℕ, ◌+◌, ◌<◌, List, [], ◌∷◌, ◌++◌, length, map, take, get_or, refl, sym, ap, ◌∙◌, append_assoc, append-nil}
use Rattle.std.proofs.lemmas.List.{take_more, map-append}
use Rattle.std.specs.Prelude.{flat_map}
use Rattle.rv_expression_laws.specs.Expression.{Tree}
use Rattle.rv_expression.specs.declared.expr.Expr.{Expr}
use Rattle.rv_expression.specs.Expr.{tree_of_expr}

flat_both : (f : Tree → List ℕ) (xs ys : List Tree) → flat_map f (xs ++ ys) ≡ flat_map f xs ++ flat_map f ys
flat_both f [] ys = refl
flat_both f (x ∷ xs) ys = ap (λ l. f x ++ l) (flat_both f xs ys) ∙ sym (append_assoc (f x) (flat_map f xs) (flat_map f ys))

pub each_more : (f : Tree → List ℕ) (xs : List Expr) (n : ℕ) (x : Expr) → n < length xs → x ≡ get_or xs n x
    → flat_map f (map tree_of_expr (take (n + 1) xs)) ≡ flat_map f (map tree_of_expr (take n xs)) ++ f (tree_of_expr x)
each_more f xs n x inside is =
    ap (λ l. flat_map f (map tree_of_expr l)) (take_more xs n x inside)
    ∙ ap (flat_map f) (map-append tree_of_expr (take n xs) (get_or xs n x ∷ []))
    ∙ flat_both f (map tree_of_expr (take n xs)) (tree_of_expr (get_or xs n x) ∷ [])
    ∙ ap (λ l. flat_map f (map tree_of_expr (take n xs)) ++ l) (append-nil (f (tree_of_expr (get_or xs n x))))
    ∙ ap (λ (y : Expr). flat_map f (map tree_of_expr (take n xs)) ++ f (tree_of_expr y)) (sym is)
