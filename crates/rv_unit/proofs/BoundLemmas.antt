-- One name more that is bound.

use Rattle.std.proofs.Common.{◌≡◌, ℕ, ◌+◌, ◌<◌, Bool, true, false, cond, List, [], ◌∷◌, length, map, take, get_or, refl, sym, ap, ◌∙◌, Option, Some}
use Rattle.std.specs.Prelude.{◌||◌, if◌then◌else◌, unwrap_or}
use Rattle.std.specs.Borrow.{Bor}
use Rattle.std.specs.List.{list_any}
use Rattle.std.specs.Str.{bytes_eq}
use Rattle.std.proofs.lemmas.List.{take_more, map-append}
use Rattle.std.proofs.lemmas.List.Folds.{list_any-append}
use Rattle.rv_statement.specs.View.{now_of}
use Rattle.rv_statement_laws.specs.declared.directive.Binding.{Binding}
use Rattle.rv_statement_laws.specs.declared.directive.Binding.TheVariants.{Local}
use Rattle.rv_unit_laws.specs.Bindings.{Bindings, bound, is_weak}

-- a test of one name more
one_more : (xs : List (Bor (List ℕ))) (i : ℕ) (d : Bor (List ℕ)) (name : List ℕ) → i < length xs
    → list_any (λ n. bytes_eq n name) (map now_of (take (i + 1) xs))
    ≡ (list_any (λ n. bytes_eq n name) (map now_of (take i xs)) || (bytes_eq (get_or xs i d).now name || false))
one_more xs i d name inside =
    ap (λ l. list_any (λ n. bytes_eq n name) (map now_of l)) (take_more xs i d inside)
    ∙ ap (list_any (λ n. bytes_eq n name)) (map-append now_of (take i xs) (get_or xs i d ∷ []))
    ∙ list_any-append (λ n. bytes_eq n name) (map now_of (take i xs)) ((get_or xs i d).now ∷ [])

pub bound_next : (binding : Binding) (xs : List (Bor (List ℕ))) (i : ℕ) (d : Bor (List ℕ)) (name : List ℕ) (found : Option Binding) (before : Bindings)
    → unwrap_or found Local ≡ bound binding (map now_of (take i xs)) before name → i < length xs
    → unwrap_or (cond (bytes_eq (get_or xs i d).now name) (Some binding) found) Local ≡ bound binding (map now_of (take (i + 1) xs)) before name
bound_next binding xs i d name found before so_far inside =
    by (bytes_eq (get_or xs i d).now name) (list_any (λ n. bytes_eq n name) (map now_of (take i xs))) so_far
    ∙ ap (λ b. if b then binding else before name) (sym (one_more xs i d name inside))
  where
    by : (b c : Bool) → unwrap_or found Local ≡ (if c then binding else before name)
        → unwrap_or (cond b (Some binding) found) Local ≡ (if c || (b || false) then binding else before name)
    by true true h = refl
    by true false h = refl
    by false true h = h
    by false false h = h

-- where none is weak, none was before, nor is the new one
pub none_weak : (weak : Bool) (binding before : Binding) (listed : Bool) → (weak ≡ false → is_weak before ≡ false) → (weak || is_weak binding) ≡ false → is_weak (if listed then binding else before) ≡ false
none_weak true binding before listed h none = absurd (cc)
none_weak false binding before true h none = none
none_weak false binding before false h none = h refl
