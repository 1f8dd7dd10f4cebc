-- Statements stay when another is put behind them.

use Rattle.std.proofs.Common.{◌≡◌, ℕ, ◌+◌, ◌<◌, Bool, true, ◌&&◌, ltb, IsTrue, List, [], ◌∷◌, ◌++◌, length, map, refl, ap, ◌∙◌, arith, sym, subst}
use Rattle.std.specs.List.{list_all}
use Rattle.std.proofs.lemmas.List.{get_or_append_left, get_or_push, map_push, length_push}
use Rattle.std.proofs.lemmas.List.Folds.{list_all-append}
use Rattle.rv_size_laws.specs.declared.item.Item.{Item}
use Rattle.rv_size_laws.specs.Branches.{item_at}
use Rattle.rv_sizes.specs.declared.items.Packed.{Packed}
use Rattle.rv_sizes.specs.declared.items.Packed.TheVariants.{Settled, Other}
use Rattle.rv_sizes.specs.Items.{is_inside, stands_for}

first_inside : (index count : ℕ) (rest : Bool) → IsTrue (ltb index count && rest) → (index < count) × IsTrue rest
first_inside index count rest both = grind arith

both_inside : (index count : ℕ) (rest : Bool) → index < count → IsTrue rest → IsTrue (ltb index count && rest)
both_inside index count rest first others = grind arith

stays_inside : (count : ℕ) (packed : List Packed) → IsTrue (list_all (is_inside count) packed) → IsTrue (list_all (is_inside (count + 1)) packed)
stays_inside count [] all = all
stays_inside count (Settled section bytes ∷ packed) all = stays_inside count packed all
stays_inside count (Other index ∷ packed) all =
    let both = first_inside index count (list_all (is_inside count) packed) all in
    let first : index < count = both.0 in
    both_inside index (count + 1) (list_all (is_inside (count + 1)) packed) (omega arith) (stays_inside count packed both.1)

stand_still : (others : List Item) (item : Item) (packed : List Packed) → IsTrue (list_all (is_inside (length others)) packed)
    → map (stands_for (others ++ item ∷ [])) packed ≡ map (stands_for others) packed
stand_still others item [] all = refl
stand_still others item (Settled section bytes ∷ packed) all = ap (λ rest. stands_for others (Settled section bytes) ∷ rest) (stand_still others item packed all)
stand_still others item (Other index ∷ packed) all =
    let both = first_inside index (length others) (list_all (is_inside (length others)) packed) all in
    ap (λ first. first ∷ map (stands_for (others ++ item ∷ [])) packed) (get_or_append_left others (item ∷ []) _ index both.0)
    ∙ ap (λ rest. item_at others index ∷ rest) (stand_still others item packed both.1)

-- another statement behind them, with its index
pub stand_with_another : (others : List Item) (item : Item) (packed : List Packed) (index : ℕ) → IsTrue (list_all (is_inside (length others)) packed) → index ≡ length others
    → map (stands_for (others ++ item ∷ [])) (packed ++ Other index ∷ []) ≡ map (stands_for others) packed ++ item ∷ []
stand_with_another others item packed index all is =
    map_push (stands_for (others ++ item ∷ [])) packed (Other index)
    ∙ ap (λ list. list ++ item_at (others ++ item ∷ []) index ∷ []) (stand_still others item packed all)
    ∙ ap (λ last. map (stands_for others) packed ++ last ∷ []) (get_or_push others item _ index (sym is))

pub inside_with_another : (others : List Item) (item : Item) (packed : List Packed) (index : ℕ) → IsTrue (list_all (is_inside (length others)) packed) → index ≡ length others
    → IsTrue (list_all (is_inside (length (others ++ item ∷ []))) (packed ++ Other index ∷ []))
inside_with_another others item packed index all is =
    let first : index < length others + 1 = omega (arith, is) in
    subst (λ count. IsTrue (list_all (is_inside count) (packed ++ Other index ∷ []))) (sym (length_push others item))
    (list_all-append (is_inside (length others + 1)) packed (Other index ∷ [])
    ∙ ap (λ b. b && list_all (is_inside (length others + 1)) (Other index ∷ [])) (stays_inside (length others) packed all)
    ∙ both_inside index (length others + 1) true first refl)
