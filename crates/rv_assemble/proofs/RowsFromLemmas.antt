-- The rows of items, from the back.

use Rattle.std.proofs.Common.{append_assoc, append-nil, ◌≡◌, ℕ, ◌+◌, suc, Bool, true, false, refl, List, [], ◌∷◌, ◌++◌, length, reverse, sym, ap, ◌∙◌, if◌then◌else◌, arith}
use Rattle.std.proofs.lemmas.Bool.{and_parts}
use Rattle.std.proofs.lemmas.List.{reverse-append}
use Rattle.rv_unit.specs.declared.item.Item.{Item}
use Rattle.rv_object_laws.specs.declared.row.Row.{Row}
use Rattle.rv_object_laws.specs.Valid.{is_counted, are_counted}
use Rattle.rv_object_laws.proofs.CountedLemmas.{counted_next}
use Rattle.rv_assemble.specs.Making.{item_row, item_rows, rows_from}

-- those of one more item
rows_more : (n : ℕ) (xs : List Item) (x : Item) → rows_from n (xs ++ x ∷ []) ≡ rows_from n xs ++ item_rows (n + length xs) x
rows_more n [] x = append-nil (item_rows n x) ∙ ap (λ k. item_rows k x) (let e : n ≡ n + 0 = omega arith in e)
rows_more n (y ∷ ys) x =
    ap (λ l. item_rows n y ++ l) (rows_more (n + 1) ys x) ∙ sym (append_assoc (item_rows n y) (rows_from (n + 1) ys) (item_rows (n + 1 + length ys) x))
    ∙ ap (λ k. (item_rows n y ++ rows_from (n + 1) ys) ++ item_rows k x) (let e : n + 1 + length ys ≡ n + suc (length ys) = omega arith in e)

one_or_none : (b : Bool) (r : Row) → reverse (if b then r ∷ [] else []) ≡ (if b then r ∷ [] else [])
one_or_none true r = refl
one_or_none false r = refl

-- where items go from the back, their rows come in reverse
pub rows_back : (items rest : List Item) (item : Item) (ordinal : ℕ) (rows more all : List Row) → items ≡ rest ++ item ∷ [] → ordinal ≡ length rest + 1
    → more ≡ rows ++ item_rows ordinal item → rows_from 1 items ++ reverse rows ≡ all → rows_from 1 rest ++ reverse more ≡ all
rows_back items rest item ordinal rows more all last counted added h =
    let here : List Row = item_rows ordinal item in
    let front : reverse more ≡ here ++ reverse rows =
    ap reverse added ∙ reverse-append rows here ∙ ap (λ l. l ++ reverse rows) (one_or_none item.shown (item_row ordinal item)) in
    let whole : rows_from 1 rest ++ here ≡ rows_from 1 items =
    ap (λ k. rows_from 1 rest ++ item_rows k item) (counted ∙ (let e : length rest + 1 ≡ 1 + length rest = omega arith in e))
    ∙ sym (rows_more 1 rest item) ∙ ap (rows_from 1) (sym last) in
    ap (λ l. rows_from 1 rest ++ l) front ∙ sym (append_assoc (rows_from 1 rest) here (reverse rows)) ∙ ap (λ l. l ++ reverse rows) whole ∙ h

-- rows whose numbers have the widths of their fields have them from the back too
pub counted_reversed : (rows : List Row) → are_counted rows ≡ true → are_counted (reverse rows) ≡ true
counted_reversed [] all = refl
counted_reversed (r ∷ rows) all =
    let both = and_parts (is_counted r) (are_counted rows) all in
    counted_next (reverse rows) (reverse (r ∷ rows)) r (counted_reversed rows both.1) both.0 (reverse-append (r ∷ []) rows)
