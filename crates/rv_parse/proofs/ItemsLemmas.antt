-- One item or more, with commas between, read item by item, as the code holds them.

use Rattle.std.proofs.Common.{◌≡◌, true, false, List, [], ◌∷◌, ◌++◌, append_assoc, Ok, Err, refl, sym, ◌∙◌, ap, map}
use Rattle.rv_expression_laws.specs.Lexing.{Token}
use Rattle.rv_expression_laws.specs.SyntaxError.{SyntaxError, Read}
use Rattle.rv_statement_laws.specs.Statement.{Operand}
use Rattle.rv_parse_laws.specs.Syntax.{is_comma, Slot}
use Rattle.rv_parse_laws.specs.Parsing.{operand_at, end_at, items_at}
use Rattle.rv_parse_laws.proofs.ItemsLemmas.{items_step}
use Rattle.rv_parse.specs.Slots.{further_items, prepended}

prepended_twice : (os : List Operand) (o : Operand) (r : Read (List Operand)) → prepended os (prepended (o ∷ []) r) ≡ prepended (os ++ o ∷ []) r
prepended_twice os o (Ok (ps, ts)) = ap (λ (qs : List Operand). Ok (qs, ts)) (sym (append_assoc os (o ∷ []) ps))
prepended_twice os o (Err w) = refl

append_nil : (os : List Operand) → os ++ [] ≡ os
append_nil [] = refl
append_nil (o ∷ os) = ap (λ ps. o ∷ ps) (append_nil os)

map_push : {X : Type 0} (view : X → Operand) (items : List X) (x : X) → map view (items ++ x ∷ []) ≡ map view items ++ view x ∷ []
map_push view [] x = refl
map_push view (y ∷ ys) x = ap (λ os. view y ∷ os) (map_push view ys x)

pub items_begin : {X : Type 0} (view : X → Operand) (s : Slot) → (ts : List Token) (x : X) (rest : List Token) (new : List X)
    → operand_at s ts ≡ Ok (view x ∷ [], rest) → new ≡ x ∷ [] → items_at s ts ≡ prepended (map view new) (further_items s rest)
items_begin {X} view s ts x rest new e is =
    items_step s ts ∙ rw e refl ∙ ap (λ (xs : List X). prepended (map view xs) (further_items s rest)) (sym is)

pub items_first_wrong : (s : Slot) → (ts : List Token) (w : SyntaxError) → operand_at s ts ≡ Err w → items_at s ts ≡ Err w
items_first_wrong s ts w e = items_step s ts ∙ rw e refl

-- a comma and an item
comma_step : (s : Slot) → (os : List Operand) (t : Token) (ts : List Token) (o : Operand) (rest : List Token)
    → is_comma t.kind ≡ true → operand_at s ts ≡ Ok (o ∷ [], rest) → prepended os (further_items s (t ∷ ts)) ≡ prepended (os ++ o ∷ []) (further_items s rest)
comma_step s os t ts o rest comma e = rw comma (ap (prepended os) (items_step s ts ∙ rw e refl) ∙ prepended_twice os o (further_items s rest))

pub items_go_on : {X : Type 0} (view : X → Operand) (s : Slot) → (all : Read (List Operand)) (items new : List X) (x : X) (t : Token) (before ts rest : List Token)
    → all ≡ prepended (map view items) (further_items s before) → before ≡ t ∷ ts → is_comma t.kind ≡ true → operand_at s ts ≡ Ok (view x ∷ [], rest)
    → new ≡ items ++ x ∷ [] → all ≡ prepended (map view new) (further_items s rest)
items_go_on {X} view s all items new x t before ts rest so is comma e pushed =
    so ∙ ap (λ us. prepended (map view items) (further_items s us)) is ∙ comma_step s (map view items) t ts (view x) rest comma e
    ∙ ap (λ os. prepended os (further_items s rest)) (sym (map_push view items x) ∙ ap (map view) (sym pushed))

pub items_wrong : {X : Type 0} (view : X → Operand) (s : Slot) → (all : Read (List Operand)) (items : List X) (t : Token) (before ts : List Token) (w : SyntaxError)
    → all ≡ prepended (map view items) (further_items s before) → before ≡ t ∷ ts → is_comma t.kind ≡ true → operand_at s ts ≡ Err w → all ≡ Err w
items_wrong view s all items t before ts w so is comma e =
    so ∙ ap (λ us. prepended (map view items) (further_items s us)) is ∙ rw comma (ap (prepended (map view items)) (items_first_wrong s ts w e))

pub items_done : {X : Type 0} (view : X → Operand) (s : Slot) (all : Read (List Operand)) (items : List X) (t : Token) (ts rest : List Token)
    → all ≡ prepended (map view items) (further_items s (t ∷ ts)) → is_comma t.kind ≡ false → end_at s (t ∷ ts) ≡ Ok rest → all ≡ Ok (map view items, rest)
items_done view s all items t ts rest so comma e = so ∙ rw comma (rw e (ap (λ (os : List Operand). Ok (os, rest)) (append_nil (map view items))))

pub items_undone : {X : Type 0} (view : X → Operand) (s : Slot) (all : Read (List Operand)) (items : List X) (t : Token) (ts : List Token) (w : SyntaxError)
    → all ≡ prepended (map view items) (further_items s (t ∷ ts)) → is_comma t.kind ≡ false → end_at s (t ∷ ts) ≡ Err w → all ≡ Err w
items_undone view s all items t ts w so comma e = so ∙ rw comma (rw e refl)
