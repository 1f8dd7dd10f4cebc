-- The lists of directives: symbols, strings and values.

use Rattle.std.proofs.Common.{◌≡◌, ℕ, ◌<◌, length, Bool, true, false, List, [], ◌∷◌, ◌++◌, Ok, Err, refl, ◌∙◌, ap, map, Bor}
use Rattle.rv_expression_laws.specs.Lexing.{Token}
use Rattle.rv_expression_laws.specs.Expression.{Tree}
use Rattle.rv_expression_laws.specs.SyntaxError.{SyntaxError, Read}
use Rattle.rv_expression.specs.declared.expr.Expr.{Expr}
use Rattle.rv_expression.specs.Expr.{tree_of_expr}
use Rattle.rv_statement_laws.specs.declared.directive.Width.{Width}
use Rattle.rv_statement_laws.specs.declared.directive.DirectiveWord.TheVariants as words
use Rattle.rv_statement_laws.specs.Statement.{Operand, Value, StatementKind, Directs, Values, Emits}
use Rattle.rv_statement.specs.View.{now_of, quoted}
use Rattle.rv_statement_laws.specs.Widths.{width_bytes}
use Rattle.rv_parse_laws.specs.Syntax.{is_comma, Slot, A_symbol, A_string, A_value, A_comma, front_begins, operand_slots, directed, names_in, strings_in, values_in}
use Rattle.rv_parse_laws.specs.Parsing.{operand_at, operands_at, end_at, ended_at, items_at, value_operand_at, seen_as}
use Rattle.rv_parse_laws.proofs.OperandsLemmas.{operand_shorter}
use Rattle.rv_lexer.specs.declared.syntax_error.ReadError.{ReadError}
use Rattle.rv_lexer.specs.declared.syntax_error.ReadError.TheVariants as refusals
use Rattle.rv_lexer.specs.Cursor.{syntax_error_of, Fails}
use Rattle.rv_parse.specs.View.{operand_of_value}
use Rattle.rv_parse_words.specs.View.{word_of, string_of}
use Rattle.rv_parse.specs.Slots.{further_items, prepended}
use Rattle.rv_parse.proofs.ItemsLemmas.{items_begin, items_first_wrong, items_go_on, items_wrong, items_done, items_undone}
use Rattle.rv_parse_laws.specs.declared.role.Role.TheVariants as roles

pub names_begin : (ts : List Token) (x : Bor (List ℕ)) (rest : List Token) (new : List (Bor (List ℕ)))
    → operand_at A_symbol ts ≡ Ok (word_of x ∷ [], rest) → new ≡ x ∷ [] → items_at A_symbol ts ≡ prepended (map word_of new) (further_items A_symbol rest)
names_begin = items_begin word_of A_symbol

pub names_first_wrong : (ts : List Token) (w : SyntaxError) → operand_at A_symbol ts ≡ Err w → items_at A_symbol ts ≡ Err w
names_first_wrong = items_first_wrong A_symbol

pub names_go_on : (all : Read (List Operand)) (items new : List (Bor (List ℕ))) (x : Bor (List ℕ)) (t : Token) (before ts rest : List Token)
    → all ≡ prepended (map word_of items) (further_items A_symbol before) → before ≡ t ∷ ts → is_comma t.kind ≡ true → operand_at A_symbol ts ≡ Ok (word_of x ∷ [], rest)
    → new ≡ items ++ x ∷ [] → all ≡ prepended (map word_of new) (further_items A_symbol rest)
names_go_on = items_go_on word_of A_symbol

pub names_wrong : (all : Read (List Operand)) (items : List (Bor (List ℕ))) (t : Token) (before ts : List Token) (w : SyntaxError)
    → all ≡ prepended (map word_of items) (further_items A_symbol before) → before ≡ t ∷ ts → is_comma t.kind ≡ true → operand_at A_symbol ts ≡ Err w → all ≡ Err w
names_wrong = items_wrong word_of A_symbol

pub names_done : (all : Read (List Operand)) (items : List (Bor (List ℕ))) (t : Token) (ts rest : List Token)
    → all ≡ prepended (map word_of items) (further_items A_symbol (t ∷ ts)) → is_comma t.kind ≡ false → end_at A_symbol (t ∷ ts) ≡ Ok rest → all ≡ Ok (map word_of items, rest)
names_done = items_done word_of A_symbol

pub names_undone : (all : Read (List Operand)) (items : List (Bor (List ℕ))) (t : Token) (ts : List Token) (w : SyntaxError)
    → all ≡ prepended (map word_of items) (further_items A_symbol (t ∷ ts)) → is_comma t.kind ≡ false → end_at A_symbol (t ∷ ts) ≡ Err w → all ≡ Err w
names_undone = items_undone word_of A_symbol

pub strings_begin : (ts : List Token) (x : Bor (List ℕ)) (rest : List Token) (new : List (Bor (List ℕ)))
    → operand_at A_string ts ≡ Ok (string_of x ∷ [], rest) → new ≡ x ∷ [] → items_at A_string ts ≡ prepended (map string_of new) (further_items A_string rest)
strings_begin = items_begin string_of A_string

pub strings_first_wrong : (ts : List Token) (w : SyntaxError) → operand_at A_string ts ≡ Err w → items_at A_string ts ≡ Err w
strings_first_wrong = items_first_wrong A_string

pub strings_go_on : (all : Read (List Operand)) (items new : List (Bor (List ℕ))) (x : Bor (List ℕ)) (t : Token) (before ts rest : List Token)
    → all ≡ prepended (map string_of items) (further_items A_string before) → before ≡ t ∷ ts → is_comma t.kind ≡ true → operand_at A_string ts ≡ Ok (string_of x ∷ [], rest)
    → new ≡ items ++ x ∷ [] → all ≡ prepended (map string_of new) (further_items A_string rest)
strings_go_on = items_go_on string_of A_string

pub strings_wrong : (all : Read (List Operand)) (items : List (Bor (List ℕ))) (t : Token) (before ts : List Token) (w : SyntaxError)
    → all ≡ prepended (map string_of items) (further_items A_string before) → before ≡ t ∷ ts → is_comma t.kind ≡ true → operand_at A_string ts ≡ Err w → all ≡ Err w
strings_wrong = items_wrong string_of A_string

pub strings_done : (all : Read (List Operand)) (items : List (Bor (List ℕ))) (t : Token) (ts rest : List Token)
    → all ≡ prepended (map string_of items) (further_items A_string (t ∷ ts)) → is_comma t.kind ≡ false → end_at A_string (t ∷ ts) ≡ Ok rest → all ≡ Ok (map string_of items, rest)
strings_done = items_done string_of A_string

pub strings_undone : (all : Read (List Operand)) (items : List (Bor (List ℕ))) (t : Token) (ts : List Token) (w : SyntaxError)
    → all ≡ prepended (map string_of items) (further_items A_string (t ∷ ts)) → is_comma t.kind ≡ false → end_at A_string (t ∷ ts) ≡ Err w → all ≡ Err w
strings_undone = items_undone string_of A_string

-- a value as an operand
abbrev pub values : Slot
values = A_value roles.Directive

value_operand : (ts : List Token) (x : Expr) (rest : List Token) → value_operand_at roles.Directive ts ≡ Ok (operand_of_value x, rest) → operand_at values ts ≡ Ok (operand_of_value x ∷ [], rest)
value_operand ts x rest e = rw e refl

no_operand : (ts : List Token) (w : SyntaxError) → value_operand_at roles.Directive ts ≡ Err w → operand_at values ts ≡ Err w
no_operand ts w e = rw e refl

pub values_begin : (ts : List Token) (x : Expr) (rest : List Token) → value_operand_at roles.Directive ts ≡ Ok (operand_of_value x, rest)
    → items_at values ts ≡ prepended (operand_of_value x ∷ []) (further_items values rest)
values_begin ts x rest e = items_begin operand_of_value values ts x rest (x ∷ []) (value_operand ts x rest e) refl

-- the first alone
pub values_start : (x : Expr) (r : Read (List Operand)) (new : List Expr) → new ≡ x ∷ [] → prepended (operand_of_value x ∷ []) r ≡ prepended (map operand_of_value new) r
values_start x r new is = rw is refl

pub value_shorter : (ts : List Token) (e : Tree) (rest : List Token) → value_operand_at roles.Directive ts ≡ Ok (Value e, rest) → length rest < length ts
value_shorter ts e rest h = operand_shorter values ts (Value e ∷ []) rest (rw h refl)

pub values_first_wrong : (ts : List Token) (w : SyntaxError) → value_operand_at roles.Directive ts ≡ Err w → items_at values ts ≡ Err w
values_first_wrong ts w e = items_first_wrong values ts w (no_operand ts w e)

pub values_go_on : (all : Read (List Operand)) (items new : List Expr) (x : Expr) (t : Token) (before ts rest : List Token)
    → all ≡ prepended (map operand_of_value items) (further_items values before) → before ≡ t ∷ ts → is_comma t.kind ≡ true → value_operand_at roles.Directive ts ≡ Ok (operand_of_value x, rest)
    → new ≡ items ++ x ∷ [] → all ≡ prepended (map operand_of_value new) (further_items values rest)
values_go_on all items new x t before ts rest so is comma e pushed =
    items_go_on operand_of_value values all items new x t before ts rest so is comma (value_operand ts x rest e) pushed

pub values_wrong : (all : Read (List Operand)) (items : List Expr) (t : Token) (before ts : List Token) (w : SyntaxError)
    → all ≡ prepended (map operand_of_value items) (further_items values before) → before ≡ t ∷ ts → is_comma t.kind ≡ true → value_operand_at roles.Directive ts ≡ Err w → all ≡ Err w
values_wrong all items t before ts w so is comma e = items_wrong operand_of_value values all items t before ts w so is comma (no_operand ts w e)

-- the same where memory may have run out
pub values_fail : (all : Read (List Operand)) (items : List Expr) (t : Token) (before ts : List Token) (e : ReadError)
    → all ≡ prepended (map operand_of_value items) (further_items values before) → before ≡ t ∷ ts → is_comma t.kind ≡ true → Fails e (value_operand_at roles.Directive ts) → Fails e all
values_fail all items t before ts (refusals.At w) so is comma h = values_wrong all items t before ts (syntax_error_of w) so is comma h
values_fail all items t before ts refusals.OutOfMemory so is comma h = tt

pub values_done : (all : Read (List Operand)) (items : List Expr) (t : Token) (ts rest : List Token)
    → all ≡ prepended (map operand_of_value items) (further_items values (t ∷ ts)) → is_comma t.kind ≡ false → end_at values (t ∷ ts) ≡ Ok rest → all ≡ Ok (map operand_of_value items, rest)
values_done = items_done operand_of_value values

pub values_undone : (all : Read (List Operand)) (items : List Expr) (t : Token) (ts : List Token) (w : SyntaxError)
    → all ≡ prepended (map operand_of_value items) (further_items values (t ∷ ts)) → is_comma t.kind ≡ false → end_at values (t ∷ ts) ≡ Err w → all ≡ Err w
values_undone = items_undone operand_of_value values

-- what the operands of lists hold
pub all_names : (names : List (Bor (List ℕ))) → names_in (map word_of names) ≡ map now_of names
all_names [] = refl
all_names (x ∷ xs) = ap (λ ns. now_of x ∷ ns) (all_names xs)

pub all_strings : (strings : List (Bor (List ℕ))) → strings_in (map string_of strings) ≡ map quoted strings
all_strings [] = refl
all_strings (x ∷ xs) = ap (λ bs. quoted x ∷ bs) (all_strings xs)

pub all_values : (values : List Expr) → values_in (map operand_of_value values) ≡ map tree_of_expr values
all_values [] = refl
all_values (x ∷ xs) = ap (λ es. tree_of_expr x ∷ es) (all_values xs)

-- what `.byte` and its kin say with these operands
abbrev pub data_said : Width → List Operand → StatementKind
data_said width os = Directs (directed (words.Value width) os)

abbrev pub data_at : Width → List Token → Read StatementKind
data_at width ts = seen_as (data_said width) (operands_at (operand_slots (words.Value width)) ts)

data_is : (width : Width) (ts us : List Token) (x : Expr) → value_operand_at roles.Directive ts ≡ Ok (operand_of_value x, us)
    → data_at width ts ≡ seen_as (data_said width) (prepended (operand_of_value x ∷ []) (further_items values us))
unfolding operands_at
data_is width ts us x e = ap (seen_as (data_said width)) (values_begin ts x us e)

data_wrong : (width : Width) (ts : List Token) (w : SyntaxError) → value_operand_at roles.Directive ts ≡ Err w → data_at width ts ≡ Err w
unfolding operands_at
data_wrong width ts w h = ap (seen_as (data_said width)) (values_first_wrong ts w h)

pub data_fail : (width : Width) (ts : List Token) (e : ReadError) → Fails e (value_operand_at roles.Directive ts) → Fails e (data_at width ts)
data_fail width ts (refusals.At w) h = data_wrong width ts (syntax_error_of w) h
data_fail width ts refusals.OutOfMemory h = tt

pub several_fail : (width : Width) (ts us : List Token) (x : Expr) (e : ReadError) → value_operand_at roles.Directive ts ≡ Ok (operand_of_value x, us)
    → Fails e (prepended (operand_of_value x ∷ []) (further_items values us)) → Fails e (data_at width ts)
several_fail width ts us x (refusals.At w) first h = data_is width ts us x first ∙ ap (seen_as (data_said width)) h
several_fail width ts us x refusals.OutOfMemory first h = tt

pub several_said : (width : Width) (ts us rest : List Token) (x : Expr) (xs : List Expr) → value_operand_at roles.Directive ts ≡ Ok (operand_of_value x, us)
    → prepended (operand_of_value x ∷ []) (further_items values us) ≡ Ok (map operand_of_value xs, rest) → data_at width ts ≡ Ok (Directs (Emits (Values (width_bytes width) (map tree_of_expr xs))), rest)
several_said width ts us rest x xs first h =
    data_is width ts us x first ∙ ap (seen_as (data_said width)) h ∙ ap (λ (es : List Tree). Ok (Directs (Emits (Values (width_bytes width) es)), rest)) (all_values xs)

single_end : (us : List Token) → front_begins (A_comma values) us ≡ false → further_items values us ≡ ended_at values us
single_end [] h = refl
single_end (t ∷ us) h = go (is_comma t.kind) refl
  where
    go : (b : Bool) → is_comma t.kind ≡ b → further_items values (t ∷ us) ≡ ended_at values (t ∷ us)
    go false e = rw e refl
    go true e = let begins : front_begins (A_comma values) (t ∷ us) ≡ true = rw e refl in absurd (cc)

pub one_wrong : (width : Width) (ts us : List Token) (x : Expr) (w : SyntaxError) → value_operand_at roles.Directive ts ≡ Ok (operand_of_value x, us) → front_begins (A_comma values) us ≡ false
    → end_at values us ≡ Err w → data_at width ts ≡ Err w
one_wrong width ts us x w first single h = data_is width ts us x first ∙ rw (single_end us single, h) refl

pub one_said : (width : Width) (ts us rest : List Token) (x : Expr) → value_operand_at roles.Directive ts ≡ Ok (operand_of_value x, us) → front_begins (A_comma values) us ≡ false
    → end_at values us ≡ Ok rest → data_at width ts ≡ Ok (Directs (Emits (Values (width_bytes width) (tree_of_expr x ∷ []))), rest)
one_said width ts us rest x first single h = data_is width ts us x first ∙ rw (single_end us single, h) refl
