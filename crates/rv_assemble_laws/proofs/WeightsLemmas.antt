-- Each name that a source's statements say stands in its text as a token of its own, so all of them together are no longer
-- than twice the text.

use Rattle.std.proofs.Common.{◌≡◌, ℕ, zero, suc, ◌+◌, ◌*◌, ◌≤◌, Bool, true, false, List, [], ◌∷◌, ◌++◌, flat_map, Option, Some, None, length, length-append, refl, sym, ap, ◌∙◌, subst, inl, inr, arith}
use Rattle.std.specs.Prelude.{nat_le, codes, bytes_eq, is_some, option_map, if◌then◌else◌}
use Rattle.std.specs.List.{list_all}
use Rattle.rv_expression_laws.specs.declared.class.Class.{Class}
use Rattle.rv_expression_laws.specs.declared.class.Class.TheVariants as classes
use Rattle.rv_expression_laws.specs.Bytes.{class, is_decimal}
use Rattle.rv_expression_laws.specs.Cut.{Piece, texts, Each}
use Rattle.rv_expression_laws.specs.Grammar.{Kind, Space, Line_comment, Block_comment, Newline, Punctuation, Name, Number, Reference, Bad_word, Text, Character, Bad_byte, Bad_token, End, direction, Spells, Stops}
use Rattle.rv_expression_laws.specs.Joined.{joined_bytes, AreAfter, IsJoined}
use Rattle.rv_expression_laws.specs.Lexing.{Token, Lexes, tokens_of, placed, is_gap, bad, last_kind, last}
use Rattle.rv_expression_laws.specs.declared.punct.Punct.{Punct}
use Rattle.rv_expression_laws.specs.declared.punct.Punct.TheVariants as puncts
use Rattle.rv_expression_laws.specs.Codes.{bad_operands, limit}
use Rattle.rv_expression_laws.specs.SyntaxError.{longest_name}
use Rattle.rv_expression_laws.specs.Expression.{Primary, Literal, Symbol, Here, Reference as Of_label, Tree, Leaf, Unary, Paren, Binary, A_primary, No_operand, begins, named_operand, punct_begins, SpellsTree, bare}
use Rattle.rv_isa.specs.declared.operation.AccessSet.{AccessSet}
use Rattle.rv_parcel.specs.declared.parcel.RegisterSet.{RegisterSet}
use Rattle.rv_statement_laws.specs.declared.pseudo.Function.{Function}
use Rattle.rv_statement_laws.specs.declared.pseudo.Function.TheVariants as functions
use Rattle.rv_statement_laws.specs.declared.directive.DirectiveWord.{DirectiveWord}
use Rattle.rv_statement_laws.specs.declared.directive.DirectiveWord.TheVariants as words
use Rattle.rv_statement_laws.specs.declared.directive.Choice.{Choice}
use Rattle.rv_statement_laws.specs.Statement.{Expression, Operand, Register, Value, Applied, Target, Accesses, Word, Quoted, StatementKind, Label, Numbered, Instruction, Directs, Statement}
use Rattle.rv_parse_laws.specs.declared.role.Role.{Role}
use Rattle.rv_parse_laws.specs.declared.role.Role.TheVariants as roles
use Rattle.rv_parse_laws.specs.Words.{named_in, choices}
use Rattle.rv_parse_laws.specs.Syntax.{Slot, A_register_of, A_zero, Some_accesses, A_symbol, A_string, Some_flags, At_sign, A_type, An_option, A_plt, A_comma, An_opening, A_closing, register_of, kept_in, token_symbol, is_symbol, is_zero, accesses_of, is_at_sign, is_plt, is_comma, is_opening, is_closing, single, A_value, An_address_by, An_address, A_callee, A_section, A_target, Slots, Stops as Ends_here, Takes, Chooses, Locates, Lists, Anything, IsValue, IsValueIn, IsOneIn, IsArgument, IsBase, IsLinked, IsOperand, TakesSlot, IsFurther, AreItems, AreOperands, label_named, label_of, targets, is_register, slots, operand_slots, names_in, values_in, option_directive, directed, SourcePart, Ends, Says, IsPart, StopsPart, IsStatement}
use Rattle.rv_parse_laws.specs.Reading.{told, statements_of_parts, longest_source, Reads}
use Rattle.rv_source_laws.specs.Program.{in_operand}
use Rattle.rv_assemble_laws.specs.ShownNames.{primary_names, tree_names, said_names}
use Rattle.rv_assemble_laws.specs.Small.{weight, all_said, AreSmall}

-- ---- weights

pub weight_append : (xs ys : List (List ℕ)) → weight (xs ++ ys) ≡ weight xs + weight ys
weight_append [] ys = let n = weight ys in let e : n ≡ 0 + n = omega arith in e
weight_append (x ∷ xs) ys = let rest = weight_append xs ys in omega (arith, rest)

-- what a token can weigh as a part of a name
abbrev heft : Kind → ℕ
heft (Name name) = 1 + length name
heft (Number word number) = 1 + length word
heft (Reference digits forward) = 2 + length digits
heft (Bad_word word) = 1 + length word
heft (Punctuation puncts.Minus) = 1
heft _ = 0

abbrev total : List Token → ℕ
total [] = 0
total (t ∷ ts) = heft t.kind + total ts

total_append : (xs ys : List Token) → total (xs ++ ys) ≡ total xs + total ys
total_append [] ys = let n = total ys in let e : n ≡ 0 + n = omega arith in e
total_append (x ∷ xs) ys = let rest = total_append xs ys in omega (arith, rest)

-- ---- tokens

spelled_heft : (k : Kind) (text : List ℕ) → Spells k text → heft k ≤ 2 * length text
spelled_heft (Name name) text (is, (b, bs, w, c, rest)) = let a = ap length is in let l : length text ≡ suc (length bs) = ap length w in omega (arith, a, l)
spelled_heft (Number word number) text (is, (b, bs, w, c, rest), more) = let a = ap length is in let l : length text ≡ suc (length bs) = ap length w in omega (arith, a, l)
spelled_heft (Reference digits forward) text (word, (is, all)) =
    let a : length text ≡ length digits + 1 = ap length is ∙ length-append digits (direction forward ∷ []) in omega (arith, a)
spelled_heft (Bad_word word) text (is, (b, bs, w, c, rest), p, q) = let a = ap length is in let l : length text ≡ suc (length bs) = ap length w in omega (arith, a, l)
spelled_heft (Punctuation puncts.Minus) text h = let a : length text ≡ 1 = ap length h in omega (arith, a)
spelled_heft (Punctuation _) text h = omega arith
spelled_heft Space text h = omega arith
spelled_heft Line_comment text h = omega arith
spelled_heft Block_comment text h = omega arith
spelled_heft Newline text h = omega arith
spelled_heft (Text bytes) text h = omega arith
spelled_heft (Character byte) text h = omega arith
spelled_heft Bad_byte text h = omega arith
spelled_heft Bad_token text h = omega arith
spelled_heft End text h = omega arith

tokens_total : (before rest : List ℕ) (ps : List (Piece Kind ℕ)) → Each Spells Stops ps rest → total (tokens_of before ps) ≤ 2 * length (texts ps)
tokens_total before rest [] each = omega arith
tokens_total before rest (p ∷ ps) (spelled, stops, each) = go (is_gap p.kind) (tokens_total (before ++ p.text) rest ps each)
  where
    long : length (p.text ++ texts ps) ≡ length p.text + length (texts ps)
    long = length-append p.text (texts ps)

    own : heft p.kind ≤ 2 * length p.text
    own = spelled_heft p.kind p.text spelled

    go : (b : Bool) → total (tokens_of (before ++ p.text) ps) ≤ 2 * length (texts ps)
        → total (if b then tokens_of (before ++ p.text) ps else placed before p ∷ tokens_of (before ++ p.text) ps) ≤ 2 * length (p.text ++ texts ps)
    go true h = omega (arith, h, long)
    go false h = omega (arith, h, long, own)

bad_heft : (c : Class) → heft (bad c) ≡ 0
bad_heft classes.Foreign = refl
bad_heft _ = refl

last_heft : (rest : List ℕ) → heft (last_kind rest) ≡ 0
last_heft [] = refl
last_heft (b ∷ bs) = bad_heft (class b)

lexed_total : (bytes : List ℕ) (ts : List Token) → Lexes bytes ts → total ts ≤ 2 * length bytes
lexed_total bytes ts (ps, rest, cut, is) =
    let a = ap total is ∙ total_append (tokens_of [] ps) (last (texts ps) rest ∷ []) in
    let b = tokens_total [] rest ps cut.0.each in
    let c = last_heft rest in
    let d = ap length cut.0.whole ∙ length-append (texts ps) rest in
    omega (arith, a, b, c, d)

-- ---- expressions

same_primary : (q p : Primary) (n : ℕ) → A_primary q ≡ A_primary p → weight (primary_names q) ≤ n → weight (primary_names p) ≤ n
same_primary q p n e h = let is : q ≡ p = cc in subst (λ (x : Primary). weight (primary_names x) ≤ n) is h

pub punct_none : (q : Punct) (p : Primary) → punct_begins q ≡ A_primary p → ⊥
punct_none puncts.Minus p e = cc
punct_none puncts.Tilde p e = cc
punct_none puncts.Plus p e = cc
punct_none puncts.Open p e = cc
punct_none puncts.DoubleSlash p e = cc
punct_none _ p e = cc

name_light : (r : List ℕ → Bool) (name : List ℕ) (p : Primary) → named_operand r name ≡ A_primary p → weight (primary_names p) ≤ 1 + length name
name_light r name p e = go (r name) (bytes_eq name (codes ".")) (nat_le (length name) longest_name) e
  where
    go : (a b c : Bool) → (if a then No_operand bad_operands else if b then A_primary Here else if c then A_primary (Symbol name) else No_operand limit) ≡ A_primary p → weight (primary_names p) ≤ 1 + length name
    go true b c f = absurd (cc)
    go false true c f = same_primary Here p (1 + length name) f (omega arith)
    go false false true f = same_primary (Symbol name) p (1 + length name) f (omega arith)
    go false false false f = absurd (cc)

primary_light : (r : List ℕ → Bool) (k : Kind) (p : Primary) → begins r k ≡ A_primary p → weight (primary_names p) ≤ heft k
primary_light r (Name name) p e = name_light r name p e
primary_light r (Number word number) p e = same_primary (Literal number) p (1 + length word) e (omega arith)
primary_light r (Character byte) p e = same_primary (Literal byte) p 0 e (omega arith)
primary_light r (Reference digits forward) p e = same_primary (Of_label digits forward) p (2 + length digits) e (omega arith)
primary_light r (Punctuation punct) p e = absurd (punct_none punct p e)
primary_light r (Text bytes) p e = absurd (cc)
primary_light r Bad_byte p e = absurd (cc)
primary_light r Bad_token p e = absurd (cc)
primary_light r (Bad_word word) p e = absurd (cc)
primary_light r _ p e = absurd (cc)

tree_light : (r : List ℕ → Bool) (x : Tree) (ts : List Token) → SpellsTree r x ts → weight (tree_names (bare x)) ≤ total ts
tree_light r (Leaf p) ts (t, is, e) =
    let a = ap total is in let b = primary_light r t.kind p e in omega (arith, a, b)
tree_light r (Unary o x) ts (t, us, is, e, spelled) =
    let a = ap total is in let b = tree_light r x us spelled in omega (arith, a, b)
tree_light r (Paren x) ts (t, u, us, is, e, f, spelled) =
    let a = ap total is in let c = total_append us (u ∷ []) in let b = tree_light r x us spelled in omega (arith, a, b, c)
tree_light r (Binary o x y) ts (us, vs, t, is, e, left, right) =
    let a = ap total is ∙ total_append us (t ∷ vs) in
    let b = tree_light r x us left in
    let c = tree_light r y vs right in
    let d = weight_append (tree_names (bare x)) (tree_names (bare y)) in
    omega (arith, a, b, c, d)

-- ---- operands

abbrev operand_weight : Operand → ℕ
operand_weight (Value e) = weight (tree_names e)
operand_weight (Applied f e) = weight (tree_names e)
operand_weight (Target e) = weight (tree_names e)
operand_weight (Word name) = 1 + length name
operand_weight _ = 0

abbrev load : List Operand → ℕ
load [] = 0
load (o ∷ os) = operand_weight o + load os

load_append : (xs ys : List Operand) → load (xs ++ ys) ≡ load xs + load ys
load_append [] ys = let n = load ys in let e : n ≡ 0 + n = omega arith in e
load_append (x ∷ xs) ys = let rest = load_append xs ys in omega (arith, rest)

same_operands : (os ps : List Operand) (n : ℕ) → Some os ≡ Some ps → load os ≤ n → load ps ≤ n
same_operands os ps n e h = let is : os ≡ ps = cc in subst (λ l. load l ≤ n) is h

symbol_light : (k : Kind) (name : List ℕ) → token_symbol k ≡ Some name → 1 + length name ≤ heft k
symbol_light (Name n) name e = go (is_symbol n) e
  where
    go : (b : Bool) → (if b then Some n else None) ≡ Some name → 1 + length name ≤ 1 + length n
    go true f = let is : n ≡ name = cc in let a = ap length is in omega (arith, a)
    go false f = absurd (cc)
symbol_light _ name e = absurd (cc)

when_none : (b : Bool) (os : List Operand) (n : ℕ) → (if b then Some [] else None) ≡ Some os → load os ≤ n
when_none true os n e = same_operands [] os n e (omega arith)
when_none false os n e = absurd (cc)

single_light : (s : Slot) (k : Kind) (os : List Operand) → single s k ≡ Some os → load os ≤ heft k
single_light (A_register_of set) k os e = go (kept_in set (register_of k)) e
  where
    go : (o : Option ℕ) → option_map (λ r. Register r ∷ []) o ≡ Some os → load os ≤ heft k
    go None e = absurd (cc)
    go (Some r) e = same_operands (Register r ∷ []) os (heft k) e (omega arith)
single_light A_zero k os e = when_none (is_zero k) os (heft k) e
single_light Some_accesses k os e = go (accesses_of k) e
  where
    go : (o : Option AccessSet) → option_map (λ set. Accesses set ∷ []) o ≡ Some os → load os ≤ heft k
    go None e = absurd (cc)
    go (Some set) e = same_operands (Accesses set ∷ []) os (heft k) e (omega arith)
single_light A_symbol k os e = go (token_symbol k) (symbol_light k) e
  where
    go : (o : Option (List ℕ)) → ((name : List ℕ) → o ≡ Some name → 1 + length name ≤ heft k) → option_map (λ name. Word name ∷ []) o ≡ Some os → load os ≤ heft k
    go None f e = absurd (cc)
    go (Some name) f e = same_operands (Word name ∷ []) os (heft k) e (let a = f name refl in omega (arith, a))
single_light A_string (Text bytes) os e = same_operands (Quoted bytes ∷ []) os 0 e (omega arith)
single_light A_string _ os e = absurd (cc)
single_light Some_flags (Text bytes) os e = same_operands (Quoted bytes ∷ []) os 0 e (omega arith)
single_light Some_flags _ os e = absurd (cc)
single_light At_sign k os e = when_none (is_at_sign k) os (heft k) e
single_light A_type (Name name) os e = same_operands (Word name ∷ []) os (1 + length name) e (omega arith)
single_light A_type _ os e = absurd (cc)
single_light An_option (Name name) os e = go (is_some (named_in choices name)) e
  where
    go : (b : Bool) → (if b then Some (Word name ∷ []) else None) ≡ Some os → load os ≤ 1 + length name
    go true e = same_operands (Word name ∷ []) os (1 + length name) e (omega arith)
    go false e = absurd (cc)
single_light An_option _ os e = absurd (cc)
single_light A_plt k os e = when_none (is_plt k) os (heft k) e
single_light (A_comma behind) k os e = when_none (is_comma k) os (heft k) e
single_light (An_opening behind) k os e = when_none (is_opening k) os (heft k) e
single_light A_closing k os e = when_none (is_closing k) os (heft k) e
single_light _ k os e = absurd (cc)

value_light : (ts : List Token) (e : Expression) → IsValue ts e → weight (tree_names e) ≤ total ts
value_light ts e (tree, spelled, at, deep, is) = subst (λ (x : Tree). weight (tree_names x) ≤ total ts) (sym is) (tree_light is_register tree ts spelled)

label_light : (k : Kind) (e : Expression) → label_named k ≡ Some e → weight (tree_names e) ≤ heft k
label_light (Name name) e f = go (is_symbol name) f
  where
    go : (b : Bool) → (if b then Some (Leaf (Symbol name)) else None) ≡ Some e → weight (tree_names e) ≤ 1 + length name
    go true g = let is : Leaf (Symbol name) ≡ e = cc in subst (λ (x : Tree). weight (tree_names x) ≤ 1 + length name) is (omega arith)
    go false g = absurd (cc)
label_light (Reference digits forward) e f = let is : Leaf (Of_label digits forward) ≡ e = cc in subst (λ (x : Tree). weight (tree_names x) ≤ 2 + length digits) is (omega arith)
label_light _ e f = absurd (cc)

argument_light : (f : Function) (ts : List Token) (e : Expression) → IsArgument f ts e → weight (tree_names e) ≤ total ts
argument_light functions.PcrelLo ts e (t, is, named) = let a = ap total is in let b = label_light t.kind e named in omega (arith, a, b)
argument_light functions.Hi ts e h = value_light ts e h
argument_light functions.Lo ts e h = value_light ts e h
argument_light functions.PcrelHi ts e h = value_light ts e h

valued_weight : (b : Bool) (e : Expression) → operand_weight (if b then Target e else Value e) ≡ weight (tree_names e)
valued_weight true e = refl
valued_weight false e = refl

value_in_light : (role : Role) (ts : List Token) (o : Operand) → IsValueIn role ts o → operand_weight o ≤ total ts
value_in_light role ts o (inl (e, value, fine, is)) =
    let a = ap operand_weight is ∙ valued_weight (targets role) e in let b = value_light ts e value in omega (arith, a, b)
value_in_light role ts o (inr (p, n, q, argument, c, f, e, is, percent, function, opening, spelled, closing, fine, says)) =
    let a = ap total is in
    let b = total_append argument (c ∷ []) in
    let d = argument_light f argument e spelled in
    let g = ap operand_weight says in
    omega (arith, a, b, d, g)

one_in_light : (role : Role) (ts : List Token) (os : List Operand) → IsOneIn role ts os → load os ≤ total ts
one_in_light role ts os (o, value, is) = let a = ap load is in let b = value_in_light role ts o value in omega (arith, a, b)

base_light : (set : RegisterSet) (ts : List Token) (os : List Operand) → IsBase set ts os → load os ≤ total ts
base_light set ts os (o, r, c, number, is, a, b, d, says) = let g : load os ≡ 0 = ap load says in omega (arith, g)

linked_light : (ts : List Token) (os : List Operand) → IsLinked ts os → load os ≤ total ts
linked_light ts os (f, a, p, name, is, symbol, at, plt, says) =
    let b = ap total is in let c = symbol_light f.kind name symbol in let d = ap load says in omega (arith, b, c, d)

one_token_light : (s : Slot) (ts : List Token) (os : List Operand) → ((t : Token) × (ts ≡ t ∷ []) × (single s t.kind ≡ Some os)) → load os ≤ total ts
one_token_light s ts os (t, is, e) = let a = ap total is in let b = single_light s t.kind os e in omega (arith, a, b)

-- the name of a section is several tokens
added_light : (k : Kind) (bytes : List ℕ) → joined_bytes k ≡ Some bytes → length bytes ≤ heft k
added_light (Name name) bytes e = let is : name ≡ bytes = cc in let a = ap length is in omega (arith, a)
added_light (Number word number) bytes e = let is : word ≡ bytes = cc in let a = ap length is in omega (arith, a)
added_light (Reference digits forward) bytes e =
    let is : digits ++ direction forward ∷ [] ≡ bytes = cc in
    let a = sym (ap length is) ∙ length-append digits (direction forward ∷ []) in
    omega (arith, a)
added_light (Bad_word word) bytes e = let is : word ≡ bytes = cc in let a = ap length is in omega (arith, a)
added_light (Punctuation puncts.Minus) bytes e = let is : codes "-" ≡ bytes = cc in let a : 1 ≡ length bytes = ap length is in omega (arith, a)
added_light (Punctuation _) bytes e = absurd (cc)
added_light _ bytes e = absurd (cc)

after_light : (offset : ℕ) (ts : List Token) (bytes : List ℕ) → AreAfter offset ts bytes → length bytes ≤ total ts
after_light offset [] bytes h = let a : length bytes ≡ 0 = ap length h in omega (arith, a)
after_light offset (t ∷ ts) bytes (at, first, rest, own, is, more) =
    let a = ap length is ∙ length-append first rest in
    let b = added_light t.kind first own in
    let c = after_light t.stop ts rest more in
    omega (arith, a, b, c)

joined_light : (ts : List Token) (name : List ℕ) → IsJoined ts name → 1 + length name ≤ total ts
joined_light [] name h = absurd h
joined_light (t ∷ ts) name (first, rest, kind, is, more) =
    let a = ap length is ∙ length-append first rest in
    let b = ap heft kind in
    let c = after_light t.stop ts rest more in
    omega (arith, a, b, c)

operand_light : (s : Slot) (ts : List Token) (os : List Operand) → IsOperand s ts os → load os ≤ total ts
operand_light (A_value role) ts os h = one_in_light role ts os h
operand_light (An_address_by set) ts os (inl h) = base_light set ts os h
operand_light (An_address_by set) ts os (inr (one, rest, o, base, is, value, based, says)) =
    let a = ap total is ∙ total_append one rest in
    let b = value_in_light roles.Operand one o value in
    let c = base_light set rest base based in
    let d = ap load says in
    omega (arith, a, b, c, d)
operand_light A_callee ts os (inl h) = one_in_light roles.Target ts os h
operand_light A_callee ts os (inr h) = linked_light ts os h
operand_light A_section ts os (name, joined, fine, is) = let a = ap load is in let b = joined_light ts name joined in omega (arith, a, b)
operand_light (A_register_of set) ts os h = one_token_light (A_register_of set) ts os h
operand_light A_zero ts os h = one_token_light A_zero ts os h
operand_light Some_accesses ts os h = one_token_light Some_accesses ts os h
operand_light A_symbol ts os h = one_token_light A_symbol ts os h
operand_light A_string ts os h = one_token_light A_string ts os h
operand_light Some_flags ts os h = one_token_light Some_flags ts os h
operand_light At_sign ts os h = one_token_light At_sign ts os h
operand_light A_type ts os h = one_token_light A_type ts os h
operand_light An_option ts os h = one_token_light An_option ts os h
operand_light A_plt ts os h = one_token_light A_plt ts os h
operand_light (A_comma behind) ts os h = one_token_light (A_comma behind) ts os h
operand_light (An_opening behind) ts os h = one_token_light (An_opening behind) ts os h
operand_light A_closing ts os h = one_token_light A_closing ts os h

abbrev IsLight : (List Token → List Operand → Type 0) → Type 0
IsLight N = (ts : List Token) (os : List Operand) → N ts os → load os ≤ total ts

taken_light : (s : Slot) (N : List Token → List Operand → Type 0) → IsLight N → IsLight (TakesSlot s N)
taken_light s N later ts os (one, rest, now, more, is, operand, further, says) =
    let a = ap total is ∙ total_append one rest in
    let b = operand_light s one now operand in
    let c = later rest more further in
    let d = ap load says ∙ load_append now more in
    omega (arith, a, b, c, d)

further_light : (N : List Token → List Operand → Type 0) → IsLight N → IsLight (IsFurther N)
further_light N later ts os (c, rest, is, comma, n) = let a = ap total is in let b = later rest os n in omega (arith, a, b)

items_light : (n : ℕ) (s : Slot) → IsLight (AreItems n s)
items_light zero s ts os h = absurd h
items_light (suc zero) s ts os h = operand_light s ts os h
items_light (suc (suc n)) s ts os h = taken_light s _ (further_light _ (items_light (suc n) s)) ts os h

none_light : (ts : List Token) (os : List Operand) → os ≡ [] → load os ≤ total ts
none_light ts os is = let a : load os ≡ 0 = ap load is in omega (arith, a)

operands_light : (s : Slots) → IsLight (AreOperands s)
operands_light (Ends_here behind) ts os (is, says) = none_light ts os says
operands_light (Takes s rest) ts os h = taken_light s _ (operands_light rest) ts os h
operands_light (Chooses s rest others) ts os (inl h) = taken_light s _ (operands_light rest) ts os h
operands_light (Chooses s rest others) ts os (inr (front, h)) = operands_light others ts os h
operands_light (Locates rest) ts os (inl h) = operand_light An_address ts os h
operands_light (Locates rest) ts os (inr h) = taken_light A_target _ (operands_light rest) ts os h
operands_light (Lists s) ts os (n, h) = items_light n s ts os h
operands_light Anything ts os (any, says) = none_light ts os says

-- ---- statements

abbrev Said : StatementKind → ℕ
Said kind = weight (said_names kind)

expressions_light : (os : List Operand) → weight (flat_map tree_names (flat_map in_operand os)) ≤ load os
expressions_light [] = omega arith
expressions_light (o ∷ os) = go o (expressions_light os)
  where
    more : (e : Expression) → weight (tree_names e ++ flat_map tree_names (flat_map in_operand os)) ≡ weight (tree_names e) + weight (flat_map tree_names (flat_map in_operand os))
    more e = weight_append (tree_names e) (flat_map tree_names (flat_map in_operand os))

    go : (o : Operand) → weight (flat_map tree_names (flat_map in_operand os)) ≤ load os → weight (flat_map tree_names (in_operand o ++ flat_map in_operand os)) ≤ operand_weight o + load os
    go (Value e) rest = let a = more e in omega (arith, a, rest)
    go (Applied f e) rest = let a = more e in omega (arith, a, rest)
    go (Target e) rest = let a = more e in omega (arith, a, rest)
    go (Register number) rest = omega (arith, rest)
    go (Accesses set) rest = omega (arith, rest)
    go (Word name) rest = omega (arith, rest)
    go (Quoted bytes) rest = omega (arith, rest)

values_light : (os : List Operand) → weight (flat_map tree_names (values_in os)) ≤ load os
values_light [] = omega arith
values_light (Value e ∷ os) = let a = weight_append (tree_names e) (flat_map tree_names (values_in os)) in let rest = values_light os in omega (arith, a, rest)
values_light (Applied f e ∷ os) = let rest = values_light os in omega (arith, rest)
values_light (Target e ∷ os) = let rest = values_light os in omega (arith, rest)
values_light (Register number ∷ os) = let rest = values_light os in omega (arith, rest)
values_light (Accesses set ∷ os) = let rest = values_light os in omega (arith, rest)
values_light (Word name ∷ os) = let rest = values_light os in omega (arith, rest)
values_light (Quoted bytes ∷ os) = let rest = values_light os in omega (arith, rest)

words_light : (os : List Operand) → weight (names_in os) ≤ load os
words_light [] = omega arith
words_light (Word name ∷ os) = let rest = words_light os in omega (arith, rest)
words_light (Value e ∷ os) = let rest = words_light os in omega (arith, rest)
words_light (Applied f e ∷ os) = let rest = words_light os in omega (arith, rest)
words_light (Target e ∷ os) = let rest = words_light os in omega (arith, rest)
words_light (Register number ∷ os) = let rest = words_light os in omega (arith, rest)
words_light (Accesses set ∷ os) = let rest = words_light os in omega (arith, rest)
words_light (Quoted bytes ∷ os) = let rest = words_light os in omega (arith, rest)

-- names with none behind them
no_more : (names : List (List ℕ)) → weight (names ++ []) ≡ weight names
no_more names = let a = weight_append names [] in omega (arith, a)

chosen_light : (o : Option Choice) → Said (Directs (option_directive o)) ≡ 0
chosen_light (Some choice) = refl
chosen_light None = refl

section_light : (name : List ℕ) (later : List Operand) → Said (Directs (directed words.Section (Word name ∷ later))) ≤ load (Word name ∷ later)
section_light name [] = omega arith
section_light name (Quoted flags ∷ []) = omega arith
section_light name (Quoted flags ∷ Word kind ∷ size) = omega arith
section_light name _ = omega arith

directed_light : (word : DirectiveWord) (os : List Operand) → Said (Directs (directed word os)) ≤ load os
directed_light words.Section (Word name ∷ later) = section_light name later
directed_light words.Section _ = omega arith
directed_light (words.Enters section) os = omega arith
directed_light (words.Binds binding) os = let a = no_more (names_in os) in let b = words_light os in omega (arith, a, b)
directed_light words.Set (Word name ∷ Value e ∷ []) = let a = no_more (name ∷ tree_names e) in omega (arith, a)
directed_light words.Set _ = omega arith
directed_light words.AlignToPower (Value e ∷ []) = let a = no_more (tree_names e) in omega (arith, a)
directed_light words.AlignToPower _ = omega arith
directed_light words.AlignToBytes (Value e ∷ []) = let a = no_more (tree_names e) in omega (arith, a)
directed_light words.AlignToBytes _ = omega arith
directed_light (words.Value width) os = values_light os
directed_light words.Ascii os = omega arith
directed_light words.Asciz os = omega arith
directed_light words.Zero (Value e ∷ []) = let a = no_more (tree_names e) in omega (arith, a)
directed_light words.Zero _ = omega arith
directed_light words.Option (Word name ∷ []) = let a = chosen_light (named_in choices name) in omega (arith, a)
directed_light words.Option _ = omega arith
directed_light words.Ignored os = omega arith

labelled_light : (k : Kind) (name : List ℕ) → label_of k ≡ Some (Label name) → 1 + length name ≤ heft k
labelled_light (Name n) name e = go (is_symbol n) e
  where
    go : (b : Bool) → (if b then Some (Label n) else None) ≡ Some (Label name) → 1 + length name ≤ 1 + length n
    go true f = let is : n ≡ name = cc in let a = ap length is in omega (arith, a)
    go false f = absurd (cc)
labelled_light (Number word number) name e = absurd (numbered_none _ (list_all is_decimal word) e)
  where
    numbered_none : (n : ℕ) (b : Bool) → (if b then Some (Numbered n) else None) ≡ Some (Label name) → ⊥
    numbered_none n true f = cc
    numbered_none n false f = cc
labelled_light (Bad_word word) name e = absurd (numbered_none _ (list_all is_decimal word) e)
  where
    numbered_none : (n : ℕ) (b : Bool) → (if b then Some (Numbered n) else None) ≡ Some (Label name) → ⊥
    numbered_none n true f = cc
    numbered_none n false f = cc
labelled_light _ name e = absurd (cc)

statement_light : (ts : List Token) (kind : StatementKind) → IsStatement ts kind → Said kind ≤ total ts
statement_light ts (Label name) (t, c, is, e, colon) =
    let a = ap total is in let b = labelled_light t.kind name e in omega (arith, a, b)
statement_light ts (Numbered number) h = omega arith
statement_light ts (Instruction mnemonic operands) (t, rest, is, colon, begun, h) =
    let a = ap total is in
    let b = operands_light (slots mnemonic) rest operands h in
    let c = expressions_light operands in
    omega (arith, a, b, c)
statement_light ts (Directs directive) (t, rest, word, operands, is, colon, begun, h, says) =
    let a = ap total is in
    let b = operands_light (operand_slots word) rest operands h in
    let c = directed_light word operands in
    let d = ap (λ d. Said (Directs d)) says in
    omega (arith, a, b, c, d)

-- ---- the whole

said_append : (xs ys : List Statement) → all_said (xs ++ ys) ≡ all_said xs + all_said ys
said_append [] ys = let n = all_said ys in let e : n ≡ 0 + n = omega arith in e
said_append (x ∷ xs) ys = let rest = said_append xs ys in omega (arith, rest)

told_light : (p : SourcePart) (ts : List Token) → IsPart p ts → all_said (told p ts) ≤ total ts
told_light Ends ts h = omega arith
told_light (Says statement) [] h = omega arith
told_light (Says statement) (t ∷ ts) h = let a = statement_light (t ∷ ts) statement h in omega (arith, a)

parts_light : (ps : List (Piece SourcePart Token)) → Each IsPart StopsPart ps [] → all_said (statements_of_parts ps) ≤ total (texts ps)
parts_light [] each = omega arith
parts_light (p ∷ ps) (is, stops, each) =
    let a = said_append (told p.kind p.text) (statements_of_parts ps) in
    let b = told_light p.kind p.text is in
    let c = parts_light ps each in
    let d = total_append p.text (texts ps) in
    omega (arith, a, b, c, d)

pub light_names : (bytes : List ℕ) (ss : List Statement) → Reads bytes ss → all_said ss ≤ 2 * longest_source
light_names bytes ss (short, lines, few, ts, ps, lexes, cuts, says, opens) =
    let a = ap all_said says in
    let b = parts_light ps cuts.each in
    let c = ap total cuts.whole ∙ total_append (texts ps) [] in
    let d = lexed_total bytes ts lexes in
    omega (arith, a, b, c, d, short)

pub small : (bytes : List ℕ) (ss : List Statement) → Reads bytes ss → AreSmall ss
small bytes ss reads = record { few = reads.2; names = light_names bytes ss reads }
