-- Operands of a line: the lexemes of each, and what their tokens are in a place.

use Rattle.std.proofs.Common.{◌≡◌, ℕ, suc, ℤ, pos, negsuc, ◌+◌, ◌*◌, ◌^◌, ◌<◌, ◌≤◌, true, false, List, [], ◌∷◌, ◌++◌, length, length-append, flat_map, Some, option_map, refl, sym, ◌∙◌, ap, subst, arith, append_assoc, inl, inr}
use Rattle.std.proofs.lemmas.List.{append-nil}
use Rattle.std.specs.List.{list_all}
use Rattle.std.specs.Fmt.{decimal, signed_decimal}
use Rattle.rv_expression_laws.specs.Bytes.{in_line}
use Rattle.rv_expression_laws.specs.Cut.{texts}
use Rattle.rv_expression_laws.specs.Grammar.{Name, Number}
use Rattle.rv_expression_laws.specs.Lexing.{Token, placed, tokens_of}
use Rattle.rv_expression_laws.specs.Expression.{Leaf, Unary, Binary, Literal, Here, begins, A_primary}
use Rattle.rv_expression_laws.specs.declared.operator.UnaryOperator.TheVariants.{Negate}
use Rattle.rv_expression_laws.specs.declared.operator.BinaryOperator.TheVariants.{Add, Subtract}
use Rattle.rv_isa.specs.declared.operation.AccessSet.{AccessSet}
use Rattle.rv_isa.specs.RegisterNames.{abi_names}
use Rattle.rv_parcel.specs.declared.parcel.RegisterSet.{RegisterSet}
use Rattle.rv_parcel.specs.declared.parcel.RegisterSet.TheVariants.{Any, Nonzero, Short, Stack, Upper}
use Rattle.rv_parcel.specs.Mnemonics.{is_of_set}
use Rattle.std.proofs.lemmas.Bool.Decides.{nat_tests}
use Rattle.rv_parse_laws.specs.Words.{register, register_names, named_in}
use Rattle.rv_statement_laws.specs.Statement.{Operand, Register, Value, Target, Accesses, Expression}
use Rattle.rv_parse_laws.specs.declared.role.Role.{Role}
use Rattle.rv_parse_laws.specs.declared.role.Role.TheVariants as roles
use Rattle.rv_parse_laws.specs.Syntax.{Slot, A_register, A_register_of, A_value, An_address, An_address_by, kept_in, A_comma, A_target, Some_accesses, access_sets, Slots, Stops as Ends_here, Takes, Chooses, Locates, atomic_address, jump_target, IsValue, IsValueIn, IsOperand, IsBase, IsOffset, AreOperands, targets, is_refused, front_begins, colon_next, is_register}
use Rattle.rv_listing_laws.specs.Instruction.{abi_register as abi, in_parentheses, based, distant, accesses}
use Rattle.rv_raw_theorems.specs.Statements.{IsSmall, constant_expression, from_dot, access_set}
use Rattle.rv_raw_theorems.proofs.LexemesLemmas.{Lexeme, lexeme, word, comma, opening, closing, plus, minus, Breaks, Stand, texts-append, each-append, tokens-append, in_line-append, is_name, name_spells, name_stops, name_in_line, name_some, number_stops, comma_stops, opening_stops, closing_stops, plus_stops, minus_stops}
use Rattle.rv_raw_theorems.proofs.NumbersLemmas.{IsNumeral, decimal_numeral}
use Rattle.rv_raw_theorems.proofs.NamesLemmas.{register_named}

-- lexemes that show a text within a line
pub record Shown (ps : List Lexeme) (text : List ℕ) (limit : ℕ) : Type 0 where
  pub is_text : texts ps ≡ text
  pub stand : Stand ps
  pub in_lines : list_all in_line text ≡ true
  pub front : (before : List ℕ) (more : List Token) → colon_next (tokens_of before ps ++ more) ≡ false
  pub some : 0 < length text
  pub short : length text ≤ limit

-- a text that is an operand in a place
pub record IsArgument (slot : Slot) (text : List ℕ) (os : List Operand) : Type 0 where
  pub lexemes : List Lexeme
  pub shown : Shown lexemes text 89
  pub means : (before : List ℕ) → IsOperand slot (tokens_of before lexemes) os

abbrev pub commas : List (List ℕ) → List ℕ
commas [] = []
commas (first ∷ others) = first ++ flat_map (λ operand. 44 ∷ operand) others

-- texts with commas between that are the operands in these places
pub record AreArguments (slots : Slots) (ts : List (List ℕ)) (os : List Operand) : Type 0 where
  pub lexemes : List Lexeme
  pub shown : Shown lexemes (commas ts) (90 * length ts)
  pub means : (before : List ℕ) → AreOperands slots (tokens_of before lexemes) os

-- ---- lexemes after lexemes

-- lexemes whose first is not of a word
abbrev Parted : List Lexeme → Type 0
Parted qs = (rest : List ℕ) → Breaks (texts qs ++ rest)

shown_after : (ps qs : List Lexeme) (t u : List ℕ) (m n : ℕ) → Shown ps t m → Shown qs u n → Parted qs → Shown (ps ++ qs) (t ++ u) (m + n)
shown_after ps qs t u m n a b parted = record {
  is_text = texts-append ps qs ∙ ap (λ x. x ++ texts qs) a.is_text ∙ ap (λ x. t ++ x) b.is_text;
  stand = λ rest h. each-append ps qs rest (a.stand (texts qs ++ rest) (parted rest)) (b.stand rest h);
  in_lines = in_line-append t u a.in_lines b.in_lines;
  front = λ before more. subst (λ x. colon_next x ≡ false) (sym (ap (λ x. x ++ more) (tokens-append before ps qs) ∙ append_assoc (tokens_of before ps) (tokens_of (before ++ texts ps) qs) more)) (a.front before (tokens_of (before ++ texts ps) qs ++ more));
  some = (let s = a.some in omega (arith, s, length-append t u));
  short = (let s = a.short in let r = b.short in omega (arith, s, r, length-append t u));
}

shown_comma : (qs : List Lexeme) (u : List ℕ) (n : ℕ) → Shown qs u n → Shown (comma ∷ qs) (44 ∷ u) (suc n)
shown_comma qs u n b = record {
  is_text = ap (λ x. 44 ∷ x) b.is_text;
  stand = λ rest h. (refl, comma_stops (texts qs ++ rest), b.stand rest h);
  in_lines = b.in_lines;
  front = λ before more. refl;
  some = omega arith;
  short = (let r = b.short in omega (arith, r));
}

wider : (ps : List Lexeme) (t : List ℕ) (m n : ℕ) → m ≤ n → Shown ps t m → Shown ps t n
wider ps t m n le a = record { is_text = a.is_text; stand = a.stand; in_lines = a.in_lines; front = a.front; some = a.some; short = (let s = a.short in omega (arith, s, le)) }

-- ---- operands after operands

-- one alone, where its tokens are all operands
pub alone : (slots : Slots) (ps : List Lexeme) (t : List ℕ) (os : List Operand) → Shown ps t 89 → ((before : List ℕ) → AreOperands slots (tokens_of before ps) os) → AreArguments slots (t ∷ []) os
alone slots ps t os h means = record {
  lexemes = ps;
  shown = (let short = h.short in record {
    is_text = h.is_text ∙ sym (append-nil t);
    stand = h.stand;
    in_lines = subst (λ x. list_all in_line x ≡ true) (sym (append-nil t)) h.in_lines;
    front = h.front;
    some = subst (λ x. 0 < length x) (sym (append-nil t)) h.some;
    short = subst (λ x. length x ≤ 90) (sym (append-nil t)) (omega (arith, short));
  });
  means = means;
}

-- the last
pub ending : (s b : Slot) (t : List ℕ) (os : List Operand) → IsArgument s t os → AreArguments (Takes s (Ends_here b)) (t ∷ []) os
ending s b t os a = alone (Takes s (Ends_here b)) a.lexemes t os a.shown (λ before. (tokens_of before a.lexemes, [], os, [], sym (append-nil (tokens_of before a.lexemes)), a.means before, (refl, refl), sym (append-nil os)))

-- the last, where others might stand in its place
pub chosen_last : (s b : Slot) (others : Slots) (t : List ℕ) (os : List Operand) → IsArgument s t os → AreArguments (Chooses s (Ends_here b) others) (t ∷ []) os
chosen_last s b others t os a = alone (Chooses s (Ends_here b) others) a.lexemes t os a.shown (λ before. inl (tokens_of before a.lexemes, [], os, [], sym (append-nil (tokens_of before a.lexemes)), a.means before, (refl, refl), sym (append-nil os)))

pub located : (rest : Slots) (t : List ℕ) (os : List Operand) → IsArgument An_address t os → AreArguments (Locates rest) (t ∷ []) os
located rest t os a = alone (Locates rest) a.lexemes t os a.shown (λ before. inl (a.means before))

-- one, a comma and more
before_more : (s b : Slot) (rest slots : Slots) (t u : List ℕ) (ts : List (List ℕ)) (now later : List Operand) (a : IsArgument s t now) (m : AreArguments rest (u ∷ ts) later)
    → ((before : List ℕ) → AreOperands (Takes s (Takes (A_comma b) rest)) (tokens_of before (a.lexemes ++ comma ∷ m.lexemes)) (now ++ later) → AreOperands slots (tokens_of before (a.lexemes ++ comma ∷ m.lexemes)) (now ++ later))
    → AreArguments slots (t ∷ u ∷ ts) (now ++ later)
before_more s b rest slots t u ts now later a m f = record {
  lexemes = a.lexemes ++ comma ∷ m.lexemes;
  shown = wider (a.lexemes ++ comma ∷ m.lexemes) (commas (t ∷ u ∷ ts)) (89 + suc (90 * length (u ∷ ts))) (90 * length (t ∷ u ∷ ts)) (omega arith)
      (shown_after a.lexemes (comma ∷ m.lexemes) t (44 ∷ commas (u ∷ ts)) 89 (suc (90 * length (u ∷ ts))) a.shown (shown_comma m.lexemes (commas (u ∷ ts)) (90 * length (u ∷ ts)) m.shown) (λ rest. refl));
  means = λ before. f before (
    tokens_of before a.lexemes,
    placed (before ++ texts a.lexemes) comma ∷ tokens_of ((before ++ texts a.lexemes) ++ 44 ∷ []) m.lexemes,
    now,
    later,
    tokens-append before a.lexemes (comma ∷ m.lexemes),
    a.means before,
    (placed (before ++ texts a.lexemes) comma ∷ [], tokens_of ((before ++ texts a.lexemes) ++ 44 ∷ []) m.lexemes, [], later, refl, (placed (before ++ texts a.lexemes) comma, refl, refl), m.means ((before ++ texts a.lexemes) ++ 44 ∷ []), refl),
    refl,
  );
}

pub taken : (s b : Slot) (rest : Slots) (t u : List ℕ) (ts : List (List ℕ)) (now later : List Operand) → IsArgument s t now → AreArguments rest (u ∷ ts) later → AreArguments (Takes s (Takes (A_comma b) rest)) (t ∷ u ∷ ts) (now ++ later)
taken s b rest t u ts now later a m = before_more s b rest (Takes s (Takes (A_comma b) rest)) t u ts now later a m (λ before x. x)

pub chosen : (s b : Slot) (rest others : Slots) (t u : List ℕ) (ts : List (List ℕ)) (now later : List Operand) → IsArgument s t now → AreArguments rest (u ∷ ts) later → AreArguments (Chooses s (Takes (A_comma b) rest) others) (t ∷ u ∷ ts) (now ++ later)
chosen s b rest others t u ts now later a m = before_more s b rest (Chooses s (Takes (A_comma b) rest) others) t u ts now later a m (λ before x. inl x)

-- the same, where the statement might end before the comma
pub chosen_further : (s b : Slot) (rest instead others : Slots) (t u : List ℕ) (ts : List (List ℕ)) (now later : List Operand) → IsArgument s t now → AreArguments rest (u ∷ ts) later
    → AreArguments (Chooses s (Chooses (A_comma b) rest instead) others) (t ∷ u ∷ ts) (now ++ later)
chosen_further s b rest instead others t u ts now later a m =
    before_more s b rest (Chooses s (Chooses (A_comma b) rest instead) others) t u ts now later a m (λ before x. inl (x.0, x.1, x.2, x.3, x.4, x.5, inl x.6, x.7))

-- ---- registers

-- a register of a set is one of the machine
pub machine_register : (set : RegisterSet) (r : ℕ) → is_of_set set r ≡ true → r < 32
machine_register Any r h = grind (arith, nat_tests, h)
machine_register Nonzero r h = grind (arith, nat_tests, h)
machine_register Short r h = grind (arith, nat_tests, h)
machine_register Stack r h = grind (arith, nat_tests, h)
machine_register Upper r h = grind (arith, nat_tests, h)

pub any_register : (r : ℕ) → r < 32 → is_of_set Any r ≡ true
any_register r lt = grind (arith, nat_tests, lt)

kept : (set : RegisterSet) (r : ℕ) → is_of_set set r ≡ true → kept_in set (Some r) ≡ Some r
kept Any r h = refl
kept _ r h = rw h refl

-- its name in a place for the set
register_kept : (set : RegisterSet) (r : ℕ) → is_of_set set r ≡ true → kept_in set (register (abi r)) ≡ Some r
register_kept set r h = let known = register_named r (machine_register set r h) in rw known.named (kept set r h)

name_shown : (r : ℕ) → r < 32 → Shown (word (abi r) ∷ []) (abi r) 20
name_shown r lt =
    let h = register_named r lt in
    record {
      is_text = append-nil (abi r);
      stand = λ rest b. (name_spells (abi r) h.is_word, name_stops (abi r) rest b, tt);
      in_lines = name_in_line (abi r) h.is_word;
      front = λ before more. refl;
      some = name_some (abi r) h.is_word;
      short = h.short;
    }

pub of_register : (set : RegisterSet) (r : ℕ) → is_of_set set r ≡ true → IsArgument (A_register_of set) (abi r) (Register r ∷ [])
of_register set r is = record {
  lexemes = word (abi r) ∷ [];
  shown = wider (word (abi r) ∷ []) (abi r) 20 89 (omega arith) (name_shown r (machine_register set r is));
  means = λ before. (placed before (word (abi r)), refl, ap (λ o. option_map (λ (r : ℕ). Register r ∷ []) o) (register_kept set r is));
}

-- (a0)
unfoldable pub base_lexemes : ℕ → List Lexeme
base_lexemes r = opening ∷ word (abi r) ∷ closing ∷ []

base_shown : (r : ℕ) → r < 32 → Shown (base_lexemes r) (in_parentheses r) 22
unfolding base_lexemes
base_shown r lt =
    let h = register_named r lt in
    let short = h.short in
    record {
      is_text = refl;
      stand = λ rest b. (refl, opening_stops ((abi r ++ 41 ∷ []) ++ rest), (name_spells (abi r) h.is_word, refl, (refl, closing_stops rest, tt)));
      in_lines = in_line-append (abi r) (41 ∷ []) (name_in_line (abi r) h.is_word) refl;
      front = λ before more. refl;
      some = omega arith;
      short = omega (arith, short, length-append (abi r) (41 ∷ []));
    }

base_is : (set : RegisterSet) (r : ℕ) → is_of_set set r ≡ true → (before : List ℕ) → IsBase set (tokens_of before (base_lexemes r)) (Register r ∷ [])
unfolding base_lexemes
base_is set r is before =
    let after : List ℕ = before ++ 40 ∷ [] in
    (placed before opening, placed after (word (abi r)), placed (after ++ abi r) closing, r, refl, refl, register_kept set r is, refl, refl)

-- ---- numbers

unfoldable pub number_lexeme : List ℕ → ℕ → Lexeme
number_lexeme text n = lexeme (Number text n) text

number_shown : (text : List ℕ) (n : ℕ) → IsNumeral text n → Shown (number_lexeme text n ∷ []) text 66
unfolding number_lexeme
number_shown text n s = record {
  is_text = append-nil text;
  stand = λ rest b. (s.spells, number_stops text n rest b, tt);
  in_lines = s.in_lines;
  front = λ before more. refl;
  some = s.some;
  short = s.short;
}

-- an expression as a value
pub valued_as : (role : Role) → targets role ≡ false → (ts : List Token) (e : Expression) → IsValue ts e → IsValueIn role ts (Value e)
valued_as role value ts e is = inl (e, is, rw value refl, rw value refl)

literal_is : (text : List ℕ) (n : ℕ) (before : List ℕ) → IsValue (tokens_of before (number_lexeme text n ∷ [])) (Leaf (Literal n))
unfolding number_lexeme
literal_is text n before = (Leaf (Literal n), (placed before (lexeme (Number text n) text), refl, refl), tt, omega arith, refl)

pub of_number : (role : Role) → targets role ≡ false → (text : List ℕ) (n : ℕ) → IsNumeral text n → IsArgument (A_value role) text (Value (Leaf (Literal n)) ∷ [])
of_number role value text n s = record {
  lexemes = number_lexeme text n ∷ [];
  shown = wider (number_lexeme text n ∷ []) text 66 89 (omega arith) (number_shown text n s);
  means = λ before. (Value (Leaf (Literal n)), valued_as role value (tokens_of before (number_lexeme text n ∷ [])) (Leaf (Literal n)) (literal_is text n before), refl);
}

-- a number with its sign
unfoldable pub signed_lexemes : ℤ → List Lexeme
signed_lexemes (pos n) = number_lexeme (decimal n) n ∷ []
signed_lexemes (negsuc n) = minus ∷ number_lexeme (decimal (suc n)) (suc n) ∷ []

small_numeral : (n : ℕ) → n ≤ 2 ^ 21 → IsNumeral (decimal n) n
small_numeral n small = decimal_numeral n (omega (arith, small))

signed_shown : (z : ℤ) → IsSmall z → Shown (signed_lexemes z) (signed_decimal z) 67
unfolding signed_lexemes
signed_shown (pos n) small = wider (number_lexeme (decimal n) n ∷ []) (decimal n) 66 67 (omega arith) (number_shown (decimal n) n (small_numeral n (omega (arith, small))))
signed_shown (negsuc n) small =
    let h = number_shown (decimal (suc n)) (suc n) (small_numeral (suc n) (omega (arith, small))) in
    let short = h.short in
    record {
      is_text = ap (λ x. 45 ∷ x) h.is_text;
      stand = λ rest b. (refl, minus_stops (texts (number_lexeme (decimal (suc n)) (suc n) ∷ []) ++ rest), h.stand rest b);
      in_lines = h.in_lines;
      front = λ before more. refl;
      some = omega arith;
      short = omega (arith, short);
    }

pub signed_is : (z : ℤ) (before : List ℕ) → IsValue (tokens_of before (signed_lexemes z)) (constant_expression z)
unfolding signed_lexemes number_lexeme
signed_is (pos n) before = literal_is (decimal n) n before
signed_is (negsuc n) before =
    let us = tokens_of (before ++ 45 ∷ []) (number_lexeme (decimal (suc n)) (suc n) ∷ []) in
    (Unary Negate (Leaf (Literal (suc n))), (placed before minus, us, refl, refl, (placed (before ++ 45 ∷ []) (number_lexeme (decimal (suc n)) (suc n)), refl, refl)), tt, omega arith, refl)

pub of_signed : (role : Role) → targets role ≡ false → (z : ℤ) → IsSmall z → IsArgument (A_value role) (signed_decimal z) (Value (constant_expression z) ∷ [])
of_signed role value z small = record {
  lexemes = signed_lexemes z;
  shown = wider (signed_lexemes z) (signed_decimal z) 67 89 (omega arith) (signed_shown z small);
  means = λ before. (Value (constant_expression z), valued_as role value (tokens_of before (signed_lexemes z)) (constant_expression z) (signed_is z before), refl);
}

-- `.+4` and `.-4`: `.`, an operator and a number
dot : Lexeme
dot = word (46 ∷ [])

dot_begins : begins is_register (Name (46 ∷ [])) ≡ A_primary Here
unfolding register register_names abi_names
dot_begins = refl

distant_lexemes : ℤ → List Lexeme
distant_lexemes (pos n) = dot ∷ plus ∷ number_lexeme (decimal n) n ∷ []
distant_lexemes (negsuc n) = dot ∷ minus ∷ number_lexeme (decimal (suc n)) (suc n) ∷ []

distant_shown : (z : ℤ) → IsSmall z → Shown (distant_lexemes z) (distant z) 68
unfolding distant_lexemes dot
distant_shown (pos n) small =
    let h = number_shown (decimal n) n (small_numeral n (omega (arith, small))) in
    let short = h.short in
    record {
      is_text = ap (λ x. 46 ∷ 43 ∷ x) h.is_text;
      stand = λ rest b. (name_spells (46 ∷ []) refl, refl, (refl, plus_stops (texts (number_lexeme (decimal n) n ∷ []) ++ rest), h.stand rest b));
      in_lines = h.in_lines;
      front = λ before more. refl;
      some = omega arith;
      short = omega (arith, short);
    }
distant_shown (negsuc n) small =
    let h = number_shown (decimal (suc n)) (suc n) (small_numeral (suc n) (omega (arith, small))) in
    let short = h.short in
    record {
      is_text = ap (λ x. 46 ∷ 45 ∷ x) h.is_text;
      stand = λ rest b. (name_spells (46 ∷ []) refl, refl, (refl, minus_stops (texts (number_lexeme (decimal (suc n)) (suc n) ∷ []) ++ rest), h.stand rest b));
      in_lines = h.in_lines;
      front = λ before more. refl;
      some = omega arith;
      short = omega (arith, short);
    }

distant_is : (z : ℤ) (before : List ℕ) → IsValue (tokens_of before (distant_lexemes z)) (from_dot z)
unfolding distant_lexemes dot number_lexeme
distant_is (pos n) before =
    let at : List ℕ = (before ++ 46 ∷ []) ++ 43 ∷ [] in (
      Binary Add (Leaf Here) (Leaf (Literal n)),
      (
        placed before dot ∷ [],
        placed at (number_lexeme (decimal n) n) ∷ [],
        placed (before ++ 46 ∷ []) plus,
        refl,
        refl,
        (placed before dot, refl, dot_begins),
        (placed at (number_lexeme (decimal n) n), refl, refl),
      ),
      (omega arith, tt, tt),
      omega arith,
      refl,
    )
distant_is (negsuc n) before =
    let at : List ℕ = (before ++ 46 ∷ []) ++ 45 ∷ [] in (
      Binary Subtract (Leaf Here) (Leaf (Literal (suc n))),
      (
        placed before dot ∷ [],
        placed at (number_lexeme (decimal (suc n)) (suc n)) ∷ [],
        placed (before ++ 46 ∷ []) minus,
        refl,
        refl,
        (placed before dot, refl, dot_begins),
        (placed at (number_lexeme (decimal (suc n)) (suc n)), refl, refl),
      ),
      (omega arith, tt, tt),
      omega arith,
      refl,
    )

distance_refused : (z : ℤ) → is_refused roles.Target (from_dot z) ≡ false
distance_refused (pos n) = refl
distance_refused (negsuc n) = refl

pub of_target : (z : ℤ) → IsSmall z → IsArgument A_target (distant z) (Target (from_dot z) ∷ [])
of_target z small = record {
  lexemes = distant_lexemes z;
  shown = wider (distant_lexemes z) (distant z) 68 89 (omega arith) (distant_shown z small);
  means = λ before. (Target (from_dot z), inl (from_dot z, distant_is z before, distance_refused z, refl), refl);
}

-- 8(sp)
unfoldable pub address_lexemes : ℤ → ℕ → List Lexeme
address_lexemes z r = signed_lexemes z ++ base_lexemes r

parted_base : (r : ℕ) → Parted (base_lexemes r)
unfolding base_lexemes
parted_base r rest = refl

address_shown : (z : ℤ) (r : ℕ) → IsSmall z → r < 32 → Shown (address_lexemes z r) (based z r) 89
unfolding address_lexemes
address_shown z r small lt = shown_after (signed_lexemes z) (base_lexemes r) (signed_decimal z) (in_parentheses r) 67 22 (signed_shown z small) (base_shown r lt) (parted_base r)

address_is : (set : RegisterSet) (z : ℤ) (r : ℕ) → is_of_set set r ≡ true → (before : List ℕ) → IsOffset set (tokens_of before (address_lexemes z r)) (Value (constant_expression z) ∷ Register r ∷ [])
unfolding address_lexemes
address_is set z r is before =
    let one = tokens_of before (signed_lexemes z) in
    let after = before ++ texts (signed_lexemes z) in (
      one,
      tokens_of after (base_lexemes r),
      Value (constant_expression z),
      Register r ∷ [],
      tokens-append before (signed_lexemes z) (base_lexemes r),
      valued_as roles.Operand refl one (constant_expression z) (signed_is z before),
      base_is set r is after,
      refl,
    )

pub of_address : (set : RegisterSet) (z : ℤ) (r : ℕ) → IsSmall z → is_of_set set r ≡ true → IsArgument (An_address_by set) (based z r) (Value (constant_expression z) ∷ Register r ∷ [])
of_address set z r small is = record {
  lexemes = address_lexemes z r;
  shown = address_shown z r small (machine_register set r is);
  means = λ before. inr (address_is set z r is before);
}

-- what `jalr` and the atomics take after their registers

no_register : (z : ℤ) (r : ℕ) (before : List ℕ) → front_begins A_register (tokens_of before (address_lexemes z r)) ≡ false
unfolding address_lexemes signed_lexemes number_lexeme
no_register (pos n) r before = refl
no_register (negsuc n) r before = refl

pub of_jump : (z : ℤ) (r : ℕ) → IsSmall z → r < 32 → AreArguments jump_target (based z r ∷ []) (Value (constant_expression z) ∷ Register r ∷ [])
of_jump z r small lt =
    let os : List Operand = Value (constant_expression z) ∷ Register r ∷ [] in
    alone jump_target (address_lexemes z r) (based z r) os (address_shown z r small lt)
    (λ before. inr (no_register z r before, (tokens_of before (address_lexemes z r), [], os, [], sym (append-nil (tokens_of before (address_lexemes z r))), inr (address_is Any z r (any_register r lt) before), (refl, refl), refl)))

pub of_base : (r : ℕ) → r < 32 → AreArguments atomic_address (in_parentheses r ∷ []) (Register r ∷ [])
unfolding base_lexemes
of_base r lt =
    let h = register_named r lt in
    alone atomic_address (base_lexemes r) (in_parentheses r) (Register r ∷ []) (wider (base_lexemes r) (in_parentheses r) 22 89 (omega arith) (base_shown r lt))
    (λ before.
    let after : List ℕ = before ++ 40 ∷ [] in
    let name : Token = placed after (word (abi r)) in
    let end : Token = placed (after ++ abi r) closing in
    inl (
      placed before opening ∷ [],
      name ∷ end ∷ [],
      [],
      Register r ∷ [],
      refl,
      (placed before opening, refl, refl),
      (
        name ∷ [],
        end ∷ [],
        Register r ∷ [],
        [],
        refl,
        (name, refl, ap (λ o. option_map (λ (r : ℕ). Register r ∷ []) o) h.named),
        (end ∷ [], [], [], [], refl, (end, refl, refl), (refl, refl), refl),
        refl,
      ),
      refl,
    ))

-- ---- the accesses that a fence orders

record IsSet (s : ℕ) : Type 0 where
  is_word : is_name (accesses s) ≡ true
  short : length (accesses s) ≤ 4
  named : named_in access_sets (accesses s) ≡ Some (access_set s)

set_named : (s : ℕ) → 0 < s → s < 16 → IsSet s
unfolding access_sets
set_named s some lt = grind arith

pub of_accesses : (s : ℕ) → 0 < s → s < 16 → IsArgument Some_accesses (accesses s) (Accesses (access_set s) ∷ [])
of_accesses s some lt =
    let h = set_named s some lt in
    let short = h.short in
    record {
      lexemes = word (accesses s) ∷ [];
      shown = record {
        is_text = append-nil (accesses s);
        stand = λ rest b. (name_spells (accesses s) h.is_word, name_stops (accesses s) rest b, tt);
        in_lines = name_in_line (accesses s) h.is_word;
        front = λ before more. refl;
        some = name_some (accesses s) h.is_word;
        short = omega (arith, short);
      };
      means = λ before. (placed before (word (accesses s)), refl, ap (λ o. option_map (λ (x : AccessSet). Accesses x ∷ []) o) h.named);
    }
