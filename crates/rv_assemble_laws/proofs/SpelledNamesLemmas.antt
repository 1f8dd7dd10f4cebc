-- Each name that a source's statements say is spelled by bytes that a map can show.

use Rattle.std.proofs.Common.{◌≡◌, ℕ, zero, suc, Bool, true, false, ◌&&◌, ◌||◌, ◌==◌, cond, List, [], ◌∷◌, ◌++◌, flat_map, Option, Some, None, refl, sym, ap, append_assoc, ◌∙◌, subst, inl, inr, arith}
use Rattle.std.specs.Prelude.{nat_le, nat_lt, length, codes, bytes_eq, is_some, option_map}
use Rattle.std.specs.List.{list_all}
use Rattle.std.proofs.lemmas.Bool.{and_from, and_parts}
use Rattle.std.proofs.lemmas.List.Folds.{list_all-append}
use Rattle.rv_expression_laws.specs.declared.class.Class.{Class}
use Rattle.rv_expression_laws.specs.declared.class.Class.TheVariants as classes
use Rattle.rv_expression_laws.specs.Bytes.{class, is_letter, is_decimal, is_word, between}
use Rattle.rv_expression_laws.specs.Cut.{Piece, texts, Each}
use Rattle.rv_expression_laws.specs.Grammar.{Kind, Space, Line_comment, Block_comment, Newline, Punctuation, Name, Number, Reference, Bad_word, Text, Character, Bad_byte, Bad_token, End, IsWord, direction, Spells, Stops}
use Rattle.rv_expression_laws.specs.Joined.{joined_bytes, AreAfter, IsJoined}
use Rattle.rv_expression_laws.specs.Lexing.{Token, Lexes, tokens_of, placed, is_gap, bad, last_kind, last}
use Rattle.rv_expression_laws.specs.declared.punct.Punct.TheVariants as puncts
use Rattle.rv_expression_laws.specs.SyntaxError.{longest_name}
use Rattle.rv_expression_laws.specs.Expression.{Primary, Literal, Symbol, Here, Reference as Of_label, Tree, Leaf, Unary, Paren, Binary, Begin, begins, named_operand, A_primary, SpellsTree, bare}
use Rattle.rv_isa.specs.declared.operation.AccessSet.{AccessSet}
use Rattle.rv_parcel.specs.declared.parcel.RegisterSet.{RegisterSet}
use Rattle.rv_parcel.specs.declared.parcel.OperandShape.{OperandShape}
use Rattle.rv_parcel.specs.declared.parcel.OperandShape.TheVariants as shapes
use Rattle.rv_parcel.specs.Mnemonics.{register_sets, shape_of}
use Rattle.rv_statement_laws.specs.declared.mnemonic.Mnemonic.{Mnemonic}
use Rattle.rv_statement_laws.specs.declared.pseudo.Function.{Function}
use Rattle.rv_statement_laws.specs.declared.pseudo.Function.TheVariants as functions
use Rattle.rv_statement_laws.specs.declared.mnemonic.Mnemonic.TheVariants as mnemonics
use Rattle.rv_statement_laws.specs.declared.directive.DirectiveWord.{DirectiveWord}
use Rattle.rv_statement_laws.specs.declared.directive.DirectiveWord.TheVariants as words
use Rattle.rv_statement_laws.specs.declared.directive.Choice.{Choice}
use Rattle.rv_statement_laws.specs.Statement.{Expression, Operand, Register, Value, Applied, Target, Accesses, Word, Quoted, Directive, StatementKind, Label, Numbered, Instruction, Directs, Statement}
use Rattle.rv_parse_laws.specs.declared.role.Role.{Role}
use Rattle.rv_parse_laws.specs.declared.role.Role.TheVariants as roles
use Rattle.rv_parse_laws.specs.Words.{named_in, choices}
use Rattle.rv_parse_laws.specs.Syntax.{Slot, A_register_of, A_zero, Some_accesses, A_symbol, A_string, Some_flags, At_sign, A_type, An_option, A_plt, A_comma, An_opening, A_closing, register_of, kept_in, token_symbol, is_symbol, is_zero, accesses_of, is_at_sign, is_plt, is_comma, is_opening, is_closing, single, A_value, An_address_by, An_address, A_callee, A_section, A_target, Slots, Stops as Ends_here, Takes, Chooses, Locates, Lists, Anything, IsValue, IsValueIn, IsOneIn, IsArgument, IsBase, IsLinked, IsOperand, TakesSlot, IsFurther, AreItems, AreOperands, label_named, label_of, valued, targets, is_register, slots, operand_slots, source, registers_alone, registers_and_base, registers_before, parcel_slots, with_constant, names_in, values_in, option_directive, directed, SourcePart, Ends, Says, IsPart, StopsPart, IsStatement}
use Rattle.rv_parse_laws.specs.Reading.{told, statements_of_parts, Reads}
use Rattle.rv_source_laws.specs.Program.{in_operand}
use Rattle.rv_expression_laws.proofs.RunsLemmas.{pick}
use Rattle.rv_map_laws.specs.Name.{is_name, is_name_byte}
use Rattle.rv_assemble_laws.specs.ShownNames.{primary_names, tree_names, said_names, are_shown, HasNames}
use Rattle.rv_assemble_laws.proofs.WeightsLemmas.{punct_none}

-- ---- both of two tests

module _ {A : Type 0} (p : A → Bool) where
  all_parts : (xs ys : List A) → list_all p (xs ++ ys) ≡ true → (list_all p xs ≡ true) × (list_all p ys ≡ true)
  all_parts xs ys h = and_parts (list_all p xs) (list_all p ys) (sym (list_all-append p xs ys) ∙ h)

  all_both : (xs ys : List A) → list_all p xs ≡ true → list_all p ys ≡ true → list_all p (xs ++ ys) ≡ true
  all_both xs ys g h = list_all-append p xs ys ∙ and_from _ _ g h

-- ---- tokens

abbrev NoLetter : ℕ → Class → Type 0
NoLetter b c = c ≡ classes.Letter → is_letter b ≡ true

letter_class : (b : ℕ) → NoLetter b (class b)
unfolding class
letter_class b =
    pick (NoLetter b) (is_letter b) _ _ (λ t e. t) (λ _.
    pick (NoLetter b) (is_decimal b) _ _ (λ _ e. absurd (cc)) (λ _.
    pick (NoLetter b) ((b == 32) || (b == 9) || (b == 13)) _ _ (λ _ e. absurd (cc)) (λ _.
    pick (NoLetter b) (b == 10) _ _ (λ _ e. absurd (cc)) (λ _.
    pick (NoLetter b) (b == 44) _ _ (λ _ e. absurd (cc)) (λ _.
    pick (NoLetter b) (b == 40) _ _ (λ _ e. absurd (cc)) (λ _.
    pick (NoLetter b) (b == 41) _ _ (λ _ e. absurd (cc)) (λ _.
    pick (NoLetter b) (b == 58) _ _ (λ _ e. absurd (cc)) (λ _.
    pick (NoLetter b) (b == 35) _ _ (λ _ e. absurd (cc)) (λ _.
    pick (NoLetter b) (b == 59) _ _ (λ _ e. absurd (cc)) (λ _.
    pick (NoLetter b) (b == 43) _ _ (λ _ e. absurd (cc)) (λ _.
    pick (NoLetter b) (b == 45) _ _ (λ _ e. absurd (cc)) (λ _.
    pick (NoLetter b) (b == 42) _ _ (λ _ e. absurd (cc)) (λ _.
    pick (NoLetter b) (b == 37) _ _ (λ _ e. absurd (cc)) (λ _.
    pick (NoLetter b) (b == 124) _ _ (λ _ e. absurd (cc)) (λ _.
    pick (NoLetter b) (b == 38) _ _ (λ _ e. absurd (cc)) (λ _.
    pick (NoLetter b) (b == 94) _ _ (λ _ e. absurd (cc)) (λ _.
    pick (NoLetter b) (b == 126) _ _ (λ _ e. absurd (cc)) (λ _.
    pick (NoLetter b) (b == 64) _ _ (λ _ e. absurd (cc)) (λ _.
    pick (NoLetter b) (b == 47) _ _ (λ _ e. absurd (cc)) (λ _.
    pick (NoLetter b) (b == 34) _ _ (λ _ e. absurd (cc)) (λ _.
    pick (NoLetter b) (b == 39) _ _ (λ _ e. absurd (cc)) (λ _.
    pick (NoLetter b) (b == 60) _ _ (λ _ e. absurd (cc)) (λ _.
    pick (NoLetter b) (b == 62) _ _ (λ _ e. absurd (cc)) (λ _.
    pick (NoLetter b) (b == 61) _ _ (λ _ e. absurd (cc)) (λ _.
    pick (NoLetter b) (b == 33) _ _ (λ _ e. absurd (cc)) (λ _.
    pick (NoLetter b) (between 32 126 b) _ _ (λ _ e. absurd (cc)) (λ _ e. absurd (cc))))))))))))))))))))))))))))

abbrev NoDigit : ℕ → Class → Type 0
NoDigit b c = c ≡ classes.Digit → is_decimal b ≡ true

digit_class : (b : ℕ) → NoDigit b (class b)
unfolding class
digit_class b =
    pick (NoDigit b) (is_letter b) _ _ (λ _ e. absurd (cc)) (λ _.
    pick (NoDigit b) (is_decimal b) _ _ (λ t e. t) (λ _.
    pick (NoDigit b) ((b == 32) || (b == 9) || (b == 13)) _ _ (λ _ e. absurd (cc)) (λ _.
    pick (NoDigit b) (b == 10) _ _ (λ _ e. absurd (cc)) (λ _.
    pick (NoDigit b) (b == 44) _ _ (λ _ e. absurd (cc)) (λ _.
    pick (NoDigit b) (b == 40) _ _ (λ _ e. absurd (cc)) (λ _.
    pick (NoDigit b) (b == 41) _ _ (λ _ e. absurd (cc)) (λ _.
    pick (NoDigit b) (b == 58) _ _ (λ _ e. absurd (cc)) (λ _.
    pick (NoDigit b) (b == 35) _ _ (λ _ e. absurd (cc)) (λ _.
    pick (NoDigit b) (b == 59) _ _ (λ _ e. absurd (cc)) (λ _.
    pick (NoDigit b) (b == 43) _ _ (λ _ e. absurd (cc)) (λ _.
    pick (NoDigit b) (b == 45) _ _ (λ _ e. absurd (cc)) (λ _.
    pick (NoDigit b) (b == 42) _ _ (λ _ e. absurd (cc)) (λ _.
    pick (NoDigit b) (b == 37) _ _ (λ _ e. absurd (cc)) (λ _.
    pick (NoDigit b) (b == 124) _ _ (λ _ e. absurd (cc)) (λ _.
    pick (NoDigit b) (b == 38) _ _ (λ _ e. absurd (cc)) (λ _.
    pick (NoDigit b) (b == 94) _ _ (λ _ e. absurd (cc)) (λ _.
    pick (NoDigit b) (b == 126) _ _ (λ _ e. absurd (cc)) (λ _.
    pick (NoDigit b) (b == 64) _ _ (λ _ e. absurd (cc)) (λ _.
    pick (NoDigit b) (b == 47) _ _ (λ _ e. absurd (cc)) (λ _.
    pick (NoDigit b) (b == 34) _ _ (λ _ e. absurd (cc)) (λ _.
    pick (NoDigit b) (b == 39) _ _ (λ _ e. absurd (cc)) (λ _.
    pick (NoDigit b) (b == 60) _ _ (λ _ e. absurd (cc)) (λ _.
    pick (NoDigit b) (b == 62) _ _ (λ _ e. absurd (cc)) (λ _.
    pick (NoDigit b) (b == 61) _ _ (λ _ e. absurd (cc)) (λ _.
    pick (NoDigit b) (b == 33) _ _ (λ _ e. absurd (cc)) (λ _.
    pick (NoDigit b) (between 32 126 b) _ _ (λ _ e. absurd (cc)) (λ _ e. absurd (cc))))))))))))))))))))))))))))

digit_shown : (b : ℕ) → is_decimal b ≡ true → is_name_byte b ≡ true
digit_shown b h = grind arith

letter_shown : (b : ℕ) → is_letter b ≡ true → is_name_byte b ≡ true
letter_shown b h = grind arith

word_byte_shown : (b : ℕ) → is_word b ≡ true → is_name_byte b ≡ true
word_byte_shown b h = grind arith

word_bytes_shown : (bs : List ℕ) → list_all is_word bs ≡ true → list_all is_name_byte bs ≡ true
word_bytes_shown [] h = refl
word_bytes_shown (b ∷ bs) h =
    let p = and_parts (is_word b) (list_all is_word bs) h in
    and_from _ _ (word_byte_shown b p.0) (word_bytes_shown bs p.1)

some_bytes : (b : ℕ) (bs : List ℕ) → nat_lt 0 (length (b ∷ bs)) ≡ true
some_bytes b bs = grind arith

word_shown : (text : List ℕ) → IsWord classes.Letter text → is_name text ≡ true
word_shown text (b, bs, is, letter, rest) =
    subst (λ (t : List ℕ). is_name t ≡ true) (sym is)
    (and_from _ _ (some_bytes b bs) (and_from _ _ (letter_shown b (letter_class b letter)) (word_bytes_shown bs rest)))

digits_shown : (text : List ℕ) → IsWord classes.Digit text → list_all is_name_byte text ≡ true
digits_shown text (b, bs, is, digit, rest) =
    subst (λ (t : List ℕ). list_all is_name_byte t ≡ true) (sym is)
    (and_from _ _ (digit_shown b (digit_class b digit)) (word_bytes_shown bs rest))

-- a token that is no word, or the bytes of which can be shown
pub good : Kind → Bool
good (Name name) = is_name name
good (Number word number) = list_all is_name_byte word
good (Reference digits forward) = list_all is_name_byte (digits ++ direction forward ∷ [])
good (Bad_word word) = list_all is_name_byte word
good _ = true

abbrev pub are_good : List Token → Bool
are_good ts = list_all (λ (t : Token). good t.kind) ts

spelled_good : (k : Kind) (text : List ℕ) → Spells k text → good k ≡ true
unfolding good
spelled_good (Name name) text (is, word) = subst (λ (t : List ℕ). is_name t ≡ true) is (word_shown text word)
spelled_good Space text h = refl
spelled_good Line_comment text h = refl
spelled_good Block_comment text h = refl
spelled_good Newline text h = refl
spelled_good (Punctuation punct) text h = refl
spelled_good (Number word number) text (is, digits, number') = subst (λ (t : List ℕ). list_all is_name_byte t ≡ true) is (digits_shown text digits)
spelled_good (Reference digits forward) text (word, (is, all)) = subst (λ (t : List ℕ). list_all is_name_byte t ≡ true) is (digits_shown text word)
spelled_good (Bad_word word) text (is, digits, no_number, no_reference) = subst (λ (t : List ℕ). list_all is_name_byte t ≡ true) is (digits_shown text digits)
spelled_good (Text bytes) text h = refl
spelled_good (Character byte) text h = refl
spelled_good Bad_byte text h = refl
spelled_good Bad_token text h = refl
spelled_good End text h = refl

tokens_good : (before rest : List ℕ) (ps : List (Piece Kind ℕ)) → Each Spells Stops ps rest → are_good (tokens_of before ps) ≡ true
tokens_good before rest [] each = refl
tokens_good before rest (p ∷ ps) (spelled, stops, each) =
    go (is_gap p.kind) (tokens_good (before ++ p.text) rest ps each)
  where
    go : (b : Bool) → are_good (tokens_of (before ++ p.text) ps) ≡ true
        → are_good (cond b (tokens_of (before ++ p.text) ps) (placed before p ∷ tokens_of (before ++ p.text) ps)) ≡ true
    go true h = h
    go false h = and_from _ _ (spelled_good p.kind p.text spelled) h

bad_good : (c : Class) → good (bad c) ≡ true
unfolding good
bad_good classes.Foreign = refl
bad_good _ = refl

last_good : (rest : List ℕ) → good (last_kind rest) ≡ true
unfolding good
last_good [] = refl
last_good (b ∷ bs) = bad_good (class b)

pub lexed_good : (bytes : List ℕ) (ts : List Token) → Lexes bytes ts → are_good ts ≡ true
lexed_good bytes ts (ps, rest, cut, is) =
    subst (λ (us : List Token). are_good us ≡ true) (sym is)
    (all_both (λ (t : Token). good t.kind) (tokens_of [] ps) (last (texts ps) rest ∷ [])
    (tokens_good [] rest ps cut.0.each) (and_from _ _ (last_good rest) refl))

-- ---- expressions

abbrev Shown : List (List ℕ) → Type 0
Shown names = are_shown names ≡ true

same_primary : (q p : Primary) → A_primary q ≡ A_primary p → Shown (primary_names q) → Shown (primary_names p)
same_primary q p e h = let is : q ≡ p = cc in subst (λ (x : Primary). Shown (primary_names x)) is h

name_shown : (r : List ℕ → Bool) (name : List ℕ) (p : Primary) → is_name name ≡ true → named_operand r name ≡ A_primary p → Shown (primary_names p)
name_shown r name p h e =
    pick (λ (x : Begin). x ≡ A_primary p → Shown (primary_names p)) (r name) _ _ (λ _ e. absurd (cc)) (λ _.
    pick (λ (x : Begin). x ≡ A_primary p → Shown (primary_names p)) (bytes_eq name (codes ".")) _ _ (λ _ e. same_primary Here p e refl) (λ _.
    pick (λ (x : Begin). x ≡ A_primary p → Shown (primary_names p)) (nat_le (length name) longest_name) _ _ (λ _ e. same_primary (Symbol name) p e (and_from _ _ h refl)) (λ _ e. absurd (cc)))) e

primary_shown : (r : List ℕ → Bool) (k : Kind) (p : Primary) → good k ≡ true → begins r k ≡ A_primary p → Shown (primary_names p)
unfolding good
primary_shown r (Name name) p h e = name_shown r name p h e
primary_shown r (Number word number) p h e = same_primary (Literal number) p e refl
primary_shown r (Character byte) p h e = same_primary (Literal byte) p e refl
primary_shown r (Reference digits forward) p h e = same_primary (Of_label digits forward) p e refl
primary_shown r (Punctuation punct) p h e = absurd (punct_none punct p e)
primary_shown r (Text bytes) p h e = absurd (cc)
primary_shown r Bad_byte p h e = absurd (cc)
primary_shown r Bad_token p h e = absurd (cc)
primary_shown r (Bad_word word) p h e = absurd (cc)
primary_shown r _ p h e = absurd (cc)

tree_shown : (r : List ℕ → Bool) (x : Tree) (ts : List Token) → are_good ts ≡ true → SpellsTree r x ts → Shown (tree_names (bare x))
tree_shown r (Leaf p) ts g (t, is, e) =
    let h = and_parts (good t.kind) true (subst (λ (us : List Token). are_good us ≡ true) is g) in
    primary_shown r t.kind p h.0 e
tree_shown r (Unary o x) ts g (t, us, is, e, spelled) =
    let h = and_parts (good t.kind) (are_good us) (subst (λ (us : List Token). are_good us ≡ true) is g) in
    tree_shown r x us h.1 spelled
tree_shown r (Paren x) ts g (t, u, us, is, e, f, spelled) =
    let h = and_parts (good t.kind) (are_good (us ++ u ∷ [])) (subst (λ (us : List Token). are_good us ≡ true) is g) in
    tree_shown r x us (all_parts (λ (t : Token). good t.kind) us (u ∷ []) h.1).0 spelled
tree_shown r (Binary o x y) ts g (us, vs, t, is, e, left, right) =
    let h = all_parts (λ (t : Token). good t.kind) us (t ∷ vs) (subst (λ (us : List Token). are_good us ≡ true) is g) in
    let k = and_parts (good t.kind) (are_good vs) h.1 in
    all_both is_name (tree_names (bare x)) (tree_names (bare y)) (tree_shown r x us h.0 left) (tree_shown r y vs k.1 right)

-- ---- operands

operand_names : Operand → List (List ℕ)
operand_names (Value e) = tree_names e
operand_names (Applied f e) = tree_names e
operand_names (Target e) = tree_names e
operand_names (Word name) = name ∷ []
operand_names _ = []

abbrev are_good_operands : List Operand → Bool
are_good_operands os = list_all (λ (o : Operand). are_shown (operand_names o)) os

AllShown : List Operand → Type 0
AllShown os = are_good_operands os ≡ true

same_operands : (os ps : List Operand) → Some os ≡ Some ps → AllShown os → AllShown ps
same_operands os ps e h = let is : os ≡ ps = cc in subst AllShown is h

symbol_shown : (k : Kind) (name : List ℕ) → good k ≡ true → token_symbol k ≡ Some name → is_name name ≡ true
unfolding good
symbol_shown (Name n) name h e =
    pick (λ (x : Option (List ℕ)). x ≡ Some name → is_name name ≡ true) (is_symbol n) _ _
    (λ _ e. let is : n ≡ name = cc in subst (λ (x : List ℕ). is_name x ≡ true) is h) (λ _ e. absurd (cc)) e
symbol_shown _ name h e = absurd (cc)

when_none : (b : Bool) (os : List Operand) → cond b (Some []) None ≡ Some os → AllShown os
unfolding AllShown operand_names
when_none true os e = same_operands [] os e refl
when_none false os e = absurd (cc)

single_shown : (s : Slot) (k : Kind) (os : List Operand) → good k ≡ true → single s k ≡ Some os → AllShown os
unfolding AllShown operand_names good
single_shown (A_register_of set) k os h e = go (kept_in set (register_of k)) e
  where
    go : (o : Option ℕ) → option_map (λ r. Register r ∷ []) o ≡ Some os → AllShown os
    go None e = absurd (cc)
    go (Some r) e = same_operands (Register r ∷ []) os e refl
single_shown A_zero k os h e = when_none (is_zero k) os e
single_shown Some_accesses k os h e = go (accesses_of k) e
  where
    go : (o : Option AccessSet) → option_map (λ set. Accesses set ∷ []) o ≡ Some os → AllShown os
    go None e = absurd (cc)
    go (Some set) e = same_operands (Accesses set ∷ []) os e refl
single_shown A_symbol k os h e = go (token_symbol k) (λ name f. symbol_shown k name h f) e
  where
    go : (o : Option (List ℕ)) → ((name : List ℕ) → o ≡ Some name → is_name name ≡ true) → option_map (λ name. Word name ∷ []) o ≡ Some os → AllShown os
    go None f e = absurd (cc)
    go (Some name) f e = same_operands (Word name ∷ []) os e (and_from _ _ (and_from _ _ (f name refl) refl) refl)
single_shown A_string (Text bytes) os h e = same_operands (Quoted bytes ∷ []) os e refl
single_shown A_string _ os h e = absurd (cc)
single_shown Some_flags (Text bytes) os h e = same_operands (Quoted bytes ∷ []) os e refl
single_shown Some_flags _ os h e = absurd (cc)
single_shown At_sign k os h e = when_none (is_at_sign k) os e
single_shown A_type (Name name) os h e = same_operands (Word name ∷ []) os e (and_from _ _ (and_from _ _ h refl) refl)
single_shown A_type _ os h e = absurd (cc)
single_shown An_option (Name name) os h e =
    pick (λ (x : Option (List Operand)). x ≡ Some os → AllShown os) (is_some (named_in choices name)) _ _
    (λ _ e. same_operands (Word name ∷ []) os e (and_from _ _ (and_from _ _ h refl) refl)) (λ _ e. absurd (cc)) e
single_shown An_option _ os h e = absurd (cc)
single_shown A_plt k os h e = when_none (is_plt k) os e
single_shown (A_comma behind) k os h e = when_none (is_comma k) os e
single_shown (An_opening behind) k os h e = when_none (is_opening k) os e
single_shown A_closing k os h e = when_none (is_closing k) os e
single_shown _ k os h e = absurd (cc)

value_shown : (ts : List Token) (e : Expression) → are_good ts ≡ true → IsValue ts e → Shown (tree_names e)
value_shown ts e g (tree, spelled, at, deep, is) = subst (λ (x : Tree). Shown (tree_names x)) (sym is) (tree_shown is_register tree ts g spelled)

label_shown : (k : Kind) (e : Expression) → good k ≡ true → label_named k ≡ Some e → Shown (tree_names e)
unfolding good
label_shown (Name name) e h f =
    pick (λ (x : Option Expression). x ≡ Some e → Shown (tree_names e)) (is_symbol name) _ _
    (λ _ f. let is : Leaf (Symbol name) ≡ e = cc in subst (λ (x : Tree). Shown (tree_names x)) is (and_from _ _ h refl)) (λ _ f. absurd (cc)) f
label_shown (Reference digits forward) e h f = let is : Leaf (Of_label digits forward) ≡ e = cc in subst (λ (x : Tree). Shown (tree_names x)) is refl
label_shown _ e h f = absurd (cc)

argument_shown : (f : Function) (ts : List Token) (e : Expression) → are_good ts ≡ true → IsArgument f ts e → Shown (tree_names e)
argument_shown functions.PcrelLo ts e g (t, is, named) =
    label_shown t.kind e (and_parts (good t.kind) true (subst (λ (us : List Token). are_good us ≡ true) is g)).0 named
argument_shown functions.Hi ts e g h = value_shown ts e g h
argument_shown functions.Lo ts e g h = value_shown ts e g h
argument_shown functions.PcrelHi ts e g h = value_shown ts e g h

one_shown : (o : Operand) → Shown (operand_names o) → AllShown (o ∷ [])
unfolding AllShown
one_shown o h = and_from _ _ h refl

valued_shown : (role : Role) (e : Expression) → Shown (tree_names e) → Shown (operand_names (valued role e))
unfolding operand_names
valued_shown role e h = go (targets role)
  where
    go : (b : Bool) → Shown (operand_names (cond b (Target e) (Value e)))
    go true = h
    go false = h

value_in_shown : (role : Role) (ts : List Token) (o : Operand) → are_good ts ≡ true → IsValueIn role ts o → Shown (operand_names o)
unfolding operand_names
value_in_shown role ts o g (inl (e, value, fine, is)) = subst (λ (x : Operand). Shown (operand_names x)) (sym is) (valued_shown role e (value_shown ts e g value))
value_in_shown role ts o g (inr (p, n, q, argument, c, f, e, is, percent, function, opening, spelled, closing, fine, says)) =
    let h = subst (λ (us : List Token). are_good us ≡ true) is g in
    let a = (and_parts (good q.kind) (are_good (argument ++ c ∷ [])) (and_parts (good n.kind) (are_good (q ∷ (argument ++ c ∷ []))) (and_parts (good p.kind) (are_good (n ∷ q ∷ (argument ++ c ∷ []))) h).1).1).1 in
    subst (λ (x : Operand). Shown (operand_names x)) (sym says)
    (argument_shown f argument e (all_parts (λ (t : Token). good t.kind) argument (c ∷ []) a).0 spelled)

one_in_shown : (role : Role) (ts : List Token) (os : List Operand) → are_good ts ≡ true → IsOneIn role ts os → AllShown os
one_in_shown role ts os g (o, value, is) = subst AllShown (sym is) (one_shown o (value_in_shown role ts o g value))

base_shown : (set : RegisterSet) (ts : List Token) (os : List Operand) → IsBase set ts os → AllShown os
unfolding AllShown operand_names
base_shown set ts os (o, r, c, number, is, a, b, d, says) = subst (λ (x : List Operand). are_good_operands x ≡ true) (sym says) refl

joined_shown : (xs ys : List Operand) → AllShown xs → AllShown ys → AllShown (xs ++ ys)
unfolding AllShown
joined_shown xs ys g h = all_both (λ (o : Operand). are_shown (operand_names o)) xs ys g h

linked_shown : (ts : List Token) (os : List Operand) → are_good ts ≡ true → IsLinked ts os → AllShown os
unfolding AllShown operand_names
linked_shown ts os g (f, a, p, name, is, symbol, at, plt, says) =
    let h = and_parts (good f.kind) (are_good (a ∷ p ∷ [])) (subst (λ (us : List Token). are_good us ≡ true) is g) in
    subst (λ (x : List Operand). are_good_operands x ≡ true) (sym says)
    (and_from _ _ (and_from _ _ (symbol_shown f.kind name h.0 symbol) refl) refl)

one_token_shown : (s : Slot) (ts : List Token) (os : List Operand) → are_good ts ≡ true → ((t : Token) × (ts ≡ t ∷ []) × (single s t.kind ≡ Some os)) → AllShown os
one_token_shown s ts os g (t, is, e) =
    single_shown s t.kind os (and_parts (good t.kind) true (subst (λ (us : List Token). are_good us ≡ true) is g)).0 e

-- the name of a section need not be shown
is_plain : Slot → Bool
is_plain A_section = false
is_plain _ = true

operand_shown : (s : Slot) (ts : List Token) (os : List Operand) → is_plain s ≡ true → are_good ts ≡ true → IsOperand s ts os → AllShown os
unfolding is_plain
operand_shown (A_value role) ts os s g h = one_in_shown role ts os g h
operand_shown (An_address_by set) ts os s g (inl h) = base_shown set ts os h
operand_shown (An_address_by set) ts os s g (inr (one, rest, o, base, is, value, based, says)) =
    let k = all_parts (λ (t : Token). good t.kind) one rest (subst (λ (us : List Token). are_good us ≡ true) is g) in
    subst AllShown (sym says)
    (joined_shown (o ∷ []) base (one_shown o (value_in_shown roles.Operand one o k.0 value)) (base_shown set rest base based))
operand_shown A_callee ts os s g (inl h) = one_in_shown roles.Target ts os g h
operand_shown A_callee ts os s g (inr h) = linked_shown ts os g h
operand_shown A_section ts os s g h = absurd (cc)
operand_shown (A_register_of set) ts os s g h = one_token_shown (A_register_of set) ts os g h
operand_shown A_zero ts os s g h = one_token_shown A_zero ts os g h
operand_shown Some_accesses ts os s g h = one_token_shown Some_accesses ts os g h
operand_shown A_symbol ts os s g h = one_token_shown A_symbol ts os g h
operand_shown A_string ts os s g h = one_token_shown A_string ts os g h
operand_shown Some_flags ts os s g h = one_token_shown Some_flags ts os g h
operand_shown At_sign ts os s g h = one_token_shown At_sign ts os g h
operand_shown A_type ts os s g h = one_token_shown A_type ts os g h
operand_shown An_option ts os s g h = one_token_shown An_option ts os g h
operand_shown A_plt ts os s g h = one_token_shown A_plt ts os g h
operand_shown (A_comma behind) ts os s g h = one_token_shown (A_comma behind) ts os g h
operand_shown (An_opening behind) ts os s g h = one_token_shown (An_opening behind) ts os g h
operand_shown A_closing ts os s g h = one_token_shown A_closing ts os g h

-- what shows the operands of what follows
abbrev Shows : (List Token → List Operand → Type 0) → Type 0
Shows N = (ts : List Token) (os : List Operand) → are_good ts ≡ true → N ts os → AllShown os

taken_shown : (s : Slot) (N : List Token → List Operand → Type 0) → is_plain s ≡ true → Shows N → Shows (TakesSlot s N)
taken_shown s N plain later ts os g (one, rest, now, more, is, operand, further, says) =
    let k = all_parts (λ (t : Token). good t.kind) one rest (subst (λ (us : List Token). are_good us ≡ true) is g) in
    subst AllShown (sym says) (joined_shown now more (operand_shown s one now plain k.0 operand) (later rest more k.1 further))

further_shown : (N : List Token → List Operand → Type 0) → Shows N → Shows (IsFurther N)
further_shown N later ts os g (c, rest, is, comma, n) =
    later rest os (and_parts (good c.kind) (are_good rest) (subst (λ (us : List Token). are_good us ≡ true) is g)).1 n

items_shown : (n : ℕ) (s : Slot) → is_plain s ≡ true → Shows (AreItems n s)
items_shown zero s plain ts os g h = absurd h
items_shown (suc zero) s plain ts os g h = operand_shown s ts os plain g h
items_shown (suc (suc n)) s plain ts os g h =
    taken_shown s _ plain (further_shown _ (items_shown (suc n) s plain)) ts os g h

are_plain : Slots → Bool
are_plain (Ends_here behind) = true
are_plain (Takes s rest) = is_plain s && are_plain rest
are_plain (Chooses s rest others) = is_plain s && (are_plain rest && are_plain others)
are_plain (Locates rest) = are_plain rest
are_plain (Lists s) = is_plain s
are_plain Anything = true

none_shown : (os : List Operand) → os ≡ [] → AllShown os
unfolding AllShown
none_shown os is = subst (λ (x : List Operand). are_good_operands x ≡ true) (sym is) refl

target_plain : is_plain A_target ≡ true
unfolding is_plain
target_plain = refl

address_plain : is_plain An_address ≡ true
unfolding is_plain
address_plain = refl

operands_shown : (s : Slots) → are_plain s ≡ true → Shows (AreOperands s)
unfolding are_plain
operands_shown (Ends_here behind) plain ts os g (is, says) = none_shown os says
operands_shown (Takes s rest) plain ts os g h =
    let p = and_parts (is_plain s) (are_plain rest) plain in
    taken_shown s _ p.0 (operands_shown rest p.1) ts os g h
operands_shown (Chooses s rest others) plain ts os g (inl h) =
    let p = and_parts (is_plain s) (are_plain rest && are_plain others) plain in
    taken_shown s _ p.0 (operands_shown rest (and_parts (are_plain rest) (are_plain others) p.1).0) ts os g h
operands_shown (Chooses s rest others) plain ts os g (inr (front, h)) =
    let p = and_parts (is_plain s) (are_plain rest && are_plain others) plain in
    operands_shown others (and_parts (are_plain rest) (are_plain others) p.1).1 ts os g h
operands_shown (Locates rest) plain ts os g (inl h) = operand_shown An_address ts os address_plain g h
operands_shown (Locates rest) plain ts os g (inr h) = taken_shown A_target _ target_plain (operands_shown rest plain) ts os g h
operands_shown (Lists s) plain ts os g (n, h) = items_shown n s plain ts os g h
operands_shown Anything plain ts os g (any, says) = none_shown os says

-- ---- statements

source_plain : (b : Bool) → are_plain (source b) ≡ true
unfolding are_plain is_plain
source_plain true = refl
source_plain false = refl

alone_plain : (sets : List RegisterSet) → are_plain (registers_alone sets) ≡ true
unfolding are_plain is_plain
alone_plain [] = refl
alone_plain (set ∷ []) = refl
alone_plain (set ∷ next ∷ sets) = alone_plain (next ∷ sets)

based_plain : (sets : List RegisterSet) → are_plain (registers_and_base sets) ≡ true
unfolding are_plain is_plain
based_plain [] = refl
based_plain (set ∷ []) = refl
based_plain (set ∷ next ∷ sets) = based_plain (next ∷ sets)

before_plain : (sets : List RegisterSet) (rest : Slots) → are_plain rest ≡ true → are_plain (registers_before sets rest) ≡ true
unfolding are_plain is_plain
before_plain [] rest plain = plain
before_plain (set ∷ sets) rest plain = before_plain sets rest plain

parcel_plain : (shape : OperandShape) (sets : List RegisterSet) → are_plain (parcel_slots shape sets) ≡ true
unfolding are_plain is_plain
parcel_plain shapes.Registers sets = alone_plain sets
parcel_plain shapes.Number sets = before_plain sets _ refl
parcel_plain shapes.Address sets = based_plain sets
parcel_plain shapes.Target sets = before_plain sets _ refl

slots_plain : (m : Mnemonic) → are_plain (slots m) ≡ true
unfolding are_plain is_plain
slots_plain (mnemonics.Registers operation) = source_plain (is_some (with_constant operation))
slots_plain (mnemonics.Immediate operation) = refl
slots_plain (mnemonics.Shift operation) = refl
slots_plain (mnemonics.Upper operation) = refl
slots_plain (mnemonics.Load operation) = refl
slots_plain (mnemonics.Store operation) = refl
slots_plain (mnemonics.Branch operation) = refl
slots_plain mnemonics.Jal = refl
slots_plain mnemonics.Jalr = refl
slots_plain (mnemonics.LoadReserved form) = refl
slots_plain (mnemonics.Atomic operation form) = refl
slots_plain mnemonics.Fence = refl
slots_plain mnemonics.FenceTso = refl
slots_plain mnemonics.Ecall = refl
slots_plain mnemonics.Ebreak = refl
slots_plain mnemonics.Nop = refl
slots_plain (mnemonics.Unary operation) = refl
slots_plain (mnemonics.Compare operation) = refl
slots_plain (mnemonics.ZeroBranch operation) = refl
slots_plain (mnemonics.SwappedBranch operation) = refl
slots_plain mnemonics.J = refl
slots_plain mnemonics.Jr = refl
slots_plain mnemonics.Ret = refl
slots_plain mnemonics.La = refl
slots_plain mnemonics.Li = refl
slots_plain mnemonics.Call = refl
slots_plain mnemonics.Tail = refl
slots_plain mnemonics.Jump = refl
slots_plain (mnemonics.Parcel operation) = parcel_plain (shape_of operation) (register_sets operation)

-- the names of the expressions of operands
expressions_shown : (os : List Operand) → AllShown os → Shown (flat_map tree_names (flat_map in_operand os))
unfolding AllShown operand_names
expressions_shown [] h = refl
expressions_shown (o ∷ os) h = go o (and_parts (are_shown (operand_names o)) (are_good_operands os) h).0 (expressions_shown os (and_parts (are_shown (operand_names o)) (are_good_operands os) h).1)
  where
    go : (o : Operand) → Shown (operand_names o) → Shown (flat_map tree_names (flat_map in_operand os)) → Shown (flat_map tree_names (in_operand o ++ flat_map in_operand os))
    go (Value e) one rest = all_both is_name (tree_names e) (flat_map tree_names (flat_map in_operand os)) one rest
    go (Applied f e) one rest = all_both is_name (tree_names e) (flat_map tree_names (flat_map in_operand os)) one rest
    go (Target e) one rest = all_both is_name (tree_names e) (flat_map tree_names (flat_map in_operand os)) one rest
    go (Register number) one rest = rest
    go (Accesses set) one rest = rest
    go (Word name) one rest = rest
    go (Quoted bytes) one rest = rest

values_shown : (os : List Operand) → AllShown os → Shown (flat_map tree_names (values_in os))
unfolding AllShown operand_names
values_shown [] h = refl
values_shown (o ∷ os) h = go o (and_parts (are_shown (operand_names o)) (are_good_operands os) h).0 (values_shown os (and_parts (are_shown (operand_names o)) (are_good_operands os) h).1)
  where
    go : (o : Operand) → Shown (operand_names o) → Shown (flat_map tree_names (values_in os)) → Shown (flat_map tree_names (values_in (o ∷ os)))
    go (Value e) one rest = all_both is_name (tree_names e) (flat_map tree_names (values_in os)) one rest
    go (Applied f e) one rest = rest
    go (Target e) one rest = rest
    go (Register number) one rest = rest
    go (Accesses set) one rest = rest
    go (Word name) one rest = rest
    go (Quoted bytes) one rest = rest

words_shown : (os : List Operand) → AllShown os → Shown (names_in os)
unfolding AllShown operand_names
words_shown [] h = refl
words_shown (o ∷ os) h = go o (and_parts (are_shown (operand_names o)) (are_good_operands os) h).0 (words_shown os (and_parts (are_shown (operand_names o)) (are_good_operands os) h).1)
  where
    go : (o : Operand) → Shown (operand_names o) → Shown (names_in os) → Shown (names_in (o ∷ os))
    go (Value e) one rest = rest
    go (Applied f e) one rest = rest
    go (Target e) one rest = rest
    go (Register number) one rest = rest
    go (Accesses set) one rest = rest
    go (Word name) one rest = and_from _ _ (and_parts (is_name name) true one).0 rest
    go (Quoted bytes) one rest = rest

-- the names of one expression, as those of a list of one
alone_shown : (e : Expression) → Shown (tree_names e) → Shown (flat_map tree_names (e ∷ []))
alone_shown e h = all_both is_name (tree_names e) [] h refl

abbrev SaysShown : StatementKind → Type 0
SaysShown kind = Shown (said_names kind)

is_section_word : DirectiveWord → Bool
is_section_word words.Section = true
is_section_word _ = false

chosen_shown : (o : Option Choice) → SaysShown (Directs (option_directive o))
chosen_shown (Some choice) = refl
chosen_shown None = refl

directed_shown : (word : DirectiveWord) (os : List Operand) → is_section_word word ≡ false → AllShown os → SaysShown (Directs (directed word os))
unfolding AllShown operand_names is_section_word
directed_shown words.Section os plain h = absurd (cc)
directed_shown (words.Enters section) os plain h = refl
directed_shown (words.Binds binding) os plain h = all_both is_name (names_in os) [] (words_shown os h) refl
directed_shown words.Set (Word name ∷ Value e ∷ []) plain h =
    let p = and_parts (are_shown (name ∷ [])) (are_good_operands (Value e ∷ [])) h in
    let q = (and_parts (are_shown (tree_names e)) true p.1).0 in
    all_both is_name (name ∷ tree_names e) [] (and_from _ _ (and_parts (is_name name) true p.0).0 q) refl
directed_shown words.Set _ plain h = refl
directed_shown words.AlignToPower (Value e ∷ []) plain h = alone_shown e (and_parts (are_shown (tree_names e)) true h).0
directed_shown words.AlignToPower _ plain h = refl
directed_shown words.AlignToBytes (Value e ∷ []) plain h = alone_shown e (and_parts (are_shown (tree_names e)) true h).0
directed_shown words.AlignToBytes _ plain h = refl
directed_shown (words.Value width) os plain h = values_shown os h
directed_shown words.Ascii os plain h = refl
directed_shown words.Asciz os plain h = refl
directed_shown words.Zero (Value e ∷ []) plain h = alone_shown e (and_parts (are_shown (tree_names e)) true h).0
directed_shown words.Zero _ plain h = refl
directed_shown words.Option (Word name ∷ []) plain h = chosen_shown (named_in choices name)
directed_shown words.Option _ plain h = refl
directed_shown words.Ignored os plain h = refl

-- the bytes of a name that goes on, and those of the whole
added_shown : (k : Kind) (bytes : List ℕ) → good k ≡ true → joined_bytes k ≡ Some bytes → list_all is_name_byte bytes ≡ true
unfolding good
added_shown (Name name) bytes h e =
    let is : name ≡ bytes = cc in
    subst (λ (t : List ℕ). list_all is_name_byte t ≡ true) is (and_parts (nat_lt 0 (length name)) (list_all is_name_byte name) h).1
added_shown (Number word number) bytes h e = let is : word ≡ bytes = cc in subst (λ (t : List ℕ). list_all is_name_byte t ≡ true) is h
added_shown (Reference digits forward) bytes h e =
    let is : digits ++ direction forward ∷ [] ≡ bytes = cc in subst (λ (t : List ℕ). list_all is_name_byte t ≡ true) is h
added_shown (Bad_word word) bytes h e = let is : word ≡ bytes = cc in subst (λ (t : List ℕ). list_all is_name_byte t ≡ true) is h
added_shown (Punctuation puncts.Minus) bytes h e = let is : codes "-" ≡ bytes = cc in subst (λ (t : List ℕ). list_all is_name_byte t ≡ true) is refl
added_shown (Punctuation _) bytes h e = absurd (cc)
added_shown _ bytes h e = absurd (cc)

after_shown : (offset : ℕ) (ts : List Token) (bytes : List ℕ) → are_good ts ≡ true → AreAfter offset ts bytes → list_all is_name_byte bytes ≡ true
after_shown offset [] bytes g h = subst (λ (t : List ℕ). list_all is_name_byte t ≡ true) (sym h) refl
after_shown offset (t ∷ ts) bytes g (at, first, rest, own, is, more) =
    let k = and_parts (good t.kind) (are_good ts) g in
    subst (λ (x : List ℕ). list_all is_name_byte x ≡ true) (sym is)
    (all_both is_name_byte first rest (added_shown t.kind first k.0 own) (after_shown t.stop ts rest k.1 more))

some_more : (first rest : List ℕ) → nat_lt 0 (length first) ≡ true → nat_lt 0 (length (first ++ rest)) ≡ true
some_more [] rest h = absurd (cc)
some_more (b ∷ first) rest h = some_bytes b (first ++ rest)

front_shown : (first : List ℕ) (k : Kind) → k ≡ Name first → good k ≡ true → is_name first ≡ true
unfolding good
front_shown first k e h = subst (λ (x : Kind). good x ≡ true) e h

joined_name_shown : (ts : List Token) (name : List ℕ) → are_good ts ≡ true → IsJoined ts name → is_name name ≡ true
joined_name_shown [] name g h = absurd h
joined_name_shown (t ∷ ts) name g (first, rest, kind, is, more) =
    let k = and_parts (good t.kind) (are_good ts) g in
    let own = and_parts (nat_lt 0 (length first)) (list_all is_name_byte first) (front_shown first t.kind kind k.0) in
    subst (λ (x : List ℕ). is_name x ≡ true) (sym is)
    (and_from _ _ (some_more first rest own.0) (all_both is_name_byte first rest own.1 (after_shown t.stop ts rest k.1 more)))

section_shown : (name : List ℕ) (later : List Operand) → is_name name ≡ true → SaysShown (Directs (directed words.Section (Word name ∷ later)))
section_shown name [] h = and_from _ _ h refl
section_shown name (Quoted flags ∷ []) h = and_from _ _ h refl
section_shown name (Quoted flags ∷ Word kind ∷ size) h = and_from _ _ h refl
section_shown name _ h = refl

section_word_shown : (word : DirectiveWord) (ts : List Token) (os : List Operand) → is_section_word word ≡ true → are_good ts ≡ true → AreOperands (operand_slots word) ts os
    → SaysShown (Directs (directed word os))
unfolding is_section_word
section_word_shown words.Section ts os e g (one, rest, now, later, is, (name, joined, fine, names), others, says) =
    let h = all_parts (λ (t : Token). good t.kind) one rest (subst (λ (us : List Token). are_good us ≡ true) is g) in
    subst (λ (l : List Operand). SaysShown (Directs (directed words.Section l))) (sym (says ∙ ap (λ l. l ++ later) names))
    (section_shown name later (joined_name_shown one name h.0 joined))
section_word_shown _ ts os e g h = absurd (cc)

places_plain : (word : DirectiveWord) → is_section_word word ≡ false → are_plain (operand_slots word) ≡ true
unfolding are_plain is_plain is_section_word
places_plain words.Section h = absurd (cc)
places_plain (words.Enters section) h = refl
places_plain (words.Binds binding) h = refl
places_plain words.Set h = refl
places_plain words.AlignToPower h = refl
places_plain words.AlignToBytes h = refl
places_plain (words.Value width) h = refl
places_plain words.Ascii h = refl
places_plain words.Asciz h = refl
places_plain words.Zero h = refl
places_plain words.Option h = refl
places_plain words.Ignored h = refl

labelled_shown : (k : Kind) (name : List ℕ) → good k ≡ true → label_of k ≡ Some (Label name) → is_name name ≡ true
unfolding good
labelled_shown (Name n) name h e =
    pick (λ (x : Option StatementKind). x ≡ Some (Label name) → is_name name ≡ true) (is_symbol n) _ _
    (λ _ e. let is : n ≡ name = cc in subst (λ (x : List ℕ). is_name x ≡ true) is h) (λ _ e. absurd (cc)) e
labelled_shown (Number word number) name h e =
    pick (λ (x : Option StatementKind). x ≡ Some (Label name) → is_name name ≡ true) (list_all is_decimal word) _ _
    (λ _ e. absurd (cc)) (λ _ e. absurd (cc)) e
labelled_shown (Bad_word word) name h e =
    pick (λ (x : Option StatementKind). x ≡ Some (Label name) → is_name name ≡ true) (list_all is_decimal word) _ _
    (λ _ e. absurd (cc)) (λ _ e. absurd (cc)) e
labelled_shown _ name h e = absurd (cc)

directive_shown : (word : DirectiveWord) (ts : List Token) (os : List Operand) → are_good ts ≡ true → AreOperands (operand_slots word) ts os → SaysShown (Directs (directed word os))
directive_shown word ts os g h = go (is_section_word word) refl
  where
    go : (b : Bool) → is_section_word word ≡ b → SaysShown (Directs (directed word os))
    go false e = directed_shown word os e (operands_shown (operand_slots word) (places_plain word e) ts os g h)
    go true e = section_word_shown word ts os e g h

statement_shown : (ts : List Token) (kind : StatementKind) → are_good ts ≡ true → IsStatement ts kind → SaysShown kind
statement_shown ts (Label name) g (t, c, is, e, colon) =
    let h = and_parts (good t.kind) (are_good (c ∷ [])) (subst (λ (us : List Token). are_good us ≡ true) is g) in
    and_from _ _ (labelled_shown t.kind name h.0 e) refl
statement_shown ts (Numbered number) g h = refl
statement_shown ts (Instruction mnemonic operands) g (t, rest, is, colon, begun, h) =
    let k = and_parts (good t.kind) (are_good rest) (subst (λ (us : List Token). are_good us ≡ true) is g) in
    expressions_shown operands (operands_shown (slots mnemonic) (slots_plain mnemonic) rest operands k.1 h)
statement_shown ts (Directs directive) g (t, rest, word, operands, is, colon, begun, h, says) =
    let k = and_parts (good t.kind) (are_good rest) (subst (λ (us : List Token). are_good us ≡ true) is g) in
    subst (λ (d : Directive). SaysShown (Directs d)) (sym says) (directive_shown word rest operands k.1 h)

-- ---- the whole

abbrev AllSaid : List Statement → Type 0
AllSaid ss = list_all (λ (s : Statement). are_shown (said_names s.kind)) ss ≡ true

told_shown : (p : SourcePart) (ts : List Token) → are_good ts ≡ true → IsPart p ts → AllSaid (told p ts)
told_shown Ends ts g h = refl
told_shown (Says statement) [] g h = refl
told_shown (Says statement) (t ∷ ts) g h = and_from _ _ (statement_shown (t ∷ ts) statement g h) refl

parts_shown : (ps : List (Piece SourcePart Token)) → are_good (texts ps ++ []) ≡ true → Each IsPart StopsPart ps [] → AllSaid (statements_of_parts ps)
parts_shown [] g h = refl
parts_shown (p ∷ ps) g (is, stops, each) =
    let k = all_parts (λ (t : Token). good t.kind) p.text (texts ps ++ []) (subst (λ (us : List Token). are_good us ≡ true) (append_assoc p.text (texts ps) []) g) in
    all_both (λ (s : Statement). are_shown (said_names s.kind)) (told p.kind p.text) (statements_of_parts ps) (told_shown p.kind p.text k.0 is) (parts_shown ps k.1 each)

pub spelled_names : (bytes : List ℕ) (ss : List Statement) → Reads bytes ss → HasNames ss
spelled_names bytes ss (short, lines, few, ts, ps, lexes, cuts, says, opens) =
    subst AllSaid (sym says) (parts_shown ps (subst (λ (us : List Token). are_good us ≡ true) cuts.whole (lexed_good bytes ts lexes)) cuts.each)
