-- What the types of words and slots stand for.

use Rattle.std.specs.Prelude.{ℕ, ◌-◌, List, [], ◌∷◌, length, get_or, Option, None, map}
use Rattle.std.specs.Borrow.{Bor}
use Rattle.rv_expression_laws.specs.Grammar.{Kind, Name}
use Rattle.rv_statement_laws.specs.declared.directive.Choice.{Choice}
use Rattle.rv_statement_laws.specs.Statement.{Operand, Word, Quoted}
use Rattle.rv_statement.specs.View.{now_of, quoted}
use Rattle.rv_parse_laws.specs.Syntax as syntax
use Rattle.rv_parse_laws.specs.Words as words
use Rattle.rv_parse_words.specs.declared.fault.Slot.{Slot}
use Rattle.rv_parse_words.specs.declared.fault.Slot.TheVariants as slots

abbrev pub slot_of : Slot → syntax.Slot
slot_of (slots.Register set) = syntax.A_register_of set
slot_of (slots.Value role) = syntax.A_value role
slot_of (slots.Address set) = syntax.An_address_by set
slot_of slots.Callee = syntax.A_callee
slot_of slots.Zero = syntax.A_zero
slot_of slots.Accesses = syntax.Some_accesses
slot_of slots.Symbol = syntax.A_symbol
slot_of slots.Text = syntax.A_string
slot_of slots.Section = syntax.A_section
slot_of slots.Flags = syntax.Some_flags
slot_of slots.Type = syntax.A_type
slot_of slots.Choice = syntax.An_option

-- a row of a table of names
abbrev pub named_of : {X : Type 0} → Bor (List ℕ) × X → List ℕ × X
named_of row = (row.0.now, row.1)

-- the rows of a table of names
abbrev pub named_rows : {X : Type 0} → Bor (List (Bor (List ℕ) × X)) → List (List ℕ × X)
named_rows rows = map named_of rows.now

-- the choice of `.option` that a token names
abbrev pub choice_of : Kind → Option Choice
choice_of (Name name) = words.named_in words.choices name
choice_of _ = None

-- a symbol and a string as operands
abbrev pub word_of : Bor (List ℕ) → Operand
word_of name = Word (now_of name)

abbrev pub string_of : Bor (List ℕ) → Operand
string_of text = Quoted (quoted text)

-- the second byte of a word, and 0 where it has none
abbrev pub second : List ℕ → ℕ
second [] = 0
second (b ∷ []) = 0
second (b ∷ c ∷ word) = c

-- the last byte of a word, and 0 where it has none
abbrev pub last_byte : List ℕ → ℕ
last_byte word = get_or word (length word - 1) 0
