-- The syntax of statements, over the kinds of tokens (RISC-V Assembly Programmer's Manual; GNU as,
-- "Statements" and "Pseudo Ops").
--
-- A statement is a word and the slots that it awaits (`operand_slots`), and what stands in a slot is
-- said once: a new statement is a row, and which token is wrong in it follows from its slots.

use Rattle.std.specs.Prelude.{◌≡◌, ℕ, zero, suc, Bool, true, false, ◌&&◌, ◌||◌, ◌==◌, not, nat_le, ◌≤◌, List, [], ◌∷◌, ◌++◌, length, Option, Some, None, option_map, is_some, codes, ◌⊎◌, if◌then◌else◌}
use Rattle.std.specs.List.{list_all}
use Rattle.std.specs.Str.{bytes_eq}
use Rattle.rv_expression_laws.specs.declared.punct.Punct.TheVariants.{Comma, Colon, Semicolon, Open, Close, Percent, At, DoubleSlash}
use Rattle.rv_expression_laws.specs.Bytes.{digits_value, is_decimal}
use Rattle.rv_expression_laws.specs.Grammar.{Kind, Newline, Punctuation, Name as NameToken, Number, Reference as ReferenceToken, Bad_word, Text, Character, Bad_byte, Bad_token, End}
use Rattle.rv_expression_laws.specs.Lexing.{Token}
use Rattle.rv_expression_laws.specs.SyntaxError.{longest_name, is_long}
use Rattle.rv_expression_laws.specs.Joined.{IsJoined}
use Rattle.rv_expression_laws.specs.Expression.{Literal, Symbol, Reference, Tree, Leaf, Unary, Paren, Binary, SpellsTree, IsAt, nesting, deepest, bare}
use Rattle.rv_statement_laws.specs.declared.mnemonic.Mnemonic.{Mnemonic}
use Rattle.rv_statement_laws.specs.declared.mnemonic.Mnemonic.TheVariants.{Registers, Immediate, Shift, Upper, Load, Store, Branch, Jal, Jalr, LoadReserved, Atomic, Fence, FenceTso, Ecall, Ebreak, Nop, Unary as Of_one, Compare, ZeroBranch, SwappedBranch, J, Jr, Ret, La, Li, Call, Tail, Jump, Parcel}
use Rattle.rv_parcel.specs.declared.parcel.RegisterSet.{RegisterSet}
use Rattle.rv_parcel.specs.declared.parcel.RegisterSet.TheVariants.{Any}
use Rattle.rv_parcel.specs.declared.parcel.OperandShape.{OperandShape}
use Rattle.rv_parcel.specs.declared.parcel.OperandShape.TheVariants as shapes
use Rattle.rv_parcel.specs.Mnemonics.{is_of_set, register_sets, shape_of}
use Rattle.rv_isa.specs.declared.operation.RegisterOperation.{RegisterOperation}
use Rattle.rv_isa.specs.declared.operation.RegisterOperation.TheVariants.{Add, Sll, Slt, Sltu, Xor, Srl, Sra, Or, And, Addw, Sllw, Srlw, Sraw}
use Rattle.rv_isa.specs.declared.operation.ImmediateOperation.TheVariants.{Addi, Slti, Sltiu, Xori, Ori, Andi, Addiw}
use Rattle.rv_isa.specs.declared.operation.ShiftOperation.TheVariants.{Slli, Srli, Srai, Slliw, Srliw, Sraiw}
use Rattle.rv_isa.specs.declared.operation.UpperOperation.{UpperOperation}
use Rattle.rv_isa.specs.declared.operation.UpperOperation.TheVariants.{Lui, Auipc}
use Rattle.rv_statement_laws.specs.declared.pseudo.Function.{Function}
use Rattle.rv_statement_laws.specs.declared.pseudo.Function.TheVariants.{Hi, Lo, PcrelHi, PcrelLo}
use Rattle.rv_isa.specs.declared.operation.AccessSet.{AccessSet}
use Rattle.rv_statement_laws.specs.declared.directive.DirectiveWord.{DirectiveWord}
use Rattle.rv_statement_laws.specs.declared.directive.DirectiveWord.TheVariants as words
use Rattle.rv_statement_laws.specs.declared.directive.Choice.{Choice}
use Rattle.rv_statement_laws.specs.Statement.{Expression, Operand, Register, Value, Applied, Target, Accesses, Word, Quoted, Directive, Enters, Opens, Binds, Sets, Chooses as Choosing, Ignored, StatementKind, Label, Numbered, Instruction, Directs, Values, Strings, Zeros, As_power, As_bytes, Aligns, Emits}
use Rattle.rv_statement_laws.specs.Widths.{width_bytes}
pub use Rattle.rv_isa.specs.Registers.{is_register}
use Rattle.rv_parse_laws.specs.Words.{register, function_words, named_in, choices, beginning}
use Rattle.rv_parse_laws.specs.declared.role.Role.{Role}
use Rattle.rv_parse_laws.specs.declared.role.Role.TheVariants as roles
use Rattle.rv_parse_laws.specs.declared.beginning.Beginning.{Beginning}
use Rattle.rv_parse_laws.specs.declared.beginning.Beginning.TheVariants as beginnings

-- a name that a symbol may have: no register's, not `.` alone, and not too long
unfoldable pub is_symbol : List ℕ → Bool
is_symbol name =
    not (is_some (register name)) && not (bytes_eq name (codes "."))
    && nat_le (length name) longest_name

-- the register that a token names
abbrev pub register_of : Kind → Option ℕ
register_of (NameToken name) = register name
register_of _ = None

-- the same where it is one of a set
abbrev pub kept_in : RegisterSet → Option ℕ → Option ℕ
kept_in Any o = o
kept_in set None = None
kept_in set (Some r) = if is_of_set set r then Some r else None

-- the symbol that a token names
abbrev pub token_symbol : Kind → Option (List ℕ)
token_symbol (NameToken name) = if is_symbol name then Some name else None
token_symbol _ = None

-- a numeric label, by its decimal digits
abbrev pub numbered : List ℕ → Option StatementKind
numbered word = if list_all is_decimal word then Some (Numbered (digits_value 10 word)) else None

-- the label that a token is before a colon
abbrev pub label_of : Kind → Option StatementKind
label_of (NameToken name) = if is_symbol name then Some (Label name) else None
label_of (Number word number) = numbered word
label_of (Bad_word word) = numbered word
label_of _ = None

-- what a statement that begins with this token says
abbrev pub begins : Kind → Beginning
begins (NameToken name) = beginning name
begins _ = beginnings.Nothing

abbrev pub is_comma : Kind → Bool
is_comma (Punctuation Comma) = true
is_comma _ = false

abbrev pub is_colon : Kind → Bool
is_colon (Punctuation Colon) = true
is_colon _ = false

abbrev pub is_percent : Kind → Bool
is_percent (Punctuation Percent) = true
is_percent _ = false

abbrev pub is_at_sign : Kind → Bool
is_at_sign (Punctuation At) = true
is_at_sign _ = false

abbrev pub is_plt : Kind → Bool
is_plt (NameToken name) = bytes_eq name (codes "plt")
is_plt _ = false

-- a statement ends at its line's end, at `;` and at the source's end
abbrev pub is_end : Kind → Bool
is_end Newline = true
is_end (Punctuation Semicolon) = true
is_end End = true
is_end _ = false

-- the source's end
abbrev pub is_source_end : Kind → Bool
is_source_end End = true
is_source_end _ = false

-- a parenthesis
abbrev pub is_opening : Kind → Bool
is_opening (Punctuation Open) = true
is_opening _ = false

abbrev pub is_closing : Kind → Bool
is_closing (Punctuation Close) = true
is_closing _ = false

-- a literal of value 0
abbrev pub is_zero : Kind → Bool
is_zero (Number word number) = number == 0
is_zero (Character byte) = byte == 0
is_zero _ = false

-- a token that is wrong wherever it stands
abbrev pub is_wrong : Kind → Bool
is_wrong Bad_byte = true
is_wrong Bad_token = true
is_wrong (Bad_word word) = true
is_wrong (Punctuation DoubleSlash) = true
is_wrong _ = false

-- a token that may stand where operands are not looked at
abbrev pub is_any : Kind → Bool
is_any k = not (is_end k || is_wrong k || is_long k)

abbrev pub accesses : Bool → Bool → Bool → Bool → AccessSet
accesses input output reads writes =
    record { input = input; output = output; reads = reads; writes = writes }

-- the sets of accesses by their letters, in the order iorw (ISA, 2.7)
unfoldable pub access_sets : List (List ℕ × AccessSet)
access_sets =
    (codes "w", accesses false false false true)
    ∷ (codes "r", accesses false false true false)
    ∷ (codes "rw", accesses false false true true)
    ∷ (codes "o", accesses false true false false)
    ∷ (codes "ow", accesses false true false true)
    ∷ (codes "or", accesses false true true false)
    ∷ (codes "orw", accesses false true true true)
    ∷ (codes "i", accesses true false false false)
    ∷ (codes "iw", accesses true false false true)
    ∷ (codes "ir", accesses true false true false)
    ∷ (codes "irw", accesses true false true true)
    ∷ (codes "io", accesses true true false false)
    ∷ (codes "iow", accesses true true false true)
    ∷ (codes "ior", accesses true true true false)
    ∷ (codes "iorw", accesses true true true true)
    ∷ []

-- the set of accesses that a token names
abbrev pub accesses_of : Kind → Option AccessSet
accesses_of (NameToken name) = named_in access_sets name
accesses_of _ = None

-- the letters of a section's flags: a w x, and M and S, which are dropped
abbrev pub is_flag : ℕ → Bool
is_flag letter =
    (letter == 97) || (letter == 119) || (letter == 120) || (letter == 77) || (letter == 83)

-- what may stand in one slot of a statement
pub data Slot : Type 0 where
  -- a register of a set
  A_register_of : (set : RegisterSet) → Slot
  -- an expression; by its role it is a value or a target
  A_value : (role : Role) → Slot
  -- `(rs)`, or an expression and then `(rs)`, with a register of a set
  An_address_by : (set : RegisterSet) → Slot
  -- what `call` calls: a target, or a symbol and then `@plt`
  A_callee : Slot
  -- the 0 before an atomic's address
  A_zero : Slot
  -- the accesses that a fence orders
  Some_accesses : Slot
  A_symbol : Slot
  A_string : Slot
  -- what `.section` takes: a name, a string of letters, and a type behind `@`; which letters and
  -- types are good is said with the openings of sections
  A_section : Slot
  Some_flags : Slot
  At_sign : Slot
  A_type : Slot
  -- what `.option` takes
  An_option : Slot
  -- the word behind `@` in a call
  A_plt : Slot
  -- signs, behind what stands in another place
  A_comma : (behind : Slot) → Slot
  An_opening : (behind : Slot) → Slot
  A_closing : Slot

-- with any register
abbrev pub A_register : Slot
A_register = A_register_of Any

abbrev pub An_address : Slot
An_address = An_address_by Any

-- the places of a statement behind its word, one after another
pub data Slots : Type 0 where
  -- the statement's end
  Stops : (behind : Slot) → Slots
  -- what stands in a place, and then the rest
  Takes : (slot : Slot) (rest : Slots) → Slots
  -- where what stands in a place can begin, that and then the rest; else the others
  Chooses : (slot : Slot) (rest others : Slots) → Slots
  -- an address and then the statement's end; or a target, and then the rest
  Locates : (rest : Slots) → Slots
  -- one or more of a kind, with commas between, and then the statement's end
  Lists : (item : Slot) → Slots
  -- any tokens, up to the statement's end
  Anything : Slots

-- an operand and a comma; the last operand; a comma and more, or the end
abbrev pub and_then : Slot → Slots → Slots
and_then slot rest = Takes slot (Takes (A_comma slot) rest)

abbrev pub last : Slot → Slots
last slot = Takes slot (Stops slot)

abbrev pub and_maybe : Slot → Slots → Slots
and_maybe slot rest = Takes slot (Chooses (A_comma slot) rest (Stops slot))

-- `rs)`, and an atomic's address: `(rs)` with or without a 0 before it
abbrev pub closed : Slots
closed = Takes A_register (Takes A_closing (Stops A_register))

abbrev pub atomic_address : Slots
atomic_address =
    Chooses (An_opening A_register) closed (Takes A_zero (Takes (An_opening A_zero) closed))

-- the form with a constant of an operation that has one (GNU as, "RISC-V-Instructions")
abbrev pub with_constant : RegisterOperation → Option Mnemonic
with_constant Add = Some (Immediate Addi)
with_constant Slt = Some (Immediate Slti)
with_constant Sltu = Some (Immediate Sltiu)
with_constant Xor = Some (Immediate Xori)
with_constant Or = Some (Immediate Ori)
with_constant And = Some (Immediate Andi)
with_constant Addw = Some (Immediate Addiw)
with_constant Sll = Some (Shift Slli)
with_constant Srl = Some (Shift Srli)
with_constant Sra = Some (Shift Srai)
with_constant Sllw = Some (Shift Slliw)
with_constant Srlw = Some (Shift Srliw)
with_constant Sraw = Some (Shift Sraiw)
with_constant _ = None

-- the second source of an operation: a register, or a constant where it has that form
abbrev pub source : Bool → Slots
source true = Chooses A_register (Stops A_register) (last (A_value roles.Source))
source false = last A_register

-- the target of `jalr` behind its link register: `rs`, `rs, k`, `k(rs)`, `(rs)`
abbrev pub jump_target : Slots
jump_target =
    Chooses A_register
    (Chooses (A_comma A_register) (last (A_value roles.Operand)) (Stops A_register))
    (last An_address)

-- the operand of `lui` and of `auipc`
abbrev pub upper_role : UpperOperation → Role
upper_role Lui = roles.Upper
upper_role Auipc = roles.PcrelUpper

-- where a branch, a jump or a call goes; and a link register before it, if it is given
abbrev pub A_target : Slot
A_target = A_value roles.Target

abbrev pub linked : Slot → Slots
linked target = Chooses A_register (Takes (A_comma A_register) (last target)) (last target)

-- the places of a parcel's operands, by the sets of its registers: these alone, with the last one
-- in parentheses, or with what stands behind them
abbrev pub registers_alone : List RegisterSet → Slots
registers_alone [] = Stops A_register
registers_alone (set ∷ []) = last (A_register_of set)
registers_alone (set ∷ sets) = and_then (A_register_of set) (registers_alone sets)

abbrev pub registers_and_base : List RegisterSet → Slots
registers_and_base [] = Stops A_register
registers_and_base (base ∷ []) = last (An_address_by base)
registers_and_base (set ∷ sets) = and_then (A_register_of set) (registers_and_base sets)

abbrev pub registers_before : List RegisterSet → Slots → Slots
registers_before [] rest = rest
registers_before (set ∷ sets) rest = and_then (A_register_of set) (registers_before sets rest)

abbrev pub parcel_slots : OperandShape → List RegisterSet → Slots
parcel_slots shapes.Registers sets = registers_alone sets
parcel_slots shapes.Number sets = registers_before sets (last (A_value roles.Operand))
parcel_slots shapes.Address sets = registers_and_base sets
parcel_slots shapes.Target sets = registers_before sets (last A_target)

-- the places of each instruction's operands (ISA, chapter 24; Assembly Programmer's Manual)
abbrev pub slots : Mnemonic → Slots
slots (Registers operation) =
    and_then A_register (and_then A_register (source (is_some (with_constant operation))))
slots (Immediate operation) =
    and_then A_register (and_then A_register (last (A_value roles.Operand)))
slots (Shift operation) = and_then A_register (and_then A_register (last (A_value roles.Operand)))
slots (Upper operation) = and_then A_register (last (A_value (upper_role operation)))
slots (Load operation) = and_then A_register (Locates (Stops A_target))
slots (Store operation) = and_then A_register (Locates (Takes (A_comma A_target) (last A_register)))
slots (Branch operation) = and_then A_register (and_then A_register (last A_target))
slots Jal = linked A_target
slots Jalr =
    Chooses A_register (Chooses (A_comma A_register) jump_target (Stops A_register))
    (last An_address)
slots (LoadReserved form) = and_then A_register atomic_address
slots (Atomic operation form) = and_then A_register (and_then A_register atomic_address)
slots Fence =
    Chooses Some_accesses (Takes (A_comma Some_accesses) (last Some_accesses)) (Stops A_register)
slots FenceTso = Stops A_register
slots Ecall = Stops A_register
slots Ebreak = Stops A_register
slots Nop = Stops A_register
slots (Of_one operation) = and_then A_register (last A_register)
slots (Compare operation) = and_then A_register (and_then A_register (last A_register))
slots (ZeroBranch operation) = and_then A_register (last A_target)
slots (SwappedBranch operation) = and_then A_register (and_then A_register (last A_target))
slots J = last A_target
slots Jr = Chooses A_register (Stops A_register) (last An_address)
slots Ret = Stops A_register
slots La = and_then A_register (last A_target)
slots Li = and_then A_register (last (A_value roles.Operand))
slots Call = linked A_callee
slots Tail = last A_target
slots Jump = and_then A_target (last A_register)
slots (Parcel operation) = parcel_slots (shape_of operation) (register_sets operation)

-- `.section name[,"flags"[,@type[,n]]]`
abbrev pub section_slots : Slots
section_slots =
    and_maybe A_section
    (and_maybe Some_flags (Takes At_sign (and_maybe A_type (last (A_value roles.Directive)))))

-- the places of each directive's operands (GNU as, "Pseudo Ops")
abbrev pub operand_slots : DirectiveWord → Slots
operand_slots (words.Enters section) = Stops A_register
operand_slots words.Section = section_slots
operand_slots (words.Binds binding) = Lists A_symbol
operand_slots words.Set = and_then A_symbol (last (A_value roles.Directive))
operand_slots words.AlignToPower = last (A_value roles.Alignment)
operand_slots words.AlignToBytes = last (A_value roles.Alignment)
operand_slots (words.Value width) = Lists (A_value roles.Directive)
operand_slots words.Ascii = Lists A_string
operand_slots words.Asciz = Lists A_string
operand_slots words.Zero = last (A_value roles.Directive)
operand_slots words.Option = last An_option
operand_slots words.Ignored = Anything

-- the operands that one token is, in a place for it
abbrev pub single : Slot → Kind → Option (List Operand)
single (A_register_of set) k =
    option_map (λ r. Register r ∷ []) (kept_in set (register_of k))
single A_zero k = if is_zero k then Some [] else None
single Some_accesses k = option_map (λ set. Accesses set ∷ []) (accesses_of k)
single A_symbol k = option_map (λ name. Word name ∷ []) (token_symbol k)
single A_string (Text bytes) = Some (Quoted bytes ∷ [])
single Some_flags (Text letters) = Some (Quoted letters ∷ [])
single At_sign k = if is_at_sign k then Some [] else None
single A_type (NameToken name) = Some (Word name ∷ [])
single An_option (NameToken name) =
    if is_some (named_in choices name) then Some (Word name ∷ []) else None
single A_plt k = if is_plt k then Some [] else None
single (A_comma behind) k = if is_comma k then Some [] else None
single (An_opening behind) k = if is_opening k then Some [] else None
single A_closing k = if is_closing k then Some [] else None
single _ k = None

-- a name that a section of a source may have: not too long, and not that of the rows
unfoldable pub is_section_name : List ℕ → Bool
is_section_name name = nat_le (length name) longest_name && not (bytes_eq name (codes ".rv.rows"))

-- where an expression says where something goes
abbrev pub targets : Role → Bool
targets roles.Target = true
targets _ = false

-- an expression as an operand: a target, or a value
abbrev pub valued : Role → Expression → Operand
valued role e = if targets role then Target e else Value e

-- an expression of numbers alone: it has no name, no numeric reference and no `.`
abbrev pub is_of_numbers : Expression → Bool
is_of_numbers (Leaf (Literal number)) = true
is_of_numbers (Leaf _) = false
is_of_numbers (Unary o x) = is_of_numbers x
is_of_numbers (Paren x) = is_of_numbers x
is_of_numbers (Binary o x y) = is_of_numbers x && is_of_numbers y

-- an expression that is spelled right, and is refused where it stands: a number as a target
abbrev pub is_refused : Role → Expression → Bool
is_refused role e = targets role && is_of_numbers e

-- the tokens are an expression
abbrev pub IsValue : List Token → Expression → Type 0
IsValue ts e =
    (tree : Tree) × SpellsTree is_register tree ts × IsAt 0 tree × (nesting tree ≤ deepest)
    × (e ≡ bare tree)

-- the functions that may stand in place of a value
abbrev pub may_stand : Role → Function → Bool
may_stand roles.Upper Hi = true
may_stand roles.PcrelUpper PcrelHi = true
may_stand roles.Source Lo = true
may_stand roles.Operand Lo = true
may_stand roles.Operand PcrelLo = true
may_stand _ _ = false

abbrev pub standing : Role → Option Function → Option Function
standing role (Some f) = if may_stand role f then Some f else None
standing role None = None

-- the function that a token names, where it may stand
abbrev pub function_in : Role → Kind → Option Function
function_in role (NameToken name) = standing role (named_in function_words name)
function_in role _ = None

-- the label that a token names
abbrev pub label_named : Kind → Option Expression
label_named (NameToken name) = if is_symbol name then Some (Leaf (Symbol name)) else None
label_named (ReferenceToken digits forward) = Some (Leaf (Reference digits forward))
label_named _ = None

-- the tokens are the argument of a function: a label, or an expression
abbrev pub IsArgument : Function → List Token → Expression → Type 0
IsArgument PcrelLo ts e = (t : Token) × (ts ≡ t ∷ []) × (label_named t.kind ≡ Some e)
IsArgument f ts e = IsValue ts e

-- a function of a value that is spelled right, and is refused: `%pcrel_hi` of a number
abbrev pub is_refused_by : Function → Expression → Bool
is_refused_by PcrelHi e = is_of_numbers e
is_refused_by _ e = false

-- the tokens are a function of a value that may stand so
abbrev pub IsApplied : Role → List Token → Operand → Type 0
IsApplied role ts o =
    (p n q : Token) × (argument : List Token) × (c : Token) × (f : Function) × (e : Expression)
    × (ts ≡ p ∷ n ∷ q ∷ (argument ++ c ∷ [])) × (is_percent p.kind ≡ true)
    × (function_in role n.kind ≡ Some f) × (is_opening q.kind ≡ true) × IsArgument f argument e
    × (is_closing c.kind ≡ true) × (is_refused_by f e ≡ false) × (o ≡ Applied f e)

-- the tokens are an expression that may stand so, or a function of one
abbrev pub IsValueIn : Role → List Token → Operand → Type 0
IsValueIn role ts o =
    ((e : Expression) × IsValue ts e × (is_refused role e ≡ false) × (o ≡ valued role e))
    ⊎ IsApplied role ts o

-- the tokens are a register of a set in parentheses
abbrev pub IsBase : RegisterSet → List Token → List Operand → Type 0
IsBase set ts os =
    (o r c : Token) × (number : ℕ) × (ts ≡ o ∷ r ∷ c ∷ []) × (is_opening o.kind ≡ true)
    × (kept_in set (register_of r.kind) ≡ Some number) × (is_closing c.kind ≡ true)
    × (os ≡ Register number ∷ [])

-- the tokens are an expression and then a register of a set in parentheses
abbrev pub IsOffset : RegisterSet → List Token → List Operand → Type 0
IsOffset set ts os =
    (one rest : List Token) × (o : Operand) × (base : List Operand) × (ts ≡ one ++ rest)
    × IsValueIn roles.Operand one o × IsBase set rest base × (os ≡ o ∷ base)

-- the tokens are a symbol and `@plt`
abbrev pub IsLinked : List Token → List Operand → Type 0
IsLinked ts os =
    (f a p : Token) × (name : List ℕ) × (ts ≡ f ∷ a ∷ p ∷ []) × (token_symbol f.kind ≡ Some name)
    × (is_at_sign a.kind ≡ true)
    × (is_plt p.kind ≡ true) × (os ≡ Target (Leaf (Symbol name)) ∷ [])

-- the tokens are an expression that may stand so, or a function of one, as an operand
abbrev pub IsOneIn : Role → List Token → List Operand → Type 0
IsOneIn role ts os = (o : Operand) × IsValueIn role ts o × (os ≡ o ∷ [])

-- the tokens stand in this place, with these operands
abbrev pub IsOperand : Slot → List Token → List Operand → Type 0
IsOperand (A_value role) ts os = IsOneIn role ts os
IsOperand (An_address_by set) ts os = IsBase set ts os ⊎ IsOffset set ts os
IsOperand A_callee ts os = IsOneIn roles.Target ts os ⊎ IsLinked ts os
IsOperand A_section ts os =
    (name : List ℕ) × IsJoined ts name × (is_section_name name ≡ true) × (os ≡ Word name ∷ [])
IsOperand s ts os = (t : Token) × (ts ≡ t ∷ []) × (single s t.kind ≡ Some os)

-- the token at the front can stand in this place
abbrev pub front_begins : Slot → List Token → Bool
front_begins s [] = false
front_begins s (t ∷ ts) = is_some (single s t.kind)

-- a register in parentheses comes next: a register's name stands behind the first
abbrev pub base_next : List Token → Bool
base_next [] = false
base_next (t ∷ ts) = is_opening t.kind && front_begins A_register ts

-- a symbol and `@` come next
abbrev pub plt_next : List Token → Bool
plt_next [] = false
plt_next (t ∷ ts) = is_some (token_symbol t.kind) && front_begins At_sign ts

-- what stands in a place, and then what N says
abbrev pub TakesSlot : Slot → (List Token → List Operand → Type 0) → List Token → List Operand →
    Type 0
TakesSlot s N ts os =
    (one rest : List Token) × (now later : List Operand) × (ts ≡ one ++ rest) × IsOperand s one now
    × N rest later × (os ≡ now ++ later)

-- a comma, and then what N says
abbrev pub IsFurther : (List Token → List Operand → Type 0) → List Token → List Operand → Type 0
IsFurther N ts os =
    (c : Token) × (rest : List Token) × (ts ≡ c ∷ rest) × (is_comma c.kind ≡ true) × N rest os

-- so many items, with commas between
abbrev pub AreItems : ℕ → Slot → List Token → List Operand → Type 0
AreItems zero s ts os = ⊥
AreItems (suc zero) s ts os = IsOperand s ts os
AreItems (suc (suc n)) s ts os = TakesSlot s (IsFurther (λ us ps. AreItems (suc n) s us ps)) ts os

-- the tokens stand in these places, with these operands
abbrev pub AreOperands : Slots → List Token → List Operand → Type 0
AreOperands (Stops behind) ts os = (ts ≡ []) × (os ≡ [])
AreOperands (Takes s rest) ts os = TakesSlot s (λ us ps. AreOperands rest us ps) ts os
AreOperands (Chooses s rest others) ts os =
    TakesSlot s (λ us ps. AreOperands rest us ps) ts os
    ⊎ ((front_begins s ts ≡ false) × AreOperands others ts os)
AreOperands (Locates rest) ts os =
    IsOperand An_address ts os ⊎ TakesSlot A_target (λ us ps. AreOperands rest us ps) ts os
AreOperands (Lists s) ts os = (n : ℕ) × AreItems n s ts os
AreOperands Anything ts os = (list_all (λ (t : Token). is_any t.kind) ts ≡ true) × (os ≡ [])

-- the names, strings and expressions among operands
abbrev pub names_in : List Operand → List (List ℕ)
names_in [] = []
names_in (Word name ∷ os) = name ∷ names_in os
names_in (_ ∷ os) = names_in os

abbrev pub strings_in : List Operand → List (List ℕ)
strings_in [] = []
strings_in (Quoted bytes ∷ os) = bytes ∷ strings_in os
strings_in (_ ∷ os) = strings_in os

abbrev pub values_in : List Operand → List Expression
values_in [] = []
values_in (Value e ∷ os) = e ∷ values_in os
values_in (_ ∷ os) = values_in os

-- what `.option` says with a word
abbrev pub option_directive : Option Choice → Directive
option_directive (Some choice) = Choosing choice
option_directive None = Ignored

-- what a directive's word says with its operands; other operands than these it never has
abbrev pub directed : DirectiveWord → List Operand → Directive
directed (words.Enters section) os = Enters section
directed words.Section (Word name ∷ []) = Opens name None None
directed words.Section (Word name ∷ Quoted flags ∷ []) = Opens name (Some flags) None
-- the size of an entry is not used
directed words.Section (Word name ∷ Quoted flags ∷ Word kind ∷ size) =
    Opens name (Some flags) (Some kind)
directed (words.Binds binding) os = Binds binding (names_in os)
directed words.Set (Word name ∷ Value e ∷ []) = Sets name e
directed words.AlignToPower (Value e ∷ []) = Aligns As_power e
directed words.AlignToBytes (Value e ∷ []) = Aligns As_bytes e
directed (words.Value width) os = Emits (Values (width_bytes width) (values_in os))
directed words.Ascii os = Emits (Strings false (strings_in os))
directed words.Asciz os = Emits (Strings true (strings_in os))
directed words.Zero (Value e ∷ []) = Emits (Zeros e)
directed words.Option (Word name ∷ []) = option_directive (named_in choices name)
directed _ os = Ignored

-- a colon comes next
abbrev pub colon_next : List Token → Bool
colon_next [] = false
colon_next (t ∷ ts) = is_colon t.kind

-- the tokens are a label and its colon
abbrev pub IsLabel : List Token → StatementKind → Type 0
IsLabel ts s =
    (t c : Token) × (ts ≡ t ∷ c ∷ []) × (label_of t.kind ≡ Some s) × (is_colon c.kind ≡ true)

-- the tokens that say a statement, without its end; a word before a colon is a label
abbrev pub IsStatement : List Token → StatementKind → Type 0
IsStatement ts (Label name) = IsLabel ts (Label name)
IsStatement ts (Numbered number) = IsLabel ts (Numbered number)
IsStatement ts (Instruction mnemonic operands) =
    (t : Token) × (rest : List Token) × (ts ≡ t ∷ rest) × (colon_next rest ≡ false)
    × (begins t.kind ≡ beginnings.Instruction mnemonic)
    × AreOperands (slots mnemonic) rest operands
IsStatement ts (Directs directive) =
    (t : Token) × (rest : List Token) × (word : DirectiveWord) × (operands : List Operand)
    × (ts ≡ t ∷ rest) × (colon_next rest ≡ false)
    × (begins t.kind ≡ beginnings.Directive word) × AreOperands (operand_slots word) rest operands
    × (directive ≡ directed word operands)

-- a part of a source: a statement, or the end of one or of nothing
pub data SourcePart : Type 0 where
  Ends : SourcePart
  Says : (statement : StatementKind) → SourcePart

-- the tokens that a part consists of
abbrev pub IsPart : SourcePart → List Token → Type 0
IsPart Ends ts = (t : Token) × (ts ≡ t ∷ []) × (is_end t.kind ≡ true)
IsPart (Says statement) ts = IsStatement ts statement

-- the tokens begin with the end of a statement
abbrev pub EndsHere : List Token → Type 0
EndsHere ts = (t : Token) × (rest : List Token) × (ts ≡ t ∷ rest) × (is_end t.kind ≡ true)

-- a statement goes on up to its end; a label may be followed by anything
abbrev pub StopsPart : SourcePart → List Token → Type 0
StopsPart (Says (Instruction mnemonic operands)) rest = EndsHere rest
StopsPart (Says (Directs directive)) rest = EndsHere rest
StopsPart _ rest = Unit {0}
