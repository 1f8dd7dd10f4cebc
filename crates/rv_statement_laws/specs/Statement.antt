-- What a statement says, as plain data (RISC-V Assembly Programmer's Manual; GNU as, "Pseudo Ops").
-- Later kinds are further cases.

use Rattle.std.specs.Prelude.{ℕ, List, Bool, Option}
use Rattle.rv_expression_laws.specs.Expression.{Tree}
use Rattle.rv_statement_laws.specs.declared.mnemonic.Mnemonic.{Mnemonic}
use Rattle.rv_statement_laws.specs.declared.pseudo.Function.{Function}
use Rattle.rv_isa.specs.declared.operation.AccessSet.{AccessSet}
use Rattle.rv_statement_laws.specs.declared.directive.Standard.{Standard}
use Rattle.rv_statement_laws.specs.declared.directive.Binding.{Binding}
use Rattle.rv_statement_laws.specs.declared.directive.Choice.{Choice}

-- an expression of a statement: as it is written, without its parentheses
abbrev pub Expression : Type 0
Expression = Tree

-- an operand, or a part of one: `8(sp)` is its offset and then its register
pub data Operand : Type 0 where
  -- a register, by its number
  Register : (number : ℕ) → Operand
  Value : (expression : Expression) → Operand
  -- a function of a value: `%lo(x)`
  Applied : (function : Function) (expression : Expression) → Operand
  -- where a branch, a jump or a call goes, or the address that a load or a store of a symbol takes
  Target : (expression : Expression) → Operand
  -- the accesses that a fence orders
  Accesses : (set : AccessSet) → Operand
  -- a symbol's name, or another word
  Word : (name : List ℕ) → Operand
  -- the bytes of a string
  Quoted : (bytes : List ℕ) → Operand

-- what a directive adds to a section of data
pub data Data : Type 0 where
  -- `.byte` to `.quad`: values of 1, 2, 4 or 8 bytes each
  Values : (width : ℕ) (values : List Expression) → Data
  -- the bytes of strings: `.ascii`, or `.asciz` and `.string` with a zero byte behind each
  Strings : (ended : Bool) (strings : List (List ℕ)) → Data
  -- `.zero`, `.space` and `.skip`: so many zero bytes
  Zeros : (count : Expression) → Data

-- how the number of an alignment is meant
pub data AlignmentForm : Type 0 where
  -- `.align` and `.p2align`: as a power of two
  As_power : AlignmentForm
  -- `.balign`: in bytes
  As_bytes : AlignmentForm

pub data Directive : Type 0 where
  -- `.text`, `.data`, `.rodata` and `.bss`
  Enters : (section : Standard) → Directive
  -- `.section`, with its flags' letters and its type's name where they are given
  Opens : (name : List ℕ) (flags kind : Option (List ℕ)) → Directive
  -- `.globl`, `.global`, `.local` and `.weak`, with their names in order
  Binds : (binding : Binding) (names : List (List ℕ)) → Directive
  -- `.set` and `.equ`
  Sets : (name : List ℕ) (expression : Expression) → Directive
  -- `.align`, `.p2align` and `.balign`
  Aligns : (form : AlignmentForm) (number : Expression) → Directive
  -- the directives of data
  Emits : (contents : Data) → Directive
  -- `.option`
  Chooses : (choice : Choice) → Directive
  -- a directive without effect
  Ignored : Directive

pub data StatementKind : Type 0 where
  Label : (name : List ℕ) → StatementKind
  -- a numeric label, by its number
  Numbered : (number : ℕ) → StatementKind
  Instruction : (mnemonic : Mnemonic) (operands : List Operand) → StatementKind
  Directs : (directive : Directive) → StatementKind

-- a statement with the line of its first byte, from 1; its ordinal is its place in the list, from 1
pub record Statement : Type 0 where
  pub line : ℕ
  pub kind : StatementKind
