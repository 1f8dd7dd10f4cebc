-- The statements of each file have the least sizes: the smallest forms of its branches and jumps
-- with which each form below a statement's largest reaches (GNU as, "RISC-V-Directives"; ISA,
-- "Conditional Branches" and "Unconditional Jumps").

use Rattle.std.specs.Prelude.{◌≡◌, ℕ, suc, Bool, true, false, ◌==◌, ⊤, if◌then◌else◌, List, [], ◌∷◌, filter, Option, Some, None}
use Rattle.rv_statement_laws.specs.declared.mnemonic.Mnemonic.{Mnemonic}
use Rattle.rv_statement_laws.specs.declared.mnemonic.Mnemonic.TheVariants.{Call, Tail, Jump}
use Rattle.rv_statement_laws.specs.Statement.{StatementKind, Instruction, Directs, Statement, Expression, Directive}
use Rattle.rv_expression_laws.specs.Values.{Value}
use Rattle.rv_unit_laws.specs.Contributions.{Contribution, Alignment, contribution}
use Rattle.rv_unit_laws.specs.Tables.{tables, at_start, alignment_of}
use Rattle.rv_map_laws.specs.Map.{Map}
use Rattle.rv_map_laws.specs.declared.map.Row.{Row}
use Rattle.rv_source_laws.specs.Located.{Located, located_from}
use Rattle.rv_source_laws.specs.Program.{MaybeMapped, Program, program, form}
use Rattle.rv_source_laws.specs.Sizes.{code_padding, AreLeast}

-- ---- the size of a statement

abbrev pub is_call_mnemonic : Mnemonic → Bool
is_call_mnemonic Call = true
is_call_mnemonic Tail = true
is_call_mnemonic Jump = true
is_call_mnemonic _ = false

-- a call counts as 8 bytes, and an alignment in code as all the padding that it may need, whatever
-- is left of them in the map; all else has the bytes of its row
abbrev pub instruction_size : Mnemonic → ℕ → ℕ
instruction_size mnemonic bytes = if is_call_mnemonic mnemonic then 8 else bytes

abbrev pub directive_size : Bool → (Expression → Value) → Directive → Contribution → ℕ → ℕ
directive_size executable v d (Alignment counts number) bytes =
    if executable then code_padding (alignment_of v d) else bytes
directive_size executable v d _ bytes = bytes

-- of a statement in a section of code or of data, by the bytes of its row
abbrev pub statement_size : (executable : Bool) → (Expression → Value) → StatementKind → ℕ → ℕ
statement_size executable v (Instruction mnemonic operands) bytes = instruction_size mnemonic bytes
statement_size executable v (Directs d) bytes =
    directive_size executable v d (contribution d) bytes
statement_size executable v _ bytes = bytes

-- a statement without a place has no bytes; in a section that isn't loaded no map shows them
abbrev pub HasSizeBy : Program → Located → Option Row → (size : ℕ) → Type 0
HasSizeBy p s (Some row) size =
    size ≡ statement_size s.home.executable (λ e. form p s e) s.kind row.bytes
HasSizeBy p s None size = s.placed ≡ false → size ≡ 0

abbrev pub HaveSizes : Program → List MaybeMapped → (sizes : List ℕ) → Type 0
HaveSizes p [] [] = ⊤
HaveSizes p [] (size ∷ sizes) = ⊥
HaveSizes p (e ∷ es) [] = ⊥
HaveSizes p (e ∷ es) (size ∷ sizes) =
    HasSizeBy p e.located e.row size × HaveSizes p es sizes

-- ---- the sizes of a file

abbrev pub statements_in : Program → ℕ → List MaybeMapped
statements_in p file = filter (λ e. e.located.file == file) p.statements

-- they are the least with which its branches and jumps reach, calls counted 8
pub record IsFileSized (p : Program) (file : ℕ) (ss : List Statement) : Type 0 where
  pub sizes : List ℕ
  pub has : HaveSizes p (statements_in p file) sizes
  pub least : AreLeast (tables ss) (located_from 1 1 (at_start ss) ss) sizes

abbrev pub AreFilesSized : Program → ℕ → List (List Statement) → Type 0
AreFilesSized p file [] = ⊤
AreFilesSized p file (ss ∷ files) = IsFileSized p file ss × AreFilesSized p (suc file) files

-- those of all files
abbrev pub Sized : List (List Statement) → Map → Type 0
Sized sources m = AreFilesSized (program sources m) 1 sources
