-- The open field of code that is one part: of a branch or a jump that reaches, and of a call.

use Rattle.std.specs.Prelude.{◌≡◌, ℕ, ◌==◌, ◌&&◌, Bool, List, [], ◌∷◌, map, Option, Some, None, if◌then◌else◌}
use Rattle.rv_isa.specs.declared.kind.Kind.{Kind}
use Rattle.rv_isa.specs.declared.kind.Kind.TheVariants as fields
use Rattle.rv_statement_laws.specs.Statement.{StatementKind, Instruction}
use Rattle.rv_statement.specs.declared.statement.Operation.{Operation}
use Rattle.rv_statement.specs.declared.statement.Operation.TheVariants as operations
use Rattle.rv_statement.specs.declared.statement.StatementKind.{StatementKind as SourceKind}
use Rattle.rv_statement.specs.declared.statement.StatementKind.TheVariants.{With}
use Rattle.rv_pseudo_laws.specs.Code.{Part, Constants, code}
use Rattle.rv_instruction.specs.Code.{Shape, shape_by, shape_of, is_call_field}

-- the kind of the field of a branch of so many bytes: one of eight has two parts
abbrev pub branch_kind : ℕ → Option Kind
branch_kind bytes =
    if bytes == 2 then Some fields.RvcBranch
    else if bytes == 8 then None else Some fields.Branch

-- of a jump that writes where it came from into a register
abbrev pub jump_kind : ℕ → ℕ → Kind
jump_kind rd bytes = if (rd == 0) && (bytes == 2) then fields.RvcJump else fields.Jal

abbrev pub call_kind : ℕ → Option Kind
call_kind bytes = if bytes == 8 then Some fields.CallPlt else None

-- of an operation with a target
abbrev pub operation_kind : Operation → ℕ → Option Kind
operation_kind (operations.Branch operation rs1 rs2) bytes = branch_kind bytes
operation_kind (operations.ZeroBranch operation rs) bytes = branch_kind bytes
operation_kind (operations.SwappedBranch operation rs1 rs2) bytes = branch_kind bytes
operation_kind (operations.Jal rd) bytes = Some (jump_kind rd bytes)
operation_kind operations.JalLinked bytes = Some (jump_kind 1 bytes)
operation_kind operations.J bytes = Some (jump_kind 0 bytes)
operation_kind (operations.Call rd) bytes = call_kind bytes
operation_kind operations.CallLinked bytes = call_kind bytes
operation_kind operations.Tail bytes = call_kind bytes
operation_kind (operations.Jump rt) bytes = call_kind bytes
operation_kind _ bytes = None

abbrev pub lone_kind : SourceKind → ℕ → Option Kind
lone_kind (With operation e) bytes = operation_kind operation bytes
lone_kind _ bytes = None

-- a part with such a field: a call is two instructions
abbrev pub lone_shape : Kind → Shape
lone_shape k = shape_by (Some k) (if is_call_field (Some k) then 2 else 1)

-- the code of a statement in so many bytes is one part, with a field of this kind
abbrev pub IsLone : StatementKind → ℕ → Kind → Type 0
IsLone (Instruction mnemonic operands) bytes k =
    (v : Constants) (rvc : Bool) (ps : List Part) → code v rvc bytes mnemonic operands ≡ Some ps
    → map shape_of ps ≡ lone_shape k ∷ []
IsLone says bytes k = ⊥
