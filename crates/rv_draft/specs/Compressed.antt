-- Which statements are code, as the code has them.

use Rattle.std.specs.Prelude.{Bool, true, false}
use Rattle.rv_statement.specs.declared.statement.Operation.{Operation}
use Rattle.rv_statement.specs.declared.statement.Operation.TheVariants as operations
use Rattle.rv_statement.specs.declared.statement.Plain.{Plain as PlainStatement}
use Rattle.rv_statement.specs.declared.statement.Plain.TheVariants as plains
use Rattle.rv_statement.specs.declared.statement.StatementKind.{StatementKind}
use Rattle.rv_statement.specs.declared.statement.StatementKind.TheVariants.{Plain, With, WithFunction, AlignsToPower, AlignsToBytes}

-- an instruction, or an alignment in a section of code
abbrev pub is_code_kind : Bool → StatementKind → Bool
is_code_kind executable (Plain plain) = true
is_code_kind executable (With operation expression) = true
is_code_kind executable (WithFunction operation function expression) = true
is_code_kind executable (AlignsToPower exponent) = executable
is_code_kind executable (AlignsToBytes bytes) = executable
is_code_kind executable _ = false

-- a parcel, without an expression and with one
abbrev pub is_parcel_plain : PlainStatement → Bool
is_parcel_plain (plains.Parcel operation first second) = true
is_parcel_plain _ = false

abbrev pub is_parcel_operation : Operation → Bool
is_parcel_operation (operations.Parcel operation first second) = true
is_parcel_operation _ = false

abbrev pub names_parcel_kind : StatementKind → Bool
names_parcel_kind (Plain plain) = is_parcel_plain plain
names_parcel_kind (With operation expression) = is_parcel_operation operation
names_parcel_kind (WithFunction operation function expression) = is_parcel_operation operation
names_parcel_kind _ = false
