-- The rows of operations with an operand that is known: parts without open fields, the same whatever the form.
pub mod KnownRowsLemmas
-- The rows of operations with an address, whose field stays open.
pub mod OpenRowsLemmas
-- The rows that leave no field open, whatever the names in them stand for.
pub mod FreeRowsLemmas
-- A statement that is one instruction.
pub mod OneInstructionLemmas
-- The field of a statement's operand, by what stands there.
pub mod OpenFieldsLemmas
-- An instruction in its least form.
pub mod EncodingLemmas
-- What the statements of instructions have, by their kinds.
pub mod StatementKindsLemmas
-- The instructions of a statement whose operands are known have them in range.
pub mod RangesLemmas
-- A statement that names a parcel: the form that it names is its code, whatever its bytes, and it has no fault.
pub mod NamedLemmas
-- What values are worth to an instruction.
pub mod WorthsLemmas
