-- What has no fault and a row has a number in the range of its field, and is one of the operands that the field takes.
pub mod InRangeLemmas
-- The lowest code of a list.
pub mod LowestLemmas
-- An operation with a constant that is one instruction.
pub mod OneRowLemmas
-- The rows of statements that name a parcel, by what stands beside its registers.
pub mod ParcelRowsLemmas
-- The rows of statements with a number: where there is no fault there is one, and what it puts into its field.
pub mod RowsLemmas
-- The faults of an operation with an operand are those of its statement.
pub mod TableLemmas
