-- The faults of the operand of a statement of code, as the code decides them.
pub mod Faults
-- The templates of a statement of code: the parts of its row in the one table, as the code holds them.
pub mod Templates
