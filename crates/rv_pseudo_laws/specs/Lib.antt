-- `li`: the instructions that put a number into a register: twelve bits by `addi`, thirty-two by `lui` and `addiw`.
pub mod Li
-- What instructions do one after another.
pub mod Runs
-- The base instructions that stand for each statement of code, a row each.
pub mod Code
-- The code of a statement with its open fields filled: its bytes, and its instructions.
pub mod Filled
-- Which operands and constants the instructions of a statement can have.
pub mod Valid
-- The faults of one instruction, by its operands and what their expressions are worth.
pub mod InstructionFaults
