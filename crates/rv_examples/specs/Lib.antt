-- A worked program: it exits with 7.
pub mod Exit7
-- The executable of the worked program, byte by byte.
pub mod Exit7Executable
-- Worked programs with data.
pub mod Data
-- Worked sources that are refused.
pub mod Refused
-- A worked source with an alignment in its second section of code: ecall .section .text.b, "ax" .align 4 ecall.
pub mod CodeAlignment
-- What the regions hold of one worked source at its map.
pub mod Regions
-- Worked code: instructions whose operands are known, as they lie in memory.
pub mod KnownCode
-- Worked code: instructions with an operand that is a symbol.
pub mod OpenCode
-- Worked sources whose sizes of branches are the least that reach: `x:`, and a branch to `x` and so many bytes more.
pub mod BranchSizes
-- A worked program for the board virt.
pub mod Echo
-- Worked parcels: statements that name one, their bytes, and a program with one where compressed code is off.
pub mod Parcels
