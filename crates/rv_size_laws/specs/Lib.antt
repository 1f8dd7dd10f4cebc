-- Where the parts of a text stand, how far one is from another, and which distances a jump reaches.
pub mod Offsets
-- A family of sizes that changes by single steps, in any order: chaotic iteration.
pub mod Steps
-- A table of where parts stand while a pass goes over them and changes them.
pub mod Tables
-- The sizes of branches: the least family in which each form below a statement's largest reaches.
pub mod Branches
-- The sizes of calls after relaxation: the greatest family in which no call has a shorter form that reaches.
pub mod Calls
-- Paddings after relaxation: calls keep the sizes of a family.
pub mod Paddings
-- The sites of a text: where each ends, an alignment in code as one, and what a family keeps of a call.
pub mod Sites
-- Alignment.
pub mod Alignment
