-- Numbers of seven bits a byte, byte by byte.
pub mod NumberLemmas
-- The table of a program, instruction by instruction.
pub mod TableLemmas
-- What has a meaning by LineProgram alone has the same here.
pub mod WiderLemmas
-- Names end before their tables do.
pub mod TextLemmas
