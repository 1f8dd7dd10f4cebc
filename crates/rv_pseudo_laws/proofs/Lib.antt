-- Whole numbers with sign modulo 2 ^ 64, their sums and multiples; numbers of 32 bits.
pub mod ModuloLemmas
-- The zero bits that a number ends with: it is a multiple of that power of two.
pub mod ZerosLemmas
-- What the sequences of `li` do to a hart.
pub mod SequencesLemmas
-- The format of each instruction that an operation writes is that of the operation.
pub mod FormatsLemmas
-- The form that a mnemonic is has operands that a form may have, and is no HINT.
pub mod ParcelsLemmas
-- An instruction of which a relocation fills the field keeps its operands in their ranges.
pub mod FillingLemmas
-- Each part of a statement's code has its operands in their ranges, and open fields of its relocation's kind.
pub mod PartsLemmas
-- What follows from the definitions of Filled, for all who cite them.
pub mod FilledLemmas
