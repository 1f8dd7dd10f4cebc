-- What each instruction leaves alone: input and console, the number of registers.
pub mod EffectLawsLemmas
-- A run writes after what is on the console.
pub mod ConsoleLemmas
-- Two readings that answer exactly what is spelled are one, and so are their runs.
pub mod ReadingsLemmas
-- An exact reader of words: the instruction that a word's selectors name, kept where its fields sum back to the word.
pub mod ReaderLemmas
-- What follows from the definitions of Bytes, for all who cite them.
pub mod BytesLemmas
