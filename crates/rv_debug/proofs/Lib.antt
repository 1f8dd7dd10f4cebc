-- Bytes that are added one after another.
pub mod ChainLemmas
-- The rows of one source among all.
pub mod CodeLemmas
-- The program headers from one on.
pub mod HeadersLemmas
-- Symbols and their names, one after another.
pub mod SymbolsLemmas
-- The units of sources, one after another.
pub mod UnitsLemmas
-- The parts of a file, one after another.
pub mod WritingLemmas
-- What each instruction that is written does.
pub mod InstructionLemmas
-- Numbers of seven bits a byte.
pub mod NumberLemmas
-- Rows after one another.
pub mod RowLemmas
-- Instructions after one another.
pub mod StepLemmas
-- The table of a unit that is written.
pub mod UnitTableLemmas
-- An object keeps what every object keeps, with a section more that nothing refers to.
pub mod NamedLemmas
-- Why there is no file by the text of a map.
pub mod TextLemmas
