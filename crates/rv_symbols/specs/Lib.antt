-- What the symbols that relocations name are.
pub mod SymbolUse
-- The symbols of an object with the numbers that stand for them.
pub mod HasSymbols
-- Where `.set` gives names first.
pub mod Settings
-- What the names and the places of a source's statements stand for.
pub mod Source
-- The indices of symbols.
pub mod Numbers
-- Symbols and marks as they are found one by one.
pub mod Found
-- The indices of symbols by their names and by their places.
pub mod Indices
-- The indices of a source's symbols.
pub mod Indexed
