-- What an answer of a reading at the front of tokens says of its steps.
pub mod StepsLemmas
-- Where a reading at the front of tokens is wrong: at the first token with which nothing can go on.
pub mod FailingLemmas
-- A token that is taken somewhere is not the last of its source.
pub mod LastTokensLemmas
-- What one token is in its place.
pub mod SinglesLemmas
-- Expressions in their places.
pub mod ValuesLemmas
-- Values in their places: an expression, or a function of one.
pub mod ArgumentsLemmas
-- Addresses: a register in parentheses, with or without an expression before it.
pub mod AddressesLemmas
-- What a call calls: a target, or a symbol and `@plt`.
pub mod CalleesLemmas
-- The names of sections, which several tokens may make.
pub mod SectionsLemmas
-- What stands in a place, and what stands in places one after another: the readings answer what the syntax spells.
pub mod OperandsLemmas
-- Items of one kind with commas between, and tokens that are not looked at.
pub mod ItemsLemmas
-- An address and then the end, or a target and then the rest.
pub mod LocatedLemmas
-- Operands in the places of a statement.
pub mod InPlacesLemmas
-- The reading of a part answers exactly what the syntax spells.
pub mod PartsLemmas
-- Openings of sections whose flags or type are wrong: where they stand, what stands before them.
pub mod OpeningsLemmas
-- A section is opened well by a statement exactly where no token of it is wrong as an opening.
pub mod GoodOpeningsLemmas
-- Parts open sections well, by their tokens, exactly where the statements that they say do.
pub mod OpenedWellLemmas
-- The tokens of a source have at most one cut into parts, so bytes have at most one reading.
pub mod WholeLemmas
-- One part more at the end of those that were read.
pub mod ProgressLemmas
-- Two cuts of the same tokens: one goes on where the other stops.
pub mod CuttingLemmas
-- The tokens of a source stand one behind the other, and each has the line of its faults.
pub mod PlacesLemmas
-- A reading is wrong at the token, and with the code, that specs/Wrong says: values and addresses.
pub mod WrongsLemmas
-- The name of a section is wrong at the token, and with the code, that specs/Wrong says.
pub mod WrongSectionsLemmas
-- A statement is wrong at the token, and with the code, that specs/Wrong says.
pub mod WrongStatementsLemmas
-- What is wrong stands among the tokens, and where is told by the fault.
pub mod WrongPlacesLemmas
-- The first fault of a source: there is at most one, and a source that is read has none.
pub mod FirstFaultLemmas
-- Lines of sources, as they are read, and with the fault that they have: each by computing.
pub mod WorkedLemmas
-- Each base instruction has one word, which its name of rv_isa is: row by row, by computing.
pub mod NamesLemmas
