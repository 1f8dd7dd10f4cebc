-- The words that may begin a statement.
pub mod Words
-- The words of base instructions: the names that rv_isa gives to them, as listings show them.
pub mod Names
-- The syntax of statements, over the kinds of tokens.
pub mod Syntax
-- The codes of the faults of phase one, by what stands before a token and at it.
pub mod Faults
-- Operands that are spelled right and are refused for what they say: a fault of content, at the operand's first token.
pub mod Content
-- The openings of sections: the flags and the type that `.section` gives a name count where the name is new.
pub mod Opening
-- Openings of sections whose flags or type are wrong: the fault of the token that shows it.
pub mod WrongOpening
-- Parts of statements at the front of a list of tokens, as functions: what stands there and the tokens after it.
pub mod Parsing
-- The reading of a source.
pub mod Reading
-- The token that is wrong at the front of tokens, and its code, by the slots that a statement awaits.
pub mod Wrong
-- The first fault of a source.
pub mod Refusals
