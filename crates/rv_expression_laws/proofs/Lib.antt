-- The laws of cutting: by a finder that answers exactly what stands at the front, each list is cut in one way.
pub mod CutLemmas
-- The longest run of bytes that pass a test, with and without a bound.
pub mod RunsLemmas
-- The finder of a string's atoms answers exactly what is spelled.
pub mod AtomsLemmas
-- Words that begin with a digit: what each writes is found exactly, and none is both a number and a reference.
pub mod NumbersLemmas
-- What a byte's class says of the byte.
pub mod ClassesLemmas
-- Where a block comment ends: the first `*/` is found exactly.
pub mod CommentsLemmas
-- The finder of lexemes answers exactly what is spelled.
pub mod LexemesLemmas
-- The tokens of a source: one list, the function's, and its steps.
pub mod TokensLemmas
-- What spells an expression is read as it.
pub mod ExpressionsLemmas
-- What is read is an expression: the tokens passed so far, as trees that wait for an operand.
pub mod ExpressionFoundLemmas
-- The nodes of an expression, one after the other, give its value, and few values wait at a time.
pub mod ExpressionValuesLemmas
-- The expression that nodes stand for.
pub mod TreesLemmas
-- The first token with which no expression goes on.
pub mod ExpressionWrongLemmas
-- A reading is stuck at a token with a code exactly where the grammar says that it is wrong so.
pub mod ExpressionFaultsLemmas
-- The bytes of a token.
pub mod TokenTextsLemmas
-- The spans of a source's tokens, by its lexemes.
pub mod SpansLemmas
-- Names with minus signs: the function answers what stands there, and the name is a part of the bytes.
pub mod JoinsLemmas
