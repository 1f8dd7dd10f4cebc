-- A number read digit by digit: what has been read, and what is left of it.
pub mod NumbersLemmas
-- The bytes of escapes: up to three octal digits, or one or two hexadecimal ones.
pub mod EscapesLemmas
-- What the searches of `memchr` find: the end of a line, and of a block comment.
pub mod ScansLemmas
-- The inside of a string: what its atoms are, up to the quote.
pub mod InsideLemmas
-- The bytes of a string that stand as they are, up to its next escape.
pub mod PlainBytesLemmas
-- The steps of the lexer: a blank or a comment, a token, and the last token.
pub mod StepsLemmas
-- The line feeds of a lexeme: a line's end is one, and of the others block comments alone have any.
pub mod FeedsLemmas
-- A run of blanks leaves the tokens as they are.
pub mod BlanksLemmas
-- A word refers to a numeric label exactly where a letter of a direction stands behind digits.
pub mod DirectionsLemmas
-- The name at the front of a cursor's tokens, token by token.
pub mod NamesJoinedLemmas
