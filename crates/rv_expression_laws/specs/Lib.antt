-- The codes of a source's faults: the numbers after the `E`.
pub mod Codes
-- A list cut into pieces: each piece is spelled by its text, and no next element would make it longer.
pub mod Cut
-- The bytes of a source: their classes, digits and numerals.
pub mod Bytes
-- The bytes of strings and characters, each as it stands or by an escape.
pub mod Strings
-- The lexemes of a source: blanks and comments, and the tokens.
pub mod Grammar
-- The tokens of a source, with their offsets: its lexemes but for blanks and comments.
pub mod Lexing
-- Where tokens stand: each span is its token's text, spans are in order and disjoint.
pub mod Spans
-- A token that is wrong where it stands, and what a reading at the front of tokens answers.
pub mod SyntaxError
-- The lexeme at the front of bytes, by looking at them in order.
pub mod Front
-- Expressions: their trees, how tokens spell them, and their postfix form.
pub mod Expression
-- The first token with which no expression goes on, and its code.
pub mod ExpressionFault
-- The expression at the front of tokens, going over them once: where an expression stands there.
pub mod ExpressionAt
-- The value of an expression: 64-bit two's complement that wraps, with names that may stay open.
pub mod Values
-- Names in which `-` may stand after the first byte, as those of sections: a name.
pub mod Joined
