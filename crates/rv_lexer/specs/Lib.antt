-- The word of a reference to a numeric label: its digits, and which label it means.
pub mod Reference
-- What the lexer's tokens stand for.
pub mod Token
-- A lexer is the list of the tokens that it has left.
pub mod Left
-- What the lexemes of the code stand for.
pub mod Lexeme
-- The tokens that a cursor has left, and what its readings answer.
pub mod Cursor
