-- What an assembled statement is beside that of its source: its place, its size, its code and the fields in it.

-- The open fields of a part of code, where a call may be one instruction.
pub mod MarkedLemmas
-- The code of statements that neither branch nor jump, part by part: each instruction is closed.
pub mod QuietLemmas
-- The statements of a section follow one another and end where its bytes end, whatever the parts of each are.
pub mod OrderedLemmas
-- A statement of a section is an alignment in code with bytes, or one whose bytes stay.
pub mod PadsLemmas
-- What a statement counts among the sizes of its source, by the bytes that it has after the linker's moves: those.
pub mod CountedLemmas
-- The statements of the sources with the rows that linking their objects gives.
pub mod StatementsLemmas
-- The statements of a section: where their rows stand, and that those without a row have no bytes.
pub mod SettledLemmas
-- A padding in code is instructions without effect, of four bytes each and of two at its end.
pub mod NopsLemmas
-- What the row of a statement owes to it, in terms of the values of its expressions.
pub mod SuitsLemmas
-- The templates of a statement, and which fields they have: each field of code is of its part's kind.
pub mod FieldedLemmas
-- The code of a statement, part by part: its lines, and their bytes.
pub mod CodingLemmas
-- Which parts the code of a statement has, by its operand that is no register.
pub mod RowsLemmas
-- Whether the code of a statement has the upper part of a distance: where the statement takes one.
pub mod BeginningsLemmas
-- The code of a statement of the sources: the bytes that its laid statement writes.
pub mod CodeOfLemmas
-- A row that suits its statement fits it.
pub mod FittingLemmas
-- What operands stand for, and what the link makes of their fields.
pub mod OperandsLemmas
-- Statements of text stand at even offsets.
pub mod EvensLemmas
