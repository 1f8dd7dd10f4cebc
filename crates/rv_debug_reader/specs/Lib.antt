-- The state machine of line tables as a reader runs it: that of LineProgram.
pub mod Machine
-- The table of a whole line number program, and the rows of code in it.
pub mod Table
-- What the code's own values stand for.
pub mod Views
