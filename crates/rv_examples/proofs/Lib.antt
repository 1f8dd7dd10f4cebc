-- The listing of the worked program, by its statements.
pub mod Exit7ListingLemmas
-- The worked program: what it is linked to, and its run by the machine.
pub mod Exit7ProgramLemmas
-- The map of the worked source with constants, places and data of each kind fits it.
pub mod FiguresProgramLemmas
-- Worked code: why each instruction has its bytes.
pub mod KnownCodesLemmas
-- Worked code with open operands: why each instruction has its bytes.
pub mod OpenCodesLemmas
-- Worked sizes of branches: why each is the least that reaches.
pub mod LeastSizesLemmas
-- Collection drops nothing of the worked program.
pub mod Exit7CollectedLemmas
-- The worked program for the board virt: its run on it.
pub mod EchoLemmas
