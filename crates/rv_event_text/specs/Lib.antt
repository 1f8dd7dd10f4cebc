-- The parts of a line, as the code adds them.
pub mod Parts
-- What a writer and what is kept have of the lines of events.
pub mod Written
