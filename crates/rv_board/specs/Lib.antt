-- The code's device as that of the definitions.
pub mod Views
-- What an answer comes to beside a step with devices.
pub mod Answers
