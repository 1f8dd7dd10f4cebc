-- What a call says beside its bytes.
pub mod Answer
-- How bytes, or why there are none, are given to the caller.
pub mod Given
-- What is wanted of a build or a link, as bits of a number.
pub mod Options
-- Texts that come one after the other, with the length of each.
pub mod Texts
-- What is made of sources and of objects, or why nothing is.
pub mod Made
-- Runs of executables, and the states that they reach.
pub mod Ran
-- The ends of runs in numbers.
pub mod Ends
-- How what a run came to, and the state that it reached, are given to the caller.
pub mod GivenRuns
-- Runs that go on from a kept state, and how what they reach is given to the caller.
pub mod Resumed
-- Texts of which it is proved how they are given to the caller, and not what they say.
pub mod Texted
-- What a check of sources finds, and how it is given to the caller.
pub mod Checked
-- The instruction at the front of bytes, as a listing shows it.
pub mod Shown
