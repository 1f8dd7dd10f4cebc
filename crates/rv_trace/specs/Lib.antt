-- Which bytes of a step a line shows.
pub mod Shown
