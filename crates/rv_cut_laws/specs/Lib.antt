-- Alignments in the order of their places.
pub mod Alignments
-- Sections and objects with calls cut out of them, each by the moves of its calls.
pub mod Cutting
-- What the sites of a text cut out of its sections, one section after another.
pub mod Walk
