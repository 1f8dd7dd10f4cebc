-- The multiple at which a section begins, whatever the order of its relocations.
pub mod AlignmentsLemmas
-- An object of the code keeps what every object keeps, by its ghost fields.
pub mod WholeLemmas
