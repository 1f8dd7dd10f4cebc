-- The sections of a source.
pub mod Sections
-- What a directive contributes to its section: nothing, data or an alignment.
pub mod Contributions
-- What `.option` sets, and what it keeps.
pub mod Options
-- Which files can mean a name.
pub mod Bindings
-- What the statements of a source define: sections with the bytes of their data, labels, assignments.
pub mod Tables
-- The faults of labels and directives, and of instructions outside code; the first of them.
pub mod Faults
