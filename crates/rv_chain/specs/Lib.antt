-- That texts are built as the files of their objects are linked.
pub mod Agreement
-- Why files are not linked, by their bytes and the ground of the program: memory runs out, or a fault names its cause.
pub mod LinkRefusals
-- That sources, and files, are refused for want of memory or for one fault.
pub mod OneFault
-- What a build makes of a source that is a raw listing.
pub mod Reassembled
-- Why a build is refused, by the texts of its sources and the ground of the program: memory runs out.
pub mod Refusals
-- The values of the expressions of sources, at the map of their executable.
pub mod Valued
