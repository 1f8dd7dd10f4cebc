-- Pieces in order: which begin before an offset, and what of them is dropped there.
pub mod PiecedLemmas
-- Cuts in the order of their places: they are pieces, and what they drop is what their moves do.
pub mod OrderLemmas
-- The instructions that cuts in order lose: one each.
pub mod LossesLemmas
-- The cut at a place, found where the places before it end.
pub mod CutKindsLemmas
-- The bytes that are left of a section, run by run.
pub mod RunningLemmas
-- The sites of a section, one after another.
pub mod StepsLemmas
-- The fields of objects of the code fit, and their paddings lie apart.
pub mod CodeObjectsLemmas
-- What the walk along the sites cuts of sections is what the sizes of calls say.
pub mod CutsLemmas
