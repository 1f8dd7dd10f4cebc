-- What the paddings of a section of text do to offsets: they stay in order, and even.
pub mod MovingLemmas
-- What the calls of a text drop, section by section: as much as is cut out of it.
pub mod LinesLemmas
-- Where the places of a text stand once it is placed: as far apart as the sizes of its calls have them.
pub mod SpansLemmas
-- The place that a call's symbol names has, once the text is placed, the address that the symbol stands for.
pub mod TargetsLemmas
-- Each call that relaxation shortens reaches where its text is placed.
pub mod ShorterLemmas
-- The field of each call that relaxation shortens takes its value where the text is placed.
pub mod ReachedLemmas
-- Which statements have a branch or a jump in a form below the largest, and in which.
pub mod BranchingLemmas
-- The fields of branches and jumps in an object of a source: each is that of its statement alone.
pub mod FieldingLemmas
-- A branch or jump of a source in a form below its largest leads to a statement of its section that this form reaches.
pub mod NearsLemmas
-- What leads to a place of its own section, and reaches it, still does where calls are cut and paddings taken out.
pub mod NearbyLemmas
-- That the field of a statement which names a parcel is known as such by the statement's row.
pub mod ParcelsLemmas
-- Where text is placed, the fields of branches and jumps whose form is below its largest take their values.
pub mod BranchedLemmas
