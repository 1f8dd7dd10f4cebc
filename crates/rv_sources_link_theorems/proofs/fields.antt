-- The fields that the linker fills take the values that the operands of the sources stand for.

-- Where a statement of a file stands in the line of text.
pub mod AimsLemmas
-- Where the places of objects and the aims of sources stand in the line of text.
pub mod TextPlacesLemmas
-- Where the symbols of objects stand in the line of text, and where their sources say that they stand.
pub mod TargetsLemmas
-- The relocations of statements of code lie within them.
pub mod RangesLemmas
-- The values of relocations of data, and what their fields hold of them: an address, or the difference of two.
pub mod NumbersLemmas
-- The relocations of a section, part by part: what each makes of its own bytes is all that there is to show.
pub mod PatchesLemmas
-- What the open fields of a file's code need of the whole file.
pub mod WholesLemmas
-- The fields of a file's sections: what their symbols mean, and what the link says of them.
pub mod FieldsLemmas
-- The upper parts of distances: which statements of a section have one, and its value.
pub mod UppersLemmas
-- The low parts of distances: the link's value is that of the upper part to which the source's belongs.
pub mod LowsLemmas
-- The open fields of a statement's code take what its operands stand for.
pub mod FilledCodeLemmas
