-- A stable sort by a key gives the one list in order, that of insertion from the last to the first.
pub mod StableLemmas
-- A word spells an `auipc` or a `jalr` exactly where its opcode and its funct3 are theirs.
pub mod SpelledLemmas
-- The changes of a section in order are those among its relocations sorted by place.
pub mod SortedLemmas
-- What meets the bytes of a call, by what stands before and behind it in the order of places.
pub mod AloneLemmas
-- The passes along the line give its sites, its length and where its sections stand.
pub mod AlongLemmas
-- The loops over relocations: those that are left of a list, and what is found among them.
pub mod LoopsLemmas
-- The offsets that symbols name, by section.
pub mod InsideLemmas
-- One section, and one file, more of a pass along the line.
pub mod StepsLemmas
-- What one relocation changes.
pub mod ChangedLemmas
-- Where targets stand, and the sites of the whole.
pub mod TargetsLemmas
-- One section, and one object, more of the sites, by what stands at an index.
pub mod WalksLemmas
-- What a call adds to what its target moves with.
pub mod ConstantLemmas
-- The text of objects of the code, and its sites.
pub mod CodeObjectsLemmas
