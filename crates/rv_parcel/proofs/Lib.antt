-- The offset of c.j: what is gathered from its eleven bits scatters back to them, and the other way round.
pub mod JumpLemmas
-- An exact reader of parcels, as a function of the definitions: the only form that a parcel can spell.
pub mod ReaderLemmas
