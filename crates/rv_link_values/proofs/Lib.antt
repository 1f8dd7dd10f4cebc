-- What the index has after one relocation more, and after the relocations of one section more.
mod AddingLemmas
-- The elements of a list so far, by their indices.
mod TakenLemmas
-- What the index has after one section more of an object, and after one object more.
mod StepsLemmas
-- Where sections stand, and what their offsets become.
mod PlacesLemmas
-- The calculation takes an address modulo 2 ^ 64.
mod CalculatedLemmas
-- What the symbol of a relocation makes of its value.
mod SymbolsLemmas
-- The value of the high part at a place.
mod PairsLemmas
-- What the value of a relocation is, by whether it is the low part of a distance.
mod ValuedLemmas
