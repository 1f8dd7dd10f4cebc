-- The lower half has the low bits of the number.
mod HalvesLemmas
-- Each format's immediate is held where it is set, and the rest of the field with it.
mod ImmediatesLemmas
-- Sums and differences modulo 2 ^ 64, of unsigned numbers taken as signed.
mod WrappingLemmas
