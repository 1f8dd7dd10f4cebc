-- What is put as a packet is read as one.
pub mod ReadingLemmas
