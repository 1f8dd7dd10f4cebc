-- From what a parcel or a word stands for to what stands at the front of bytes.
pub mod AtFrontLemmas
