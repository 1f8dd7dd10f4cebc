-- What the types of words and slots stand for.
pub mod View
