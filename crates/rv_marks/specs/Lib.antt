-- What the reader has read, and what is left.
pub mod Reading
