-- Numbers as people write them.
pub mod Numbers
