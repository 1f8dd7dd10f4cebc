-- Where memory is free: beside the stack, and below the last page.
pub mod FreeLemmas
