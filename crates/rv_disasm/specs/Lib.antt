-- A dump: the bytes of a file in hexadecimal, sixteen a line.
pub mod Dump
-- Whether a map is one of an image: its regions are the image's segments, its entry is the image's entry.
pub mod Fitting
-- A line that is kept.
pub mod KeptLine
-- What is left of a listing whose text is made row by row.
pub mod ListingLeft
-- What the parts of a raw listing promise: the instruction at the front of bytes, the lines of bytes.
pub mod RawParts
