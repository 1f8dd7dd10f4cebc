-- The source run on a platform.
pub mod PlatformRun
-- What memory owes to a map and its sources.
pub mod Realizes
-- When a source run and a run of the machine agree.
pub mod Agrees
-- The headline.
pub mod Headline
-- What a linked program holds: the bytes of its regions are those of the statements that stand there.
pub mod Contents
-- The listing of sources at a map: their statements of code in the order of the rows.
pub mod SourceListing
-- What the lines of a statement come to one after another, each by the meaning of its instruction.
pub mod Walks
-- That listings and sources name instructions alike.
pub mod Named
-- The objects of texts and of files: what the texts say, assembled, and what the files say, read.
pub mod Objects
-- What the listing of a build's executable is.
pub mod Listed
-- What a link makes of objects, and of the files that hold them.
pub mod Linking
-- What a build makes of the texts of sources.
pub mod Building
-- What running a file's bytes means, and why a file is not run.
pub mod Running
