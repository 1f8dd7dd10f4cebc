-- The names of a link by the symbol tables of its objects' files: the labels of the objects.
pub mod Tables
-- What the code's own objects stand for.
pub mod Views
